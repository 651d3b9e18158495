use Rattle.std.proofs.Common.{rules, ℕ, ◌≤◌, Some, sym, ap, ◌∙◌, subst, arith, ⊎_elim}
use Rattle.cell_model.specs.Cells.{cell_at, pointer_at}
use Rattle.core_store.specs.Changes.{is_counted_strong}
use Rattle.core_store.specs.Logged.{object_and_targets}
use Rattle.core_store.specs.Slots.{HoldsPagesOf}
use Rattle.core_store.specs.Work.{IsWork}
use Rattle.core_store.proofs.slots.is_strong.Goals as goal

pub is_strong_in-requires : goal.is_strong_in-requires
is_strong_in-requires g c =
    let r = c.requires.pages in
    let small : g.row.SLOTS ≤ 14 = ⊎_elim (λ six. omega arith) (λ fourteen. omega arith) c.requires.size in
    let id = c.cell.ensures.id in
    let work = subst (λ (n : ℕ). IsWork g.row.SLOTS (record { id = n; change = Some (c.args.slot, 0) })) (sym id) c.requires.work in
    let pages = subst (λ (n : ℕ). HoldsPagesOf c.args.held.now (object_and_targets r.0 n c.args.slot 0)) (sym id) r.3 in
    (search rules, (search rules, (c.requires.size, (work, ((r.0, r.1, r.2, pages), λ cells agree. c.cell.ensures.stored cells agree ∙ ap (cell_at cells) (sym id))))))

pub returns : goal.returns
returns g c cells agree = c.is_strong_in.ensures cells agree ∙ ap (λ (n : ℕ). is_counted_strong cells (pointer_at cells n c.args.slot)) c.cell.ensures.id
