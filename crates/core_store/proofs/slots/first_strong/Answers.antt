use Rattle.std.proofs.Common.{rules, ℕ, ◌≤◌, ◌<◌, Some, sym, ap, ◌∙◌, subst, arith, ⊎_elim}
use Rattle.cell_model.specs.Cells.{cell_at}
use Rattle.core_store.specs.Logged.{object_and_targets}
use Rattle.core_store.specs.Slots.{HoldsPagesOf}
use Rattle.core_store.specs.Work.{IsWork}
use Rattle.core_store.proofs.slots.first_strong.Goals as goal

pub is_strong_in-requires : goal.is_strong_in-requires
is_strong_in-requires g c =
    let r = c.requires.pages in
    let small : g.row.SLOTS ≤ 14 = ⊎_elim (λ six. omega arith) (λ fourteen. omega arith) c.requires.size in
    let within : c.loop-place.place < g.row.SLOTS = search rules in
    let id = c.cell-cell.ensures.id in
    let change : IsWork g.row.SLOTS (record { id = c.args.id; change = Some (c.loop-place.place, 0) }) = record { above = c.requires.work.above; small = c.requires.work.small; change = (within, omega arith) } in
    let work = subst (λ (n : ℕ). IsWork g.row.SLOTS (record { id = n; change = Some (c.loop-place.place, 0) })) (sym id) change in
    let pages = subst (λ (n : ℕ). HoldsPagesOf c.args.held.now (object_and_targets r.0 n c.loop-place.place 0)) (sym id) (r.3 c.loop-place.place within) in
    (search rules, (search rules, (c.requires.size, (work, ((r.0, r.1, r.2, pages), λ cells agree. c.cell-cell.ensures.stored cells agree ∙ ap (cell_at cells) (sym id))))))
