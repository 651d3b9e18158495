use Rattle.std.proofs.Common.{rules, ◌≡◌, ℕ, ◌<◌, true, sym, ap, ◌∙◌, subst}
use Rattle.cell_model.specs.Cells.{Cell as StoredCell}
use Rattle.cell_page.specs.Format.{page_of_id}
use Rattle.core_store.specs.Frames.{is_held}
use Rattle.core_store.proofs.SlotStart.{pays-rules, pays-edit}
use Rattle.core_store.proofs.slots.pay.Goals as goal

pub put_cell-requires : goal.put_cell-requires
put_cell-requires g c =
    let id = c.cell-cell.ensures.id in
    let r = c.requires in
    let rules_kept = pays-rules c.args.id c.args.value c.cell-cell.result.now c.cell-cell.ensures.rules (ap (λ (s : StoredCell). s.live) (c.cell-cell.ensures.stored r.cells r.agree) ∙ r.live) in (
      search rules,
      (
        search rules,
        (
          (subst (λ (n : ℕ). 0 < n) (sym id) r.above, subst (λ (n : ℕ). n < 65536) (sym id) r.small),
          (subst (λ (n : ℕ). is_held c.args.held.now (page_of_id n) ≡ true) (sym id) r.page, ((r.cells, r.agree), rules_kept)),
        ),
      ),
    )

pub returns-clause-stored : goal.returns-clause-stored
returns-clause-stored g c cells agree live =
    pays-edit c.args.id c.args.value c.cell-cell.result.now c.cell-cell.ensures.id cells (c.cell-cell.ensures.stored cells agree) c.put_cell.new.self (c.put_cell.ensures.stored cells agree)
