use Rattle.std.proofs.Common.{rules, ℕ, ◌<◌, ◌≤◌, sym, ap, ◌∙◌, subst, arith, ⊎_elim}
use Rattle.cell_model.specs.Cells.{Cell as StoredCell, self_pointers, flipped}
use Rattle.cell_page.specs.Format.{IsCell}
use Rattle.cell_page.specs.Stored.{cell_of}
use Rattle.core_store.proofs.SlotStrengths.{flip-place, flip-own}
use Rattle.core_store.proofs.SlotEdits.{changed-put}
use Rattle.core_store.proofs.slots.flip.Goals as goal

pub flip_cell-requires : goal.flip_cell-requires
flip_cell-requires g c =
    let r = c.requires.ready in
    let id = sym c.cell.ensures.id in
    let small : g.row.SLOTS ≤ 14 = ⊎_elim (λ six. omega arith) (λ fourteen. omega arith) c.requires.size in
    let is = c.cell.ensures.stored r.cells r.agree in
    let live = ap (λ (s : StoredCell). s.live) is ∙ r.can.live in
    let place = flip-place c.args.held.now c.args.zeros.now.items c.args.id r in
    let own = subst (λ (s : StoredCell). self_pointers c.args.id s ≤ s.weak) (sym is) (flip-own c.args.held.now c.args.zeros.now.items c.args.id r) in (
      search rules,
      (
        c.requires.size,
        (
          live,
          (
            subst (λ (n : ℕ). 0 < n) id place.above,
            (subst (λ (n : ℕ). IsCell n c.cell.result.now) id c.cell.ensures.rules, subst (λ (n : ℕ). self_pointers n (cell_of c.cell.result.now) ≤ c.cell.result.now.weak) id own),
          ),
        ),
      ),
    )

pub returns-clause-flips : goal.returns-clause-flips
returns-clause-flips g c ids all agree can =
    let id = c.cell.ensures.id in
    let is = c.flip_cell.ensures.model ∙ ap (λ (n : ℕ). flipped n (cell_of c.cell.result.now)) id ∙ ap (flipped c.args.id) (c.cell.ensures.stored all agree) in
    changed-put all c.args.held.now c.put_back.new.held c.args.zeros.now.items c.put_back.new.zeros.items c.args.id (flipped c.args.id) c.flip_cell.new.cell.id (cell_of c.flip_cell.new.cell) (c.flip_cell.ensures.id ∙ id) is
    (c.put_back.ensures.changed all agree)
