use Rattle.std.proofs.Common.{rules, ◌≡◌, true, false, sym, ap, ◌∙◌}
use Rattle.std.specs.Prelude.{◌&&◌}
use Rattle.std.proofs.lemmas.List.{get_or_default}
use Rattle.cell_model.specs.Cells.{cell_at}
use Rattle.core_store.specs.declared.round_at.RoundAt.TheVariants as at
use Rattle.green_walk.specs.Greening.{waits}
use Rattle.core_store.specs.Changes.{has_no_strong}
use Rattle.core_store.specs.SlotLooks.{is_white_in}
use Rattle.core_store.specs.Views.{view_of}
use Rattle.core_store.proofs.CollectedLaws.{mark-of_live}
use Rattle.core_store.proofs.NullLaws.{null-white, white-in}
use Rattle.core_store.proofs.SeenLaws.{green-of, marked, waiting-live}
use Rattle.core_store.proofs.tables.Tables.is_to_test.Goals as goal
use Rattle.core_store.proofs.tables.Tables.is_to_test.Goals.{then-id-ne0, else-id-ne0}

pub index-requires : goal.index-requires
index-requires g c =
    let h = c.requires.standing.1 in
    let o = c.requires.out in
    let x = green-of c.args.self.now.round.view (at.Out o.0 o.1) tt o.2 in
    elim c.if-id-ne0.branch [
      | then-id-ne0 w ↦
          let waiting : waits x.of c.args.id ≡ true = sym (w.waits.ensures x.walk x.swept x.slot x.of x.is) ∙ (let e = w.value-is in let f = c.if-waits.true in cc) in
          let l = marked h c.args.id (waiting-live h x c.args.id waiting) in
          search (rules, l)
      | else-id-ne0 w ↦ absurd (let clash : false ≡ true = (let e = w.value-is in let f = c.if-waits.true in cc) in cc (clash))
    ]

pub returns-then-waits : goal.returns-then-waits
returns-then-waits g c core h =
    let o = c.requires.out in
    let id = c.args.id in
    let x = green-of c.args.self.now.round.view (at.Out o.0 o.1) tt o.2 in
    let mark = has_no_strong (cell_at core.cells id) in
    elim c.if-id-ne0.branch [
      | then-id-ne0 w ↦
          let waiting : waits x.of id ≡ true = sym (w.waits.ensures x.walk x.swept x.slot x.of x.is) ∙ (let e = w.value-is in let f = c.if-waits.true in cc) in
          let live = waiting-live h x id waiting in
          let zero : mark ≡ c.index.result.now = sym (mark-of_live g.row.SLOTS (view_of c.args.self.now) core h id live) ∙ (get_or_default c.args.self.now.zeros.items id false c.index.result.now (marked h id live) ∙ sym c.index.ensures) in
          sym (sym (white-in core.cells x id) ∙ (ap (λ b. b && mark) waiting ∙ zero))
      | else-id-ne0 w ↦ absurd (let clash : false ≡ true = (let e = w.value-is in let f = c.if-waits.true in cc) in cc (clash))
    ]

pub returns-else-waits : goal.returns-else-waits
returns-else-waits g c core h =
    let o = c.requires.out in
    let id = c.args.id in
    let x = green-of c.args.self.now.round.view (at.Out o.0 o.1) tt o.2 in
    let mark = has_no_strong (cell_at core.cells id) in
    elim c.if-id-ne0.branch [
      | then-id-ne0 w ↦
          let waiting : waits x.of id ≡ false = sym (w.waits.ensures x.walk x.swept x.slot x.of x.is) ∙ (let e = w.value-is in let f = c.if-waits.false in cc) in
          c.if-waits.false ∙ sym (sym (white-in core.cells x id) ∙ ap (λ b. b && mark) waiting)
      | else-id-ne0 w ↦ c.if-waits.false ∙ sym (ap (is_white_in core.cells c.args.self.now.round.view) w.if-id-ne0.false ∙ null-white h x)
    ]
