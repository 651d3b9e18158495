use Rattle.std.proofs.Common.{◌≡◌, ℕ, ◌+◌, ◌<◌, sym, subst, ◌∙◌, rules, arith}
use Rattle.std.proofs.lemmas.List.{length-set}
use Rattle.cell_page.specs.Format.{IsTyped, IsCell, place_of, first_id}
use Rattle.cell_page.proofs.Pages.{AreTyped-set, IsPage-set}
use Rattle.cell_page.proofs.page.Page.put_cell.Goals as goal

pub invariant_of-self : goal.invariant_of-self
invariant_of-self g c =
    -- what is known of the slots that were passed, which lies deeper than `search` looks
    let slots_fit = c.well_formed.1.0.1.1.1.1.1.1.1.1.1.1.0 in
    let typed : IsTyped c.args.cell = search rules in
    let place = place_of c.args.cell.id in
    (length-set c.self.inside.cells place c.args.cell ∙ c.self.invariant.0, AreTyped-set c.self.inside.cells place c.args.cell c.self.invariant.1 typed)

pub returns-clause-rules : goal.returns-clause-rules
returns-clause-rules g c = λ page obeys cell.
    let place = place_of c.args.cell.id in
    let within : place < 8 = omega arith in
    let id : c.args.cell.id ≡ first_id page + place = sym (c.requires.there c.args.cell) ∙ (obeys.each place c.args.cell within).placed in
    let here : IsCell (first_id page + place) c.args.cell = subst (λ (n : ℕ). IsCell n c.args.cell) id cell in
    rw c.self.view_is (IsPage-set page c.args.self.now place c.args.cell obeys here)
