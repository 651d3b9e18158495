use Rattle.std.proofs.Common.{◌≡◌, ℕ, ◌/◌, ◌^◌, List, [], get_or, set, ap, ◌∙◌}
use Rattle.cell_model.specs.Cells.{relink}
use Rattle.cell_page.specs.declared.cell.Cell.{Cell}
use Rattle.cell_page.specs.Format.{place_of}
use Rattle.cell_page.specs.Stored.{without_pointers}
use Rattle.cell_page.proofs.PageEdits.{edited, edited-others, edited-rules}
use Rattle.cell_page.proofs.page.Page.set_pointer.Goals as goal

-- what stays of a cell after a new pointer
stays : {slots : ℕ} (old new : Cell slots) (targets : List ℕ) → new ≡ record old { bits = new.bits; slots = targets } → new.bits / 2 ^ slots ≡ old.bits / 2 ^ slots
    → without_pointers new ≡ without_pointers old
stays {slots} old new targets others rest =
    ap (λ (c : Cell slots). without_pointers c) others
    ∙ ap (λ (n : ℕ). let cell : Cell slots = record old { bits = n; slots = [] } in cell) rest

pub returns-clause-model : goal.returns-clause-model
returns-clause-model g c =
    edited c.self.inside.cells c.args.self.now c.args.id c.index-self-id.result c.set_pointer.new.self c.self.view_is c.self.invariant.0 (relink c.args.slot (record { target = c.args.target; bit = c.args.bit })) c.set_pointer.ensures.model

pub returns-clause-others : goal.returns-clause-others
returns-clause-others g c =
    let old = get_or c.self.inside.cells (place_of c.args.id) c.index-self-id.result in
    edited-others c.self.inside.cells c.args.self.now c.args.id c.index-self-id.result c.set_pointer.new.self c.self.view_is c.self.invariant.0 (λ s. without_pointers s)
    (stays old c.set_pointer.new.self (set old.slots c.args.slot c.args.target) c.set_pointer.ensures.others c.set_pointer.ensures.rest)

pub returns-clause-rules : goal.returns-clause-rules
returns-clause-rules g c = λ page obeys live null.
    edited-rules c.self.inside.cells c.args.self.now c.args.id c.index-self-id.result c.set_pointer.new.self c.self.view_is c.self.invariant.0 (λ n rules alive. c.set_pointer.ensures.rules n rules alive null) page obeys live
