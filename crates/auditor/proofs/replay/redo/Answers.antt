use Rattle.std.proofs.Common.{List, map, true, false, sym, ap, subst, ◌∙◌, arith}
use Rattle.std.proofs.lemmas.List.{length-map}
use Rattle.cell_model.specs.Cells.{Cell, null, blank_cell, edit}
use Rattle.cell_page.specs.Stored.{cell_of}
use Rattle.log_record.specs.declared.cell_record.CellRecord.{CellRecord}
use Rattle.auditor.specs.Replay.{uncounted, Replays}
use Rattle.auditor.proofs.EditSame.{blank-same, relinked-same, switched-same, pays-same, flip-same}
use Rattle.auditor.proofs.ReplayLaws.{undo-replays}
use Rattle.auditor.proofs.replay.redo.Goals as goal

pub returns-in-Make-clause-exact : goal.returns-in-Make-clause-exact
returns-in-Make-clause-exact g c =
    let before = map cell_of c.args.cells.now in
    subst (λ (r : CellRecord). Replays g.row.SLOTS before r (map cell_of c.put.new.cells)) (sym c.in-Make.is)
    (λ stored e fits. ap (λ (cs : List Cell). map uncounted cs) (c.put.ensures.exact ∙ ap (λ (d : Cell). edit before c.in-Make.id (λ _. d)) c.new_object.ensures.model) ∙ blank-same before stored c.in-Make.id (blank_cell true g.row.SLOTS) e)

pub returns-in-Store-clause-exact : goal.returns-in-Store-clause-exact
returns-in-Store-clause-exact g c =
    let before = map cell_of c.args.cells.now in
    subst (λ (r : CellRecord). Replays g.row.SLOTS before r (map cell_of c.redo_slot.new.cells)) (sym c.in-Store.is)
    (λ stored e fits. ap (λ (cs : List Cell). map uncounted cs) c.redo_slot.ensures.exact ∙ relinked-same before stored c.in-Store.id c.in-Store.slot (record { target = c.in-Store.new_target; bit = c.in-Store.new_bit }) e)

pub returns-in-Pay-clause-exact : goal.returns-in-Pay-clause-exact
returns-in-Pay-clause-exact g c =
    let before = map cell_of c.args.cells.now in
    subst (λ (r : CellRecord). Replays g.row.SLOTS before r (map cell_of c.redo_pay.new.cells)) (sym c.in-Pay.is)
    (λ stored e fits. ap (λ (cs : List Cell). map uncounted cs) c.redo_pay.ensures.exact ∙ pays-same before stored c.in-Pay.id c.in-Pay.new_value e)

pub returns-in-Undo-clause-exact : goal.returns-in-Undo-clause-exact
returns-in-Undo-clause-exact g c =
    let before = map cell_of c.args.cells.now in
    subst (λ (r : CellRecord). Replays g.row.SLOTS before r (map cell_of c.redo_undo.new.cells)) (sym c.in-Undo.is)
    (undo-replays g.row.SLOTS before (map cell_of c.redo_undo.new.cells) c.in-Undo.pass c.in-Undo.id c.in-Undo.place c.in-Undo.«from» c.in-Undo.from_strong c.in-Undo.to c.in-Undo.to_bit (let n = length-map c.args.cells.now cell_of in let few = c.requires.few in omega (arith, n, few)) c.redo_undo.ensures.payload c.redo_undo.ensures.slot)

pub returns-in-Weaken-clause-exact : goal.returns-in-Weaken-clause-exact
returns-in-Weaken-clause-exact g c =
    let before = map cell_of c.args.cells.now in
    subst (λ (r : CellRecord). Replays g.row.SLOTS before r (map cell_of c.redo_switch.new.cells)) (sym c.in-Weaken.is)
    (λ stored e fits. ap (λ (cs : List Cell). map uncounted cs) c.redo_switch.ensures.exact ∙ switched-same before stored c.in-Weaken.id c.in-Weaken.slot e)

pub returns-in-Strengthen-clause-exact : goal.returns-in-Strengthen-clause-exact
returns-in-Strengthen-clause-exact g c =
    let before = map cell_of c.args.cells.now in
    subst (λ (r : CellRecord). Replays g.row.SLOTS before r (map cell_of c.redo_switch-in-Strengthen.new.cells)) (sym c.in-Strengthen.is)
    (λ stored e fits. ap (λ (cs : List Cell). map uncounted cs) c.redo_switch-in-Strengthen.ensures.exact ∙ switched-same before stored c.in-Strengthen.id c.in-Strengthen.slot e)

pub returns-in-Flip-clause-exact : goal.returns-in-Flip-clause-exact
returns-in-Flip-clause-exact g c =
    let before = map cell_of c.args.cells.now in
    subst (λ (r : CellRecord). Replays g.row.SLOTS before r (map cell_of c.redo_flip.new.cells)) (sym c.in-Flip.is)
    (λ stored e fits. ap (λ (cs : List Cell). map uncounted cs) c.redo_flip.ensures.exact ∙ flip-same before stored c.in-Flip.id e)

pub returns-in-CutDead-clause-exact : goal.returns-in-CutDead-clause-exact
returns-in-CutDead-clause-exact g c =
    let before = map cell_of c.args.cells.now in
    subst (λ (r : CellRecord). Replays g.row.SLOTS before r (map cell_of c.redo_slot-in-CutDead.new.cells)) (sym c.in-CutDead.is)
    (λ stored e fits. ap (λ (cs : List Cell). map uncounted cs) c.redo_slot-in-CutDead.ensures.exact ∙ relinked-same before stored c.in-CutDead.id c.in-CutDead.slot null e)

pub returns-in-Free-clause-exact : goal.returns-in-Free-clause-exact
returns-in-Free-clause-exact g c =
    let before = map cell_of c.args.cells.now in
    subst (λ (r : CellRecord). Replays g.row.SLOTS before r (map cell_of c.put-in-Free.new.cells)) (sym c.in-Free.is)
    (λ stored e fits. ap (λ (cs : List Cell). map uncounted cs) (c.put-in-Free.ensures.exact ∙ ap (λ (d : Cell). edit before c.in-Free.id (λ _. d)) c.free.ensures.model) ∙ blank-same before stored c.in-Free.id (blank_cell false g.row.SLOTS) e)
