use Rattle.std.proofs.Common.{◌≡◌, ℕ, List, length, ap, sym, ◌∙◌}
use Rattle.std.specs.Prelude.{Result, Ok, Err, IsErrOf, IsErrAnd}
use Rattle.store_opening.specs.declared.undo.UndoRefusal.{UndoRefusal}
use Rattle.store_opening.specs.declared.undo.UndoRefusal.TheVariants.{Unsound}
use Rattle.store_opening.proofs.UndoLaws.{step-less, step-skips, undoing-more, all-undone, undoing-stuck}
use Rattle.store_opening.proofs.undo.undo_all.Goals as goal

pub undo-smaller : goal.undo-smaller
undo-smaller g c =
    let o = c.in_ok-undo_next.ensures.more c.if-branch.true in
    step-less c.undo.replay c.undo_next.new.replay o.r o.finishes

pub undo-preserved : goal.undo-preserved
undo-preserved g c =
    let o = c.in_ok-undo_next.ensures.more c.if-branch.true in
    let i = c.undo.invariant in
    record {
      undoing = undoing-more g.row.SLOTS c.args.replay.now c.undo.replay c.undo_next.new.replay c.undo.bytes.items c.undo_next.new.bytes.items c.args.marks.now c.undo.marks c.undo_next.new.marks i.undoing i.consistent o;
      skips = step-skips c.undo.replay c.undo_next.new.replay o.r o.finishes ∙ i.skips;
      as_many = o.marked.as_many ∙ i.as_many ∙ ap (λ (l : List ℕ). length l) (sym (step-skips c.undo.replay c.undo_next.new.replay o.r o.finishes));
      consistent = c.undo_next.ensures.rules;
    }

pub returns-clause-marked : goal.returns-clause-marked
returns-clause-marked g c =
    let o = c.in_ok-undo_next.ensures.last c.if-branch.false in
    let i = c.undo.invariant in
    all-undone g.row.SLOTS c.args.replay.now c.undo.replay c.undo_next.new.replay c.undo.bytes.items c.undo_next.new.bytes.items c.args.marks.now c.undo.marks c.undo_next.new.marks i.undoing i.consistent o.0 o.1 o.2 o.3

pub returns-clause-done : goal.returns-clause-done
returns-clause-done g c = (returns-clause-marked g c).0

abbrev error_of : {T : Type 0} → UndoRefusal → Result T UndoRefusal → UndoRefusal
error_of f (Ok t) = f
error_of f (Err q) = q

-- the error of a call is that of the one that handed it on
handed : {T S : Type 0} (r : Result T UndoRefusal) (f x : UndoRefusal) → IsErrOf r x → IsErrAnd r (λ e. e ≡ f) → IsErrOf {T = S} (Err f) x
handed (Ok t) f x is h = absurd cc
handed {S = S} (Err e) f x is h = ap (λ (q : UndoRefusal). let r : Result S UndoRefusal = Err q in r) (sym h ∙ ap (error_of f) is)

pub returns-in_err-undo_next-clause-refused : goal.returns-in_err-undo_next-clause-refused
returns-in_err-undo_next-clause-refused g c =
    λ id err.
    undoing-stuck g.row.SLOTS c.args.replay.now c.undo.replay c.undo.bytes.items c.args.marks.now c.undo.marks id c.undo.invariant.undoing
    (c.in_err-undo_next.ensures.refused id (handed c.from_residual.result c.in_err-undo_next.field-0.0 (Unsound id) err c.from_residual.ensures.1))
