use Rattle.std.proofs.Common.{List, sym, subst}
use Rattle.core_store.specs.declared.frame.Frame.{Frame}
use Rattle.framed_journal.specs.Holding.{AreFramesOf}
use Rattle.framed_journal.proofs.WholeLaws.{all-whole, all-few}
use Rattle.framed_journal.proofs.holding.all_frames.Goals as goal

pub returns-in-Some : goal.returns-in-Some
returns-in-Some g c = all-whole c.in-Some.all.now c.args.frames.now.items c.args.held.now c.in-Some.ensures.all c.in-Some.ensures.some

pub returns-in-None : goal.returns-in-None
returns-in-None g c = λ j frames. subst (λ (fs : List (Frame g.row.SLOTS)). AreFramesOf j fs) (sym c.as_slice.ensures.value) (all-few c.args.frames.now.items c.args.held.now c.in-None.ensures.some j frames)
