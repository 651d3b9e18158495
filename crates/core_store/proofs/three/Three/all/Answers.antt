use Rattle.std.proofs.Common.{sym, ap, ◌∙◌, length, List, subst, ◌<◌}
use Rattle.std.specs.Prelude.{nat_lt}
use Rattle.core_store.specs.declared.frame.Frame.{Frame}
use Rattle.core_store.specs.declared.three.HeldFrame.{HeldFrame}
use Rattle.core_store.specs.Frames.{numbered}
use Rattle.core_store.proofs.ThreeLaws.{more-all, only-all, lt-so, lt-not}
use Rattle.core_store.proofs.three.Three.all.Goals as goal

pub returns-then-all-gt-MOST-clause-all : goal.returns-then-all-gt-MOST-clause-all
returns-then-all-gt-MOST-clause-all g c =
    sym c.self.view_is
    ∙ (only-all c.self.invariant (subst (λ (fs : List (Frame g.row.SLOTS)). 3 < length fs) c.all_of-all.ensures c.if-all-gt-MOST.true)
    ∙ ap (λ (fs : List (Frame g.row.SLOTS)). numbered 0 fs) (sym c.all_of-all.ensures))

pub returns-then-all-gt-MOST-clause-some : goal.returns-then-all-gt-MOST-clause-some
returns-then-all-gt-MOST-clause-some g c =
    sym (lt-so c.if-all-gt-MOST.true)
    ∙ (ap (λ (fs : List (Frame g.row.SLOTS)). nat_lt 3 (length fs)) c.all_of-all.ensures
    ∙ (sym (more-all c.self.invariant) ∙ ap (λ (hs : List (HeldFrame g.row.SLOTS)). nat_lt 3 (length hs)) c.self.view_is))

pub returns-else-all-gt-MOST-clause-some : goal.returns-else-all-gt-MOST-clause-some
returns-else-all-gt-MOST-clause-some g c =
    sym (lt-not c.if-all-gt-MOST.false)
    ∙ (ap (λ (fs : List (Frame g.row.SLOTS)). nat_lt 3 (length fs)) c.all_of-all.ensures
    ∙ (sym (more-all c.self.invariant) ∙ ap (λ (hs : List (HeldFrame g.row.SLOTS)). nat_lt 3 (length hs)) c.self.view_is))
