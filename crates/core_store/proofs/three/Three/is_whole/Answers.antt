use Rattle.std.proofs.Common.{sym, ap, ◌∙◌, length, List}
use Rattle.std.specs.Prelude.{nat_lt}
use Rattle.core_store.specs.declared.frame.Frame.{Frame}
use Rattle.core_store.specs.declared.three.HeldFrame.{HeldFrame}
use Rattle.core_store.proofs.ThreeLaws.{more-all}
use Rattle.core_store.proofs.three.Three.is_whole.Goals as goal

pub returns : goal.returns
returns g c =
    ap (λ (fs : List (Frame g.row.SLOTS)). nat_lt 3 (length fs)) c.all_of.ensures
    ∙ (sym (more-all c.self.invariant) ∙ ap (λ (hs : List (HeldFrame g.row.SLOTS)). nat_lt 3 (length hs)) c.self.view_is)
