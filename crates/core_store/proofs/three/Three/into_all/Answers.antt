use Rattle.std.proofs.Common.{subst, sym, ap, ◌∙◌, List, length, IfSome, ◌≡◌}
use Rattle.std.specs.Prelude.{nat_lt}
use Rattle.core_store.specs.declared.three.HeldFrame.{HeldFrame}
use Rattle.core_store.specs.Frames.{numbered}
use Rattle.core_store.proofs.ThreeLaws.{whole-some}
use Rattle.core_store.proofs.three.Three.into_all.Goals as goal

pub returns-then-is_whole-clause-all : goal.returns-then-is_whole-clause-all
returns-then-is_whole-clause-all g c =
    let whole = ap (λ (hs : List (HeldFrame g.row.SLOTS)). nat_lt 3 (length hs)) c.self.view_is ∙ (sym c.is_whole.ensures ∙ c.if-is_whole.true) in
    subst (λ (hs : List (HeldFrame g.row.SLOTS)). IfSome c.self.inside.all (λ fs. hs ≡ numbered 0 fs.items)) c.self.view_is (whole-some c.self.inside.all c.self.inside.frames c.self.inside.count c.self.invariant whole).0
