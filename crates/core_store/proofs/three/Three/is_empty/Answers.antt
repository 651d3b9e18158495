use Rattle.std.proofs.Common.{sym, ap, ◌∙◌, List, length, eqb, ne_eqb}
use Rattle.std.specs.Prelude.{◌&&◌}
use Rattle.core_store.specs.declared.frame.Frame.{Frame}
use Rattle.core_store.specs.declared.three.HeldFrame.{HeldFrame}
use Rattle.core_store.specs.Frames.{holds_nothing}
use Rattle.core_store.specs.Inside.{frames_of_all}
use Rattle.core_store.proofs.ThreeLaws.{nothing-held}
use Rattle.core_store.proofs.three.Three.is_empty.Goals as goal

pub returns-then-self-eq0-clause-exact : goal.returns-then-self-eq0-clause-exact
returns-then-self-eq0-clause-exact g c =
    c.is_empty.ensures
    ∙ (ap (λ (fs : List (Frame g.row.SLOTS)). eqb (length fs) 0) c.all_of.ensures
    ∙ (ap (λ n. eqb n 0 && eqb (length (frames_of_all c.self.inside.all)) 0) (sym c.if-self-eq0.true)
    ∙ (sym (nothing-held c.self.invariant)
    ∙ ap (λ (hs : List (HeldFrame g.row.SLOTS)). holds_nothing hs) c.self.view_is)))

pub returns-else-self-eq0-clause-exact : goal.returns-else-self-eq0-clause-exact
returns-else-self-eq0-clause-exact g c =
    (ne_eqb c.self.inside.count 0 c.if-self-eq0.false
    ∙ ap (λ b. b && eqb (length (frames_of_all c.self.inside.all)) 0) (sym (ne_eqb c.self.inside.count 0 c.if-self-eq0.false)))
    ∙ (sym (nothing-held c.self.invariant)
    ∙ ap (λ (hs : List (HeldFrame g.row.SLOTS)). holds_nothing hs) c.self.view_is)
