use Rattle.std.proofs.Common.{subst, sym, ap, ◌∙◌, List, length, ◌<◌}
use Rattle.core_store.specs.declared.three.HeldFrame.{HeldFrame}
use Rattle.core_store.specs.Frames.{is_held}
use Rattle.core_store.proofs.ThreeLaws.{AreThreeInside-put}
use Rattle.core_store.proofs.three.Three.put.Goals as goal

pub invariant_of-self : goal.invariant_of-self
invariant_of-self g c =
    let h : HeldFrame g.row.SLOTS = record { page = c.args.page; frame = c.args.frame.now } in
    AreThreeInside-put c.self.invariant h h
    (subst (λ (hs : List (HeldFrame g.row.SLOTS)). length hs < 3) (sym c.self.view_is) c.requires.room)
    (ap (λ (hs : List (HeldFrame g.row.SLOTS)). is_held hs c.args.page) c.self.view_is ∙ c.requires.other)
