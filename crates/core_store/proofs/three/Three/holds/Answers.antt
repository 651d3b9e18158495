use Rattle.std.proofs.Common.{sym, ap, ◌∙◌, List, length, ◌<◌, ◌≤◌, subst, take}
use Rattle.core_store.specs.declared.frame.Frame.{Frame}
use Rattle.core_store.specs.declared.three.HeldFrame.{HeldFrame}
use Rattle.core_store.specs.Frames.{is_held}
use Rattle.core_store.specs.Inside.{frames_of_all}
use Rattle.core_store.proofs.WholeLaws.{held-all, held-behind}
use Rattle.core_store.proofs.three.Three.holds.Goals as goal

pub returns-then-page-all_of : goal.returns-then-page-all_of
returns-then-page-all_of g c =
    sym (held-all (frames_of_all c.self.inside.all) (take c.self.inside.count c.self.inside.frames) c.args.page (subst (λ (fs : List (Frame g.row.SLOTS)). c.args.page < length fs) c.all_of.ensures c.if-page-all_of.true))
    ∙ ap (λ (hs : List (HeldFrame g.row.SLOTS)). is_held hs c.args.page) c.self.view_is

pub returns : goal.returns
returns g c =
    c.is_among.ensures
    ∙ (sym (held-behind (frames_of_all c.self.inside.all) (take c.self.inside.count c.self.inside.frames) c.args.page (subst (λ (fs : List (Frame g.row.SLOTS)). length fs ≤ c.args.page) c.all_of.ensures c.if-page-all_of.false))
    ∙ ap (λ (hs : List (HeldFrame g.row.SLOTS)). is_held hs c.args.page) c.self.view_is)
