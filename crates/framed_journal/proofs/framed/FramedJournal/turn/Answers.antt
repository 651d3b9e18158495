use Rattle.std.proofs.Common.{◌≡◌, ◌⊎◌, ◌↔◌, ℕ, ◌*◌, ◌<◌, ◌≤◌, false, Some, None, List, length, sym, ap, subst, ◌∙◌, rules}
use Rattle.plain_model.specs.declared.calls.Entry.TheVariants.{TurnBusy}
use Rattle.core_store.specs.declared.frame.Frame.{Frame}
use Rattle.core_store.specs.Frames.{AllAgree}
use Rattle.core_store.specs.JournalView.{cells_of}
use Rattle.logged_journal.specs.declared.upkeep.Upkeep.TheVariants.{LogFull, Memory}
use Rattle.logged_journal.specs.View.{LoggedView}
use Rattle.logged_journal.specs.Upkeep.{IsPastLogToTurn, OnlyNames}
use Rattle.framed_journal.specs.Upkeep.{ForcesPages}
use Rattle.framed_journal.proofs.HoldLaws.{slots-few}
use Rattle.framed_journal.proofs.WholeLaws.{in-size, in-same}
use Rattle.framed_journal.proofs.UpkeepLaws.{same-after_upkeep, same-upkeep}
use Rattle.framed_journal.proofs.framed.FramedJournal.turn.Goals as goal

pub turn-requires-after_bounds : goal.turn-requires-after_bounds
turn-requires-after_bounds g c κs within =
    let small : g.row.SLOTS ≤ 14 = slots-few g.row.SLOTS (in-size c.self.invariant).1 in
    let all = c.all_frames.ensures c.self.inside.logged.journal c.self.invariant in
    (search rules, (search rules, (all.pages, all.agree)))

pub invariant_of-self : goal.invariant_of-self
invariant_of-self g c =
    let done = c.turn.ensures in
    let u = c.self.inside.logged in
    let v = c.turn.new.self in
    let same = same-after_upkeep g.row.SLOTS g.D.Disk.faults u v c.turn.result done.stopped done.only_stopped done.marked done.log_marked done.memory (λ e. let d = done.done e in d.does)
    (λ pass e. same-upkeep g.row.SLOTS u.journal v.journal (TurnBusy pass) (ap (λ (x : LoggedView g.row.D.Denot). x.journal) (done.told pass e))) done.fault in
    in-same v.journal c.self.invariant same

pub returns-clause-old_log : goal.returns-clause-old_log
returns-clause-old_log g c = λ done.
    let all = c.all_frames.ensures c.self.inside.logged.journal c.self.invariant in
    subst (λ (v : LoggedView g.row.D.Denot). ForcesPages g.row.SLOTS g.D.Disk.content v c.turn.new.self) c.self.view_is
    (record { frames = c.all_frames.result.now; pages = all.pages; agree = all.agree; forced = c.turn.ensures.old_log done })

pub returns-clause-too_long : goal.returns-clause-too_long
returns-clause-too_long g c = subst (λ (v : LoggedView g.row.D.Denot). c.turn.result ≡ LogFull → IsPastLogToTurn g.row.SLOTS v) c.self.view_is c.turn.ensures.too_long

pub returns-clause-only_too_long : goal.returns-clause-only_too_long
returns-clause-only_too_long g c =
    subst (λ (v : LoggedView g.row.D.Denot). IsPastLogToTurn g.row.SLOTS v → (c.turn.result ≡ LogFull) ⊎ (c.turn.result ≡ Memory)) c.self.view_is c.turn.ensures.only_too_long

pub returns-clause-super_area : goal.returns-clause-super_area
returns-clause-super_area g c = subst (λ (v : LoggedView g.row.D.Denot). OnlyNames g.D.Disk.content g.D.Disk.may_leave v c.turn.new.self c.turn.result) c.self.view_is c.turn.ensures.super_area
