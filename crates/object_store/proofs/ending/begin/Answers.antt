use Rattle.std.proofs.Common.{◌≡◌, ◌∙◌, ap, subst, None}
use Rattle.plain_model.specs.declared.calls.Call.TheVariants as call
use Rattle.plain_model.specs.History.{end_of}
use Rattle.plain_laws.specs.Sound.{IsSoundState}
use Rattle.core_store.specs.JournalView.{JournalView}
use Rattle.logged_journal.specs.View.{LoggedView}
use Rattle.object_store.specs.Seen.{state_of}
use Rattle.object_store.proofs.AskLaws.{answered}
use Rattle.object_store.proofs.BeginLaws.{not_stopped, has_begun}
use Rattle.object_store.proofs.ending.begin.Goals as goal

pub returns-in-Ok : goal.returns-in-Ok
returns-in-Ok g c =
    let v = c.args.below.now in
    let w = c.call.new.self in
    let told = c.call.ensures in
    let running : v.failed ≡ None = not_stopped v.failed c.call.result (w ≡ v) told.stopped c.in_default.not-Stopped in
    let a = answered v w call.Begin c.call.result running (λ e. absurd (cc)) told.only_stopped told.fault told.does told.goes_on told.log_full.0 told.log_marked told.untouched in
    let sound : IsSoundState (state_of v) = subst (λ (j : JournalView). IsSoundState (end_of j.history).state) (c.journal.ensures.journal ∙ ap (λ (x : LoggedView g.row.D.Denot). x.journal) c.logged.ensures.logged) c.history.ensures.sound.state in
    record {
      begun = has_begun v w c.call.result a c.in-Ok.ensures.entered c.in-Ok.ensures.told sound (c.requires.quiet running);
      refused = tt;
    }
