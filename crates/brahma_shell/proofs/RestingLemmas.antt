-- After a run that was finished the collector rests.
use Rattle.std.proofs.Common.{◌≡◌, List, [], true, Option, Some, None, refl, sym, ap, subst, ◌∙◌}
use Rattle.std.specs.Prelude.{IfSome}
use Rattle.std.proofs.lemmas.List.{append-nil}
use Rattle.plain_model.specs.History.{History}
use Rattle.core_store.specs.declared.frame.Frame.{Frame}
use Rattle.core_store.specs.JournalView.{JournalView}
use Rattle.logged_journal.specs.declared.failed.FailedCall.{FailedCall}
use Rattle.logged_journal.specs.View.{LoggedView, history_of}
use Rattle.latch_table.specs.Holds.{IsAlone}
use Rattle.latch_table.specs.Rule.{AreAt, IsWhole, KeepsEachOnce}
use Rattle.shared_store.specs.Chronicles.View.{Origin, account, origin_of, notes_of, history_after}
use Rattle.shared_store.specs.Passes.{Known}
use Rattle.client_pass.specs.Runs.{IsCollected}
use Rattle.brahma_shell.specs.Points.{Point, start_with, after_notes, point_of, entries_in, MayRest, IsExactAt}
use Rattle.brahma_shell.specs.Running.{OnlyPeeks}
use Rattle.brahma_shell.proofs.LogLemmas.{none-committed, history-uncommitted}
use Rattle.brahma_shell.proofs.PointLemmas.{may_rest}
use Rattle.brahma_shell.proofs.RestLemmas.{rests-exact}
use Rattle.client_pass.proofs.SameLogs.{same-log_once}
use Rattle.script_lines.specs.Numbers.{object_slots}

-- ---- a journal that the disk failed no call

pub running-notes : {D : Type 0} (v : LoggedView D) → v.failed ≡ None → notes_of v ≡ v.journal.notes
running-notes v e = rw (none-committed v e) (append-nil v.journal.notes)

pub running-history : {D : Type 0} (v : LoggedView D) → v.failed ≡ None → history_of v ≡ v.journal.history
running-history v e = history-uncommitted v (none-committed v e)

-- its history is what its origin and its notes give
pub history-given : {D : Type 0} (v : LoggedView D) → v.failed ≡ None → history_after object_slots (origin_of v) (notes_of v) ≡ history_of v → v.journal.history ≡ history_after object_slots (origin_of v) v.journal.notes
history-given v e h = sym (running-history v e) ∙ sym h ∙ ap (history_after object_slots (origin_of v)) (running-notes v e)

-- where two of one origin have the same notes, their points are the same
same-point : {D : Type 0} (b w : LoggedView D) → b.failed ≡ None → w.failed ≡ None → origin_of b ≡ origin_of w → notes_of b ≡ notes_of w → history_after object_slots (origin_of b) (notes_of b) ≡ history_of b → history_after object_slots (origin_of w) (notes_of w) ≡ history_of w → point_of b.journal ≡ point_of w.journal
same-point b w f g origin same h k =
    let notes : b.journal.notes ≡ w.journal.notes = sym (running-notes b f) ∙ same ∙ running-notes w g in
    let history : b.journal.history ≡ w.journal.history = sym (running-history b f) ∙ sym h ∙ ap (λ (x : Origin). history_after object_slots x (notes_of b)) origin ∙ ap (history_after object_slots (origin_of w)) same ∙ k ∙ running-history w g in
    ap (λ (x : History). after_notes (start_with x b.journal.opening) b.journal.notes) history
    ∙ ap (λ (x : Origin). after_notes (start_with w.journal.history x.opening) b.journal.notes) origin
    ∙ ap (after_notes (start_with w.journal.history w.journal.opening)) notes

-- ---- at rest

some-same : {X : Type 0} (x y : X) → Some x ≡ Some y → x ≡ y
some-same x y e = cc (e)

never-stopped : (o : Option FailedCall) (P : FailedCall → Type 0) → ((f : FailedCall) → P f → ⊥) → IfSome o P → o ≡ None
never-stopped None P never h = refl
never-stopped (Some f) P never h = absurd (never f h)

-- the collector rests after the run's last event, and beside no active transaction just the reachable objects are stored
pub record RestsAt (j : JournalView) : Type 0 where
  pub rests : MayRest (point_of j)
  pub exact : (point_of j).moment.state.active ≡ [] → IsExactAt (point_of j)

module _ {D : Type 0} (w : LoggedView D) (behind new : Known object_slots) (frames : List (Frame object_slots)) (alone : IsAlone behind) (collected : IsCollected D object_slots behind) (only : OnlyPeeks behind new) (whole : IsWhole (account D object_slots) new w frames)
    (history : history_after object_slots (origin_of w) (notes_of w) ≡ history_of w) (running : w.failed ≡ None) where
  idle-running : collected.idle.before.failed ≡ None
  idle-running = never-stopped collected.idle.before.failed _ (λ f h. let e = h.0 in absurd (cc (e))) collected.idle.made.stopped

  same-entries : collected.before.knowledge.entries ≡ new.knowledge.entries
  same-entries = sym (only.entries ∙ collected.kept.kept)

  was-alone : IsAlone collected.before
  was-alone = subst (λ s. (s.main ≡ true) × (s.others ≡ 0)) (sym collected.station) alone

  same-notes : notes_of collected.idle.before ≡ notes_of w
  same-notes =
      same-log_once (notes_of collected.idle.before) (notes_of w) new.knowledge.entries (subst (AreAt (notes_of collected.idle.before)) same-entries collected.idle.later.entries) whole.later.entries (subst (KeepsEachOnce (notes_of collected.idle.before)) same-entries (collected.idle.covered was-alone)) whole.once

  same-origin : origin_of collected.idle.before ≡ origin_of w
  same-origin = some-same (origin_of collected.idle.before) (origin_of w) (sym collected.idle.later.fixed ∙ sym collected.fixed ∙ sym only.fixed ∙ whole.later.fixed)

  at-one_point : point_of collected.idle.before.journal ≡ point_of w.journal
  at-one_point = same-point collected.idle.before w idle-running running same-origin same-notes collected.idle.made.history history

  pub rests-behind : RestsAt w.journal
  rests-behind =
      let made = collected.idle.made in
      let idle = made.does.idle.0 refl in
      let given = history-given collected.idle.before idle-running made.history in
      let slots : collected.idle.before.journal.history.slots ≡ object_slots = ap (λ (h : History). h.slots) given in
      let entries : entries_in collected.idle.before.journal.notes ≡ collected.idle.before.journal.history.entries = sym (ap (λ (h : History). h.entries) given) in
      record {
        rests = subst MayRest at-one_point (may_rest object_slots collected.idle.before.journal slots made.sound made.led idle.1 idle.2);
        exact = subst (λ (p : Point). p.moment.state.active ≡ [] → IsExactAt p) at-one_point (rests-exact collected.idle.before.journal collected.idle.before.journal refl made.sound entries idle.1 idle.2);
      }
