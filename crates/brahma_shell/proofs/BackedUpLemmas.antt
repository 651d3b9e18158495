-- What a backup leaves of a store that was just opened.
use Rattle.std.proofs.Common.{◌≡◌, ◌⊎◌, ⊎_elim, inl, inr, ℕ, ◌+◌, Bool, true, false, List, [], None, length, sym, ap, subst, ◌∙◌, arith}
use Rattle.std.specs.Prelude.{◌↔◌, nat_lt}
use Rattle.disk_model.specs.declared.area.Area.{Area}
use Rattle.disk_model.specs.Told.{EachImage}
use Rattle.cell_model.specs.Cells.{Cell}
use Rattle.plain_model.specs.declared.calls.Entry.TheVariants.{Hidden}
use Rattle.plain_model.specs.History.{History, end_of, least_active}
use Rattle.core_store.specs.declared.note.Note.{Note}
use Rattle.core_store.specs.declared.limits.Limits.{Limits}
use Rattle.core_store.specs.declared.act.Act.TheVariants.{Other}
use Rattle.core_store.specs.RoundView.{left_of}
use Rattle.core_store.specs.JournalView.{JournalView, cells_of, with_note}
use Rattle.core_store.specs.Limited.{is_past_limit}
use Rattle.core_store.specs.Opening.{opened_history}
use Rattle.core_store.specs.Owed.{entries_owed}
use Rattle.gate_log.specs.State.{other_log}
use Rattle.logged_journal.specs.View.{LoggedView, OnlyTakesRoom}
use Rattle.logged_journal.specs.Upkeep.{FailsUpkeep, IsTurned, IsPastLogToTurn}
use Rattle.script_lines.specs.Numbers.{object_slots}
use Rattle.stream_writing.specs.Backups.{HasTurned}
use Rattle.brahma_shell.specs.BackedUp.{LeavesStore, IsAtCheckpoint}

-- in a store that was just opened no transaction is active
pub idle-opened : (j : JournalView) (slots ids : ℕ) (cells : List Cell) → j.history ≡ opened_history slots ids cells → least_active (end_of j.history).state ≡ None
idle-opened j slots ids cells is = ap (λ (h : History). least_active (end_of h).state) is

-- and its history has room
pub room-opened : (j : JournalView) (slots ids : ℕ) (cells : List Cell) → j.history ≡ opened_history slots ids cells → j.limits ≡ record { trace = 1048576; log = 1071644672 } → is_past_limit j 1 ≡ false
room-opened j slots ids cells is limits =
    ap (λ (h : History). nat_lt j.limits.trace (length h.entries + entries_owed (end_of h) + 1)) is ∙ ap (λ (l : Limits). nat_lt l.trace (0 + 0 + 1)) limits

-- what stays of it
pub record Left {D : Type 0} (status : ℕ) (old new : LoggedView D) : Type 0 where
  pub opening : new.journal.opening ≡ old.journal.opening
  pub ids : new.journal.history.ids ≡ old.journal.history.ids
  pub trace : new.journal.marks.trace ≡ old.journal.marks.trace
  pub full : (new.log_full ≡ true) ↔ (status ≡ 9)

unmarked : (b c : Bool) → b ≡ c → c ≡ false → b ≡ true → ⊥
unmarked b c same none marked = let h : true ≡ false = sym marked ∙ same ∙ none in absurd (cc h)

module _ {D : Type 0} (faults : D → ℕ) (may_leave : D → Area → List ℕ → Type 0) (status : ℕ) (old new : LoggedView D) (none : old.log_full ≡ false) where
  left-turned : (status ≡ 9 → ⊥) → HasTurned object_slots may_leave old new → Left status old new
  left-turned other h =
      record {
        opening = ap (λ (j : JournalView). j.opening) h.turns.does.journal;
        ids = ap (λ (j : JournalView). j.history.ids) h.turns.does.journal;
        trace = ap (λ (j : JournalView). j.marks.trace) h.turns.does.journal;
        full = (λ marked. absurd (unmarked new.log_full old.log_full h.turns.does.log_full none marked), λ nine. absurd (other nine));
      }

  left-failed : (status ≡ 9 → ⊥) → FailsUpkeep faults old new → Left status old new
  left-failed other h =
      record {
        opening = ap (λ (j : JournalView). j.opening) h.journal;
        ids = ap (λ (j : JournalView). j.history.ids) h.journal;
        trace = ap (λ (j : JournalView). j.marks.trace) h.journal;
        full = (λ marked. absurd (unmarked new.log_full old.log_full h.log_full none marked), λ nine. absurd (other nine));
      }

  left-room : (status ≡ 9 → ⊥) → OnlyTakesRoom old new → Left status old new
  left-room other h =
      record {
        opening = ap (λ (v : LoggedView D). v.journal.opening) h;
        ids = ap (λ (v : LoggedView D). v.journal.history.ids) h;
        trace = ap (λ (v : LoggedView D). v.journal.marks.trace) h;
        full = (λ marked. absurd (unmarked new.log_full old.log_full (ap (λ (v : LoggedView D). v.log_full) h) none marked), λ nine. absurd (other nine));
      }

  left-full : status ≡ 9 → OnlyTakesRoom (record old { log_full = true }) new → Left status old new
  left-full nine h =
      record {
        opening = ap (λ (v : LoggedView D). v.journal.opening) h;
        ids = ap (λ (v : LoggedView D). v.journal.history.ids) h;
        trace = ap (λ (v : LoggedView D). v.journal.marks.trace) h;
        full = (λ _. nine, λ _. ap (λ (v : LoggedView D). v.log_full) h);
      }

  pub left : LeavesStore faults may_leave status old new → (status ≡ 0) ⊎ ((status ≡ 5) ⊎ ((status ≡ 6) ⊎ ((status ≡ 8) ⊎ (status ≡ 9)))) → Left status old new
  left leaves statuses =
      ⊎_elim (λ zero. left-turned (λ nine. omega (arith, zero, nine)) (leaves.turned (inl zero)))
      (λ is. ⊎_elim (λ five. left-turned (λ nine. omega (arith, five, nine)) (leaves.turned (inr five)))
      (λ is. ⊎_elim (λ six. left-failed (λ nine. omega (arith, six, nine)) (leaves.failed six))
      (λ is. ⊎_elim (λ eight. left-room (λ nine. omega (arith, eight, nine)) (leaves.starved eight)) (λ nine. left-full nine (leaves.full nine).1) is) is) is) statuses

-- that the log is too long for a checkpoint is told of what stays as of what was
pub past-kept : {D : Type 0} (old new : LoggedView D) → IsPastLogToTurn object_slots old × OnlyTakesRoom (record old { log_full = true }) new → IsPastLogToTurn object_slots new
past-kept {D} old new h =
    subst (λ (v : LoggedView D). IsPastLogToTurn object_slots v) (sym h.1) (record { running = h.0.running; room = h.0.room; idle = h.0.idle; past = h.0.past })

-- its cells are those that it opened with
pub cells-turned : {D : Type 0} (may_leave : D → Area → List ℕ → Type 0) (old new : LoggedView D) → old.journal.notes ≡ [] → HasTurned object_slots may_leave old new → cells_of new.journal ≡ old.journal.opening
cells-turned may_leave old new none h = ap cells_of h.turns.does.journal ∙ ap (λ (notes : List Note). cells_of (record old.journal { notes = with_note notes Hidden None (left_of object_slots old.journal.round) Other })) none

pub at-checkpoint : {D : Type 0} (may_leave : D → Area → List ℕ → Type 0) (old new : LoggedView D) (cells : List Cell) → cells_of old.journal ≡ cells → HasTurned object_slots may_leave old new → EachImage may_leave new.disk (IsAtCheckpoint cells)
at-checkpoint may_leave old new cells are h image is = (other_log old.log.area, subst (λ (cs : List Cell). IsTurned object_slots cs (other_log old.log.area) image) are (h.images image is))
