-- What upkeep of a pass does: it cleans a page, or turns the log.
use Rattle.std.specs.Prelude.{◌≡◌, ◌≢◌, ◌⊎◌, ◌↔◌, ℕ, ◌+◌, ◌*◌, ◌<◌, ◌≤◌, true, false, List, [], ◌∷◌, Option, Some, None, Result, Ok, Err, IfSome, IsSome}
use Rattle.disk_model.specs.declared.area.Area.{Area}
use Rattle.disk_model.specs.Areas.{Bytes}
use Rattle.disk_model.specs.Time.{LeavesOnlyImages}
use Rattle.disk_model.specs.Told.{EachImage}
use Rattle.plain_model.specs.declared.calls.Entry.{Entry}
use Rattle.plain_model.specs.History.{IsLegal, end_of, least_active}
use Rattle.gate_log.specs.State.{other_log}
use Rattle.core_store.specs.declared.frame.Frame.{Frame}
use Rattle.core_store.specs.declared.three.HeldFrame.{HeldFrame}
use Rattle.core_store.specs.JournalView.{cells_of}
use Rattle.core_store.specs.Limited.{is_past_limit}
use Rattle.logged_journal.specs.declared.upkeep.Upkeep.{Upkeep}
use Rattle.logged_journal.specs.declared.upkeep.Upkeep.TheVariants as upkeep
use Rattle.logged_journal.specs.Opens.{OpensAfter}
use Rattle.logged_journal.specs.View.{LoggedView, OnlyTakesRoom, bytes_counted, history_of}
use Rattle.logged_journal.specs.Upkeep.{IsPastLogToClean, IsPastLogToTurn, IsTurned, Turns, TellsBusy, FailsUpkeep, OnlyNames}
use Rattle.framed_journal.specs.Upkeep.{CleansPage, ForcesPages}
use Rattle.latch_table.specs.declared.hold.Held.{Held}
use Rattle.latch_table.specs.Holds.{IsAlone}
use Rattle.latch_table.specs.Rule.{IsLater, KeepsEachOnce}
use Rattle.shared_store.specs.Chronicles.Steps.{Flags, no_mark, entered_by_upkeep, marked_by_upkeep}
use Rattle.shared_store.specs.Chronicles.View.{account, notes_of}
use Rattle.shared_store.specs.declared.refused.Refused.{Refused}
use Rattle.shared_store.specs.Calls.{Finds, KeepsNoted, WasNoted, refused_by_upkeep}
use Rattle.shared_store.specs.Passes.{Known}

-- ---- answers

abbrev pub entered_by_upkeep_of : Result Upkeep Held → Option Entry
entered_by_upkeep_of (Ok u) = entered_by_upkeep u
entered_by_upkeep_of (Err h) = None

abbrev pub marked_by_upkeep_of : Result Upkeep Held → Flags
marked_by_upkeep_of (Ok u) = marked_by_upkeep u
marked_by_upkeep_of (Err h) = no_mark

abbrev pub found_by_upkeep : Result Upkeep Held → Option (ℕ × ℕ)
found_by_upkeep (Ok u) = None
found_by_upkeep (Err h) = Some (h.word, h.seat)

abbrev pub refused_by_upkeep_of : Result Upkeep Held → Refused → Refused
refused_by_upkeep_of (Ok u) r = refused_by_upkeep u r
refused_by_upkeep_of (Err h) r = r

-- the frames of the pages from this one on, as held ones
abbrev pub held_from : {slots : ℕ} → ℕ → List (Frame slots) → List (HeldFrame slots)
held_from page [] = []
held_from page (f ∷ fs) = record { page = page; frame = f } ∷ held_from (page + 1) fs

-- ---- the journal as upkeep found it and left it

-- the journal cleans this page, or refuses to, and answers so; where it was done, each image of the disk has the page in place
pub record DoesCleanOn {D : Type 0} (slots : ℕ) (faults : D → ℕ) (may_leave : D → Area → List ℕ → Type 0) (before after : LoggedView D) (page : ℕ) (result : Upkeep) : Type 0 where
  pub legal : IsLegal (history_of after)
  pub stopped : IfSome before.failed (λ f. (result ≡ upkeep.Stopped f.faults) × (after ≡ before))
  pub only_stopped : (n : ℕ) → result ≡ upkeep.Stopped n → IsSome before.failed
  pub never_busy : (client : ℕ) → result ≢ upkeep.Busy client
  pub full : (result ≡ upkeep.TraceFull) ↔ (before.failed ≡ None) × (is_past_limit before.journal 1 ≡ true)
  pub marked : result ≡ upkeep.TraceFull → after ≡ record before { journal = record before.journal { marks = record before.journal.marks { trace = true } } }
  pub log_full : (result ≡ upkeep.LogFull) ↔ IsPastLogToClean slots before
  pub log_marked : result ≡ upkeep.LogFull → OnlyTakesRoom (record before { log_full = true }) after
  pub memory : result ≡ upkeep.Memory → OnlyTakesRoom before after
  pub done : result ≡ upkeep.Done → CleansPage slots may_leave before after page
  pub fault : result ≡ upkeep.DiskFault → FailsUpkeep faults before after
  pub later : faults before.disk ≤ faults after.disk

-- The page was cleaned on a journal of which all holds that the pass knew, and this is what the journal did. A pass that is alone
-- keeps each note of it, once. Each image that a power loss leaves meanwhile opens
pub record MakesClean (D : Type 0) (slots : ℕ) (faults : D → ℕ) (may_leave : D → Area → List ℕ → Type 0) (moment : D → ℕ) (left_since : D → ℕ → Bytes → Type 0) (old new : Known slots) (page : ℕ) (result : Upkeep) : Type 0 where
  pub before : LoggedView D
  pub after : LoggedView D
  pub later : IsLater (account D slots) old before
  pub covered : IsAlone old → KeepsEachOnce (notes_of before) old.knowledge.entries
  pub found : Finds old new before
  pub noted : WasNoted slots before
  pub kept : KeepsNoted old new before after (entered_by_upkeep result)
  pub made : DoesCleanOn slots faults may_leave before after page result
  pub opens : LeavesOnlyImages moment left_since before.disk after.disk (OpensAfter slots (history_of before))

-- The journal turns its log, or refuses to, and answers so. Where it was done, each image of the disk has every page in place and
-- names the other log area, which has the first batch and nothing more; the log area that was in use has one batch more
pub record DoesTurnOn {D : Type 0} (slots : ℕ) (faults : D → ℕ) (content : D → Area → Option (List ℕ)) (may_leave : D → Area → List ℕ → Type 0) (before after : LoggedView D) (result : Upkeep) : Type 0 where
  pub legal : IsLegal (history_of after)
  pub stopped : IfSome before.failed (λ f. (result ≡ upkeep.Stopped f.faults) × (after ≡ before))
  pub only_stopped : (n : ℕ) → result ≡ upkeep.Stopped n → IsSome before.failed
  pub full : (result ≡ upkeep.TraceFull) ↔ (before.failed ≡ None) × (is_past_limit before.journal 1 ≡ true)
  pub marked : result ≡ upkeep.TraceFull → after ≡ record before { journal = record before.journal { marks = record before.journal.marks { trace = true } } }
  pub busy : (client : ℕ) → before.failed ≡ None → is_past_limit before.journal 1 ≡ false → least_active (end_of before.journal.history).state ≡ Some client → (result ≡ upkeep.Busy client) ⊎ (result ≡ upkeep.Memory)
  pub only_busy : (client : ℕ) → result ≡ upkeep.Busy client → least_active (end_of before.journal.history).state ≡ Some client
  pub told : (client : ℕ) → result ≡ upkeep.Busy client → TellsBusy slots before after client
  pub log_full : result ≡ upkeep.LogFull → before.journal.limits.log < bytes_counted before
  pub too_long : result ≡ upkeep.LogFull → IsPastLogToTurn slots before
  pub only_too_long : IsPastLogToTurn slots before → (result ≡ upkeep.LogFull) ⊎ (result ≡ upkeep.Memory)
  pub log_marked : result ≡ upkeep.LogFull → OnlyTakesRoom (record before { log_full = true }) after
  pub memory : result ≡ upkeep.Memory → OnlyTakesRoom before after
  pub done : result ≡ upkeep.Done → Turns slots before after
  pub turned : result ≡ upkeep.Done → EachImage may_leave after.disk (IsTurned slots (cells_of before.journal) (other_log before.log.area))
  pub old_log : result ≡ upkeep.Done → ForcesPages slots content before after
  pub super_area : OnlyNames content may_leave before after result
  pub fault : result ≡ upkeep.DiskFault → FailsUpkeep faults before after
  pub later : faults before.disk ≤ faults after.disk
  pub count : result ≢ upkeep.DiskFault → faults after.disk ≡ faults before.disk

-- The log was turned on a journal of which all holds that the pass knew, and this is what the journal did. A pass that is alone
-- keeps each note of it, once. Each image that a power loss leaves meanwhile opens
pub record MakesTurn (D : Type 0) (slots : ℕ) (faults : D → ℕ) (content : D → Area → Option (List ℕ)) (may_leave : D → Area → List ℕ → Type 0) (moment : D → ℕ) (left_since : D → ℕ → Bytes → Type 0) (old new : Known slots) (result : Upkeep) : Type 0 where
  pub before : LoggedView D
  pub after : LoggedView D
  pub later : IsLater (account D slots) old before
  pub covered : IsAlone old → KeepsEachOnce (notes_of before) old.knowledge.entries
  pub found : Finds old new before
  pub noted : WasNoted slots before
  pub kept : KeepsNoted old new before after (entered_by_upkeep result)
  pub made : DoesTurnOn slots faults content may_leave before after result
  pub opens : LeavesOnlyImages moment left_since before.disk after.disk (OpensAfter slots (history_of before))
