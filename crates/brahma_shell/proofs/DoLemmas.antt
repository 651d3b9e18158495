-- A line that is accepted, and done or cut off.
use Rattle.std.proofs.Common.{◌≡◌, ◌⊎◌, ⊎_elim, inl, inr, ℕ, List, [], Option, Some, None, refl, sym, ap, subst, ◌∙◌, Ok, Err}
use Rattle.std.specs.Prelude.{Result, OnOk, IfErr}
use Rattle.std.specs.Io.KnownBytes.{Appends, Keeps}
use Rattle.plain_model.specs.declared.calls.Call.{Call as TransactionCall}
use Rattle.plain_model.specs.declared.calls.Reply.TheVariants.{DiskFault}
use Rattle.plain_model.specs.declared.calls.Entry.TheVariants.{Call}
use Rattle.plain_model.specs.Text.{line_of}
use Rattle.core_store.specs.JournalView.{JournalView}
use Rattle.logged_journal.specs.View.{LoggedView}
use Rattle.script_lines.specs.declared.grammar.Line.{Line}
use Rattle.script_lines.specs.declared.grammar.Line.TheVariants.{Ask, Nothing}
use Rattle.script_lines.specs.Output.{AppendsFront}
use Rattle.brahma_shell.specs.declared.replay.Stop.{Stop}
use Rattle.brahma_shell.specs.declared.replay.Stop.TheVariants as stop
use Rattle.script_lines.specs.Grammar.{IsAccepted, meaning_of}
use Rattle.brahma_shell.specs.Points.{point_of}
use Rattle.brahma_shell.specs.Runs.{ids_at}
use Rattle.brahma_shell.specs.Follows.{AsksUpkeep}
use Rattle.brahma_shell.specs.Replay.{Performs, CutsOff, StopsCall, StopsPerform, DoesLine, CutsLine, StopsLine, LeavesLog, FailsCall, FailsUpkeep, FailsPerform, FailsLine}
use Rattle.brahma_shell.proofs.GcLemmas.{cuts-none}
use Rattle.brahma_shell.proofs.GrowthLemmas.{Grows-none, Grows-by_none}

pub does-line : (old new : JournalView) (number : ℕ) (bytes text : List ℕ) (line : Line) → IsAccepted (ids_at (point_of old)) number bytes → meaning_of bytes ≡ Some line → Performs old new line text → DoesLine old new number bytes text
does-line old new number bytes text line a m p = record {
  notes = p.notes;
  grows = p.grows;
  unmarked = p.unmarked;
  gives = (a, rw m p.gives);
  printed = p.printed;
}

cuts-line : (old new : JournalView) (number : ℕ) (bytes text : List ℕ) (line : Line) → IsAccepted (ids_at (point_of old)) number bytes → meaning_of bytes ≡ Some line → CutsOff old new line text → CutsLine old new number bytes text
cuts-line old new number bytes text line a m c = record {
  notes = c.notes;
  grows = c.grows;
  cut = ⊎_elim (λ e. inl e) (λ h. inr (a, m ∙ ap (λ (l : Line). Some l) h.0, h.1)) c.cut;
  printed = c.printed;
}

pub stops-line : (s : Stop) (old new : JournalView) (number : ℕ) (bytes : List ℕ) (line : Line) (before written : Option (List ℕ)) → IsAccepted (ids_at (point_of old)) number bytes → meaning_of bytes ≡ Some line → StopsPerform s line old new before written → StopsLine s number bytes old new before written
stops-line (stop.Line k) old new number bytes line before written a m h = absurd h
stops-line stop.Read old new number bytes line before written a m h = absurd h
stops-line stop.Write old new number bytes line before written a m h = (h.0, ⊎_elim (λ p. inl (does-line old new number bytes h.0 line a m p)) (λ c. inr (cuts-line old new number bytes h.0 line a m c)) h.1, h.2, h.3)
stops-line stop.Memory old new number bytes line before written a m h = (h.0, cuts-line old new number bytes h.0 line a m h.1, h.2, h.3)
stops-line stop.Full old new number bytes line before written a m h = (h.0, cuts-line old new number bytes h.0 line a m h.1, h.2, h.3)
stops-line stop.LogFull old new number bytes line before written a m h = (h.0, cuts-line old new number bytes h.0 line a m h.1, h.2, h.3)
stops-line stop.Fault old new number bytes line before written a m h = absurd h
stops-line stop.UpkeepFault old new number bytes line before written a m h = absurd h
stops-line stop.Stopped old new number bytes line before written a m h = absurd h

-- the same of what a whole line answers
pub line_done : (r : Result (Unit {0}) Stop) (old new : JournalView) (number : ℕ) (bytes : List ℕ) (line : Line) (before written : Option (List ℕ)) → IsAccepted (ids_at (point_of old)) number bytes → meaning_of bytes ≡ Some line → OnOk r ((text : List ℕ) × Performs old new line text × Appends before written text) → OnOk r ((text : List ℕ) × DoesLine old new number bytes text × Appends before written text)
line_done (Ok u) old new number bytes line before written a m h = (h.0, does-line old new number bytes h.0 line a m h.1, h.2)
line_done (Err s) old new number bytes line before written a m h = tt

pub line_stopped : {D : Type 0} (faults : D → ℕ) (r : Result (Unit {0}) Stop) (old new : LoggedView D) (number : ℕ) (bytes : List ℕ) (line : Line) (before written : Option (List ℕ)) → IsAccepted (ids_at (point_of old.journal)) number bytes → meaning_of bytes ≡ Some line → IfErr r (λ s. StopsPerform s line old.journal new.journal before written × LeavesLog faults s old new ⊎ FailsPerform faults s line old new before written) → IfErr r (λ s. StopsLine s number bytes old.journal new.journal before written × LeavesLog faults s old new ⊎ FailsLine faults s number bytes old new before written)
line_stopped faults (Ok u) old new number bytes line before written a m h = tt
line_stopped faults (Err s) old new number bytes line before written a m h =
    ⊎_elim
    (λ h. inl (stops-line s old.journal new.journal number bytes line before written a m h.0, h.1))
    (λ h. inr (a, rw m h))
    h

-- a call stops what its line asks, before anything is written
pub stops-call : (s : Stop) (line : Line) (old new : JournalView) (before written : Option (List ℕ)) → StopsCall s old new → Appends before written [] → StopsPerform s line old new before written
stops-call (stop.Line k) line old new before written h p = absurd h
stops-call stop.Read line old new before written h p = absurd h
stops-call stop.Write line old new before written h p = absurd h
stops-call stop.Memory line old new before written h p = ([], cuts-none old new line (Grows-by_none old new h), h.unmarked, p)
stops-call stop.Full line old new before written h p = ([], cuts-none old new line h.grows, h.marked, p)
stops-call stop.LogFull line old new before written h p = ([], cuts-none old new line (Grows-by_none old new h), h.unmarked, p)
stops-call stop.Fault line old new before written h p = absurd h
stops-call stop.UpkeepFault line old new before written h p = absurd h
stops-call stop.Stopped line old new before written h p = absurd h

-- ---- a commit that the disk failed

-- its line is told
pub fails-told : {D : Type 0} (faults : D → ℕ) (client : ℕ) (c : TransactionCall) (old new : LoggedView D) (before written : Option (List ℕ)) → FailsCall faults stop.Fault client c old new → Appends before written (line_of (Call client c DiskFault)) → FailsPerform faults stop.Fault (Ask client c) old new before written
fails-told faults client c old new before written h p =
    (client, record { asks = ap (λ (x : TransactionCall). Ask client x) h.0; journal = h.1; lost = h.2 }, subst (λ (x : TransactionCall). Appends before written (line_of (Call client x DiskFault))) h.0 p)

-- or a front of it
pub fails-write : {D : Type 0} (faults : D → ℕ) (s : Stop) (client : ℕ) (c : TransactionCall) (old new : LoggedView D) (before written : Option (List ℕ)) → s ≡ stop.Write → FailsCall faults stop.Fault client c old new → AppendsFront before written (line_of (Call client c DiskFault)) → FailsPerform faults s (Ask client c) old new before written
fails-write faults s client c old new before written e h p =
    subst (λ (s : Stop). FailsPerform faults s (Ask client c) old new before written) (sym e)
    (client, record { asks = ap (λ (x : TransactionCall). Ask client x) h.0; journal = h.1; lost = h.2 }, subst (λ (x : TransactionCall). AppendsFront before written (line_of (Call client x DiskFault))) h.0 p)

-- a call that stops at a fault fails so
pub call-fails : {D : Type 0} (faults : D → ℕ) (client : ℕ) (c : TransactionCall) (old new : LoggedView D) → StopsCall stop.Fault old.journal new.journal × LeavesLog faults stop.Fault old new ⊎ FailsCall faults stop.Fault client c old new → FailsCall faults stop.Fault client c old new
call-fails faults client c old new h = ⊎_elim (λ p. absurd p.0) (λ f. f) h

fails-fault : {D : Type 0} (faults : D → ℕ) (s : Stop) (client : ℕ) (c : TransactionCall) (old new : LoggedView D) → FailsCall faults s client c old new → s ≡ stop.Fault
fails-fault faults (stop.Line k) client c old new f = absurd f
fails-fault faults stop.Read client c old new f = absurd f
fails-fault faults stop.Write client c old new f = absurd f
fails-fault faults stop.Memory client c old new f = absurd f
fails-fault faults stop.Full client c old new f = absurd f
fails-fault faults stop.LogFull client c old new f = absurd f
fails-fault faults stop.Fault client c old new f = refl
fails-fault faults stop.UpkeepFault client c old new f = absurd f
fails-fault faults stop.Stopped client c old new f = absurd f

-- any other stop is no fault
pub call-stops : {D : Type 0} (faults : D → ℕ) (s : Stop) (client : ℕ) (c : TransactionCall) (line : Line) (old new : LoggedView D) (before written : Option (List ℕ)) → (s ≡ stop.Fault → ⊥) → StopsCall s old.journal new.journal × LeavesLog faults s old new ⊎ FailsCall faults s client c old new → Appends before written [] → StopsPerform s line old.journal new.journal before written × LeavesLog faults s old new ⊎ FailsPerform faults s line old new before written
call-stops faults s client c line old new before written other h p =
    ⊎_elim
    (λ h. inl (stops-call s line old.journal new.journal before written h.0 p, h.1))
    (λ f. absurd (other (fails-fault faults s client c old new f)))
    h

-- and no call writes
pub call-unwritten : {D : Type 0} (faults : D → ℕ) (s : Stop) (client : ℕ) (c : TransactionCall) (old new : LoggedView D) → s ≡ stop.Write → StopsCall s old.journal new.journal × LeavesLog faults s old new ⊎ FailsCall faults s client c old new → ⊥
call-unwritten faults s client c old new e h =
    ⊎_elim
    (λ p. p.0)
    (λ f. f)
    (subst (λ (t : Stop). StopsCall t old.journal new.journal × LeavesLog faults t old new ⊎ FailsCall faults t client c old new) e h)

-- ---- upkeep that the disk failed

fails-upkeep : {D : Type 0} (faults : D → ℕ) (s : Stop) (line : Line) (old new : LoggedView D) (before written : Option (List ℕ)) → AsksUpkeep line → FailsUpkeep faults s old new → Appends before written [] → FailsPerform faults s line old new before written
fails-upkeep faults (stop.Line k) line old new before written u f p = absurd f
fails-upkeep faults stop.Read line old new before written u f p = absurd f
fails-upkeep faults stop.Write line old new before written u f p = absurd f
fails-upkeep faults stop.Memory line old new before written u f p = absurd f
fails-upkeep faults stop.Full line old new before written u f p = absurd f
fails-upkeep faults stop.LogFull line old new before written u f p = absurd f
fails-upkeep faults stop.Fault line old new before written u f p = absurd f
fails-upkeep faults stop.UpkeepFault line old new before written u f p = (u, f.0, f.1, p)
fails-upkeep faults stop.Stopped line old new before written u f p = absurd f

-- upkeep stops what its line asks, or the disk fails it, and nothing is written
pub upkeep-stops : {D : Type 0} (faults : D → ℕ) (s : Stop) (line : Line) (old new : LoggedView D) (before written : Option (List ℕ)) → AsksUpkeep line → StopsCall s old.journal new.journal × LeavesLog faults s old new ⊎ FailsUpkeep faults s old new → Appends before written [] → StopsPerform s line old.journal new.journal before written × LeavesLog faults s old new ⊎ FailsPerform faults s line old new before written
upkeep-stops faults s line old new before written u h p =
    ⊎_elim
    (λ h. inl (stops-call s line old.journal new.journal before written h.0 p, h.1))
    (λ f. inr (fails-upkeep faults s line old new before written u f p))
    h

pub upkeep-err : {D : Type 0} (faults : D → ℕ) (r : Result (Unit {0}) Stop) (line : Line) (old new : LoggedView D) (before written : Option (List ℕ)) → AsksUpkeep line → IfErr r (λ s. StopsCall s old.journal new.journal × LeavesLog faults s old new ⊎ FailsUpkeep faults s old new) → Appends before written [] → IfErr r (λ s. StopsPerform s line old.journal new.journal before written × LeavesLog faults s old new ⊎ FailsPerform faults s line old new before written)
upkeep-err faults (Ok u) line old new before written u' h p = tt
upkeep-err faults (Err s) line old new before written u h p = upkeep-stops faults s line old new before written u h p

-- ---- nothing

-- a line that asks nothing
pub nothing-performs : (j : JournalView) → Performs j j Nothing []
nothing-performs j = record { notes = []; grows = Grows-none j; unmarked = refl; gives = refl; printed = refl }

-- nothing is written
pub Keeps-same : (written : Option (List ℕ)) → Keeps written written
Keeps-same None = tt
Keeps-same (Some xs) = refl
