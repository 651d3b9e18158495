-- What a run of several clients leaves.
use Rattle.std.specs.Prelude.{◌≡◌, ◌≢◌, ◌⊎◌, ℕ, ◌+◌, ◌≤◌, ◌==◌, if◌then◌else◌, Bool, true, false, List, [], ◌∷◌, ◌++◌, length, Option, Some, None, Ok}
use Rattle.std.specs.List.{AllByRecursion}
use Rattle.plain_model.specs.declared.calls.Entry.{Entry}
use Rattle.plain_model.specs.declared.calls.Entry.TheVariants.{Hidden, Delete}
use Rattle.plain_model.specs.declared.calls.Reply.TheVariants as reply
use Rattle.disk_model.specs.declared.area.Area.{Area}
use Rattle.disk_model.specs.Areas.{Bytes}
use Rattle.core_store.specs.declared.act.Act.TheVariants.{Other}
use Rattle.core_store.specs.declared.note.Note.{Note}
use Rattle.core_store.specs.declared.collect.Collect.TheVariants.{Idle}
use Rattle.core_store.specs.JournalView.{JournalView}
use Rattle.core_store.specs.RoundView.{Closed}
use Rattle.disk_model.specs.Causes.{Rose}
use Rattle.latch_table.specs.declared.view.Station.{Station}
use Rattle.latch_table.specs.Views.{KeepMarks, is_listed, truth_of}
use Rattle.shared_store.specs.Chronicles.Clients.{speaker_of}
use Rattle.shared_store.specs.declared.refused.Refused.{Refused}
use Rattle.shared_store.specs.Passes.{Known, IsClient}
use Rattle.shared_store.specs.Calls.{MakesCollect, KeepsNone}
use Rattle.client_pass.specs.declared.ends.WorkEnd.{WorkEnd}
use Rattle.client_pass.specs.declared.ends.WorkEnd.TheVariants.{Finished, Disk, Limit}
use Rattle.client_pass.specs.declared.script.ClientScript.{ClientScript}
use Rattle.client_pass.specs.Attempts.{Attempts, Begun}
use Rattle.client_pass.specs.Scripts.{AreInRange}
use Rattle.client_pass.specs.Workings.{Ascend, KeepsAll, calls_of, IsEnd, IsToldToClient, IsToldToCollector, weight}

-- ---- entries of several clients

-- whether the entry speaks for the client
abbrev pub speaks_for : ℕ → Option ℕ → Bool
speaks_for client None = false
speaks_for client (Some c) = c == client

-- the entries among these that speak for the client
abbrev pub entries_of : ℕ → List (ℕ × Note) → List (ℕ × Note)
entries_of client [] = []
entries_of client (k ∷ kept) = if speaks_for client (speaker_of k.1.entry) then k ∷ entries_of client kept else entries_of client kept

-- their places ascend, from what was seen before the run up to what was seen after it
abbrev pub AreInOrder : ℕ → ℕ → List (ℕ × Note) → Type 0
AreInOrder least behind kept = (last : ℕ) × Ascend least kept last × (last ≤ behind)

-- ---- the collector

-- an entry of the collector: something that no line tells, or a deletion
abbrev pub IsOfCollector : Entry → Type 0
IsOfCollector Hidden = Unit {0}
IsOfCollector (Delete id) = Unit {0}
IsOfCollector _ = ⊥

-- a note of the collector: it is of one of its events
pub record IsNoteOfCollector (n : Note) : Type 0 where
  pub entry : IsOfCollector n.entry
  pub act : n.act ≢ Other

-- the pass keeps what the collector did, and nothing else
pub record Collects {slots : ℕ} (old new : Known slots) : Type 0 where
  pub kept : List (ℕ × Note)
  pub keeps : KeepsAll old new kept
  pub each : AllByRecursion (λ k. IsNoteOfCollector k.1) kept
  pub truth : new.knowledge.truth ≡ old.knowledge.truth

-- the collector's queue is empty, and no round is open
pub record HasNothingLeft (j : JournalView) : Type 0 where
  pub queue : j.queue ≡ []
  pub round : j.round ≡ Closed

-- The collector was asked last, and had nothing to do: the journal that it found has nothing left. The pass has the same place in
-- the store as before it asked
pub record IsCollected (D : Type 0) (slots : ℕ) (new : Known slots) : Type 0 where
  pub before : Known slots
  pub station : before.station ≡ new.station
  pub fixed : new.knowledge.fixed ≡ before.knowledge.fixed
  pub kept : KeepsNone before new
  pub idle : MakesCollect D slots before new (Ok Idle)
  pub rests : HasNothingLeft idle.before.journal

-- ---- the clients

-- no script is the client's
abbrev pub IsNobody : ℕ → List ClientScript → Type 0
IsNobody client scripts = AllByRecursion (λ s. s.pass ≢ client) scripts

-- the clients of the scripts differ
abbrev pub AreApart : List ClientScript → Type 0
AreApart [] = Unit {0}
AreApart (s ∷ scripts) = IsNobody s.pass scripts × AreApart scripts

-- the main pass may make a pass of the script's client, which has no transaction
pub record MayRun (slots : ℕ) (main : Station) (s : ClientScript) : Type 0 where
  pub client : IsClient s.pass
  pub fresh : (s.pass ≢ main.name) × (is_listed main.names s.pass ≡ false)
  pub none : truth_of main.truths s.pass ≡ false
  pub in_range : AreInRange slots s.txns

-- the client's calls are those of its attempts, and it has no transaction; where the run ended early they are the beginning of
-- such
pub record DoesScript {slots : ℕ} (new : Known slots) (kept : List (ℕ × Note)) (end : WorkEnd) (s : ClientScript) : Type 0 where
  pub begun : Begun (Attempts s.txns) (calls_of s.pass kept)
  pub finished : end ≡ Finished → Attempts s.txns (calls_of s.pass kept) × (truth_of new.station.truths s.pass ≡ false)

-- the main pass has come back to what it was, with so many passes made and taken in again
pub record HasComeBack (old new : Station) (made : ℕ) : Type 0 where
  pub main : new.main ≡ true
  pub alive : new.alive ≡ old.alive
  pub name : new.name ≡ old.name
  pub number : new.number ≡ old.number
  pub others : new.others ≡ old.others
  pub last : new.last ≡ old.last + made
  pub names : (name : ℕ) → is_listed old.names name ≡ false → is_listed new.names name ≡ false

-- The clients of these scripts worked, each in its own order, beside a collector. The main pass keeps what all of them did.
pub record RunsScripts {slots : ℕ} (old new : Known slots) (scripts : List ClientScript) (end : WorkEnd) : Type 0 where
  pub station : HasComeBack old.station new.station (length scripts)
  pub fixed : new.knowledge.fixed ≡ old.knowledge.fixed
  pub peeks : new.knowledge.peeks ≡ old.knowledge.peeks
  pub truth : new.knowledge.truth ≡ old.knowledge.truth
  pub marks : KeepMarks old.knowledge.marks new.knowledge.marks
  pub seen : old.knowledge.seen ≤ new.knowledge.seen
  pub kept : List (ℕ × Note)
  pub entries : new.knowledge.entries ≡ old.knowledge.entries ++ kept
  pub scripts_done : AllByRecursion (DoesScript new kept end) scripts
  pub in_order : (client : ℕ) → AreInOrder old.knowledge.seen new.knowledge.seen (entries_of client kept)
  pub nobody : (client : ℕ) → IsNobody client scripts → entries_of client kept ≡ []
  -- what speaks for nobody is of an event of the collector
  pub collected : AllByRecursion (λ k. speaker_of k.1.entry ≡ None → IsNoteOfCollector k.1) kept
  -- the truths of other clients stay
  pub others : (client : ℕ) → IsNobody client scripts → truth_of new.station.truths client ≡ truth_of old.station.truths client

-- ---- how it ends

-- a client of the run came to this end, or the collector, and it names the store's last answer to that one's pass
abbrev pub EndsRun : (D : Type 0) → (slots : ℕ) → (D → Area → Option (List ℕ)) → (D → Area → List ℕ → Type 0) → (D → ℕ) → (D → ℕ) → (D → ℕ → Bytes → Type 0) → Known slots → WorkEnd → Type 0
EndsRun D slots content may_leave faults moment left_since main end =
    IsEnd end × ((own : Known slots) × (own.knowledge.fixed ≡ main.knowledge.fixed) × (IsToldToClient D slots content may_leave faults moment left_since own end ⊎ IsToldToCollector D slots own end))

-- ---- refusals

-- each is a number of its type
pub record AreCounts (r : Refused) : Type 0 where
  pub disk : r.disk ≤ 18446744073709551615
  pub trace : r.trace ≤ 18446744073709551615
  pub log : r.log ≤ 18446744073709551615

-- no count fell
pub record HaveGrown (old new : Refused) : Type 0 where
  pub disk : old.disk ≤ new.disk
  pub trace : old.trace ≤ new.trace
  pub log : old.log ≤ new.log

-- the count rose that the end tells of
abbrev pub RoseBy : WorkEnd → Refused → Refused → Type 0
RoseBy (Disk r) old new = Rose old.disk new.disk
RoseBy (Limit reply.TraceFull) old new = Rose old.trace new.trace
RoseBy (Limit r) old new = Rose old.log new.log
RoseBy _ old new = Unit {0}

-- the end is the worst that befell anyone: where the disk refused, it is that of the disk, and where a limit did, that or a
-- limit's
pub record TellsWorst (end : WorkEnd) (old new : Refused) : Type 0 where
  pub disk : new.disk ≢ old.disk → weight end ≡ 3
  pub trace : new.trace ≢ old.trace → 2 ≤ weight end
  pub log : new.log ≢ old.log → 2 ≤ weight end

-- what the counts tell of a run that ended so
pub record CountsRefusals (end : WorkEnd) (old new : Refused) : Type 0 where
  pub grown : HaveGrown old new
  pub rose : RoseBy end old new
  pub worst : TellsWorst end old new
