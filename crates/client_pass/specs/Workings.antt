-- What the calls of a client's pass leave.
use Rattle.std.specs.Prelude.{◌≡◌, ◌⊎◌, ℕ, ◌+◌, ◌≤◌, false, List, [], ◌∷◌, ◌++◌, map, Option, Some, None, Result, Ok, Err, IfOk, IfErr}
use Rattle.std.specs.List.{AllByRecursion}
use Rattle.plain_model.specs.declared.calls.Call.{Call}
use Rattle.plain_model.specs.declared.calls.Call.TheVariants.{Abort}
use Rattle.plain_model.specs.declared.calls.Reply.{Reply}
use Rattle.plain_model.specs.declared.calls.Reply.TheVariants as reply
use Rattle.disk_model.specs.declared.area.Area.{Area}
use Rattle.disk_model.specs.Areas.{Bytes}
use Rattle.core_store.specs.declared.collect.Collect.{Collect}
use Rattle.core_store.specs.declared.collect.Collect.TheVariants as collected
use Rattle.core_store.specs.declared.note.Note.{Note}
use Rattle.latch_table.specs.Views.{KeepMarks}
use Rattle.shared_store.specs.Chronicles.Clients.{speaker_of}
use Rattle.shared_store.specs.Chronicles.Steps.{entered_by_call}
use Rattle.shared_store.specs.declared.answers.CollectRefusal.{CollectRefusal}
use Rattle.shared_store.specs.declared.answers.CollectRefusal.TheVariants as refusal
use Rattle.shared_store.specs.declared.answers.StepRefusal.TheVariants as step
use Rattle.shared_store.specs.declared.refused.Refused.{Refused}
use Rattle.shared_store.specs.Passes.{Known}
use Rattle.shared_store.specs.Calls.{GoesOnAs, MakesCall, MakesStep, MakesCollect, entered_by_collecting, found_by_call, found_by_collecting, refused_by_call}
use Rattle.client_pass.specs.declared.ends.WorkEnd.{WorkEnd}
use Rattle.client_pass.specs.declared.ends.WorkEnd.TheVariants.{Finished, Disk, Limit, Memory}
use Rattle.client_pass.specs.Attempts.{Deed, Made, calls_in, has_after, AreUndos, Attempts, Begun}

-- ---- entries that a pass keeps, each with its place in the history

-- the places ascend, the first being at least this number; the second number is that after the last place
abbrev pub Ascend : ℕ → List (ℕ × Note) → ℕ → Type 0
Ascend least [] behind = behind ≡ least
Ascend least (k ∷ kept) behind = (least ≤ k.0) × Ascend (k.0 + 1) kept behind

-- each is of a call or an undo of this client
abbrev pub AreOfClient : ℕ → List (ℕ × Note) → Type 0
AreOfClient client kept = AllByRecursion (λ k. speaker_of k.1.entry ≡ Some client) kept

-- the client's calls and undos among them
abbrev pub calls_of : ℕ → List (ℕ × Note) → List Deed
calls_of client kept = calls_in client (map (λ k. k.1.entry) kept)

-- ---- calls of one pass

-- the pass keeps these entries more, each at a place that isn't below what it had seen then
pub record KeepsAll {slots : ℕ} (old new : Known slots) (kept : List (ℕ × Note)) : Type 0 where
  pub station : new.station ≡ old.station
  pub fixed : new.knowledge.fixed ≡ old.knowledge.fixed
  pub peeks : new.knowledge.peeks ≡ old.knowledge.peeks
  pub marks : KeepMarks old.knowledge.marks new.knowledge.marks
  pub entries : new.knowledge.entries ≡ old.knowledge.entries ++ kept
  pub places : Ascend old.knowledge.seen kept new.knowledge.seen

-- what the pass's client did is such, and the pass keeps all of it
pub record Makes {slots : ℕ} (old new : Known slots) (AreSuch : List Deed → Type 0) : Type 0 where
  pub kept : List (ℕ × Note)
  pub keeps : KeepsAll old new kept
  pub own : AreOfClient old.station.name kept
  pub made : List Deed
  pub made_is : made ≡ calls_of old.station.name kept
  pub truth : new.knowledge.truth ≡ has_after old.knowledge.truth made
  pub such : AreSuch made

-- nothing
abbrev pub AreNone : List Deed → Type 0
AreNone made = made ≡ []

-- this call alone, answered so
abbrev pub IsOne : Call → Reply → List Deed → Type 0
IsOne call r made = made ≡ Made call r ∷ []

-- the call was refused, or it was a commit that the disk failed, or an abort that was stopped after some undos
abbrev pub IsCutOff : Call → List Deed → Type 0
IsCutOff call made = (made ≡ []) ⊎ ((made ≡ Made call reply.DiskFault ∷ []) ⊎ ((call ≡ Abort) × AreUndos made))

-- ---- how a client's work ends

-- the end of the work that the reply means, if it means one
abbrev pub end_of : Reply → Option WorkEnd
end_of (reply.Stopped faults) = Some (Disk (reply.Stopped faults))
end_of reply.DiskFault = Some (Disk reply.DiskFault)
end_of reply.TraceFull = Some (Limit reply.TraceFull)
end_of reply.LogFull = Some (Limit reply.LogFull)
end_of reply.Memory = Some Memory
end_of _ = None

-- an end that a reply means
abbrev pub IsEnd : WorkEnd → Type 0
IsEnd (Disk r) = end_of r ≡ Some (Disk r)
IsEnd (Limit r) = end_of r ≡ Some (Limit r)
IsEnd Memory = Unit {0}
IsEnd Finished = ⊥

-- ---- what the store answered last

-- The pass's last call was answered so: the store made it or refused it as its clause says, and left the pass as it is now
pub record WasAnswered (D : Type 0) (slots : ℕ) (content : D → Area → Option (List ℕ)) (may_leave : D → Area → List ℕ → Type 0) (faults : D → ℕ) (moment : D → ℕ) (left_since : D → ℕ → Bytes → Type 0) (now : Known slots) (r : Reply) : Type 0 where
  pub before : Known slots
  pub call : Call
  pub knows : GoesOnAs before now (entered_by_call before.station.name call r) (found_by_call r)
  pub made : MakesCall D slots content may_leave faults moment left_since before now call r

-- the last step of the client's abort was refused, since the disk had failed a call, with this count of faults
pub record WasStopped (D : Type 0) (slots : ℕ) (now : Known slots) (count : ℕ) : Type 0 where
  pub before : Known slots
  pub knows : GoesOnAs before now None None
  pub made : MakesStep D slots before now (Err (step.Stopped count))

-- the pass asked the collector last, which answered so
pub record WasCollecting (D : Type 0) (slots : ℕ) (now : Known slots) (answer : Result Collect CollectRefusal) : Type 0 where
  pub before : Known slots
  pub knows : GoesOnAs before now (entered_by_collecting answer) (found_by_collecting answer)
  pub made : MakesCollect D slots before now answer

-- the end that an answer of the collector means, if it means one
abbrev pub end_of_collecting : Result Collect CollectRefusal → Option WorkEnd
end_of_collecting (Ok collected.TraceFull) = Some (Limit reply.TraceFull)
end_of_collecting (Ok collected.Memory) = Some Memory
end_of_collecting (Err (refusal.Stopped faults)) = Some (Disk (reply.Stopped faults))
end_of_collecting (Err refusal.LogFull) = Some (Limit reply.LogFull)
end_of_collecting _ = None

-- the store's last answer to the client's pass means this end
abbrev pub IsToldToClient : (D : Type 0) → (slots : ℕ) → (D → Area → Option (List ℕ)) → (D → Area → List ℕ → Type 0) → (D → ℕ) → (D → ℕ) → (D → ℕ → Bytes → Type 0) → Known slots → WorkEnd → Type 0
IsToldToClient D slots content may_leave faults moment left_since now end =
    ((r : Reply) × (end_of r ≡ Some end) × WasAnswered D slots content may_leave faults moment left_since now r)
    ⊎ ((count : ℕ) × (end ≡ Disk (reply.Stopped count)) × WasStopped D slots now count)

-- the collector's last answer to the pass means this end
abbrev pub IsToldToCollector : (D : Type 0) → (slots : ℕ) → Known slots → WorkEnd → Type 0
IsToldToCollector D slots now end = (answer : Result Collect CollectRefusal) × (end_of_collecting answer ≡ Some end) × WasCollecting D slots now answer

-- a client's work came to this end, which names the store's last answer to its pass
abbrev pub EndsWork : (D : Type 0) → (slots : ℕ) → (D → Area → Option (List ℕ)) → (D → Area → List ℕ → Type 0) → (D → ℕ) → (D → ℕ) → (D → ℕ → Bytes → Type 0) → Known slots → WorkEnd → Type 0
EndsWork D slots content may_leave faults moment left_since now end = IsEnd end × IsToldToClient D slots content may_leave faults moment left_since now end

-- the collector came to this end, which names its last answer
abbrev pub EndsCollecting : (D : Type 0) → (slots : ℕ) → Known slots → WorkEnd → Type 0
EndsCollecting D slots now end = IsEnd end × IsToldToCollector D slots now end

-- ---- counts

-- how much an end weighs: that of the disk more than that of a limit, and this more than want of memory
abbrev pub weight : WorkEnd → ℕ
weight Finished = 0
weight Memory = 1
weight (Limit r) = 2
weight (Disk r) = 3

-- the counts of refusals: the reply that ended the work is the only one that is counted
abbrev pub refused_by_work : WorkEnd → Refused → Refused
refused_by_work (Disk r) refused = refused_by_call r refused
refused_by_work (Limit r) refused = refused_by_call r refused
refused_by_work _ refused = refused

-- the same, where the work may go on
abbrev pub refused_after : {T : Type 0} → Result T WorkEnd → Refused → Refused
refused_after (Ok x) refused = refused
refused_after (Err end) refused = refused_by_work end refused

-- of an abort of a transaction: it is done, or nothing was entered but undone writes
pub record Aborts {slots : ℕ} (old new : Known slots) (result : Result Reply WorkEnd) : Type 0 where
  pub ok : IfOk result (λ r. r ≡ reply.Done)
  pub err : IfErr result (λ end. Makes old new AreUndos)

-- The pass's client does these transactions, up to an end. It makes no call but those of its attempts, undoes nothing but in the
-- aborts among them, and the pass keeps it all.
pub record DoesTransactions {slots : ℕ} (old new : Known slots) (transactions : List (List Call)) (end : WorkEnd) : Type 0 where
  pub kept : List (ℕ × Note)
  pub keeps : KeepsAll old new kept
  pub own : AreOfClient old.station.name kept
  pub begun : Begun (Attempts transactions) (calls_of old.station.name kept)
  pub finished : end ≡ Finished → Attempts transactions (calls_of old.station.name kept) × (new.knowledge.truth ≡ false)
