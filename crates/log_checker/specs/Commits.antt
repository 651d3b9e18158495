-- What the commits of a log do to a graph.
use Rattle.std.specs.Prelude.{ℕ, Bool, true, false, ◌==◌, if◌then◌else◌, List, [], ◌∷◌, ◌++◌, fold, count_by}
use Rattle.plain_model.specs.declared.object.Object.{Object}
use Rattle.plain_model.specs.declared.write.Place.TheVariants.{Slot, Payload, Whole}
use Rattle.plain_model.specs.declared.write.Write.{Write}
use Rattle.plain_model.specs.Graphs.{applied}
use Rattle.log_record.specs.declared.cell_record.CellRecord.{CellRecord}
use Rattle.log_record.specs.declared.cell_record.CellRecord.TheVariants.{Begin, Make, Store, Pay, Commit, AbortEnd}
use Rattle.log_record.specs.declared.record.Record.{Record}
use Rattle.log_record.specs.declared.record.Record.TheVariants.{OfCells}

-- ---- the writes of a transaction

-- the new object is written whole
abbrev pub make_write : ℕ → Write
make_write id = record { id = id; place = Whole; value = 0 }

-- the target is written into a slot
abbrev pub slot_write : (id slot target : ℕ) → Write
slot_write id slot target = record { id = id; place = Slot slot; value = target }

-- the value is written as the payload
abbrev pub payload_write : (id value : ℕ) → Write
payload_write id value = record { id = id; place = Payload; value = value }

-- the write that the record tells, where it is one of this client
abbrev pub write_by : ℕ → CellRecord → List Write
write_by pass (Make client id) = if client == pass then make_write id ∷ [] else []
write_by pass (Store client id slot old_target old_strong new_target new_bit new_strong) = if client == pass then slot_write id slot new_target ∷ [] else []
write_by pass (Pay client id old_value new_value) = if client == pass then payload_write id new_value ∷ [] else []
write_by pass _ = []

-- whether a transaction of this client begins or ends with the record
abbrev pub is_bound : ℕ → CellRecord → Bool
is_bound pass (Begin client) = client == pass
is_bound pass (Commit client) = client == pass
is_bound pass (AbortEnd client) = client == pass
is_bound pass _ = false

-- the writes of the client's open transaction, with one record more
abbrev pub open_after : {slots : ℕ} → ℕ → List Write → Record slots → List Write
open_after pass ws (OfCells r) = if is_bound pass r then [] else ws ++ write_by pass r
open_after pass ws _ = ws

-- the writes of the client's transaction that is open after these records, in order: those since it began
abbrev pub open_writes : {slots : ℕ} → ℕ → List (Record slots) → List Write
open_writes pass rs = fold (open_after pass) [] rs

-- ---- the commits

-- the writes that are committed by this record, where those records came before it
abbrev pub committed_by : {slots : ℕ} → List (Record slots) → Record slots → List Write
committed_by before (OfCells (Commit pass)) = open_writes pass before
committed_by before _ = []

-- the writes that are committed by these records, in the order of the commits, where those came before them
abbrev pub committed_behind : {slots : ℕ} → (before rs : List (Record slots)) → List Write
committed_behind before [] = []
committed_behind before (r ∷ rs) = committed_by before r ++ committed_behind (before ++ r ∷ []) rs

-- The fold of a log: the graph with the writes of each transaction that has a commit among the records, in the order of the commits.
abbrev pub folded : {slots : ℕ} → List Object → List (Record slots) → List Object
folded {slots} g rs = applied slots g (committed_behind [] rs)

-- whether the record is a commit
abbrev pub is_commit : {slots : ℕ} → Record slots → Bool
is_commit (OfCells (Commit pass)) = true
is_commit _ = false

-- how many commits are among the records
abbrev pub commit_count : {slots : ℕ} → List (Record slots) → ℕ
commit_count rs = count_by is_commit rs
