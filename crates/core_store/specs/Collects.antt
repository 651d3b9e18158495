-- What the events of the collector make of the queue and the open round, in the words of the cells, the references and the locks
-- before them.
use Rattle.std.specs.Prelude.{◌≡◌, ℕ, Bool, true, false, not, ◌&&◌, ◌==◌, if◌then◌else◌, List, [], ◌∷◌, ◌++◌, map, filter, Contains, Option, Some, None, ◌⊎◌}
use Rattle.plain_model.specs.declared.calls.Entry.{Entry}
use Rattle.plain_model.specs.declared.calls.Entry.TheVariants.{Delete, Hidden}
use Rattle.plain_model.specs.Graphs.{root}
use Rattle.cell_model.specs.Cells.{cell_at}
use Rattle.cell_model.specs.Records.{HasNoPointer}
use Rattle.store_model.specs.Core.{Round, Core, is_named}
use Rattle.store_model.specs.Steps.{opened_round, with_listed, with_copy, with_verdict, with_left}
use Rattle.cell_model.specs.Strong.{HasNoStrongOut}
use Rattle.store_model.specs.Verdict.{IsSeed, IsLive, IsCondemned}
use Rattle.ref_tables.specs.Queue.{has, without, joined}
use Rattle.green_walk.specs.Judged.{Picks}
use Rattle.log_record.specs.declared.cell_record.CellRecord.{CellRecord}
use Rattle.log_record.specs.declared.cell_record.CellRecord.TheVariants as logs
use Rattle.log_record.specs.Records.{after_cell_record}
use Rattle.core_store.specs.Changes.{has_no_strong}
use Rattle.core_store.specs.RoundView.{RoundView, Sweeping}
use Rattle.core_store.specs.Queued.{all_joined}
use Rattle.core_store.specs.declared.act.Act.{Act}
use Rattle.core_store.specs.declared.act.Act.TheVariants as act

-- no strong pointer leads to the object, and no client names it
abbrev pub is_loose : Core → ℕ → Bool
is_loose c id = has_no_strong (cell_at c.cells id) && not (is_named c.refs id)

-- the object isn't the root and isn't in the round, and no strong pointer leads to it after this record
abbrev pub is_let_go : ℕ → Core → Round → CellRecord → ℕ → Bool
is_let_go slots c r logged id = not (id == root) && (not (has r.list id) && has_no_strong (cell_at (after_cell_record slots c.cells logged) id))

-- no round is open, and the first object of the queue is passed over
pub record Skips (c : Core) (id : ℕ) (queue : List ℕ) (round : Option Round) : Type 0 where
  pub none : c.round ≡ None
  pub «first» : c.queue ≡ id ∷ queue
  pub kept : is_loose c id ≡ false
  pub still : round ≡ None

-- no round is open, and one opens with the first object of the queue
pub record Starts (c : Core) (id : ℕ) (queue : List ℕ) (round : Option Round) : Type 0 where
  pub none : c.round ≡ None
  pub «first» : c.queue ≡ id ∷ queue
  pub loose : is_loose c id ≡ true
  pub opened : round ≡ Some (opened_round id)

-- a pointer out of an object of the round becomes weak before anything is copied; where this lets the target go, it leaves the
-- queue and joins the round
pub record Weakens (slots : ℕ) (c : Core) (id slot target : ℕ) (queue : List ℕ) (round : Option Round) : Type 0 where
  pub of : Round
  pub there : c.round ≡ Some of
  pub before : of.judged ≡ false
  pub uncopied : of.copies ≡ []
  pub listed : Contains of.list id
  pub queue_is : queue ≡ (if is_let_go slots c of (logs.Weaken id slot target) target then without c.queue target else c.queue)
  pub round_is : round ≡ Some (if is_let_go slots c of (logs.Weaken id slot target) target then with_listed of target else of)

-- the first object that wasn't copied is copied, as its cell is now
pub record Scans (c : Core) (id : ℕ) (queue : List ℕ) (round : Option Round) : Type 0 where
  pub of : Round
  pub there : c.round ≡ Some of
  pub before : of.judged ≡ false
  pub rest : List ℕ
  pub next : of.list ≡ map (λ e. e.0) of.copies ++ id ∷ rest
  pub queue_is : queue ≡ c.queue
  pub round_is : round ≡ Some (with_copy of id (cell_at c.cells id))

-- all objects were copied, and exactly those are condemned that don't live by the copies, in the list's order
pub record Judges (c : Core) (queue : List ℕ) (round : Option Round) : Type 0 where
  pub of : Round
  pub there : c.round ≡ Some of
  pub before : of.judged ≡ false
  pub all : map (λ e. e.0) of.copies ≡ of.list
  pub condemned : List ℕ
  pub exact : Picks (IsCondemned c of) of.list condemned
  pub queue_is : queue ≡ c.queue
  pub round_is : round ≡ Some (with_verdict of condemned)

-- a pointer out of a condemned object is removed; where it was the last strong one to the target and no client names that, the
-- target joins the queue
pub record Cuts (slots : ℕ) (c : Core) (id slot target : ℕ) (was_strong : Bool) (queue : List ℕ) (round : Option Round) : Type 0 where
  pub of : Round
  pub there : c.round ≡ Some of
  pub behind : of.judged ≡ true
  pub condemned : Contains of.condemned id
  pub queue_is : queue ≡ (if was_strong && (is_let_go slots c of (logs.CutDead id slot target was_strong) target && not (is_named c.refs target)) then joined c.queue target else c.queue)
  pub round_is : round ≡ Some of

-- all pointers out of condemned objects were removed, and the first of these objects is freed
pub record Frees (c : Core) (id : ℕ) (queue : List ℕ) (round : Option Round) : Type 0 where
  pub of : Round
  pub there : c.round ≡ Some of
  pub behind : of.judged ≡ true
  pub left : List ℕ
  pub «first» : of.condemned ≡ id ∷ left
  pub emptied : (x : ℕ) → Contains of.condemned x → HasNoPointer (cell_at c.cells x)
  pub queue_is : queue ≡ c.queue
  pub round_is : round ≡ Some (with_left of (without of.list id) left)

-- all condemned objects were freed, and the round closes; its other objects join the queue in order where no strong pointer leads
-- to them and no client names them
pub record Ends (c : Core) (queue : List ℕ) (round : Option Round) : Type 0 where
  pub of : Round
  pub there : c.round ≡ Some of
  pub behind : of.judged ≡ true
  pub none_left : of.condemned ≡ []
  pub queue_is : queue ≡ all_joined c.queue (filter (is_loose c) of.list)
  pub round_is : round ≡ None

-- an event of the green walk, which comes after the sweep, at an object that lives: the queue and the round stay
pub record Greens (c : Core) (id : ℕ) (queue : List ℕ) (round : Option Round) : Type 0 where
  pub of : Round
  pub there : c.round ≡ Some of
  pub behind : of.judged ≡ true
  pub none_left : of.condemned ≡ []
  pub listed : Contains of.list id
  pub queue_is : queue ≡ c.queue
  pub round_is : round ≡ Some of

-- the object gets its strong pointers again from where it is: no strong pointer leads to it, and none out of it
pub record IsWhite (c : Core) (id : ℕ) : Type 0 where
  pub zero : has_no_strong (cell_at c.cells id) ≡ true
  pub none_out : HasNoStrongOut c.cells id

-- an object is flipped to which no strong pointer leads, and out of which none leads
pub record Flips (c : Core) (id : ℕ) (queue : List ℕ) (round : Option Round) : Type 0 where
  pub greens : Greens c id queue round
  pub white : IsWhite c id

-- a strong pointer between two objects of the round becomes weak again; the green walk asks for it after a flip of its target
pub record WeakensInto (c : Core) (id target : ℕ) (queue : List ℕ) (round : Option Round) : Type 0 where
  pub greens : Greens c id queue round
  pub target_listed : Contains greens.of.list target

-- a pointer between two objects of the round becomes strong: no strong pointer leads to its target, and none out of it
pub record Strengthens (c : Core) (id target : ℕ) (queue : List ℕ) (round : Option Round) : Type 0 where
  pub greens : Greens c id queue round
  pub target_listed : Contains greens.of.list target
  pub white : IsWhite c target

-- the green walk begins with the seeds and the objects that live by the copies, in the list's order
abbrev pub BeginsGreen : Core → RoundView → Type 0
BeginsGreen c (Sweeping w s slot g) = (r : Round) → c.round ≡ Some r → Picks (IsSeed c r) r.list g.seeds × Picks (IsLive c r) r.list g.live
BeginsGreen c _ = ⊥

-- what an event of the collector makes of the queue and the round
abbrev pub Collects : ℕ → Core → Act → Option CellRecord → List ℕ → Option Round → Type 0
Collects slots c (act.Skip id) None queue round = Skips c id queue round
Collects slots c (act.Start id) None queue round = Starts c id queue round
Collects slots c act.Change (Some (logs.Weaken id slot target)) queue round = Weakens slots c id slot target queue round ⊎ WeakensInto c id target queue round
Collects slots c (act.Scan id) None queue round = Scans c id queue round
Collects slots c act.Judge None queue round = Judges c queue round
Collects slots c act.Change (Some (logs.CutDead id slot target was_strong)) queue round = Cuts slots c id slot target was_strong queue round
Collects slots c act.Change (Some (logs.Free id)) queue round = Frees c id queue round
Collects slots c act.Change (Some (logs.Flip id)) queue round = Flips c id queue round
Collects slots c act.Change (Some (logs.Strengthen id slot target)) queue round = Strengthens c id target queue round
Collects slots c act.End None queue round = Ends c queue round
Collects slots c _ _ queue round = ⊥

-- the history's entry of an event of the collector that logs this
abbrev pub entry_of : Option CellRecord → Entry
entry_of (Some (logs.Free id)) = Delete id
entry_of _ = Hidden
