-- The laws of a journal with a collector, where the collector acts: all that the journal keeps is kept.
use Rattle.std.specs.Prelude.{◌≡◌, ◌≢◌, ℕ, Bool, true, false, List, [], ◌∷◌, ◌++◌, map, Some, None, Contains, ◌⊎◌}
use Rattle.plain_model.specs.Graphs.{root}
use Rattle.plain_model.specs.ActiveTransaction.{ActiveTransaction}
use Rattle.plain_model.specs.History.{holds}
use Rattle.cell_model.specs.Cells.{cell_at}
use Rattle.cell_model.specs.Records.{Weaken, Strengthen, Flip, CutDead, Free, after_record, Fits, IsWellLaid}
use Rattle.store_model.specs.Core.{Round, Core, is_named, IsActive}
use Rattle.store_model.specs.Sound.{IsOnce, IsSound}
use Rattle.store_model.specs.Verdict.{IsCondemned}
use Rattle.store_model.specs.Steps.{IsQuiet, IsTracked, IsWithout, opened_round, condemned_round, with_listed, with_copy, with_verdict, with_left, after_change, after_look, after_collect, after_free}

-- ---- the queue and the start of a round

-- the journal stays sound where the first object of the queue is passed over, since it has a strong pointer or a name
abbrev pub SkipLaw : Type 0
SkipLaw = (c : Core) → IsSound c → (id : ℕ) (rest : List ℕ) → c.queue ≡ id ∷ rest → ((cell_at c.cells id).strong ≢ 0) ⊎ (is_named c.refs id ≡ true) → IsSound (after_look c rest c.round)

-- the journal stays sound where the first object of the queue goes to the queue's end
abbrev pub RequeueLaw : Type 0
RequeueLaw = (c : Core) → IsSound c → (id : ℕ) (rest : List ℕ) → c.queue ≡ id ∷ rest → IsSound (after_look c (rest ++ id ∷ []) c.round)

-- the journal stays sound where a round opens with the first object of the queue
abbrev pub StartLaw : Type 0
StartLaw = (c : Core) → IsSound c → (id : ℕ) (rest : List ℕ) → c.queue ≡ id ∷ rest → c.round ≡ None → IsSound (after_look c rest (Some (opened_round id)))

-- the journal stays sound where a round opens that condemns the first object of the queue at once, since nothing points to it and
-- no client holds or names it
abbrev pub CondemnLaw : Type 0
CondemnLaw =
    (c : Core) → IsSound c → (id : ℕ) (rest : List ℕ) → c.queue ≡ id ∷ rest → c.round ≡ None → (cell_at c.cells id).strong ≡ 0 → (cell_at c.cells id).weak ≡ 0
    → ((e : ℕ × ActiveTransaction) → IsActive c e → holds id e.1 ≡ false) → is_named c.refs id ≡ false → IsSound (after_look c rest (Some (condemned_round id)))

-- ---- the red walk

-- the journal stays sound where a strong pointer is made weak whose target keeps a strong pointer or is tracked
abbrev pub WeakenLaw : Type 0
WeakenLaw =
    (c : Core) → IsSound c → (r : Round) → c.round ≡ Some r → IsQuiet r → (id slot target : ℕ) → Fits c.cells (Weaken id slot target) → IsTracked c target ⊎ ((cell_at (after_record c.moment.state.slots c.cells (Weaken id slot target)) target).strong ≢ 0)
    → IsSound (after_change c (after_record c.moment.state.slots c.cells (Weaken id slot target)))

-- the journal stays sound where a strong pointer is made weak whose target leaves the queue and joins the round's list
abbrev pub WeakenJoinsLaw : Type 0
WeakenJoinsLaw =
    (c : Core) → IsSound c → (r : Round) → c.round ≡ Some r → IsQuiet r → (id slot target : ℕ) → Fits c.cells (Weaken id slot target) → (queue : List ℕ) → target ≢ root → (Contains r.list target → ⊥) → IsOnce queue → IsWithout c.queue target queue
    → IsSound (after_collect c (after_record c.moment.state.slots c.cells (Weaken id slot target)) queue (Some (with_listed r target)))

-- ---- the scan and the verdict

-- the journal stays sound where an object of the round is copied
abbrev pub CopyLaw : Type 0
CopyLaw = (c : Core) → IsSound c → (r : Round) → c.round ≡ Some r → (id : ℕ) → Contains r.list id → IsSound (after_look c c.queue (Some (with_copy r id (cell_at c.cells id))))

-- the journal stays sound where more objects are marked as touched
abbrev pub TouchLaw : Type 0
TouchLaw = (c : Core) → IsSound c → (r : Round) → c.round ≡ Some r → (touched : List ℕ) → ((x : ℕ) → Contains r.touched x → Contains touched x) → IsSound (after_look c c.queue (Some (record r { touched = touched })))

-- the journal stays sound where the verdict condemns what isn't live by the copies of the whole list
abbrev pub JudgeLaw : Type 0
JudgeLaw =
    (c : Core) → IsSound c → (r : Round) → c.round ≡ Some r → r.judged ≡ false → map (λ e. e.0) r.copies ≡ r.list → (condemned : List ℕ) → ((x : ℕ) → Contains condemned x → IsCondemned c r x) → ((x : ℕ) → IsCondemned c r x → Contains condemned x)
    → IsSound (after_look c c.queue (Some (with_verdict r condemned)))

-- ---- the sweep

-- the journal stays sound where a reference of a condemned object is removed whose target keeps a strong pointer or is tracked
abbrev pub CutLaw : Type 0
CutLaw =
    (c : Core) → IsSound c → (r : Round) → c.round ≡ Some r → IsQuiet r → (id slot target : ℕ) (was_strong : Bool) → Contains r.condemned id → Fits c.cells (CutDead id slot target was_strong)
    → IsTracked c target ⊎ ((cell_at (after_record c.moment.state.slots c.cells (CutDead id slot target was_strong)) target).strong ≢ 0) → IsSound (after_change c (after_record c.moment.state.slots c.cells (CutDead id slot target was_strong)))

-- the journal stays sound where a reference of a condemned object is removed whose target joins the queue
abbrev pub CutJoinsLaw : Type 0
CutJoinsLaw =
    (c : Core) → IsSound c → (r : Round) → c.round ≡ Some r → IsQuiet r → (id slot target : ℕ) (was_strong : Bool) → Contains r.condemned id → Fits c.cells (CutDead id slot target was_strong) → target ≢ root → (Contains r.list target → ⊥) → (Contains c.queue target → ⊥)
    → IsSound (after_collect c (after_record c.moment.state.slots c.cells (CutDead id slot target was_strong)) (c.queue ++ target ∷ []) c.round)

-- the journal stays sound where a condemned object is deleted and leaves the round
abbrev pub FreeLaw : Type 0
FreeLaw =
    (c : Core) → IsSound c → (r : Round) → c.round ≡ Some r → (id : ℕ) → Contains r.condemned id → Fits c.cells (Free id) → (list left : List ℕ) → r.judged ≡ true → IsOnce list → IsWithout r.list id list → IsWithout r.condemned id left
    → IsSound (after_free c id (Some (with_left r list left)))

-- the journal stays sound where the round closes with the deletion of its only object
abbrev pub FreeLastLaw : Type 0
FreeLastLaw = (c : Core) → IsSound c → (r : Round) → c.round ≡ Some r → (id : ℕ) → Contains r.condemned id → Fits c.cells (Free id) → r.list ≡ id ∷ [] → IsSound (after_free c id None)

-- ---- the green walk and the end of the round

-- the journal stays sound where a weak pointer is made strong whose target is another object out of which no strong pointer leads
abbrev pub StrengthenLaw : Type 0
StrengthenLaw = (c : Core) → IsSound c → (r : Round) → c.round ≡ Some r → IsQuiet r → (id slot target : ℕ) → Fits c.cells (Strengthen id slot target) → IsWellLaid c.cells (Strengthen id slot target) → IsSound (after_change c (after_record c.moment.state.slots c.cells (Strengthen id slot target)))

-- the journal stays sound where an object is flipped out of which no strong pointer leads
abbrev pub FlipLaw : Type 0
FlipLaw = (c : Core) → IsSound c → (r : Round) → c.round ≡ Some r → IsQuiet r → (id : ℕ) → Fits c.cells (Flip id) → IsWellLaid c.cells (Flip id) → IsSound (after_change c (after_record c.moment.state.slots c.cells (Flip id)))

-- the journal stays sound where the round closes, and those of its objects that have neither a strong pointer nor a name join the
-- queue
abbrev pub EndLaw : Type 0
EndLaw =
    (c : Core) → IsSound c → (r : Round) → c.round ≡ Some r → (more : List ℕ) → IsOnce more → ((x : ℕ) → Contains more x → Contains r.list x) → ((x : ℕ) → Contains r.list x → (cell_at c.cells x).strong ≡ 0 → is_named c.refs x ≡ false → Contains more x)
    → IsSound (after_look c (c.queue ++ more) None)
