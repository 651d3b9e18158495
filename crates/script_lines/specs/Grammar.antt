-- What the lines of a script ask, and which lines are refused.
use Rattle.std.specs.Prelude.{ℕ, ◌*◌, ◌<◌, ◌≤◌, ◌==◌, ◌≢◌, Bool, false, if◌then◌else◌, List, [], ◌∷◌, length, Option, Some, None, IsSome, IfSome, bytes_eq, codes, option_and_then}
use Rattle.plain_model.specs.declared.calls.Call.TheVariants as call
use Rattle.plain_model.specs.Machine.{IsInRange}
use Rattle.script_lines.specs.declared.verb.Verb.{Verb}
use Rattle.script_lines.specs.declared.verb.Verb.TheVariants.{Begin, Read, Make, Store, Get, Set, Release, Commit, Abort, Undo}
use Rattle.script_lines.specs.declared.grammar.Line.{Line}
use Rattle.script_lines.specs.declared.grammar.Line.TheVariants as line
use Rattle.script_lines.specs.Fields.{fields_of}
use Rattle.script_lines.specs.Numbers.{object_slots, client_of, register_of, slot_of, page_of, pick_of, payload_of, source_of}

infixl 10 ◌>>=◌
abbrev pub ◌>>=◌ : {A B : Type 0} → Option A → (A → Option B) → Option B
o >>= f = option_and_then f o

-- the verb that a field spells
abbrev pub verb_of : List ℕ → Option Verb
verb_of field =
    if bytes_eq field (codes "begin") then Some Begin
    else if bytes_eq field (codes "read") then Some Read
    else if bytes_eq field (codes "make") then Some Make
    else if bytes_eq field (codes "store") then Some Store
    else if bytes_eq field (codes "get") then Some Get
    else if bytes_eq field (codes "set") then Some Set
    else if bytes_eq field (codes "release") then Some Release
    else if bytes_eq field (codes "commit") then Some Commit
    else if bytes_eq field (codes "abort") then Some Abort
    else if bytes_eq field (codes "undo") then Some Undo
    else None

-- what a client's line asks, by its verb and the fields after it
abbrev pub request_of : ℕ → Verb → List (List ℕ) → Option Line
request_of client Begin [] = Some (line.Ask client call.Begin)
request_of client Read (register ∷ slot ∷ into ∷ []) = do
  r ← register_of register
  s ← slot_of slot
  i ← register_of into
  Some (line.Ask client (call.Read r s i))
request_of client Make (into ∷ []) = do
  i ← register_of into
  Some (line.Ask client (call.Make i))
request_of client Store (register ∷ slot ∷ source ∷ []) = do
  r ← register_of register
  s ← slot_of slot
  f ← source_of source
  Some (line.Ask client (call.Store r s f))
request_of client Get (register ∷ []) = do
  r ← register_of register
  Some (line.Ask client (call.GetPay r))
request_of client Set (register ∷ payload ∷ []) = do
  r ← register_of register
  v ← payload_of payload
  Some (line.Ask client (call.SetPay r v))
request_of client Release (register ∷ []) = do
  r ← register_of register
  Some (line.Ask client (call.Release r))
request_of client Commit [] = Some (line.Ask client call.Commit)
request_of client Abort [] = Some (line.Abort client)
request_of client Undo [] = Some (line.Undo client)
request_of client verb operands = None

-- what a line asks of the collector, by the fields after `gc`: `step` or `all`, and no more
abbrev pub collector_line : List ℕ → List (List ℕ) → Option Line
collector_line steps [] =
    if bytes_eq steps (codes "step") then Some line.CollectStep
    else if bytes_eq steps (codes "all") then Some line.CollectAll
    else None
collector_line steps operands = None

-- what the line of a client asks, by the fields of the client, the verb and those after it
abbrev pub client_line : List ℕ → List ℕ → List (List ℕ) → Option Line
client_line client verb operands = do
  c ← client_of client
  v ← verb_of verb
  request_of c v operands

-- the field names the collector
abbrev pub is_collector : List ℕ → Bool
is_collector field = bytes_eq field (codes "gc")

-- the field names the page cleaner, which writes a page in place
abbrev pub is_cleaner : List ℕ → Bool
is_cleaner field = bytes_eq field (codes "clean")

-- what a line asks of the page cleaner, by the fields after `clean`: the page, and no more
abbrev pub clean_line : List ℕ → List (List ℕ) → Option Line
clean_line page [] = do
  g ← page_of page
  Some (line.Clean g)
clean_line page operands = None

-- the field names a loss of power
abbrev pub is_crash : List ℕ → Bool
is_crash field = bytes_eq field (codes "crash")

-- what a line asks of the power, by the fields after `crash`: the pick, and no more
abbrev pub crash_line : List ℕ → List (List ℕ) → Option Line
crash_line pick [] = do
  k ← pick_of pick
  Some (line.Crash k)
crash_line pick operands = None

-- what a line of one field asks: `turn` asks for a checkpoint
abbrev pub lone_line : List ℕ → Option Line
lone_line word = if bytes_eq word (codes "turn") then Some line.Turn else None

-- what the line of a client, of the collector, of the page cleaner, of the power or of the log asks, by its first field and those
-- after it
abbrev pub line_of_party : List ℕ → List (List ℕ) → Option Line
line_of_party party [] = lone_line party
line_of_party party (verb ∷ operands) =
    if is_collector party then collector_line verb operands
    else if is_cleaner party then clean_line verb operands
    else if is_crash party then crash_line verb operands
    else client_line party verb operands

-- the field begins with `#`
abbrev pub is_comment : List ℕ → Bool
is_comment [] = false
is_comment (b ∷ bs) = b == 35

-- what the fields of a line ask; a line without fields asks nothing, and neither does a comment
abbrev pub line_of_fields : List (List ℕ) → Option Line
line_of_fields [] = Some line.Nothing
line_of_fields (f ∷ fs) = if is_comment f then Some line.Nothing else line_of_party f fs

-- what a line asks, where it is in the grammar
abbrev pub meaning_of : List ℕ → Option Line
meaning_of bytes = line_of_fields (fields_of bytes)

-- ---- limits

-- a line has at most so many bytes, without its end
abbrev pub max_line : ℕ
max_line = 128

-- a script has at most so many lines
abbrev pub max_lines : ℕ
max_lines = 65536

-- a store with so many ids, eight a page, has the page that the line names, if it names one
abbrev pub IsOfStore : ℕ → Line → Type 0
IsOfStore ids (line.Clean page) = 8 * page < ids
IsOfStore ids other = Unit {0}

-- in a store with so many ids the line of this number, counted from 1, is within both limits and in the grammar, and the page
-- that it names is one of the store's
pub record IsAccepted (ids number : ℕ) (bytes : List ℕ) : Type 0 where
  pub within_line : length bytes ≤ max_line
  pub within_script : number ≤ max_lines
  pub in_grammar : IsSome (meaning_of bytes)
  pub in_store : IfSome (meaning_of bytes) (IsOfStore ids)

-- the line of this number isn't accepted there
abbrev pub IsRefused : (ids number : ℕ) → List ℕ → Type 0
IsRefused ids number bytes = IsAccepted ids number bytes → ⊥

-- a client has a number from 1 to 64
abbrev pub IsClient : ℕ → Type 0
IsClient client = (1 ≤ client) × (client ≤ 64)

-- the client exists, and so do the registers and slots, in objects of the program's store; and an abort isn't asked as a call
abbrev pub IsLineInRange : Line → Type 0
IsLineInRange (line.Ask client c) = IsClient client × IsInRange object_slots c × (c ≢ call.Abort)
IsLineInRange (line.Abort client) = IsClient client
IsLineInRange (line.Undo client) = IsClient client
IsLineInRange other = Unit {0}
