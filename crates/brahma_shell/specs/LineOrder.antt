-- What lines ask of clients, and which lines may stand one after another.
use Rattle.std.specs.Prelude.{◌≡◌, ℕ, ◌==◌, if◌then◌else◌, Bool, true, false, List, [], ◌∷◌, ◌++◌, ⊤}
use Rattle.plain_model.specs.declared.calls.Call.{Call}
use Rattle.plain_model.specs.declared.calls.Call.TheVariants.{Begin, Commit, Abort}
use Rattle.script_lines.specs.declared.grammar.Line.{Line}
use Rattle.script_lines.specs.declared.grammar.Line.TheVariants as line

-- ---- the calls that lines ask for

-- what the line asks of this client
abbrev pub call_asked : ℕ → Line → List Call
call_asked client (line.Ask c call) = if c == client then call ∷ [] else []
call_asked client (line.Abort c) = if c == client then Abort ∷ [] else []
call_asked client other = []

-- what the lines ask of this client, in their order
abbrev pub calls_asked : ℕ → List Line → List Call
calls_asked client [] = []
calls_asked client (l ∷ lines) = call_asked client l ++ calls_asked client lines

-- ---- which line may come next

-- whether the call is the first one of a transaction
abbrev pub is_first : Call → Bool
is_first Begin = true
is_first _ = false

-- whether the call is the last one of a transaction
abbrev pub is_last : Call → Bool
is_last Commit = true
is_last Abort = true
is_last _ = false

-- whether no transaction is left open: there is no call, or the last one ends a transaction
abbrev pub is_between : List Call → Bool
is_between [] = true
is_between (call ∷ []) = is_last call
is_between (call ∷ c ∷ calls) = is_between (c ∷ calls)

-- a client's call may come next after its calls: it begins a transaction exactly where none is open
abbrev pub MayFollow : List Call → Call → Type 0
MayFollow calls call = is_first call ≡ is_between calls

-- The line may come next after these: it asks nothing, or it asks for a call of a client that may come next after that
-- client's. A line that undoes one write, or that is the collector's, the cleaner's, the log's or the power's, may come nowhere.
abbrev pub MayCome : List Line → Line → Type 0
MayCome lines line.Nothing = ⊤
MayCome lines (line.Ask client call) = MayFollow (calls_asked client lines) call
MayCome lines (line.Abort client) = MayFollow (calls_asked client lines) Abort
MayCome lines other = ⊥
