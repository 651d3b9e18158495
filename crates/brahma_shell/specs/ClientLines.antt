-- The script of a run of clients, which is read whole.
use Rattle.std.specs.Prelude.{◌≡◌, ℕ, ◌+◌, List, [], ◌∷◌, ◌++◌, length, Option, Some, None, ⊤}
use Rattle.script_lines.specs.declared.grammar.Line.{Line}
use Rattle.script_lines.specs.Grammar.{meaning_of, IsAccepted}
use Rattle.script_lines.specs.Lines.{lines_of, line_feeds, whole_lines_of}
use Rattle.client_pass.specs.declared.script.ClientScript.{ClientScript}
use Rattle.brahma_shell.specs.LineOrder.{MayCome}
use Rattle.brahma_shell.specs.ClientScripts.{AreOfLines}
use Rattle.brahma_shell.specs.declared.replay.Stop.{Stop}
use Rattle.brahma_shell.specs.declared.replay.Stop.TheVariants as stop

-- in a store with so many ids the line of this number is accepted and asks this, which may come next after the lines before it
pub record MayComeNext (ids number : ℕ) (bytes : List ℕ) (asked : List Line) (next : Line) : Type 0 where
  pub accepted : IsAccepted ids number bytes
  pub asks : meaning_of bytes ≡ Some next
  pub in_turn : MayCome asked next

-- the lines, the first of which has this number and comes after the ones before, are a script of clients, and ask this
abbrev pub AreOfClientsFrom : (ids number : ℕ) → List Line → List (List ℕ) → List Line → Type 0
AreOfClientsFrom ids number before [] asked = asked ≡ []
AreOfClientsFrom ids number before (bytes ∷ lines) asked = (next : Line) × (rest : List Line) × (asked ≡ next ∷ rest) × MayComeNext ids number bytes before next × AreOfClientsFrom ids (number + 1) (before ++ next ∷ []) lines rest

-- the lines are a script of clients, and ask this: each is accepted, and may come next after those before it
abbrev pub AreOfClients : ℕ → List (List ℕ) → List Line → Type 0
AreOfClients ids lines asked = AreOfClientsFrom ids 1 [] lines asked

-- the line of this number is the first that isn't accepted, or that may not come next
pub record IsFirstRefused (ids : ℕ) (lines : List (List ℕ)) (number : ℕ) : Type 0 where
  pub before : List (List ℕ)
  pub line : List ℕ
  pub behind : List (List ℕ)
  pub parts : lines ≡ before ++ line ∷ behind
  pub place : number ≡ length before + 1
  pub asked : List Line
  pub taken : AreOfClients ids before asked
  pub refused : (next : Line) → MayComeNext ids number line asked next → ⊥

-- Of a source that tells what it has left, before the run and after it; of one that doesn't nothing is said.

-- it was read to its end, and its lines ask this of clients
abbrev pub ReadsAll : ℕ → Option (List ℕ) → Option (List ℕ) → List Line → Type 0
ReadsAll ids None left asked = ⊤
ReadsAll ids (Some bytes) None asked = ⊥
ReadsAll ids (Some bytes) (Some left) asked = AreOfClients ids (lines_of bytes) asked × (left ≡ [])

-- the whole lines that were read ask this of clients
abbrev pub ReadsSome : ℕ → Option (List ℕ) → Option (List ℕ) → List Line → Type 0
ReadsSome ids None left asked = ⊤
ReadsSome ids (Some bytes) None asked = ⊥
ReadsSome ids (Some bytes) (Some left) asked = (read : List ℕ) × (bytes ≡ read ++ left) × AreOfClients ids (whole_lines_of read) asked

-- this line of it is the first that is refused
abbrev pub Refuses : ℕ → Option (List ℕ) → ℕ → Type 0
Refuses ids None number = ⊤
Refuses ids (Some bytes) number = IsFirstRefused ids (lines_of bytes) number

-- it tells what it has left, which is a script of clients
abbrev pub HasOnlyClients : ℕ → Option (List ℕ) → Type 0
HasOnlyClients ids None = ⊥
HasOnlyClients ids (Some bytes) = (asked : List Line) × AreOfClients ids (lines_of bytes) asked

-- ---- while it is read

-- of the bytes these are taken, as so many whole lines, which ask this of clients
pub record HasTakenLines (ids : ℕ) (bytes left : List ℕ) (n : ℕ) (asked : List Line) : Type 0 where
  pub taken : List ℕ
  pub done : List (List ℕ)
  pub parts : bytes ≡ taken ++ left
  pub lines : (rest : List ℕ) → lines_of (taken ++ rest) ≡ done ++ lines_of rest
  pub feeds : line_feeds taken ≡ n
  pub count : length done ≡ n
  pub of_clients : AreOfClients ids done asked

-- the source lost so many whole lines, which ask this of clients
abbrev pub TakesLines : ℕ → Option (List ℕ) → Option (List ℕ) → ℕ → List Line → Type 0
TakesLines ids None left n asked = ⊤
TakesLines ids (Some bytes) None n asked = ⊥
TakesLines ids (Some bytes) (Some left) n asked = HasTakenLines ids bytes left n asked

-- why a line isn't taken after those of which these scripts are made: it is refused, or memory is out
abbrev pub StopsTaking : Stop → (ids number : ℕ) → List ℕ → List ClientScript → Type 0
StopsTaking (stop.Line k) ids number bytes scripts = (k ≡ number) × ((asked : List Line) → AreOfLines asked scripts → (next : Line) → MayComeNext ids number bytes asked next → ⊥)
StopsTaking stop.Memory ids number bytes scripts = ⊤
StopsTaking _ ids number bytes scripts = ⊥

-- how the reading stops before the end
abbrev pub StopsReading : Stop → ℕ → Option (List ℕ) → Option (List ℕ) → Type 0
StopsReading (stop.Line number) ids left later = Refuses ids left number
StopsReading stop.Read ids left later = (asked : List Line) × ReadsSome ids left later asked
StopsReading stop.Memory ids left later = ⊤
StopsReading _ ids left later = ⊥
