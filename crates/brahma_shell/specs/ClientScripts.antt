-- The scripts that clients' lines make.
use Rattle.std.specs.Prelude.{◌≡◌, ◌⊎◌, ℕ, ◌==◌, if◌then◌else◌, true, false, List, [], ◌∷◌, ◌++◌, length}
use Rattle.std.specs.List.{AllByRecursion}
use Rattle.plain_model.specs.declared.calls.Call.{Call}
use Rattle.plain_model.specs.declared.calls.Call.TheVariants.{Begin}
use Rattle.plain_model.specs.Machine.{IsInRange}
use Rattle.script_lines.specs.declared.grammar.Line.{Line}
use Rattle.script_lines.specs.Grammar.{IsClient}
use Rattle.client_pass.specs.declared.script.ClientScript.{ClientScript}
use Rattle.client_pass.specs.Scripts.{AreInRange}
use Rattle.client_pass.specs.Runs.{IsNobody, AreApart}
use Rattle.script_lines.specs.Numbers.{object_slots}
use Rattle.brahma_shell.specs.declared.line_refusal.LineRefusal.{LineRefusal}
use Rattle.brahma_shell.specs.declared.line_refusal.LineRefusal.TheVariants.{NotAllowed, Memory}
use Rattle.brahma_shell.specs.LineOrder.{is_first, is_last, calls_asked, MayFollow}

-- ---- transactions, each told by its calls after `Begin`

-- all their calls, one transaction after another
abbrev pub all_calls : List (List Call) → List Call
all_calls [] = []
all_calls (calls ∷ transactions) = Begin ∷ (calls ++ all_calls transactions)

-- the call neither begins nor ends a transaction
abbrev pub IsInside : Call → Type 0
IsInside call = (is_first call ≡ false) × (is_last call ≡ false)

-- none of the calls does
abbrev pub AreInside : List Call → Type 0
AreInside calls = AllByRecursion IsInside calls

-- the last of the calls ends the transaction, and none before it does
pub record HasEnded (calls : List Call) : Type 0 where
  pub before : List Call
  pub end : Call
  pub in_order : calls ≡ before ++ end ∷ []
  pub inside : AreInside before
  pub ended : is_last end ≡ true

-- one transaction or more, of which each has ended, but for the last one, which may be open
pub record AreTransactions (transactions : List (List Call)) : Type 0 where
  pub before : List (List Call)
  pub last : List Call
  pub in_order : transactions ≡ before ++ last ∷ []
  pub ended : AllByRecursion HasEnded before
  pub last_is : HasEnded last ⊎ AreInside last

-- ---- scripts

-- a client's script, whose calls keep the ranges of objects with six slots
pub record IsScript (s : ClientScript) : Type 0 where
  pub client : IsClient s.pass
  pub transactions : AreTransactions s.txns
  pub in_range : AreInRange object_slots s.txns

-- scripts of clients that differ
pub record AreScripts (scripts : List ClientScript) : Type 0 where
  pub each : AllByRecursion IsScript scripts
  pub apart : AreApart scripts

-- the scripts are those of clients that are to make these calls: each client with a call has one, and its transactions are these
-- calls
pub record AreOfCalls (calls : ℕ → List Call) (scripts : List ClientScript) : Type 0 where
  pub each : AllByRecursion (λ s. calls s.pass ≡ all_calls s.txns) scripts
  pub nobody : (client : ℕ) → IsNobody client scripts → calls client ≡ []

-- the scripts are what the lines ask of clients
abbrev pub AreOfLines : List Line → List ClientScript → Type 0
AreOfLines lines scripts = AreOfCalls (λ client. calls_asked client lines) scripts

-- ---- refusals

-- a refusal tells whether the line may come: as not allowed it may not, and where memory is out it may
abbrev pub TellsWhether : LineRefusal → Type 0 → Type 0
TellsWhether NotAllowed may = may → ⊥
TellsWhether Memory may = may

-- ---- one call more

-- the call is added after the calls of these transactions
pub record IsExtended (old : List (List Call)) (call : Call) (new : List (List Call)) : Type 0 where
  pub transactions : AreTransactions new
  pub calls : all_calls new ≡ all_calls old ++ call ∷ []
  pub in_range : AreInRange object_slots old → IsInRange object_slots call → AreInRange object_slots new

-- the calls of each client, of which this one has a call more
abbrev pub with_call_more : (ℕ → List Call) → ℕ → Call → ℕ → List Call
with_call_more calls client call c = calls c ++ (if client == c then call ∷ [] else [])

-- the script of a client that has begun its first transaction
abbrev pub begun : ℕ → ClientScript
begun client = record { pass = client; txns = [] ∷ [] }

-- the script at this place has the call more, which could come next in it, and the others stay
abbrev pub ExtendsAt : List ClientScript → ℕ → Call → List ClientScript → Type 0
ExtendsAt old place call new = (before after : List ClientScript) (s : ClientScript) → old ≡ before ++ s ∷ after → length before ≡ place →
    MayFollow (all_calls s.txns) call × (txns : List (List Call)) × (new ≡ before ++ record { pass = s.pass; txns = txns } ∷ after) × IsExtended s.txns call txns

-- the refusal tells whether the call may come next in the script at this place
abbrev pub TellsAt : List ClientScript → ℕ → Call → LineRefusal → Type 0
TellsAt old place call refusal = (before after : List ClientScript) (s : ClientScript) → old ≡ before ++ s ∷ after → length before ≡ place → TellsWhether refusal (MayFollow (all_calls s.txns) call)

-- the script of this client stands at this place
abbrev pub IsAt : ℕ → List ClientScript → ℕ → Type 0
IsAt client scripts place = (before : List ClientScript) × (s : ClientScript) × (after : List ClientScript) × (scripts ≡ before ++ s ∷ after) × (length before ≡ place) × (s.pass ≡ client)
