-- What clients are to do.
use Rattle.std.specs.Prelude.{◌≡◌, ℕ, List, [], ◌∷◌, ◌++◌}
use Rattle.std.specs.List.{AllByRecursion}
use Rattle.plain_model.specs.declared.calls.Call.{Call}
use Rattle.plain_model.specs.Machine.{IsInRange}

-- each call names registers and slots that are there
abbrev pub AreInRange : ℕ → List (List Call) → Type 0
AreInRange slots transactions = AllByRecursion (AllByRecursion (IsInRange slots)) transactions

-- the last transaction has the call more, after its others
abbrev pub AddsToLast : List (List Call) → Call → List (List Call) → Type 0
AddsToLast old call new = (before : List (List Call)) (last : List Call) → old ≡ before ++ last ∷ [] → new ≡ before ++ (last ++ call ∷ []) ∷ []
