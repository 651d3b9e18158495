-- Operands as a list of fields.
use Rattle.std.specs.Prelude.{ℕ, List, [], ◌∷◌}
use Rattle.map_calls.specs.declared.fields.Operands.{Operands}
use Rattle.map_calls.specs.declared.fields.Operands.TheVariants.{Nil, One, Two}

-- the fields, in order
abbrev pub listed : Operands → List (List ℕ)
listed Nil = []
listed (One a) = a.now ∷ []
listed (Two a b) = a.now ∷ b.now ∷ []
