-- Operands as a list of fields.
use Rattle.std.specs.Prelude.{ℕ, List, [], ◌∷◌}
use Rattle.script_lines.specs.declared.fields.Operands.{Operands}
use Rattle.script_lines.specs.declared.fields.Operands.TheVariants.{Nil, One, Two, Three}

abbrev pub listed : Operands → List (List ℕ)
listed Nil = []
listed (One a) = a.now ∷ []
listed (Two a b) = a.now ∷ b.now ∷ []
listed (Three a b c) = a.now ∷ b.now ∷ c.now ∷ []
