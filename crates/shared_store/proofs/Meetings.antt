-- What a hold becomes where a claim found another's number, if one did.
use Rattle.std.specs.Prelude.{◌≡◌, ℕ, Option, None, Some, IfSome}
use Rattle.latch_table.specs.Views.{met}
use Rattle.latch_table.specs.Rule.{LieBelow}
use Rattle.shared_store.specs.Passes.{Known}
use Rattle.shared_store.specs.Acts.{HasMetIf}

-- the number stands at this place
abbrev pub met_if : {slots : ℕ} → Known slots → ℕ → Option (ℕ × ℕ) → Known slots
met_if v place None = v
met_if v place (Some f) = met v place f.0 f.1

-- where nothing was met any place will do
pub as-met : {slots : ℕ} (v w : Known slots) (found : Option (ℕ × ℕ)) → HasMetIf v w found → (place : ℕ) × (w ≡ met_if v place found) × IfSome found (λ f. LieBelow place v.knowledge.meets)
as-met v w None e = (0, e, tt)
as-met v w (Some f) m = (m.0, m.2, m.1)
