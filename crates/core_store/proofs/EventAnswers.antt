-- What a step of the collector that made an event, or lacked memory for it, is not answered.
use Rattle.std.proofs.Common.{◌≡◌, ◌⊎◌, ⊎_elim}
use Rattle.core_store.specs.declared.collect.Collect.{Collect}
use Rattle.core_store.specs.declared.collect.Collect.TheVariants as collect
use Rattle.core_store.specs.Steppings.{IsEvent}

-- it neither found the history full nor nothing to do
pub no-rest : (result : Collect) → (result ≡ collect.Memory) ⊎ IsEvent result → (result ≡ collect.TraceFull) ⊎ (result ≡ collect.Idle) → ⊥
no-rest (collect.Did popped left) made rest = ⊎_elim (λ full. absurd (cc (full))) (λ idle. absurd (cc (idle))) rest
no-rest (collect.Deleted id left) made rest = ⊎_elim (λ full. absurd (cc (full))) (λ idle. absurd (cc (idle))) rest
no-rest collect.Memory made rest = ⊎_elim (λ full. absurd (cc (full))) (λ idle. absurd (cc (idle))) rest
no-rest collect.TraceFull made rest = ⊎_elim (λ memory. absurd (cc (memory))) (λ event. event) made
no-rest collect.Idle made rest = ⊎_elim (λ memory. absurd (cc (memory))) (λ event. event) made
