-- `Reachable` is the least set with its two rules.
use Rattle.std.proofs.Common.{ℕ, List}
use Rattle.std.specs.Prelude.{Contains}
use Rattle.plain_model.specs.declared.object.Object.{Object}
use Rattle.plain_model.specs.Reachable.{Reachable, start, step}
pub use Rattle.plain_model.specs.Reachable.{IsClosed}

-- no set with these rules is smaller
pub Reachable-least : (g : List Object) («from» : List ℕ) (P : ℕ → Type 0) → IsClosed g «from» P → {x : ℕ} → Reachable g «from» x → P x
Reachable-least g «from» P c (start x o h e) = c.starts x o h e
Reachable-least g «from» P c (step x y o p r e h n f) = c.steps x y o p (Reachable-least g «from» P c r) e h n f

pub Reachable-IsClosed : (g : List Object) («from» : List ℕ) → IsClosed g «from» (Reachable g «from»)
Reachable-IsClosed g «from» = record { starts = λ x o h e. start x o h e; steps = λ x y o p r e h n f. step x y o p r e h n f }

-- more to start from reaches more
pub Reachable-more_starts : (g : List Object) (s t : List ℕ) → ((x : ℕ) → Contains s x → Contains t x) → (x : ℕ) → Reachable g s x → Reachable g t x
Reachable-more_starts g s t sub x r = Reachable-least g s (Reachable g t) (record { starts = λ x o h e. start x o (sub x h) e; steps = λ x y o p r e h n f. step x y o p r e h n f }) r

-- what is reached from what is reached
pub Reachable-trans : (g : List Object) (s t : List ℕ) → ((x : ℕ) → Contains t x → Reachable g s x) → (x : ℕ) → Reachable g t x → Reachable g s x
Reachable-trans g s t sub x r = Reachable-least g t (Reachable g s) (record { starts = λ x o h e. sub x h; steps = λ x y o p r e h n f. step x y o p r e h n f }) r
