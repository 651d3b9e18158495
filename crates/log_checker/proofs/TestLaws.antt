-- What a test tells.
use Rattle.std.proofs.Common.{◌≡◌, true, false, sym, ◌∙◌}
use Rattle.std.specs.Prelude.{Bool, ◌↔◌}

pub holds_at : (b : Bool) (P : Type 0) → (b ≡ true) ↔ P → b ≡ true → P
holds_at b P told is = told.0 is

pub fails_at : (b : Bool) (P : Type 0) → (b ≡ true) ↔ P → b ≡ false → P → ⊥
fails_at b P told is p = absurd (apart (sym is ∙ told.1 p))
  where
    apart : false ≡ true → ⊥
    apart e = absurd cc
