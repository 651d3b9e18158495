-- A disk that tells contracts its count of faults, and nothing of its bytes.
use Rattle.std.specs.Prelude.{ℕ, ◌≤◌, List, Option, None, IfSome, IsSome}
use Rattle.disk_model.specs.declared.area.Area.{Area}
use Rattle.disk_model.specs.declared.area.Area.TheVariants.{Pages}
use Rattle.disk_model.specs.Areas.{Bytes}
use Rattle.disk_model.specs.Told.{IsImage}

-- it tells no content of an area
abbrev pub untold_content : ℕ → Area → Option (List ℕ)
untold_content _ _ = None

-- nor any bytes that a power loss may leave there
abbrev pub untold_left : ℕ → Area → List ℕ → Type 0
untold_left _ _ _ = ⊥

-- so it has one moment
abbrev pub one_moment : ℕ → ℕ
one_moment _ = 0

-- since which no bytes are told that were left
abbrev pub untold_since : ℕ → ℕ → Bytes → Type 0
untold_since _ _ _ = ⊥

-- the laws of a disk, where nothing is told
pub reads_untold : (s : ℕ) (area : Area) → IfSome (untold_content s area) (untold_left s area)
reads_untold s area = tt

pub together_untold : (s : ℕ) (area other : Area) → IfSome (untold_content s area) (λ _. IsSome (untold_content s other))
together_untold s area other = tt

pub counts_untold : (s : ℕ) (t : ℕ) (b : Bytes) → t ≤ one_moment s → IsImage untold_left s b → untold_since s t b
counts_untold s t b le image = image Pages

pub only_untold : (s : ℕ) (b : Bytes) → untold_since s (one_moment s) b → IsImage untold_left s b
only_untold s b none area = none
