-- The queue of objects without strong references.
use Rattle.std.specs.Prelude.{◌≡◌, ℕ, ◌+◌, ◌^◌, ◌≤◌, ◌<◌, Bool, true, false, not, ◌==◌, List, [], ◌∷◌, ◌++◌, if◌then◌else◌, filter, length, eqb, get_or, cond}
use Rattle.std.specs.List.{list_any, IsDistinct, sum_by}
use Rattle.ref_tables.specs.declared.ring.Link.{Link}
use Rattle.indexmap.specs.IndexMap.{IndexMap}
use Rattle.ref_tables.specs.Ring.{IsRing, IsLinked}

-- the ids in the order in which they joined, and the greatest id that may join
pub record Queue : Type 0 where
  pub ids : List ℕ
  pub limit : ℕ

-- whether the id is among them
abbrev pub has : List ℕ → ℕ → Bool
has ids id = list_any (λ member. member == id) ids

-- with the id at the end, unless it is there already
abbrev pub joined : List ℕ → ℕ → List ℕ
joined ids id = if has ids id then ids else ids ++ id ∷ []

-- the others, in their order
abbrev pub without : List ℕ → ℕ → List ℕ
without ids id = filter (λ member. not (member == id)) ids

-- no id stands there twice
abbrev pub IsQueue : List ℕ → Type 0
IsQueue ids = IsDistinct eqb ids

-- each id is from 1 to the limit
abbrev pub AreWithin : List ℕ → ℕ → Type 0
AreWithin ids limit = (id : ℕ) → has ids id ≡ true → (1 ≤ id) × (id ≤ limit)

-- 1 for a mark that is set
abbrev pub bit : Bool → ℕ
bit mark = cond mark 1 0

-- the marks say which ids are in the queue, each once, the links have them in their order, and there is room for all ids
pub record IsQueueInside {S : Type 0} (ids : List ℕ) (count : ℕ) (links : IndexMap ℕ Link S) (marks : List Bool) (limit : ℕ) : Type 0 where
  pub distinct : IsQueue ids
  pub marked : (id : ℕ) → has ids id ≡ get_or marks id false
  pub counted : sum_by bit marks ≡ length ids
  pub nothing : get_or marks 0 false ≡ false
  pub all : length marks ≡ limit + 1
  pub ring : IsRing links ids
  pub number : count ≡ length ids
  pub linked : (id : ℕ) → id ≤ limit → IsLinked links id
  pub small : limit < 2 ^ 32
