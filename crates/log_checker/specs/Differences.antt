-- Where two graphs differ in what their roots reach.
use Rattle.std.specs.Prelude.{◌≡◌, ◌↔◌, ℕ, ◌<◌, List, [], ◌∷◌, Contains, Option, Some, None}
use Rattle.plain_model.specs.declared.object.Object.{Object}
use Rattle.plain_model.specs.Graphs.{root, object_at}
use Rattle.plain_model.specs.Reachable.{Reachable}

-- the root of the graph reaches the id
abbrev pub IsReached : List Object → ℕ → Type 0
IsReached g id = Reachable g (root ∷ []) id

-- both graphs have the same under the id: the same object, or none
abbrev pub HaveSame : List Object → List Object → ℕ → Type 0
HaveSame g h id = object_at g id ≡ object_at h id

-- At this id the graphs agree: the roots of both reach it or neither does, and where they do it is the same object.
pub record AgreeAt (g h : List Object) (id : ℕ) : Type 0 where
  pub both : IsReached g id ↔ IsReached h id
  pub object : IsReached g id → HaveSame g h id

-- This is the least id at which the graphs don't agree.
pub record IsLeastDifference (g h : List Object) (id : ℕ) : Type 0 where
  pub differ : AgreeAt g h id → ⊥
  pub least : (x : ℕ) → x < id → AgreeAt g h x

-- The answer is the least id at which the graphs don't agree, and none where they agree at every id.
abbrev pub IsDifference : List Object → List Object → Option ℕ → Type 0
IsDifference g h None = (id : ℕ) → AgreeAt g h id
IsDifference g h (Some id) = IsLeastDifference g h id

-- ---- two lists of ids

-- The lists agree at this id: it is in both or in neither, and where it is in them it passes the test.
pub record AgreeIn (Test : ℕ → Type 0) (xs ys : List ℕ) (id : ℕ) : Type 0 where
  pub both : Contains xs id ↔ Contains ys id
  pub passed : Contains xs id → Test id

-- This is the least id at which the lists don't agree.
pub record IsLeastApart (Test : ℕ → Type 0) (xs ys : List ℕ) (id : ℕ) : Type 0 where
  pub differ : AgreeIn Test xs ys id → ⊥
  pub least : (x : ℕ) → x < id → AgreeIn Test xs ys x

-- The answer is the least id at which the lists don't agree, and none where they agree at every id.
abbrev pub IsApart : (ℕ → Type 0) → List ℕ → List ℕ → Option ℕ → Type 0
IsApart Test xs ys None = (id : ℕ) → AgreeIn Test xs ys id
IsApart Test xs ys (Some id) = IsLeastApart Test xs ys id
