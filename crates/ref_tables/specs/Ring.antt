-- A ring of ids through 0, in which each knows its neighbours.
use Rattle.std.specs.Prelude.{◌≡◌, ℕ, zero, suc, Bool, true, List, [], ◌∷◌, Some, is_some, unwrap_or, nat_eq, slice_get}
use Rattle.indexmap.specs.IndexMap.{IndexMap, get}
use Rattle.ref_tables.specs.declared.ring.Link.{Link}

-- whether the id has a link
abbrev pub is_linked : {S : Type 0} → IndexMap ℕ Link S → ℕ → Bool
is_linked links id = is_some (get nat_eq links id)

-- it has one
abbrev pub IsLinked : {S : Type 0} → IndexMap ℕ Link S → ℕ → Type 0
IsLinked links id = is_linked links id ≡ true

-- the neighbours of the id, 0 and 0 without a link
abbrev pub link_of : {S : Type 0} → IndexMap ℕ Link S → ℕ → Link
link_of links id = unwrap_or (get nat_eq links id) (record { previous = 0; next = 0 })

-- the id after this one
abbrev pub next_of : {S : Type 0} → IndexMap ℕ Link S → ℕ → ℕ
next_of links id = (link_of links id).next

-- the id before this one
abbrev pub previous_of : {S : Type 0} → IndexMap ℕ Link S → ℕ → ℕ
previous_of links id = (link_of links id).previous

-- at the place that is its number stands the id with its link
abbrev pub StandsAtItsNumber : {S : Type 0} → IndexMap ℕ Link S → ℕ → Type 0
StandsAtItsNumber links id = (link : Link) × (slice_get links.entries id ≡ Some (id, link))

-- the ids that so many steps to the next one meet
abbrev pub along : (ℕ → ℕ) → ℕ → ℕ → List ℕ
along next zero «from» = []
along next (suc steps) «from» = next «from» ∷ along next steps (next «from»)

-- from the first over the ids to the end, each beside its neighbour in both directions
abbrev pub IsChain : (ℕ → ℕ) → (ℕ → ℕ) → ℕ → List ℕ → ℕ → Type 0
IsChain next previous «from» [] end = (next «from» ≡ end) × (previous end ≡ «from»)
IsChain next previous «from» (id ∷ ids) end = (next «from» ≡ id) × (previous id ≡ «from») × IsChain next previous id ids end

-- the ids in their order, from 0 and back to 0
abbrev pub IsRing : {S : Type 0} → IndexMap ℕ Link S → List ℕ → Type 0
IsRing links ids = IsChain (next_of links) (previous_of links) 0 ids 0
