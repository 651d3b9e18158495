-- The last pair of a tree.
use Rattle.std.proofs.Common.{◌≡◌, ◌≢◌, ℕ, ◌^◌, ◌-◌, ◌<◌, List, [], ◌∷◌, ◌++◌, Option, Some, None, refl, sym, ap, ◌∙◌, arith}
use Rattle.std.specs.Int.{bit_at}
use Rattle.std.specs.List.{last_or}
use Rattle.std.proofs.lemmas.Nat.Bits.{bit_at_ones}
use Rattle.plain_model.specs.Graphs.{object_at}
use Rattle.plain_model.specs.Machine.{nonzero}
use Rattle.object_map.specs.Trees.{Tree, pairs_of, IsCritBit}
use Rattle.object_map.specs.Trees.Tree.{leaf, inner}
use Rattle.object_map.specs.Maps.{slot_of, payload_of}
use Rattle.object_map.specs.Seen.{Seen, at, held_id, Loads}
use Rattle.object_map.specs.Ways.{Turn, whole, Follows, IsAtLeaf}
use Rattle.object_map.specs.Ways.Turn.{to_low, to_high}
use Rattle.object_map.proofs.WayLaws.{critical_within, held_here}
use Rattle.object_map.proofs.CountLaws.{some_pairs}
use Rattle.object_map.proofs.GetLaws.{HoldsMap, cell_of, cell_here, same_tree}

last_append : (o : Option (ℕ × ℕ)) (xs ys : List (ℕ × ℕ)) → last_or o (xs ++ ys) ≡ last_or (last_or o xs) ys
last_append o [] ys = refl
last_append o (x ∷ xs) ys = last_append (Some x) xs ys

-- a list that isn't empty has a last item of its own
last_own : (o p : Option (ℕ × ℕ)) (ys : List (ℕ × ℕ)) → ys ≢ [] → last_or o ys ≡ last_or p ys
last_own o p [] n = absurd (n refl)
last_own o p (y ∷ ys) n = refl

-- a key with 1 in each bit leads to the last pair
last_whole : (key : ℕ) (turns : List Turn) (t : Tree) → ((b : ℕ) → b < 64 → bit_at key b ≡ 1) → IsCritBit (whole turns t) → Follows key turns → last_or None (pairs_of (whole turns t)) ≡ last_or None (pairs_of t)
last_whole key [] t ones c h = refl
last_whole key (to_low i b r ∷ turns) t ones c h = (let one : bit_at key b ≡ 1 = ones b (critical_within turns (inner i b t r) c).0.number in absurd (omega (arith, h.0, one)))
last_whole key (to_high i b l ∷ turns) t ones c h =
    last_whole key turns (inner i b l t) ones c h.1 ∙ last_append None (pairs_of l) (pairs_of t) ∙ last_own (last_or None (pairs_of l)) None (pairs_of t) (some_pairs t)

greatest_ones : (b : ℕ) → b < 64 → bit_at (2 ^ 64 - 1) b ≡ 1
greatest_ones b l = bit_at_ones 64 b l

pub last_found : (found id value : ℕ) (v w x : Seen) (pairs : List (ℕ × ℕ)) (m : HoldsMap v pairs) (a : IsAtLeaf (2 ^ 64 - 1) found v w) → id ≡ slot_of (at w (held_id w 1)) 2 → Loads 1 (nonzero id) w x → value ≡ payload_of (at x (held_id x 1)) → Some (found, value) ≡ last_or None pairs
last_found found id value v w x pairs m a e l p =
    let has : value ≡ a.value = p ∙ ap (λ i. payload_of (at x i)) (held_here x 1 a.cell (cell_here (2 ^ 64 - 1) found id v w x a e l)) ∙ ap (λ g. payload_of (object_at g a.cell)) (l.graph ∙ a.graph) ∙ (cell_of (2 ^ 64 - 1) found v w a).1.value_is in
    let all : pairs ≡ pairs_of (whole a.turns (leaf a.id found a.cell a.value)) = m.same ∙ ap pairs_of (same_tree (2 ^ 64 - 1) found v w pairs m a) in
    ap (λ (y : ℕ). Some (found, y)) has ∙ sym (ap (last_or None) all ∙ last_whole (2 ^ 64 - 1) a.turns (leaf a.id found a.cell a.value) greatest_ones a.stands.critical a.follows)
