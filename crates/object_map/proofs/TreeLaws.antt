-- Keys and pairs of trees.
use Rattle.std.proofs.Common.{◌≡◌, ℕ, ◌<◌, sym, ◌∙◌}
use Rattle.std.specs.List.{AllByRecursion}
use Rattle.std.specs.Int.{bit_at}
use Rattle.plain_map.specs.Pairs.{AscendByKey}
use Rattle.object_map.specs.Trees.{Tree, pairs_of, AllKeys, IsCritBit, above}
use Rattle.object_map.specs.Trees.Tree.{leaf, inner}
use Rattle.object_map.proofs.BitLaws.{below_by_bit}
use Rattle.plain_map.proofs.PairLaws.{all_append, ascend_append}

pub keys_map : (P Q : ℕ → Type 0) → ((k : ℕ) → P k → Q k) → (t : Tree) → AllKeys P t → AllKeys Q t
keys_map P Q f (leaf i k c v) h = f k h
keys_map P Q f (inner i b l r) h = (keys_map P Q f l h.0, keys_map P Q f r h.1)

-- what holds of each key holds of each pair's key
pub keys_pairs : (P : ℕ → Type 0) (t : Tree) → AllKeys P t → AllByRecursion (λ p. P p.0) (pairs_of t)
keys_pairs P (leaf i k c v) h = (h, tt)
keys_pairs P (inner i b l r) h = all_append (λ p. P p.0) (pairs_of l) (pairs_of r) (keys_pairs P l h.0) (keys_pairs P r h.1)

-- the keys of a crit-bit tree ascend
pub pairs_ascend : (t : Tree) → IsCritBit t → AscendByKey (pairs_of t)
pairs_ascend (leaf i k c v) h = (tt, tt)
pairs_ascend (inner i b l r) h =
    ascend_append (pairs_of l) (pairs_of r) (pairs_ascend l h.1) (pairs_ascend r h.2)
    (keys_pairs (λ j. AllByRecursion (λ q. j < q.0) (pairs_of r)) l
    (keys_map (λ j. (bit_at j b ≡ 0) × (above b j ≡ h.0.prefix)) (λ j. AllByRecursion (λ q. j < q.0) (pairs_of r))
    (λ j z. keys_pairs (λ k. j < k) r (keys_map (λ k. (bit_at k b ≡ 1) × (above b k ≡ h.0.prefix)) (λ k. j < k) (λ k o. below_by_bit b j k (z.1 ∙ sym o.1) z.0 o.0) r h.0.high_keys))
    l h.0.low_keys))
