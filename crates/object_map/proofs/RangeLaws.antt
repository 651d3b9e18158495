-- A range goes on, pair by pair.
use Rattle.std.proofs.Common.{◌≡◌, ℕ, ◌+◌, ◌<◌, ◌≤◌, [], ◌∷◌, Option, Some, None, refl, sym, ap, ◌∙◌}
use Rattle.std.specs.Prelude.{IsSome, unwrap_or, Result, Ok, Err, IfOk}
use Rattle.plain_map.specs.Pairs.{Pairs, AscendByKey, next_pair, first_of, between}
use Rattle.plain_map.proofs.NextLaws.{next_of_least}
use Rattle.plain_map.proofs.BetweenLaws.{between-next_proof, between-past_proof, between-none_proof}
use Rattle.object_map.specs.declared.refusal.MapRefusal.{MapRefusal}
use Rattle.object_map.specs.declared.range.Range.{Range}
use Rattle.object_map.specs.Ranges.{left}

-- what a range has left that goes on from a key
pub left_from : (r : Range) (ps : Pairs) → IsSome r.low → left r ps ≡ between (unwrap_or r.low 0) r.high ps
left_from r ps h = by r.low h
  where
    by : (o : Option ℕ) → IsSome o → left (record { low = o; high = r.high }) ps ≡ between (unwrap_or o 0) r.high ps
    by (Some low) h = refl
    by None h = absurd (cc)

-- the map has no next pair
pub gives_none : (r : Range) (ps : Pairs) → IsSome r.low → None ≡ next_pair (unwrap_or r.low 0) ps → left r ps ≡ []
gives_none r ps h e = left_from r ps h ∙ between-none_proof (unwrap_or r.low 0) r.high ps (sym e)

-- it is past the high key
pub gives_past : (r : Range) (ps : Pairs) (key value : ℕ) → IsSome r.low → AscendByKey ps → Some (key, value) ≡ next_pair (unwrap_or r.low 0) ps → r.high < key → left r ps ≡ []
gives_past r ps key value h a e l = left_from r ps h ∙ between-past_proof (unwrap_or r.low 0) r.high (key, value) ps a (sym e) l

-- it is in the range
pub gives_pair : (r : Range) (ps : Pairs) (key value : ℕ) → IsSome r.low → AscendByKey ps → Some (key, value) ≡ next_pair (unwrap_or r.low 0) ps → key ≤ r.high → left r ps ≡ (key, value) ∷ between (key + 1) r.high ps
gives_pair r ps key value h a e l = left_from r ps h ∙ between-next_proof (unwrap_or r.low 0) r.high (key, value) ps a (sym e) l

-- the key from which a range goes on
pub low_given : (o : Option ℕ) (low : ℕ) → o ≡ Some low → low ≡ unwrap_or o 0
low_given o low e = ap (λ q. unwrap_or q 0) (sym e)

-- the next pair from the least key on is the first one
pub first_given : (IsOf : Pairs → Type 0) (r : Result (Option (ℕ × ℕ)) MapRefusal) → IfOk r (λ pair. (pairs : Pairs) → IsOf pairs → pair ≡ next_pair 0 pairs) → IfOk r (λ pair. (pairs : Pairs) → IsOf pairs → pair ≡ first_of pairs)
first_given IsOf (Ok p) h = λ pairs m. h pairs m ∙ next_of_least pairs
first_given IsOf (Err e) h = tt
