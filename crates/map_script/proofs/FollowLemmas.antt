-- One line more.
use Rattle.std.proofs.Common.{◌≡◌, ℕ, ◌+◌, List, [], ◌∷◌, ◌++◌, length, append_assoc, refl, sym, ap, subst, ◌∙◌, arith}
use Rattle.std.proofs.lemmas.List.{append-nil}
use Rattle.map_calls.specs.Maps.{MapState}
use Rattle.map_script.specs.Following.{LineDoes, Follows}

pub follows-more : (told : Type 0) (number : ℕ) (done : List (List ℕ)) (line : List ℕ) (m mid n : MapState) (text more : List ℕ) → Follows told number done m mid text → LineDoes told (number + length done) line mid n more → Follows told number (done ++ line ∷ []) m n (text ++ more)
follows-more told number [] line m mid n text more f d =
    let here : number + 0 ≡ number = omega arith in
    let does : LineDoes told number line mid n more = subst (λ k. LineDoes told k line mid n more) here d in
    (n, more, [], ap (λ (t : List ℕ). t ++ more) f.1 ∙ sym (append-nil more), subst (λ (s : MapState). LineDoes told number line s n more) f.0 does, (refl, refl))
follows-more told number (l ∷ ls) line m mid n text more f d =
    let here : number + length (l ∷ ls) ≡ number + 1 + length ls = omega arith in (
      f.0,
      f.1,
      f.2 ++ more,
      ap (λ (t : List ℕ). t ++ more) f.3 ∙ append_assoc f.1 f.2 more,
      f.4,
      follows-more told (number + 1) ls line f.0 mid n f.2 more f.5 (subst (λ k. LineDoes told k line mid n more) here d),
    )
