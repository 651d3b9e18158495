-- The last write of a list, and its change.
use Rattle.std.proofs.Common.{◌≡◌, ℕ, ◌-◌, List, [], ◌∷◌, length, map, refl, sym, ap, ◌∙◌, subst, arith, Option, Some, None}
use Rattle.std.specs.Prelude.{suc, slice_get, IfSome}
use Rattle.std.specs.Option.{option_map}
use Rattle.std.specs.List.{last_or}
use Rattle.restart_laws.specs.Unended.{Change}
use Rattle.log_replay.specs.Steps.{change_by}
use Rattle.log_replay.specs.declared.transaction.Write.{Write}

pub slice_get-last : {A : Type 0} (xs : List A) → slice_get xs (length xs - 1) ≡ last_or None xs
slice_get-last [] = refl
slice_get-last (x ∷ []) = refl
slice_get-last (x ∷ y ∷ ys) = ap (slice_get (x ∷ y ∷ ys)) (one_less (length ys)) ∙ (ap (slice_get (y ∷ ys)) (less_one (length ys)) ∙ slice_get-last (y ∷ ys))
  where
    one_less : (n : ℕ) → suc (suc n) - 1 ≡ suc n
    one_less n = omega arith

    less_one : (n : ℕ) → n ≡ suc n - 1
    less_one n = omega arith

pub last_or-map : (o : Option Write) (ws : List Write) → last_or (option_map change_by o) (map change_by ws) ≡ option_map change_by (last_or o ws)
last_or-map o [] = refl
last_or-map o (w ∷ ws) = last_or-map (Some w) ws

pub last-change : (ws : List Write) → last_or None (map change_by ws) ≡ option_map change_by (last_or None ws)
last-change ws = last_or-map None ws

pub last-some : (ws : List Write) (o : Option Write) → o ≡ last_or None ws → IfSome o (λ w. last_or None (map change_by ws) ≡ Some (change_by w))
last-some ws o e = subst (λ (p : Option Write). IfSome p (λ w. last_or None (map change_by ws) ≡ Some (change_by w))) (sym e) (by (last_or None ws) refl)
  where
    by : (p : Option Write) → last_or None ws ≡ p → IfSome p (λ w. last_or None (map change_by ws) ≡ Some (change_by w))
    by None h = tt
    by (Some w) h = last-change ws ∙ ap (option_map change_by) h

-- writes with the same change are the same
pub same_write : (v w : Write) → change_by v ≡ change_by w → v ≡ w
same_write v w h =
    let i : v.id ≡ w.id = ap (λ (c : Change). c.id) h in
    let p : v.place ≡ w.place = ap (λ (c : Change). c.place) h in
    let o : v.old ≡ w.old = ap (λ (c : Change). c.old) h in
    let n : v.new ≡ w.new = ap (λ (c : Change). c.new) h in
    rw (i, p, o, n) refl
