-- Copies beside the objects of a list.
use Rattle.std.proofs.Common.{◌≡◌, ℕ, zero, suc, ◌≤◌, ◌<◌, List, [], ◌∷◌, ◌++◌, length, map, take, get_or, refl, sym, ap, arith}
use Rattle.cell_page.specs.declared.cell.Seen.{Seen}
use Rattle.store_model.specs.Core.{Copy}
use Rattle.red_walk.specs.Inside.{copy_of_seen, paired}

pub paired-none : (slots : ℕ) (ids : List ℕ) → paired {slots = slots} ids [] ≡ []
paired-none slots [] = refl
paired-none slots (id ∷ ids) = refl

-- the next object is copied
pub paired-push : {slots : ℕ} (ids : List ℕ) (copies : List (Seen slots)) (copy : Seen slots) → length copies < length ids → paired ids (copies ++ copy ∷ []) ≡ paired ids copies ++ (get_or ids (length copies) 0, copy_of_seen copy) ∷ []
paired-push [] copies copy l = absurd (omega (arith, l))
paired-push (id ∷ ids) [] copy l = ap (λ es. (id, copy_of_seen copy) ∷ es) (paired-none _ ids)
paired-push (id ∷ ids) (c ∷ copies) copy l = ap (λ es. (id, copy_of_seen c) ∷ es) (paired-push ids copies copy (omega (arith, l)))

pub paired-length : {slots : ℕ} (ids : List ℕ) (copies : List (Seen slots)) → length copies ≤ length ids → length (paired ids copies) ≡ length copies
paired-length [] [] l = refl
paired-length [] (c ∷ copies) l = absurd (omega (arith, l))
paired-length (id ∷ ids) [] l = refl
paired-length (id ∷ ids) (c ∷ copies) l = ap suc (paired-length ids copies (omega (arith, l)))

-- the copies have the objects of the list in its order
pub paired-ids : {slots : ℕ} (ids : List ℕ) (copies : List (Seen slots)) → map (λ e. e.0) (paired ids copies) ≡ take (length (paired ids copies)) ids
paired-ids [] copies = refl
paired-ids (id ∷ ids) [] = refl
paired-ids (id ∷ ids) (c ∷ copies) = ap (λ es. id ∷ es) (paired-ids ids copies)

pub paired-at : {slots : ℕ} (ids : List ℕ) (copies : List (Seen slots)) (place : ℕ) (copy : Seen slots) (d : ℕ × Copy) → place < length copies → length copies ≤ length ids → copy ≡ get_or copies place copy → get_or (paired ids copies) place d ≡ (get_or ids place 0, copy_of_seen copy)
paired-at [] copies place copy d l m e = absurd (omega (arith, l, m))
paired-at (id ∷ ids) [] place copy d l m e = absurd (omega (arith, l))
paired-at (id ∷ ids) (c ∷ copies) zero copy d l m e = ap (λ x. (id, copy_of_seen x)) (sym e)
paired-at (id ∷ ids) (c ∷ copies) (suc place) copy d l m e = paired-at ids copies place copy d (omega (arith, l)) (omega (arith, m)) e
