-- The whole batches of a front of a log are the first ones of the log.
use Rattle.std.proofs.Common.{◌≡◌, ◌≢◌, ℕ, ◌^◌, ◌<◌, List, [], ◌∷◌, ◌++◌, length, take, drop, refl, sym, ap, ◌∙◌, arith, append_assoc}
use Rattle.std.specs.Int.{w32, to_be_bytes, from_be_bytes}
use Rattle.std.proofs.lemmas.List.{take_at, drop_at}
use Rattle.std.proofs.lemmas.Nat.{from_be_bytes-to_be_bytes_4}
use Rattle.cell_page.specs.Format.{IsSlotCount}
use Rattle.gate_log.specs.Batches.{sized, batch_bytes, AreBodies}
use Rattle.log_record.specs.declared.record.Record.{Record}
use Rattle.opened_images.specs.LogRecords.{body_of, bodies_of, all_of, HaveSpellings}
use Rattle.opened_images.proofs.Bodies.{same_records, cons_same, spelled_front, spelled_back}
use Rattle.ship_stream.specs.Reading.{shipped_bytes, AllFollow}

same_size : (m n : ℕ) → to_be_bytes w32 m ≡ to_be_bytes w32 n → m < 2 ^ 32 → n < 2 ^ 32 → m ≡ n
same_size m n same typed typed_too = sym (from_be_bytes-to_be_bytes_4 m typed) ∙ ap (from_be_bytes w32) same ∙ from_be_bytes-to_be_bytes_4 n typed_too

-- two batches in front of the same bytes have the same body, and the same stands after them
same_body : (a b x y : List ℕ) → length a < 2 ^ 32 → length b < 2 ^ 32 → batch_bytes a ++ x ≡ batch_bytes b ++ y → (a ≡ b) × (x ≡ y)
same_body a b x y typed typed_too same =
    let split : to_be_bytes w32 (length a) ++ (a ++ x) ≡ to_be_bytes w32 (length b) ++ (b ++ y) =
    sym (append_assoc (to_be_bytes w32 (length a)) a x) ∙ ap (λ (l : List ℕ). drop 1 l) same ∙ append_assoc (to_be_bytes w32 (length b)) b y in
    let sizes : to_be_bytes w32 (length a) ≡ to_be_bytes w32 (length b) =
    sym (take_at (to_be_bytes w32 (length a)) (a ++ x) 4 refl) ∙ ap (λ (l : List ℕ). take 4 l) split ∙ take_at (to_be_bytes w32 (length b)) (b ++ y) 4 refl in
    let long : length a ≡ length b = same_size (length a) (length b) sizes typed typed_too in
    let bodies : a ++ x ≡ b ++ y =
    sym (drop_at (to_be_bytes w32 (length a)) (a ++ x) 4 refl) ∙ ap (λ (l : List ℕ). drop 4 l) split ∙ drop_at (to_be_bytes w32 (length b)) (b ++ y) 4 refl in (
      sym (take_at a x (length a) refl) ∙ ap (λ (l : List ℕ). take (length a) l) bodies ∙ take_at b y (length a) (sym long),
      sym (drop_at a x (length a) refl) ∙ ap (λ (l : List ℕ). drop (length a) l) bodies ∙ drop_at b y (length a) (sym long),
    )

-- each of these batches has a spelling
abbrev pub EachSpelled : {slots : ℕ} → List (List (Record slots)) → Type 0
EachSpelled [] = Unit {0}
EachSpelled (batch ∷ batches) = HaveSpellings batch × EachSpelled batches

pub each_spelled : {slots : ℕ} (batches : List (List (Record slots))) → HaveSpellings (all_of batches) → EachSpelled batches
each_spelled [] have = tt
each_spelled (batch ∷ batches) have = (spelled_front batch (all_of batches) have, each_spelled batches (spelled_back batch (all_of batches) have))

-- the commit byte of a batch is open
same_head : (a b : ℕ) (x y : List ℕ) → a ∷ x ≡ b ∷ y → a ≡ b
same_head a b x y e = cc

open_byte : (a x : List ℕ) (commit_byte : ℕ) (y : List ℕ) → commit_byte ≢ 1 → batch_bytes a ++ x ≡ commit_byte ∷ y → ⊥
open_byte a x commit_byte y closed same = closed (sym (same_head 1 commit_byte (sized a ++ x) y same))

-- a front of a log's bytes has its first batches, and no others
pub front_batches : {slots : ℕ} → IsSlotCount slots → (pages : ℕ) (before front all : List (List (Record slots))) (x : List ℕ) (commit_byte : ℕ) (y : List ℕ) → AllFollow pages before front → EachSpelled all → AreBodies (bodies_of all)
    → commit_byte ≢ 1 → shipped_bytes front ++ x ≡ shipped_bytes all ++ commit_byte ∷ y → (later : List (List (Record slots))) × (all ≡ front ++ later)
front_batches known pages before [] all x commit_byte y follow spelled bodies closed same = (all, refl)
front_batches known pages before (a ∷ front) [] x commit_byte y follow spelled bodies closed same =
    absurd (open_byte (body_of a) (shipped_bytes front ++ x) commit_byte y closed (sym (append_assoc (batch_bytes (body_of a)) (shipped_bytes front) x) ∙ same))
front_batches known pages before (a ∷ front) (b ∷ all) x commit_byte y follow spelled bodies closed same =
    let small = follow.0.size.1 in
    let split = same_body (body_of a) (body_of b) (shipped_bytes front ++ x) (shipped_bytes all ++ commit_byte ∷ y) (omega (arith, small)) bodies.0.fits
    (sym (append_assoc (batch_bytes (body_of a)) (shipped_bytes front) x) ∙ same ∙ append_assoc (batch_bytes (body_of b)) (shipped_bytes all) (commit_byte ∷ y)) in
    let here = same_records known a b follow.0.spelled spelled.0 split.0 in
    let rest = front_batches known pages (before ++ a ∷ []) front all x commit_byte y follow.1 spelled.1 bodies.1 closed split.1 in
    (rest.0, cons_same b a all (front ++ rest.0) (sym here) rest.1)
