-- A batch that stands at a place of an area.
use Rattle.std.proofs.Common.{◌≡◌, ◌≢◌, ℕ, ◌+◌, ◌-◌, ◌^◌, ◌<◌, ◌≤◌, List, [], ◌∷◌, ◌++◌, length, take, drop, refl, sym, ap, subst, ◌∙◌, arith, append_assoc, length-append, length-drop, take-append-drop}
use Rattle.std.specs.Prelude.{slice_index}
use Rattle.std.specs.Int.{w32, to_be_bytes, from_be_bytes}
use Rattle.std.proofs.lemmas.List.{take_at, drop_at, drop_more, length-take-le}
use Rattle.std.proofs.lemmas.Nat.{from_be_bytes-to_be_bytes_4}
use Rattle.gate_log.specs.Batches.{sized, batch_bytes, IsBody}
use Rattle.gate_log.specs.CommitBytes.{IsBatchAt}
use Rattle.gate_log.proofs.Logs.{length-sized}

-- ---- a body after its length

-- the length in front of a body is how many bytes it has
pub same_size : (size : ℕ) (body rest bytes : List ℕ) → size < 2 ^ 32 → to_be_bytes w32 size ≡ take 4 bytes → IsBody body → bytes ≡ sized body ++ rest → size ≡ length body
same_size size body rest bytes typed is whole are =
    let front : take 4 bytes ≡ to_be_bytes w32 (length body) =
    ap (λ (l : List ℕ). take 4 l) (are ∙ append_assoc (to_be_bytes w32 (length body)) body rest) ∙ take_at (to_be_bytes w32 (length body)) (body ++ rest) 4 refl in
    sym (from_be_bytes-to_be_bytes_4 size typed) ∙ ap (from_be_bytes w32) (is ∙ front) ∙ from_be_bytes-to_be_bytes_4 (length body) whole.fits

pub long_sized : (body rest bytes : List ℕ) → bytes ≡ sized body ++ rest → length bytes ≡ 4 + length body + length rest
long_sized body rest bytes are = omega (arith, ap length are, length-append (sized body) rest, length-sized body)

pub sized_there : (size : ℕ) (body bytes : List ℕ) → to_be_bytes w32 size ≡ take 4 bytes → length body ≡ size → body ≡ take size (drop 4 bytes) → bytes ≡ sized body ++ drop size (drop 4 bytes)
sized_there size body bytes is long are =
    sym (take-append-drop 4 bytes)
    ∙ ap (λ (l : List ℕ). l ++ drop 4 bytes) (sym is ∙ ap (to_be_bytes w32) (sym long))
    ∙ ap (λ (l : List ℕ). to_be_bytes w32 (length body) ++ l) (sym (take-append-drop size (drop 4 bytes)) ∙ ap (λ (l : List ℕ). l ++ drop size (drop 4 bytes)) (sym are))
    ∙ sym (append_assoc (to_be_bytes w32 (length body)) body (drop size (drop 4 bytes)))

-- ---- a batch after its commit byte

pub batch_there : (front body more area : List ℕ) → area ≡ front ++ (batch_bytes body ++ more) → IsBody body → IsBatchAt (length front) body area
batch_there front body more area is whole =
    let size : length (batch_bytes body) ≡ 5 + length body = omega (arith, length-sized body) in
    record {
      whole = whole;
      there = ap (λ (l : List ℕ). take (5 + length body) l) (ap (λ (l : List ℕ). drop (length front) l) is ∙ drop_at front (batch_bytes body ++ more) (length front) refl)
          ∙ take_at (batch_bytes body) more (5 + length body) size;
    }

-- what stands from there on
pub behind_batch : (at : ℕ) (body area : List ℕ) → IsBatchAt at body area → drop at area ≡ batch_bytes body ++ drop (5 + length body) (drop at area)
behind_batch at body area batch =
    sym (take-append-drop (5 + length body) (drop at area)) ∙ ap (λ (l : List ℕ). l ++ drop (5 + length body) (drop at area)) batch.there

tail_same : (x y : ℕ) (xs ys : List ℕ) → x ∷ xs ≡ y ∷ ys → xs ≡ ys
tail_same x y xs ys e = cc

pub batch_of_sized : (at : ℕ) (body rest area : List ℕ) → at < length area → slice_index area at ≡ 1 → IsBody body → drop (at + 1) area ≡ sized body ++ rest → IsBatchAt at body area
batch_of_sized at body rest area inside is_open whole are =
    let here : drop at area ≡ batch_bytes body ++ rest =
    drop_more area at 0 inside ∙ ap (λ (n : ℕ). n ∷ drop (at + 1) area) is_open ∙ ap (λ (l : List ℕ). 1 ∷ l) are in
    let size : length (batch_bytes body) ≡ 5 + length body = omega (arith, length-sized body) in
    record { whole = whole; there = ap (λ (l : List ℕ). take (5 + length body) l) here ∙ take_at (batch_bytes body) rest (5 + length body) size }

-- where no body stands after the commit byte, no batch does
pub no_batch_there : (at : ℕ) (area : List ℕ) → at < length area → ((body rest : List ℕ) → IsBody body → drop (at + 1) area ≡ sized body ++ rest → ⊥) → (body : List ℕ) → IsBatchAt at body area → ⊥
no_batch_there at area inside none body batch =
    let split : slice_index area at ∷ drop (at + 1) area ≡ 1 ∷ (sized body ++ drop (5 + length body) (drop at area)) =
    sym (drop_more area at 0 inside) ∙ behind_batch at body area batch in
    none body (drop (5 + length body) (drop at area)) batch.whole (tail_same (slice_index area at) 1 (drop (at + 1) area) (sized body ++ drop (5 + length body) (drop at area)) split)

pub batch_within : (at : ℕ) (body rest area : List ℕ) → at < length area → drop (at + 1) area ≡ sized body ++ rest → at + 5 + length body ≤ length area
batch_within at body rest area inside are = omega (arith, long_sized body rest (drop (at + 1) area) are, length-drop (at + 1) area, inside)

-- ---- a body that was found after its length

pub sized_found : (size : ℕ) (body bytes : List ℕ) → size < 2 ^ 32 → 1 ≤ size → size ≤ length bytes - 4 → to_be_bytes w32 size ≡ take 4 bytes → body ≡ take (4 + size - 4) (drop 4 bytes)
    → IsBody body × (rest : List ℕ) × (bytes ≡ sized body ++ rest)
sized_found size body bytes typed some within is are =
    let plain : 4 + size - 4 ≡ size = omega arith in
    let body_is : body ≡ take size (drop 4 bytes) = are ∙ ap (λ (n : ℕ). take n (drop 4 bytes)) plain in
    let long : length body ≡ size = ap length body_is ∙ length-take-le size (drop 4 bytes) (omega (arith, within, length-drop 4 bytes)) in (
      record { some = omega (arith, long, some); fits = omega (arith, long, typed) },
      drop size (drop 4 bytes),
      sized_there size body bytes is long body_is,
    )

pub sized_missing : (size : ℕ) (bytes : List ℕ) → size < 2 ^ 32 → to_be_bytes w32 size ≡ take 4 bytes → length bytes - 4 < size → 4 ≤ length bytes
    → (body rest : List ℕ) → IsBody body → bytes ≡ sized body ++ rest → ⊥
sized_missing size bytes typed is short long body rest whole are =
    absurd (omega (arith, same_size size body rest bytes typed is whole are, long_sized body rest bytes are, short, long))

pub sized_zero : (size : ℕ) (bytes : List ℕ) → size ≡ 0 → to_be_bytes w32 size ≡ take 4 bytes → (body rest : List ℕ) → IsBody body → bytes ≡ sized body ++ rest → ⊥
sized_zero size bytes zero is body rest whole are =
    let some = whole.some in
    absurd (omega (arith, same_size size body rest bytes (omega (arith, zero)) is whole are, zero, some))
