-- What a crash leaves of an area after a write, a cut and a sync.
use Rattle.std.proofs.Common.{◌≡◌, ℕ, ◌+◌, ◌<◌, ◌≤◌, min, max, List, [], ◌∷◌, ◌++◌, cond, map, refl, sym, ◌∙◌, arith, inl, inr, ⊎_elim, length}
use Rattle.std.specs.Prelude.{slice_index}
use Rattle.std.specs.List.{range_with_len}
use Rattle.std.proofs.Math.Dec.{ltb}
use Rattle.std.proofs.lemmas.Bool.{cases_lt, lt-ltb, le-ltb}
use Rattle.std.proofs.lemmas.List.{ext_get_or}
use Rattle.std.proofs.lemmas.List.FromFn.{length-map-range_with_len, get_or-map-range_with_len}
use Rattle.disk_model.specs.Changes.{Torn, PartlyCut}
use Rattle.disk_model.specs.Pending.{Change, Wrote, CutTo}
use Rattle.disk_model.specs.CrashImages.{PlainArea, length_after, least_length, greatest_length, IsUnwritten, IsCrashImage}
use Rattle.disk_model.specs.PlainDisk.{area_after, lasting}

-- ---- the lengths, with one change more
-- the length after all changes
end_length : ℕ → List Change → ℕ
end_length len [] = len
end_length len (change ∷ later) = end_length (length_after len change) later

least_end : (len : ℕ) (changes : List Change) → least_length len changes ≤ end_length len changes
unfolding end_length
least_end len [] = omega arith
least_end len (change ∷ later) = omega (arith, least_end (length_after len change) later)

greatest_end : (len : ℕ) (changes : List Change) → end_length len changes ≤ greatest_length len changes
unfolding end_length
greatest_end len [] = omega arith
greatest_end len (change ∷ later) = omega (arith, greatest_end (length_after len change) later)

least-push : (len : ℕ) (changes : List Change) (change : Change) → least_length len (changes ++ change ∷ []) ≡ min (least_length len changes) (length_after (end_length len changes) change)
unfolding end_length
least-push len [] change = refl
least-push len (first ∷ later) change = omega (arith, least-push (length_after len first) later change)

greatest-push : (len : ℕ) (changes : List Change) (change : Change) → greatest_length len (changes ++ change ∷ []) ≡ max (greatest_length len changes) (length_after (end_length len changes) change)
unfolding end_length
greatest-push len [] change = refl
greatest-push len (first ∷ later) change = omega (arith, greatest-push (length_after len first) later change)

least-write : (len : ℕ) (changes : List Change) (at : ℕ) (bytes : List ℕ) → least_length len (changes ++ Wrote at bytes ∷ []) ≡ least_length len changes
least-write len changes at bytes = omega (arith, least-push len changes (Wrote at bytes), least_end len changes)

greatest-write : (len : ℕ) (changes : List Change) (at : ℕ) (bytes : List ℕ) → greatest_length len (changes ++ Wrote at bytes ∷ []) ≡ max (greatest_length len changes) (at + length bytes)
greatest-write len changes at bytes = omega (arith, greatest-push len changes (Wrote at bytes), greatest_end len changes)

least-cut : (len : ℕ) (changes : List Change) (shorter : ℕ) → least_length len (changes ++ CutTo shorter ∷ []) ≡ min (least_length len changes) shorter
least-cut len changes shorter = omega (arith, least-push len changes (CutTo shorter), least_end len changes)

greatest-cut : (len : ℕ) (changes : List Change) (shorter : ℕ) → greatest_length len (changes ++ CutTo shorter ∷ []) ≡ greatest_length len changes
greatest-cut len changes shorter = omega (arith, greatest-push len changes (CutTo shorter), greatest_end len changes)

-- ---- the ranges that were written, with one change more
unwritten-push : (i : ℕ) (changes : List Change) (change : Change) → IsUnwritten i changes → IsUnwritten i (change ∷ []) → IsUnwritten i (changes ++ change ∷ [])
unwritten-push i [] change none last = last
unwritten-push i (Wrote at bytes ∷ later) change none last = (none.0, unwritten-push i later change none.1 last)
unwritten-push i (CutTo len ∷ later) change none last = unwritten-push i later change none last

unwritten-front : (i : ℕ) (changes : List Change) (change : Change) → IsUnwritten i (changes ++ change ∷ []) → IsUnwritten i changes
unwritten-front i [] change none = tt
unwritten-front i (Wrote at bytes ∷ later) change none = (none.0, unwritten-front i later change none.1)
unwritten-front i (CutTo len ∷ later) change none = unwritten-front i later change none

unwritten-last : (i : ℕ) (changes : List Change) (change : Change) → IsUnwritten i (changes ++ change ∷ []) → IsUnwritten i (change ∷ [])
unwritten-last i [] change none = none
unwritten-last i (Wrote at bytes ∷ later) change none = unwritten-last i later change none.1
unwritten-last i (CutTo len ∷ later) change none = unwritten-last i later change none

-- ---- a list by its bytes
-- n bytes, by their offsets
by_offset : (ℕ → ℕ) → ℕ → List ℕ
by_offset byte n = map byte (range_with_len 0 n)

by_offset-length : (byte : ℕ → ℕ) (n : ℕ) → length (by_offset byte n) ≡ n
unfolding by_offset
by_offset-length byte n = length-map-range_with_len byte 0 n

by_offset-at : (byte : ℕ → ℕ) (n i : ℕ) → i < n → slice_index (by_offset byte n) i ≡ byte i
unfolding by_offset
by_offset-at byte n i lt = get_or-map-range_with_len byte 0 n i i 0 lt (omega arith)

-- ---- a write
-- the image before: where it was written to, the synced bytes stand again
byte_before : ℕ → ℕ → List ℕ → List ℕ → ℕ → ℕ
byte_before at n synced image i = cond (ltb i at) (slice_index image i) (cond (ltb i (at + n)) (slice_index synced i) (slice_index image i))

byte_before-below : (at n : ℕ) (synced image : List ℕ) (i : ℕ) → i < at → byte_before at n synced image i ≡ slice_index image i
unfolding byte_before
byte_before-below at n synced image i below = rw (lt-ltb i at below) refl

byte_before-inside : (at n : ℕ) (synced image : List ℕ) (i : ℕ) → at ≤ i → i < at + n → byte_before at n synced image i ≡ slice_index synced i
unfolding byte_before
byte_before-inside at n synced image i from to = rw (le-ltb i at from, lt-ltb i (at + n) to) refl

byte_before-above : (at n : ℕ) (synced image : List ℕ) (i : ℕ) → at + n ≤ i → byte_before at n synced image i ≡ slice_index image i
unfolding byte_before
byte_before-above at n synced image i above = rw (le-ltb i at (omega arith), le-ltb i (at + n) above) refl

-- a crash after a write leaves what it might have left before, with any outcome of the write
pub write_follows : (area : PlainArea) (at : ℕ) (bytes outcome image : List ℕ) → IsCrashImage (area_after area (Wrote at bytes) outcome) image
    → (before : List ℕ) × IsCrashImage area before × Torn at (length bytes) before image
write_follows area at bytes outcome image now =
    let most : ℕ = greatest_length (length area.synced) area.since in
    let least_now = least-write (length area.synced) area.since at bytes in
    let most_now = greatest-write (length area.synced) area.since at bytes in
    let least_most = least_end (length area.synced) area.since in
    let end_most = greatest_end (length area.synced) area.since in
    let byte : ℕ → ℕ = byte_before at (length bytes) area.synced image in
    let len : ℕ = min (length image) most in
    let size = by_offset-length byte len in
    let at_i : (i : ℕ) → i < length (by_offset byte len) → slice_index (by_offset byte len) i ≡ byte i = λ i lt. by_offset-at byte len i (omega (arith, lt, size)) in
    let in_image : (i : ℕ) → i < length (by_offset byte len) → i < length image = λ i lt. omega (arith, lt, size) in (
      by_offset byte len,
      record {
        no_shorter = omega (arith, size, now.no_shorter, least_now, least_most, end_most);
        no_longer = omega (arith, size);
        kept = λ i in_synced lt none.
            ⊎_elim
            (λ (below : i < at).
            at_i i lt ∙ byte_before-below at (length bytes) area.synced image i below
            ∙ now.kept i in_synced (in_image i lt) (unwritten-push i area.since (Wrote at bytes) none (inl below, tt)))
            (λ (from : at ≤ i).
            ⊎_elim
            (λ (to : i < at + length bytes). at_i i lt ∙ byte_before-inside at (length bytes) area.synced image i from to)
            (λ (above : at + length bytes ≤ i).
            at_i i lt ∙ byte_before-above at (length bytes) area.synced image i above
            ∙ now.kept i in_synced (in_image i lt) (unwritten-push i area.since (Wrote at bytes) none (inr above, tt)))
            (cases_lt i (at + length bytes)))
            (cases_lt i at);
      },
      record {
        no_shorter = omega (arith, size);
        no_longer = omega (arith, size, now.no_longer, most_now);
        below = λ i lt below. sym (at_i i lt ∙ byte_before-below at (length bytes) area.synced image i below);
        above = λ i lt above. sym (at_i i lt ∙ byte_before-above at (length bytes) area.synced image i above);
      },
    )

-- ---- a cut
-- the image before: after its end the synced bytes stand again
longer_byte : List ℕ → List ℕ → ℕ → ℕ
longer_byte synced image i = cond (ltb i (length image)) (slice_index image i) (slice_index synced i)

longer_byte-inside : (synced image : List ℕ) (i : ℕ) → i < length image → longer_byte synced image i ≡ slice_index image i
unfolding longer_byte
longer_byte-inside synced image i lt = rw (lt-ltb i (length image) lt) refl

longer_byte-behind : (synced image : List ℕ) (i : ℕ) → length image ≤ i → longer_byte synced image i ≡ slice_index synced i
unfolding longer_byte
longer_byte-behind synced image i behind = rw (le-ltb i (length image) behind) refl

-- a crash after a cut leaves what it might have left before, with any outcome of the cut
pub cut_follows : (area : PlainArea) (len : ℕ) (outcome image : List ℕ) → IsCrashImage (area_after area (CutTo len) outcome) image
    → (before : List ℕ) × IsCrashImage area before × PartlyCut len before image
cut_follows area len outcome image now =
    let least : ℕ = least_length (length area.synced) area.since in
    let least_now = least-cut (length area.synced) area.since len in
    let most_now = greatest-cut (length area.synced) area.since len in
    let least_most = least_end (length area.synced) area.since in
    let end_most = greatest_end (length area.synced) area.since in
    let byte : ℕ → ℕ = longer_byte area.synced image in
    let long : ℕ = max (length image) least in
    let size = by_offset-length byte long in
    let at_i : (i : ℕ) → i < length (by_offset byte long) → slice_index (by_offset byte long) i ≡ byte i = λ i lt. by_offset-at byte long i (omega (arith, lt, size)) in (
      by_offset byte long,
      record {
        no_shorter = omega (arith, size);
        no_longer = omega (arith, size, now.no_longer, most_now, least_most, end_most);
        kept = λ i in_synced lt none.
            ⊎_elim
            (λ (inside : i < length image).
            at_i i lt ∙ longer_byte-inside area.synced image i inside
            ∙ now.kept i in_synced inside (unwritten-push i area.since (CutTo len) none tt))
            (λ (behind : length image ≤ i). at_i i lt ∙ longer_byte-behind area.synced image i behind)
            (cases_lt i (length image));
      },
      record {
        no_shorter = omega (arith, size, now.no_shorter, least_now);
        no_longer = omega (arith, size);
        same = λ i inside. sym (at_i i (omega (arith, size, inside)) ∙ longer_byte-inside area.synced image i inside);
      },
    )

-- ---- what is read
-- where it is an image, so is any outcome of a write that begins within it
pub write_reads : (area : PlainArea) (at : ℕ) (bytes outcome : List ℕ) → IsCrashImage area area.reads → at ≤ length area.reads → Torn at (length bytes) area.reads outcome
    → IsCrashImage (area_after area (Wrote at bytes) outcome) outcome
write_reads area at bytes outcome was inside torn =
    let least_now = least-write (length area.synced) area.since at bytes in
    let most_now = greatest-write (length area.synced) area.since at bytes in
    record {
      no_shorter = omega (arith, least_now, was.no_shorter, torn.no_shorter);
      no_longer = omega (arith, most_now, was.no_longer, torn.no_longer);
      kept = λ i in_synced lt none.
          let none_before = unwritten-front i area.since (Wrote at bytes) none in
          ⊎_elim
          (λ (below : i < at).
          let old : i < length area.reads = omega (arith, below, inside) in
          torn.below i old below ∙ was.kept i in_synced old none_before)
          (λ (above : at + length bytes ≤ i).
          let old : i < length area.reads = omega (arith, above, lt, torn.no_longer) in
          torn.above i old above ∙ was.kept i in_synced old none_before)
          (unwritten-last i area.since (Wrote at bytes) none).0;
    }

-- so is any outcome of a cut
pub cut_reads : (area : PlainArea) (len : ℕ) (outcome : List ℕ) → IsCrashImage area area.reads → PartlyCut len area.reads outcome
    → IsCrashImage (area_after area (CutTo len) outcome) outcome
cut_reads area len outcome was partly =
    let least_now = least-cut (length area.synced) area.since len in
    let most_now = greatest-cut (length area.synced) area.since len in
    record {
      no_shorter = omega (arith, least_now, was.no_shorter, partly.no_shorter);
      no_longer = omega (arith, most_now, was.no_longer, partly.no_longer);
      kept = λ i in_synced lt none.
          partly.same i lt ∙ was.kept i in_synced (omega (arith, lt, partly.no_longer)) (unwritten-front i area.since (CutTo len) none);
    }

-- ---- a sync
pub lasting_image : (bytes : List ℕ) → IsCrashImage (lasting bytes) bytes
lasting_image bytes = record { no_shorter = omega arith; no_longer = omega arith; kept = λ i a b none. refl }

pub lasting_only : (bytes image : List ℕ) → IsCrashImage (lasting bytes) image → image ≡ bytes
lasting_only bytes image now =
    ext_get_or 0 image bytes (omega (arith, now.no_shorter, now.no_longer))
    (λ i lt. now.kept i (omega (arith, lt, now.no_longer)) lt tt)
