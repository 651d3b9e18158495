-- A stream that has no end yet is short.
use Rattle.std.proofs.Common.{◌≡◌, ◌≢◌, ◌⊎◌, ⊎_elim, inl, inr, ℕ, suc, ◌+◌, ◌*◌, ◌^◌, ◌<◌, ◌≤◌, List, [], ◌∷◌, ◌++◌, length, take, drop, refl, sym, ap, subst, ◌∙◌, arith, append_assoc, length-append, length-take, length-drop, take-append-drop, zero-mul}
use Rattle.std.specs.Prelude.{slice_index_or}
use Rattle.std.specs.Int.{w16, w32, to_be_bytes}
use Rattle.std.specs.List.{flat_map}
use Rattle.std.proofs.lemmas.Bool.{cases_eq, cases_lt}
use Rattle.cell_page.specs.declared.cell.Cell.{Cell}
use Rattle.cell_page.specs.Format.{IsSlotCount, IsPage, AreTyped, page_bytes, page_size}
use Rattle.cell_page.specs.Fields.{number_at}
use Rattle.cell_page.proofs.Numbers.{bytes_at_32, number_at_32-below}
use Rattle.page_area.proofs.InPlaceLaws.{page_length}
use Rattle.gate_log.specs.Batches.{batch_bytes, most_bytes}
use Rattle.log_record.specs.declared.record.Record.{Record}
use Rattle.ship_stream.specs.Reading.{Reading, Nothing, InBase, InLog, bytes_of, base_bytes, base_size, shipped_bytes, IsSize, ArePages}
use Rattle.ship_stream.specs.Faults.{BreaksLog, no_batch, no_body, no_end, RunsOver}
use Rattle.ship_stream.specs.Feeding.{HasCommitByte}
use Rattle.ship_stream.specs.Laws.{IsRead}
use Rattle.standby_feeding.specs.Streams.{AreBytes, IsEnded, longest}

-- ---- the pages

sized : {slots : ℕ} → IsSlotCount slots → (pages : List (List (Cell slots))) → ((p : ℕ) → p < length pages → (n : ℕ) × IsPage n (slice_index_or pages p []) × AreTyped (slice_index_or pages p []))
    → length (flat_map page_bytes pages) ≡ length pages * page_size slots
sized known [] are = sym (zero-mul _)
sized {slots} known (cells ∷ pages) are =
    let here = are 0 (omega arith) in
    let first : length (page_bytes cells) ≡ page_size slots = page_length here.0 cells known here.1 here.2 in
    let others : length (flat_map page_bytes pages) ≡ length pages * page_size slots = sized known pages (λ p below. are (suc p) (omega (arith, below))) in
    let all : length (flat_map page_bytes (cells ∷ pages)) ≡ length (page_bytes cells) + length (flat_map page_bytes pages) = length-append (page_bytes cells) (flat_map page_bytes pages) in
    let product : suc (length pages) * page_size slots ≡ length pages * page_size slots + page_size slots = omega arith in
    omega (arith, first, others, all, product)

base_length : {slots : ℕ} → IsSlotCount slots → (count : ℕ) (pages : List (List (Cell slots))) → ArePages pages → length (base_bytes count pages) ≡ base_size slots (length pages)
base_length known count pages are =
    let long = sized known pages (λ p below. let h = are p below in (p, h.0, h.1)) in
    omega (arith, long, length-append (to_be_bytes w16 count) (flat_map page_bytes pages))

-- so many pages take no more bytes than 1,024
base_most : (slots n : ℕ) → IsSlotCount slots → n ≤ 1024 → base_size slots n ≤ base_size slots 1024
base_most slots n known few =
    ⊎_elim
    (λ (six : slots ≡ 6). subst (λ (s : ℕ). base_size s n ≤ base_size s 1024) (sym six) (let e : 2 + n * 512 ≤ 2 + 1024 * 512 = omega (arith, few) in e))
    (λ (fourteen : slots ≡ 14). subst (λ (s : ℕ). base_size s n ≤ base_size s 1024) (sym fourteen) (let e : 2 + n * 1024 ≤ 2 + 1024 * 1024 = omega (arith, few) in e)) known

base_more : (slots n left : ℕ) → IsSlotCount slots → n < 1024 → left < page_size slots → base_size slots n + left < base_size slots 1024
base_more slots n left known few short =
    let next : base_size slots (n + 1) ≤ base_size slots 1024 = base_most slots (n + 1) known (omega (arith, few)) in
    let product : (n + 1) * page_size slots ≡ n * page_size slots + page_size slots = omega arith in
    omega (arith, next, product, short)

-- ---- the log

-- bytes that begin with a length
begins_size : (bytes : List ℕ) → AreBytes bytes → 4 ≤ length bytes → (size : ℕ) × (size < 2 ^ 32) × (bytes ≡ to_be_bytes w32 size ++ drop 4 bytes)
begins_size bytes typed long = (
  number_at w32 bytes 0,
  number_at_32-below bytes 0 typed,
  sym (take-append-drop 4 bytes) ∙ ap (λ (l : List ℕ). l ++ drop 4 bytes) (sym (bytes_at_32 bytes 0 typed (omega (arith, long)))),
)

-- after an open commit byte, as many bytes as a log area has at most are a batch that is whole, or show a fault
full_log : {slots : ℕ} (pages : ℕ) (batches : List (List (Record slots))) (more : List ℕ) → AreBytes more → most_bytes ≤ length (shipped_bytes batches) + (1 + length more)
    → ((body : List ℕ) (commit_byte : ℕ) (left : List ℕ) → 1 ∷ more ≡ batch_bytes body ++ commit_byte ∷ left → IsSize (length body) → ⊥)
    → ((at : ℕ) → BreaksLog pages batches (1 ∷ more) at → ⊥) → ⊥
full_log {slots} pages batches more typed full no_part no_fault =
    ⊎_elim
    (λ (short : length more < 4). ends (inl (omega (arith, full, short))))
    (λ (long : 4 ≤ length more).
    let s = begins_size more typed long in
    let left : List ℕ = drop 4 more in
    let counted : length more ≡ 4 + length left = omega (arith, length-drop 4 more, long) in
    ⊎_elim
    (λ (is : IsSize s.0).
    ⊎_elim
    (λ (whole : s.0 < length left). absurd (is_whole s.0 left is (ap (λ (l : List ℕ). 1 ∷ l) s.2) whole))
    (λ (cut : length left ≤ s.0). ends (inr (s.0, left, s.2, s.1, is, omega (arith, full, counted, cut))))
    (cases_lt s.0 (length left)))
    (λ (wrong : IsSize s.0 → ⊥).
    ⊎_elim
    (λ (over : most_bytes < length (shipped_bytes batches) + 5). ends (inl over))
    (λ (fits : length (shipped_bytes batches) + 5 ≤ most_bytes).
    no_fault (length (shipped_bytes batches)) (no_body s.0 left (ap (λ (l : List ℕ). 1 ∷ l) s.2) s.1 wrong fits refl))
    (cases_lt most_bytes (length (shipped_bytes batches) + 5)))
    (sizes s.0))
    (cases_lt (length more) 4)
  where
    ends : RunsOver (length (shipped_bytes batches)) more → ⊥
    ends over =
        let long : most_bytes ≤ length (shipped_bytes batches) + length {A = ℕ} (1 ∷ more) = omega (arith, full) in
        no_fault most_bytes (no_end more refl long over refl)

    sizes : (size : ℕ) → IsSize size ⊎ (IsSize size → ⊥)
    sizes size =
        ⊎_elim (λ (zero : size < 1). inr (λ is. omega (arith, zero, is.0)))
        (λ (some : 1 ≤ size). ⊎_elim (λ (great : 2 ^ 26 < size). inr (λ is. omega (arith, great, is.1))) (λ (small : size ≤ 2 ^ 26). inl (some, small)) (cases_lt (2 ^ 26) size)) (cases_lt size 1)

    is_whole : (size : ℕ) (left : List ℕ) → IsSize size → 1 ∷ more ≡ 1 ∷ (to_be_bytes w32 size ++ left) → size < length left → ⊥
    is_whole size left is are whole = split size left (take size left) (drop size left) is are (sym (take-append-drop size left)) (omega (arith, length-take size left, whole)) (omega (arith, length-drop size left, whole))
      where
        split : (size : ℕ) (left body behind : List ℕ) → IsSize size → 1 ∷ more ≡ 1 ∷ (to_be_bytes w32 size ++ left) → left ≡ body ++ behind → length body ≡ size → 1 ≤ length behind → ⊥
        split size left body [] is are both long some = omega (arith, some)
        split size left body (commit_byte ∷ behind) is are both long some =
            no_part body commit_byte behind
            (are ∙ ap (λ (l : List ℕ). 1 ∷ (to_be_bytes w32 size ++ l)) both ∙ ap (λ (n : ℕ). 1 ∷ (to_be_bytes w32 n ++ (body ++ commit_byte ∷ behind))) (sym long) ∙ ap (λ (l : List ℕ). 1 ∷ l) (sym (append_assoc (to_be_bytes w32 (length body)) body (commit_byte ∷ behind))))
            (subst (λ (n : ℕ). IsSize n) (sym long) is)

log_short : {slots : ℕ} (pages : ℕ) (batches : List (List (Record slots))) (rest : List ℕ) → AreBytes rest → (1 ≤ length batches → 1 ≤ length rest)
    → ((commit_byte : ℕ) (more : List ℕ) → rest ≡ commit_byte ∷ more → commit_byte ≢ 1 → 1 ≤ length batches → ⊥)
    → ((body : List ℕ) (commit_byte : ℕ) (left : List ℕ) → rest ≡ batch_bytes body ++ commit_byte ∷ left → IsSize (length body) → ⊥)
    → ((at : ℕ) → BreaksLog pages batches rest at → ⊥) → length (shipped_bytes batches) + length rest < most_bytes
log_short pages [] [] typed behind no_close no_part no_fault = omega arith
log_short pages (batch ∷ batches) [] typed behind no_close no_part no_fault = absurd (omega (arith, behind (omega arith)))
log_short pages batches (byte ∷ more) typed behind no_close no_part no_fault =
    elim (cases_eq byte 1) [
      | inl opened ↦
          ⊎_elim (λ (short : length (shipped_bytes batches) + (1 + length more) < most_bytes). let less : length (shipped_bytes batches) + length (byte ∷ more) < most_bytes = omega (arith, short) in less)
          (λ (full : most_bytes ≤ length (shipped_bytes batches) + (1 + length more)).
          let same : byte ∷ more ≡ 1 ∷ more = ap (λ (b : ℕ). b ∷ more) opened in
          absurd (full_log pages batches more (λ i. typed (suc i)) full (λ body commit_byte left are. no_part body commit_byte left (same ∙ are)) (λ at b. no_fault at (subst (λ (l : List ℕ). BreaksLog pages batches l at) (sym same) b))))
          (cases_lt (length (shipped_bytes batches) + (1 + length more)) most_bytes)
      | inr shut ↦ absurd (closed batches byte more shut (no_close byte more refl shut) no_fault)
    ]
  where
    closed : {slots : ℕ} (batches : List (List (Record slots))) (byte : ℕ) (more : List ℕ) → byte ≢ 1 → (1 ≤ length batches → ⊥) → ((at : ℕ) → BreaksLog pages batches (byte ∷ more) at → ⊥) → ⊥
    closed [] byte more shut none no_fault = no_fault 0 (no_batch byte more refl refl shut refl)
    closed (batch ∷ batches) byte more shut none no_fault = none (omega arith)

-- ---- the whole

bytes_behind : (front rest bytes : List ℕ) → bytes ≡ front ++ rest → AreBytes bytes → AreBytes rest
bytes_behind [] rest bytes are typed = subst AreBytes are typed
bytes_behind (x ∷ front) rest bytes are typed = bytes_behind front rest (front ++ rest) refl (λ i. (subst AreBytes are typed) (suc i))

commit_byte_behind : {slots : ℕ} (pages : List (List (Cell slots))) (batches : List (List (Record slots))) (rest : List ℕ) → HasCommitByte (InLog pages batches) rest → 1 ≤ length batches → 1 ≤ length rest
commit_byte_behind pages [] rest has some = absurd (omega (arith, some))
commit_byte_behind pages (batch ∷ batches) rest has some = has

pub short : (slots : ℕ) (bytes rest : List ℕ) (r : Reading slots) → IsSlotCount slots → AreBytes bytes → IsRead bytes r rest → (IsEnded r rest → ⊥) → length bytes < longest slots
short slots bytes rest Nothing known typed read open_end =
    ⊎_elim (λ (few : length rest < 2). omega (arith, few, ap length read.split)) (λ (many : 2 ≤ length rest). absurd (read.waits.no_part many)) (cases_lt (length rest) 2)
short slots bytes rest (InBase count pages) known typed read open_end =
    let base = base_length known count pages read.reading.2 in
    ⊎_elim
    (λ (few : length rest < page_size slots).
    let fits = base_more slots (length pages) (length rest) known (omega (arith, read.reading.0.1, read.reading.1)) few in
    omega (arith, fits, base, ap length read.split, length-append (base_bytes count pages) rest))
    (λ (many : page_size slots ≤ length rest). absurd (read.waits.no_part many)) (cases_lt (length rest) (page_size slots))
short slots bytes rest (InLog pages batches) known typed read open_end =
    let base = base_length known (length pages) pages read.reading.1 in
    let fits = base_most slots (length pages) known read.reading.0.1 in
    let log : length (shipped_bytes batches) + length rest < most_bytes =
    log_short (length pages) batches rest (bytes_behind (bytes_of (InLog pages batches)) rest bytes read.split typed) (commit_byte_behind pages batches rest read.waits.behind)
    (λ commit_byte more are shut some. open_end (commit_byte, more, are, shut, some))
    (λ body commit_byte left are size. read.waits.no_part (body, commit_byte, left, are, size))
    (λ at b. read.waits.no_fault (length (base_bytes (length pages) pages) + at) (at, b, refl)) in
    omega (arith, log, base, fits, ap length read.split, length-append (bytes_of (InLog pages batches)) rest, length-append (base_bytes (length pages) pages) (shipped_bytes batches))
