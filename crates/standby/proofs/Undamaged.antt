-- Bytes that are read to their end, and whose records fit, show no fault.
use Rattle.std.proofs.Common.{◌≡◌, inl, inr, ◌⊎◌, ℕ, suc, ◌+◌, ◌*◌, ◌^◌, ◌<◌, ◌≤◌, Bool, List, [], ◌∷◌, ◌++◌, length, take, drop, get_or, refl, sym, ap, subst, ◌∙◌, arith, append_assoc, length-append, zero-add}
use Rattle.std.specs.Prelude.{slice_index_or}
use Rattle.std.specs.Int.{w16, w32, to_be_bytes, from_be_bytes}
use Rattle.std.specs.List.{flat_map}
use Rattle.std.proofs.lemmas.Bool.{cases_eq}
use Rattle.std.proofs.lemmas.List.{append-nil, append_cancel_left, take_at, drop_at}
use Rattle.std.proofs.lemmas.Nat.{from_be_bytes-to_be_bytes_2, from_be_bytes-to_be_bytes_4}
use Rattle.std.proofs.Math.Nat.{mul-le-mul_right}
use Rattle.cell_page.specs.declared.cell.Cell.{Cell}
use Rattle.cell_page.specs.Format.{IsSlotCount, IsPage, AreTyped, page_bytes, page_size}
use Rattle.cell_page.specs.Fields.{FailsAt}
use Rattle.cell_page.proofs.Pages.{same_page, page_refused}
use Rattle.page_area.proofs.InPlaceLaws.{page_length}
use Rattle.gate_log.specs.Batches.{batch_bytes}
use Rattle.log_record.specs.declared.record.Record.{Record}
use Rattle.log_record.specs.Spelling.{record_bytes, BeginsWith}
use Rattle.log_record.proofs.Apart.{one_record}
use Rattle.log_replay.specs.Replays.{Replaying, after_taking}
use Rattle.opened_images.specs.LogRecords.{body_of, all_of, HaveSpellings}
use Rattle.opened_images.proofs.Bodies.{begins, none_begins, same_records, cons_same}
use Rattle.ship_stream.specs.Reading.{Reading, Nothing, InBase, InLog, bytes_of, base_bytes, shipped_bytes, is_first, IsPageCount, IsSize, ArePages, MayStand, AllMayStand, Follows, AllFollow, IsReading}
use Rattle.ship_stream.specs.Faults.{RunsOver, BreaksLog, no_batch, no_body, no_record, no_end, Breaks}
use Rattle.ship_stream.specs.Feeding.{HasCommitByte}
use Rattle.ship_stream.specs.Laws.{IsRead}
use Rattle.standby.specs.Following.{over_base, base_after, after_all, AllFit, StopsFitting, FitsBase}
use Rattle.standby.specs.Damage.{IsUnfitAt}
use Rattle.standby.specs.Laws.{UndamagedLaw}
use Rattle.standby.proofs.TakingLaws.{log_bytes_broke}
use Rattle.standby.proofs.MadeStores.{page_there}

-- ---- numbers

same_size : (m n : ℕ) → to_be_bytes w32 m ≡ to_be_bytes w32 n → m < 2 ^ 32 → n < 2 ^ 32 → m ≡ n
same_size m n same typed typed_too = sym (from_be_bytes-to_be_bytes_4 m typed) ∙ ap (from_be_bytes w32) same ∙ from_be_bytes-to_be_bytes_4 n typed_too

same_count : (n m : ℕ) (x y : List ℕ) → n < 2 ^ 16 → m < 2 ^ 16 → to_be_bytes w16 n ++ x ≡ to_be_bytes w16 m ++ y → (n ≡ m) × (x ≡ y)
same_count n m x y few few_too same =
    let numbers : to_be_bytes w16 n ≡ to_be_bytes w16 m = sym (take_at (to_be_bytes w16 n) x 2 refl) ∙ ap (λ (l : List ℕ). take 2 l) same ∙ take_at (to_be_bytes w16 m) y 2 refl in (
      sym (from_be_bytes-to_be_bytes_2 n (omega arith)) ∙ ap (from_be_bytes w16) numbers ∙ from_be_bytes-to_be_bytes_2 m few_too,
      sym (drop_at (to_be_bytes w16 n) x 2 refl) ∙ ap (λ (l : List ℕ). drop 2 l) same ∙ drop_at (to_be_bytes w16 m) y 2 refl,
    )

-- ---- the pages

-- pages from this number on
abbrev AreFrom : {slots : ℕ} → ℕ → List (List (Cell slots)) → Type 0
AreFrom first [] = Unit {0}
AreFrom first (cells ∷ pages) = IsPage first cells × AreTyped cells × AreFrom (first + 1) pages

are_from : {slots : ℕ} (first : ℕ) (pages : List (List (Cell slots))) → ((p : ℕ) → p < length pages → IsPage (first + p) (slice_index_or pages p []) × AreTyped (slice_index_or pages p [])) → AreFrom first pages
are_from first [] are = tt
are_from first (cells ∷ pages) are =
    let head = are 0 (omega arith) in (
      subst (λ (k : ℕ). IsPage k cells) (omega arith) head.0,
      head.1,
      are_from (first + 1) pages (λ p below. let next = are (suc p) (omega (arith, below)) in (subst (λ (k : ℕ). IsPage k (slice_index_or pages p [])) (omega arith) next.0, next.1)),
    )

all_from : {slots : ℕ} (pages : List (List (Cell slots))) → ArePages pages → AreFrom 0 pages
all_from pages are = are_from 0 pages (λ p below. let here = are p below in (subst (λ (k : ℕ). IsPage k (slice_index_or pages p [])) (sym (zero-add p)) here.0, here.1))

same_pages : {slots : ℕ} → IsSlotCount slots → (first : ℕ) (pages others : List (List (Cell slots))) (x y : List ℕ) → AreFrom first pages → AreFrom first others → length pages ≡ length others
    → flat_map page_bytes pages ++ x ≡ flat_map page_bytes others ++ y → (pages ≡ others) × (x ≡ y)
same_pages known first [] [] x y are are_too long same = (refl, same)
same_pages known first [] (q ∷ qs) x y are are_too long same = absurd (omega (arith, long))
same_pages known first (p ∷ ps) [] x y are are_too long same = absurd (omega (arith, long))
same_pages {slots} known first (p ∷ ps) (q ∷ qs) x y are are_too long same =
    let split : page_bytes p ++ (flat_map page_bytes ps ++ x) ≡ page_bytes q ++ (flat_map page_bytes qs ++ y) =
    sym (append_assoc (page_bytes p) (flat_map page_bytes ps) x) ∙ same ∙ append_assoc (page_bytes q) (flat_map page_bytes qs) y in
    let size = page_length first p known are.0 are.1 in
    let size_too = page_length first q known are_too.0 are_too.1 in
    let bytes : page_bytes p ≡ page_bytes q =
    sym (take_at (page_bytes p) (flat_map page_bytes ps ++ x) (page_size slots) size) ∙ ap (λ (l : List ℕ). take (page_size slots) l) split
    ∙ take_at (page_bytes q) (flat_map page_bytes qs ++ y) (page_size slots) size_too in
    let here : p ≡ q = (same_page first first p q (page_bytes p) known are.1 are_too.1 (record { rules = are.0; spelled = refl }) (record { rules = are_too.0; spelled = bytes })).1 in
    let left : flat_map page_bytes ps ++ x ≡ flat_map page_bytes qs ++ y =
    sym (drop_at (page_bytes p) (flat_map page_bytes ps ++ x) (page_size slots) size) ∙ ap (λ (l : List ℕ). drop (page_size slots) l) split
    ∙ drop_at (page_bytes q) (flat_map page_bytes qs ++ y) (page_size slots) size_too in
    let rest = same_pages known (first + 1) ps qs x y are.2 are_too.2 (omega (arith, long)) left in
    (cons_same p q ps qs here rest.0, rest.1)

pages_size : {slots : ℕ} → IsSlotCount slots → (first : ℕ) (pages : List (List (Cell slots))) → AreFrom first pages → length (flat_map page_bytes pages) ≡ length pages * page_size slots
pages_size known first [] are = omega arith
pages_size known first (p ∷ ps) are = omega (arith, page_length first p known are.0 are.1, pages_size known (first + 1) ps are.2, length-append (page_bytes p) (flat_map page_bytes ps))

-- where one has fewer pages, the next one is there
next_there : {slots : ℕ} → IsSlotCount slots → (pages others : List (List (Cell slots))) (x y : List ℕ) → ArePages pages → ArePages others → length pages < length others
    → flat_map page_bytes pages ++ x ≡ flat_map page_bytes others ++ y → page_size slots ≤ length x
next_there {slots} known pages others x y are are_too fewer same =
    let more : (length pages + 1) * page_size slots ≤ length others * page_size slots = mul-le-mul_right (page_size slots) (omega (arith, fewer)) in
    omega (arith, more, ap length same, length-append (flat_map page_bytes pages) x, length-append (flat_map page_bytes others) y, pages_size known 0 pages (all_from pages are), pages_size known 0 others (all_from others are_too))

-- a page that is there is whole
page_whole : {slots : ℕ} → IsSlotCount slots → (pages others : List (List (Cell slots))) (x y : List ℕ) (at : ℕ) → ArePages pages → ArePages others → length others < length pages
    → flat_map page_bytes pages ++ x ≡ flat_map page_bytes others ++ y → FailsAt slots (length others) (take (page_size slots) y) at → ⊥
page_whole {slots} known pages others x y at are are_too fewer same fails = by (subst (λ (l : List ℕ). FailsAt slots p l at) there fails)
  where
    p : ℕ
    p = length others

    page : List (Cell slots)
    page = get_or pages p []

    each : IsPage p page × AreTyped page
    each = are p fewer

    behind : drop (page_size slots * p) (flat_map page_bytes pages ++ x) ≡ y
    behind = ap (λ (l : List ℕ). drop (page_size slots * p) l) same ∙ drop_at (flat_map page_bytes others) y (page_size slots * p) (omega (arith, pages_size known 0 others (all_from others are_too)))

    there : take (page_size slots) y ≡ page_bytes page
    there = ap (λ (l : List ℕ). take (page_size slots) l) (sym behind) ∙ page_there pages p x (λ k low. let e = are k low in page_length k (get_or pages k []) known e.0 e.1) fewer

    by : FailsAt slots p (page_bytes page) at → ⊥
    by (inl short) = let less = short.0 in omega (arith, page_length p page known each.0 each.1, less)
    by (inr broken) =
        page_refused p broken.1.place broken.1.offset (page_bytes page) known broken.1.within broken.1.here page each.1 (record { rules = each.0; spelled = refl })

-- ---- the batches

same_body : (a b x y : List ℕ) → length a < 2 ^ 32 → length b < 2 ^ 32 → batch_bytes a ++ x ≡ batch_bytes b ++ y → (a ≡ b) × (x ≡ y)
same_body a b x y typed typed_too same =
    let split : to_be_bytes w32 (length a) ++ (a ++ x) ≡ to_be_bytes w32 (length b) ++ (b ++ y) =
    sym (append_assoc (to_be_bytes w32 (length a)) a x) ∙ ap (λ (l : List ℕ). drop 1 l) same ∙ append_assoc (to_be_bytes w32 (length b)) b y in
    let sizes : to_be_bytes w32 (length a) ≡ to_be_bytes w32 (length b) =
    sym (take_at (to_be_bytes w32 (length a)) (a ++ x) 4 refl) ∙ ap (λ (l : List ℕ). take 4 l) split ∙ take_at (to_be_bytes w32 (length b)) (b ++ y) 4 refl in
    let long : length a ≡ length b = same_size (length a) (length b) sizes typed typed_too in
    let bodies : a ++ x ≡ b ++ y =
    sym (drop_at (to_be_bytes w32 (length a)) (a ++ x) 4 refl) ∙ ap (λ (l : List ℕ). drop 4 l) split ∙ drop_at (to_be_bytes w32 (length b)) (b ++ y) 4 refl in (
      sym (take_at a x (length a) refl) ∙ ap (λ (l : List ℕ). take (length a) l) bodies ∙ take_at b y (length a) (sym long),
      sym (drop_at a x (length a) refl) ∙ ap (λ (l : List ℕ). drop (length a) l) bodies ∙ drop_at b y (length a) (sym long),
    )

-- a whole batch with its commit byte stands in front
abbrev IsBatchThere : List ℕ → Type 0
IsBatchThere rest = (body : List ℕ) × (commit_byte : ℕ) × (left : List ℕ) × (rest ≡ batch_bytes body ++ commit_byte ∷ left) × IsSize (length body)

-- after batches a commit byte came
abbrev CommitByteBehind : {slots : ℕ} → List (List (Record slots)) → List ℕ → Type 0
CommitByteBehind [] rest = Unit {0}
CommitByteBehind (batch ∷ batches) rest = 1 ≤ length rest

there : (body rest : List ℕ) → IsSize (length body) → 1 ≤ length rest → (batch : List ℕ) → batch ≡ batch_bytes body ++ rest → IsBatchThere batch
there body [] size some batch is = absurd (omega (arith, some))
there body (commit_byte ∷ left) size some batch is = (body, commit_byte, left, is, size)

weaker : {slots : ℕ} (batches : List (List (Record slots))) (rest : List ℕ) → 1 ≤ length rest → CommitByteBehind batches rest
weaker [] rest some = tt
weaker (next ∷ batches) rest some = some

-- ---- a batch that may follow is no fault

first_byte : (l m : List ℕ) → l ≡ m → get_or l 0 0 ≡ get_or m 0 0
first_byte l m same = ap (λ (k : List ℕ). get_or k 0 0) same

-- the length in front of it is its own
size_there : (size : ℕ) (body tail more : List ℕ) → 1 ∷ (to_be_bytes w32 size ++ more) ≡ batch_bytes body ++ tail → size < 2 ^ 32 → length body < 2 ^ 32 → size ≡ length body
size_there size body tail more same typed typed_too =
    let split : to_be_bytes w32 size ++ more ≡ to_be_bytes w32 (length body) ++ (body ++ tail) = ap (λ (l : List ℕ). drop 1 l) same ∙ append_assoc (to_be_bytes w32 (length body)) body tail in
    same_size size (length body)
    (sym (take_at (to_be_bytes w32 size) more 4 refl) ∙ ap (λ (l : List ℕ). take 4 l) split ∙ take_at (to_be_bytes w32 (length body)) (body ++ tail) 4 refl) typed typed_too

-- in a body of records that may stand there, none stands that may not
body_stands : {slots : ℕ} → IsSlotCount slots → (first : Bool) (pages offset : ℕ) (rs ss : List (Record slots)) (left : List ℕ) → HaveSpellings rs → HaveSpellings ss → AllMayStand first pages offset ss
    → body_of rs ++ left ≡ body_of ss → 1 ≤ length left → ((r : Record slots) (len : ℕ) → BeginsWith left r len → MayStand first pages (offset + length (body_of rs)) r → ⊥) → ⊥
body_stands known first pages offset [] [] left a b stand same some none = omega (arith, some, ap length same)
body_stands known first pages offset [] (s ∷ ss) left a b stand same some none =
    none s (length (record_bytes s)) (begins s (body_of ss) left b.0 b.1 same) (subst (λ (k : ℕ). MayStand first pages k s) (omega arith) stand.0)
body_stands known first pages offset (r ∷ rs) [] left a b stand same some none =
    none_begins r _ (begins r (body_of rs ++ left) [] a.0 a.1 (sym same ∙ append_assoc (record_bytes r) (body_of rs) left))
body_stands known first pages offset (r ∷ rs) (s ∷ ss) left a b stand same some none =
    let split : body_of (s ∷ ss) ≡ record_bytes r ++ (body_of rs ++ left) = sym same ∙ append_assoc (record_bytes r) (body_of rs) left in
    let is : r ≡ s = (one_record (body_of (s ∷ ss)) r s _ _ known (begins r (body_of rs ++ left) (body_of (s ∷ ss)) a.0 a.1 split) (begins s (body_of ss) (body_of (s ∷ ss)) b.0 b.1 refl)).0 in
    let rest : body_of rs ++ left ≡ body_of ss =
    append_cancel_left (record_bytes s) (body_of rs ++ left) (body_of ss) (ap (λ t. record_bytes t ++ (body_of rs ++ left)) (sym is) ∙ sym split) in
    let size : length (record_bytes r) ≡ length (record_bytes s) = ap (λ t. length (record_bytes t)) is in
    body_stands known first pages (offset + length (record_bytes s)) rs ss left a.2 b.2 stand.1 rest some
    (λ q len begin may. none q len begin (subst (λ (k : ℕ). MayStand first pages k q) (omega (arith, size, length-append (record_bytes r) (body_of rs))) may))

batch_unbroken : {slots : ℕ} → IsSlotCount slots → (pages : ℕ) (before : List (List (Record slots))) (a : List (Record slots)) (y tail : List ℕ) (place : ℕ) → Follows pages before a → 1 ≤ length tail
    → y ≡ batch_bytes (body_of a) ++ tail → BreaksLog pages before y place → ⊥
batch_unbroken known pages before a y tail place f some is (no_batch commit_byte more first are closed at) = closed (sym (first_byte (batch_bytes (body_of a) ++ tail) (commit_byte ∷ more) (sym is ∙ are)))
batch_unbroken known pages before a y tail place f some is (no_body size more are typed wrong within at) =
    wrong (subst (λ k. IsSize k) (sym (size_there size (body_of a) tail more (sym are ∙ is) typed (omega (arith, f.size.1)))) f.size)
batch_unbroken known pages before a y tail place f some is (no_record rs left commit_byte more are size within stops at) =
    let body = (same_body (body_of rs ++ left) (body_of a) (commit_byte ∷ more) tail (omega (arith, size.1)) (omega (arith, f.size.1)) (sym are ∙ is)).0 in
    body_stands known (is_first before) pages 0 rs a left stops.spelled f.spelled f.stand body stops.some
    (λ r len begin may. stops.none r len begin (subst (λ (k : ℕ). MayStand (is_first before) pages k r) (zero-add (length (body_of rs))) may))
batch_unbroken {slots} known pages before a y tail place f some is (no_end more are full over at) = by over
  where
    by : RunsOver (length (shipped_bytes before)) more → ⊥
    by (inl short) = omega (arith, short, f.within)
    by (inr long) =
        let head : 1 ∷ (to_be_bytes w32 long.0 ++ long.1) ≡ batch_bytes (body_of a) ++ tail = ap (λ (l : List ℕ). 1 ∷ l) (sym long.2) ∙ sym are ∙ is in
        omega (arith, size_there long.0 (body_of a) tail long.1 head long.3 (omega (arith, f.size.1)), long.5, f.within)

-- ---- batches that are read to the end

log_unbroken : {slots : ℕ} → IsSlotCount slots → (pages : ℕ) (before these those : List (List (Record slots))) (x y : List ℕ) (place : ℕ) → AllFollow pages before these → AllFollow pages before those
    → CommitByteBehind these x → (IsBatchThere x → ⊥) → ((at : ℕ) → BreaksLog pages (before ++ these) x at → ⊥) → BreaksLog pages (before ++ those) y place → shipped_bytes these ++ x ≡ shipped_bytes those ++ y → ⊥
log_unbroken known pages before [] [] x y place all all_too behind none no_fault breaks same = no_fault place (subst (λ (l : List ℕ). BreaksLog pages (before ++ []) l place) (sym same) breaks)
log_unbroken known pages before [] (b ∷ those) x y place all all_too behind none no_fault breaks same =
    none (there (body_of b) (shipped_bytes those ++ y) all_too.0.size (omega (arith, log_bytes_broke pages (before ++ b ∷ those) y place breaks, length-append (shipped_bytes those) y)) x
    (same ∙ append_assoc (batch_bytes (body_of b)) (shipped_bytes those) y))
log_unbroken {slots} known pages before (a ∷ these) [] x y place all all_too behind none no_fault breaks same =
    batch_unbroken known pages before a y (shipped_bytes these ++ x) place all.0 (omega (arith, behind, length-append (shipped_bytes these) x)) (sym same ∙ append_assoc (batch_bytes (body_of a)) (shipped_bytes these) x)
    (subst (λ (l : List (List (Record slots))). BreaksLog pages l y place) (append-nil before) breaks)
log_unbroken {slots} known pages before (a ∷ these) (b ∷ those) x y place all all_too behind none no_fault breaks same =
    let split = same_body (body_of a) (body_of b) (shipped_bytes these ++ x) (shipped_bytes those ++ y) (omega (arith, all.0.size.1)) (omega (arith, all_too.0.size.1))
    (sym (append_assoc (batch_bytes (body_of a)) (shipped_bytes these) x) ∙ same ∙ append_assoc (batch_bytes (body_of b)) (shipped_bytes those) y) in
    let here : a ≡ b = same_records known a b all.0.spelled all_too.0.spelled split.0 in
    log_unbroken known pages (before ++ a ∷ []) these those x y place all.1 (subst (λ (r : List (Record slots)). AllFollow pages (before ++ r ∷ []) those) (sym here) all_too.1) (weaker these x behind) none
    (λ at b. no_fault at (subst (λ (l : List (List (Record slots))). BreaksLog pages l x at) (append_assoc before (a ∷ []) these) b))
    (subst (λ (l : List (List (Record slots))). BreaksLog pages l y place) (ap (λ (r : List (Record slots)). before ++ r ∷ those) (sym here) ∙ sym (append_assoc before (a ∷ []) those)) breaks) split.1

-- other batches of the same bytes, after which a commit byte came, are the first of them
log_front : {slots : ℕ} → IsSlotCount slots → (pages : ℕ) (before before_too these those : List (List (Record slots))) (x y : List ℕ) → AllFollow pages before these → AllFollow pages before_too those
    → 1 ≤ length y → (IsBatchThere x → ⊥) → shipped_bytes these ++ x ≡ shipped_bytes those ++ y → (later : List (List (Record slots))) × (these ≡ those ++ later)
log_front known pages before before_too these [] x y all all_too some none same = (these, refl)
log_front known pages before before_too [] (b ∷ those) x y all all_too some none same =
    absurd (none (there (body_of b) (shipped_bytes those ++ y) all_too.0.size (omega (arith, some, length-append (shipped_bytes those) y)) x (same ∙ append_assoc (batch_bytes (body_of b)) (shipped_bytes those) y)))
log_front known pages before before_too (a ∷ these) (b ∷ those) x y all all_too some none same =
    let split = same_body (body_of a) (body_of b) (shipped_bytes these ++ x) (shipped_bytes those ++ y) (omega (arith, all.0.size.1)) (omega (arith, all_too.0.size.1))
    (sym (append_assoc (batch_bytes (body_of a)) (shipped_bytes these) x) ∙ same ∙ append_assoc (batch_bytes (body_of b)) (shipped_bytes those) y) in
    let here = same_records known a b all.0.spelled all_too.0.spelled split.0 in
    let rest = log_front known pages (before ++ a ∷ []) (before_too ++ b ∷ []) these those x y all.1 all_too.1 some none split.1 in
    (rest.0, cons_same a b these (those ++ rest.0) here rest.1)

-- ---- records that fit

fit_front : {slots : ℕ} (v : Replaying) (rs ss : List (Record slots)) → AllFit v (rs ++ ss) → AllFit v rs
fit_front v [] ss fit = tt
fit_front v (r ∷ rs) ss fit = (fit.0, fit_front (after_taking r v) rs ss fit.1)

fit_back : {slots : ℕ} (v : Replaying) (rs ss : List (Record slots)) → AllFit v (rs ++ ss) → AllFit (after_all v rs) ss
fit_back v [] ss fit = fit
fit_back v (r ∷ rs) ss fit = fit_back (after_taking r v) rs ss fit.1

fits_on : {slots : ℕ} (v : Replaying) (rs : List (Record slots)) (at place : ℕ) → AllFit v rs → StopsFitting v rs at place → ⊥
fits_on v [] at place fit stops = stops
fits_on v (r ∷ rs) at place fit (inl stop) = stop.0 fit.0
fits_on v (r ∷ rs) at place fit (inr later) = fits_on (after_taking r v) rs (at + length (record_bytes r)) place fit.1 later.1

all_both : {slots : ℕ} (these those : List (List (Record slots))) → all_of (these ++ those) ≡ all_of these ++ all_of those
all_both [] those = refl
all_both (rs ∷ these) those = ap (λ l. rs ++ l) (all_both these those) ∙ sym (append_assoc rs (all_of these) (all_of those))

all_fit : {slots : ℕ} (pages : List (List (Cell slots))) (front later : List (List (Record slots))) (rs : List (Record slots)) → AllFit (over_base pages) (all_of ((front ++ rs ∷ []) ++ later)) → AllFit (base_after pages front) rs
all_fit {slots} pages front later rs fit =
    let split : all_of ((front ++ rs ∷ []) ++ later) ≡ all_of front ++ (rs ++ all_of later) =
    ap (λ (l : List (List (Record slots))). all_of l) (append_assoc front (rs ∷ []) later) ∙ all_both front (rs ∷ later) in
    fit_front (base_after pages front) rs (all_of later) (fit_back (over_base pages) (all_of front) (rs ++ all_of later) (subst (λ (l : List (Record slots)). AllFit (over_base pages) l) split fit))

-- ---- the whole

behind_in_log : {slots : ℕ} (pages : List (List (Cell slots))) (batches : List (List (Record slots))) (rest : List ℕ) → HasCommitByte (InLog pages batches) rest → CommitByteBehind batches rest
behind_in_log pages [] rest behind = tt
behind_in_log pages (batch ∷ batches) rest behind = behind

compared : (a b : ℕ) → (a ≡ b → ⊥) → (a < b) ⊎ (b < a)
compared a b apart = grind arith

-- the number in front of a base
count_apart : (n m : ℕ) (p q x y bytes : List ℕ) → n < 2 ^ 16 → m < 2 ^ 16 → bytes ≡ (to_be_bytes w16 n ++ p) ++ x → bytes ≡ (to_be_bytes w16 m ++ q) ++ y → (n ≡ m) × (p ++ x ≡ q ++ y)
count_apart n m p q x y bytes few few_too a b =
    same_count n m (p ++ x) (q ++ y) few few_too (sym (append_assoc (to_be_bytes w16 n) p x) ∙ sym a ∙ b ∙ append_assoc (to_be_bytes w16 m) q y)

short_base : (n : ℕ) (p x bytes : List ℕ) → bytes ≡ (to_be_bytes w16 n ++ p) ++ x → 2 ≤ length bytes
short_base n p x bytes is = omega (arith, ap length is, length-append (to_be_bytes w16 n ++ p) x, length-append (to_be_bytes w16 n) p)

log_split : {slots : ℕ} (pages : List (List (Cell slots))) (batches : List (List (Record slots))) (bytes x : List ℕ) → bytes ≡ bytes_of (InLog pages batches) ++ x
    → bytes ≡ (to_be_bytes w16 (length pages) ++ flat_map page_bytes pages) ++ (shipped_bytes batches ++ x)
log_split pages batches bytes x is = is ∙ append_assoc (base_bytes (length pages) pages) (shipped_bytes batches) x

-- a number that is wrong isn't that of pages that came
number_right : (n : ℕ) (p x bytes more : List ℕ) (at : ℕ) → IsPageCount n → bytes ≡ (to_be_bytes w16 n ++ p) ++ x → bytes ≡ more → (count : ℕ) (tail : List ℕ) → more ≡ to_be_bytes w16 count ++ tail → count < 2 ^ 16
    → (IsPageCount count → ⊥) → ⊥
number_right n p x bytes more at known a b count tail is typed wrong =
    let same = same_count n count (p ++ x) tail (omega (arith, known.1)) typed (sym (append_assoc (to_be_bytes w16 n) p x) ∙ sym a ∙ b ∙ is) in
    wrong (subst (λ k. IsPageCount k) same.0 known)

module _ (slots at : ℕ) (bytes x : List ℕ) (known : IsSlotCount slots) where
  -- the pages that came, of which some are missing, against all
  base_short : (n : ℕ) (ps qs : List (List (Cell slots))) (z : List ℕ) → IsRead bytes (InBase n ps) x → IsPageCount (length qs) → ArePages qs → bytes ≡ (to_be_bytes w16 (length qs) ++ flat_map page_bytes qs) ++ z → ⊥
  base_short n ps qs z a count are split =
      let same = count_apart n (length qs) (flat_map page_bytes ps) (flat_map page_bytes qs) x z bytes (omega (arith, a.reading.0.1)) (omega (arith, count.1)) a.split split in
      a.waits.no_part (next_there known ps qs x z a.reading.2 are (omega (arith, a.reading.1, same.0)) same.1)

  unbroken : (r s : Reading slots) (y : List ℕ) → IsRead bytes r x → IsReading s → bytes ≡ bytes_of s ++ y → Breaks s y at → ⊥
  unbroken Nothing Nothing y a s split breaks = a.waits.no_fault at (subst (λ (l : List ℕ). Breaks {slots = slots} Nothing l at) (sym split ∙ a.split) breaks)
  unbroken Nothing (InBase m qs) y a s split breaks = a.waits.no_part (subst (λ (l : List ℕ). 2 ≤ length l) a.split (short_base m (flat_map page_bytes qs) y bytes split))
  unbroken Nothing (InLog qs cs) y a s split breaks =
      a.waits.no_part (subst (λ (l : List ℕ). 2 ≤ length l) a.split (short_base (length qs) (flat_map page_bytes qs) (shipped_bytes cs ++ y) bytes (log_split qs cs bytes y split)))
  unbroken (InBase n ps) Nothing y a s split breaks = number_right n (flat_map page_bytes ps) x bytes y at a.reading.0 a.split split breaks.0 breaks.1 breaks.2 breaks.3 breaks.4
  unbroken (InBase n ps) (InBase m qs) y a s split breaks = by (cases_eq (length ps) (length qs))
    where
      same : (n ≡ m) × (flat_map page_bytes ps ++ x ≡ flat_map page_bytes qs ++ y)
      same = count_apart n m (flat_map page_bytes ps) (flat_map page_bytes qs) x y bytes (omega (arith, a.reading.0.1)) (omega (arith, s.0.1)) a.split split

      apart : (length ps < length qs) ⊎ (length qs < length ps) → ⊥
      apart (inl fewer) = a.waits.no_part (next_there known ps qs x y a.reading.2 s.2 fewer same.1)
      apart (inr fewer) = page_whole known ps qs x y breaks.0 a.reading.2 s.2 fewer same.1 breaks.2

      by : (length ps ≡ length qs) ⊎ (length ps ≡ length qs → ⊥) → ⊥
      by (inl long) =
          let pages = same_pages known 0 ps qs x y (all_from ps a.reading.2) (all_from qs s.2) long same.1 in
          a.waits.no_fault at (subst (λ (l : List ℕ). Breaks (InBase n ps) l at) (sym pages.1) (subst (λ (l : List (List (Cell slots))). Breaks (InBase n l) y at) (sym pages.0) (subst (λ (k : ℕ). Breaks (InBase k qs) y at) (sym same.0) breaks)))
      by (inr not) = apart (compared (length ps) (length qs) not)
  unbroken (InBase n ps) (InLog qs cs) y a s split breaks = base_short n ps qs (shipped_bytes cs ++ y) a s.0 s.1 (log_split qs cs bytes y split)
  unbroken (InLog ps bs) Nothing y a s split breaks =
      number_right (length ps) (flat_map page_bytes ps) (shipped_bytes bs ++ x) bytes y at a.reading.0 (log_split ps bs bytes x a.split) split breaks.0 breaks.1 breaks.2 breaks.3 breaks.4
  unbroken (InLog ps bs) (InBase m qs) y a s split breaks =
      let same = count_apart (length ps) m (flat_map page_bytes ps) (flat_map page_bytes qs) (shipped_bytes bs ++ x) y bytes (omega (arith, a.reading.0.1)) (omega (arith, s.0.1)) (log_split ps bs bytes x a.split) split in
      page_whole known ps qs (shipped_bytes bs ++ x) y breaks.0 a.reading.1 s.2 (omega (arith, s.1, same.0)) same.1 breaks.2
  unbroken (InLog ps bs) (InLog qs cs) y a s split breaks =
      let same = count_apart (length ps) (length qs) (flat_map page_bytes ps) (flat_map page_bytes qs) (shipped_bytes bs ++ x) (shipped_bytes cs ++ y) bytes (omega (arith, a.reading.0.1)) (omega (arith, s.0.1))
      (log_split ps bs bytes x a.split) (log_split qs cs bytes y split) in
      let pages = same_pages known 0 ps qs (shipped_bytes bs ++ x) (shipped_bytes cs ++ y) (all_from ps a.reading.1) (all_from qs s.1) same.0 same.1 in
      log_unbroken known (length ps) [] bs cs x y breaks.0 a.reading.2 (subst (λ (k : ℕ). AllFollow k [] cs) (sym same.0) s.2) (behind_in_log ps bs x a.waits.behind) a.waits.no_part
      (λ place b. a.waits.no_fault (length (base_bytes (length ps) ps) + place) (place, b, refl)) (subst (λ (k : ℕ). BreaksLog k cs y breaks.0) (sym same.0) breaks.1) pages.1

  fits : (r : Reading slots) → IsRead bytes r x → FitsBase r → IsUnfitAt slots bytes at → ⊥
  fits Nothing a fit u =
      a.waits.no_part (subst (λ (l : List ℕ). 2 ≤ length l) a.split
      (short_base (length u.pages) (flat_map page_bytes u.pages) (shipped_bytes (u.front ++ u.rs ∷ []) ++ u.rest) bytes (log_split u.pages (u.front ++ u.rs ∷ []) bytes u.rest u.split)))
  fits (InBase n ps) a fit u =
      base_short n ps u.pages (shipped_bytes (u.front ++ u.rs ∷ []) ++ u.rest) a u.reading.0 u.reading.1 (log_split u.pages (u.front ++ u.rs ∷ []) bytes u.rest u.split)
  fits (InLog ps bs) a fit u =
      let qs = u.pages in
      let cs = u.front ++ u.rs ∷ [] in
      let same = count_apart (length ps) (length qs) (flat_map page_bytes ps) (flat_map page_bytes qs) (shipped_bytes bs ++ x) (shipped_bytes cs ++ u.rest) bytes (omega (arith, a.reading.0.1)) (omega (arith, u.reading.0.1))
      (log_split ps bs bytes x a.split) (log_split qs cs bytes u.rest u.split) in
      let pages = same_pages known 0 ps qs (shipped_bytes bs ++ x) (shipped_bytes cs ++ u.rest) (all_from ps a.reading.1) (all_from qs u.reading.1) same.0 same.1 in
      let log = log_front known (length ps) [] [] bs cs x u.rest a.reading.2 (subst (λ (k : ℕ). AllFollow k [] cs) (sym same.0) u.reading.2) u.behind a.waits.no_part pages.1 in
      let whole : AllFit (over_base qs) (all_of (cs ++ log.0)) = subst (λ (l : List (List (Record slots))). AllFit (over_base qs) (all_of l)) log.1 (subst (λ (l : List (List (Cell slots))). AllFit (over_base l) (all_of bs)) pages.0 fit) in
      fits_on (base_after qs u.front) u.rs (length (bytes_of (InLog qs u.front)) + 5) at (all_fit qs u.front log.0 u.rs whole) u.stops

pub undamaged : UndamagedLaw
undamaged slots at bytes rest r known a fit (inl b) = unbroken slots at bytes rest known r b.r b.rest a b.reading b.split b.breaks
undamaged slots at bytes rest r known a fit (inr u) = fits slots at bytes rest known r a fit u
