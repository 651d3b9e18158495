-- The reading of a log area goes one way.
use Rattle.std.proofs.Common.{◌≡◌, ◌≢◌, ℕ, ◌+◌, ◌<◌, ◌≤◌, List, [], ◌∷◌, ◌++◌, length, take, drop, Option, Some, None, refl, sym, ap, subst, ◌∙◌, append_assoc, arith}
use Rattle.std.specs.Prelude.{slice_index}
use Rattle.std.specs.Int.{w32, to_be_bytes, from_be_bytes}
use Rattle.std.proofs.lemmas.List.{append-nil, append_cancel_left, take_at, drop_at}
use Rattle.std.proofs.lemmas.Nat.{from_be_bytes-to_be_bytes_4}
use Rattle.cell_page.specs.Format.{IsSlotCount}
use Rattle.log_record.specs.declared.record.Record.{Record}
use Rattle.log_record.specs.declared.record.Record.TheVariants.{Turn}
use Rattle.log_record.specs.Spelling.{record_bytes, known_version, HasSpelling, BeginsWith}
use Rattle.log_record.proofs.Apart.{one_record}
use Rattle.gate_log.specs.Batches.{sized, batch_bytes, batches_bytes, IsBody, most_bytes}
use Rattle.restart_laws.specs.Unended.{Unended}
use Rattle.opened_images.specs.LogRecords.{body_of, bodies_of, HaveSpellings, AllFitLog, unended_by, unended_by_all, first_records, log_bytes, HasNoNext}
use Rattle.opened_images.proofs.Bodies.{begins, none_begins, cons_same, same_records, turn_spelled, turn_pages}

-- ---- one batch

abbrev pub first_byte : List ℕ → ℕ
first_byte bytes = slice_index bytes 0

-- the first of two batches that the same bytes begin with
pub first_same : (a b r s : List ℕ) → IsBody a → IsBody b → batch_bytes a ++ r ≡ batch_bytes b ++ s → (a ≡ b) × (r ≡ s)
first_same a b r s is_a is_b same =
    let rest : sized a ++ r ≡ sized b ++ s = ap (λ (l : List ℕ). drop 1 l) same in
    let split : to_be_bytes w32 (length a) ++ (a ++ r) ≡ to_be_bytes w32 (length b) ++ (b ++ s) =
    sym (append_assoc (to_be_bytes w32 (length a)) a r) ∙ rest ∙ append_assoc (to_be_bytes w32 (length b)) b s in
    let sizes : to_be_bytes w32 (length a) ≡ to_be_bytes w32 (length b) = ap (λ (l : List ℕ). take 4 l) split in
    let long : length a ≡ length b = sym (from_be_bytes-to_be_bytes_4 (length a) is_a.fits) ∙ ap (from_be_bytes w32) sizes ∙ from_be_bytes-to_be_bytes_4 (length b) is_b.fits in
    let bodies : a ++ r ≡ b ++ s = ap (λ (l : List ℕ). drop 4 l) split in (
      sym (take_at a r (length a) refl) ∙ ap (λ (l : List ℕ). take (length a) l) bodies ∙ take_at b s (length a) (sym long),
      sym (drop_at a r (length a) refl) ∙ ap (λ (l : List ℕ). drop (length a) l) bodies ∙ drop_at b s (length a) (sym long),
    )

-- records that fit, as far as they go
pub same_ways : {slots : ℕ} → IsSlotCount slots → (pages : ℕ) (us : List (ℕ × Unended)) (rs ss : List (Record slots)) (left more : List ℕ)
    → HaveSpellings rs → HaveSpellings ss → AllFitLog pages us rs → AllFitLog pages us ss
    → HasNoNext slots pages (unended_by_all us rs) left → HasNoNext slots pages (unended_by_all us ss) more
    → body_of rs ++ left ≡ body_of ss ++ more → (rs ≡ ss) × (left ≡ more)
same_ways known pages us [] [] left more a b f g none nope e = (refl, e)
same_ways known pages us [] (s ∷ ss) left more a b f g none nope e =
    absurd (none s _ (begins s (body_of ss ++ more) left b.0 b.1 (e ∙ append_assoc (record_bytes s) (body_of ss) more)) g.0)
same_ways known pages us (r ∷ rs) [] left more a b f g none nope e =
    absurd (nope r _ (begins r (body_of rs ++ left) more a.0 a.1 (sym e ∙ append_assoc (record_bytes r) (body_of rs) left)) f.0)
same_ways {slots} known pages us (r ∷ rs) (s ∷ ss) left more a b f g none nope e =
    let front = sym (append_assoc (record_bytes r) (body_of rs) left) ∙ e ∙ append_assoc (record_bytes s) (body_of ss) more in
    let bytes : List ℕ = record_bytes r ++ (body_of rs ++ left) in
    let same = (one_record bytes r s _ _ known (begins r (body_of rs ++ left) bytes a.0 a.1 refl) (begins s (body_of ss ++ more) bytes b.0 b.1 front)).0 in
    let rest = append_cancel_left (record_bytes r) (body_of rs ++ left) (body_of ss ++ more) (front ∙ ap (λ (t : Record slots). record_bytes t ++ (body_of ss ++ more)) (sym same)) in
    let later = same_ways known pages (unended_by us r) rs ss left more a.2 b.2 f.1
    (subst (λ (t : Record slots). AllFitLog pages (unended_by us t) ss) (sym same) g.1) none
    (subst (λ (t : Record slots). HasNoNext slots pages (unended_by_all (unended_by us t) ss) more) (sym same) nope) rest in
    (cons_same r s rs ss same later.0, later.1)

-- ---- what stands after batches that were read, and how far on from there the damage is, if there is one

pub data Stops (slots pages : ℕ) (us : List (ℕ × Unended)) (rest : List ℕ) : Option ℕ → Type 0 where
  shut_byte : (byte : ℕ) (more : List ℕ) → byte ≢ 1 → rest ≡ byte ∷ more → Stops slots pages us rest None
  no_byte : rest ≡ [] → Stops slots pages us rest (Some 0)
  cut_batch : (more : List ℕ) → rest ≡ 1 ∷ more → ((body later : List ℕ) → IsBody body → rest ≡ batch_bytes body ++ later → ⊥) → Stops slots pages us rest (Some 0)
  bad_record : (rs : List (Record slots)) (left more : List ℕ) → HaveSpellings rs → AllFitLog pages us rs → 1 ≤ length left → HasNoNext slots pages (unended_by_all us rs) left
      → IsBody (body_of rs ++ left) → rest ≡ batch_bytes (body_of rs ++ left) ++ more → Stops slots pages us rest (Some (5 + length (body_of rs)))

none_is : (x : ℕ) (xs : List ℕ) → [] ≡ x ∷ xs → ⊥
none_is x xs e = cc

no_batch_goes : {slots : ℕ} → IsSlotCount slots → (pages : ℕ) (us : List (ℕ × Unended)) (rest : List ℕ) (stop : Option ℕ) → Stops slots pages us rest stop
    → (rs : List (Record slots)) (more : List ℕ) → HaveSpellings rs → AllFitLog pages us rs → IsBody (body_of rs) → rest ≡ batch_bytes (body_of rs) ++ more → ⊥
no_batch_goes known pages us rest stop (shut_byte byte later shut are) rs more spelled fit whole e = shut (ap first_byte (sym are ∙ e))
no_batch_goes known pages us rest stop (no_byte are) rs more spelled fit whole e = none_is _ _ (sym are ∙ e)
no_batch_goes known pages us rest stop (cut_batch later are none) rs more spelled fit whole e = none (body_of rs) more whole e
no_batch_goes known pages us rest stop (bad_record ss left later ok fits some none full are) rs more spelled fit whole e =
    let bodies = (first_same (body_of ss ++ left) (body_of rs) later more full whole (sym are ∙ e)).0 in
    let over = (same_ways known pages us ss rs left [] ok spelled fits fit none (λ r len b f. none_begins r len b) (bodies ∙ sym (append-nil (body_of rs)))).1 in
    no_length left over some
  where
    no_length : (l : List ℕ) → l ≡ [] → 1 ≤ length l → ⊥
    no_length l e some = absurd (omega (arith, some, ap length e))

pub one_stop : {slots : ℕ} → IsSlotCount slots → (pages : ℕ) (us : List (ℕ × Unended)) (rest : List ℕ) (stop other : Option ℕ)
    → Stops slots pages us rest stop → Stops slots pages us rest other → stop ≡ other
one_stop known pages us rest stop other (shut_byte b m shut e) (shut_byte c n shut_too f) = refl
one_stop known pages us rest stop other (shut_byte b m shut e) (no_byte f) = absurd (none_is _ _ (sym f ∙ e))
one_stop known pages us rest stop other (shut_byte b m shut e) (cut_batch n f none) = absurd (shut (ap first_byte (sym e ∙ f)))
one_stop known pages us rest stop other (shut_byte b m shut e) (bad_record ss left n ok fits some none full f) = absurd (shut (ap first_byte (sym e ∙ f)))
one_stop known pages us rest stop other (no_byte e) (shut_byte c n shut f) = absurd (none_is _ _ (sym e ∙ f))
one_stop known pages us rest stop other (no_byte e) (no_byte f) = refl
one_stop known pages us rest stop other (no_byte e) (cut_batch n f none) = refl
one_stop known pages us rest stop other (no_byte e) (bad_record ss left n ok fits some none full f) = absurd (none_is _ _ (sym e ∙ f))
one_stop known pages us rest stop other (cut_batch m e none) (shut_byte c n shut f) = absurd (shut (ap first_byte (sym f ∙ e)))
one_stop known pages us rest stop other (cut_batch m e none) (no_byte f) = refl
one_stop known pages us rest stop other (cut_batch m e none) (cut_batch n f nope) = refl
one_stop known pages us rest stop other (cut_batch m e denied) (bad_record ss left n ok fits some none full f) = absurd (denied _ _ full f)
one_stop known pages us rest stop other (bad_record rs over m ok fits some none full e) (shut_byte c n shut f) = absurd (shut (ap first_byte (sym f ∙ e)))
one_stop known pages us rest stop other (bad_record rs over m ok fits some none full e) (no_byte f) = absurd (none_is _ _ (sym f ∙ e))
one_stop known pages us rest stop other (bad_record rs over m ok fits some none full e) (cut_batch n f denied) = absurd (denied _ _ full e)
one_stop {slots} known pages us rest stop other (bad_record rs over m ok fits some none full e) (bad_record ss left n okay fit any nope whole f) =
    let bodies = (first_same (body_of rs ++ over) (body_of ss ++ left) m n full whole (sym e ∙ f)).0 in
    ap (λ (t : List (Record slots)). Some (5 + length (body_of t))) (same_ways known pages us rs ss over left ok okay fits fit none nope bodies).0

-- ---- batches

-- these batches can be read, where these transactions haven't ended
abbrev pub CanBeRead : {slots : ℕ} → ℕ → List (ℕ × Unended) → List (List (Record slots)) → Type 0
CanBeRead pages us [] = Unit {0}
CanBeRead pages us (b ∷ bs) = IsBody (body_of b) × HaveSpellings b × AllFitLog pages us b × CanBeRead pages (unended_by_all us b) bs

abbrev pub unended_through : {slots : ℕ} → List (ℕ × Unended) → List (List (Record slots)) → List (ℕ × Unended)
unended_through us [] = us
unended_through us (b ∷ bs) = unended_through (unended_by_all us b) bs

batches_same : {slots : ℕ} (x y : List (Record slots)) (xs ys : List (List (Record slots))) (o p : Option ℕ) → x ≡ y → (xs ≡ ys) × (o ≡ p) → (x ∷ xs ≡ y ∷ ys) × (o ≡ p)
batches_same x y xs ys o p e es = (cons_same x y xs ys e es.0, es.1)

pub one_run : {slots : ℕ} → IsSlotCount slots → (pages : ℕ) (us : List (ℕ × Unended)) (these those : List (List (Record slots))) (r s : List ℕ) (o p : Option ℕ)
    → CanBeRead pages us these → CanBeRead pages us those → batches_bytes (bodies_of these) ++ r ≡ batches_bytes (bodies_of those) ++ s
    → Stops slots pages (unended_through us these) r o → Stops slots pages (unended_through us those) s p → (these ≡ those) × (o ≡ p)
one_run {slots} known pages us [] [] r s o p a b e stop other = (refl, one_stop known pages us r o p stop (subst (λ (l : List ℕ). Stops slots pages us l p) (sym e) other))
one_run known pages us [] (y ∷ ys) r s o p a b e stop other =
    absurd (no_batch_goes known pages us r o stop y (batches_bytes (bodies_of ys) ++ s) b.1 b.2 b.0 (e ∙ append_assoc (batch_bytes (body_of y)) (batches_bytes (bodies_of ys)) s))
one_run known pages us (x ∷ xs) [] r s o p a b e stop other =
    absurd (no_batch_goes known pages us s p other x (batches_bytes (bodies_of xs) ++ r) a.1 a.2 a.0 (sym e ∙ append_assoc (batch_bytes (body_of x)) (batches_bytes (bodies_of xs)) r))
one_run {slots} known pages us (x ∷ xs) (y ∷ ys) r s o p a b e stop other =
    let split = sym (append_assoc (batch_bytes (body_of x)) (batches_bytes (bodies_of xs)) r) ∙ e ∙ append_assoc (batch_bytes (body_of y)) (batches_bytes (bodies_of ys)) s in
    let firsts = first_same (body_of x) (body_of y) (batches_bytes (bodies_of xs) ++ r) (batches_bytes (bodies_of ys) ++ s) a.0 b.0 split in
    let same = same_records known x y a.1 b.1 firsts.0 in
    batches_same x y xs ys o p same (
    one_run known pages (unended_by_all us x) xs ys r s o p a.3 (subst (λ (t : List (Record slots)). CanBeRead pages (unended_by_all us t) ys) (sym same) b.3) firsts.1 stop
    (subst (λ (t : List (Record slots)). Stops slots pages (unended_through (unended_by_all us t) ys) s p) (sym same) other)
    )

-- ---- the whole area

-- what the reading of a log area tells
pub data Told (slots : ℕ) : Type 0 where
  IsLogOf : (pages : ℕ) (batches : List (List (Record slots))) → Told slots
  IsDamagedAt : (place : ℕ) → Told slots
  HasVersion : (version : ℕ) → Told slots

abbrev pub told_of : {slots : ℕ} → ℕ → List (List (Record slots)) → Option ℕ → Told slots
told_of pages batches None = IsLogOf pages batches
told_of pages batches (Some far) = IsDamagedAt (length (log_bytes pages batches) + far)

-- the body is a `Turn` of a version that isn't known
pub record IsUnknown (slots number : ℕ) (body : List ℕ) : Type 0 where
  pub pages : List ℕ
  pub two : length pages ≡ 2
  pub unknown : number ≢ known_version slots
  pub are : body ≡ 14 ∷ number ∷ pages

-- what it tells where the first batch has this body
pub data ByBody (slots : ℕ) (body rest : List ℕ) : Told slots → Type 0 where
  by_version : (number : ℕ) → IsUnknown slots number body → ByBody slots body rest (HasVersion number)
  by_no_turn : ((number : ℕ) → IsUnknown slots number body → ⊥) → ((pages len : ℕ) → BeginsWith {slots = slots} body (Turn (known_version slots) pages) len → ⊥) → ByBody slots body rest (IsDamagedAt 5)
  by_more : (pages : ℕ) (left : List ℕ) → HasSpelling {slots = slots} (Turn (known_version slots) pages) → 1 ≤ length left → body ≡ body_of (first_records slots pages) ++ left → ByBody slots body rest (IsDamagedAt 9)
  by_batches : (pages : ℕ) → HasSpelling {slots = slots} (Turn (known_version slots) pages) → body ≡ body_of (first_records slots pages)
      → (batches : List (List (Record slots))) (later : List ℕ) (stop : Option ℕ) → CanBeRead pages [] batches → rest ≡ batches_bytes (bodies_of batches) ++ later
      → Stops slots pages (unended_through [] batches) later stop → ByBody slots body rest (told_of pages batches stop)

abbrev second_byte : List ℕ → ℕ
second_byte bytes = slice_index bytes 1

turn_begins : (slots pages : ℕ) (left body : List ℕ) → HasSpelling {slots = slots} (Turn (known_version slots) pages) → body ≡ body_of (first_records slots pages) ++ left
    → BeginsWith {slots = slots} body (Turn (known_version slots) pages) 4
turn_begins slots pages left body rules e = record { rules = rules; typed = omega (arith, rules.2); rest = left; are = e; takes = refl }

told_same : {slots : ℕ} (pages count : ℕ) (these those : List (List (Record slots))) (o p : Option ℕ) → pages ≡ count → (these ≡ those) × (o ≡ p) → told_of pages these o ≡ told_of count those p
told_same pages count these those o p e f = told e f.0 f.1
  where
    told : pages ≡ count → these ≡ those → o ≡ p → told_of pages these o ≡ told_of count those p
    told e f g = cc

pub one_by_body : {slots : ℕ} → IsSlotCount slots → (body rest : List ℕ) (a b : Told slots) → ByBody slots body rest a → ByBody slots body rest b → a ≡ b
one_by_body known body rest a b (by_version n u) (by_version m v) = ap HasVersion (ap second_byte (sym u.are ∙ v.are))
one_by_body known body rest a b (by_version n u) (by_no_turn denied none) = absurd (denied n u)
one_by_body known body rest a b (by_version n u) (by_more pages left rules some e) = absurd (u.unknown (ap second_byte (sym u.are ∙ e)))
one_by_body known body rest a b (by_version n u) (by_batches pages rules e bs later stop can are stops) = absurd (u.unknown (ap second_byte (sym u.are ∙ e)))
one_by_body known body rest a b (by_no_turn denied none) (by_version m v) = absurd (denied m v)
one_by_body known body rest a b (by_no_turn denied none) (by_no_turn nope nor) = refl
one_by_body {slots} known body rest a b (by_no_turn denied none) (by_more pages left rules some e) = absurd (none pages 4 (turn_begins slots pages left body rules e))
one_by_body {slots} known body rest a b (by_no_turn denied none) (by_batches pages rules e bs later stop can are stops) = absurd (none pages 4 (turn_begins slots pages [] body rules e))
one_by_body known body rest a b (by_more pages left rules some e) (by_version m v) = absurd (v.unknown (ap second_byte (sym v.are ∙ e)))
one_by_body {slots} known body rest a b (by_more pages left rules some e) (by_no_turn denied none) = absurd (none pages 4 (turn_begins slots pages left body rules e))
one_by_body known body rest a b (by_more pages left rules some e) (by_more count more rules_too any f) = refl
one_by_body known body rest a b (by_more pages left rules some e) (by_batches count rules_too f bs later stop can are stops) = absurd (omega (arith, some, ap length (sym e ∙ f)))
one_by_body known body rest a b (by_batches pages rules e bs later stop can are stops) (by_version m v) = absurd (v.unknown (ap second_byte (sym v.are ∙ e)))
one_by_body {slots} known body rest a b (by_batches pages rules e bs later stop can are stops) (by_no_turn denied none) = absurd (none pages 4 (turn_begins slots pages [] body rules e))
one_by_body known body rest a b (by_batches pages rules e bs later stop can are stops) (by_more count more rules_too any f) = absurd (omega (arith, any, ap length (sym f ∙ e)))
one_by_body {slots} known body rest a b (by_batches pages rules e bs later stop can are stops) (by_batches count rules_too f cs more other may is ends) =
    let turns = same_records known (first_records slots pages) (first_records slots count) (turn_spelled slots pages rules.1 rules.2) (turn_spelled slots count rules_too.1 rules_too.2) (sym e ∙ f) in
    let same = turn_pages _ _ _ turns in
    told_same pages count bs cs stop other same (
    one_run known pages [] bs cs later more stop other can (subst (λ (n : ℕ). CanBeRead n [] cs) (sym same) may) (sym are ∙ is) stops
    (subst (λ (n : ℕ). Stops slots n (unended_through [] cs) more other) (sym same) ends)
    )

-- how the reading of an area goes
pub data Way (slots : ℕ) (area : List ℕ) : Told slots → Type 0 where
  too_long : most_bytes < length area → Way slots area (IsDamagedAt most_bytes)
  no_first : length area ≤ most_bytes → ((body rest : List ℕ) → IsBody body → area ≡ batch_bytes body ++ rest → ⊥) → Way slots area (IsDamagedAt 0)
  by_first : length area ≤ most_bytes → (body rest : List ℕ) → IsBody body → area ≡ batch_bytes body ++ rest → (told : Told slots) → ByBody slots body rest told → Way slots area told

apart : (area : List ℕ) → most_bytes < length area → length area ≤ most_bytes → ⊥
apart area long short = absurd (omega (arith, long, short))

pub one_way : {slots : ℕ} → IsSlotCount slots → (area : List ℕ) (a b : Told slots) → Way slots area a → Way slots area b → a ≡ b
one_way known area a b (too_long long) (too_long lengthy) = refl
one_way known area a b (too_long long) (no_first short none) = absurd (apart area long short)
one_way known area a b (too_long long) (by_first short body rest whole are told by) = absurd (apart area long short)
one_way known area a b (no_first short none) (too_long long) = absurd (apart area long short)
one_way known area a b (no_first short none) (no_first brief nope) = refl
one_way known area a b (no_first short none) (by_first brief body rest whole are told by) = absurd (none body rest whole are)
one_way known area a b (by_first short body rest whole are told by) (too_long long) = absurd (apart area long short)
one_way known area a b (by_first short body rest whole are told by) (no_first brief none) = absurd (none body rest whole are)
one_way {slots} known area a b (by_first short body rest whole are told by) (by_first brief other more full is tells so) =
    let same = first_same body other rest more whole full (sym are ∙ is) in
    one_by_body known body rest a b by (subst (λ (l : List ℕ). ByBody slots body l b) (sym same.1) (subst (λ (l : List ℕ). ByBody slots l more b) (sym same.0) so))
