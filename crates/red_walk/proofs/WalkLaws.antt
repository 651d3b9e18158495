-- What a walk's parts keep in step.
use Rattle.std.proofs.Common.{◌≡◌, ℕ, zero, suc, ◌+◌, ◌<◌, ◌≤◌, Bool, true, false, not, ◌&&◌, List, [], ◌∷◌, ◌++◌, length, drop, get_or, slice_set, nat_lt, lt-ltb, le-ltb, refl, sym, ap, ◌∙◌, subst, arith}
use Rattle.std.proofs.Math.Bool.{and-false}
use Rattle.std.proofs.lemmas.List.{get_or_default, drop_more, drop_all, length-drop, get_or-drop, length-set, length_push}
use Rattle.cell_page.specs.declared.cell.Seen.{Seen}
use Rattle.store_model.specs.Core.{Copy}
use Rattle.red_walk.specs.declared.red_at.RedAt.TheVariants.{Look, Copy as CopyOf, Verdict}
use Rattle.red_walk.specs.Ids.{IsIdList}
use Rattle.ref_tables.specs.Queue.{has, without}
use Rattle.red_walk.specs.Walk.{Walk, IsWalk, IsLook, first_of, next, joined, copied, touched_at, removed}
use Rattle.red_walk.specs.Inside.{copy_of_seen, paired, marked, unmarked, walk_of, AreInStep}
use Rattle.store_model.proofs.VerdictLaws.{distinct_from}
use Rattle.red_walk.proofs.Members.{has-at}
use Rattle.red_walk.proofs.Filters.{filter-among, has-filter, once-filter, without-none, length-without}
use Rattle.red_walk.proofs.Marks.{marked-push, unmarked-push, marked-more, unmarked-less}
use Rattle.red_walk.proofs.Pairs.{paired-none, paired-push, paired-length, paired-ids, paired-at}

pub none_left : {X : Type 0} (xs : List X) → length xs ≡ 0 → xs ≡ []
none_left [] e = refl
none_left (x ∷ xs) e = absurd (omega (arith, e))

-- ---- what comes next

pub next-look : (list : List ℕ) (place slot : ℕ) (uncopied : List ℕ) → place < length list → first_of (drop place list) slot uncopied ≡ Look (get_or list place 0) slot
next-look list place slot uncopied l = ap (λ xs. first_of xs slot uncopied) (drop_more list place 0 l)

pub next-copy : (list : List ℕ) (place slot n : ℕ) → length list ≤ place → n < length list → first_of (drop place list) slot (drop n list) ≡ CopyOf (get_or list n 0)
next-copy list place slot n m l = ap (λ xs. first_of xs slot (drop n list)) (drop_all place list m) ∙ ap (λ ys. first_of [] slot ys) (drop_more list n 0 l)

pub next-verdict : (list : List ℕ) (place slot n : ℕ) → length list ≤ place → length list ≤ n → first_of (drop place list) slot (drop n list) ≡ Verdict
next-verdict list place slot n m l = ap (λ xs. first_of xs slot (drop n list)) (drop_all place list m) ∙ ap (λ ys. first_of [] slot ys) (drop_all n list l)

-- a look is within the list
look-within : (list : List ℕ) (place slot : ℕ) (uncopied : List ℕ) → IsLook (first_of (drop place list) slot uncopied) → place < length list
look-within [] zero slot [] h = absurd h
look-within [] zero slot (x ∷ xs) h = absurd h
look-within [] (suc place) slot [] h = absurd h
look-within [] (suc place) slot (x ∷ xs) h = absurd h
look-within (y ∷ ys) zero slot uncopied h = omega arith
look-within (y ∷ ys) (suc place) slot uncopied h = let r = look-within ys place slot uncopied h in omega (arith, r)

pub look-place : (w : Walk) → IsLook (next w) → w.place < length w.list
look-place w h = look-within w.list w.place w.slot (drop (length w.copies) w.list) h

-- what is asked for when no slot is left
copy-first : (xs : List ℕ) (slot : ℕ) (ys : List ℕ) (id : ℕ) → first_of xs slot ys ≡ CopyOf id → (xs ≡ []) × (rest : List ℕ) × (ys ≡ id ∷ rest)
copy-first [] slot [] id e = absurd (cc)
copy-first [] slot (y ∷ ys) id e = (refl, ys, cc)
copy-first (x ∷ xs) slot ys id e = absurd (cc)

verdict-first : (xs : List ℕ) (slot : ℕ) (ys : List ℕ) → first_of xs slot ys ≡ Verdict → (xs ≡ []) × (ys ≡ [])
verdict-first [] slot [] e = (refl, refl)
verdict-first [] slot (y ∷ ys) e = absurd (cc)
verdict-first (x ∷ xs) slot ys e = absurd (cc)

look-first : (xs : List ℕ) (slot : ℕ) (ys : List ℕ) (id at : ℕ) → first_of xs slot ys ≡ Look id at → (rest : List ℕ) × (xs ≡ id ∷ rest)
look-first [] slot [] id at e = absurd (cc)
look-first [] slot (y ∷ ys) id at e = absurd (cc)
look-first (x ∷ xs) slot ys id at e = (xs, cc)

drop-none : (n : ℕ) (xs : List ℕ) → drop n xs ≡ [] → length xs ≤ n
drop-none n xs e = let l = length-drop n xs in let z : length (drop n xs) ≡ 0 = ap length e in omega (arith, l, z)

drop-some : (n : ℕ) (xs : List ℕ) (x : ℕ) (rest : List ℕ) → drop n xs ≡ x ∷ rest → (n < length xs) × (get_or xs n 0 ≡ x)
drop-some n xs x rest e =
    let l = length-drop n xs in
    let s : length (drop n xs) ≡ suc (length rest) = ap length e in
    (omega (arith, l, s), ap (λ k. get_or xs k 0) (omega arith) ∙ sym (get_or-drop n xs 0 0) ∙ ap (λ ys. get_or ys 0 0) e)

-- the object that is to be copied is the first one that wasn't
pub copy-place : (w : Walk) (id : ℕ) → next w ≡ CopyOf id → (length w.list ≤ w.place) × (length w.copies < length w.list) × (get_or w.list (length w.copies) 0 ≡ id)
copy-place w id e =
    let f = copy-first (drop w.place w.list) w.slot (drop (length w.copies) w.list) id e in
    let d = drop-some (length w.copies) w.list id f.1 f.2 in
    (drop-none w.place w.list f.0, d.0, d.1)

pub verdict-place : (w : Walk) → next w ≡ Verdict → length w.list ≤ length w.copies
verdict-place w e = drop-none (length w.copies) w.list (verdict-first (drop w.place w.list) w.slot (drop (length w.copies) w.list) e).1

pub look-at : (w : Walk) (id slot : ℕ) → next w ≡ Look id slot → (w.place < length w.list) × (get_or w.list w.place 0 ≡ id)
look-at w id slot e = let f = look-first (drop w.place w.list) w.slot (drop (length w.copies) w.list) id slot e in drop-some w.place w.list id f.0 f.1

-- ---- all together

module _ {slots : ℕ} (list : List ℕ) (limit gone place slot capacity : ℕ) (copies : List (Seen slots)) (freed touched : List Bool) (k : AreInStep slots list limit gone place slot (length copies) capacity freed touched) where
  pub walk-holds : IsWalk slots (walk_of list limit place slot copies freed touched)
  walk-holds = record {
    ids = k.ids;
    slot_within = k.slot_within;
    slot_count = k.few_slots;
    left_listed = λ id m. filter-among (λ x. not (get_or freed x false)) list id m;
    touched_listed = λ id m. filter-among (λ x. get_or touched x false) list id m;
    in_order = paired-ids list copies;
    quiet = λ l. ap (paired list) (none_left copies (k.quiet l)) ∙ paired-none slots list;
  }

  pub copies-length : length (paired list copies) ≡ length copies
  copies-length = paired-length list copies k.copied

  -- what is asked for
  pub copy-is-next : (shown : List ℕ) (n : ℕ) → shown ≡ list → n ≡ length copies → length shown ≤ place → n < length shown → CopyOf (get_or shown n 0) ≡ next (walk_of list limit place slot copies freed touched)
  copy-is-next shown n e f m l =
      let same : n ≡ length (paired list copies) = f ∙ sym copies-length in
      subst (λ xs. CopyOf (get_or xs n 0) ≡ next (walk_of list limit place slot copies freed touched)) (sym e)
      (subst (λ j. CopyOf (get_or list n 0) ≡ first_of (drop place list) slot (drop j list)) same (sym (next-copy list place slot n (subst (λ xs. length xs ≤ place) e m) (subst (λ xs. n < length xs) e l))))

  pub verdict-is-next : (shown : List ℕ) (n : ℕ) → shown ≡ list → n ≡ length copies → length shown ≤ place → length shown ≤ n → Verdict ≡ next (walk_of list limit place slot copies freed touched)
  verdict-is-next shown n e f m l =
      let same : n ≡ length (paired list copies) = f ∙ sym copies-length in
      subst (λ j. Verdict ≡ first_of (drop place list) slot (drop j list)) same (sym (next-verdict list place slot n (subst (λ xs. length xs ≤ place) e m) (subst (λ xs. length xs ≤ n) e l)))

  -- while slots are looked at, nothing is copied
  pub look-quiet : IsLook (next (walk_of list limit place slot copies freed touched)) → paired list copies ≡ []
  look-quiet h = walk-holds.quiet (look-place (walk_of list limit place slot copies freed touched) h)

  -- ---- an object joins

  pub join-step : (ids : List ℕ) (id : ℕ) → ids ≡ list ++ id ∷ [] → IsIdList ids limit → has list id ≡ false → id ≤ limit → paired list copies ≡ []
      → AreInStep slots ids limit gone place slot (length copies) capacity (slice_set freed id false) (slice_set touched id false)
  join-step ids id e sound new below none =
      let count = ap length (unmarked-push list freed id (omega (arith, k.freed_all, below)) new) ∙ length_push (unmarked list freed) id in
      let n = length_push list id in
      let z : length copies ≡ 0 = sym copies-length ∙ ap length none in
      let longer : length ids ≡ length list + 1 = ap length e ∙ n in
      record {
        ids = sound;
        counted = subst (λ xs. gone + length (unmarked xs (slice_set freed id false)) ≡ length xs) (sym e) (omega (arith, count, n, k.counted));
        freed_all = length-set freed id false ∙ k.freed_all;
        touched_all = length-set touched id false ∙ k.touched_all;
        within = omega (arith, longer, k.within);
        slot_within = k.slot_within;
        few_slots = k.few_slots;
        copied = omega (arith, z);
        quiet = λ l. z;
        room = k.room;
        small = k.small;
      }

  pub join-walk : (ids : List ℕ) (id : ℕ) → ids ≡ list ++ id ∷ [] → has list id ≡ false → id ≤ limit → paired list copies ≡ []
      → walk_of ids limit place slot copies (slice_set freed id false) (slice_set touched id false) ≡ joined (walk_of list limit place slot copies freed touched) id
  join-walk ids id e new below none =
      let z : length copies ≡ 0 = sym copies-length ∙ ap length none in
      let c : copies ≡ [] = none_left copies z in
      let l = unmarked-push list freed id (omega (arith, k.freed_all, below)) new in
      let t = marked-push list touched id (omega (arith, k.touched_all, below)) new in
      let p : paired (list ++ id ∷ []) copies ≡ paired list copies = subst (λ cs. paired (list ++ id ∷ []) cs ≡ paired list cs) (sym c) (paired-none slots (list ++ id ∷ []) ∙ sym (paired-none slots list)) in
      subst (λ xs. walk_of xs limit place slot copies (slice_set freed id false) (slice_set touched id false) ≡ joined (walk_of list limit place slot copies freed touched) id) (sym e)
      (rw (l, t, p) refl)

  -- ---- an object is copied

  pub scan-place : (id : ℕ) → next (walk_of list limit place slot copies freed touched) ≡ CopyOf id → (length list ≤ place) × (length copies < length list) × (get_or list (length copies) 0 ≡ id)
  scan-place id e =
      let p = copy-place (walk_of list limit place slot copies freed touched) id e in
      (p.0, omega (arith, p.1, copies-length), ap (λ n. get_or list n 0) (sym copies-length) ∙ p.2)

  pub scan-room : (id : ℕ) → next (walk_of list limit place slot copies freed touched) ≡ CopyOf id → length copies < capacity
  scan-room id e = let p = scan-place id e in omega (arith, p.1, k.ids.most, k.room)

  pub scan-step : (id : ℕ) (copy : Seen slots) (more : ℕ) → next (walk_of list limit place slot copies freed touched) ≡ CopyOf id → capacity ≤ more → AreInStep slots list limit gone place slot (length (copies ++ copy ∷ [])) more freed touched
  scan-step id copy more e grows =
      let p = scan-place id e in
      let n = length_push copies copy in
      record {
        ids = k.ids;
        counted = k.counted;
        freed_all = k.freed_all;
        touched_all = k.touched_all;
        within = k.within;
        slot_within = k.slot_within;
        few_slots = k.few_slots;
        copied = omega (arith, n, p.1);
        quiet = λ l. let m = p.0 in absurd (omega (arith, l, m));
        room = omega (arith, k.room, grows);
        small = k.small;
      }

  pub scan-walk : (id : ℕ) (copy : Seen slots) → next (walk_of list limit place slot copies freed touched) ≡ CopyOf id → walk_of list limit place slot (copies ++ copy ∷ []) freed touched ≡ copied (walk_of list limit place slot copies freed touched) id (copy_of_seen copy)
  scan-walk id copy e =
      let p = scan-place id e in
      let q = paired-push list copies copy p.1 in
      rw (q, p.2) refl

  -- ---- an object is touched

  pub touch-walk : (id : ℕ) → 0 < length copies → has (unmarked list freed) id ≡ true → id ≤ limit → walk_of list limit place slot copies freed (slice_set touched id true) ≡ touched_at (walk_of list limit place slot copies freed touched) id
  touch-walk id some here below =
      let m = marked-more list touched id (omega (arith, k.touched_all, below)) in
      let o : nat_lt 0 (length (paired list copies)) ≡ true = lt-ltb 0 (length (paired list copies)) (omega (arith, some, copies-length)) in
      rw (o, here, m) refl

  pub untouched-closed : (id : ℕ) → length copies ≡ 0 → walk_of list limit place slot copies freed touched ≡ touched_at (walk_of list limit place slot copies freed touched) id
  untouched-closed id none =
      let o : nat_lt 0 (length (paired list copies)) ≡ false = le-ltb 0 (length (paired list copies)) (omega (arith, none, copies-length)) in
      rw o refl

  pub untouched-absent : (id : ℕ) → has (unmarked list freed) id ≡ false → walk_of list limit place slot copies freed touched ≡ touched_at (walk_of list limit place slot copies freed touched) id
  untouched-absent id gone_id = rw (gone_id, and-false) refl

  -- ---- an object leaves

  pub remove-step : (id : ℕ) → has (unmarked list freed) id ≡ true → id ≤ limit → AreInStep slots list limit (gone + 1) place slot (length copies) capacity (slice_set freed id true) touched
  remove-step id here below =
      let less = unmarked-less list freed id (omega (arith, k.freed_all, below)) in
      let one = length-without id (unmarked list freed) (distinct_from (unmarked list freed) (once-filter (λ x. not (get_or freed x false)) list k.ids.once)) here in
      record {
        ids = k.ids;
        counted = (let n : length (unmarked list (slice_set freed id true)) ≡ length (without (unmarked list freed) id) = ap length less in omega (arith, n, one, k.counted));
        freed_all = length-set freed id true ∙ k.freed_all;
        touched_all = k.touched_all;
        within = k.within;
        slot_within = k.slot_within;
        few_slots = k.few_slots;
        copied = k.copied;
        quiet = k.quiet;
        room = k.room;
        small = k.small;
      }

  pub remove-few : (id : ℕ) → has (unmarked list freed) id ≡ true → gone + 1 ≤ limit
  remove-few id here =
      let one = length-without id (unmarked list freed) (distinct_from (unmarked list freed) (once-filter (λ x. not (get_or freed x false)) list k.ids.once)) here in
      omega (arith, one, k.counted, k.ids.most)

  pub remove-walk : (id : ℕ) → id ≤ limit → walk_of list limit place slot copies (slice_set freed id true) touched ≡ removed (walk_of list limit place slot copies freed touched) id
  remove-walk id below = let l = unmarked-less list freed id (omega (arith, k.freed_all, below)) in rw l refl

  pub remove-absent : (id : ℕ) → has (unmarked list freed) id ≡ false → walk_of list limit place slot copies freed touched ≡ removed (walk_of list limit place slot copies freed touched) id
  remove-absent id gone_id = let l = without-none id (unmarked list freed) gone_id in rw l refl

  -- ---- what is told of an object

  pub left-listed : (id : ℕ) (mark : Bool) → true ≡ has list id → mark ≡ get_or freed id mark → id ≤ limit → not mark ≡ has (unmarked list freed) id
  left-listed id mark here e below =
      let there : mark ≡ get_or freed id false = e ∙ get_or_default freed id mark false (omega (arith, k.freed_all, below)) in
      ap not there ∙ sym (has-filter (λ x. not (get_or freed x false)) list id ∙ ap (λ b. b && not (get_or freed id false)) (sym here))

  pub left-absent : (id : ℕ) (found : Bool) → found ≡ false → found ≡ has list id → found ≡ has (unmarked list freed) id
  left-absent id found lost e = lost ∙ sym (has-filter (λ x. not (get_or freed x false)) list id ∙ ap (λ b. b && not (get_or freed id false)) (sym e ∙ lost))

  pub touched-there : (at : ℕ) (mark : Bool) → at < length list → mark ≡ get_or touched (get_or list at 0) mark → mark ≡ has (marked list touched) (get_or list at 0)
  touched-there at mark l e =
      let below = k.ids.within at l in
      e ∙ get_or_default touched (get_or list at 0) mark false (omega (arith, k.touched_all, below.1))
      ∙ sym (has-filter (λ x. get_or touched x false) list (get_or list at 0) ∙ ap (λ b. b && get_or touched (get_or list at 0) false) (has-at list (get_or list at 0) at l refl))

  pub copy-there : (at : ℕ) (copy : Seen slots) → at < length (paired list copies) → copy ≡ get_or copies at copy → (d : ℕ × Copy) → get_or (paired list copies) at d ≡ (get_or list at 0, copy_of_seen copy)
  copy-there at copy l e d = paired-at list copies at copy d (omega (arith, l, copies-length)) k.copied e
