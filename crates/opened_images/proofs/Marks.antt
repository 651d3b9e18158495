-- What the marks of pages tell: a page that no record concerns stands in place, and a current image is that page of the cells.
use Rattle.std.proofs.Common.{◌≡◌, ◌⊎◌, inl, inr, ℕ, ◌+◌, ◌-◌, ◌*◌, ◌<◌, ◌≤◌, Bool, true, false, cond, List, [], ◌∷◌, length, map, drop, fold, Option, Some, None, refl, sym, ap, subst, ◌∙◌, arith, lit<, eq-eqb}
use Rattle.std.specs.Prelude.{◌==◌, ◌||◌, ◌&&◌, nat_le, if◌then◌else◌, slice_index_or}
use Rattle.std.specs.List.{list_any}
use Rattle.std.proofs.lemmas.Bool.{eqb-true, ne_eqb, leb-true, and_parts}
use Rattle.std.proofs.lemmas.Bool.Decides.{leb_tells}
use Rattle.std.proofs.lemmas.Nat.{mod_below, div_below}
use Rattle.std.proofs.Math.Nat.{div-add-mod}
use Rattle.std.proofs.lemmas.List.FromFn.{length-map-range_with_len}
use Rattle.std.proofs.lemmas.List.{length-map, get_or-take, get_or-drop, ext_get_or, length-take-le, length-drop}
use Rattle.cell_model.specs.Cells.{Cell, null, blank_cell, cell_at, relink, pays, flipped}
use Rattle.cell_model.specs.Records.{Record as StoredRecord, Begin, Make, Store, Pay, Commit, Undo, UndoPay, AbortEnd, Weaken, Strengthen, Flip, CutDead, Free}
use Rattle.cell_page.specs.declared.cell.Cell.{Cell as PageCell}
use Rattle.cell_page.specs.Format.{IsPage, AreTyped, first_id, page_of_id, place_of}
use Rattle.cell_page.specs.Stored.{cell_of, page_of}
use Rattle.log_record.specs.declared.record.Record.{Record}
use Rattle.log_record.specs.declared.record.Record.TheVariants.{OfCells, Image, Turn}
use Rattle.log_record.specs.Records.{record_of}
use Rattle.restart_laws.specs.Local.{concerning, counts_more, counts_less, turns, effect, is_in_page, cell_in, replayed, has_image}
use Rattle.opened_images.specs.LogRecords.{HaveSpellings}
use Rattle.opened_images.specs.Replayed.{items_of, cell_in_place, cell_after}
use Rattle.opened_images.specs.Marks.{ids_of, concerns, is_changed, current_by, image_by, UnchangedLaw, CurrentLaw}
use Rattle.opened_images.proofs.GoesOnCells.{are_of_log}

-- ---- pages and ids

-- an id between the first and the last one of a page is in it
inside : (page id : ℕ) → 8 * page + 1 ≤ id → id ≤ 8 * page + 8 → is_in_page page id ≡ true
inside page id low high = by (leb_tells (8 * page + 1) id) (leb_tells id (8 * page + 8))
  where
    both : (a b : Bool) → a ≡ true → b ≡ true → (a && b) ≡ true
    both a b e f = cc

    by : ((nat_le (8 * page + 1) id ≡ true) × (8 * page + 1 ≤ id)) ⊎ ((nat_le (8 * page + 1) id ≡ false) × (id < 8 * page + 1))
        → ((nat_le id (8 * page + 8) ≡ true) × (id ≤ 8 * page + 8)) ⊎ ((nat_le id (8 * page + 8) ≡ false) × (8 * page + 8 < id)) → is_in_page page id ≡ true
    by (inl p) (inl q) = both _ _ p.0 q.0
    by (inl p) (inr q) = absurd (omega (arith, q.1, high))
    by (inr p) q = absurd (omega (arith, p.1, low))

-- an id is in one page
one_page : (page other id : ℕ) → is_in_page page id ≡ true → is_in_page other id ≡ true → page ≡ other
one_page page other id here there =
    let a = and_parts (nat_le (8 * page + 1) id) (nat_le id (8 * page + 8)) here in
    let b = and_parts (nat_le (8 * other + 1) id) (nat_le id (8 * other + 8)) there in
    let low : 8 * page + 1 ≤ id = leb-true (8 * page + 1) id a.0 in
    let high : id ≤ 8 * page + 8 = leb-true id (8 * page + 8) a.1 in
    let other_low : 8 * other + 1 ≤ id = leb-true (8 * other + 1) id b.0 in
    let other_high : id ≤ 8 * other + 8 = leb-true id (8 * other + 8) b.1 in
    omega (arith, low, high, other_low, other_high)

-- an id that is in a page lies in the store
in_store : (page pages id : ℕ) → page < pages → is_in_page page id ≡ true → (1 ≤ id) × (id ≤ 8 * pages)
in_store page pages id low here =
    let a = and_parts _ _ here in
    let first = leb-true (8 * page + 1) id a.0 in
    let last = leb-true id (8 * page + 8) a.1 in
    (omega (arith, first), omega (arith, last, low))

-- its page and its place in that
pub page_of_id_in : (page id : ℕ) → is_in_page page id ≡ true → (page_of_id id ≡ page) × ((first_id page ≤ id) × (id < first_id page + 8)) × (place_of id < 8)
page_of_id_in page id here =
    let a = and_parts (nat_le (8 * page + 1) id) (nat_le id (8 * page + 8)) here in
    let low : 8 * page + 1 ≤ id = leb-true (8 * page + 1) id a.0 in
    let high : id ≤ 8 * page + 8 = leb-true id (8 * page + 8) a.1 in
    let split : 8 * page_of_id id + place_of id ≡ id - 1 = div-add-mod (id - 1) 8 in
    let within : place_of id < 8 = mod_below (id - 1) 8 (lit< tt) in
    (omega (arith, low, high, split, within), (low, omega (arith, high)), within)

-- so is each id of the store in the page that it has
pub page_of_store : (pages id : ℕ) → 1 ≤ id → id ≤ 8 * pages → (page_of_id id < pages) × (is_in_page (page_of_id id) id ≡ true)
page_of_store pages id low high =
    let split : 8 * page_of_id id + place_of id ≡ id - 1 = div-add-mod (id - 1) 8 in
    let within : place_of id < 8 = mod_below (id - 1) 8 (lit< tt) in
    (div_below (id - 1) 8 pages (lit< tt) (omega (arith, low, high)), inside (page_of_id id) id (omega (arith, low, split)) (omega (arith, low, split, within)))

-- the first id of a page is in it
first_in_page : (page : ℕ) → is_in_page page (8 * page + 1) ≡ true
first_in_page page = inside page (8 * page + 1) (omega arith) (omega arith)

-- neither of two
none_or : (a b : Bool) → (a || b) ≡ false → (a ≡ false) × (b ≡ false)
none_or true b e = absurd (cc)
none_or false b e = (refl, e)

true_or_false : (b : Bool) → (b ≡ true → ⊥) → b ≡ false
true_or_false true no_more = absurd (no_more refl)
true_or_false false no_more = refl

-- ---- a record that doesn't concern a cell

-- an id of another page
apart : (page x id : ℕ) → is_in_page page x ≡ true → is_in_page page id ≡ false → (x == id) ≡ false
apart page x id here away = ne_eqb x id (λ e. absurd (cc (sym (ap (is_in_page page) e ∙ away) ∙ here)))

not_concerned : (page x id : ℕ) (f : Cell → Cell) (c : Cell) → is_in_page page x ≡ true → is_in_page page id ≡ false → concerning x id f c ≡ c
not_concerned page x id f c here away = ap (λ (b : Bool). cond b (f c) c) (apart page x id here away)

-- leaves it
one_away : (page a : ℕ) → list_any (is_in_page page) (a ∷ []) ≡ false → is_in_page page a ≡ false
one_away page a e = (none_or (is_in_page page a) false e).0

two_away : (page a b : ℕ) → list_any (is_in_page page) (a ∷ b ∷ []) ≡ false → (is_in_page page a ≡ false) × (is_in_page page b ≡ false)
two_away page a b e = let both = none_or (is_in_page page a) _ e in (both.0, one_away page b both.1)

three_away : (page a b c : ℕ) → list_any (is_in_page page) (a ∷ b ∷ c ∷ []) ≡ false → (is_in_page page a ≡ false) × (is_in_page page b ≡ false) × (is_in_page page c ≡ false)
three_away page a b c e = let both = none_or (is_in_page page a) _ e in let more = two_away page b c both.1 in (both.0, more.0, more.1)

three_apart : (page x a b d : ℕ) (f g h : Cell → Cell) (c : Cell) → is_in_page page x ≡ true → list_any (is_in_page page) (a ∷ b ∷ d ∷ []) ≡ false → concerning x d h (concerning x b g (concerning x a f c)) ≡ c
three_apart page x a b d f g h c here e =
    let away = three_away page a b d e in
    not_concerned page x d h (concerning x b g (concerning x a f c)) here away.2 ∙ not_concerned page x b g (concerning x a f c) here away.1 ∙ not_concerned page x a f c here away.0

two_apart : (page x a b : ℕ) (f g : Cell → Cell) (c : Cell) → is_in_page page x ≡ true → list_any (is_in_page page) (a ∷ b ∷ []) ≡ false → concerning x b g (concerning x a f c) ≡ c
two_apart page x a b f g c here e =
    let away = two_away page a b e in
    not_concerned page x b g (concerning x a f c) here away.1 ∙ not_concerned page x a f c here away.0

twice : (page x a b : ℕ) (f g h : Cell → Cell) (c : Cell) → is_in_page page x ≡ true → (is_in_page page a ≡ false) × (is_in_page page b ≡ false) → concerning x b h (concerning x b g (concerning x a f c)) ≡ c
twice page x a b f g h c here away =
    not_concerned page x b h (concerning x b g (concerning x a f c)) here away.1 ∙ not_concerned page x b g (concerning x a f c) here away.1 ∙ not_concerned page x a f c here away.0

pub effect_apart : (slots page x : ℕ) (r : StoredRecord) (c : Cell) → is_in_page page x ≡ true → list_any (is_in_page page) (ids_of r) ≡ false → effect slots r x c ≡ c
effect_apart slots page x (Begin pass) c here e = refl
effect_apart slots page x (Make pass id) c here e = not_concerned page x id (λ _. blank_cell true slots) c here (one_away page id e)
effect_apart slots page x (Store pass id slot old old_strong new bit strong) c here e =
    three_apart page x id old new (relink slot (record { target = new; bit = bit })) (counts_less old_strong) (counts_more strong) c here e
effect_apart slots page x (Pay pass id old new) c here e = not_concerned page x id (pays new) c here (one_away page id e)
effect_apart slots page x (Commit pass) c here e = refl
effect_apart slots page x (Undo pass id slot old old_strong new bit) c here e =
    three_apart page x id old new (relink slot (record { target = new; bit = bit })) (counts_less old_strong) (counts_more false) c here e
effect_apart slots page x (UndoPay pass id old new) c here e = not_concerned page x id (pays new) c here (one_away page id e)
effect_apart slots page x (AbortEnd pass) c here e = refl
effect_apart slots page x (Weaken id slot target) c here e = twice page x id target (turns slot) (counts_less true) (counts_more false) c here (two_away page id target e)
effect_apart slots page x (Strengthen id slot target) c here e = twice page x id target (turns slot) (counts_less false) (counts_more true) c here (two_away page id target e)
effect_apart slots page x (Flip id) c here e = not_concerned page x id (flipped id) c here (one_away page id e)
effect_apart slots page x (CutDead id slot target was_strong) c here e = two_apart page x id target (relink slot null) (counts_less was_strong) c here e
effect_apart slots page x (Free id) c here e = not_concerned page x id (λ _. blank_cell false slots) c here (one_away page id e)

-- ---- a page that no record concerns

-- an image of another page
image_apart : (page other x : ℕ) → (page == other) ≡ false → is_in_page page x ≡ true → is_in_page other x ≡ false
image_apart page other x away here = true_or_false (is_in_page other x) (λ there. absurd (cc (sym (eq-eqb page other (one_page page other x here there)) ∙ away)))

-- its cells are as they begin
unconcerned : {slots : ℕ} (page x : ℕ) (c : Cell) (rs : List (Record slots)) → is_in_page page x ≡ true → is_changed page rs ≡ false → replayed slots x c (items_of rs) ≡ c
unconcerned page x c [] here none = refl
unconcerned {slots} page x c (OfCells r ∷ rs) here none =
    let both = none_or (concerns {slots = slots} page (OfCells r)) (is_changed page rs) none in
    unconcerned page x (effect slots (record_of r) x c) rs here both.1 ∙ effect_apart slots page x (record_of r) c here both.0
unconcerned {slots} page x c (Image other held ∷ rs) here none =
    let both = none_or (page == other) (is_changed page rs) none in
    ap (λ (b : Bool). replayed slots x (cond b (cell_in other (map cell_of held) x) c) (items_of rs)) (image_apart page other x both.0 here) ∙ unconcerned page x c rs here both.1
unconcerned page x c (Turn version count ∷ rs) here none = unconcerned page x c rs here none

-- it has no image
no_image : {slots : ℕ} (page : ℕ) (rs : List (Record slots)) → is_changed page rs ≡ false → has_image (8 * page + 1) (items_of rs) ≡ false
no_image page [] none = refl
no_image {slots} page (OfCells r ∷ rs) none = no_image page rs (none_or (concerns {slots = slots} page (OfCells r)) (is_changed page rs) none).1
no_image page (Image other held ∷ rs) none =
    let both = none_or (page == other) (is_changed page rs) none in
    neither (is_in_page other (8 * page + 1)) (has_image (8 * page + 1) (items_of rs)) (image_apart page other (8 * page + 1) both.0 (first_in_page page)) (no_image page rs both.1)
  where
    neither : (a b : Bool) → a ≡ false → b ≡ false → (a || b) ≡ false
    neither a b e f = cc
no_image page (Turn version count ∷ rs) none = no_image page rs none

-- it stands in place
pub unchanged : UnchangedLaw
unchanged slots pages page area rs cells makes low none = record {
  whole = λ at fails. makes.whole page at low (record { no_image = no_image page rs none; fails = fails });
  are = λ id here.
      let s = in_store page pages id low here in
      sym (ap (λ (cs : List Cell). cell_at cs id) makes.are ∙ are_of_log pages area rs id s.0 s.1 ∙ unconcerned page id (cell_in_place slots area id) rs here none);
}

-- ---- a current image

-- this list is the last image of the page, and its cells are these
record IsImageNow {slots : ℕ} (page : ℕ) (last : Option (List (PageCell slots))) (cell : ℕ → Cell) : Type 0 where
  held : List (PageCell slots)
  is : last ≡ Some held
  rules : IsPage page held
  typed : AreTyped held
  same : (id : ℕ) → is_in_page page id ≡ true → cell id ≡ cell_in page (map cell_of held) id

-- a record of cells more
of_cells_more : {slots : ℕ} (page : ℕ) (r : _) (current : Bool) (last : Option (List (PageCell slots))) (cell : ℕ → Cell) → (current ≡ true → IsImageNow page last cell) → current_by {slots = slots} page current (OfCells r) ≡ true
    → IsImageNow page last (λ id. effect slots (record_of r) id (cell id))
of_cells_more {slots} page r current last cell now = by (list_any (is_in_page page) (ids_of (record_of r))) refl
  where
    by : (b : Bool) → list_any (is_in_page page) (ids_of (record_of r)) ≡ b → (if b then false else current) ≡ true → IsImageNow page last (λ id. effect slots (record_of r) id (cell id))
    by true e is = absurd (cc)
    by false e is = let n = now is in record { held = n.held; is = n.is; rules = n.rules; typed = n.typed; same = λ id here. effect_apart slots page id (record_of r) (cell id) here e ∙ n.same id here }

-- an image more
image_more : {slots : ℕ} (page other : ℕ) (held : List (PageCell slots)) (current : Bool) (last : Option (List (PageCell slots))) (cell : ℕ → Cell) → IsPage other held → AreTyped held → (current ≡ true → IsImageNow page last cell)
    → current_by page current (Image other held) ≡ true → IsImageNow page (image_by page last (Image other held)) (λ id. cond (is_in_page other id) (cell_in other (map cell_of held) id) (cell id))
image_more {slots} page other held current last cell rules typed now = by (page == other) refl
  where
    by : (b : Bool) → (page == other) ≡ b → (if b then b else current) ≡ true → IsImageNow page (if b then Some held else last) (λ id. cond (is_in_page other id) (cell_in other (map cell_of held) id) (cell id))
    by true e is =
        let same_page : page ≡ other = eqb-true page other e in
        record {
          held = held;
          is = refl;
          rules = subst (λ (p : ℕ). IsPage p held) (sym same_page) rules;
          typed = typed;
          same = λ id here.
              ap (λ (b : Bool). cond b (cell_in other (map cell_of held) id) (cell id)) (subst (λ (p : ℕ). is_in_page p id ≡ true) same_page here)
              ∙ ap (λ (p : ℕ). cell_in p (map cell_of held) id) (sym same_page);
        }
    by false e is =
        let n = now is in
        record {
          held = n.held;
          is = n.is;
          rules = n.rules;
          typed = n.typed;
          same = λ id here. ap (λ (b : Bool). cond b (cell_in other (map cell_of held) id) (cell id)) (image_apart page other id e here) ∙ n.same id here;
        }

-- all records more
all_more : {slots : ℕ} (page : ℕ) (rs : List (Record slots)) (current : Bool) (last : Option (List (PageCell slots))) (cell : ℕ → Cell) → HaveSpellings rs → (current ≡ true → IsImageNow page last cell)
    → fold (current_by page) current rs ≡ true → IsImageNow page (fold (image_by page) last rs) (λ id. replayed slots id (cell id) (items_of rs))
all_more page [] current last cell spelled now is = now is
all_more {slots} page (OfCells r ∷ rs) current last cell spelled now is =
    all_more page rs (current_by {slots = slots} page current (OfCells r)) last (λ id. effect slots (record_of r) id (cell id)) spelled.2 (of_cells_more page r current last cell now) is
all_more page (Image other held ∷ rs) current last cell spelled now is =
    all_more page rs (current_by page current (Image other held)) (image_by page last (Image other held)) (λ id. cond (is_in_page other id) (cell_in other (map cell_of held) id) (cell id)) spelled.2
    (image_more page other held current last cell spelled.0 spelled.1.1 now) is
all_more page (Turn version count ∷ rs) current last cell spelled now is = all_more page rs current last cell spelled.2 now is

-- cells that are those of a page are that page of the store
page_of_cells : {slots : ℕ} (page pages : ℕ) (held : List (PageCell slots)) (cells : List Cell) → length held ≡ 8 → length cells ≡ 8 * pages + 1 → page < pages
    → ((id : ℕ) → is_in_page page id ≡ true → cell_at cells id ≡ cell_in page (map cell_of held) id) → map cell_of held ≡ page_of cells page
page_of_cells page pages held cells eight size low same =
    let first : ℕ = 8 * page + 1 in
    let all = length-map held cell_of in
    let long : 8 ≤ length (drop first cells) = omega (arith, size, low, length-drop first cells) in
    let there = length-take-le 8 (drop first cells) long in
    ext_get_or (blank_cell false 0) (map cell_of held) (page_of cells page) (omega (arith, all, eight, there))
    (λ i below.
    let few : i < 8 = omega (arith, below, all, eight) in
    let off : first + i - first ≡ i = omega arith in
    sym (ap (λ (n : ℕ). slice_index_or (map cell_of held) n (blank_cell false 0)) off)
    ∙ sym (same (first + i) (inside page (first + i) (omega arith) (omega (arith, few))))
    ∙ sym (get_or-take 8 (drop first cells) i (blank_cell false 0) few ∙ get_or-drop first cells i (blank_cell false 0)))

-- the image is that page of the cells
pub current : CurrentLaw
current slots pages page area rs cells makes low is =
    let now = all_more page rs false None (λ id. cell_in_place slots area id) makes.spelled (λ e. absurd (cc)) is in
    let size : length cells ≡ 8 * pages + 1 = ap (λ (cs : List Cell). length cs) makes.are ∙ omega (arith, length-map-range_with_len (cell_after slots area rs) 1 (8 * pages)) in (
      now.held,
      now.is,
      now.typed,
      record {
        rules = now.rules;
        same = page_of_cells page pages now.held cells now.rules.eight size low (λ id here.
            let s = in_store page pages id low here in
            ap (λ (cs : List Cell). cell_at cs id) makes.are ∙ are_of_log pages area rs id s.0 s.1 ∙ now.same id here);
      },
    )
