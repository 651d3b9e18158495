-- What a walk is to the round of a journal.
use Rattle.std.proofs.Common.{◌≡◌, ℕ, ◌+◌, ◌<◌, Bool, true, false, not, ◌||◌, ◌==◌, List, [], ◌∷◌, length, map, take, drop, lt-ltb, refl, sym, ap, ◌∙◌, subst, arith, ne_eqb, eq-eqb, true≢false}
use Rattle.std.specs.Prelude.{Contains}
use Rattle.std.proofs.Math.Seq.{take-length}
use Rattle.std.proofs.lemmas.List.{get_or_default, length-map, length-take, get_or-map, take-append-drop}
use Rattle.std.proofs.lemmas.List.Elements.{Contains-append_left}
use Rattle.cell_page.specs.Stored.{pointers_from}
use Rattle.cell_model.specs.Cells.{Pointer}
use Rattle.store_model.specs.Core.{Copy}
use Rattle.ref_tables.specs.Queue.{has}
use Rattle.red_walk.specs.Walk.{Walk, IsWalk, is_open, touched_at}
use Rattle.red_walk.specs.Rounds.{CopiedLaw, Touches, TouchedLaw, RemovedLaw, LookLaw, CopyLaw, VerdictLaw}
use Rattle.red_walk.proofs.Members.{has-Contains}
use Rattle.red_walk.proofs.Filters.{once-filter, filter-among, filter-passes, among-filter}
use Rattle.red_walk.proofs.WalkLaws.{look-at, copy-place, verdict-place}

-- ---- copies

pub targets-of : (bits i : ℕ) (slots : List ℕ) → map (λ (p : Pointer). p.target) (pointers_from bits i slots) ≡ slots
targets-of bits i [] = refl
targets-of bits i (t ∷ ts) = ap (λ us. t ∷ us) (targets-of bits (i + 1) ts)

pub copied-law : CopiedLaw
copied-law slots w id c = let e = targets-of c.bits 0 c.slots in rw e refl

-- ---- what comes next

pub look-law : LookLaw
look-law slots w id slot k e =
    let p = look-at w id slot e in
    ((w.place, p.0, get_or_default w.list w.place id 0 p.0 ∙ p.1), λ early. k.quiet p.0)

pub copy-law : CopyLaw
copy-law w id e = let p = copy-place w id e in (length w.copies, p.1, get_or_default w.list (length w.copies) id 0 p.1 ∙ p.2)

take-all : (n : ℕ) (xs : List ℕ) → length xs ≡ n → take n xs ≡ xs
take-all n xs e = subst (λ m. take m xs ≡ xs) e (take-length xs)

pub verdict-law : VerdictLaw
verdict-law slots w k e =
    let most = verdict-place w e in
    let n = length-map w.copies (λ (e : ℕ × Copy). e.0) in
    let m = ap length k.in_order in
    let t = length-take (length w.copies) w.list in
    k.in_order ∙ take-all (length w.copies) w.list (omega (arith, most, n, m, t))

-- ---- touches

among-take : (n : ℕ) (xs : List ℕ) (x : ℕ) → Contains (take n xs) x → Contains xs x
among-take n xs x h = subst (λ ys. Contains ys x) (take-append-drop n xs) (Contains-append_left (take n xs) (drop n xs) x h)

-- an object with a copy is of the list
copied-listed : (slots : ℕ) (w : Walk) → IsWalk slots w → (id : ℕ) (copy : Copy) → Contains w.copies (id, copy) → (0 < length w.copies) × Contains w.list id
copied-listed slots w k id copy m =
    let n = length-map w.copies (λ (e : ℕ × Copy). e.0) in
    let l = m.1 in
    let at = get_or-map (λ (e : ℕ × Copy). e.0) w.copies m.0 (id, copy) id l ∙ ap (λ (e : ℕ × Copy). e.0) m.2 in
    (omega (arith, l), among-take (length w.copies) w.list id (subst (λ xs. Contains xs id) k.in_order (m.0, omega (arith, n, l), at)))

or-true : (b : Bool) → (b || true) ≡ true
or-true true = refl
or-true false = refl

pub touched-law : TouchedLaw
touched-law slots w id k = by (is_open w) (has w.left id) refl refl
  where
    by : (open_now here : Bool) → is_open w ≡ open_now → has w.left id ≡ here → Touches w (touched_at w id) id
    by true true o h = rw (o, h) (record {
      others = refl;
      grown = λ x m. among-filter (λ y. (y == id) || has w.touched y) w.list x (k.touched_listed x m) (ap (λ b. (x == id) || b) (has-Contains w.touched x m) ∙ or-true (x == id));
      marked = λ whole early copy m. among-filter (λ y. (y == id) || has w.touched y) w.list id (copied-listed slots w k id copy m).1 (ap (λ b. b || has w.touched id) (eq-eqb id id refl));
    })
    by true false o h = rw (o, h) (record {
      others = refl;
      grown = λ x m. m;
      marked = λ whole early copy m. absurd (true≢false (sym (has-Contains w.left id (subst (λ xs. Contains xs id) (sym whole) (copied-listed slots w k id copy m).1)) ∙ h));
    })
    by false here o h = rw o (record {
      others = refl;
      grown = λ x m. m;
      marked = λ whole early copy m. let l = (copied-listed slots w k id copy m).0 in absurd (true≢false (sym (lt-ltb 0 (length w.copies) l) ∙ o));
    })

-- ---- removals

pub removed-law : RemovedLaw
removed-law w id once = record {
  others = refl;
  once = once-filter (λ x. not (x == id)) w.left once;
  without = record {
    others = λ x m. (filter-among (λ y. not (y == id)) w.left x m, λ e. absurd_same x (filter-passes (λ y. not (y == id)) w.left x m) e);
    rest = λ x m n. among-filter (λ y. not (y == id)) w.left x m (ap not (ne_eqb x id n));
  };
}
  where
    absurd_same : (x : ℕ) → not (x == id) ≡ true → x ≡ id → ⊥
    absurd_same x t e = let f = ap not (eq-eqb x id e) in absurd (cc)
