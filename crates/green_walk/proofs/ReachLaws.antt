-- What is reached by copied slots.
use Rattle.std.proofs.Common.{◌≡◌, ℕ, ◌+◌, ◌<◌, ◌≤◌, true, false, List, [], ◌∷◌, ◌++◌, length, map, get_or, refl, sym, ap, ◌∙◌, subst, arith, ⊎_elim, append_assoc, Option, Some, None, is_some}
use Rattle.std.specs.Prelude.{Contains, IfSome}
use Rattle.std.proofs.lemmas.List.{get_or_default, get_or_append_left, length-map, length-append, get_or-map, append-nil}
use Rattle.std.proofs.lemmas.List.Elements.{Contains-get_or, Contains-append_left, Contains-append_right, Contains-append_cases}
use Rattle.std.proofs.lemmas.Bool.{cases_lt}
use Rattle.store_model.specs.Core.{Copy}
use Rattle.store_model.specs.Sound.{IsOnce}
use Rattle.store_model.proofs.OnceLaws.{nothing-in, only-one}
use Rattle.red_walk.specs.Walk.{Walk}
use Rattle.green_walk.specs.Judged.{IsLive, seed, from_live, Adds}

-- ---- additions

-- nothing is added
pub adds-none : (list : List ℕ) (target : ℕ) (old : List ℕ) → (Contains list target → Contains old target) → Adds list (target ∷ []) old old
adds-none list target old h = record {
  more = [];
  grown = sym (append-nil old);
  only = λ x m. nothing-in x m;
  all = λ x m l. subst (λ y. Contains old y) (only-one target x m) (h (subst (λ y. Contains list y) (sym (only-one target x m)) l));
}

-- the object is added
pub adds-push : (list : List ℕ) (target : ℕ) (old : List ℕ) → Contains list target → Adds list (target ∷ []) old (old ++ target ∷ [])
adds-push list target old h = record {
  more = target ∷ [];
  grown = refl;
  only = λ x m. (m, subst (λ y. Contains list y) (only-one target x m) h);
  all = λ x m l. Contains-append_right old (target ∷ []) x m;
}

-- some slots, and then more
pub adds-both : (list slots others a b c : List ℕ) → Adds list slots a b → Adds list others b c → Adds list (slots ++ others) a c
adds-both list slots others a b c f g = record {
  more = f.more ++ g.more;
  grown = g.grown ∙ ap (λ xs. xs ++ g.more) f.grown ∙ append_assoc a f.more g.more;
  only = λ x m. ⊎_elim (λ (k : Contains f.more x). (Contains-append_left slots others x (f.only x k).0, (f.only x k).1)) (λ (k : Contains g.more x). (Contains-append_right slots others x (g.only x k).0, (g.only x k).1)) (Contains-append_cases f.more g.more x m);
  all = λ x m l. ⊎_elim (λ (k : Contains slots x). subst (λ xs. Contains xs x) (sym g.grown) (Contains-append_left b g.more x (f.all x k l))) (λ (k : Contains others x). g.all x k l) (Contains-append_cases slots others x m);
}

pub adds-length : (list slots old new : List ℕ) → Adds list slots old new → length old ≤ length new
adds-length list slots old new a = let n = ap length a.grown in let m = length-append old a.more in omega (arith, n, m)

-- no slot yet
pub adds-nothing : (list old : List ℕ) → Adds list [] old old
adds-nothing list old = record { more = []; grown = sym (append-nil old); only = λ x m. nothing-in x m; all = λ x m l. nothing-in x m }

-- ---- the least set

-- an object with a copy is of the list
pub copied-in : (w : Walk) → map (λ e. e.0) w.copies ≡ w.list → (id : ℕ) (copy : Copy) → Contains w.copies (id, copy) → Contains w.list id
copied-in w all id copy m =
    let l = m.1 in
    let n = length-map w.copies (λ (e : ℕ × Copy). e.0) in
    let at = get_or-map (λ (e : ℕ × Copy). e.0) w.copies m.0 (id, copy) id l ∙ ap (λ (e : ℕ × Copy). e.0) m.2 in
    subst (λ xs. Contains xs id) all (m.0, omega (arith, n, l), at)

-- what is closed and has the seeds has all that lives
pub least : (w : Walk) (S : ℕ → Type 0) (R : ℕ → Type 0) → map (λ e. e.0) w.copies ≡ w.list → ((x : ℕ) → S x → R x)
    → ((id to : ℕ) (copy : Copy) → R id → Contains w.copies (id, copy) → Contains copy.targets to → Contains w.list to → R to) → {id : ℕ} → IsLive w S id → Contains w.list id → R id
least w S R all f g (seed id s) l = f id s
least w S R all f g (from_live id to copy k c t) l = g id to copy (least w S R all f g k (copied-in w all id copy c)) c t l

-- other seeds that are the same on the list
pub live-same : (w : Walk) (S T : ℕ → Type 0) → map (λ e. e.0) w.copies ≡ w.list → ((x : ℕ) → Contains w.list x → S x → T x) → {id : ℕ} → IsLive w S id → Contains w.list id → IsLive w T id
live-same w S T all f (seed id s) l = seed id (f id l s)
live-same w S T all f (from_live id to copy k c t) l = from_live id to copy (live-same w S T all f k (copied-in w all id copy c)) c t

-- ---- an object's place and its copy

-- no place is found for what isn't there
pub place-none : (list : List ℕ) (id : ℕ) (found : Option ℕ) → is_some found ≡ false → ((place : ℕ) → place < length list → get_or list place 0 ≡ id → found ≡ Some place) → Contains list id → ⊥
place-none list id None f only m = let e = only m.0 m.1 (get_or_default list m.0 0 id m.1 ∙ m.2) in absurd (cc)
place-none list id (Some place) f only m = absurd (cc)

-- what has a place is there
pub place-some : (list : List ℕ) (id : ℕ) (found : Option ℕ) → is_some found ≡ true → IfSome found (λ place. (place < length list) × (get_or list place 0 ≡ id)) → Contains list id
place-some list id None f h = absurd (cc)
place-some list id (Some place) f h = (place, h.0, get_or_default list place id 0 h.0 ∙ h.1)

-- where the copies are those of the whole list
pub copy-at : (w : Walk) → map (λ e. e.0) w.copies ≡ w.list → (place : ℕ) (d : ℕ × Copy) → place < length w.list → get_or w.copies place d ≡ (get_or w.list place 0, (get_or w.copies place d).1)
copy-at w all place d l =
    let n = length-map w.copies (λ (e : ℕ × Copy). e.0) in
    let m = ap length all in
    let within : place < length w.copies = omega (arith, l, n, m) in
    let at : (get_or w.copies place d).0 ≡ get_or w.list place 0 = sym (get_or-map (λ (e : ℕ × Copy). e.0) w.copies place d 0 within) ∙ ap (λ xs. get_or xs place 0) all in
    ap (λ x. (x, (get_or w.copies place d).1)) at

-- the copy of the object at a place is the one there
pub copy-only : (w : Walk) → map (λ e. e.0) w.copies ≡ w.list → IsOnce w.list → (place : ℕ) (copy : Copy) (d : ℕ × Copy) → place < length w.list → Contains w.copies (get_or w.list place 0, copy) → get_or w.copies place d ≡ (get_or w.list place 0, copy)
copy-only w all once place copy d l m =
    let n = length-map w.copies (λ (e : ℕ × Copy). e.0) in
    let z = ap length all in
    let k = m.1 in
    let within : m.0 < length w.list = omega (arith, k, n, z) in
    let at : get_or w.list m.0 0 ≡ get_or w.list place 0 = ap (λ xs. get_or xs m.0 0) (sym all) ∙ get_or-map (λ (e : ℕ × Copy). e.0) w.copies m.0 (get_or w.list place 0, copy) 0 k ∙ ap (λ (e : ℕ × Copy). e.0) m.2 in
    let same = once m.0 place within l at in
    subst (λ i. get_or w.copies i d ≡ (get_or w.list place 0, copy)) same (get_or_default w.copies m.0 d (get_or w.list place 0, copy) k ∙ m.2)

-- ---- a step of the search

-- what was reached so far, of which the first ones were looked at
pub record IsReached (w : Walk) (seeds reached : List ℕ) (next : ℕ) : Type 0 where
  pub begun : (id : ℕ) → Contains seeds id → Contains reached id
  pub only : (id : ℕ) → Contains reached id → Contains w.list id × IsLive w (Contains seeds) id
  pub closed : (place to : ℕ) (copy : Copy) → place < next → Contains w.copies (get_or reached place 0, copy) → Contains copy.targets to → Contains w.list to → Contains reached to

pub reached-first : (w : Walk) (seeds : List ℕ) → ((id : ℕ) → Contains seeds id → Contains w.list id) → IsReached w seeds seeds 0
reached-first w seeds listed = record { begun = λ id m. m; only = λ id m. (listed id m, seed id m); closed = λ place to copy l. absurd (omega (arith, l)) }

pub reached-step : (w : Walk) → map (λ e. e.0) w.copies ≡ w.list → IsOnce w.list → (seeds old new targets : List ℕ) (next place : ℕ) → IsReached w seeds old next → next < length old → place < length w.list → get_or w.list place 0 ≡ get_or old next 0
    → ((d : ℕ × Copy) → targets ≡ (get_or w.copies place d).1.targets) → Adds w.list targets old new → IsReached w seeds new (next + 1)
reached-step w all once seeds old new targets next place r l p at t a =
    let copy : Copy = (get_or w.copies place (0, record { targets = []; strong = 0; weak = 0 })).1 in
    let pair = copy-at w all place (0, record { targets = []; strong = 0; weak = 0 }) p in
    let n = length-map w.copies (λ (e : ℕ × Copy). e.0) in
    let z = ap length all in
    let there : Contains w.copies (get_or old next 0, copy) = subst (λ x. Contains w.copies (x, copy)) at (place, omega (arith, p, n, z), get_or_default w.copies place (get_or w.list place 0, copy) (0, record { targets = []; strong = 0; weak = 0 }) (omega (arith, p, n, z)) ∙ pair) in
    let here : Contains old (get_or old next 0) = Contains-get_or old next 0 l in
    record {
      begun = λ id m. subst (λ xs. Contains xs id) (sym a.grown) (Contains-append_left old a.more id (r.begun id m));
      only = λ id m. ⊎_elim
          (λ (k : Contains old id). r.only id k)
          (λ (k : Contains a.more id). let o = a.only id k in (o.1, from_live (get_or old next 0) id copy (r.only (get_or old next 0) here).1 there (subst (λ ts. Contains ts id) (t (0, record { targets = []; strong = 0; weak = 0 })) o.0)))
          (Contains-append_cases old a.more id (subst (λ xs. Contains xs id) a.grown m));
      closed = λ i to other early m k listed.
          let within : i < length old = omega (arith, early, l) in
          let same : get_or new i 0 ≡ get_or old i 0 = ap (λ xs. get_or xs i 0) a.grown ∙ get_or_append_left old a.more 0 i within in
          let o = subst (λ x. Contains w.copies (x, other)) same m in
          ⊎_elim
          (λ (before : i < next). subst (λ xs. Contains xs to) (sym a.grown) (Contains-append_left old a.more to (r.closed i to other before o k listed)))
          (λ (last : next ≤ i).
          let e : i ≡ next = omega (arith, early, last) in
          let own = subst (λ x. Contains w.copies (x, other)) (ap (λ j. get_or old j 0) e ∙ sym at) o in
          let found = copy-only w all once place other (0, record { targets = []; strong = 0; weak = 0 }) p own in
          let ts : targets ≡ other.targets = t (0, record { targets = []; strong = 0; weak = 0 }) ∙ ap (λ (e : ℕ × Copy). e.1.targets) found in
          a.all to (subst (λ xs. Contains xs to) (sym ts) k) listed)
          (cases_lt i next);
    }

pub reached-all : (w : Walk) → map (λ e. e.0) w.copies ≡ w.list → (seeds reached : List ℕ) (next : ℕ) → IsReached w seeds reached next → length reached ≤ next → (id : ℕ) → Contains w.list id → IsLive w (Contains seeds) id → Contains reached id
reached-all w all seeds reached next r l id m live =
    least w (Contains seeds) (Contains reached) all r.begun (λ x to copy k c t listed.
    let i = k.1 in
    r.closed k.0 to copy (omega (arith, i, l)) (subst (λ y. Contains w.copies (y, copy)) (sym (get_or_default reached k.0 0 x i ∙ k.2)) c) t listed) live m
