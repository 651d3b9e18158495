-- Pointers to an object that don't come from a list of objects.
use Rattle.std.proofs.Common.{◌≡◌, ◌≢◌, ℕ, suc, ◌+◌, ◌<◌, ◌≤◌, List, [], ◌∷◌, Bool, true, false, cond, not, refl, sym, ap, ◌∙◌, subst, get_or, set, length, length-set, get_or-set_same, get_or-set_other, map, arith, ⊎_elim, ne_eqb}
use Rattle.std.specs.Prelude.{◌==◌, sum_by, count_by, Contains}
use Rattle.std.specs.List.{AllByRecursion}
use Rattle.std.proofs.lemmas.Bool.{cases_eq, eqb-true, cond-true}
use Rattle.std.proofs.lemmas.List.Sums.{sum_by-cons, sum_by-set}
use Rattle.plain_model.specs.Graphs.{root}
use Rattle.cell_model.specs.Cells.{Pointer, null, Cell, blank_cell, cell_at, pointer_in, is_live, hits, aims_in, self_pointers, own_strong, IsExact}
use Rattle.store_model.specs.Core.{Copy}
use Rattle.store_model.specs.Sound.{copy_of}
use Rattle.store_model.specs.Verdict.{copied_names}
use Rattle.store_model.proofs.Lists.{each, Contains-here, Contains-later}
use Rattle.store_model.proofs.OnceLaws.{nothing-in}
use Rattle.store_model.proofs.StepLaws.{Contains-cons}
use Rattle.cell_model.proofs.EditLaws.{live-within}
use Rattle.cell_model.proofs.FlipLaws.{sum_by-plus, hits-both}
use Rattle.store_model.proofs.VerdictLaws.{AllDistinct}
use Rattle.quiet_rounds.specs.Quiet.{HasOther}

-- ---- sums

pub sum_by-map_to : {X Y : Type 0} (f : Y → ℕ) (g : X → Y) (xs : List X) → sum_by f (map g xs) ≡ sum_by (λ x. f (g x)) xs
sum_by-map_to f g [] = refl
sum_by-map_to f g (x ∷ xs) = let a = sum_by-cons f (g x) (map g xs) in let b = sum_by-cons (λ x. f (g x)) x xs in let c = sum_by-map_to f g xs in omega (arith, a, b, c)

sum_by-le-each : {X : Type 0} (f g : X → ℕ) (xs : List X) → AllByRecursion (λ x. f x ≤ g x) xs → sum_by f xs ≤ sum_by g xs
sum_by-le-each f g [] h = omega arith
sum_by-le-each f g (x ∷ xs) h = let a = sum_by-cons f x xs in let b = sum_by-cons g x xs in let c = h.0 in let d = sum_by-le-each f g xs h.1 in omega (arith, a, b, c, d)

-- a sum that isn't 0 has a part that isn't 0
sum-part : {X : Type 0} (f : X → ℕ) (xs : List X) (d : X) → sum_by f xs ≢ 0 → (i : ℕ) × (i < length xs) × (f (get_or xs i d) ≢ 0)
sum-part f [] d n = absurd (n refl)
sum-part f (x ∷ xs) d n =
    ⊎_elim
    (λ z. let e = sum_by-cons f x xs in let h = sum-part f xs d (λ r. n (omega (arith, e, z, r))) in (suc h.0, (let l = h.1 in omega (arith, l)), h.2))
    (λ m. (0, omega arith, m))
    (cases_eq (f x) 0)

cond-part : (b : Bool) (n : ℕ) → cond b n 0 ≢ 0 → (b ≡ true) × (n ≢ 0)
cond-part true n h = (refl, h)
cond-part false n h = absurd (h refl)

-- where the cells of some ids don't have the whole sum, the cell of another id adds to it
other-part : (f : Cell → ℕ) → f (blank_cell false 0) ≡ 0 → (ids : List ℕ) → AllDistinct ids → (cells : List Cell) → ((v : ℕ) → Contains ids v → v < length cells) → sum_by (λ v. f (cell_at cells v)) ids < sum_by f cells
    → (u : ℕ) × (f (cell_at cells u) ≢ 0) × (Contains ids u → ⊥)
other-part f z [] d cells l less =
    let p = sum-part f cells (blank_cell false 0) (λ e. let r : 0 < sum_by f cells = less in let no : 0 < 0 = omega (arith, e, r) in omega (arith, no)) in
    (p.0, p.2, λ m. nothing-in p.0 m)
other-part f z (v ∷ vs) d cells l less =
    let rest = set cells v (blank_cell false 0) in
    let within = l v (Contains-here v vs) in
    let a = sum_by-cons (λ v. f (cell_at cells v)) v vs in
    let s = sum_by-set f cells v (blank_cell false 0) (blank_cell false 0) within in
    let kept : (x : ℕ) → x ≢ v → cell_at rest x ≡ cell_at cells x = λ x n. get_or-set_other cells v x (blank_cell false 0) (blank_cell false 0) n in
    let few = sum_by-le-each (λ x. f (cell_at rest x)) (λ x. f (cell_at cells x)) vs
    (each (λ x. f (cell_at rest x) ≤ f (cell_at cells x)) vs (λ x m. let e = ap f (kept x (λ q. d.0 (subst (λ y. Contains vs y) q m))) in omega (arith, e))) in
    let h = other-part f z vs d.1 rest (λ x m. subst (λ n. x < n) (sym (length-set cells v (blank_cell false 0))) (l x (Contains-later v vs x m))) (omega (arith, a, s, z, few, less)) in
    let apart : h.0 ≢ v = λ e. h.1 (ap (λ x. f (cell_at rest x)) e ∙ ap f (get_or-set_same cells v (blank_cell false 0) (blank_cell false 0) within) ∙ z) in (
      h.0,
      λ e. h.1 (ap f (kept h.0 apart) ∙ e),
      λ m. ⊎_elim (λ e. apart (sym e)) (λ k. h.2 k) (Contains-cons v vs h.0 m),
    )

-- ---- how many slots of a live cell name the id

abbrev pub links_to : ℕ → Cell → ℕ
links_to x c = cond c.live (self_pointers x c) 0

aims-links : (x : ℕ) (bit : Bool) (c : Cell) → aims_in x bit c + aims_in x (not bit) c ≡ links_to x c
aims-links x bit c =
    let s = sum_by-plus (hits x bit) (hits x (not bit)) (λ p. cond (p.target == x) 1 0) (hits-both x bit) c.pointers in
    elim c.live as (λ l. cond l (sum_by (hits x bit) c.pointers) 0 + cond l (sum_by (hits x (not bit)) c.pointers) 0 ≡ cond l (self_pointers x c) 0) [ true ↦ s | false ↦ omega arith ]

-- both counts together are the slots of live cells that name the id
counts-links : (cells : List Cell) → IsExact cells → (x : ℕ) → is_live cells x ≡ true → x ≢ root → (cell_at cells x).strong + (cell_at cells x).weak ≡ sum_by (links_to x) cells
counts-links cells e x l r =
    let at = e.counts x l in
    let s = at.strong in let w = at.weak in
    let own : own_strong x ≡ 0 = ap (λ t. cond t 1 0) (ne_eqb x 1 r) in
    let both = sum_by-plus (aims_in x (cell_at cells x).bit) (aims_in x (not (cell_at cells x).bit)) (links_to x) (aims-links x (cell_at cells x).bit) cells in
    omega (arith, s, w, own, both)

-- a cell that adds to them is live, and one of its slots names the id
link-part : (x : ℕ) (c : Cell) → links_to x c ≢ 0 → (c.live ≡ true) × (slot : ℕ) × ((pointer_in c slot).target ≡ x)
link-part x c n =
    let some = cond-part c.live (self_pointers x c) n in
    let at = sum-part (λ p. cond (p.target == x) 1 0) c.pointers null some.1 in
    (some.0, at.0, eqb-true (pointer_in c at.0).target x (cond-part ((pointer_in c at.0).target == x) 1 at.2).0)

-- ---- copies that are the cells

-- the copied slots that name the id are those of the list's cells
links-copied : (cells : List Cell) (copies : List (ℕ × Copy)) (list : List ℕ) → map (λ e. e.0) copies ≡ list → ((id : ℕ) → Contains list id → is_live cells id ≡ true) → ((id : ℕ) (copy : Copy) → Contains copies (id, copy) → Contains list id)
    → ((id : ℕ) (copy : Copy) → Contains copies (id, copy) → copy ≡ copy_of (cell_at cells id)) → (x : ℕ) → sum_by (λ v. links_to x (cell_at cells v)) list ≤ copied_names copies x
links-copied cells copies list all live in_list are x =
    let le = sum_by-le-each (λ (e : ℕ × Copy). links_to x (cell_at cells e.0)) (λ (e : ℕ × Copy). count_by (λ t. t == x) e.1.targets) copies
    (each (λ (e : ℕ × Copy). links_to x (cell_at cells e.0) ≤ count_by (λ t. t == x) e.1.targets) copies (λ e m. one e.0 e.1 m)) in
    let ids = sum_by-map_to (λ v. links_to x (cell_at cells v)) (λ (e : ℕ × Copy). e.0) copies in
    let same = ap (λ l. sum_by (λ v. links_to x (cell_at cells v)) l) all in
    omega (arith, le, ids, same)
  where
    one : (v : ℕ) (copy : Copy) → Contains copies (v, copy) → links_to x (cell_at cells v) ≤ count_by (λ t. t == x) copy.targets
    one v copy m =
        let cell = cell_at cells v in
        let is = ap (λ (k : Copy). count_by (λ t. t == x) k.targets) (are v copy m) in
        let maps = sum_by-map_to (λ t. cond (t == x) 1 0) (λ (p : Pointer). p.target) cell.pointers in
        let here = cond-true cell.live (self_pointers x cell) 0 (live v (in_list v copy m)) in
        omega (arith, is, maps, here)

-- where the copied slots name the id fewer times than its cell counts, another live object points to it
pub other-pointer : (cells : List Cell) → IsExact cells → (copies : List (ℕ × Copy)) (list : List ℕ) → AllDistinct list → map (λ e. e.0) copies ≡ list → ((id : ℕ) → Contains list id → is_live cells id ≡ true)
    → ((id : ℕ) (copy : Copy) → Contains copies (id, copy) → Contains list id) → ((id : ℕ) (copy : Copy) → Contains copies (id, copy) → copy ≡ copy_of (cell_at cells id))
    → (x : ℕ) → is_live cells x ≡ true → x ≢ root → copied_names copies x < (cell_at cells x).strong + (cell_at cells x).weak → HasOther cells list x
other-pointer cells e copies list d all live in_list are x l r less =
    let few = links-copied cells copies list all live in_list are x in
    let counts = counts-links cells e x l r in
    let h = other-part (links_to x) refl list d cells (λ v m. live-within cells v (live v m)) (omega (arith, few, counts, less)) in
    let p = link-part x (cell_at cells h.0) h.1 in
    (h.0, p.1, p.0, h.2, p.2)
