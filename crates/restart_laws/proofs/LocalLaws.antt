-- A record does to each cell what it says, by that cell alone; so a page may start from its last image.
use Rattle.std.proofs.Common.{◌≡◌, ◌≢◌, ℕ, ◌+◌, ◌-◌, ◌<◌, List, [], ◌∷◌, Bool, true, false, cond, refl, sym, ap, ◌∙◌, subst, length, ◌⊎◌, inl, inr, ⊎_elim, eq-eqb, ne_eqb}
use Rattle.std.specs.Prelude.{◌==◌, ◌||◌, not}
use Rattle.std.proofs.lemmas.Bool.{cases_eq, cond-true, cond-false}
use Rattle.cell_model.specs.Cells.{Pointer, Cell, null, blank_cell, cell_at, pointer_at, is_live, is_strong, same, edit, relink, gains, loses, relinked, other_strength, pays, flipped, IsExact}
use Rattle.cell_model.specs.Records.{Record, Begin, Make, Store, Pay, Commit, Undo, UndoPay, AbortEnd, Weaken, Strengthen, Flip, CutDead, Free, after_record, cells_after, Fits, AllFit}
use Rattle.cell_model.proofs.EditLaws.{edit-here, edit-other, live-within, length-edit}
use Rattle.cell_model.proofs.KeptLaws.{exact-kept}
use Rattle.restart_laws.specs.Local.{concerning, counts_more, counts_less, turns, effect, Item, OfCells, Image, is_in_page, cell_in, replayed, has_image, records_in, AreImages}

-- ---- one edit

-- 0, or a place of the list
abbrev IsThere : List Cell → ℕ → Type 0
IsThere cells u = (u ≡ 0) ⊎ (u < length cells)

edited : (cells : List Cell) (u x : ℕ) (f : Cell → Cell) → x ≢ 0 → IsThere cells u → cell_at (edit cells u f) x ≡ concerning x u f (cell_at cells x)
edited cells u x f n t =
    ⊎_elim
    (λ (e : x ≡ u). ⊎_elim
    (λ z. absurd (n (e ∙ z)))
    (λ w. subst (λ y. cell_at (edit cells u f) y ≡ f (cell_at cells y)) (sym e) (edit-here cells u f (λ z. n (e ∙ z)) w) ∙ sym (cond-true (x == u) (f (cell_at cells x)) (cell_at cells x) (eq-eqb x u e)))
    t)
    (λ d. edit-other cells u x f d ∙ sym (cond-false (x == u) (f (cell_at cells x)) (cell_at cells x) (ne_eqb x u d)))
    (cases_eq x u)

-- what is concerned, by what holds where it is
concerning-same : (x u : ℕ) (f g : Cell → Cell) (c : Cell) → (x ≡ u → f c ≡ g c) → concerning x u f c ≡ concerning x u g c
concerning-same x u f g c h = ⊎_elim
    (λ e. cond-true (x == u) (f c) c (eq-eqb x u e) ∙ (h e ∙ sym (cond-true (x == u) (g c) c (eq-eqb x u e))))
    (λ d. cond-false (x == u) (f c) c (ne_eqb x u d) ∙ sym (cond-false (x == u) (g c) c (ne_eqb x u d)))
    (cases_eq x u)

concerning-keeps : {X : Type 0} (g : Cell → X) (x u : ℕ) (f : Cell → Cell) (c : Cell) → ((c : Cell) → g (f c) ≡ g c) → g (concerning x u f c) ≡ g c
concerning-keeps g x u f c h = by (x == u)
  where
    by : (b : Bool) → g (cond b (f c) c) ≡ g c
    by true = h c
    by false = refl

loses-less : (bit strong : Bool) (c : Cell) → same c.bit bit ≡ strong → loses bit c ≡ counts_less strong c
loses-less bit strong c e = ap (λ b. cond b (record c { strong = c.strong - 1 }) (record c { weak = c.weak - 1 })) e

gains-more : (bit strong : Bool) (c : Cell) → same c.bit bit ≡ strong → gains bit c ≡ counts_more strong c
gains-more bit strong c e = ap (λ b. cond b (record c { strong = c.strong + 1 }) (record c { weak = c.weak + 1 })) e

loses-bit : (bit : Bool) (c : Cell) → (loses bit c).bit ≡ c.bit
loses-bit bit c = by (same c.bit bit)
  where
    by : (b : Bool) → (cond b (record c { strong = c.strong - 1 }) (record c { weak = c.weak - 1 })).bit ≡ c.bit
    by true = refl
    by false = refl

-- ---- the change of one slot

module _ (cells : List Cell) (id slot x : ℕ) (p : Pointer) (n : x ≢ 0) (e : is_live cells 0 ≡ false) (l : is_live cells id ≡ true) where
  abbrev old : Pointer
  old = pointer_at cells id slot

  relinked-local : (old_strong new_strong : Bool) → (old.target ≢ 0 → (is_live cells old.target ≡ true) × (is_strong cells old ≡ old_strong)) → (p.target ≢ 0 → (is_live cells p.target ≡ true) × (is_strong cells p ≡ new_strong))
      → cell_at (relinked cells id slot p) x ≡ concerning x p.target (counts_more new_strong) (concerning x old.target (counts_less old_strong) (concerning x id (relink slot p) (cell_at cells x)))
  relinked-local old_strong new_strong was is =
      let c1 = edit cells id (relink slot p) in
      let c2 = edit c1 old.target (loses old.bit) in
      let d0 = cell_at cells x in
      let d1 = concerning x id (relink slot p) d0 in
      let d2 = concerning x old.target (loses old.bit) d1 in
      let there : (u : ℕ) → (u ≢ 0 → is_live cells u ≡ true) → IsThere cells u = λ u f. ⊎_elim (λ z. inl z) (λ z. inr (live-within cells u (f z))) (cases_eq u 0) in
      let more : (u : ℕ) (cs ds : List Cell) → length ds ≡ length cs → IsThere cs u → IsThere ds u = λ u cs ds q t. ⊎_elim (λ z. inl z) (λ w. inr (subst (λ m. u < m) (sym q) w)) t in
      let len1 = length-edit cells id (relink slot p) in
      let len2 = length-edit c1 old.target (loses old.bit) ∙ len1 in
      let a1 : cell_at c1 x ≡ d1 = edited cells id x (relink slot p) n (inr (live-within cells id l)) in
      let a2 : cell_at c2 x ≡ d2 = edited c1 old.target x (loses old.bit) n (more old.target cells c1 len1 (there old.target (λ z. (was z).0))) ∙ ap (concerning x old.target (loses old.bit)) a1 in
      let a3 = edited c2 p.target x (gains p.bit) n (more p.target cells c2 len2 (there p.target (λ z. (is z).0))) ∙ ap (concerning x p.target (gains p.bit)) a2 in
      let bit1 : d1.bit ≡ d0.bit = concerning-keeps (λ c. c.bit) x id (relink slot p) d0 (λ c. refl) in
      let bit2 : d2.bit ≡ d0.bit = concerning-keeps (λ c. c.bit) x old.target (loses old.bit) d1 (λ c. loses-bit old.bit c) ∙ bit1 in
      let less : d2 ≡ concerning x old.target (counts_less old_strong) d1 = concerning-same x old.target (loses old.bit) (counts_less old_strong) d1
      (λ q. loses-less old.bit old_strong d1 (ap (λ b. same b old.bit) (bit1 ∙ ap (λ y. (cell_at cells y).bit) q) ∙ (was (λ z. n (q ∙ z))).1)) in
      a3
      ∙ (concerning-same x p.target (gains p.bit) (counts_more new_strong) d2 (λ q. gains-more p.bit new_strong d2 (ap (λ b. same b p.bit) (bit2 ∙ ap (λ y. (cell_at cells y).bit) q) ∙ (is (λ z. n (q ∙ z))).1))
      ∙ ap (concerning x p.target (counts_more new_strong)) less)

-- ---- each record

other-strong : (b c strong : Bool) → same b c ≡ strong → same b (not c) ≡ not strong
other-strong true c strong e = ap not e
other-strong false c strong e = ap not e

pub local-effect : (slots : ℕ) (cells : List Cell) (r : Record) → is_live cells 0 ≡ false → Fits cells r → (x : ℕ) → x ≢ 0 → cell_at (after_record slots cells r) x ≡ effect slots r x (cell_at cells x)
local-effect slots cells (Begin pass) e f x n = refl
local-effect slots cells (Make pass id) e f x n = edited cells id x (λ _. blank_cell true slots) n (inr f.1)
local-effect slots cells (Store pass id slot old_target old_strong new_target new_bit new_strong) e f x n =
    let p : Pointer = record { target = new_target; bit = new_bit } in
    let h = f.0 in
    relinked-local cells id slot x p n e h.live old_strong new_strong
    (λ z. (let m : old_target ≢ 0 = λ q. z (h.target ∙ q) in (subst (λ y. is_live cells y ≡ true) (sym h.target) (h.target_live m), h.strength m)))
    (λ z. (f.1.live z, f.1.strength z))
    ∙ ap (λ y. concerning x new_target (counts_more new_strong) (concerning x y (counts_less old_strong) (concerning x id (relink slot p) (cell_at cells x)))) h.target
local-effect slots cells (Pay pass id old_value new_value) e f x n = edited cells id x (pays new_value) n (inr (live-within cells id f.0))
local-effect slots cells (Commit pass) e f x n = refl
local-effect slots cells (Undo pass id slot was from_strong to to_bit) e f x n =
    let p : Pointer = record { target = to; bit = to_bit } in
    let h = f.0 in
    relinked-local cells id slot x p n e h.live from_strong false
    (λ z. (let m : was ≢ 0 = λ q. z (h.target ∙ q) in (subst (λ y. is_live cells y ≡ true) (sym h.target) (h.target_live m), h.strength m)))
    (λ z. (f.1.live z, f.1.strength z))
    ∙ ap (λ y. concerning x to (counts_more false) (concerning x y (counts_less from_strong) (concerning x id (relink slot p) (cell_at cells x)))) h.target
local-effect slots cells (UndoPay pass id was to) e f x n = edited cells id x (pays to) n (inr (live-within cells id f.0))
local-effect slots cells (AbortEnd pass) e f x n = refl
local-effect slots cells (Weaken id slot target) e f x n =
    let p = pointer_at cells id slot in
    let h = f.0 in
    let live = subst (λ y. is_live cells y ≡ true) (sym h.target) (h.target_live f.1) in
    relinked-local cells id slot x (other_strength p) n e h.live true false (λ z. (live, h.strength f.1)) (λ z. (live, other-strong (cell_at cells p.target).bit p.bit true (h.strength f.1)))
    ∙ (ap (λ y. concerning x y (counts_more false) (concerning x y (counts_less true) (concerning x id (relink slot (other_strength p)) (cell_at cells x)))) h.target
    ∙ ap (λ c. concerning x target (counts_more false) (concerning x target (counts_less true) c)) (switched-here cells id slot x))
  where
    switched-here : (cells : List Cell) (id slot x : ℕ) → concerning x id (relink slot (other_strength (pointer_at cells id slot))) (cell_at cells x) ≡ concerning x id (turns slot) (cell_at cells x)
    switched-here cells id slot x = concerning-same x id (relink slot (other_strength (pointer_at cells id slot))) (turns slot) (cell_at cells x) (λ q. ap (λ y. relink slot (other_strength (pointer_at cells y slot)) (cell_at cells x)) (sym q))
local-effect slots cells (Strengthen id slot target) e f x n =
    let p = pointer_at cells id slot in
    let h = f.0 in
    let live = subst (λ y. is_live cells y ≡ true) (sym h.target) (h.target_live f.1) in
    relinked-local cells id slot x (other_strength p) n e h.live false true (λ z. (live, h.strength f.1)) (λ z. (live, other-strong (cell_at cells p.target).bit p.bit false (h.strength f.1)))
    ∙ (ap (λ y. concerning x y (counts_more true) (concerning x y (counts_less false) (concerning x id (relink slot (other_strength p)) (cell_at cells x)))) h.target
    ∙ ap (λ c. concerning x target (counts_more true) (concerning x target (counts_less false) c)) (switched-here cells id slot x))
  where
    switched-here : (cells : List Cell) (id slot x : ℕ) → concerning x id (relink slot (other_strength (pointer_at cells id slot))) (cell_at cells x) ≡ concerning x id (turns slot) (cell_at cells x)
    switched-here cells id slot x = concerning-same x id (relink slot (other_strength (pointer_at cells id slot))) (turns slot) (cell_at cells x) (λ q. ap (λ y. relink slot (other_strength (pointer_at cells y slot)) (cell_at cells x)) (sym q))
local-effect slots cells (Flip id) e f x n = edited cells id x (flipped id) n (inr (live-within cells id f.0))
local-effect slots cells (CutDead id slot target was_strong) e f x n =
    let h = f.0 in
    let c = cell_at cells x in
    relinked-local cells id slot x null n e h.live was_strong true
    (λ z. (subst (λ y. is_live cells y ≡ true) (sym h.target) (h.target_live f.1), h.strength f.1))
    (λ z. absurd (z refl))
    ∙ (cond-false (x == 0) (counts_more true (concerning x (pointer_at cells id slot).target (counts_less was_strong) (concerning x id (relink slot null) c))) (concerning x (pointer_at cells id slot).target (counts_less was_strong) (concerning x id (relink slot null) c)) (ne_eqb x 0 n)
    ∙ ap (λ y. concerning x y (counts_less was_strong) (concerning x id (relink slot null) c)) h.target)
local-effect slots cells (Free id) e f x n = edited cells id x (λ _. blank_cell false slots) n (inr (live-within cells id f.0))

-- ---- images

pub replayed-from : (slots : ℕ) (items : List Item) (cells : List Cell) → IsExact cells → AllFit slots cells (records_in items) → AreImages slots cells items → (x : ℕ) → x ≢ 0 → (c : Cell) → (c ≡ cell_at cells x) ⊎ (has_image x items ≡ true)
    → replayed slots x c items ≡ cell_at (cells_after slots cells (records_in items)) x
replayed-from slots [] cells k f a x n c (inl e) = e
replayed-from slots [] cells k f a x n c (inr e) = absurd (cc)
replayed-from slots (OfCells r ∷ is) cells k f a x n c h =
    replayed-from slots is (after_record slots cells r) (exact-kept slots cells r f.0 k) f.1 a x n (effect slots r x c) (⊎_elim (λ e. inl (ap (effect slots r x) e ∙ sym (local-effect slots cells r k.none f.0 x n))) (λ e. inr e) h)
replayed-from slots (Image page held ∷ is) cells k f a x n c h =
    by (is_in_page page x) refl h (λ d q. replayed-from slots is cells k f a.1 x n d q)
  where
    by : (b : Bool) → is_in_page page x ≡ b → (c ≡ cell_at cells x) ⊎ ((b || has_image x is) ≡ true) → ((d : Cell) → (d ≡ cell_at cells x) ⊎ (has_image x is ≡ true) → replayed slots x d is ≡ cell_at (cells_after slots cells (records_in is)) x)
        → replayed slots x (cond b (cell_in page held x) c) is ≡ cell_at (cells_after slots cells (records_in is)) x
    by true q h rest = rest (cell_in page held x) (inl (a.0 x q))
    by false q h rest = rest c h
