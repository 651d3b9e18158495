-- A record that fits the cells fits each of them.
use Rattle.std.proofs.Common.{◌≡◌, ◌≢◌, ℕ, ◌+◌, ◌<◌, ◌≤◌, ◌^◌, Bool, true, false, cond, List, refl, sym, ap, ◌∙◌, subst, arith}
use Rattle.std.specs.Prelude.{◌==◌}
use Rattle.cell_model.specs.Cells.{Pointer, Cell, null, cell_at, pointer_at, is_live, counted, relink, self_pointers, IsExact}
use Rattle.cell_model.specs.Records.{Record, Begin, Make, Store, Pay, Commit, Undo, UndoPay, AbortEnd, Weaken, Strengthen, Flip, CutDead, Free, HasPointer, HasNoPointer, Fits}
use Rattle.cell_model.proofs.RecordLaws.{target-counts}
use Rattle.restart_laws.specs.Local.{concerning, counts_less, turns, count_of, Holds, CanLose, CanGain, FitsAt}

-- ---- one cell

-- what changes a slot alone
record IsOfSlot (f : Cell → Cell) : Type 0 where
  live : (c : Cell) → (f c).live ≡ c.live
  count : (s : Bool) (c : Cell) → count_of s (f c) ≡ count_of s c

relinks : (slot : ℕ) (p : Pointer) → IsOfSlot (relink slot p)
relinks slot p = record { live = λ c. refl; count = λ s c. refl }

turning : (slot : ℕ) → IsOfSlot (turns slot)
turning slot = record { live = λ c. refl; count = λ s c. refl }

concerned : (x u : ℕ) (f : Cell → Cell) → IsOfSlot f → IsOfSlot (concerning x u f)
concerned x u f h = record {
  live = λ c. live-by c (x == u);
  count = λ s c. count-by s c (x == u);
}
  where
    live-by : (c : Cell) (b : Bool) → (cond b (f c) c).live ≡ c.live
    live-by c true = h.live c
    live-by c false = refl

    count-by : (s : Bool) (c : Cell) (b : Bool) → count_of s (cond b (f c) c) ≡ count_of s c
    count-by s c true = h.count s c
    count-by s c false = refl

lose-after : (f : Cell → Cell) → IsOfSlot f → (s : Bool) (c : Cell) → CanLose s c → CanLose s (f c)
lose-after f h s c k = (h.live c ∙ k.0, subst (λ n. 0 < n) (sym (h.count s c)) k.1)

gain-after : (f : Cell → Cell) → IsOfSlot f → (s : Bool) (c : Cell) → CanGain s c → CanGain s (f c)
gain-after f h s c k = (h.live c ∙ k.0, subst (λ n. n + 1 < 2 ^ 32) (sym (h.count s c)) k.1)

-- a count that fell has more room
gain-less : (x u : ℕ) (t s : Bool) (c : Cell) → CanGain s c → CanGain s (concerning x u (counts_less t) c)
gain-less x u t s c k = by (x == u)
  where
    live : (t : Bool) → (counts_less t c).live ≡ c.live
    live true = refl
    live false = refl

    less : (t s : Bool) → count_of s (counts_less t c) ≤ count_of s c
    less true true = omega arith
    less true false = omega arith
    less false true = omega arith
    less false false = omega arith

    by : (b : Bool) → CanGain s (cond b (counts_less t c) c)
    by true = (live t ∙ k.0, (let l = less t s in let r = k.1 in omega (arith, l, r)))
    by false = k

-- ---- in cells

holds-at : (cells : List Cell) (id slot target : ℕ) (strong : Bool) → HasPointer cells id slot target strong → (x : ℕ) → x ≡ id → Holds slot target (cell_at cells x)
holds-at cells id slot target strong h x q = subst (λ y. Holds slot target (cell_at cells y)) (sym q) (h.live, h.within, h.target)

lose-at : (cells : List Cell) → IsExact cells → (id slot target : ℕ) (strong : Bool) → HasPointer cells id slot target strong → (x : ℕ) → x ≢ 0 → x ≡ target → CanLose strong (cell_at cells x)
lose-at cells e id slot target strong h x n q =
    let t : target ≢ 0 = λ z. n (q ∙ z) in
    let p = pointer_at cells id slot in
    let one : 1 ≤ counted p.bit (cell_at cells p.target) = target-counts cells e id slot h.live (λ z. t (sym h.target ∙ z)) in
    let is : counted p.bit (cell_at cells p.target) ≡ count_of strong (cell_at cells p.target) = ap (λ b. cond b (cell_at cells p.target).strong (cell_at cells p.target).weak) (h.strength t) in
    subst (λ y. CanLose strong (cell_at cells y)) (sym (q ∙ sym h.target)) (subst (λ y. is_live cells y ≡ true) (sym h.target) (h.target_live t), subst (λ k. 1 ≤ k) is one)

module _ (cells : List Cell) (room : (y : ℕ) → is_live cells y ≡ true → ((cell_at cells y).strong + 1 < 2 ^ 32) × ((cell_at cells y).weak + 1 < 2 ^ 32)) where
  gain-at : (s : Bool) (x target : ℕ) → (target ≢ 0 → is_live cells target ≡ true) → x ≢ 0 → x ≡ target → CanGain s (cell_at cells x)
  gain-at s x target live n q =
      let l : is_live cells x ≡ true = subst (λ y. is_live cells y ≡ true) (sym q) (live (λ z. n (q ∙ z))) in
      (l, by s (room x l))
    where
      by : (s : Bool) → ((cell_at cells x).strong + 1 < 2 ^ 32) × ((cell_at cells x).weak + 1 < 2 ^ 32) → count_of s (cell_at cells x) + 1 < 2 ^ 32
      by true r = r.0
      by false r = r.1

  pub local-fits : (r : Record) → IsExact cells → Fits cells r → (x : ℕ) → x ≢ 0 → FitsAt r x (cell_at cells x)
  local-fits (Begin pass) e f x n = tt
  local-fits (Make pass id) e f x n = λ q. subst (λ y. is_live cells y ≡ false) (sym q) f.2
  local-fits (Store pass id slot old_target old_strong new_target new_bit new_strong) e f x n =
      let g = concerning x id (relink slot (record { target = new_target; bit = new_bit })) in
      let h = concerned x id (relink slot (record { target = new_target; bit = new_bit })) (relinks slot (record { target = new_target; bit = new_bit })) in
      let c = cell_at cells x in (
        holds-at cells id slot old_target old_strong f.0 x,
        λ q. lose-after g h old_strong c (lose-at cells e id slot old_target old_strong f.0 x n q),
        λ q. gain-less x old_target old_strong new_strong (g c) (gain-after g h new_strong c (gain-at new_strong x new_target f.1.live n q)),
      )
  local-fits (Pay pass id old_value new_value) e f x n = λ q. (subst (λ y. is_live cells y ≡ true) (sym q) f.0, subst (λ y. (cell_at cells y).payload ≡ old_value) (sym q) f.1)
  local-fits (Commit pass) e f x n = tt
  local-fits (Undo pass id slot was from_strong to to_bit) e f x n =
      let g = concerning x id (relink slot (record { target = to; bit = to_bit })) in
      let h = concerned x id (relink slot (record { target = to; bit = to_bit })) (relinks slot (record { target = to; bit = to_bit })) in
      let c = cell_at cells x in (
        holds-at cells id slot was from_strong f.0 x,
        λ q. lose-after g h from_strong c (lose-at cells e id slot was from_strong f.0 x n q),
        λ q. gain-less x was from_strong false (g c) (gain-after g h false c (gain-at false x to f.1.live n q)),
      )
  local-fits (UndoPay pass id was to) e f x n = λ q. (subst (λ y. is_live cells y ≡ true) (sym q) f.0, subst (λ y. (cell_at cells y).payload ≡ was) (sym q) f.1)
  local-fits (AbortEnd pass) e f x n = tt
  local-fits (Weaken id slot target) e f x n =
      let g = concerning x id (turns slot) in
      let h = concerned x id (turns slot) (turning slot) in
      let c = cell_at cells x in (
        holds-at cells id slot target true f.0 x,
        λ q. (lose-after g h true c (lose-at cells e id slot target true f.0 x n q), gain-after g h false c (gain-at false x target f.0.target_live n q)),
      )
  local-fits (Strengthen id slot target) e f x n =
      let g = concerning x id (turns slot) in
      let h = concerned x id (turns slot) (turning slot) in
      let c = cell_at cells x in (
        holds-at cells id slot target false f.0 x,
        λ q. (lose-after g h false c (lose-at cells e id slot target false f.0 x n q), gain-after g h true c (gain-at true x target f.0.target_live n q)),
      )
  local-fits (Flip id) e f x n = λ q. subst (λ y. (is_live cells y ≡ true) × ((cell_at cells y).strong ≡ 0) × (self_pointers id (cell_at cells y) ≤ (cell_at cells y).weak)) (sym q) f
  local-fits (CutDead id slot target was_strong) e f x n =
      let g = concerning x id (relink slot null) in
      let h = concerned x id (relink slot null) (relinks slot null) in (
        holds-at cells id slot target was_strong f.0 x,
        λ q. lose-after g h was_strong (cell_at cells x) (lose-at cells e id slot target was_strong f.0 x n q),
      )
  local-fits (Free id) e f x n = λ q. subst (λ y. (is_live cells y ≡ true) × (id ≢ 1) × HasNoPointer (cell_at cells y) × ((cell_at cells y).strong ≡ 0) × ((cell_at cells y).weak ≡ 0)) (sym q) f
