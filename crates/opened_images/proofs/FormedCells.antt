-- A cell of pages: a free one is empty, and a live one has so many slots. Records that fit keep this.
use Rattle.std.proofs.Common.{◌≡◌, ℕ, ◌+◌, ◌*◌, ◌<◌, Bool, true, false, cond, List, length, map, refl, sym, ap, subst, ◌∙◌, arith}
use Rattle.std.specs.Prelude.{◌-◌, ◌==◌, slice_index_or}
use Rattle.std.proofs.lemmas.Bool.{eqb-true, leb-true, and_parts}
use Rattle.std.proofs.lemmas.List.{length-set, length-map, get_or-map}
use Rattle.cell_model.specs.Cells.{Cell, Pointer, null, blank_cell, relink, pays, flipped, switched}
use Rattle.cell_model.specs.Records.{Record as StoreRecord, Begin, Make, Store, Pay, Commit, Undo, UndoPay, AbortEnd, Weaken, Strengthen, Flip, CutDead, Free}
use Rattle.cell_model.proofs.ConsistentLaws.{blank-length}
use Rattle.cell_page.specs.declared.cell.Cell.{Cell as PageCell}
use Rattle.cell_page.specs.Format.{IsCell, IsPage, AreTyped, free_cell, first_id}
use Rattle.cell_page.specs.Stored.{cell_of}
use Rattle.cell_page.proofs.PointerLemmas.{length-pointers_from, pointers_from-replicate}
use Rattle.restart_laws.specs.Local.{concerning, counts_more, counts_less, turns, effect, FitsAt, is_in_page, cell_in}

-- ---- what each cell of pages has

-- a free cell is empty, and a live one has so many slots
pub record IsFormed (slots : ℕ) (c : Cell) : Type 0 where
  pub empty : c.live ≡ false → c ≡ blank_cell false slots
  pub slotted : c.live ≡ true → length c.pointers ≡ slots

pub true_false : true ≡ false → ⊥
true_false e = cc

blank_formed : (slots : ℕ) (live : Bool) → IsFormed slots (blank_cell live slots)
blank_formed slots live = record { empty = λ e. ap (λ (b : Bool). blank_cell b slots) e; slotted = λ e. blank-length slots }

live_formed : (slots : ℕ) (c : Cell) → c.live ≡ true → length c.pointers ≡ slots → IsFormed slots c
live_formed slots c l e = record { empty = λ free. absurd (true_false (sym l ∙ free)); slotted = λ live. e }

-- ---- records of single cells

-- the change keeps whether a cell is live, and how many slots it has
record KeepsForm (f : Cell → Cell) : Type 0 where
  live : (c : Cell) → (f c).live ≡ c.live
  count : (c : Cell) → length (f c).pointers ≡ length c.pointers

relink_keeps : (slot : ℕ) (p : Pointer) → KeepsForm (relink slot p)
relink_keeps slot p = record { live = λ c. refl; count = λ c. length-set c.pointers slot p }

turns_keeps : (slot : ℕ) → KeepsForm (turns slot)
turns_keeps slot = record { live = λ c. refl; count = λ c. length-set c.pointers slot _ }

more_keeps : (strong : Bool) → KeepsForm (counts_more strong)
more_keeps true = record { live = λ c. refl; count = λ c. refl }
more_keeps false = record { live = λ c. refl; count = λ c. refl }

less_keeps : (strong : Bool) → KeepsForm (counts_less strong)
less_keeps true = record { live = λ c. refl; count = λ c. refl }
less_keeps false = record { live = λ c. refl; count = λ c. refl }

pays_keeps : (value : ℕ) → KeepsForm (pays value)
pays_keeps value = record { live = λ c. refl; count = λ c. refl }

flipped_keeps : (id : ℕ) → KeepsForm (flipped id)
flipped_keeps id = record { live = λ c. refl; count = λ c. length-map c.pointers (switched id) }

step : (slots x id : ℕ) (f : Cell → Cell) (c : Cell) → IsFormed slots c → (x ≡ id → IsFormed slots (f c)) → IsFormed slots (concerning x id f c)
step slots x id f c formed here = by (x == id) refl
  where
    by : (b : Bool) → (x == id) ≡ b → IsFormed slots (cond b (f c) c)
    by true e = here (eqb-true x id e)
    by false e = formed

moved : (slots x id : ℕ) (f : Cell → Cell) (c : Cell) → KeepsForm f → IsFormed slots c → (x ≡ id → c.live ≡ true) → IsFormed slots (concerning x id f c)
moved slots x id f c k formed live =
    step slots x id f c formed (λ e. live_formed slots (f c) (k.live c ∙ live e) (k.count c ∙ formed.slotted (live e)))

-- the change keeps the cell live
still_live : (x id : ℕ) (f : Cell → Cell) (c : Cell) → KeepsForm f → c.live ≡ true → (concerning x id f c).live ≡ true
still_live x id f c k live = by (x == id)
  where
    by : (b : Bool) → (cond b (f c) c).live ≡ true
    by true = k.live c ∙ live
    by false = live

pub effect_formed : (slots : ℕ) (r : StoreRecord) (x : ℕ) (c : Cell) → IsFormed slots c → FitsAt r x c → IsFormed slots (effect slots r x c)
effect_formed slots (Begin pass) x c formed fits = formed
effect_formed slots (Make pass id) x c formed fits = step slots x id (λ _. blank_cell true slots) c formed (λ e. blank_formed slots true)
effect_formed slots (Store pass id slot old old_strong new bit strong) x c formed fits =
    let own = moved slots x id (relink slot (record { target = new; bit = bit })) c (relink_keeps slot (record { target = new; bit = bit })) formed (λ e. (fits.0 e).0) in
    let lost = moved slots x old (counts_less old_strong) _ (less_keeps old_strong) own (λ e. (fits.1 e).0) in
    moved slots x new (counts_more strong) _ (more_keeps strong) lost (λ e. (fits.2 e).0)
effect_formed slots (Pay pass id old new) x c formed fits = moved slots x id (pays new) c (pays_keeps new) formed (λ e. (fits e).0)
effect_formed slots (Commit pass) x c formed fits = formed
effect_formed slots (Undo pass id slot old old_strong new bit) x c formed fits =
    let own = moved slots x id (relink slot (record { target = new; bit = bit })) c (relink_keeps slot (record { target = new; bit = bit })) formed (λ e. (fits.0 e).0) in
    let lost = moved slots x old (counts_less old_strong) _ (less_keeps old_strong) own (λ e. (fits.1 e).0) in
    moved slots x new (counts_more false) _ (more_keeps false) lost (λ e. (fits.2 e).0)
effect_formed slots (UndoPay pass id old new) x c formed fits = moved slots x id (pays new) c (pays_keeps new) formed (λ e. (fits e).0)
effect_formed slots (AbortEnd pass) x c formed fits = formed
effect_formed slots (Weaken id slot target) x c formed fits =
    let own = moved slots x id (turns slot) c (turns_keeps slot) formed (λ e. (fits.0 e).0) in
    let lost = moved slots x target (counts_less true) _ (less_keeps true) own (λ e. (fits.1 e).0.0) in
    moved slots x target (counts_more false) _ (more_keeps false) lost (λ e. still_live x target (counts_less true) _ (less_keeps true) (fits.1 e).0.0)
effect_formed slots (Strengthen id slot target) x c formed fits =
    let own = moved slots x id (turns slot) c (turns_keeps slot) formed (λ e. (fits.0 e).0) in
    let lost = moved slots x target (counts_less false) _ (less_keeps false) own (λ e. (fits.1 e).0.0) in
    moved slots x target (counts_more true) _ (more_keeps true) lost (λ e. still_live x target (counts_less false) _ (less_keeps false) (fits.1 e).0.0)
effect_formed slots (Flip id) x c formed fits = moved slots x id (flipped id) c (flipped_keeps id) formed (λ e. (fits e).0)
effect_formed slots (CutDead id slot target was_strong) x c formed fits =
    let own = moved slots x id (relink slot null) c (relink_keeps slot null) formed (λ e. (fits.0 e).0) in
    moved slots x target (counts_less was_strong) _ (less_keeps was_strong) own (λ e. (fits.1 e).0)
effect_formed slots (Free id) x c formed fits = step slots x id (λ _. blank_cell false slots) c formed (λ e. blank_formed slots false)

-- ---- cells of pages

pub cell_formed : {slots : ℕ} (id : ℕ) (c : PageCell slots) → IsCell id c → length c.slots ≡ slots → IsFormed slots (cell_of c)
cell_formed {slots} id c rules count = record {
  empty = λ free. ap cell_of (rules.free free) ∙ blank;
  slotted = λ live. length-pointers_from c.bits 0 c.slots ∙ count;
}
  where
    blank : cell_of (free_cell slots id) ≡ blank_cell false slots
    blank = ap (λ (ps : List Pointer). record { live = false; bit = false; strong = 0; weak = 0; payload = 0; pointers = ps }) (pointers_from-replicate 0 slots)

pub image_formed : {slots : ℕ} (page x : ℕ) (cells : List (PageCell slots)) → IsPage page cells → AreTyped cells → is_in_page page x ≡ true → IsFormed slots (cell_in page (map cell_of cells) x)
image_formed {slots} page x cells rules typed inside =
    let parts = and_parts _ _ inside in
    let low = leb-true (8 * page + 1) x parts.0 in
    let high = leb-true x (8 * page + 8) parts.1 in
    let place : ℕ = x - (8 * page + 1) in
    let within : place < 8 = omega (arith, low, high) in
    let there : place < length cells = subst (λ (n : ℕ). place < n) (sym rules.eight) within in
    let d : PageCell slots = free_cell slots 0 in
    subst (λ (c : Cell). IsFormed slots c) (sym (get_or-map cell_of cells place d (blank_cell false 0) there))
    (cell_formed (first_id page + place) (slice_index_or cells place d) (rules.each place d within) (typed place d there).slot_count)
