-- The held pages and marks before a slot changes, and the cell that has the slot.
use Rattle.std.proofs.Common.{◌≡◌, ℕ, ◌<◌, ◌≤◌, List, Bool, true, length, get_or, refl, sym, ap, ◌∙◌, subst, arith, ⊎_elim}
use Rattle.std.specs.List.{AllByRecursion}
use Rattle.std.proofs.lemmas.Bool.{cases_lt}
use Rattle.std.proofs.lemmas.List.{get_or_past, length-map}
use Rattle.cell_model.specs.Cells.{Pointer, Cell as StoredCell, null, cell_at, pointer_in, pointer_at, is_live, edit, pays}
use Rattle.cell_model.proofs.EditLaws.{live-there, live-within}
use Rattle.strength_counts.proofs.StoreEdits.{edit-same}
use Rattle.cell_page.specs.declared.cell.Cell.{Cell}
use Rattle.cell_page.specs.Format.{IsCell, page_of_id}
use Rattle.cell_page.specs.Stored.{pointers_from, cell_of}
use Rattle.cell_page.proofs.PointerLemmas.{length-pointers_from, get_or-pointers_from}
use Rattle.core_store.specs.declared.slots.SlotChange.{SlotChange}
use Rattle.core_store.specs.declared.three.HeldFrame.{HeldFrame}
use Rattle.core_store.specs.Frames.{is_held, Agree}
use Rattle.core_store.specs.Changes.{has_no_strong}
use Rattle.core_store.specs.Logged.{object_and_targets}
use Rattle.core_store.specs.Slots.{IsReadyToChange, HasPlace}
use Rattle.core_store.proofs.SlotReady.{first-of, second-of, each-of}
use Rattle.core_store.proofs.SlotChanges.{id-above, live-small, or-small, old-live}

-- ---- the pointer of a slot

-- its target stands in the slot
pub slot-target : {slots : ℕ} (c : Cell slots) (slot : ℕ) → (pointer_in (cell_of c) slot).target ≡ get_or c.slots slot 0
slot-target c slot =
    ⊎_elim
    (λ l. ap (λ (p : Pointer). p.target) (get_or-pointers_from c.bits 0 c.slots slot null l))
    (λ l. ap (λ (p : Pointer). p.target) (get_or_past (pointers_from c.bits 0 c.slots) slot null (subst (λ (n : ℕ). n ≤ slot) (sym (length-pointers_from c.bits 0 c.slots)) l)) ∙ sym (get_or_past c.slots slot 0 l))
    (cases_lt slot (length c.slots))

-- where the cell is the store's, its slot holds the id of the store's pointer
module _ {slots : ℕ} (c : Cell slots) (cells : List StoredCell) (id slot : ℕ) (is : cell_of c ≡ cell_at cells id) where
  pub old-of : (pointer_at cells id slot).target ≡ get_or c.slots slot 0
  old-of = ap (λ (s : StoredCell). (pointer_in s slot).target) (sym is) ∙ slot-target c slot

pub same-change : (a b : ℕ) (s t u v w x : Bool) → a ≡ b → s ≡ t → u ≡ v → w ≡ x
    → (let left : SlotChange = record { old_target = a; old_strong = s; new_bit = u; new_strong = w } in left) ≡ record { old_target = b; old_strong = t; new_bit = v; new_strong = x }
same-change a b s t u v w x target strong bit new = cc

-- ---- where the slot can change

module _ {slots : ℕ} (held : List (HeldFrame slots)) (zeros : List Bool) (id slot target : ℕ) (r : IsReadyToChange held zeros id slot target) where
  long : length zeros ≡ length r.cells
  long = ap length r.marks ∙ length-map r.cells has_no_strong

  place : (i : ℕ) → is_live r.cells i ≡ true → is_held held (page_of_id i) ≡ true → HasPlace held zeros i
  place i live page =
      let some = live-there r.cells i r.can.consistent.exact.none live in
      record {
        above = omega (arith, some);
        small = live-small slots r.ids r.cells id slot target r.can i live;
        page = page;
        mark = subst (λ (n : ℕ). i < n) (sym long) (live-within r.cells i live);
      }

  -- each of the cells has its page held, and a mark
  pub places : AllByRecursion (HasPlace held zeros) (object_and_targets r.cells id slot target)
  places = (
    place id r.can.live r.pages.0,
    each-of (HasPlace held zeros) (pointer_at r.cells id slot).target target
        (λ n. place (pointer_at r.cells id slot).target (old-live slots r.ids r.cells id slot target r.can n) (first-of (λ i. is_held held (page_of_id i) ≡ true) (pointer_at r.cells id slot).target target r.pages.1 n))
        (λ n. place target (r.can.target_live n) (second-of (λ i. is_held held (page_of_id i) ≡ true) (pointer_at r.cells id slot).target target r.pages.1 n)),
  )

  pub small-ids : (0 < id) × (id < 65536) × ((pointer_at r.cells id slot).target < 65536) × (target < 65536)
  small-ids =
      let some = id-above slots r.ids r.cells id slot target r.can in (
        omega (arith, some),
        live-small slots r.ids r.cells id slot target r.can id r.can.live,
        or-small slots r.ids r.cells id slot target r.can (pointer_at r.cells id slot).target (old-live slots r.ids r.cells id slot target r.can),
        or-small slots r.ids r.cells id slot target r.can target r.can.target_live,
      )

-- ---- the payload

-- a cell with this payload
abbrev pub paid : {slots : ℕ} → ℕ → Cell slots → Cell slots
paid value c = record c { payload = value }

-- a live cell goes on to obey the rules
pub pays-rules : {slots : ℕ} (id value : ℕ) (c : Cell slots) → IsCell id c → c.live ≡ true → IsCell c.id (paid value c)
pays-rules id value c rules live = record {
  placed = refl;
  free = λ dead. absurd cc;
  bounded = rules.bounded;
  null_bit = rules.null_bit;
}

-- put back, it is the store's cell with this payload
pub pays-edit : {slots : ℕ} (id value : ℕ) (c : Cell slots) → c.id ≡ id → (cells : List StoredCell) → cell_of c ≡ cell_at cells id → (new : List (HeldFrame slots)) → Agree (edit cells c.id (λ _. cell_of (paid value c))) new
    → Agree (edit cells id (pays value)) new
pays-edit id value c same_id cells is new agree =
    let same : edit cells c.id (λ _. cell_of (paid value c)) ≡ edit cells id (pays value)
    = ap (λ (n : ℕ). edit cells n (λ _. cell_of (paid value c))) same_id ∙ edit-same cells id (λ _. cell_of (paid value c)) (pays value) (ap (pays value) is) in
    subst (λ (cs : List StoredCell). Agree cs new) same agree
