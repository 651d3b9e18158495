-- What the parts of a slot's change are to the cells of a store.
use Rattle.std.proofs.Common.{◌≡◌, ◌≢◌, ℕ, ◌+◌, ◌^◌, ◌<◌, List, Bool, true, false, not, cond, length, refl, sym, ap, ◌∙◌, subst, inl, arith, ⊎_elim, eq-eqb}
use Rattle.std.specs.Prelude.{◌==◌, ◌&&◌}
use Rattle.std.proofs.lemmas.Bool.{cases_eq}
use Rattle.cell_model.specs.Cells.{Pointer, Cell, null, cell_at, pointer_at, is_live, same, edit, relink, gains, loses, counted, other_strength, relinked}
use Rattle.cell_model.proofs.EditLaws.{edit-none, edit-keeps, edit-other, live-within, loses-shape, counted-loses}
use Rattle.cell_model.proofs.RecordLaws.{target-counts}
use Rattle.cell_page.specs.Format.{IsSlotCount, page_of_id}
use Rattle.strength_counts.specs.Changes.{takes_strong}
use Rattle.strength_counts.proofs.StoreEdits.{edit-same, edit-edit, edit-apart, relink-loses}
use Rattle.core_store.specs.declared.three.HeldFrame.{HeldFrame}
use Rattle.core_store.specs.Frames.{pages_held, is_held, Agree}
use Rattle.core_store.specs.Changes.{is_laid_strong, bit_for}
use Rattle.core_store.specs.Slots.{IsChanged, IsReadyToChange, IsReadyToEdit, IsReadyToLose, IsReadyToGain, HasPlace, turned}
use Rattle.core_store.proofs.PageLaws.{is_held-pages, elsewhere-edit}
use Rattle.core_store.proofs.SlotBounds.{room-weak, room-strong}
use Rattle.core_store.proofs.SlotLaws.{edit-marks_same}
use Rattle.core_store.proofs.SlotReady.{first-of, second-of}
use Rattle.core_store.proofs.SlotChanges.{old-live}
use Rattle.core_store.proofs.SlotStart.{places}
use Rattle.core_store.proofs.SlotPages.{changed-trans, place-moved}

-- ---- one cell

-- a cell put in the place of the id's is that cell changed so
put-edit : (cells : List Cell) (id : ℕ) (f : Cell → Cell) (n : ℕ) (x : Cell) → n ≡ id → x ≡ f (cell_at cells id) → edit cells n (λ _. x) ≡ edit cells id f
put-edit cells id f n x same_id is = ap (λ (k : ℕ). edit cells k (λ _. x)) same_id ∙ edit-same cells id (λ _. x) f is

pub changed-put : {slots : ℕ} (cells : List Cell) (held new : List (HeldFrame slots)) (zeros marks : List Bool) (id : ℕ) (f : Cell → Cell) (n : ℕ) (x : Cell) → n ≡ id → x ≡ f (cell_at cells id)
    → IsChanged cells (edit cells n (λ _. x)) held new zeros marks → IsChanged cells (edit cells id f) held new zeros marks
changed-put cells held new zeros marks id f n x same_id is changed = subst (λ (cs : List Cell). IsChanged cells cs held new zeros marks) (put-edit cells id f n x same_id is) changed

-- a pointer laid in a slot changes no mark
pub changed-relink : {slots : ℕ} (cells : List Cell) (held new : List (HeldFrame slots)) (zeros : List Bool) (id slot : ℕ) (p : Pointer) → is_held held (page_of_id id) ≡ true → Agree (edit cells id (relink slot p)) new
    → IsChanged cells (edit cells id (relink slot p)) held new zeros zeros
changed-relink cells held new zeros id slot p page agree = record {
  agree = agree;
  elsewhere = elsewhere-edit cells held id (relink slot p) page;
  marks_are = λ e. e ∙ sym (edit-marks_same cells id (relink slot p) refl);
}

-- an object that loses a pointer stays one
pub loses-live : (bit : Bool) (c : Cell) → (loses bit c).live ≡ c.live
loses-live bit c = ap (λ s. s.0) (loses-shape bit c)

-- ---- a slot that can change

-- a pointer is its target and its bit
pub same-pointer : (p : Pointer) (target : ℕ) (bit : Bool) → p.target ≡ target → bit ≡ p.bit → p ≡ record { target = target; bit = bit }
same-pointer p target bit t b = ap (λ (x : ℕ). let q : Pointer = record { target = x; bit = p.bit } in q) t ∙ ap (λ (x : Bool). let q : Pointer = record { target = target; bit = x } in q) (sym b)

module _ {slots : ℕ} (held : List (HeldFrame slots)) (zeros : List Bool) (id slot target : ℕ) (r : IsReadyToChange held zeros id slot target) where
  pub object-place : HasPlace held zeros id
  object-place = (places held zeros id slot target r).0

  pub object-ready : IsReadyToEdit held id
  object-ready = record { cells = r.cells; agree = r.agree; above = object-place.above; small = object-place.small; live = r.can.live; page = object-place.page }

  -- any count has room for one more
  room : IsSlotCount slots → (b : ℕ) → is_live r.cells b ≡ true → (bit : Bool) → counted bit (cell_at r.cells b) + 1 < 2 ^ 32
  room count b live bit =
      let c = cell_at r.cells b in
      elim (same c.bit bit) as (λ t. cond t c.strong c.weak + 1 < 2 ^ 32) [
        | true ↦ room-strong slots r.ids r.cells count r.can.consistent r.can.few b live
        | false ↦ room-weak slots r.ids r.cells count r.can.consistent r.can.few b live
      ]

  module _ (p : Pointer) (new : List (HeldFrame slots)) (agree : Agree (edit r.cells id (relink slot p)) new) (pages : pages_held new ≡ pages_held held) where
    live-still : (b : ℕ) → is_live r.cells b ≡ true → is_live (edit r.cells id (relink slot p)) b ≡ true
    live-still b live = edit-keeps (λ c. c.live) r.cells id b (relink slot p) (λ c. refl) ∙ live

    counted-still : (bit : Bool) (b : ℕ) → counted bit (cell_at (edit r.cells id (relink slot p)) b) ≡ counted bit (cell_at r.cells b)
    counted-still bit b = edit-keeps (λ c. counted bit c) r.cells id b (relink slot p) (λ c. refl)

    -- what the slot held can lose its pointer
    pub old-loses : (pointer_at r.cells id slot).target ≢ 0 → IsReadyToLose new zeros (pointer_at r.cells id slot).target (pointer_at r.cells id slot).bit
    old-loses some =
        let old = pointer_at r.cells id slot in
        let counts = target-counts r.cells r.can.consistent.exact id slot r.can.live some in
        let is = counted-still old.bit old.target in
        let place = first-of (HasPlace held zeros) old.target target (places held zeros id slot target r).1 some in
        record {
          cells = edit r.cells id (relink slot p);
          agree = agree;
          live = live-still old.target (old-live slots r.ids r.cells id slot target r.can some);
          place = place-moved held new zeros zeros old.target place pages refl;
          some = omega (arith, counts, is);
        }

    -- and can gain another
    pub old-gains : IsSlotCount slots → (pointer_at r.cells id slot).target ≢ 0 → (bit : Bool) → IsReadyToGain new zeros (pointer_at r.cells id slot).target bit
    old-gains count some bit =
        let old = pointer_at r.cells id slot in
        let live = old-live slots r.ids r.cells id slot target r.can some in
        let place = first-of (HasPlace held zeros) old.target target (places held zeros id slot target r).1 some in
        record {
          cells = edit r.cells id (relink slot p);
          agree = agree;
          live = live-still old.target live;
          place = place-moved held new zeros zeros old.target place pages refl;
          room = subst (λ (n : ℕ). n + 1 < 2 ^ 32) (sym (counted-still bit old.target)) (room count old.target live bit);
        }

  -- ---- after what the slot held was let go

  -- what the slot holds can lose its pointer
  pub from-loses : (pointer_at r.cells id slot).target ≢ 0 → IsReadyToLose held zeros (pointer_at r.cells id slot).target (pointer_at r.cells id slot).bit
  from-loses some =
      let old = pointer_at r.cells id slot in
      let counts = target-counts r.cells r.can.consistent.exact id slot r.can.live some in
      record {
        cells = r.cells;
        agree = r.agree;
        live = old-live slots r.ids r.cells id slot target r.can some;
        place = first-of (HasPlace held zeros) old.target target (places held zeros id slot target r).1 some;
        some = omega (arith, counts);
      }

  module _ (q : Pointer) (new : List (HeldFrame slots)) (marks : List Bool) (changed : IsChanged r.cells (edit r.cells q.target (loses q.bit)) held new zeros marks) (pages : pages_held new ≡ pages_held held) (long : length marks ≡ length zeros) where
    live-then : (b : ℕ) → is_live r.cells b ≡ true → is_live (edit r.cells q.target (loses q.bit)) b ≡ true
    live-then b live = edit-keeps (λ c. c.live) r.cells q.target b (loses q.bit) (loses-live q.bit) ∙ live

    edits-then : (b : ℕ) → HasPlace held zeros b → is_live r.cells b ≡ true → IsReadyToEdit new b
    edits-then b place live = record {
      cells = edit r.cells q.target (loses q.bit);
      agree = changed.agree;
      above = place.above;
      small = place.small;
      live = live-then b live;
      page = is_held-pages new held (page_of_id b) pages ∙ place.page;
    }

    pub object-then : IsReadyToEdit new id
    object-then = edits-then id object-place r.can.live

    target-place : target ≢ 0 → HasPlace held zeros target
    target-place some = second-of (HasPlace held zeros) (pointer_at r.cells id slot).target target (places held zeros id slot target r).1 some

    pub target-then : target ≢ 0 → IsReadyToEdit new target
    target-then some = edits-then target (target-place some) (r.can.target_live some)

    -- what it is to hold can gain one
    pub target-gains : IsSlotCount slots → target ≢ 0 → (bit : Bool) → IsReadyToGain new marks target bit
    target-gains count some bit =
        let live = r.can.target_live some in
        let enough = room count target live bit in
        let less = counted-loses r.cells q target bit some (live-within r.cells target live) in
        record {
          cells = edit r.cells q.target (loses q.bit);
          agree = changed.agree;
          live = live-then target live;
          place = place-moved held new zeros marks target (target-place some) pages long;
          room = omega (arith, enough, less);
        }

-- an object that can gain a pointer still can where a pointer was laid in a slot
pub gains-still : {slots : ℕ} (held new : List (HeldFrame slots)) (zeros : List Bool) (target : ℕ) (bit : Bool) (id slot : ℕ) (p : Pointer) → (g : IsReadyToGain held zeros target bit) → Agree (edit g.cells id (relink slot p)) new
    → pages_held new ≡ pages_held held → IsReadyToGain new zeros target bit
gains-still held new zeros target bit id slot p g agree pages = record {
  cells = edit g.cells id (relink slot p);
  agree = agree;
  live = edit-keeps (λ c. c.live) g.cells id target (relink slot p) (λ c. refl) ∙ g.live;
  place = place-moved held new zeros zeros target g.place pages refl;
  room = subst (λ (n : ℕ). n + 1 < 2 ^ 32) (sym (edit-keeps (λ c. counted bit c) g.cells id target (relink slot p) (λ c. refl))) g.room;
}

-- ---- whole changes

module _ {slots : ℕ} (cells : List Cell) (id slot : ℕ) (q : Pointer) (is : pointer_at cells id slot ≡ q) (held between new : List (HeldFrame slots)) (zeros marks : List Bool) (pages : pages_held between ≡ pages_held held) where
  -- a pointer gets its other strength
  pub switch-changed : IsChanged cells (edit cells id (relink slot (other_strength q))) held between zeros zeros
      → IsChanged (edit cells id (relink slot (other_strength q))) (edit (edit cells id (relink slot (other_strength q))) q.target (turned q.bit)) between new zeros marks
      → IsChanged cells (relinked cells id slot (other_strength (pointer_at cells id slot))) held new zeros marks
  switch-changed first second =
      let one = edit cells id (relink slot (other_strength q)) in
      let whole : relinked cells id slot (other_strength (pointer_at cells id slot)) ≡ edit one q.target (turned q.bit)
      = ap (λ (p : Pointer). edit (edit (edit cells id (relink slot (other_strength p))) p.target (loses p.bit)) p.target (gains (not p.bit))) is ∙ edit-edit one q.target (loses q.bit) (gains (not q.bit)) in
      subst (λ (cs : List Cell). IsChanged cells cs held new zeros marks) (sym whole) (changed-trans cells one (edit one q.target (turned q.bit)) held between new zeros zeros marks first second pages)

-- a pointer that is laid is counted
pub lay-changed : {slots : ℕ} (cells : List Cell) (id slot : ℕ) (p : Pointer) (held between new : List (HeldFrame slots)) (zeros marks : List Bool) → pages_held between ≡ pages_held held
    → IsChanged cells (edit cells id (relink slot p)) held between zeros zeros → IsChanged (edit cells id (relink slot p)) (edit (edit cells id (relink slot p)) p.target (gains p.bit)) between new zeros marks
    → IsChanged cells (edit (edit cells id (relink slot p)) p.target (gains p.bit)) held new zeros marks
lay-changed cells id slot p held between new zeros marks pages first second =
    changed-trans cells (edit cells id (relink slot p)) (edit (edit cells id (relink slot p)) p.target (gains p.bit)) held between new zeros zeros marks first second pages

-- whether what a slot held is counted no more before or after another pointer is laid in it
loses-relinked : (cells : List Cell) (id slot t : ℕ) (p : Pointer) (bit : Bool) → edit (edit cells t (loses bit)) id (relink slot p) ≡ edit (edit cells id (relink slot p)) t (loses bit)
loses-relinked cells id slot t p bit =
    ⊎_elim
    (λ (e : t ≡ id). subst (λ (v : ℕ). edit (edit cells v (loses bit)) id (relink slot p) ≡ edit (edit cells id (relink slot p)) v (loses bit)) (sym e)
    (edit-edit cells id (loses bit) (relink slot p) ∙ edit-same cells id (λ c. relink slot p (loses bit c)) (λ c. loses bit (relink slot p c)) (relink-loses slot p bit (cell_at cells id)) ∙ sym (edit-edit cells id (relink slot p) (loses bit))))
    (λ n. edit-apart cells t id (loses bit) (relink slot p) n)
    (cases_eq t id)

module _ (cells : List Cell) (id slot : ℕ) (q : Pointer) (is : pointer_at cells id slot ≡ q) where
  relinked-gone : (p : Pointer) → relinked cells id slot p ≡ edit (edit (edit cells q.target (loses q.bit)) id (relink slot p)) p.target (gains p.bit)
  relinked-gone p =
      ap (λ (o : Pointer). edit (edit (edit cells id (relink slot p)) o.target (loses o.bit)) p.target (gains p.bit)) is
      ∙ ap (λ (cs : List Cell). edit cs p.target (gains p.bit)) (sym (loses-relinked cells id slot q.target p q.bit))

  -- the slot holds the new pointer
  pub filled-changed : {slots : ℕ} (p : Pointer) (target : ℕ) (held between new : List (HeldFrame slots)) (zeros some marks : List Bool) → p.target ≡ target → IsChanged cells (edit cells q.target (loses q.bit)) held between zeros some
      → IsChanged (edit cells q.target (loses q.bit)) (edit (edit (edit cells q.target (loses q.bit)) id (relink slot p)) p.target (gains p.bit)) between new some marks → pages_held between ≡ pages_held held
      → IsChanged cells (relinked cells id slot (record { target = target; bit = p.bit })) held new zeros marks
  filled-changed {slots} p target held between new zeros some marks same_target first second pages =
      let one = edit cells q.target (loses q.bit) in
      let two = edit (edit one id (relink slot p)) p.target (gains p.bit) in
      let whole : relinked cells id slot (record { target = target; bit = p.bit }) ≡ two
      = ap (λ (t : ℕ). relinked cells id slot (record { target = t; bit = p.bit })) (sym same_target) ∙ relinked-gone p in
      subst (λ (cs : List Cell). IsChanged cells cs held new zeros marks) (sym whole) (changed-trans cells one two held between new zeros some marks first second pages)

  -- the bit of a strength is that before
  pub gone-bit : (target : ℕ) (strong : Bool) → bit_for (edit cells q.target (loses q.bit)) target strong ≡ bit_for cells target strong
  gone-bit target strong = ap (λ (b : Bool). cond (target == 0) false (same b strong)) (edit-keeps (λ c. c.bit) cells q.target target (loses q.bit) (λ c. ap (λ s. s.1) (loses-shape q.bit c)))

  -- and a new pointer is strong where it is so after the slot that was made null
  pub gone-strong : (target : ℕ) → is_laid_strong (edit cells q.target (loses q.bit)) id target ≡ is_laid_strong (relinked cells id slot null) id target
  gone-strong target =
      let one = edit cells q.target (loses q.bit) in
      let cut : relinked cells id slot null ≡ edit one id (relink slot null) = relinked-gone null ∙ edit-none (edit one id (relink slot null)) 0 (gains false) (inl refl) in
      ⊎_elim
      (λ (e : id ≡ target).
      let own = eq-eqb id target e in
      let is_none : (cs : List Cell) → is_laid_strong cs id target ≡ (not (target == 0) && false) = λ cs. ap (λ (b : Bool). not (target == 0) && (not b && takes_strong (cell_at cs target))) own in
      is_none one ∙ sym (is_none (relinked cells id slot null)))
      (λ n.
      let same_cell : cell_at one target ≡ cell_at (relinked cells id slot null) target
      = sym (ap (λ (cs : List Cell). cell_at cs target) cut ∙ edit-other one id target (relink slot null) (λ e. n (sym e))) in
      ap (λ (c : Cell). not (target == 0) && (not (id == target) && takes_strong c)) same_cell)
      (cases_eq id target)
