-- Consistent cells stay consistent under each record that fits and is well laid: one citation for each event.
use Rattle.std.proofs.Common.{◌≡◌, ◌≢◌, ℕ, zero, suc, ◌<◌, List, [], ◌∷◌, ◌++◌, Option, Some, None, Bool, true, false, refl, sym, ap, ◌∙◌, subst, length, length-set, map, replicate, arith, inl, ⊎_elim}
use Rattle.std.specs.Option.{option_map_or}
use Rattle.std.proofs.lemmas.Bool.{cases_eq}
use Rattle.std.proofs.lemmas.List.Sums.{fold-append}
use Rattle.cell_model.specs.Cells.{Pointer, Cell, null, blank_cell, cell_at, pointer_at, is_live, edit, relink, gains, loses, relinked, other_strength, pays, flipped, switched, IsExact}
use Rattle.cell_model.specs.Records.{Record, Begin, Make, Store, Pay, Commit, Undo, UndoPay, AbortEnd, Weaken, Strengthen, Flip, CutDead, Free, after_record, cells_after, AllFit, AllWellLaid, Fits, IsWellLaid}
use Rattle.cell_model.specs.Strong.{HasNoStrongCycle}
use Rattle.cell_model.specs.Consistent.{AreConsistent}
use Rattle.cell_model.proofs.EditLaws.{live-there, live-within, edit-none, edit-here, edit-other, edit-keeps, length-edit}
use Rattle.cell_model.proofs.CountLaws.{relinked-live, relinked-pointers, relinked-length}
use Rattle.cell_model.proofs.KeptLaws.{exact-kept, acyclic-kept}

-- a cell that is neither of the three stays
pub untouched-cell : (cells : List Cell) (u k : ℕ) (p : Pointer) (x : ℕ) → x ≢ u → x ≢ (pointer_at cells u k).target → x ≢ p.target → cell_at (relinked cells u k p) x ≡ cell_at cells x
untouched-cell cells u k p x a b c =
    let old = pointer_at cells u k in
    let c1 = edit cells u (relink k p) in
    let c2 = edit c1 old.target (loses old.bit) in
    edit-other c2 p.target x (gains p.bit) c ∙ (edit-other c1 old.target x (loses old.bit) b ∙ edit-other cells u x (relink k p) a)

edit-zero : (cells : List Cell) (u : ℕ) (f : Cell → Cell) → cell_at (edit cells u f) 0 ≡ cell_at cells 0
edit-zero cells u f = ⊎_elim (λ e. ap (λ cs. cell_at cs 0) (edit-none cells u f (inl e))) (λ n. edit-other cells u 0 f (λ q. n (sym q))) (cases_eq u 0)

relinked-zero : (cells : List Cell) (u k : ℕ) (p : Pointer) → cell_at (relinked cells u k p) 0 ≡ cell_at cells 0
relinked-zero cells u k p =
    let old = pointer_at cells u k in
    let c1 = edit cells u (relink k p) in
    let c2 = edit c1 old.target (loses old.bit) in
    edit-zero c2 p.target (gains p.bit) ∙ (edit-zero c1 old.target (loses old.bit) ∙ edit-zero cells u (relink k p))

switched-length : (u : ℕ) (ps : List Pointer) → length (map (switched u) ps) ≡ length ps
switched-length u [] = refl
switched-length u (p ∷ ps) = let ih = switched-length u ps in omega (arith, ih)

pub blank-length : (n : ℕ) → length (replicate n null) ≡ n
blank-length zero = refl
blank-length (suc n) = let ih = blank-length n in omega (arith, ih)

module _ (slots ids : ℕ) (cells : List Cell) (k : AreConsistent slots ids cells) where
  dead-apart : (u x : ℕ) → is_live cells u ≡ true → is_live cells x ≡ false → x ≢ u
  dead-apart u x l d q = let no : true ≡ false = sym l ∙ subst (λ y. is_live cells y ≡ false) q d in cc

  -- the change of one slot
  relinked-consistent : (u j : ℕ) (p : Pointer) → is_live cells u ≡ true → (p.target ≢ 0 → is_live cells p.target ≡ true) → IsExact (relinked cells u j p) → HasNoStrongCycle (relinked cells u j p) → AreConsistent slots ids (relinked cells u j p)
  relinked-consistent u j p l lp e a =
      let old = pointer_at cells u j in
      let apart_or : (v x : ℕ) → (v ≢ 0 → is_live cells v ≡ true) → is_live cells x ≡ false → x ≢ 0 → x ≢ v = λ v x f d n q. dead-apart v x (f (λ z. n (q ∙ z))) d q in
      record {
        exact = e;
        empty = λ x w d.
            (let d0 : is_live cells x ≡ false = sym (relinked-live cells u j p x) ∙ d in
            let w0 : x < length cells = subst (λ m. x < m) (relinked-length cells u j p) w in
            ⊎_elim
            (λ (z : x ≡ 0). subst (λ y. cell_at (relinked cells u j p) y ≡ blank_cell false slots) (sym z) (relinked-zero cells u j p ∙ k.empty 0 (subst (λ y. y < length cells) z w0) k.exact.none))
            (λ n. untouched-cell cells u j p x (dead-apart u x l d0) (apart_or old.target x (λ m. k.exact.closed u j l m) d0 n) (apart_or p.target x lp d0 n) ∙ k.empty x w0 d0)
            (cases_eq x 0));
        sized = relinked-length cells u j p ∙ k.sized;
        slotted = λ x lx. ap length (relinked-pointers cells u j p x) ∙ (edit-keeps (λ c. length c.pointers) cells u x (relink j p) (λ c. length-set c.pointers j p) ∙ k.slotted x (sym (relinked-live cells u j p x) ∙ lx));
        acyclic = a;
      }

  -- a change of a live cell that leaves it live, with as many slots
  edited-consistent : (u : ℕ) (f : Cell → Cell) → is_live cells u ≡ true → ((c : Cell) → (f c).live ≡ c.live) → ((c : Cell) → length (f c).pointers ≡ length c.pointers) → IsExact (edit cells u f) → HasNoStrongCycle (edit cells u f) → AreConsistent slots ids (edit cells u f)
  edited-consistent u f l live_same length_same e a =
      let live : (x : ℕ) → is_live (edit cells u f) x ≡ is_live cells x = λ x. edit-keeps (λ c. c.live) cells u x f live_same in
      record {
        exact = e;
        empty = λ x w d. (let d0 : is_live cells x ≡ false = sym (live x) ∙ d in edit-other cells u x f (dead-apart u x l d0) ∙ k.empty x (subst (λ m. x < m) (length-edit cells u f) w) d0);
        sized = length-edit cells u f ∙ k.sized;
        slotted = λ x lx. edit-keeps (λ c. length c.pointers) cells u x f length_same ∙ k.slotted x (sym (live x) ∙ lx);
        acyclic = a;
      }

  -- a cell becomes blank
  blank-consistent : (u : ℕ) (live : Bool) → u ≢ 0 → u < length cells → IsExact (edit cells u (λ _. blank_cell live slots)) → HasNoStrongCycle (edit cells u (λ _. blank_cell live slots)) → AreConsistent slots ids (edit cells u (λ _. blank_cell live slots))
  blank-consistent u live n w e a =
      let f : Cell → Cell = λ _. blank_cell live slots in
      let here = edit-here cells u f n w in
      record {
        exact = e;
        empty = λ x v d. ⊎_elim
            (λ q. subst (λ y. cell_at (edit cells u f) y ≡ blank_cell false slots) (sym q) (here ∙ ap (λ b. blank_cell b slots) (ap (λ (c : Cell). c.live) (sym here) ∙ subst (λ y. is_live (edit cells u f) y ≡ false) q d)))
            (λ m. edit-other cells u x f m ∙ k.empty x (subst (λ m. x < m) (length-edit cells u f) v) (ap (λ (c : Cell). c.live) (sym (edit-other cells u x f m)) ∙ d))
            (cases_eq x u);
        sized = length-edit cells u f ∙ k.sized;
        slotted = λ x lx. ⊎_elim
            (λ q. ap (λ y. length (cell_at (edit cells u f) y).pointers) q ∙ (ap (λ (c : Cell). length c.pointers) here ∙ blank-length slots))
            (λ m. ap (λ (c : Cell). length c.pointers) (edit-other cells u x f m) ∙ k.slotted x (ap (λ (c : Cell). c.live) (sym (edit-other cells u x f m)) ∙ lx))
            (cases_eq x u);
        acyclic = a;
      }

-- consistent cells stay so under each record
pub consistent-kept : (slots ids : ℕ) (cells : List Cell) (r : Record) → Fits cells r → IsWellLaid cells r → AreConsistent slots ids cells → AreConsistent slots ids (after_record slots cells r)
consistent-kept slots ids cells r f w k = by r f (exact-kept slots cells r f k.exact) (acyclic-kept slots cells r f w k.exact k.acyclic)
  where
    by : (r : Record) → Fits cells r → IsExact (after_record slots cells r) → HasNoStrongCycle (after_record slots cells r) → AreConsistent slots ids (after_record slots cells r)
    by (Begin pass) f e a = k
    by (Make pass id) f e a = blank-consistent slots ids cells k id true f.0 f.1 e a
    by (Store pass id slot old_target old_strong new_target new_bit new_strong) f e a = relinked-consistent slots ids cells k id slot (record { target = new_target; bit = new_bit }) f.0.live f.1.live e a
    by (Pay pass id old_value new_value) f e a = edited-consistent slots ids cells k id (pays new_value) f.0 (λ c. refl) (λ c. refl) e a
    by (Commit pass) f e a = k
    by (Undo pass id slot old from_strong to to_bit) f e a = relinked-consistent slots ids cells k id slot (record { target = to; bit = to_bit }) f.0.live f.1.live e a
    by (UndoPay pass id old to) f e a = edited-consistent slots ids cells k id (pays to) f.0 (λ c. refl) (λ c. refl) e a
    by (AbortEnd pass) f e a = k
    by (Weaken id slot target) f e a = relinked-consistent slots ids cells k id slot (other_strength (pointer_at cells id slot)) f.0.live (λ n. k.exact.closed id slot f.0.live n) e a
    by (Strengthen id slot target) f e a = relinked-consistent slots ids cells k id slot (other_strength (pointer_at cells id slot)) f.0.live (λ n. k.exact.closed id slot f.0.live n) e a
    by (Flip id) f e a = edited-consistent slots ids cells k id (flipped id) f.0 (λ c. refl) (λ c. switched-length id c.pointers) e a
    by (CutDead id slot target was_strong) f e a = relinked-consistent slots ids cells k id slot null f.0.live (λ n. absurd (n refl)) e a
    by (Free id) f e a = blank-consistent slots ids cells k id false (live-there cells id k.exact.none f.0) (live-within cells id f.0) e a

-- and so under all records of a journal
pub consistent-after : (slots ids : ℕ) (cells : List Cell) (records : List (Option Record)) → AllFit slots cells records → AllWellLaid slots cells records → AreConsistent slots ids cells → AreConsistent slots ids (cells_after slots cells records)
consistent-after slots ids cells [] f w k = k
consistent-after slots ids cells (Some r ∷ rs) f w k = consistent-after slots ids (after_record slots cells r) rs f.1 w.1 (consistent-kept slots ids cells r f.0 w.0 k)
consistent-after slots ids cells (None ∷ rs) f w k = consistent-after slots ids cells rs f w k

pub one_more : (slots : ℕ) (cells : List Cell) (records : List (Option Record)) (r : Record) → cells_after slots cells (records ++ Some r ∷ []) ≡ after_record slots (cells_after slots cells records) r
one_more slots cells records r = fold-append (λ (cs : List Cell) (r : Option Record). option_map_or (after_record slots cs) r cs) cells records (Some r ∷ [])
