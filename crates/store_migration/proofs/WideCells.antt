-- Cells with null slots after their own.
use Rattle.std.proofs.Common.{◌≡◌, ◌≢◌, ⊎_elim, ℕ, zero, suc, ◌+◌, ◌*◌, ◌<◌, ◌≤◌, Bool, true, false, cond, List, [], ◌∷◌, ◌++◌, length, get_or, replicate, refl, sym, ap, ◌∙◌, arith, length-append}
use Rattle.std.specs.Prelude.{not, ◌&&◌, count_by, sum_by}
use Rattle.std.proofs.lemmas.Bool.{cases_lt, ne_eqb}
use Rattle.std.proofs.lemmas.List.{length-map, get_or-map, get_or_past, length-replicate, replicate-append-replicate}
use Rattle.std.proofs.lemmas.List.Sums.{sum_by-append, sum_by-cons}
use Rattle.std.proofs.lemmas.List.Folds.{sum_by-replicate}
use Rattle.cell_model.specs.Cells.{Pointer, Cell, null, blank_cell, cell_at, pointer_in, pointer_at, is_live, is_strong, same, aims, hits, aims_in, pointers_to, own_strong, IsExactAt, IsExact}
use Rattle.cell_model.specs.Strong.{IsStrongAt}
use Rattle.cell_model.proofs.EditLaws.{live-within, live-there}
use Rattle.cell_model.proofs.StrongLaws.{acyclic-fewer}
use Rattle.store_migration.specs.Wider.{wider, all_wider}
use Rattle.store_migration.specs.WiderLaws.{ConsistentLaw}

-- among null values every place has one, and so has a place past them
null_slot : {X : Type 0} (n i : ℕ) (x : X) → get_or (replicate n x) i x ≡ x
null_slot zero i x = refl
null_slot (suc n) zero x = refl
null_slot (suc n) (suc i) x = null_slot n i x

-- after a list that has no such place, null values tell nothing new
pub behind_null : {X : Type 0} (xs : List X) (n i : ℕ) (x : X) → get_or (xs ++ replicate n x) i x ≡ get_or xs i x
behind_null [] n i x = null_slot n i x
behind_null (y ∷ ys) n zero x = refl
behind_null (y ∷ ys) n (suc i) x = behind_null ys n i x

-- the pointers of a cell are the same
pub wider-pointer : (more : ℕ) (c : Cell) (slot : ℕ) → pointer_in (wider more c) slot ≡ pointer_in c slot
wider-pointer more c slot = behind_null c.pointers more slot null

module _ (more : ℕ) (cells : List Cell) where
  -- the cell of an id that is there
  pub wider-cell : (id : ℕ) → id < length cells → cell_at (all_wider more cells) id ≡ wider more (cell_at cells id)
  wider-cell id within = get_or-map (wider more) cells id (blank_cell false 0) (blank_cell false 0) within

  -- one that isn't
  wider-none : (id : ℕ) → length cells ≤ id → cell_at (all_wider more cells) id ≡ cell_at cells id
  wider-none id past = get_or_past (all_wider more cells) id (blank_cell false 0) (omega (arith, length-map cells (wider more))) ∙ sym (get_or_past cells id (blank_cell false 0) past)

  -- what null slots leave of a cell
  keeps : {X : Type 0} (f : Cell → X) → ((c : Cell) → f (wider more c) ≡ f c) → (id : ℕ) → f (cell_at (all_wider more cells) id) ≡ f (cell_at cells id)
  keeps f same id =
      ⊎_elim (λ within. ap f (wider-cell id within) ∙ same (cell_at cells id)) (λ past. ap f (wider-none id past)) (cases_lt id (length cells))

  pub wider-live : (id : ℕ) → is_live (all_wider more cells) id ≡ is_live cells id
  wider-live id = keeps (λ c. c.live) (λ c. refl) id

  wider-bit : (id : ℕ) → (cell_at (all_wider more cells) id).bit ≡ (cell_at cells id).bit
  wider-bit id = keeps (λ c. c.bit) (λ c. refl) id

  wider-strong_count : (id : ℕ) → (cell_at (all_wider more cells) id).strong ≡ (cell_at cells id).strong
  wider-strong_count id = keeps (λ c. c.strong) (λ c. refl) id

  wider-weak_count : (id : ℕ) → (cell_at (all_wider more cells) id).weak ≡ (cell_at cells id).weak
  wider-weak_count id = keeps (λ c. c.weak) (λ c. refl) id

  pub wider-pointer_at : (id slot : ℕ) → pointer_at (all_wider more cells) id slot ≡ pointer_at cells id slot
  wider-pointer_at id slot = keeps (λ c. pointer_in c slot) (λ c. wider-pointer more c slot) id

-- ---- counts

-- null pointers don't count
null_hits : (id : ℕ) (bit : Bool) → id ≢ 0 → hits id bit null ≡ 0
null_hits id bit apart = ap (λ (b : Bool). cond (b && same false bit) 1 0) (ne_eqb 0 id (λ e. apart (sym e)))

count-behind : (ps : List Pointer) (n id : ℕ) (bit : Bool) → id ≢ 0 → count_by (aims id bit) (ps ++ replicate n null) ≡ count_by (aims id bit) ps
count-behind ps n id bit apart =
    let none : sum_by (hits id bit) (replicate n null) ≡ 0 = sum_by-replicate (hits id bit) n null ∙ ap (λ (k : ℕ). n * k) (null_hits id bit apart) ∙ omega arith in
    sum_by-append (hits id bit) ps (replicate n null) ∙ omega (arith, none)

wider-aims : (more : ℕ) (c : Cell) (id : ℕ) (bit : Bool) → id ≢ 0 → aims_in id bit (wider more c) ≡ aims_in id bit c
wider-aims more c id bit apart = ap (λ (n : ℕ). cond c.live n 0) (count-behind c.pointers more id bit apart)

wider-pointers_to : (more : ℕ) (cells : List Cell) (id : ℕ) (bit : Bool) → id ≢ 0 → pointers_to (all_wider more cells) id bit ≡ pointers_to cells id bit
wider-pointers_to more [] id bit apart = refl
wider-pointers_to more (c ∷ cs) id bit apart =
    let here = wider-aims more c id bit apart in
    let rest = wider-pointers_to more cs id bit apart in
    let first = sum_by-cons (aims_in id bit) (wider more c) (all_wider more cs) in
    let second = sum_by-cons (aims_in id bit) c cs in
    omega (arith, here, rest, first, second)

-- ---- a store

module _ (more : ℕ) (cells : List Cell) where
  wider-strong : (id slot to : ℕ) → IsStrongAt (all_wider more cells) id slot to → IsStrongAt cells id slot to
  wider-strong id slot to at =
      record {
        live = sym (wider-live more cells id) ∙ at.live;
        target = ap (λ (p : Pointer). p.target) (sym (wider-pointer_at more cells id slot)) ∙ at.target;
        not_null = at.not_null;
        strong =
            ap (λ (p : Pointer). is_strong cells p) (sym (wider-pointer_at more cells id slot))
            ∙ ap (λ (b : Bool). same b (pointer_at (all_wider more cells) id slot).bit) (sym (wider-bit more cells (pointer_at (all_wider more cells) id slot).target))
            ∙ at.strong;
      }

  wider-exact_at : (id : ℕ) → id ≢ 0 → IsExactAt cells id → IsExactAt (all_wider more cells) id
  wider-exact_at id apart at =
      record {
        strong = wider-strong_count more cells id ∙ at.strong
            ∙ ap (λ (n : ℕ). n + own_strong id) (sym (wider-pointers_to more cells id (cell_at cells id).bit apart))
            ∙ ap (λ (b : Bool). pointers_to (all_wider more cells) id b + own_strong id) (sym (wider-bit more cells id));
        weak = wider-weak_count more cells id ∙ at.weak
            ∙ sym (wider-pointers_to more cells id (not (cell_at cells id).bit) apart)
            ∙ ap (λ (b : Bool). pointers_to (all_wider more cells) id (not b)) (sym (wider-bit more cells id));
      }

  wider-exact : IsExact cells → IsExact (all_wider more cells)
  wider-exact exact =
      record {
        none = wider-live more cells 0 ∙ exact.none;
        root_live = wider-live more cells 1 ∙ exact.root_live;
        counts = λ id live.
            let was : is_live cells id ≡ true = sym (wider-live more cells id) ∙ live in
            wider-exact_at id (live-there cells id exact.none was) (exact.counts id was);
        closed = λ id slot live not_null.
            let at = ap (λ (p : Pointer). p.target) (wider-pointer_at more cells id slot) in
            let was : is_live cells id ≡ true = sym (wider-live more cells id) ∙ live in
            wider-live more cells (pointer_at (all_wider more cells) id slot).target
            ∙ ap (λ (target : ℕ). is_live cells target) at
            ∙ exact.closed id slot was (λ e. not_null (at ∙ e));
      }

blank-wider : (slots more : ℕ) → wider more (blank_cell false slots) ≡ blank_cell false (slots + more)
blank-wider slots more =
    ap (λ (ps : List Pointer). record { live = false; bit = false; strong = 0; weak = 0; payload = 0; pointers = ps }) (replicate-append-replicate slots more null)

pub consistent-wider : ConsistentLaw
consistent-wider slots ids more cells are =
    record {
      exact = wider-exact more cells are.exact;
      empty = λ id within free.
          let there : id < length cells = omega (arith, within, length-map cells (wider more)) in
          wider-cell more cells id there ∙ ap (wider more) (are.empty id there (sym (wider-live more cells id) ∙ free)) ∙ blank-wider slots more;
      sized = length-map cells (wider more) ∙ are.sized;
      slotted = λ id live.
          let was : is_live cells id ≡ true = sym (wider-live more cells id) ∙ live in
          ap (λ (c : Cell). length c.pointers) (wider-cell more cells id (live-within cells id was))
          ∙ length-append (cell_at cells id).pointers (replicate more null)
          ∙ ap (λ (n : ℕ). n + length (replicate more null)) (are.slotted id was)
          ∙ ap (λ (n : ℕ). slots + n) (length-replicate more null);
      acyclic = acyclic-fewer cells (all_wider more cells) (wider-strong more cells) are.acyclic;
    }
