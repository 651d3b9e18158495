-- A tally tells of one record more.
use Rattle.std.proofs.Common.{◌≡◌, ℕ, ◌+◌, ◌<◌, ◌≤◌, List, [], ◌∷◌, ◌++◌, length, Result, Ok, Err, refl, sym, ap, subst, ◌∙◌, ◌⊎◌, inl, inr, arith}
use Rattle.std.specs.Prelude.{count_by, slice_index_or, OnOk}
use Rattle.std.specs.List.{AllByRecursion}
use Rattle.std.proofs.lemmas.List.{append-nil, length-replicate}
use Rattle.cell_page.specs.declared.cell.Cell.{Cell as PageCell}
use Rattle.plain_model.specs.declared.object.Object.{Object}
use Rattle.plain_model.specs.declared.write.Write.{Write}
use Rattle.plain_model.specs.Graphs.{applied}
use Rattle.cell_model.specs.Cells.{Cell}
use Rattle.cell_model.specs.Graph.{graph_of}
use Rattle.cell_page.specs.Format.{IsSlotCount}
use Rattle.log_record.specs.declared.cell_record.CellRecord.{CellRecord}
use Rattle.log_record.specs.declared.cell_record.CellRecord.TheVariants.{Begin, Make, Store, Pay, Commit, Undo, AbortEnd, Weaken, Strengthen, Flip, CutDead, Free}
use Rattle.log_record.specs.declared.record.Record.{Record}
use Rattle.log_record.specs.declared.record.Record.TheVariants.{OfCells, Image, Turn}
use Rattle.log_record.specs.Spelling.{IsPass, HasCellSpelling}
use Rattle.log_checker.specs.Commits.{make_write, slot_write, payload_write, open_after, committed_by, folded, is_commit}
use Rattle.log_checker.specs.FoldedObjects.{IsInside}
use Rattle.log_checker.specs.Tallies.{Tallying, pending_of, IsTallying, Tells, noted, left, IsCommitted, IsStep}
use Rattle.log_checker.proofs.FoldLaws.{open_more, folded_more, count_more}
use Rattle.log_checker.proofs.RowLaws.{empty_rows, none_at, none_inside, row_left, row_noted}

-- ---- before the first record

pub tells_first : {slots : ℕ} (base : List Cell) (t : Tallying) → t.cells ≡ base → t.pending ≡ empty_rows 65 → t.commits ≡ 0 → Tells {slots = slots} base [] t
tells_first base t cells none zero = record {
  sized = ap length cells;
  objects = ap graph_of cells;
  open_at = λ pass is. ap (λ (l : List (List Write)). slice_index_or l pass []) none ∙ none_at 65 pass;
  counted = zero;
}

pub tallying_first : (slots : ℕ) (cells : List Cell) (t : Tallying) → IsSlotCount slots → 1 ≤ length cells → length cells ≤ 8193 → t.cells ≡ cells → t.pending ≡ empty_rows 65 → IsTallying slots t
tallying_first slots cells t count some few are none = record {
  slot_count = count;
  some = omega (arith, some, ap length are);
  few = omega (arith, few, ap length are);
  clients = ap length none ∙ (let row : List Write = [] in length-replicate 65 row);
  inside = λ pass. subst (λ (l : List (List Write)). AllByRecursion (IsInside slots (length t.cells)) (slice_index_or l pass [])) (sym none) (none_inside slots (length t.cells) 65 pass);
}

-- what a call told, where it was done
pub on_ok : {T E : Type 0} (o : Result T E) (P Q : Type 0) → (P → Q) → OnOk o P → OnOk o Q
on_ok (Ok x) P Q f p = f p
on_ok (Err e) P Q f p = tt

-- ---- a record that commits nothing

module _ {slots : ℕ} (base : List Cell) (rs : List (Record slots)) (t u : Tallying) (tells : Tells base rs t) where
  pub tells_quiet : (r : Record slots) → committed_by rs r ≡ [] → count_by is_commit (r ∷ []) ≡ 0 → u.cells ≡ t.cells → u.commits ≡ t.commits
      → ((q : ℕ) → pending_of u q ≡ open_after q (pending_of t q) r) → Tells base (rs ++ r ∷ []) u
  tells_quiet r nothing none cells commits pending = record {
    sized = ap length cells ∙ tells.sized;
    objects = ap graph_of cells ∙ tells.objects ∙ ap (λ (l : List Write). applied slots (folded (graph_of base) rs) l) (sym nothing) ∙ sym (folded_more (graph_of base) rs r);
    open_at = λ q is. pending q ∙ ap (λ (l : List Write). open_after q l r) (tells.open_at q is) ∙ sym (open_more q rs r);
    counted = omega (arith, commits, tells.counted, count_more rs r, none);
  }

  -- the client's writes so far count no more
  tells_left : (r : CellRecord) (pass : ℕ) → pass < length t.pending → u ≡ left pass t → committed_by rs (OfCells r) ≡ [] → count_by (is_commit {slots = slots}) (OfCells r ∷ []) ≡ 0
      → ((q : ℕ) → pending_of (left pass t) q ≡ open_after {slots = slots} q (pending_of t q) (OfCells r)) → Tells base (rs ++ OfCells r ∷ []) u
  tells_left r pass within is nothing none pending =
      tells_quiet (OfCells r) nothing none (ap (λ (x : Tallying). x.cells) is) (ap (λ (x : Tallying). x.commits) is) (λ q. ap (λ (x : Tallying). pending_of x q) is ∙ pending q)

  -- a record that concerns no client
  tells_same : (r : CellRecord) → u ≡ t → committed_by rs (OfCells r) ≡ [] → count_by (is_commit {slots = slots}) (OfCells r ∷ []) ≡ 0
      → ((q : ℕ) → open_after {slots = slots} q (pending_of t q) (OfCells r) ≡ pending_of t q ++ []) → Tells base (rs ++ OfCells r ∷ []) u
  tells_same r is nothing none pending =
      tells_quiet (OfCells r) nothing none (ap (λ (x : Tallying). x.cells) is) (ap (λ (x : Tallying). x.commits) is)
      (λ q. ap (λ (x : Tallying). pending_of x q) is ∙ sym (append-nil (pending_of t q)) ∙ sym (pending q))

  -- a commit
  tells_commit : (pass : ℕ) → pass < length t.pending → IsPass pass → IsCommitted slots pass t u → Tells base (rs ++ OfCells (Commit pass) ∷ []) u
  tells_commit pass within is s = record {
    sized = s.sized ∙ tells.sized;
    objects = s.objects ∙ ap (λ (g : List Object). applied slots g (pending_of t pass)) tells.objects
        ∙ ap (λ (l : List Write). applied slots (folded (graph_of base) rs) l) (tells.open_at pass is) ∙ sym (folded_more (graph_of base) rs (OfCells (Commit pass)));
    open_at = λ q client. ap (λ (l : List (List Write)). slice_index_or l q []) s.ended ∙ row_left t.pending pass q within
        ∙ ap (λ (l : List Write). open_after {slots = slots} q l (OfCells (Commit pass))) (tells.open_at q client) ∙ sym (open_more q rs (OfCells (Commit pass)));
    counted = s.counted ∙ ap (λ (n : ℕ). n + 1) tells.counted ∙ sym (count_more rs (OfCells (Commit pass)));
  }

  -- the number of a client has a row
  row_there : IsTallying slots t → (pass : ℕ) → IsPass pass → pass < length t.pending
  row_there i pass is = omega (arith, i.clients, is.1)

  pub tells_step : (r : CellRecord) → IsTallying slots t → HasCellSpelling slots r → IsStep slots r t u → Tells base (rs ++ OfCells r ∷ []) u
  tells_step (Begin pass) i s is = tells_left (Begin pass) pass (row_there i pass s) is refl refl (λ q. row_left t.pending pass q (row_there i pass s))
  tells_step (AbortEnd pass) i s is = tells_left (AbortEnd pass) pass (row_there i pass s) is refl refl (λ q. row_left t.pending pass q (row_there i pass s))
  tells_step (Commit pass) i s is = tells_commit pass (row_there i pass s) s is
  tells_step (Make pass id) i s is =
      tells_quiet (OfCells (Make pass id)) refl refl (ap (λ (x : Tallying). x.cells) is) (ap (λ (x : Tallying). x.commits) is)
      (λ q. ap (λ (x : Tallying). pending_of x q) is ∙ row_noted t.pending pass q (make_write id) (row_there i pass s.0))
  tells_step (Store pass id slot old_target old_strong new_target new_bit new_strong) i s is =
      tells_quiet (OfCells (Store pass id slot old_target old_strong new_target new_bit new_strong)) refl refl (ap (λ (x : Tallying). x.cells) is) (ap (λ (x : Tallying). x.commits) is)
      (λ q. ap (λ (x : Tallying). pending_of x q) is ∙ row_noted t.pending pass q (slot_write id slot new_target) (row_there i pass s.0))
  tells_step (Pay pass id old_value new_value) i s is =
      tells_quiet (OfCells (Pay pass id old_value new_value)) refl refl (ap (λ (x : Tallying). x.cells) is) (ap (λ (x : Tallying). x.commits) is)
      (λ q. ap (λ (x : Tallying). pending_of x q) is ∙ row_noted t.pending pass q (payload_write id new_value) (row_there i pass s.0))
  tells_step (Undo pass place from_strong to_bit id «from» to) i s is = tells_same (Undo pass place from_strong to_bit id «from» to) is refl refl (λ q. refl)
  tells_step (Weaken id slot target) i s is = tells_same (Weaken id slot target) is refl refl (λ q. refl)
  tells_step (Strengthen id slot target) i s is = tells_same (Strengthen id slot target) is refl refl (λ q. refl)
  tells_step (Flip id) i s is = tells_same (Flip id) is refl refl (λ q. refl)
  tells_step (CutDead id slot target was_strong) i s is = tells_same (CutDead id slot target was_strong) is refl refl (λ q. refl)
  tells_step (Free id) i s is = tells_same (Free id) is refl refl (λ q. refl)

  -- an image, or the first record of a log
  pub tells_image : (page : ℕ) (held : _) → u ≡ t → Tells base (rs ++ Image page held ∷ []) u
  tells_image page held is = tells_quiet (Image page held) refl refl (ap (λ (x : Tallying). x.cells) is) (ap (λ (x : Tallying). x.commits) is) (λ q. ap (λ (x : Tallying). pending_of x q) is)

  pub tells_turn : (version pages : ℕ) → u ≡ t → Tells base (rs ++ Turn version pages ∷ []) u
  tells_turn version pages is = tells_quiet (Turn version pages) refl refl (ap (λ (x : Tallying). x.cells) is) (ap (λ (x : Tallying). x.commits) is) (λ q. ap (λ (x : Tallying). pending_of x q) is)

-- a record that is none of single cells
pub tells_else : {slots : ℕ} (base : List Cell) (rs : List (Record slots)) (t : Tallying) (r : Record slots) → Tells base rs t
    → ((page : ℕ) × (held : List (PageCell slots)) × (r ≡ Image page held)) ⊎ ((version : ℕ) × (pages : ℕ) × (r ≡ Turn version pages)) → Tells base (rs ++ r ∷ []) t
tells_else {slots} base rs t r told (inl image) =
    subst (λ (x : Record slots). Tells base (rs ++ x ∷ []) t) (sym image.2) (tells_image base rs t t told image.0 image.1 refl)
tells_else {slots} base rs t r told (inr turn) =
    subst (λ (x : Record slots). Tells base (rs ++ x ∷ []) t) (sym turn.2) (tells_turn base rs t t told turn.0 turn.1 refl)

-- ---- how a step changes what is counted

module _ (slots : ℕ) (t u : Tallying) where
  pub step_sized : (r : CellRecord) → IsStep slots r t u → length u.cells ≡ length t.cells
  step_sized (Begin pass) is = ap (λ (x : Tallying). length x.cells) is
  step_sized (Make pass id) is = ap (λ (x : Tallying). length x.cells) is
  step_sized (Store pass id slot old_target old_strong new_target new_bit new_strong) is = ap (λ (x : Tallying). length x.cells) is
  step_sized (Pay pass id old_value new_value) is = ap (λ (x : Tallying). length x.cells) is
  step_sized (Commit pass) is = is.sized
  step_sized (Undo pass place from_strong to_bit id «from» to) is = ap (λ (x : Tallying). length x.cells) is
  step_sized (AbortEnd pass) is = ap (λ (x : Tallying). length x.cells) is
  step_sized (Weaken id slot target) is = ap (λ (x : Tallying). length x.cells) is
  step_sized (Strengthen id slot target) is = ap (λ (x : Tallying). length x.cells) is
  step_sized (Flip id) is = ap (λ (x : Tallying). length x.cells) is
  step_sized (CutDead id slot target was_strong) is = ap (λ (x : Tallying). length x.cells) is
  step_sized (Free id) is = ap (λ (x : Tallying). length x.cells) is

  same_count : u ≡ t → u.commits ≤ t.commits + 1
  same_count is = omega (arith, ap (λ (x : Tallying). x.commits) is)

  noted_count : (pass : ℕ) (w : Write) → u ≡ noted pass w t → u.commits ≤ t.commits + 1
  noted_count pass w is = let e : u.commits ≡ t.commits = ap (λ (x : Tallying). x.commits) is in omega (arith, e)

  left_count : (pass : ℕ) → u ≡ left pass t → u.commits ≤ t.commits + 1
  left_count pass is = let e : u.commits ≡ t.commits = ap (λ (x : Tallying). x.commits) is in omega (arith, e)

  pub step_counted : (r : CellRecord) → IsStep slots r t u → u.commits ≤ t.commits + 1
  step_counted (Begin pass) is = left_count pass is
  step_counted (Make pass id) is = noted_count pass (make_write id) is
  step_counted (Store pass id slot old_target old_strong new_target new_bit new_strong) is = noted_count pass (slot_write id slot new_target) is
  step_counted (Pay pass id old_value new_value) is = noted_count pass (payload_write id new_value) is
  step_counted (Commit pass) is = omega (arith, is.counted)
  step_counted (Undo pass place from_strong to_bit id «from» to) is = same_count is
  step_counted (AbortEnd pass) is = left_count pass is
  step_counted (Weaken id slot target) is = same_count is
  step_counted (Strengthen id slot target) is = same_count is
  step_counted (Flip id) is = same_count is
  step_counted (CutDead id slot target was_strong) is = same_count is
  step_counted (Free id) is = same_count is
