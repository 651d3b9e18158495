-- What an opening hands on to a journal, and what the journal is then.
use Rattle.std.proofs.Common.{◌≡◌, ℕ, ◌-◌, ◌*◌, ◌≤◌, List, [], length, Option, sym, ap, ◌∙◌, subst, arith}
use Rattle.std.proofs.lemmas.List.{length-map}
use Rattle.cell_model.specs.Cells.{Cell}
use Rattle.cell_model.specs.Consistent.{AreConsistent}
use Rattle.cell_page.specs.Format.{page_size}
use Rattle.cell_page.specs.Stored.{cell_of}
use Rattle.disk_model.specs.declared.area.Area.{Area}
use Rattle.disk_model.specs.declared.area.Area.TheVariants.{Pages}
use Rattle.disk_model.specs.Told.{Leaves}
use Rattle.gate_log.specs.Batches.{most_bytes}
use Rattle.gate_log.specs.declared.stage.Stage.TheVariants.{Standing}
use Rattle.gate_log.specs.OnDisk.{IsOn}
use Rattle.gate_log.specs.State.{LogState, used}
use Rattle.log_replay.specs.Replays.{Replaying}
use Rattle.core_store.specs.declared.frame.Frame.{Frame}
use Rattle.core_store.specs.Opening.{ArePages, cells_in, stored_in, opened_history}
use Rattle.core_store.proofs.OpeningIds.{opening-count}
use Rattle.page_marks.specs.declared.marks.PageMark.{PageMark}
use Rattle.page_marks.specs.Marks.{IsMarkedBegun}
use Rattle.journal_opening.specs.Openings.{ReadsAs, HasBegun}

module _ {D : Type 0} (content : D → Area → Option (List ℕ)) (may_leave : D → Area → List ℕ → Type 0) where
  -- where the frames have the pages of a replay, and its log stands, the log has begun with them
  pub has-begun : (slots : ℕ) (before now : D) (frames : List (Frame slots)) (log : LogState) (marks : List PageMark) (v : Replaying) → length v.skips ≡ length frames → v.cells ≡ stored_in frames → ArePages frames
      → (1 ≤ length v.skips) × (length v.skips ≤ 1024) → AreConsistent slots (8 * length v.skips) v.cells → (log.stage ≡ Standing) × (log.tail ≡ []) → used log ≤ most_bytes
      → (batches : List (List ℕ)) × IsOn may_leave log now batches × Leaves may_leave now Pages (λ area. IsMarkedBegun slots (length v.skips) area batches v.cells marks)
      → length marks ≡ length v.skips → Leaves may_leave now Pages (λ area. page_size slots * length v.skips ≤ length area)
      → ReadsAs content slots before v.cells → HasBegun content may_leave slots before now frames log marks
  has-begun slots before now frames log marks v n c pages few rules standing bounded b marked long opens = record {
    few = subst (λ (k : ℕ). (1 ≤ k) × (k ≤ 1024)) n few;
    pages = pages;
    consistent = subst (λ (cs : List Cell). AreConsistent slots (8 * length frames) cs) c (subst (λ (k : ℕ). AreConsistent slots (8 * k) v.cells) n rules);
    standing = (standing.0, standing.1, bounded);
    batches = b.0;
    on = b.1;
    begun = subst (λ (cs : List Cell). Leaves may_leave now Pages (λ area. IsMarkedBegun slots (length frames) area b.0 cs marks)) c (subst (λ (k : ℕ). Leaves may_leave now Pages (λ area. IsMarkedBegun slots k area b.0 v.cells marks)) n b.2);
    marked = marked ∙ n;
    long = subst (λ (k : ℕ). Leaves may_leave now Pages (λ area. page_size slots * k ≤ length area)) (sym marked) long;
    opens = subst (λ (cs : List Cell). ReadsAs content slots before cs) c opens;
  }

-- the history of the frames' cells is that of so many ids as there are cells, but the one at 0
pub same-history : {slots : ℕ} (frames : List (Frame slots)) (opening : List Cell) → ArePages frames → opening ≡ stored_in frames
    → opened_history slots (8 * length frames) (stored_in frames) ≡ opened_history slots (length opening - 1) opening
same-history {slots} frames opening pages e =
    let many = opening-count frames pages in
    let long = length-map (cells_in frames) cell_of in
    let size = ap (λ (cs : List Cell). length cs) e in
    let ids : 8 * length frames ≡ length opening - 1 = omega (arith, many, long, size) in
    ap (λ (n : ℕ). opened_history slots n (stored_in frames)) ids ∙ ap (opened_history slots (length opening - 1)) (sym e)
