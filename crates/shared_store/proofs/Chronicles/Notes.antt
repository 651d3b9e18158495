-- What the notes of a chronicle give: cells, frames, the history, and the clients' transactions.
use Rattle.std.proofs.Common.{◌≡◌, ℕ, ◌*◌, ◌<◌, ◌≤◌, List, [], ◌∷◌, ◌++◌, length, map, false, Option, Some, None, refl, sym, ap, subst, ◌∙◌, arith, append-nil, inr}
use Rattle.std.specs.Prelude.{◌↔◌, is_some, slice_get, IfSome}
use Rattle.std.specs.List.{AllByRecursion}
use Rattle.std.specs.Option.{option_map_or}
use Rattle.std.proofs.lemmas.List.{map-append}
use Rattle.std.proofs.lemmas.Option.{slice_get_within}
use Rattle.plain_model.specs.declared.calls.Call.TheVariants.{Commit}
use Rattle.plain_model.specs.declared.calls.Reply.TheVariants.{DiskFault}
use Rattle.plain_model.specs.declared.calls.Entry.{Entry}
use Rattle.plain_model.specs.declared.calls.Entry.TheVariants as entry
use Rattle.plain_model.specs.Machine.{transaction_of}
use Rattle.plain_model.specs.History.{History, IsLegal, end_of, with_entry, is_stopped}
use Rattle.plain_model.proofs.HistoryLemmas.{IsLegal-with_entry}
use Rattle.plain_laws.specs.Sound.{is_crash}
use Rattle.cell_model.specs.Cells.{Cell}
use Rattle.cell_model.specs.Graph.{graph_of}
use Rattle.cell_model.specs.Records.{cells_after}
use Rattle.cell_page.specs.Stored.{HoldsPage}
use Rattle.restart_laws.proofs.ReopenLaws.{cells-append}
use Rattle.core_store.specs.declared.frame.Frame.{Frame}
use Rattle.core_store.specs.declared.note.Note.{Note}
use Rattle.core_store.specs.declared.three.HeldFrame.{HeldFrame}
use Rattle.core_store.specs.Frames.{Agree, AllAgree}
use Rattle.core_store.specs.JournalView.{JournalView, cells_of, cells_after_notes, logged_in}
use Rattle.logged_journal.specs.View.{LoggedView, history_of, failed_commit}
use Rattle.logged_journal.specs.Kept.{CanCommit}
use Rattle.shared_store.specs.Chronicles.Pages.{frame_in, AreShownBy, AreOfStore}
use Rattle.shared_store.specs.Chronicles.Clients.{has_by}
use Rattle.shared_store.specs.Chronicles.View.{origin_of, notes_of, failed_note, history_after, frame_after, has_transaction}
use Rattle.shared_store.specs.Chronicles.Inside.{FitFrames}
use Rattle.shared_store.proofs.Chronicles.Machine.{history-clients, commit-done}
use Rattle.shared_store.proofs.Chronicles.PageCells.{page-exact}

-- ---- the notes

pub no-commit : {D : Type 0} (v : LoggedView D) → v.failed ≡ None → failed_commit v ≡ None
no-commit v e = rw e refl

pub notes-running : {D : Type 0} (v : LoggedView D) → failed_commit v ≡ None → notes_of v ≡ v.journal.notes
notes-running v e = rw e (append-nil v.journal.notes)

pub notes-failed : {D : Type 0} (v : LoggedView D) (client : ℕ) → failed_commit v ≡ Some client → notes_of v ≡ v.journal.notes ++ failed_note v.journal.notes client ∷ []
notes-failed v client e = rw e refl

-- ---- the cells and the frames

-- a note that logs nothing changes no cell
pub cells-unlogged : (slots : ℕ) (cells : List Cell) (notes : List Note) (n : Note) → n.logged ≡ None → cells_after_notes slots cells (notes ++ n ∷ []) ≡ cells_after_notes slots cells notes
cells-unlogged slots cells notes n none =
    ap (cells_after slots cells) (map-append _ notes (n ∷ []))
    ∙ (cells-append slots cells (logged_in notes) (logged_in (n ∷ []))
    ∙ rw none refl)

module _ {D : Type 0} (slots : ℕ) (v : LoggedView D) (own : v.journal.history.slots ≡ slots) where
  cells-are : cells_after_notes slots v.journal.opening (notes_of v) ≡ cells_of v.journal
  cells-are = by (failed_commit v) refl ∙ ap (λ (n : ℕ). cells_after_notes n v.journal.opening v.journal.notes) (sym own)
    where
      by : (o : Option ℕ) → failed_commit v ≡ o → cells_after_notes slots v.journal.opening (notes_of v) ≡ cells_after_notes slots v.journal.opening v.journal.notes
      by None e = ap (cells_after_notes slots v.journal.opening) (notes-running v e)
      by (Some client) e =
          ap (cells_after_notes slots v.journal.opening) (notes-failed v client e)
          ∙ cells-unlogged slots v.journal.opening v.journal.notes (failed_note v.journal.notes client) refl

  -- the frame that the chronicle tells is that of the journal's cells
  pub frame-is : (page : ℕ) → frame_after slots (origin_of v) (notes_of v) page ≡ frame_in slots (cells_of v.journal) page
  frame-is page = ap (λ (cells : List Cell). frame_in slots cells page) cells-are

  module _ (pages : FitFrames slots v.journal.history.ids (cells_of v.journal)) where
    -- and a frame is that page of the journal exactly where it is the one that the chronicle tells
    pub frame-exact : (page : ℕ) (frame : Frame slots) → 8 * page < v.journal.history.ids → HoldsPage (cells_of v.journal) page frame.page ↔ (frame ≡ frame_after slots (origin_of v) (notes_of v) page)
    frame-exact page frame there = (
      λ holds. exact holds ∙ sym (frame-is page),
      λ is. subst (λ (f : Frame slots). HoldsPage (cells_of v.journal) page f.page) (sym (is ∙ frame-is page)) (pages page there),
    )
      where
        exact : HoldsPage (cells_of v.journal) page frame.page → frame ≡ frame_in slots (cells_of v.journal) page
        exact holds = ap (λ p. record { page = p }) (page-exact (cells_of v.journal) page frame.page holds)

    pub held-exact : (held : List (HeldFrame slots)) → AreOfStore v.journal.history.ids held → Agree (cells_of v.journal) held ↔ AreShownBy (frame_after slots (origin_of v) (notes_of v)) held
    held-exact [] there = (λ a. tt, λ a. tt)
    held-exact (h ∷ hs) there =
        let one = frame-exact h.page h.frame there.0 in
        let rest = held-exact hs there.1 in
        (λ a. (one.0 a.0, rest.0 a.1), λ a. (one.1 a.0, rest.1 a.1))

    pub all-exact : (frames : List (Frame slots)) → 8 * length frames ≤ v.journal.history.ids
        → AllAgree (cells_of v.journal) frames ↔ ((page : ℕ) (frame : Frame slots) → slice_get frames page ≡ Some frame → frame ≡ frame_after slots (origin_of v) (notes_of v) page)
    all-exact frames few = (
      λ agree page frame got. (frame-exact page frame (there page frame got)).0 (agree page frame got),
      λ are page frame got. (frame-exact page frame (there page frame got)).1 (are page frame got),
    )
      where
        there : (page : ℕ) (frame : Frame slots) → slice_get frames page ≡ Some frame → 8 * page < v.journal.history.ids
        there page frame got = let within = slice_get_within frames page frame got in omega (arith, within, few)

-- ---- the history

-- what a journal tells of its history
pub record JournalTells (j : JournalView) : Type 0 where
  pub opened : graph_of j.opening ≡ j.history.opening
  pub entries : map (λ n. n.entry) j.notes ≡ j.history.entries
  pub legal : IsLegal j.history
  pub running : is_stopped (end_of j.history) ≡ false
  pub uncrashed : AllByRecursion (λ e. is_crash e ≡ false) (map (λ n. n.entry) j.notes)

-- and with its log, of whose commits the disk failed none but one that was granted
pub record Tells {D : Type 0} (slots : ℕ) (v : LoggedView D) : Type 0 where
  pub own : v.journal.history.slots ≡ slots
  pub journal : JournalTells v.journal
  pub granted : IfSome (failed_commit v) (CanCommit v.journal)

with-entries : History → List Entry → History
with-entries h es = record h { entries = es }

push : (es : List Entry) (e : Entry) → AllByRecursion (λ x. is_crash x ≡ false) es → is_crash e ≡ false → AllByRecursion (λ x. is_crash x ≡ false) (es ++ e ∷ [])
push [] e all one = (one, tt)
push (x ∷ xs) e all one = (all.0, push xs e all.1 one)

module _ {D : Type 0} (slots : ℕ) (v : LoggedView D) (t : Tells slots v) where
  -- the history that the notes give is the journal's
  pub history-is : history_after slots (origin_of v) (notes_of v) ≡ history_of v
  unfolding with-entries
  history-is = start (map (λ n. n.entry) (notes_of v)) ∙ by (failed_commit v) refl
    where
      start : (es : List Entry) → record { ids = v.journal.history.ids; slots = slots; opening = graph_of v.journal.opening; entries = es } ≡ with-entries v.journal.history es
      start es = let j = t.journal in rw (j.opened, t.own) refl

      entries-are : map (λ n. n.entry) v.journal.notes ≡ v.journal.history.entries
      entries-are = let j = t.journal in j.entries

      by : (o : Option ℕ) → failed_commit v ≡ o → with-entries v.journal.history (map (λ n. n.entry) (notes_of v)) ≡ history_of v
      by None e =
          ap (λ (ns : List Note). with-entries v.journal.history (map (λ n. n.entry) ns)) (notes-running v e)
          ∙ (ap (with-entries v.journal.history) entries-are
          ∙ sym (ap (λ (o : Option ℕ). option_map_or (λ client. with_entry v.journal.history (entry.Call client Commit DiskFault)) o v.journal.history) e))
      by (Some client) e =
          ap (λ (ns : List Note). with-entries v.journal.history (map (λ n. n.entry) ns)) (notes-failed v client e)
          ∙ (ap (with-entries v.journal.history) (map-append (λ (n : Note). n.entry) v.journal.notes (failed_note v.journal.notes client ∷ []) ∙ ap (λ (es : List Entry). es ++ entry.Call client Commit DiskFault ∷ []) entries-are)
          ∙ sym (ap (λ (o : Option ℕ). option_map_or (λ client. with_entry v.journal.history (entry.Call client Commit DiskFault)) o v.journal.history) e))

  pub history-legal : IsLegal (history_of v)
  history-legal = by (failed_commit v) t.granted
    where
      by : (o : Option ℕ) → IfSome o (CanCommit v.journal) → IsLegal (option_map_or (λ client. with_entry v.journal.history (entry.Call client Commit DiskFault)) o v.journal.history)
      by None g = let j = t.journal in j.legal
      by (Some client) g =
          let j = t.journal in
          IsLegal-with_entry v.journal.history (entry.Call client Commit DiskFault) j.legal
          (j.running, record { machine = inr (refl, refl, commit-done (end_of v.journal.history).state client g.granted); undone = λ e. absurd (cc) })

  none-crashed : AllByRecursion (λ e. is_crash e ≡ false) (history_of v).entries
  none-crashed = subst (AllByRecursion (λ (e : Entry). is_crash e ≡ false)) (ap (λ (h : History). h.entries) history-is) (by (failed_commit v) refl)
    where
      by : (o : Option ℕ) → failed_commit v ≡ o → AllByRecursion (λ e. is_crash e ≡ false) (map (λ n. n.entry) (notes_of v))
      by None e = let j = t.journal in subst (λ (ns : List Note). AllByRecursion (λ x. is_crash x ≡ false) (map (λ n. n.entry) ns)) (sym (notes-running v e)) j.uncrashed
      by (Some client) e =
          let j = t.journal in
          subst (AllByRecursion (λ (x : Entry). is_crash x ≡ false))
          (sym (ap (map (λ (n : Note). n.entry)) (notes-failed v client e) ∙ map-append (λ (n : Note). n.entry) v.journal.notes (failed_note v.journal.notes client ∷ [])))
          (push (map (λ n. n.entry) v.journal.notes) (entry.Call client Commit DiskFault) j.uncrashed refl)

  -- a client has a transaction by it exactly where the notes tell so
  pub clients-are : (client : ℕ) → has_transaction (notes_of v) client ≡ is_some (transaction_of (end_of (history_of v)).state client)
  clients-are client = ap (λ (h : History). has_by h.entries client) history-is ∙ history-clients (history_of v) client history-legal none-crashed
