-- A journal whose trace has grown by one note.
use Rattle.std.proofs.Common.{◌≡◌, ℕ, ◌+◌, ◌≤◌, false, List, [], ◌∷◌, ◌++◌, refl, sym, ap, ◌∙◌, subst, map}
use Rattle.std.specs.Prelude.{length}
use Rattle.std.proofs.lemmas.List.{map-append}
use Rattle.plain_model.proofs.StepLaws.{end_of-ids}
use Rattle.cell_model.specs.Cells.{Cell as StoredCell}
use Rattle.store_model.specs.Core.{Core}
use Rattle.core_store.specs.declared.note.Note.{Note}
use Rattle.core_store.specs.declared.journal.Journal.TheInside.{Inside}
use Rattle.core_store.specs.declared.three.HeldFrame.{HeldFrame}
use Rattle.core_store.specs.Frames.{Agree, IsSameElsewhere}
use Rattle.core_store.specs.JournalView.{JournalView, cells_of, core_of}
use Rattle.core_store.specs.Journal.{view_of, Keeps, IsJournalInside}
use Rattle.core_store.specs.Opening.{AreByIds}
use Rattle.core_store.specs.Logged.{after_logged}
use Rattle.core_store.specs.RoundView.{left_of}
use Rattle.core_store.specs.Stands.{Moves}
use Rattle.core_store.specs.Tables.{TablesView}
use Rattle.core_store.specs.Views.{view_of as tables_of}
use Rattle.core_store.proofs.JournalLaws.{grown, Happens, Keeps-note, core-happened}

-- the tables have the ids of the history
pub ids-same : (j : JournalView) (w : TablesView) → Keeps j w → w.ids ≡ j.history.ids
ids-same j w k = sym k.stands.ids ∙ end_of-ids j.history

-- the trace has one note more, which tells what is left of the round
pub record Grows {slots : ℕ} (a b : Inside slots) (n : Note) : Type 0 where
  pub opening : b.opening ≡ a.opening
  pub limits : b.trace.limits ≡ a.trace.limits
  pub marks : b.trace.marks ≡ a.trace.marks
  pub reserved : b.trace.reserved ≡ false
  pub trace : b.trace.notes.list ≡ a.trace.notes.list ++ n ∷ []
  pub left : n.left ≡ left_of slots b.tables.round.view

-- the journal has this note more and stands for this now, and the held pages are those of its cells
pub record HasGrown {slots : ℕ} (b : Inside slots) (now : JournalView) (held new : List (HeldFrame slots)) (n : Note) (d : Core) : Type 0 where
  pub sound : length b.trace.notes.list + b.tables.owed ≤ b.trace.notes.room → IsJournalInside b
  pub view_is : view_of b ≡ grown now n b.tables.queue.ids b.tables.round.view
  pub core_is : core_of (view_of b) ≡ d
  pub agree : Agree (cells_of (view_of b)) new
  pub elsewhere : IsSameElsewhere (cells_of now) (cells_of (view_of b)) held

module _ {slots : ℕ} (a b : Inside slots) (n : Note) (d : Core) (s : IsJournalInside a) (g : Grows a b n) (h : Happens (view_of a) (tables_of b.tables) n d) where
  keeps : Keeps (grown (view_of a) n b.tables.queue.ids b.tables.round.view) (tables_of b.tables)
  keeps = Keeps-note (view_of a) (tables_of a.tables) (tables_of b.tables) n d s.keeps h g.left

  pub grown-ids : b.tables.ids ≡ a.tables.ids
  grown-ids = ids-same (grown (view_of a) n b.tables.queue.ids b.tables.round.view) (tables_of b.tables) keeps

  entries : map (λ (x : Note). x.entry) b.trace.notes.list ≡ map (λ (x : Note). x.entry) a.trace.notes.list ++ n.entry ∷ []
  entries = ap (map (λ (x : Note). x.entry)) g.trace ∙ map-append (λ (x : Note). x.entry) a.trace.notes.list (n ∷ [])

  placed : AreByIds b.tables.ids b.opening.items
  placed = subst (λ o. AreByIds b.tables.ids o.items) (sym g.opening) (subst (λ n. AreByIds n a.opening.items) (sym grown-ids) s.placed)

  seen : view_of b ≡ grown (view_of a) n b.tables.queue.ids b.tables.round.view
  seen =
      let i = grown-ids in
      let e = entries in
      let o = g.opening in
      let l = g.limits in
      let m = g.marks in
      let t = g.trace in
      let r = g.reserved in
      cc

  core-is : core_of (view_of b) ≡ d
  core-is = ap core_of seen ∙ core-happened (view_of a) (tables_of b.tables) n d refl h

  cells : cells_of (view_of b) ≡ after_logged slots (cells_of (view_of a)) n.logged
  cells = ap (λ (c : Core). c.cells) (core-is ∙ h.after)

  pub has-grown : (now : JournalView) (held new : List (HeldFrame slots)) → view_of a ≡ now → Moves slots (cells_of (view_of a)) held new n.logged → HasGrown b now held new n d
  has-grown now held new is moves = record {
    sound = λ room. record { keeps = subst (λ j. Keeps j (tables_of b.tables)) (sym seen) keeps; placed = placed; room = room; reserved = λ e. absurd (let none = g.reserved in cc) };
    view_is = seen ∙ ap (λ (j : JournalView). grown j n b.tables.queue.ids b.tables.round.view) is;
    core_is = core-is;
    agree = subst (λ (cs : List StoredCell). Agree cs new) (sym cells) moves.agree;
    elsewhere =
        subst (λ (cs : List StoredCell). IsSameElsewhere (cells_of now) cs held) (sym cells)
        (subst (λ (j : JournalView). IsSameElsewhere (cells_of j) (after_logged slots (cells_of (view_of a)) n.logged) held) is moves.elsewhere);
  }
