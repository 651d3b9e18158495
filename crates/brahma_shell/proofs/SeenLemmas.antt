-- The cells that the last pass saw after a run, and the stored ids.
use Rattle.std.proofs.Common.{◌≡◌, ℕ, zero, suc, ◌+◌, ◌<◌, ◌≤◌, Bool, true, false, List, [], ◌∷◌, ◌++◌, None, length, take, refl, sym, ap, subst, ◌∙◌, append_assoc, arith, ⊎_elim}
use Rattle.std.specs.Prelude.{◌==◌, if◌then◌else◌, slice_index_or}
use Rattle.std.proofs.lemmas.List.{append-nil, take_all}
use Rattle.std.proofs.lemmas.Bool.{cases_lt, ne_eqb}
use Rattle.plain_model.specs.History.{end_of}
use Rattle.plain_model.specs.Machine.{is_stored}
use Rattle.cell_model.specs.Cells.{Cell as StoredCell, is_live}
use Rattle.cell_model.proofs.EditLaws.{live-within, live-there}
use Rattle.store_model.specs.Sound.{IsSound}
use Rattle.cell_page.specs.declared.cell.Cell.{Cell}
use Rattle.cell_page.specs.Format.{first_id, page_of_id, place_of}
use Rattle.core_store.specs.declared.frame.Frame.{Frame}
use Rattle.core_store.specs.declared.note.Note.{Note}
use Rattle.core_store.specs.JournalView.{cells_of, cells_after_notes, core_of}
use Rattle.logged_journal.specs.View.{LoggedView}
use Rattle.latch_table.specs.declared.view.Station.{Station}
use Rattle.latch_table.specs.Holds.{IsAlone}
use Rattle.latch_table.specs.Views.{page_claimed, page_dropped, loaded, peeked}
use Rattle.latch_table.specs.Rule.{AreSeen, IsWhole, KeepsEachOnce, LieBelow, times_in}
use Rattle.shared_store.specs.Chronicles.Pages.{page_in}
use Rattle.shared_store.specs.Chronicles.View.{Origin, account, origin_of, notes_of, frame_after}
use Rattle.shared_store.specs.Passes.{Known}
use Rattle.brahma_shell.specs.Running.{OnlyPeeks, HasSeen, HasSeenLive}
use Rattle.brahma_shell.proofs.FirstLemmas.{AreFirst, first-stored}
use Rattle.brahma_shell.proofs.RestingLemmas.{running-notes}
use Rattle.script_lines.specs.Numbers.{object_slots}

-- ---- looks, one after another

pub peeks-none : (v : Known object_slots) → OnlyPeeks v v
peeks-none v = record { station = refl; fixed = refl; entries = refl; more = []; peeks = sym (append-nil v.knowledge.peeks) }

pub peeks-more : (u v w : Known object_slots) → OnlyPeeks u v → OnlyPeeks v w → OnlyPeeks u w
peeks-more u v w p q = record {
  station = q.station ∙ p.station;
  fixed = q.fixed ∙ p.fixed;
  entries = q.entries ∙ p.entries;
  more = p.more ++ q.more;
  peeks = q.peeks ∙ ap (λ (xs : List (ℕ × ℕ × Frame object_slots)). xs ++ q.more) p.peeks ∙ append_assoc u.knowledge.peeks p.more q.more;
}

-- what was seen is kept
seen-kept : (v w : Known object_slots) (id : ℕ) (live : Bool) → OnlyPeeks v w → HasSeen v id live → HasSeen w id live
seen-kept v w id live p s = record {
  before = s.before;
  behind = s.behind ++ p.more;
  seen = s.seen;
  frame = s.frame;
  kept = p.peeks ∙ ap (λ (xs : List (ℕ × ℕ × Frame object_slots)). xs ++ p.more) s.kept ∙ append_assoc s.before ((page_of_id id, s.seen, s.frame) ∷ s.behind) p.more;
  latest = subst (LieBelow s.seen) (sym p.entries) s.latest;
  cell = s.cell;
  found = s.found;
  told = s.told;
}

all-kept : (v w : Known object_slots) (n : ℕ) (live : List ℕ) → OnlyPeeks v w → HasSeenLive v n live → HasSeenLive w n live
all-kept v w zero live p s = s
all-kept v w (suc n) live p s = (s.0, s.1, s.2, seen-kept v w (suc n) s.1 p s.3, all-kept v w n s.0 p s.4)

-- one id more
pub seen-more : (v w : Known object_slots) (n id : ℕ) (is : Bool) (before live : List ℕ) → id ≡ n + 1 → OnlyPeeks v w → HasSeenLive v n before → HasSeen w id is → live ≡ before ++ (if is then id ∷ [] else []) → HasSeenLive w (n + 1) live
seen-more v w n id is before live e p s now all =
    let next : n + 1 ≡ suc n = omega arith in
    let same : id ≡ suc n = omega (arith, e) in
    subst (λ k. HasSeenLive w k live) (sym next)
    (before, is, all ∙ ap (λ k. before ++ (if is then k ∷ [] else [])) same, subst (λ k. HasSeen w k is) same now, all-kept v w n before p s)

-- ---- one look

pub look-only : (old new : Known object_slots) (page seen : ℕ) (frame : Frame object_slots) → new ≡ page_dropped (loaded (page_claimed old page frame) seen) page → OnlyPeeks old new
look-only old new page seen frame e = subst (OnlyPeeks old) (sym e) (record { station = refl; fixed = refl; entries = refl; more = peeked seen ((page, frame) ∷ old.hands.pages); peeks = refl })

pub look-seen : (old new : Known object_slots) (id seen : ℕ) (frame : Frame object_slots) (cell : Cell object_slots) → new ≡ page_dropped (loaded (page_claimed old (page_of_id id) frame) seen) (page_of_id id) → slice_index_or frame.page (place_of id) cell ≡ cell → LieBelow seen old.knowledge.entries → HasSeen new id cell.live
look-seen old new id seen frame cell e found low =
    subst (λ (k : Known object_slots). HasSeen k id cell.live) (sym e)
    (record { before = old.knowledge.peeks; behind = peeked seen old.hands.pages; seen = seen; frame = frame; kept = refl; latest = low; cell = cell; found = found; told = refl })

-- the pass is alone still
pub alone-still : (old new : Known object_slots) → OnlyPeeks old new → IsAlone old → IsAlone new
alone-still old new p alone = subst (λ (s : Station). (s.main ≡ true) × (s.others ≡ 0)) (sym p.station) alone

-- ---- what one look tells of the last journal

-- a look that is kept is so
look-at : (D : Type 0) (x : Origin) (log : List Note) (before behind : List (ℕ × ℕ × Frame object_slots)) (y : ℕ × ℕ × Frame object_slots) → AreSeen (account D object_slots) x log (before ++ y ∷ behind) → (y.1 ≤ length log) × (y.2 ≡ frame_after object_slots x (take y.1 log) y.0)
look-at D x log [] behind y h = (h.0, h.1)
look-at D x log (z ∷ before) behind y h = look-at D x log before behind y h.2

-- no place from n on is kept
not-kept : (n p : ℕ) (kept : List (ℕ × Note)) → LieBelow n kept → n ≤ p → times_in p kept ≡ 0
not-kept n p [] low le = refl
not-kept n p (k ∷ kept) low le =
    let less = low.0 in
    let rest = not-kept n p kept low.1 le in
    let off : (k.0 == p) ≡ false = ne_eqb k.0 p (λ e. absurd (omega (arith, less, le, e))) in
    rw off (omega (arith, rest))

-- where each place is kept, a look that lies above all of them saw the whole log
latest : (n : ℕ) (log : List Note) (kept : List (ℕ × Note)) → KeepsEachOnce log kept → LieBelow n kept → length log ≤ n
latest n log kept each low =
    ⊎_elim
    (λ (l : n < length log). let one = each n l in let none = not-kept n n kept low (omega arith) in absurd (omega (arith, one, none)))
    (λ (l : length log ≤ n). l)
    (cases_lt n (length log))

-- the cell of the id in the page as the frame has it
live-in_page : (cells : List StoredCell) (page place : ℕ) (cell : Cell object_slots) → place < 8 → slice_index_or (page_in object_slots cells page) place cell ≡ cell → cell.live ≡ is_live cells (first_id page + place)
live-in_page cells page zero cell low e = ap (λ (c : Cell object_slots). c.live) (sym e)
live-in_page cells page (suc zero) cell low e = ap (λ (c : Cell object_slots). c.live) (sym e)
live-in_page cells page (suc (suc zero)) cell low e = ap (λ (c : Cell object_slots). c.live) (sym e)
live-in_page cells page (suc (suc (suc zero))) cell low e = ap (λ (c : Cell object_slots). c.live) (sym e)
live-in_page cells page (suc (suc (suc (suc zero)))) cell low e = ap (λ (c : Cell object_slots). c.live) (sym e)
live-in_page cells page (suc (suc (suc (suc (suc zero))))) cell low e = ap (λ (c : Cell object_slots). c.live) (sym e)
live-in_page cells page (suc (suc (suc (suc (suc (suc zero)))))) cell low e = ap (λ (c : Cell object_slots). c.live) (sym e)
live-in_page cells page (suc (suc (suc (suc (suc (suc (suc zero))))))) cell low e = ap (λ (c : Cell object_slots). c.live) (sym e)
live-in_page cells page (suc (suc (suc (suc (suc (suc (suc (suc n)))))))) cell low e = absurd (omega (arith, low))

-- where the cell of an id stands
cell-place : (id : ℕ) → 1 ≤ id → (first_id (page_of_id id) + place_of id ≡ id) × (place_of id < 8)
cell-place id some = (omega (arith, some), omega arith)

module _ {D : Type 0} (w : LoggedView D) (new : Known object_slots) (frames : List (Frame object_slots)) (whole : IsWhole (account D object_slots) new w frames) (running : w.failed ≡ None) (slots : w.journal.history.slots ≡ object_slots) where
  live-told : (id : ℕ) (live : Bool) → 1 ≤ id → HasSeen new id live → live ≡ is_live (cells_of w.journal) id
  live-told id live some s =
      let log = notes_of w in
      let y : ℕ × ℕ × Frame object_slots = (page_of_id id, s.seen, s.frame) in
      let look = look-at D (origin_of w) log s.before s.behind y (subst (AreSeen (account D object_slots) (origin_of w) log) s.kept whole.later.peeks) in
      let all : take s.seen log ≡ log = take_all s.seen log (latest s.seen log new.knowledge.entries whole.once s.latest) in
      let notes : cells_after_notes object_slots w.journal.opening (take s.seen log) ≡ cells_of w.journal =
      ap (cells_after_notes object_slots w.journal.opening) (all ∙ running-notes w running) ∙ ap (λ (n : ℕ). cells_after_notes n w.journal.opening w.journal.notes) (sym slots) in
      let page : s.frame.page ≡ page_in object_slots (cells_of w.journal) (page_of_id id) = ap (λ (f : Frame object_slots). f.page) look.1 ∙ ap (λ (cells : List StoredCell). page_in object_slots cells (page_of_id id)) notes in
      let at = cell-place id some in
      sym s.told
      ∙ live-in_page (cells_of w.journal) (page_of_id id) (place_of id) s.cell at.1 (ap (λ (cs : List (Cell object_slots)). slice_index_or cs (place_of id) s.cell) (sym page) ∙ s.found)
      ∙ ap (is_live (cells_of w.journal)) at.0

  -- of the first n ids just these are live
  live-first : (sound : IsSound (core_of w.journal)) (n : ℕ) (live : List ℕ) → HasSeenLive new n live → AreFirst (is_stored (end_of w.journal.history).state.stored) n live
  live-first sound zero live s = s
  live-first sound (suc n) live s =
      let is : s.1 ≡ is_stored (end_of w.journal.history).state.stored (suc n) = live-told (suc n) s.1 (omega arith) s.3 ∙ sym (sound.stored (suc n)) in
      (s.0, s.2 ∙ ap (λ b. s.0 ++ (if b then suc n ∷ [] else [])) is, live-first sound n s.0 s.4)

  -- so just these are stored
  pub seen-stored : IsSound (core_of w.journal) → (ids : ℕ) → (end_of w.journal.history).state.ids ≡ ids → (live : List ℕ) → HasSeenLive new ids live → live ≡ (end_of w.journal.history).state.stored
  seen-stored sound ids count live s =
      let stored = (end_of w.journal.history).state.stored in
      let size = sound.consistent.sized in
      first-stored stored ids live sound.state.ascend
      (λ k e.
      let is = sym (sound.stored k) ∙ e in
      let low = live-there _ k sound.consistent.exact.none is in
      let high = live-within _ k is in
      (omega (arith, low), omega (arith, high, size, count)))
      (live-first sound ids live s)
