-- A round that is open, from its start on: its looks and events so far, and its list, which is that of its notes.
use Rattle.std.proofs.Common.{◌≡◌, ℕ, ◌+◌, ◌==◌, Bool, true, false, if◌then◌else◌, List, [], ◌∷◌, ◌++◌, length, map, Option, Some, None, refl, sym, ap, subst, ◌∙◌, true≢false}
use Rattle.std.proofs.lemmas.List.{length-append}
use Rattle.plain_model.specs.declared.calls.Entry.{Entry}
use Rattle.cell_model.specs.Cells.{Cell}
use Rattle.store_model.specs.Core.{Copy, Core}
use Rattle.red_walk.specs.declared.red_at.RedAt.TheVariants as red
use Rattle.red_walk.specs.Walk.{Walk, IsWalk, next, opened, moved, joined_by}
use Rattle.red_walk.proofs.RoundLaws.{verdict-law}
use Rattle.green_walk.specs.declared.sweep.SweepAt.{SweepAt}
use Rattle.green_walk.specs.declared.sweep.SweepAt.TheVariants as sweep
use Rattle.green_walk.specs.declared.sweep.Found.TheVariants.{Nothing}
use Rattle.green_walk.specs.Sweeping.{SweepState as Sweep, next as next_of_sweep, found}
use Rattle.green_walk.specs.Greening.{Greening}
use Rattle.log_record.specs.declared.cell_record.CellRecord.{CellRecord}
use Rattle.log_record.specs.declared.cell_record.CellRecord.TheVariants as logs
use Rattle.core_store.specs.declared.act.Act.{Act}
use Rattle.core_store.specs.declared.act.Act.TheVariants as act
use Rattle.core_store.specs.declared.note.Note.{Note}
use Rattle.core_store.specs.Logged.{after_logged}
use Rattle.core_store.specs.RoundView.{RoundView, Closed, Walking, Sweeping, is_closed, next_slot, looked_past, passed_by_sweep, Passes, none as no_look, more, Proceeds, skip, start, weaken, scan, judge, cut, free, flip, into, strengthen, end}
use Rattle.quiet_rounds.specs.Laws.{IsQuietEvent}
use Rattle.quiet_rounds.specs.WholeRounds.{IsStill, OpenRun, none, looks, event, IsWholeRound}
use Rattle.quiet_rounds.specs.RoundNotes.{list_after, list_from}
use Rattle.quiet_rounds.proofs.FromStart.{list-is, none-copied}
use Rattle.quiet_rounds.proofs.NotedLists.{cells_behind, has_scan, cells-snoc, scan-stays, scan-last, scan-none, list-scanned, list-scan, list-logged, list-some}

-- ---- what a view tells of the list

-- the objects that joined
abbrev pub list_of : RoundView → List ℕ
list_of Closed = []
list_of (Walking w) = w.list
list_of (Sweeping w s slot g) = w.list

abbrev is_any : List (ℕ × Copy) → Bool
is_any [] = false
is_any (e ∷ es) = true

-- some object was copied
abbrev pub has_copies : RoundView → Bool
has_copies Closed = false
has_copies (Walking w) = is_any w.copies
has_copies (Sweeping w s slot g) = true

-- an open round with the same objects, of which some were copied where some were before
record IsAlike (u v : RoundView) : Type 0 where
  list : list_of v ≡ list_of u
  copies : has_copies v ≡ has_copies u
  still_open : is_closed v ≡ is_closed u

alike : (u : RoundView) → IsAlike u u
alike u = record { list = refl; copies = refl; still_open = refl }

alike-then : {u v w : RoundView} → IsAlike u v → IsAlike v w → IsAlike u w
alike-then a b = record { list = b.list ∙ a.list; copies = b.copies ∙ a.copies; still_open = b.still_open ∙ a.still_open }

-- ---- slots that were looked at

moved-alike : (slots : ℕ) (w : Walk) → IsAlike (Walking w) (Walking (moved slots w))
moved-alike slots w = by (w.slot + 1 == slots)
  where
    by : (b : Bool) → IsAlike (Walking w) (Walking (if b then record w { place = w.place + 1; slot = 0 } else record w { slot = w.slot + 1 }))
    by true = record { list = refl; copies = refl; still_open = refl }
    by false = record { list = refl; copies = refl; still_open = refl }

next-alike : (slots : ℕ) (w : Walk) (s : Sweep) (slot : ℕ) (g : Greening) → IsAlike (Sweeping w s slot g) (next_slot slots w s slot g)
next-alike slots w s slot g = by (slot + 1 == slots)
  where
    by : (b : Bool) → IsAlike (Sweeping w s slot g) (if b then Sweeping w (found s Nothing) 0 g else Sweeping w s (slot + 1) g)
    by true = record { list = refl; copies = refl; still_open = refl }
    by false = record { list = refl; copies = refl; still_open = refl }

look-alike : (slots : ℕ) (cells : List Cell) (v : RoundView) → IsAlike v (looked_past slots cells v)
look-alike slots cells Closed = alike Closed
look-alike slots cells (Walking w) = moved-alike slots w
look-alike slots cells (Sweeping w s slot g) = at (next_of_sweep s)
  where
    at : (n : SweepAt) → IsAlike (Sweeping w s slot g) (passed_by_sweep slots cells w s slot g n)
    at (sweep.Slots id) = next-alike slots w s slot g
    at (sweep.Free id) = alike (Sweeping w s slot g)
    at sweep.End = record { list = refl; copies = refl; still_open = refl }

looks-alike : (slots : ℕ) (cells : List Cell) (u v : RoundView) → Passes slots cells u v → IsAlike u v
looks-alike slots cells u _ no_look = alike u
looks-alike slots cells u _ (more v p idle) = alike-then (looks-alike slots cells u v p) (look-alike slots cells v)

-- looks leave a round open, and a closed one closed
pub looks-open : (slots : ℕ) (cells : List Cell) (u v : RoundView) → Passes slots cells u v → is_closed v ≡ is_closed u
looks-open slots cells u v p = (looks-alike slots cells u v p).still_open

-- ---- the list and the notes

-- the list of the round and its cells are those of the notes since its start, by which an object was copied where one was
pub record IsListed (slots : ℕ) (first_cells : List Cell) (x : ℕ) (notes : List Note) (cells : List Cell) (v : RoundView) : Type 0 where
  pub list : list_of v ≡ list_from slots first_cells (x ∷ []) notes
  pub scanned : has_scan notes ≡ has_copies v
  pub cells_are : cells ≡ cells_behind slots first_cells notes

looked-listed : (slots : ℕ) (first_cells : List Cell) (x : ℕ) (notes : List Note) (cells : List Cell) (u v : RoundView) → Passes slots cells u v → IsListed slots first_cells x notes cells u → IsListed slots first_cells x notes cells v
looked-listed slots first_cells x notes cells u v p k = let a = looks-alike slots cells u v p in record { list = a.list ∙ k.list; scanned = k.scanned ∙ sym a.copies; cells_are = k.cells_are }

-- the note of an event
abbrev note : Entry → ℕ → Act → Option CellRecord → Note
note entry left which logged = record { entry = entry; logged = logged; left = left; act = which }

any-more : (copies : List (ℕ × Copy)) (e : ℕ × Copy) → is_any (copies ++ e ∷ []) ≡ true
any-more [] e = refl
any-more (x ∷ xs) e = refl

joined-copies : (w : Walk) (joins : Option ℕ) → (joined_by w joins).copies ≡ w.copies
joined-copies w None = refl
joined-copies w (Some id) = refl

moved-copies : (slots : ℕ) (w : Walk) → (moved slots w).copies ≡ w.copies
moved-copies slots w = by (w.slot + 1 == slots)
  where
    by : (b : Bool) → (if b then record w { place = w.place + 1; slot = 0 } else record w { slot = w.slot + 1 }).copies ≡ w.copies
    by true = refl
    by false = refl

-- at the verdict some object was copied
all-copied : (copies : List (ℕ × Copy)) (x : ℕ) (list rest : List ℕ) → map (λ e. e.0) copies ≡ list → list ≡ x ∷ rest → is_any copies ≡ true
all-copied [] x list rest all e = absurd (cc)
all-copied (c ∷ cs) x list rest all e = refl

-- what an event makes of the list and of whether an object was copied
abbrev IsNoted : ℕ → List Cell → ℕ → List Note → RoundView → Type 0
IsNoted slots first_cells x notes v = (list_of v ≡ list_from slots first_cells (x ∷ []) notes) × (has_scan notes ≡ has_copies v)

module _ (slots : ℕ) (first_cells : List Cell) (x : ℕ) (notes : List Note) (entry : Entry) (left : ℕ) where
  -- an event after the first copy that lets no object join
  later : (which : Act) (logged : Option CellRecord) (cells : List Cell) (u v : RoundView) → IsListed slots first_cells x notes cells u → has_copies u ≡ true → IsAlike u v → IsNoted slots first_cells x (notes ++ note entry left which logged ∷ []) v
  later which logged cells u v k copied a = (
    a.list ∙ (k.list ∙ sym (list-scanned slots first_cells (x ∷ []) notes (note entry left which logged) (k.scanned ∙ copied))),
    scan-stays notes (note entry left which logged) (k.scanned ∙ copied) ∙ sym (a.copies ∙ copied),
  )

  weaken-noted : (c d : Core) (w : Walk) (id slot target : ℕ) (joins : Option ℕ) → IsQuietEvent slots c d (Walking w) (Walking (joined_by (moved slots w) joins)) act.Change (Some (logs.Weaken id slot target)) → IsListed slots first_cells x notes c.cells (Walking w)
      → IsNoted slots first_cells x (notes ++ note entry left act.Change (Some (logs.Weaken id slot target)) ∷ []) (Walking (joined_by (moved slots w) joins))
  weaken-noted c d w id slot target joins e k =
      let n : Note = note entry left act.Change (Some (logs.Weaken id slot target)) in
      let before : has_scan notes ≡ false = k.scanned ∙ ap is_any (none-copied slots c d w id slot target joins e) in
      let after : list_from slots first_cells (x ∷ []) (notes ++ n ∷ []) ≡ list_after (after_logged slots (cells_behind slots first_cells notes) n.logged) (list_from slots first_cells (x ∷ []) notes) n.logged = list-logged slots first_cells (x ∷ []) notes n before refl in
      let by_cells : list_from slots first_cells (x ∷ []) (notes ++ n ∷ []) ≡ list_after (after_logged slots c.cells n.logged) (list_from slots first_cells (x ∷ []) notes) n.logged =
      subst (λ (cs : List Cell). list_from slots first_cells (x ∷ []) (notes ++ n ∷ []) ≡ list_after (after_logged slots cs n.logged) (list_from slots first_cells (x ∷ []) notes) n.logged) (sym k.cells_are) after in
      let by_list : list_from slots first_cells (x ∷ []) (notes ++ n ∷ []) ≡ list_after (after_logged slots c.cells n.logged) w.list n.logged =
      subst (λ (l : List ℕ). list_from slots first_cells (x ∷ []) (notes ++ n ∷ []) ≡ list_after (after_logged slots c.cells n.logged) l n.logged) (sym k.list) by_cells in (
        list-is slots c d w id slot target joins e ∙ sym by_list,
        scan-none notes n refl ∙ (k.scanned ∙ sym (ap is_any (joined-copies (moved slots w) joins ∙ moved-copies slots w))),
      )

  judge-noted : (c : Core) (w : Walk) (v : RoundView) → IsWalk slots w → next w ≡ red.Verdict → IsListed slots first_cells x notes c.cells (Walking w) → list_of v ≡ w.list → has_copies v ≡ true → IsNoted slots first_cells x (notes ++ note entry left act.Judge None ∷ []) v
  judge-noted c w v walk at k same copied =
      let some = list-some slots first_cells x [] notes in
      let any : has_scan notes ≡ true = k.scanned ∙ all-copied w.copies x w.list some.0 (verdict-law slots w walk at) (k.list ∙ some.1) in (
        same ∙ (k.list ∙ sym (list-scanned slots first_cells (x ∷ []) notes (note entry left act.Judge None) any)),
        scan-stays notes (note entry left act.Judge None) any ∙ sym copied,
      )

  event-noted : (c d : Core) (u v : RoundView) (which : Act) (logged : Option CellRecord) → Proceeds slots c.moment.state.ids u which logged v → IsQuietEvent slots c d u v which logged → is_closed u ≡ false → is_closed v ≡ false → IsListed slots first_cells x notes c.cells u
      → IsNoted slots first_cells x (notes ++ note entry left which logged ∷ []) v
  event-noted c d _ _ _ _ (skip id) e was is k = absurd (true≢false was)
  event-noted c d _ _ _ _ (start id) e was is k = absurd (true≢false was)
  event-noted c d _ _ _ _ (weaken w id slot target joins at) e was is k = weaken-noted c d w id slot target joins e k
  event-noted c d _ _ _ _ (scan w id copy at) e was is k = (
    k.list ∙ sym (list-scan slots first_cells (x ∷ []) notes (note entry left (act.Scan id) None) refl),
    scan-last notes (note entry left (act.Scan id) None) refl ∙ sym (any-more w.copies (id, copy)),
  )
  event-noted c d _ v _ _ (judge w j at) e was is k = judge-noted c w v e.in_step.walk at k refl refl
  event-noted c d u v which logged (cut w s slot id target strong g at) e was is k = later which logged c.cells u v k refl (next-alike slots w s slot g)
  event-noted c d u v which logged (free w s slot id g at) e was is k = later which logged c.cells u v k refl (record { list = refl; copies = refl; still_open = refl })
  event-noted c d u v which logged (flip w s slot id g at) e was is k = later which logged c.cells u v k refl (record { list = refl; copies = refl; still_open = refl })
  event-noted c d u v which logged (into w s slot «from» i to g at) e was is k = later which logged c.cells u v k refl (record { list = refl; copies = refl; still_open = refl })
  event-noted c d u v which logged (strengthen w s slot «from» i to g at) e was is k = later which logged c.cells u v k refl (record { list = refl; copies = refl; still_open = refl })
  event-noted c d _ _ _ _ (end w s slot g at) e was is k = absurd (true≢false is)

  event-listed : (c d : Core) (u v : RoundView) (which : Act) (logged : Option CellRecord) → IsQuietEvent slots c d u v which logged → is_closed u ≡ false → is_closed v ≡ false → IsListed slots first_cells x notes c.cells u
      → IsListed slots first_cells x (notes ++ note entry left which logged ∷ []) d.cells v
  event-listed c d u v which logged e was is k =
      let noted = event-noted c d u v which logged e.proceeds e was is k in
      record {
        list = noted.0;
        scanned = noted.1;
        cells_are = ap (λ (y : Core). y.cells) e.after ∙ (ap (λ (cs : List Cell). after_logged slots cs logged) k.cells_are ∙ sym (cells-snoc slots first_cells notes (note entry left which logged)));
      }

-- ---- a round since its start

-- the round opened with the object and is open, with the notes after its start
pub record IsOpenRound (slots : ℕ) (c : Core) (x : ℕ) (notes : List Note) (d : Core) (v : RoundView) : Type 0 where
  pub opening : Core
  pub starts : IsQuietEvent slots c opening Closed (Walking (opened c.moment.state.ids x)) (act.Start x) None
  pub runs : OpenRun slots opening (Walking (opened c.moment.state.ids x)) d v (length notes)
  pub still_open : is_closed v ≡ false
  pub listed : IsListed slots c.cells x notes d.cells v

pub opens : (slots : ℕ) (c d : Core) (x : ℕ) → IsQuietEvent slots c d Closed (Walking (opened c.moment.state.ids x)) (act.Start x) None → IsOpenRound slots c x [] d (Walking (opened c.moment.state.ids x))
opens slots c d x e = record { opening = d; starts = e; runs = none; still_open = refl; listed = record { list = refl; scanned = refl; cells_are = ap (λ (y : Core). y.cells) e.after } }

pub looked-open : (slots : ℕ) (c : Core) (x : ℕ) (notes : List Note) (d : Core) (u v : RoundView) → IsOpenRound slots c x notes d u → IsStill slots d u → Passes slots d.cells u v → IsOpenRound slots c x notes d v
looked-open slots c x notes d u v o still p = record {
  opening = o.opening;
  starts = o.starts;
  runs = looks d u v (length notes) o.runs still p;
  still_open = looks-open slots d.cells u v p ∙ o.still_open;
  listed = looked-listed slots c.cells x notes d.cells u v p o.listed;
}

length-snoc : (notes : List Note) (n : Note) → length notes + 1 ≡ length (notes ++ n ∷ [])
length-snoc notes n = sym (length-append notes (n ∷ []))

pub event-open : (slots : ℕ) (c : Core) (x : ℕ) (notes : List Note) (d f : Core) (u v : RoundView) (entry : Entry) (left : ℕ) (which : Act) (logged : Option CellRecord) → IsOpenRound slots c x notes d u → IsQuietEvent slots d f u v which logged → is_closed v ≡ false
    → IsOpenRound slots c x (notes ++ record { entry = entry; logged = logged; left = left; act = which } ∷ []) f v
event-open slots c x notes d f u v entry left which logged o e still_open = record {
  opening = o.opening;
  starts = o.starts;
  runs = subst (λ (n : ℕ). OpenRun slots o.opening (Walking (opened c.moment.state.ids x)) f v n) (length-snoc notes (note entry left which logged)) (event d f u v which logged (length notes) o.runs e still_open);
  still_open = still_open;
  listed = event-listed slots c.cells x notes entry left d f u v which logged e o.still_open still_open o.listed;
}

-- ---- its end

-- a whole round whose list is that of the notes, among which one is of a copy
abbrev pub IsClosedWith : ℕ → Core → ℕ → List Note → Core → Type 0
IsClosedWith slots c x notes f = (r : IsWholeRound slots c f x (length notes + 2)) × (r.walk.list ≡ list_from slots c.cells (x ∷ []) notes) × (has_scan notes ≡ true)

ends-by : (slots ids : ℕ) (c : Core) (x : ℕ) (notes : List Note) (d f : Core) (u v : RoundView) (which : Act) (logged : Option CellRecord) → Proceeds slots ids u which logged v → which ≡ act.End → IsOpenRound slots c x notes d u → IsQuietEvent slots d f u v which logged → IsClosedWith slots c x notes f
ends-by slots ids c x notes d f _ _ _ _ (skip id) q o e = absurd (cc)
ends-by slots ids c x notes d f _ _ _ _ (start id) q o e = absurd (cc)
ends-by slots ids c x notes d f _ _ _ _ (weaken w id slot target joins at) q o e = absurd (cc)
ends-by slots ids c x notes d f _ _ _ _ (scan w id copy at) q o e = absurd (cc)
ends-by slots ids c x notes d f _ _ _ _ (judge w j at) q o e = absurd (cc)
ends-by slots ids c x notes d f _ _ _ _ (cut w s slot id target strong g at) q o e = absurd (cc)
ends-by slots ids c x notes d f _ _ _ _ (free w s slot id g at) q o e = absurd (cc)
ends-by slots ids c x notes d f _ _ _ _ (flip w s slot id g at) q o e = absurd (cc)
ends-by slots ids c x notes d f _ _ _ _ (into w s slot «from» i to g at) q o e = absurd (cc)
ends-by slots ids c x notes d f _ _ _ _ (strengthen w s slot «from» i to g at) q o e = absurd (cc)
ends-by slots ids c x notes d f _ _ _ _ (end w s slot g at) q o e = (
  record {
    opening = o.opening;
    starts = o.starts;
    last = d;
    walk = w;
    swept = s;
    slot = slot;
    greening = g;
    between = length notes;
    runs = o.runs;
    ends = e;
    count = refl;
  },
  o.listed.list,
  o.listed.scanned,
)

-- where it ends it was a whole round
pub closes : (slots : ℕ) (c : Core) (x : ℕ) (notes : List Note) (d f : Core) (u v : RoundView) (which : Act) (logged : Option CellRecord) → which ≡ act.End → IsOpenRound slots c x notes d u → IsQuietEvent slots d f u v which logged → IsClosedWith slots c x notes f
closes slots c x notes d f u v which logged q o e = ends-by slots d.moment.state.ids c x notes d f u v which logged e.proceeds q o e
