-- What a step of the collector is to the journal.
use Rattle.std.proofs.Common.{◌≡◌, ◌≢◌, ℕ, ◌<◌, Bool, true, false, List, [], ◌∷◌, Option, Some, None, refl, sym, ap, subst, ◌∙◌}
use Rattle.plain_model.specs.declared.calls.Entry.{Entry}
use Rattle.plain_model.specs.declared.calls.Entry.TheVariants.{Hidden}
use Rattle.store_model.specs.Core.{Round, Core}
use Rattle.store_model.specs.Sound.{IsSound}
use Rattle.log_record.specs.declared.cell_record.CellRecord.{CellRecord}
use Rattle.log_record.specs.declared.cell_record.CellRecord.TheVariants as logs
use Rattle.core_store.specs.declared.act.Act.{Act}
use Rattle.core_store.specs.declared.act.Act.TheVariants as act
use Rattle.core_store.specs.declared.collect.Collect.{Collect}
use Rattle.core_store.specs.declared.collect.Collect.TheVariants.{Did, Deleted}
use Rattle.core_store.specs.Collects.{Collects, entry_of}
use Rattle.core_store.specs.Collecting.{is_pop, answer_of}
use Rattle.core_store.specs.JournalView.{JournalView, core_of, opening_of, last_left}
use Rattle.core_store.specs.Leads.{AreLed}
use Rattle.core_store.specs.RoundView.{Closed, left_of}
use Rattle.core_store.specs.Steppings.{MakesEvent}
use Rattle.brahma_shell.specs.Points.{point_of, MayRest}
use Rattle.brahma_shell.specs.Growth.{Grows, GrowsBy, GrowsByEvent, BecomesFull}
use Rattle.brahma_shell.proofs.GrowthLemmas.{Grows-trans, Grows-point}
use Rattle.brahma_shell.proofs.PointLemmas.{may_rest, none_left, left_of_point}
use Rattle.brahma_shell.proofs.StoreLemmas.{looked, marked-full}
use Rattle.script_lines.specs.Numbers.{object_slots}

-- ---- what the answer tells

-- a step that deletes nothing
pub told-did : (a : Act) (logged : Option CellRecord) (l : ℕ) (popped : Bool) (left : ℕ) → Did popped left ≡ answer_of a logged l → (entry_of logged ≡ Hidden) × (is_pop a ≡ popped) × (l ≡ left)
told-did a (Some (logs.Free id)) l popped left e = absurd (cc)
told-did a other l popped left e = (refl, cc, cc)

-- a step that deletes an object
pub told-deleted : (a : Act) (logged : Option CellRecord) (l id left : ℕ) → Deleted id left ≡ answer_of a logged l → (logged ≡ Some (logs.Free id)) × (l ≡ left)
told-deleted a (Some (logs.Free x)) l id left e = let same : x ≡ id = cc in (ap (λ (i : ℕ). Some (logs.Free i)) same, cc)
told-deleted a other l id left e = absurd (cc)

-- what frees an object takes none out of the queue
pub free-pops : (slots : ℕ) (c : Core) (a : Act) (id : ℕ) (queue : List ℕ) (round : Option Round) → Collects slots c a (Some (logs.Free id)) queue round → is_pop a ≡ false
free-pops slots c (act.Skip x) id queue round h = absurd h
free-pops slots c (act.Start x) id queue round h = absurd h
free-pops slots c _ id queue round h = refl

-- an object is taken out of the queue only where no round is open
pub pop-closed : (slots : ℕ) (c : Core) (a : Act) (logged : Option CellRecord) (queue : List ℕ) (round : Option Round) → Collects slots c a logged queue round → is_pop a ≡ true → c.round ≡ None
pop-closed slots c (act.Skip x) None queue round h e = h.none
pop-closed slots c (act.Skip x) (Some r) queue round h e = absurd h
pop-closed slots c (act.Start x) None queue round h e = h.none
pop-closed slots c (act.Start x) (Some r) queue round h e = absurd h
pop-closed slots c _ logged queue round h e = absurd (cc)

-- what is no event of the collector makes nothing of them
never-other : (slots : ℕ) (c : Core) (a : Act) (logged : Option CellRecord) (queue : List ℕ) (round : Option Round) → Collects slots c a logged queue round → a ≢ act.Other
never-other slots c (act.Skip x) logged queue round h e = cc (e)
never-other slots c (act.Start x) logged queue round h e = cc (e)
never-other slots c (act.Scan x) logged queue round h e = cc (e)
never-other slots c act.Judge logged queue round h e = cc (e)
never-other slots c act.End logged queue round h e = cc (e)
never-other slots c act.Change logged queue round h e = cc (e)
never-other slots c act.Other logged queue round h e = h

-- ---- what the step is to the journal before the collector looked

-- an event
pub grows-event : (i j k : JournalView) (r : Collect) (popped : Bool) (left : ℕ) (e : Entry) → j ≡ record i { round = j.round } → (m : MakesEvent object_slots j k r) → k.opening ≡ j.opening → k.limits ≡ j.limits
    → AreLed object_slots (opening_of j) j.notes (core_of j) → entry_of m.logged ≡ e → is_pop m.event ≡ popped → left_of object_slots k.round ≡ left → (popped ≡ false → left < last_left j.notes) → GrowsByEvent i k popped left e
grows-event i j k r popped left e same m opening limits led entry pop told lower =
    let notes : last_left j.notes ≡ last_left i.notes = ap (λ (x : JournalView). last_left x.notes) same in
    record {
      note = record { entry = entry_of m.logged; logged = m.logged; left = left_of object_slots k.round; act = m.event };
      entry = entry;
      act = never-other object_slots (core_of j) m.event m.logged k.queue (core_of k).round m.collects;
      pop = pop;
      told = told;
      grows = Grows-trans i j k [] (record { entry = entry_of m.logged; logged = m.logged; left = left_of object_slots k.round; act = m.event } ∷ []) (looked i j same) (record { notes = m.noted; history = m.entry; opening = opening; limits = limits });
      unmarked = m.marks ∙ ap (λ (x : JournalView). x.marks) same;
      opens = λ p. sym notes ∙ sym (left_of_point j) ∙ none_left object_slots j led (pop-closed object_slots (core_of j) m.event m.logged k.queue (core_of k).round m.collects (pop ∙ p));
      lower = λ p. subst (λ (n : ℕ). left < n) notes (lower p);
    }

-- nothing
pub nothing : (i j k : JournalView) → j ≡ record i { round = j.round } → k ≡ j → GrowsBy i k []
nothing i j k same none = record { more = []; entries = refl; grows = subst (λ (x : JournalView). Grows i x []) (sym none) (looked i j same); unmarked = ap (λ (x : JournalView). x.marks) none ∙ ap (λ (x : JournalView). x.marks) same }

-- nothing, and the collector may rest
pub rests : (i j k : JournalView) → j ≡ record i { round = j.round } → k ≡ j → i.history.slots ≡ object_slots → IsSound (core_of j) → AreLed object_slots (opening_of j) j.notes (core_of j) → j.queue ≡ [] → j.round ≡ Closed → GrowsBy i k [] × MayRest (point_of i)
rests i j k same none size sound led empty closed =
    let slots : j.history.slots ≡ object_slots = ap (λ (x : JournalView). x.history.slots) same ∙ size in
    (nothing i j k same none, subst MayRest (Grows-point i j [] (looked i j same)) (may_rest object_slots j slots sound led empty closed))

-- nothing, since the history is full
pub full : (i j k : JournalView) → j ≡ record i { round = j.round } → k ≡ record j { marks = record j.marks { trace = true } } → BecomesFull i k
full i j k same marked =
    let then = marked-full j k marked in
    record { grows = Grows-trans i j k [] [] (looked i j same) then.grows; marked = then.marked }
