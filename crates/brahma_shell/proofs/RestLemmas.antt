-- What a step of the collector is to the journal where no transaction is active.
use Rattle.std.proofs.Common.{◌≡◌, ℕ, ◌+◌, ◌<◌, ◌≤◌, Bool, true, List, [], ◌∷◌, ◌++◌, length, Option, Some, None, refl, sym, ap, subst, ◌∙◌}
use Rattle.std.specs.Prelude.{IfSome, option_map, if◌then◌else◌, ◌↔◌}
use Rattle.std.specs.Option.{option_map_or}
use Rattle.std.proofs.lemmas.List.{map-append}
use Rattle.plain_model.specs.Graphs.{root}
use Rattle.plain_model.specs.History.{History, Moment, end_of, next}
use Rattle.plain_model.specs.Machine.{is_stored}
use Rattle.plain_model.specs.Reachable.{Reachable}
use Rattle.plain_model.proofs.StepLaws.{end_of-slots, end_of-ids}
use Rattle.cell_model.specs.Cells.{Cell}
use Rattle.store_model.specs.Core.{Round, Core}
use Rattle.store_model.specs.Sound.{IsSound}
use Rattle.cell_model.specs.Records.{Record, Fits, AllFit, after_record, cells_after}
use Rattle.store_model.proofs.AtRest.{at_rest}
use Rattle.log_record.specs.declared.cell_record.CellRecord.{CellRecord}
use Rattle.log_record.specs.declared.cell_record.CellRecord.TheVariants as logs
use Rattle.log_record.specs.Records.{record_of, FitsCells}
use Rattle.core_store.specs.declared.act.Act.{Act}
use Rattle.core_store.specs.declared.collect.Collect.{Collect}
use Rattle.core_store.specs.declared.note.Note.{Note}
use Rattle.core_store.specs.Collects.{Collects, entry_of}
use Rattle.core_store.specs.Collecting.{is_pop, answer_of}
use Rattle.core_store.specs.JournalView.{JournalView, cells_of, core_of, logged_in}
use Rattle.core_store.specs.RoundView.{RoundView, Closed, Walking, Sweeping, round_of, Passes, none, more, IsInStep, Proceeds}
use Rattle.core_store.specs.Steppings.{MakesEvent, pops}
use Rattle.quiet_rounds.specs.Quiet.{NoneActive, IsQuietRound}
use Rattle.quiet_rounds.specs.Laws.{QuietEventLaw, QuietLooksLaw, IsQuietEvent}
use Rattle.quiet_rounds.proofs.FewQueued.{few-queued}
use Rattle.brahma_shell.specs.Points.{Point, point_of, entries_in, IsExactAt}
use Rattle.brahma_shell.specs.Rest.{StaysQuiet}
use Rattle.brahma_shell.proofs.GrowthLemmas.{Grows-point}
use Rattle.brahma_shell.proofs.PointLemmas.{moment_of_point}
use Rattle.brahma_shell.proofs.StepLemmas.{free-pops, pop-closed}
use Rattle.brahma_shell.proofs.StoreLemmas.{looked}
use Rattle.script_lines.specs.Numbers.{object_slots}

-- ---- looks, one after another

pub looks-more : (slots : ℕ) (cells : List Cell) {u v w : RoundView} → Passes slots cells u v → Passes slots cells v w → Passes slots cells u w
looks-more slots cells p none = p
looks-more slots cells p (more x q e) = more x (looks-more slots cells p q) e

-- ---- at rest

-- just the reachable objects are stored
pub rests-exact : (i j : JournalView) → j ≡ record i { round = j.round } → IsSound (core_of j) → entries_in j.notes ≡ j.history.entries → j.queue ≡ [] → j.round ≡ Closed → (point_of i).moment.state.active ≡ [] → IsExactAt (point_of i)
rests-exact i j same sound entries empty closed idle =
    let points : point_of j ≡ point_of i = Grows-point i j [] (looked i j same) in
    let now : (point_of i).moment ≡ end_of j.history = ap (λ (p : Point). p.moment) (sym points) ∙ moment_of_point j entries in
    let exact = at_rest (core_of j) sound (record {
      none_active = ap (λ (m : Moment). m.state.active) (sym now) ∙ idle;
      none_queued = empty;
      none_open = ap (λ (r : RoundView). option_map_or (λ (x : Round). x.list) (round_of r) []) closed;
    }) in
    subst (λ (m : Moment). (id : ℕ) → (is_stored m.state.stored id ≡ true) ↔ Reachable m.state.committed (root ∷ []) id) (sym now) exact

-- ---- an event

-- the round of a closed view is none
round-closed : (r : RoundView) → round_of r ≡ None → r ≡ Closed
round-closed Closed e = refl
round-closed (Walking w) e = absurd (cc)
round-closed (Sweeping w s slot g) e = absurd (cc)

-- an event of the collector leaves the active transactions
active-kept : (m : Moment) (logged : Option CellRecord) → (next m (entry_of logged)).state.active ≡ m.state.active
active-kept m (Some (logs.Free id)) = refl
active-kept m other = refl

-- the answer tells whether it took an object out of the queue
pops-told : (slots : ℕ) (c : Core) (a : Act) (logged : Option CellRecord) (left : ℕ) (queue : List ℕ) (round : Option Round) → Collects slots c a logged queue round → pops (answer_of a logged left) ≡ is_pop a
pops-told slots c a (Some (logs.Free id)) left queue round h = sym (free-pops slots c a id queue round h)
pops-told slots c a other left queue round h = refl

-- the last record fits the cells before it
fits-last : (slots : ℕ) (cells : List Cell) (records : List (Option Record)) (r : Option Record) → AllFit slots cells (records ++ r ∷ []) → IfSome r (Fits (cells_after slots cells records))
fits-last slots cells [] None all = tt
fits-last slots cells [] (Some r) all = all.0
fits-last slots cells (Some x ∷ xs) r all = fits-last slots (after_record slots cells x) xs r all.1
fits-last slots cells (None ∷ xs) r all = fits-last slots cells xs r all

fits-logged : (cells : List Cell) (logged : Option CellRecord) → IfSome (option_map record_of logged) (Fits cells) → IfSome logged (FitsCells cells)
fits-logged cells None f = tt
fits-logged cells (Some r) f = f

-- a journal, the same after the collector looked, and the journal after the event that came then
pub record MakesStep (i j k : JournalView) (r : Collect) : Type 0 where
  pub slots : i.history.slots ≡ object_slots
  pub sound : IsSound (core_of i)
  pub in_step : IsInStep object_slots i.history.ids i.round
  pub entries : entries_in i.notes ≡ i.history.entries
  -- the looks
  pub same : j ≡ record i { round = j.round }
  pub core : core_of j ≡ core_of i
  pub passes : Passes object_slots (cells_of i) i.round j.round
  pub looked_in_step : IsInStep object_slots j.history.ids j.round
  -- the event
  pub event : MakesEvent object_slots j k r
  pub opening : k.opening ≡ j.opening
  pub in_step_behind : IsInStep object_slots k.history.ids k.round
  pub fit : AllFit object_slots k.opening (logged_in k.notes)
  pub entries_behind : entries_in k.notes ≡ k.history.entries

module _ (i j k : JournalView) (r : Collect) (h : MakesStep i j k r) (idle : (point_of i).moment.state.active ≡ []) where
  -- the journals' sizes
  looked-slots : j.history.slots ≡ object_slots
  looked-slots = ap (λ (x : JournalView). x.history.slots) h.same ∙ h.slots

  slots-before : (end_of i.history).state.slots ≡ object_slots
  slots-before = end_of-slots i.history ∙ h.slots

  slots-looked : (end_of j.history).state.slots ≡ object_slots
  slots-looked = end_of-slots j.history ∙ looked-slots

  ids-before : (end_of i.history).state.ids ≡ i.history.ids
  ids-before = end_of-ids i.history

  ids-looked : (end_of j.history).state.ids ≡ j.history.ids
  ids-looked = end_of-ids j.history

  ids-behind : k.history.ids ≡ j.history.ids
  ids-behind = ap (λ (x : History). x.ids) h.event.entry

  -- no transaction is active at any of them
  quiet-before : NoneActive (core_of i)
  quiet-before = ap (λ (m : Moment). m.state.active) (sym (moment_of_point i h.entries)) ∙ idle

  quiet-looked : NoneActive (core_of j)
  quiet-looked = subst NoneActive (sym h.core) quiet-before

  quiet-behind : NoneActive (core_of k)
  quiet-behind = ap (λ (c : Core). c.moment.state.active) h.event.core ∙ active-kept (end_of j.history) h.event.logged ∙ quiet-looked

  idle-behind : (point_of k).moment.state.active ≡ []
  idle-behind = ap (λ (m : Moment). m.state.active) (moment_of_point k h.entries_behind) ∙ quiet-behind

  -- the event's record fits the cells before it
  event-fits : IfSome h.event.logged (FitsCells (core_of j).cells)
  event-fits =
      let records = ap logged_in h.event.noted ∙ map-append (λ (n : Note). option_map record_of n.logged) j.notes _ in
      let all = subst (λ (rs : List (Option Record)). AllFit object_slots j.opening rs) records (subst (λ (cells : List Cell). AllFit object_slots cells (logged_in k.notes)) h.opening h.fit) in
      let last = fits-last object_slots j.opening (logged_in j.notes) (option_map record_of h.event.logged) all in
      fits-logged (core_of j).cells h.event.logged (subst (λ (n : ℕ). IfSome (option_map record_of h.event.logged) (Fits (cells_after n j.opening (logged_in j.notes)))) (sym looked-slots) last)

  -- so the event is one of a quiet round
  is-quiet_event : IsQuietEvent object_slots (core_of j) (core_of k) j.round k.round h.event.event h.event.logged
  is-quiet_event = record {
    sound = subst IsSound (sym h.core) h.sound;
    slots_are = slots-looked;
    quiet = quiet-looked;
    before = refl;
    behind = refl;
    in_step = subst (λ (n : ℕ). IsInStep object_slots n j.round) (sym ids-looked) h.looked_in_step;
    in_step_behind = subst (λ (n : ℕ). IsInStep object_slots n k.round) (ids-behind ∙ sym ids-looked) h.in_step_behind;
    fits = event-fits;
    proceeds = subst (λ (n : ℕ). Proceeds object_slots n j.round h.event.event h.event.logged k.round) (sym ids-looked) h.event.proceeds;
    begins = h.event.begins;
    after = h.event.core;
    collects = h.event.collects;
  }

  pops-event : pops r ≡ is_pop h.event.event
  pops-event = ap pops h.event.answer ∙ pops-told object_slots (core_of j) h.event.event h.event.logged _ k.queue (core_of k).round h.event.collects

  closed-before : pops r ≡ true → i.round ≡ Closed
  closed-before p = round-closed i.round (ap (λ (c : Core). c.round) (sym h.core) ∙ pop-closed object_slots (core_of j) h.event.event h.event.logged k.queue (core_of k).round h.event.collects (sym pops-event ∙ p))

  few-before : length i.queue < i.history.ids
  few-before = subst (λ (n : ℕ). length i.queue < n) ids-before (few-queued (core_of i) h.sound)

  module _ (events : QuietEventLaw) (looks : QuietLooksLaw) (quiet : IsQuietRound object_slots (cells_of i) i.round) where
    quiet-round_looked : IsQuietRound object_slots (cells_of j) j.round
    quiet-round_looked = subst (λ (cells : List Cell). IsQuietRound object_slots cells j.round) (ap (λ (c : Core). c.cells) (sym h.core))
        (looks object_slots (core_of i) i.round j.round h.sound slots-before quiet-before refl (subst (λ (n : ℕ). IsInStep object_slots n i.round) (sym ids-before) h.in_step) h.passes quiet)

    stays : IsQuietRound object_slots (cells_of k) k.round × (length k.queue + (if pops r then 1 else 0) ≤ length i.queue)
    stays =
        let e = events object_slots (core_of j) (core_of k) j.round k.round h.event.event h.event.logged is-quiet_event quiet-round_looked in
        let queues : j.queue ≡ i.queue = ap (λ (c : Core). c.queue) h.core in
        (e.0, subst (λ (b : Bool). length k.queue + (if b then 1 else 0) ≤ length i.queue) (sym pops-event) (subst (λ (q : List ℕ). length k.queue + (if is_pop h.event.event then 1 else 0) ≤ length q) queues e.1.shorter))

  pub stays-quiet : QuietEventLaw → QuietLooksLaw → StaysQuiet i k (pops r)
  stays-quiet events looks = record { active = idle-behind; closed = closed-before; few = few-before; quiet = λ quiet. stays events looks quiet }
