-- The looks and the events of a journal's collector beside no active client are those of a quiet run.
use Rattle.std.proofs.Common.{◌≡◌, ℕ, false, List, [], ◌∷◌, ◌++◌, Option, Some, None, refl, sym, ap, subst, ◌∙◌, append_assoc}
use Rattle.std.specs.Prelude.{IfSome, option_map}
use Rattle.std.proofs.lemmas.List.{map-append}
use Rattle.plain_model.specs.History.{History, end_of}
use Rattle.plain_model.proofs.StepLaws.{end_of-slots, end_of-ids}
use Rattle.cell_model.specs.Cells.{Cell}
use Rattle.cell_model.specs.Records.{Record, Fits, AllFit, after_record, cells_after}
use Rattle.store_model.specs.Core.{Round, Core}
use Rattle.store_model.specs.Sound.{IsSound}
use Rattle.log_record.specs.declared.cell_record.CellRecord.{CellRecord}
use Rattle.log_record.specs.declared.cell_record.CellRecord.TheVariants as logs
use Rattle.log_record.specs.Records.{record_of, FitsCells}
use Rattle.core_store.specs.declared.act.Act.{Act}
use Rattle.core_store.specs.declared.act.Act.TheVariants as act
use Rattle.core_store.specs.declared.collect.Collect.{Collect}
use Rattle.core_store.specs.declared.note.Note.{Note}
use Rattle.core_store.specs.Collects.{Collects}
use Rattle.core_store.specs.Collecting.{is_pop, answer_of}
use Rattle.core_store.specs.JournalView.{JournalView, cells_of, core_of, logged_in}
use Rattle.core_store.specs.RoundView.{RoundView, IsInStep, Proceeds}
use Rattle.core_store.specs.Steppings.{MakesEvent, pops, OnlyLooks}
use Rattle.core_store.proofs.LeftLaws.{in_step-passes}
use Rattle.quiet_rounds.specs.Quiet.{NoneActive, IsQuietRound}
use Rattle.quiet_rounds.specs.Laws.{IsQuietEvent}
use Rattle.quiet_rounds.specs.WholeRounds.{IsStill}
use Rattle.quiet_rounds.specs.JournalSteps.{IsSoundJournal, CollectorSteps, none, looks, event, note_of, JournalEventLaw, JournalLooksLaw, NotedLaw}
use Rattle.quiet_rounds.proofs.Looks.{quiet-looks}
use Rattle.quiet_rounds.proofs.Rounds.{quiet-events, active-stays}

-- ---- what was logged last

-- the last record fits the cells before it
fits-last : (slots : ℕ) (cells : List Cell) (records : List (Option Record)) (r : Option Record) → AllFit slots cells (records ++ r ∷ []) → IfSome r (Fits (cells_after slots cells records))
fits-last slots cells [] None all = tt
fits-last slots cells [] (Some r) all = all.0
fits-last slots cells (Some x ∷ xs) r all = fits-last slots (after_record slots cells x) xs r all.1
fits-last slots cells (None ∷ xs) r all = fits-last slots cells xs r all

fits-logged : (cells : List Cell) (logged : Option CellRecord) → IfSome (option_map record_of logged) (Fits cells) → IfSome logged (FitsCells cells)
fits-logged cells None f = tt
fits-logged cells (Some r) f = f

-- a deletion takes no object out of the queue
free-pops : (slots : ℕ) (c : Core) (a : Act) (id : ℕ) (queue : List ℕ) (round : Option Round) → Collects slots c a (Some (logs.Free id)) queue round → false ≡ is_pop a
free-pops slots c (act.Skip x) id queue round h = absurd h
free-pops slots c (act.Start x) id queue round h = absurd h
free-pops slots c _ id queue round h = refl

-- the answer tells whether the event took an object out of the queue
pops-told : (slots : ℕ) (c : Core) (a : Act) (logged : Option CellRecord) (left : ℕ) (queue : List ℕ) (round : Option Round) → Collects slots c a logged queue round → pops (answer_of a logged left) ≡ is_pop a
pops-told slots c a (Some (logs.Free id)) left queue round h = free-pops slots c a id queue round h
pops-told slots c a other left queue round h = refl

-- ---- the ids and slots of a journal

pub moment-slots : (slots : ℕ) (j : JournalView) → IsSoundJournal slots j → (core_of j).moment.state.slots ≡ slots
moment-slots slots j s = end_of-slots j.history ∙ s.slots_are

moment-step : (slots : ℕ) (j : JournalView) (v : RoundView) → IsInStep slots j.history.ids v → IsInStep slots (core_of j).moment.state.ids v
moment-step slots j v h = subst (λ (n : ℕ). IsInStep slots n v) (sym (end_of-ids j.history)) h

-- ---- an event

-- the event's record fits the cells before it
pub last-fits : (slots : ℕ) (i j : JournalView) (r : Collect) → IsSoundJournal slots i → (m : MakesEvent slots i j r) → j.opening ≡ i.opening → IsSoundJournal slots j → IfSome m.logged (FitsCells (cells_of i))
last-fits slots i j r s m opening t =
    let records = ap logged_in m.noted ∙ map-append (λ (n : Note). option_map record_of n.logged) i.notes _ in
    let all = subst (λ (rs : List (Option Record)). AllFit slots i.opening rs) records (subst (λ (cells : List Cell). AllFit slots cells (logged_in j.notes)) opening t.fit) in
    let last = fits-last slots i.opening (logged_in i.notes) (option_map record_of m.logged) all in
    fits-logged (cells_of i) m.logged (subst (λ (n : ℕ). IfSome (option_map record_of m.logged) (Fits (cells_after n i.opening (logged_in i.notes)))) (sym s.slots_are) last)

module _ (slots : ℕ) (i j : JournalView) (r : Collect) (s : IsSoundJournal slots i) (quiet : NoneActive (core_of i)) (m : MakesEvent slots i j r) (opening : j.opening ≡ i.opening) (t : IsSoundJournal slots j) where
  ids-same : j.history.ids ≡ i.history.ids
  ids-same = ap (λ (x : History). x.ids) m.entry

  pub is-quiet_event : IsQuietEvent slots (core_of i) (core_of j) i.round j.round m.event m.logged
  is-quiet_event = record {
    sound = s.sound;
    slots_are = moment-slots slots i s;
    quiet = quiet;
    before = refl;
    behind = refl;
    in_step = moment-step slots i i.round s.in_step;
    in_step_behind = moment-step slots i j.round (subst (λ (n : ℕ). IsInStep slots n j.round) ids-same t.in_step);
    fits = last-fits slots i j r s m opening t;
    proceeds = subst (λ (n : ℕ). Proceeds slots n i.round m.event m.logged j.round) (sym (end_of-ids i.history)) m.proceeds;
    begins = m.begins;
    after = m.core;
    collects = m.collects;
  }

  pub event-quiet : NoneActive (core_of j)
  event-quiet = ap (λ (c : Core). c.moment.state.active) m.core ∙ active-stays (end_of i.history) m.logged ∙ quiet

pub journal-events : JournalEventLaw
journal-events slots i j r s quiet m opening t =
    let e = is-quiet_event slots i j r s quiet m opening t in
    record {
      event = e;
      pops = ap pops m.answer ∙ pops-told slots (core_of i) m.event m.logged _ j.queue (core_of j).round m.collects;
      quiet = event-quiet slots i j r s quiet m opening t;
      round = λ q. (quiet-events slots (core_of i) (core_of j) i.round j.round m.event m.logged e q).0;
      queue = λ q. (quiet-events slots (core_of i) (core_of j) i.round j.round m.event m.logged e q).1;
    }

-- ---- looks

pub is-still : (slots : ℕ) (i : JournalView) → IsSoundJournal slots i → NoneActive (core_of i) → IsStill slots (core_of i) i.round
is-still slots i s quiet = record { sound = s.sound; slots_are = moment-slots slots i s; quiet = quiet; round = refl; in_step = moment-step slots i i.round s.in_step }

-- what the history tells stays true over looks
pub looked-told : (slots : ℕ) (i j : JournalView) → IsSoundJournal slots i → OnlyLooks slots i j → IsSoundJournal slots j
looked-told slots i j s l = record {
  slots_are = ap (λ (x : JournalView). x.history.slots) l.same ∙ s.slots_are;
  sound = subst IsSound (sym l.core) s.sound;
  in_step =
      subst (λ (n : ℕ). IsInStep slots n j.round) (ap (λ (x : JournalView). x.history.ids) (sym l.same))
      (in_step-passes slots i.history.ids (cells_of i) i.round j.round s.in_step l.passes);
  fit = subst (λ (x : JournalView). AllFit slots x.opening (logged_in x.notes)) (sym l.same) s.fit;
}

pub journal-looks : JournalLooksLaw
journal-looks slots i j s quiet l =
    let still = is-still slots i s quiet in
    record {
      still = still;
      journal = looked-told slots i j s l;
      quiet = subst NoneActive (sym l.core) quiet;
      round = λ q. subst (λ (c : Core). IsQuietRound slots c.cells j.round) (sym l.core) (quiet-looks slots (core_of i) i.round j.round still.sound still.slots_are quiet refl still.in_step l.passes q);
    }

-- ---- steps

-- the journal after the steps is one whose history was told
pub steps-told : (slots : ℕ) (i k : JournalView) (notes : List Note) → IsSoundJournal slots i → CollectorSteps slots i k notes → IsSoundJournal slots k
steps-told slots i _ _ s none = s
steps-told slots i _ _ s (looks j k notes before l) = looked-told slots j k (steps-told slots i j notes s before) l
steps-told slots i _ _ s (event j k notes r before m opening told) = told

-- and no client is active
pub steps-quiet : (slots : ℕ) (i k : JournalView) (notes : List Note) → IsSoundJournal slots i → NoneActive (core_of i) → CollectorSteps slots i k notes → NoneActive (core_of k)
steps-quiet slots i _ _ s q none = q
steps-quiet slots i _ _ s q (looks j k notes before l) = subst NoneActive (sym l.core) (steps-quiet slots i j notes s q before)
steps-quiet slots i _ _ s q (event j k notes r before m opening told) = event-quiet slots j k r (steps-told slots i j notes s before) (steps-quiet slots i j notes s q before) m opening told

-- the steps add their notes
pub steps-noted : NotedLaw
steps-noted slots i _ _ none = sym (append-none i.notes)
  where
    append-none : (xs : List Note) → xs ++ [] ≡ xs
    append-none [] = refl
    append-none (x ∷ xs) = ap (λ ys. x ∷ ys) (append-none xs)
steps-noted slots i _ _ (looks j k notes before l) = ap (λ (x : JournalView). x.notes) l.same ∙ steps-noted slots i j notes before
steps-noted slots i _ _ (event j k notes r before m opening told) =
    let last = note_of slots j k r m ∷ [] in
    m.noted ∙ (ap (λ (xs : List Note). xs ++ last) (steps-noted slots i j notes before) ∙ append_assoc i.notes notes last)
