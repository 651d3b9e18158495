-- A journal after an event of the collector, and after looks of it.
use Rattle.std.proofs.Common.{◌≡◌, ℕ, ◌<◌, false, List, [], ◌∷◌, ◌++◌, refl, sym, ap, ◌∙◌, subst, Option, Some, None, arith}
use Rattle.plain_model.specs.History.{end_of}
use Rattle.plain_model.specs.Outcomes.{IsReachableInSomeOutcome}
use Rattle.store_model.specs.Core.{Core, Round}
use Rattle.log_record.specs.declared.cell_record.CellRecord.{CellRecord}
use Rattle.log_record.specs.declared.cell_record.CellRecord.TheVariants as logs
use Rattle.core_store.specs.declared.act.Act.{Act}
use Rattle.core_store.specs.declared.act.Act.TheVariants as act
use Rattle.core_store.specs.declared.collect.Collect.{Collect}
use Rattle.core_store.specs.declared.collect.Collect.TheVariants.{Deleted}
use Rattle.core_store.specs.declared.journal.Journal.TheInside.{Inside}
use Rattle.core_store.specs.declared.note.Note.{Note}
use Rattle.core_store.specs.declared.three.HeldFrame.{HeldFrame}
use Rattle.core_store.specs.declared.trace.Trace.{Trace}
use Rattle.core_store.specs.Collecting.{Collected, CollectsOne, IsNoted, answer_of, is_pop}
use Rattle.core_store.specs.Collects.{Collects, BeginsGreen, entry_of}
use Rattle.core_store.specs.Events.{core_after}
use Rattle.core_store.specs.Frames.{Agree}
use Rattle.core_store.specs.JournalView.{JournalView, cells_of, core_of, last_left, with_note}
use Rattle.core_store.specs.Journal.{view_of, IsJournalInside}
use Rattle.core_store.specs.Limited.{is_past_limit}
use Rattle.core_store.specs.RoundView.{IsInStep, Proceeds, left_of, round_of}
use Rattle.core_store.specs.Steppings.{IsReadyForCollector, MakesEvent, pops, left_told}
use Rattle.core_store.specs.Views.{view_of as tables_of}
use Rattle.core_store.proofs.AskLaws.{ready-collect}
use Rattle.core_store.proofs.HappensLaws.{happens-collector, counted-within, freed-safe}
use Rattle.core_store.proofs.JournalLaws.{Happens}
use Rattle.core_store.proofs.JournalSteps.{Grows, HasGrown, has-grown, grown-ids}
use Rattle.core_store.proofs.LeftLaws.{left-proceeds}

-- the note of an event of the collector
abbrev pub collector_note : Act → Option CellRecord → ℕ → Note
collector_note a logged left = record { entry = entry_of logged; logged = logged; left = left; act = a }

-- an answer that tells of no object taken out of the queue is of another event
unpopped : (slots : ℕ) (c : Core) (a : Act) (logged : Option CellRecord) (left : ℕ) (queue : List ℕ) (round : Option Round) → Collects slots c a logged queue round → pops (answer_of a logged left) ≡ false → is_pop a ≡ false
unpopped slots c (act.Skip id) None left queue round h e = e
unpopped slots c (act.Skip id) (Some r) left queue round h e = absurd h
unpopped slots c (act.Start id) None left queue round h e = e
unpopped slots c (act.Start id) (Some r) left queue round h e = absurd h
unpopped slots c (act.Scan id) logged left queue round h e = refl
unpopped slots c act.Judge logged left queue round h e = refl
unpopped slots c act.End logged left queue round h e = refl
unpopped slots c act.Change logged left queue round h e = refl
unpopped slots c act.Other logged left queue round h e = refl

-- an answer that tells of a deletion is of a freed object
deleted : (a : Act) (logged : Option CellRecord) (left id rest : ℕ) → answer_of a logged left ≡ Deleted id rest → logged ≡ Some (logs.Free id)
deleted a None left id rest e = absurd (cc)
deleted a (Some (logs.Free x)) left id rest e = cc
deleted a (Some (logs.Begin pass)) left id rest e = absurd (cc)
deleted a (Some (logs.Make pass x)) left id rest e = absurd (cc)
deleted a (Some (logs.Store pass x slot o os n nb ns)) left id rest e = absurd (cc)
deleted a (Some (logs.Pay pass x o n)) left id rest e = absurd (cc)
deleted a (Some (logs.Commit pass)) left id rest e = absurd (cc)
deleted a (Some (logs.Undo pass place fs tb x f to)) left id rest e = absurd (cc)
deleted a (Some (logs.AbortEnd pass)) left id rest e = absurd (cc)
deleted a (Some (logs.Weaken x slot target)) left id rest e = absurd (cc)
deleted a (Some (logs.Strengthen x slot target)) left id rest e = absurd (cc)
deleted a (Some (logs.Flip x)) left id rest e = absurd (cc)
deleted a (Some (logs.CutDead x slot target strong)) left id rest e = absurd (cc)

-- the answer tells what is left
pub told-left : (a : Act) (logged : Option CellRecord) (left told : ℕ) → left_told (answer_of a logged left) ≡ Some told → left ≡ told
told-left a None left told e = cc
told-left a (Some (logs.Begin pass)) left told e = cc
told-left a (Some (logs.Make pass x)) left told e = cc
told-left a (Some (logs.Store pass x slot o os n nb ns)) left told e = cc
told-left a (Some (logs.Pay pass x o n)) left told e = cc
told-left a (Some (logs.Commit pass)) left told e = cc
told-left a (Some (logs.Undo pass place fs tb x f to)) left told e = cc
told-left a (Some (logs.AbortEnd pass)) left told e = cc
told-left a (Some (logs.Weaken x slot target)) left told e = cc
told-left a (Some (logs.Strengthen x slot target)) left told e = cc
told-left a (Some (logs.Flip x)) left told e = cc
told-left a (Some (logs.CutDead x slot target strong)) left told e = cc
told-left a (Some (logs.Free x)) left told e = cc

-- the journal grew by the note that was entered where room was taken for it before
pub entered : {slots : ℕ} (a b : Inside slots) (taken : Trace) (event : Act) (logged : Option CellRecord) → b.opening ≡ a.opening → taken.notes.list ≡ a.trace.notes.list → (taken.limits ≡ a.trace.limits) × (taken.marks ≡ a.trace.marks) → IsNoted taken b.trace event logged (left_of slots b.tables.round.view)
    → Grows a b (collector_note event logged (left_of slots b.tables.round.view))
entered {slots} a b taken event logged opening items rest n = record {
  opening = opening;
  limits = n.limits ∙ rest.0;
  marks = n.marks ∙ rest.1;
  reserved = n.reserved;
  trace = n.items ∙ ap (λ (ns : List Note). ns ++ collector_note event logged (left_of slots b.tables.round.view) ∷ []) items;
  left = refl;
}

module _ {slots : ℕ} (a b : Inside slots) (now : JournalView) (held new : List (HeldFrame slots)) (act : Act) (logged : Option CellRecord) (left : ℕ) (s : IsJournalInside a) (is : view_of a ≡ now) (agree : Agree (cells_of now) held)
    (g : Grows a b (collector_note act logged left)) (collects : CollectsOne slots (tables_of a.tables) (tables_of b.tables) held new act logged) (within : is_past_limit now 1 ≡ false) (ready : IsReadyForCollector now held) (same : b.tables.owed ≡ a.tables.owed) where
  pub it : Collected slots (tables_of a.tables) (tables_of b.tables) (core_of (view_of a)) held new act logged
  it = let r = ready-collect a now held s is agree within ready in collects (core_of (view_of a)) s.keeps.stands r.agree r.ready

  happens : Happens (view_of a) (tables_of b.tables) (collector_note act logged left) it.core
  happens =
      let few = ap (λ (j : JournalView). is_past_limit j 1) is ∙ within in
      happens-collector (view_of a) (tables_of a.tables) (tables_of b.tables) held new act logged left s.keeps it (counted-within (view_of a) (tables_of a.tables) (tables_of b.tables) 1 s.keeps few (omega (arith, same)))

  pub made : HasGrown b now held new (collector_note act logged left) it.core
  made = has-grown a b (collector_note act logged left) it.core s g happens now held new is it.moves

  queue-is : it.core.queue ≡ b.tables.queue.ids
  queue-is = sym it.stands.queue

  round-is : it.core.round ≡ round_of b.tables.round.view
  round-is = sym it.stands.round

  pub made-event : (result : Collect) → result ≡ answer_of act logged left → MakesEvent slots now (view_of b) result
  made-event result e = record {
    event = act;
    logged = logged;
    entry = ap (λ (j : JournalView). j.history) made.view_is;
    noted = ap (λ (j : JournalView). j.notes) made.view_is ∙ ap (λ n. with_note now.notes (entry_of logged) logged n act) g.left;
    core =
        made.core_is
        ∙ (it.after
        ∙ (ap (λ q. core_after slots (core_of (view_of a)) (entry_of logged) logged q it.core.round) queue-is
        ∙ (ap (λ (r : Option Round). core_after slots (core_of (view_of a)) (entry_of logged) logged b.tables.queue.ids r) round-is
        ∙ ap (λ (j : JournalView). core_after slots (core_of j) (entry_of logged) logged b.tables.queue.ids (round_of b.tables.round.view)) is)));
    collects =
        subst (λ (j : JournalView). Collects slots (core_of j) act logged b.tables.queue.ids (round_of b.tables.round.view)) is
        (subst (λ (r : Option Round). Collects slots (core_of (view_of a)) act logged b.tables.queue.ids r) round-is (subst (λ q. Collects slots (core_of (view_of a)) act logged q it.core.round) queue-is it.collects));
    proceeds = subst (λ (j : JournalView). Proceeds slots j.history.ids j.round act logged b.tables.round.view) is it.proceeds;
    begins = λ judges. subst (λ (j : JournalView). BeginsGreen (core_of j) b.tables.round.view) is (it.begins judges);
    answer = e ∙ ap (answer_of act logged) g.left;
    marks = ap (λ (j : JournalView). j.marks) made.view_is;
  }

  pub made-safe : (result : Collect) → result ≡ answer_of act logged left → (id rest : ℕ) → result ≡ Deleted id rest → IsReachableInSomeOutcome (end_of now.history).state id → ⊥
  made-safe result e id rest d =
      let free = deleted act logged left id rest (sym e ∙ d) in
      subst (λ (j : JournalView). IsReachableInSomeOutcome (end_of j.history).state id → ⊥) is
      (freed-safe slots (core_of (view_of a)) act id it.core.queue it.core.round s.keeps.stands.sound (subst (λ o. Collects slots (core_of (view_of a)) act o it.core.queue it.core.round) free it.collects))

  pub made-lower : pops (answer_of act logged left) ≡ false → left < last_left now.notes
  made-lower e =
      let ids : b.tables.ids ≡ a.tables.ids = grown-ids a b (collector_note act logged left) it.core s g happens in
      let step = subst (λ n. IsInStep slots n b.tables.round.view) ids it.stands.in_step in
      let less = left-proceeds slots a.tables.ids a.tables.round.view b.tables.round.view act logged s.keeps.stands.in_step step it.proceeds (unpopped slots (core_of (view_of a)) act logged left it.core.queue it.core.round it.collects e) in
      let most = s.keeps.left in
      let told = g.left in
      let notes : last_left (view_of a).notes ≡ last_left now.notes = ap (λ (j : JournalView). last_left j.notes) is in
      omega (arith, less, most, told, notes)
