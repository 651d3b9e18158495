-- A transaction owns an object and writes a slot of it.
use Rattle.std.proofs.Common.{◌≡◌, ℕ, List, [], ◌∷◌, ◌++◌, Bool, true, refl, sym, ap, ◌∙◌, subst, Option, Some, ◌+◌, ◌<◌, arith, map}
use Rattle.std.specs.Prelude.{◌||◌, fold}
use Rattle.std.proofs.lemmas.List.{length_push}
use Rattle.plain_model.specs.declared.write.Place.TheVariants.{Slot}
use Rattle.plain_model.specs.declared.write.Write.{Write}
use Rattle.plain_model.specs.declared.calls.Call.TheVariants.{Store}
use Rattle.plain_model.specs.declared.calls.Entry.TheVariants.{Call}
use Rattle.plain_model.specs.declared.calls.Reply.{Reply}
use Rattle.plain_model.specs.declared.calls.Reply.TheVariants.{Done}
use Rattle.plain_model.specs.ActiveTransaction.{ActiveTransaction}
use Rattle.plain_model.specs.Graphs.{applied}
use Rattle.plain_model.specs.Machine.{State, register_id, with_write, with_owned, with_transaction, is_among, blocks_owning, transaction_of}
use Rattle.plain_model.specs.History.{holds}
use Rattle.plain_laws.proofs.Ids.{among-added_same}
use Rattle.plain_laws.proofs.Locks.{transaction_of-with_same}
use Rattle.strict_locks.specs.Locks.{Table, holders_of, StandsInWayOfOwn, Nobody, AddsOwner}
use Rattle.log_record.specs.declared.cell_record.CellRecord.{CellRecord}
use Rattle.log_record.specs.Records.{FitsCells, LaysWell}
use Rattle.cell_model.specs.Cells.{Pointer, pointer_at, is_live}
use Rattle.store_model.specs.Core.{Round, Core, slot_in}
use Rattle.store_model.specs.Sound.{IsSound}
use Rattle.store_model.specs.Steps.{store_references}
use Rattle.store_model.proofs.CallLaws.{call-granted}
use Rattle.store_model.proofs.CallSound.{store-call, old-slot}
use Rattle.store_model.proofs.ReferenceLaws.{store_references-fit}
use Rattle.store_model.proofs.EndLaws.{transaction-active}
use Rattle.cell_model.proofs.CountLaws.{relinked-live}
use Rattle.store_model.proofs.GrantLaws.{served_store}
use Rattle.core_store.specs.declared.three.HeldFrame.{HeldFrame}
use Rattle.core_store.specs.declared.slots.SlotChange.{SlotChange}
use Rattle.core_store.specs.Changes.{stored_change, store_record, after_change, has_no_strong}
use Rattle.core_store.specs.Events.{after_event}
use Rattle.core_store.specs.Frames.{Agree, IsSameElsewhere}
use Rattle.core_store.specs.Logged.{stored_target}
use Rattle.core_store.specs.References.{named_by}
use Rattle.core_store.specs.Replaced.{before_write}
use Rattle.core_store.specs.RoundView.{round_of, touched_in, touched_by_record}
use Rattle.core_store.specs.Touched.{objects_touched}
use Rattle.core_store.specs.Transactions.{Running, writing}
use Rattle.core_store.specs.Tables.{TablesView, changed_at}
use Rattle.core_store.specs.Stands.{Stands, Answers}
use Rattle.core_store.proofs.EmptiedLaws.{IsEmptied-relinked, IsEmptied-touched, IsTested-touched}
use Rattle.core_store.proofs.LockChanges.{Locked-own}
use Rattle.core_store.proofs.MapLaws.{puts-changed}
use Rattle.core_store.proofs.OwedSteps.{owed-with}
use Rattle.core_store.proofs.RunningLaws.{runs-writing, lays-push}
use Rattle.core_store.proofs.StepLaws.{Serves, logged-granted, after-granted, Stands-with}
use Rattle.core_store.proofs.TouchLaws.{round-touched, in_step-touched, touched-three, touch_all-sound, TouchesThree}

module _ (slots : ℕ) (v : TablesView) (c : Core) (h : Stands slots v c) (pass r slot : ℕ) (source : Option ℕ) (change : SlotChange) (kept : Running) (t : ActiveTransaction) (s : Serves slots v c.moment pass (Store r slot source) kept t) where
  abbrev id : ℕ
  id = register_id t r

  abbrev target : ℕ
  target = stored_target t source

  abbrev logged : CellRecord
  logged = store_record pass id slot target change

  abbrev objects : List ℕ
  objects = objects_touched (Some logged)

  abbrev after : Core
  after = after_event slots c (Call pass (Store r slot source) Done) (Some logged)

  -- with the marks it stays sound
  stored-sound : FitsCells c.cells logged → LaysWell c.cells logged → IsSound after
  stored-sound fits lays =
      let marked = touch_all-sound slots v.ids v.round objects c h.in_step h.round h.sound in
      let m : TouchesThree v.round id change.old_target target = touched-three slots v.ids v.round id change.old_target target h.in_step in
      subst (λ (o : Option Round). IsSound (record after { round = o })) (round-touched slots v c h objects)
      (store-call (record c { round = round_of (fold touched_in v.round objects) }) marked pass t s.found r slot source change.old_target change.old_strong change.new_bit change.new_strong (store_references pass change.old_target target) s.granted fits lays
      (store_references-fit pass change.old_target target) m.«first» (λ d. m.second) (λ d. m.third) Done)

  -- the client holds the object
  held-after : holds id (with_write id (Slot slot) target (with_owned id t)) ≡ true
  held-after = ap (λ b. b || is_among id t.shared) (among-added_same id t.owned)

  pub answers-store : (held new : List (HeldFrame slots)) (locks : Table) (marks : List Bool) (references : ℕ → List ℕ) (n : ℕ) → AddsOwner v.locks locks pass id → Nobody (StandsInWayOfOwn (holders_of v.locks id) pass) → slot < slots
      → change ≡ stored_change c.cells id slot target → FitsCells c.cells logged → LaysWell c.cells logged → Agree (after_change c.cells id slot target change) new → IsSameElsewhere c.cells (after_change c.cells id slot target change) held
      → marks ≡ map has_no_strong (after_change c.cells id slot target change) → ((p : ℕ) → references p ≡ named_by (c.refs ++ store_references pass change.old_target target) p) → n ≡ v.owed + 1
      → Answers slots v
      (record v {
        zeros = marks;
        locks = locks;
        transactions = changed_at pass (writing (record { id = id; place = Slot slot; value = (pointer_at c.cells id slot).target })) v.transactions;
        owed = n;
        references = references;
        round = touched_by_record v.round (Some logged);
      }) c held new pass (Store r slot source) Done (Some logged)
  answers-store held new locks marks references n adds nobody within is fits lays agree elsewhere marked names owed =
      let y : Write = record { id = id; place = Slot slot; value = target } in
      let x : Write = record { id = id; place = Slot slot; value = (pointer_at c.cells id slot).target } in
      let u = with_write id (Slot slot) target (with_owned id t) in
      let p : Pointer = record { target = target; bit = change.new_bit } in
      let w : TablesView = record v { zeros = marks; locks = locks; transactions = changed_at pass (writing x) v.transactions; owed = n; references = references; round = touched_by_record v.round (Some logged) } in
      let running = (served_store c.moment.state t r source (blocks_owning c.moment.state pass id) s.granted).0.running in
      let none : c.moment.undone pass ≡ 0 = h.sound.none_undone (pass, t) (transaction-active c.moment.state h.sound.state pass t s.found) running in
      let old = old-slot c h.sound pass t s.found r slot source s.granted in
      let seen : x ≡ before_write (applied slots c.moment.state.committed t.writes) y =
      ap (λ (k : ℕ). let z : Write = record { id = id; place = Slot slot; value = k } in z) (sym old ∙ ap (λ (k : ℕ). slot_in (applied k c.moment.state.committed t.writes) id slot) h.slots_are) in
      let state : after.moment.state ≡ with_transaction c.moment.state pass u = after-granted c.moment pass (Store r slot source) Done t s.found s.granted in
      let sound = stored-sound fits lays in
      let runs = runs-writing slots c.moment.state.committed kept t u (c.moment.undone pass) y x s.runs none refl seen refl refl refl in
      let more = length_push kept.replaced x in
      let alive : (z : ℕ) → is_live c.cells z ≡ true → is_live (after_change c.cells id slot target change) z ≡ true = λ z e. relinked-live c.cells id slot p z ∙ e in
      record {
        machine = sym (ap (λ (y : Reply × State). y.0) (call-granted c.moment.state pass t (Store r slot source) s.found s.granted));
        record_is = ap (λ (k : SlotChange). Some (store_record pass id slot target k)) is ∙ sym (logged-granted c.moment.state c.cells pass (Store r slot source) t s.found s.granted);
        moves = record { fits = fits; lays = lays; agree = agree; elsewhere = elsewhere };
        stands = Stands-with slots v w c after pass (writing x kept) u h refl refl marked
            (puts-changed pass (writing x) kept v.transactions s.here)
            (Locked-own slots v c h pass t u s.found locks id adds nobody refl refl)
            runs
            state
            (λ q. refl)
            sound
            alive
            (lays-push slots c.cells (after_change c.cells id slot target change) kept x alive (h.restorable pass kept s.here) (fits.0.live, (within, λ d. h.sound.consistent.exact.closed id slot fits.0.live d)))
            (record {
              references = names;
              queue = h.queue;
              round = round-touched slots v c h objects;
              in_step = in_step-touched slots v.ids v.round objects h.in_step;
              emptied =
                  (let found : transaction_of after.moment.state pass ≡ Some u = subst (λ (z : State). transaction_of z pass ≡ Some u) (sym state) (transaction_of-with_same c.moment.state pass u) in
                  IsEmptied-relinked after sound (pass, u) (transaction-active after.moment.state sound.state pass u found) c.cells id slot p held-after slots v.ids (fold touched_in v.round objects) (in_step-touched slots v.ids v.round objects h.in_step) (round-touched slots v c h objects)
                  (IsEmptied-touched c.cells v.round objects h.emptied));
              tested = IsTested-touched after.cells v.round id (change.old_target ∷ target ∷ []);
              owed = owed-with slots c after pass kept (writing x kept) t u h.sound sound state refl s.found s.runs runs v.owed n h.owed (omega (arith, owed, more));
            });
        round = refl;
      }
