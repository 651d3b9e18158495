-- How a run of clients ends, by what is known where it ends.
use Rattle.std.proofs.Common.{◌≡◌, ◌≢◌, ◌⊎◌, ⊎_elim, inl, inr, ℕ, ◌≤◌, ◌-◌, true, List, [], length, Option, Some, None, is_some, refl, sym, ap, subst, ◌∙◌, arith}
use Rattle.std.specs.Prelude.{IfSome, IsSome, codes}
use Rattle.std.proofs.lemmas.Bool.{false≢true}
use Rattle.std.specs.Io.KnownBytes.{Appends}
use Rattle.plain_model.specs.declared.calls.Entry.{Entry}
use Rattle.plain_model.specs.declared.object.Object.{Object}
use Rattle.plain_model.specs.History.{History, IsLegal, end_of}
use Rattle.plain_model.specs.Machine.{transaction_of}
use Rattle.plain_model.specs.Text.{text_of}
use Rattle.plain_model.proofs.StepLaws.{end_of-ids}
use Rattle.plain_laws.specs.Sound.{IsSoundGraph}
use Rattle.plain_laws.proofs.Serializable.{IsSerializable-legal}
use Rattle.disk_model.specs.declared.area.Area.{Area}
use Rattle.disk_model.specs.Causes.{Rose}
use Rattle.cell_model.specs.Cells.{Cell}
use Rattle.cell_model.specs.Graph.{graph_of}
use Rattle.core_store.specs.declared.frame.Frame.{Frame}
use Rattle.core_store.specs.Opening.{opened_history}
use Rattle.journal_opening.specs.Openings.{ReadsAs}
use Rattle.logged_journal.specs.View.{LoggedView, history_of}
use Rattle.latch_table.specs.Holds.{IsAlone}
use Rattle.latch_table.specs.Rule.{IsWhole}
use Rattle.latch_table.specs.Views.{first_view}
use Rattle.shared_store.specs.Chronicles.View.{Origin, account, origin_of, notes_of, history_after, has_transaction}
use Rattle.shared_store.specs.Passes.{Known}
use Rattle.script_lines.specs.declared.grammar.Line.{Line}
use Rattle.script_lines.specs.Output.{AppendsFront}
use Rattle.client_pass.specs.declared.script.ClientScript.{ClientScript}
use Rattle.script_lines.specs.Numbers.{object_slots}
use Rattle.brahma_shell.specs.ClientScripts.{AreScripts, AreOfLines}
use Rattle.brahma_shell.specs.declared.replay.Stop.{Stop}
use Rattle.brahma_shell.specs.declared.replay.Stop.TheVariants as stop
use Rattle.brahma_shell.specs.ClientLines.{ReadsAll, StopsReading}
use Rattle.brahma_shell.specs.Points.{point_of, MayRest, IsExactAt}
use Rattle.brahma_shell.specs.Ran.{Began, Did, Ran}
use Rattle.brahma_shell.specs.Replay.{status_of, last_line}
use Rattle.brahma_shell.specs.Running.{HasRun, HoldsNow}
use Rattle.brahma_shell.specs.Telling.{IsUnmarked, Tells, shown, history_text, ending_text}
use Rattle.brahma_shell.specs.Top.{IsOfReplay, IsOfOpenedStore, IsJustOpened, Outside, Ends, IsStatusOfReplay}
use Rattle.brahma_shell.proofs.EndLemmas.{no-failure}
use Rattle.brahma_shell.proofs.ClientLineLemmas.{none-refused}
use Rattle.brahma_shell.proofs.ClientsLemmas.{clients-began, clients-did, clients-inactive}
use Rattle.brahma_shell.proofs.PointLemmas.{moment_of_point}
use Rattle.brahma_shell.proofs.RestingLemmas.{running-history, rests-behind}
use Rattle.brahma_shell.proofs.SeenLemmas.{seen-stored}

-- no other status
other-status : (status n : ℕ) → (status ≡ 0) ⊎ ((status ≡ 5) ⊎ ((status ≡ 6) ⊎ ((status ≡ 8) ⊎ (status ≡ 9)))) → n ≢ 0 → n ≢ 5 → n ≢ 6 → n ≢ 8 → n ≢ 9 → status ≡ n → ⊥
other-status status n is a b c d e at =
    ⊎_elim (λ z. a (sym at ∙ z)) (λ is. ⊎_elim (λ z. b (sym at ∙ z)) (λ is. ⊎_elim (λ z. c (sym at ∙ z)) (λ is. ⊎_elim (λ z. d (sym at ∙ z)) (λ z. e (sym at ∙ z)) is) is) is) is

-- a run's status is one that a replay may have
pub status-of_run : (status : ℕ) → (status ≡ 0) ⊎ ((status ≡ 3) ⊎ ((status ≡ 4) ⊎ ((status ≡ 5) ⊎ ((status ≡ 6) ⊎ ((status ≡ 8) ⊎ (status ≡ 9)))))) → IsStatusOfReplay status
status-of_run status is = ⊎_elim (λ z. inl z) (λ h. inr (⊎_elim (λ z. inl z) (λ h. inr (⊎_elim (λ z. inl z) (λ h. inr (⊎_elim (λ z. inl z) (λ h. inr (⊎_elim (λ z. inl z) (λ h. inr (inr h)) h)) h)) h)) h)) is

-- ---- the journal

-- it goes on from the store that was opened
of-opened : {D : Type 0} (may_leave : D → Area → List ℕ → Type 0) (faults : D → ℕ) (v w : LoggedView D) → IsJustOpened v → origin_of w ≡ origin_of v → HoldsNow may_leave faults w → IsOfOpenedStore w.journal
of-opened may_leave faults v w just origin now = record {
  history = given w.journal.history now.slots (sym now.opening);
  limits = ap (λ (x : Origin). x.limits) origin ∙ just.store.limits;
}
  where
    given : (h : History) → h.slots ≡ object_slots → h.opening ≡ graph_of w.journal.opening → h ≡ record (opened_history object_slots h.ids w.journal.opening) { entries = h.entries }
    given h slots opening = ap (λ (n : ℕ). record h { slots = n }) slots ∙ ap (λ (g : List Object). record h { slots = object_slots; opening = g }) opening

-- its history begins with a sound graph
sound-since : {D : Type 0} (v w : LoggedView D) → IsJustOpened v → origin_of w ≡ origin_of v → history_after object_slots (origin_of w) (notes_of w) ≡ history_of w → IsSoundGraph v.journal.history.opening → IsSoundGraph (history_of w).opening
sound-since v w just origin history sound =
    let first : v.journal.history.opening ≡ graph_of v.journal.opening = ap (λ (h : History). h.opening) just.store.history in
    let now : (history_of w).opening ≡ graph_of v.journal.opening = sym (ap (λ (h : History). h.opening) history) ∙ ap (λ (x : Origin). graph_of x.opening) origin in
    subst IsSoundGraph (first ∙ sym now) sound

of-run : {D : Type 0} (may_leave : D → Area → List ℕ → Type 0) (faults : D → ℕ) (v w : LoggedView D) → IsJustOpened v → origin_of w ≡ origin_of v → history_after object_slots (origin_of w) (notes_of w) ≡ history_of w → IsSoundGraph v.journal.history.opening → IsLegal (history_of w) → HoldsNow may_leave faults w → IsOfReplay may_leave w
of-run may_leave faults v w just origin history sound legal now = record {
  legal = legal;
  running = now.running;
  opened = of-opened may_leave faults v w just origin now;
  serializable = IsSerializable-legal (history_of w) (sound-since v w just origin history sound) legal;
  entries = now.entries;
  sound = now.sound;
  led = now.led;
  lasting = now.lasting;
  images = now.images;
  opens = now.opens;
}

-- a journal that is just opened tells nothing
fresh-text : {D : Type 0} (v : LoggedView D) → IsJustOpened v → history_text v ≡ []
fresh-text v just = ap (λ (h : History). text_of h.entries) (running-history v just.running) ∙ ap (λ (es : List Entry). text_of es) just.entries

fresh-unmarked : {D : Type 0} (v : LoggedView D) (A : Type 0) → IsJustOpened v → (v.journal.marks.trace ≡ true) ⊎ (v.log_full ≡ true) → A
fresh-unmarked v A just on = absurd (⊎_elim (λ e. false≢true (sym just.unmarked ∙ e)) (λ e. false≢true (sym just.log_unmarked ∙ e)) on)

module _ {D : Type 0} (content : D → Area → Option (List ℕ)) (may_leave : D → Area → List ℕ → Type 0) (disk : D) (before after : Outside) (v : LoggedView D) (just : IsJustOpened v) (opened : ReadsAs content object_slots disk v.journal.opening) (journal : IsOfReplay may_leave v) where
  -- nothing ran, since memory was out
  pub ends-unrun : Ends before after [] (codes "refused: memory\n") → Ran content may_leave disk before after 8 v
  ends-unrun printed = record {
    opened = opened;
    size = just.size;
    journal = journal;
    statuses = inr (inr (inr (inr (inr (inl refl)))));
    done = λ e. absurd (omega (arith, e));
    rests = λ e. absurd (omega (arith, e));
    refused = λ e. absurd (omega (arith, e));
    read = λ e. absurd (omega (arith, e));
    write = λ e. absurd (omega (arith, e));
    failed_disk = λ e. absurd (omega (arith, e));
    memory = λ _. (inl just, subst (λ text. Ends before after text (codes "refused: memory\n")) (sym (fresh-text v just)) printed);
    limit = λ e. absurd (omega (arith, e));
    marked = fresh-unmarked v _ just;
    failed = λ some. absurd (no-failure v just.running some);
    complete = λ only reads writes disks. inr (inl refl);
  }

  -- nothing ran, since the script was not read
  pub ends-unread : (s : Stop) → StopsReading s v.journal.history.ids before.left after.left → (s ≡ stop.Read → Rose before.read_faults after.read_faults) → Ends before after [] (last_line s) → Ran content may_leave disk before after (status_of s) v
  ends-unread (stop.Line number) h rose printed = record {
    opened = opened;
    size = just.size;
    journal = journal;
    statuses = inr (inl refl);
    done = λ e. absurd (omega (arith, e));
    rests = λ e. absurd (omega (arith, e));
    refused = λ _. (just, number, h, printed);
    read = λ e. absurd (omega (arith, e));
    write = λ e. absurd (omega (arith, e));
    failed_disk = λ e. absurd (omega (arith, e));
    memory = λ e. absurd (omega (arith, e));
    limit = λ e. absurd (omega (arith, e));
    marked = fresh-unmarked v _ just;
    failed = λ some. absurd (no-failure v just.running some);
    complete = λ only reads writes disks. absurd (none-refused v.journal.history.ids before.left number only h);
  }
  ends-unread stop.Read h rose printed = record {
    opened = opened;
    size = just.size;
    journal = journal;
    statuses = inr (inr (inl refl));
    done = λ e. absurd (omega (arith, e));
    rests = λ e. absurd (omega (arith, e));
    refused = λ e. absurd (omega (arith, e));
    read = λ _. (just, rose refl, h.0, h.1, printed);
    write = λ e. absurd (omega (arith, e));
    failed_disk = λ e. absurd (omega (arith, e));
    memory = λ e. absurd (omega (arith, e));
    limit = λ e. absurd (omega (arith, e));
    marked = fresh-unmarked v _ just;
    failed = λ some. absurd (no-failure v just.running some);
    complete = λ only reads writes disks. absurd (reads (rose refl));
  }
  ends-unread stop.Write h rose printed = absurd h
  ends-unread stop.Memory h rose printed = ends-unrun printed
  ends-unread stop.Full h rose printed = absurd h
  ends-unread stop.LogFull h rose printed = absurd h
  ends-unread stop.Fault h rose printed = absurd h
  ends-unread stop.UpkeepFault h rose printed = absurd h
  ends-unread stop.Stopped h rose printed = absurd h

-- ---- the clients ran

-- the run came to these ids: each client did what it was asked, the collector rests, and these are stored
pub record Finishes {D : Type 0} (before after : Outside) (w : LoggedView D) (ids : List ℕ) : Type 0 where
  pub did : Did before after w
  pub inactive : (end_of (history_of w)).state.active ≡ []
  pub rests : MayRest (point_of w.journal)
  pub exact : IsExactAt (point_of w.journal)
  pub stored : ids ≡ (end_of (history_of w)).state.stored

module _ {D : Type 0} (content : D → Area → Option (List ℕ)) (may_leave : D → Area → List ℕ → Type 0) (faults : D → ℕ) (disk : D) (before after : Outside) (w : LoggedView D) (opened : ReadsAs content object_slots disk w.journal.opening) (size : w.journal.history.ids ≡ length w.journal.opening - 1) (journal : IsOfReplay may_leave w) (now : HoldsNow may_leave faults w)
    (status : ℕ) (stored : Option (List ℕ)) (tells : Tells w stored (shown before.written before.write_faults) (shown after.written after.write_faults) status) (began : Began before after w)
    (finishes : IsUnmarked w → (ids : List ℕ) → stored ≡ Some ids → Finishes before after w ids) (rose : IsSome w.failed → Rose before.disk_faults after.disk_faults) where
  off-done : IsUnmarked w → (w.journal.marks.trace ≡ true) ⊎ (w.log_full ≡ true) → ⊥
  off-done off on = ⊎_elim (λ e. false≢true (sym off.history ∙ e)) (λ e. false≢true (sym off.log ∙ e)) on

  -- it was told
  pub ends-told : Ran content may_leave disk before after status w
  ends-told = record {
    opened = opened;
    size = size;
    journal = journal;
    statuses = ⊎_elim (λ z. inl z) (λ h. inr (inr (inr (⊎_elim (λ z. inl z) (λ h. inr (⊎_elim (λ z. inl z) (λ h. inr h) h)) h)))) tells.statuses;
    done = λ e.
        let t = tells.done e in
        let f = finishes t.0 t.1 t.2 in
        (f.did, subst (λ (ids : List ℕ). Appends before.written after.written (ending_text w ids)) f.stored t.3);
    rests = λ e. let t = tells.done e in let f = finishes t.0 t.1 t.2 in (f.inactive, f.rests, f.exact);
    refused = λ e. absurd (other-status status 3 tells.statuses (λ z. omega (arith, z)) (λ z. omega (arith, z)) (λ z. omega (arith, z)) (λ z. omega (arith, z)) (λ z. omega (arith, z)) e);
    read = λ e. absurd (other-status status 4 tells.statuses (λ z. omega (arith, z)) (λ z. omega (arith, z)) (λ z. omega (arith, z)) (λ z. omega (arith, z)) (λ z. omega (arith, z)) e);
    write = λ e.
        let t = tells.write e in (
          began,
          t.0,
          ⊎_elim
              (λ front. inl front)
              (λ told. let f = finishes told.0 told.1 told.2 in inr (f.did, told.0, subst (λ (ids : List ℕ). AppendsFront before.written after.written (ending_text w ids)) f.stored told.3))
              t.1,
        );
    failed_disk = λ e. let t = tells.failed_disk e in (began, t.0, rose t.0, t.1);
    memory = λ e. (inr began, (tells.memory e).1);
    limit = λ e. (began, ⊎_elim (λ t. inl (t.0, now.full t.0, t.1)) (λ t. inr (t.0, now.log_full t.0, t.1)) (tells.limit e).1);
    marked = λ on.
        ⊎_elim (λ z. absurd (off-done (tells.done z).0 on)) (λ h. ⊎_elim (λ z. inr (inl z)) (λ h. ⊎_elim (λ z. inr (inr z)) (λ h. ⊎_elim (λ z. absurd (off-done (tells.memory z).0 on)) (λ z. inl z) h) h) h) tells.statuses;
    failed = λ some.
        ⊎_elim (λ z. absurd (no-failure w (tells.done z).0.running some)) (λ h. ⊎_elim (λ z. inl z) (λ h. ⊎_elim (λ z. inr z) (λ h. ⊎_elim (λ z. absurd (no-failure w (tells.memory z).0.running some)) (λ z. absurd (no-failure w (tells.limit z).0 some)) h) h) h) tells.statuses;
    complete = λ only reads writes disks.
        ⊎_elim (λ z. inl z) (λ h. ⊎_elim (λ z. absurd (writes (tells.write z).0)) (λ h. ⊎_elim (λ z. absurd (disks (rose (tells.failed_disk z).0))) (λ h. inr h) h) h) tells.statuses;
  }

-- ---- all that is known at its end

some-is : {X : Type 0} (P : X → Type 0) (o : Option X) (x : X) → o ≡ Some x → IfSome o P → P x
some-is P None x e h = absurd (cc (e))
some-is P (Some y) x e h = subst P (cc (e)) h

module _ {D : Type 0} (content : D → Area → Option (List ℕ)) (may_leave : D → Area → List ℕ → Type 0) (faults : D → ℕ) (disk : D) (before after : Outside) (v w : LoggedView D) (just : IsJustOpened v) (sound : IsSoundGraph v.journal.history.opening) (scripts : List ClientScript) (each : AreScripts scripts) (asked : List Line)
    (first new : Known object_slots) (frames : List (Frame object_slots)) (is_first : first ≡ first_view (origin_of v)) (stored : Option (List ℕ)) (run : HasRun D first new scripts v.journal.history.ids stored) (alone : IsAlone new) (whole : IsWhole (account D object_slots) new w frames)
    (history : history_after object_slots (origin_of w) (notes_of w) ≡ history_of w) (told : (client : ℕ) → has_transaction (notes_of w) client ≡ is_some (transaction_of (end_of (history_of w)).state client)) (legal : IsLegal (history_of w)) (now : HoldsNow may_leave faults w) where
  same-origin : origin_of w ≡ origin_of v
  same-origin =
      let fixed : first.knowledge.fixed ≡ Some (origin_of v) = ap (λ (k : Known object_slots). k.knowledge.fixed) is_first in
      some-one (origin_of w) (origin_of v) (sym whole.later.fixed ∙ run.only.fixed ∙ run.runs.fixed ∙ fixed)
    where
      some-one : (x y : Origin) → Some x ≡ Some y → x ≡ y
      some-one x y e = cc (e)

  same-ids : w.journal.history.ids ≡ v.journal.history.ids
  same-ids = ap (λ (x : Origin). x.ids) same-origin

  fresh-entries : first.knowledge.entries ≡ []
  fresh-entries = ap (λ (k : Known object_slots). k.knowledge.entries) is_first

  alone-behind : IsAlone run.behind
  alone-behind = subst (λ s. (s.main ≡ true) × (s.others ≡ 0)) run.only.station alone

  finishes : AreOfLines asked scripts → ReadsAll v.journal.history.ids before.left after.left asked → IsUnmarked w → (ids : List ℕ) → stored ≡ Some ids → Finishes before after w ids
  finishes of read off ids is =
      let f = some-is _ stored ids is run.finished in
      let rest = rests-behind w run.behind new frames alone-behind f.1 run.only whole history off.running in
      let inactive = clients-inactive w first run.behind new scripts run.end frames fresh-entries run.runs run.only whole history f.0 told in
      let unfailed : history_of w ≡ w.journal.history = running-history w off.running in
      let moment = moment_of_point w.journal now.entries in
      let size : (end_of w.journal.history).state.ids ≡ v.journal.history.ids = end_of-ids w.journal.history ∙ same-ids in
      record {
        did = (asked, subst (λ n. ReadsAll n before.left after.left asked) (sym same-ids) read, clients-did w first run.behind new scripts run.end frames fresh-entries run.runs run.only whole history asked each of f.0);
        inactive = inactive;
        rests = rest.rests;
        exact = rest.exact (ap (λ m. m.state.active) moment ∙ ap (λ (h : History). (end_of h).state.active) (sym unfailed) ∙ inactive);
        stored = seen-stored w new frames whole off.running now.slots now.sound v.journal.history.ids size ids f.2 ∙ ap (λ (h : History). (end_of h).state.stored) (sym unfailed);
      }

  pub ends-run : (status : ℕ) → ReadsAs content object_slots disk v.journal.opening → AreOfLines asked scripts → ReadsAll v.journal.history.ids before.left after.left asked → Tells w stored (shown before.written before.write_faults) (shown after.written after.write_faults) status
      → before.disk_faults ≤ v.opened → after.disk_faults ≡ faults w.disk → Ran content may_leave disk before after status w
  ends-run status opened of read tells first_later last =
      let count : w.opened ≡ v.opened = ap (λ (x : Origin). x.faults) same-origin in
      let rose : IsSome w.failed → Rose before.disk_faults after.disk_faults = λ some. (let r = now.rose some in omega (arith, r, count, first_later, last)) in
      let opening : w.journal.opening ≡ v.journal.opening = ap (λ (x : Origin). x.opening) same-origin in
      ends-told content may_leave faults disk before after w
      (subst (ReadsAs content object_slots disk) (sym opening) opened)
      (same-ids ∙ just.size ∙ ap (λ (cs : List Cell). length cs - 1) (sym opening))
      (of-run may_leave faults v w just same-origin history sound legal now) now status stored tells
      (asked, subst (λ n. ReadsAll n before.left after.left asked) (sym same-ids) read, clients-began w first run.behind new scripts run.end frames fresh-entries run.runs run.only whole history asked each of)
      (finishes of read) rose
