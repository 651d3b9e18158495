-- What the tables of a journal ask for before they work.
use Rattle.std.proofs.Common.{◌≡◌, ℕ, ◌+◌, ◌<◌, ◌≤◌, List, [], map, length, true, false, refl, sym, ap, ◌∙◌, subst, arith}
use Rattle.std.specs.Prelude.{Option}
use Rattle.std.specs.Option.{option_map_or}
use Rattle.plain_model.specs.declared.calls.Call.{Call as TransactionCall}
use Rattle.plain_model.specs.declared.calls.Entry.{Entry}
use Rattle.plain_model.specs.History.{start_of, end_of, moment_after}
use Rattle.std.proofs.lemmas.Bool.Decides.{nat_tests}
use Rattle.std.proofs.lemmas.List.{length-map, append-nil}
use Rattle.core_store.specs.declared.journal.Journal.TheInside.{Inside}
use Rattle.core_store.specs.declared.note.Note.{Note}
use Rattle.core_store.specs.declared.three.HeldFrame.{HeldFrame}
use Rattle.core_store.specs.declared.trace.Trace.{Trace}
use Rattle.core_store.specs.declared.want.Work.{Work}
use Rattle.core_store.specs.Collecting.{CanCollect, objects_at, pages_to_collect}
use Rattle.core_store.specs.RoundView.{asked}
use Rattle.core_store.specs.Frames.{Agree, HasPages}
use Rattle.core_store.specs.JournalView.{JournalView, cells_of, core_of}
use Rattle.core_store.specs.Journal.{view_of, IsJournalInside, Keeps}
use Rattle.core_store.specs.Limited.{is_past_limit, pages_for_call, pages_for_collector, entries_counted, WasFull}
use Rattle.core_store.specs.Logged.{pages_for, pages_for_undo, objects_of_undo}
use Rattle.core_store.specs.Owed.{entries_needed, entries_owed}
use Rattle.core_store.specs.Ready.{IsStanding, IsReadyToCall, IsReadyToUndo}
use Rattle.core_store.specs.Replaced.{next_to_restore}
use Rattle.core_store.specs.Steppings.{IsReadyForCollector}
use Rattle.core_store.specs.Tables.{TablesView}
use Rattle.core_store.specs.Views.{view_of as tables_of}
use Rattle.core_store.specs.Work.{IsWorkIn}
use Rattle.core_store.proofs.JournalSteps.{ids-same}
use Rattle.core_store.proofs.PlanUndo.{undo-within}
use Rattle.core_store.proofs.ReadyRound.{asked-few}
use Rattle.core_store.proofs.WantLaws.{has-objects}

-- ---- within the limit, and past it

pub call-within : (j : JournalView) (pass : ℕ) (c : TransactionCall) → is_past_limit j (entries_needed c) ≡ false → pages_for_call j pass c ≡ pages_for (end_of j.history).state (cells_of j) pass c
call-within j pass c e = rw e refl

pub call-past : (j : JournalView) (pass : ℕ) (c : TransactionCall) → is_past_limit j (entries_needed c) ≡ true → pages_for_call j pass c ≡ []
call-past j pass c e = rw e refl

pub collector-within : (j : JournalView) → is_past_limit j 1 ≡ false → pages_for_collector j ≡ pages_to_collect (cells_of j) j.round
collector-within j e = rw e refl

pub collector-past : (j : JournalView) → is_past_limit j 1 ≡ true → pages_for_collector j ≡ []
collector-past j e = rw e refl

-- a history that so many entries more take past its limit is full
pub was-full : (j : JournalView) (v : TablesView) (needed : ℕ) → Keeps j v → is_past_limit j needed ≡ true → needed ≤ 2 → WasFull j
was-full j v needed k past few =
    let more : j.limits.trace < entries_counted j + needed = grind (arith, nat_tests, past) in
    let long : length j.notes ≡ length j.history.entries = sym (length-map j.notes (λ (n : Note). n.entry)) ∙ ap length k.entries in
    let owed : entries_owed (moment_after (start_of j.history) (map (λ n. n.entry) j.notes)) ≡ entries_owed (end_of j.history) = ap (λ (es : List Entry). entries_owed (moment_after (start_of j.history) es)) k.entries in
    (j.notes, [], sym (append-nil j.notes), omega (arith, more, few, long, owed))

-- it is marked
pub Keeps-marked : (j : JournalView) (v : TablesView) (needed : ℕ) → Keeps j v → is_past_limit j needed ≡ true → needed ≤ 2 → Keeps (record j { marks = record j.marks { trace = true } }) v
Keeps-marked j v needed k past few = record {
  legal = k.legal;
  running = k.running;
  opened = k.opened;
  bounded = k.bounded;
  entries = k.entries;
  consistent = k.consistent;
  laid = k.laid;
  stands = k.stands;
  led = k.led;
  safe = k.safe;
  numbered = k.numbered;
  spelled = k.spelled;
  of_ids = k.of_ids;
  red = k.red;
  walked = k.walked;
  left = k.left;
  limits = k.limits;
  counted = k.counted;
  full = λ e. was-full j v needed k past few;
  unmarked = k.unmarked;
}

pub sound-marked : {slots : ℕ} (a : Inside slots) (t : Trace) (now : JournalView) (needed : ℕ) → IsJournalInside a → view_of a ≡ now → t ≡ record a.trace { marks = record a.trace.marks { trace = true } } → is_past_limit now needed ≡ true → needed ≤ 2
    → IsJournalInside (record { alloc = a.alloc; opening = a.opening; trace = t; tables = a.tables })
sound-marked {slots} a t now needed s is marked past few =
    subst (λ (x : Trace). let b : Inside slots = record { alloc = a.alloc; opening = a.opening; trace = x; tables = a.tables } in IsJournalInside b) (sym marked)
    (record {
      keeps = Keeps-marked (view_of a) (tables_of a.tables) needed s.keeps (ap (λ (j : JournalView). is_past_limit j needed) is ∙ past) few;
      placed = s.placed;
      room = s.room;
      reserved = s.reserved;
    })

-- ---- what a call asks for

-- few entries are owed
pub owed-few : (j : JournalView) (v : TablesView) → Keeps j v → v.owed ≤ 1048576
owed-few j v k =
    let owed = k.stands.owed in
    let few = k.counted in
    let most = k.limits.trace in
    omega (arith, owed, few, most)

abbrev pub standing : {slots : ℕ} (a : Inside slots) (now : JournalView) (held : List (HeldFrame slots)) → IsJournalInside a → view_of a ≡ now → Agree (cells_of now) held → IsStanding (tables_of a.tables) held
standing a now held s is agree = record {
  core = core_of (view_of a);
  stands = s.keeps.stands;
  agree = subst (λ (j : JournalView). Agree (cells_of j) held) (sym is) agree;
}

pub ready-call : {slots : ℕ} (a : Inside slots) (now : JournalView) (held : List (HeldFrame slots)) (pass : ℕ) (call : TransactionCall) → IsJournalInside a → view_of a ≡ now → Agree (cells_of now) held → is_past_limit now (entries_needed call) ≡ false
    → HasPages now.history.ids (pages_for_call now pass call) held → IsReadyToCall (tables_of a.tables) held pass call
ready-call a now held pass call s is agree within ready = record {
  standing = standing a now held s is agree;
  pages =
      subst (λ n. HasPages n (pages_for (end_of (view_of a).history).state (cells_of (view_of a)) pass call) held) (sym (ids-same (view_of a) (tables_of a.tables) s.keeps))
      (subst (λ (j : JournalView). HasPages j.history.ids (pages_for (end_of j.history).state (cells_of j) pass call) held) (sym is)
      (subst (λ ps. HasPages now.history.ids ps held) (call-within now pass call within) ready));
}

-- what is work in the store of the tables is work in the journal's
pub works-journal : {slots : ℕ} (a : Inside slots) (now : JournalView) (work : Option Work) → IsJournalInside a → view_of a ≡ now → IsWorkIn slots a.tables.ids (core_of (view_of a)).cells work → IsWorkIn slots now.history.ids (cells_of now) work
works-journal {slots} a now work s is works =
    subst (λ (j : JournalView). IsWorkIn slots j.history.ids (cells_of j) work) is (subst (λ n. IsWorkIn slots n (cells_of (view_of a)) work) (ids-same (view_of a) (tables_of a.tables) s.keeps) works)

pub works-tables : {slots : ℕ} (a : Inside slots) (now : JournalView) (work : Option Work) → IsJournalInside a → view_of a ≡ now → IsWorkIn slots now.history.ids (cells_of now) work → IsWorkIn slots a.tables.ids (core_of (view_of a)).cells work
works-tables {slots} a now work s is works =
    subst (λ n. IsWorkIn slots n (cells_of (view_of a)) work) (sym (ids-same (view_of a) (tables_of a.tables) s.keeps)) (subst (λ (j : JournalView). IsWorkIn slots j.history.ids (cells_of j) work) (sym is) works)

-- ---- an abort step

pub ready-undo : {slots : ℕ} (a : Inside slots) (now : JournalView) (held : List (HeldFrame slots)) (pass : ℕ) → IsJournalInside a → view_of a ≡ now → Agree (cells_of now) held
    → HasPages now.history.ids (pages_for_undo (cells_of now) (next_to_restore (end_of now.history) pass)) held → IsReadyToUndo (tables_of a.tables) held pass
ready-undo a now held pass s is agree ready = record {
  standing = standing a now held s is agree;
  pages =
      let own = subst (λ (j : JournalView). HasPages j.history.ids (pages_for_undo (cells_of j) (next_to_restore (end_of j.history) pass)) held) (sym is) ready in
      has-objects a.tables.ids (option_map_or (objects_of_undo (cells_of (view_of a))) (next_to_restore (end_of (view_of a).history) pass) []) held (undo-within s.keeps.stands pass)
      (subst (λ n. HasPages n (pages_for_undo (cells_of (view_of a)) (next_to_restore (end_of (view_of a).history) pass)) held) (sym (ids-same (view_of a) (tables_of a.tables) s.keeps)) own);
}

-- ---- an event of the collector

abbrev pub ready-collect : {slots : ℕ} (a : Inside slots) (now : JournalView) (held : List (HeldFrame slots)) → IsJournalInside a → view_of a ≡ now → Agree (cells_of now) held → is_past_limit now 1 ≡ false → IsReadyForCollector now held → CanCollect (tables_of a.tables) held
ready-collect {slots} a now held s is agree within ready =
    let r = subst (λ (j : JournalView). IsReadyForCollector j held) (sym is) ready in
    let few = ap (λ (j : JournalView). is_past_limit j 1) is ∙ within in
    record {
      core = core_of (view_of a);
      stands = s.keeps.stands;
      agree = subst (λ (j : JournalView). Agree (cells_of j) held) (sym is) agree;
      ready = record {
        pages =
            has-objects a.tables.ids (objects_at (cells_of (view_of a)) (asked (view_of a).round)) held (asked-few s.keeps.stands).within
            (subst (λ n. HasPages n (pages_to_collect (cells_of (view_of a)) (view_of a).round) held) (sym (ids-same (view_of a) (tables_of a.tables) s.keeps))
            (subst (λ ps. HasPages (view_of a).history.ids ps held) (collector-within (view_of a) few) r.pages));
        event = r.event few;
      };
    }
