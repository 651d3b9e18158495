-- A journal after looks of its collector at which there was nothing to do.
use Rattle.std.proofs.Common.{◌≡◌, ℕ, ◌+◌, ◌<◌, ◌≤◌, true, List, length, sym, ap, ◌∙◌, subst, arith, ⊎_elim}
use Rattle.std.specs.Prelude.{◌⊎◌}
use Rattle.store_model.specs.Core.{Core, Round}
use Rattle.restart_laws.specs.Restartable.{IsRestartable}
use Rattle.std.proofs.Common.{Option}
use Rattle.core_store.specs.declared.journal.Journal.TheInside.{Inside}
use Rattle.core_store.specs.declared.tables.Tables.{Tables}
use Rattle.core_store.specs.declared.three.HeldFrame.{HeldFrame}
use Rattle.core_store.specs.Frames.{Agree}
use Rattle.core_store.specs.JournalView.{JournalView, cells_of, core_of, opening_of, logged_in}
use Rattle.core_store.specs.Journal.{view_of, Keeps, IsJournalInside}
use Rattle.core_store.specs.Opening.{AreByIds}
use Rattle.core_store.specs.Leads.{AreLed}
use Rattle.core_store.specs.RoundView.{left_of, Passes}
use Rattle.core_store.specs.Stands.{Stands}
use Rattle.core_store.specs.Tables.{TablesView}
use Rattle.core_store.specs.Views.{view_of as tables_of}
use Rattle.core_store.proofs.LeftLaws.{left-passes}
use Rattle.plain_model.specs.History.{end_of}
use Rattle.cell_model.specs.Consistent.{AreConsistent}
use Rattle.core_store.specs.RedCursor.{red_of}
use Rattle.core_store.proofs.RedCursors.{red-passes}
use Rattle.core_store.proofs.RedEvents.{walk-live}

core-looked : (j : JournalView) (w : TablesView) → Stands j.history.slots w (core_of j) → core_of (record j { round = w.round }) ≡ core_of j
core-looked j w h = ap (λ (r : Option Round). let c : Core = record (core_of j) { round = r } in c) h.round

Keeps-looked : (j : JournalView) (v w : TablesView) → Keeps j v → Stands j.history.slots w (core_of j) → Passes j.history.slots (cells_of j) v.round w.round → left_of j.history.slots w.round ≤ left_of j.history.slots j.round → Keeps (record j { round = w.round }) w
Keeps-looked j v w k h passes less =
    let core = core-looked j w h in
    record {
      legal = k.legal;
      running = k.running;
      opened = k.opened;
      bounded = k.bounded;
      entries = k.entries;
      consistent = k.consistent;
      laid = k.laid;
      stands = subst (λ (c : Core). Stands j.history.slots w c) (sym core) h;
      led = subst (λ (c : Core). AreLed j.history.slots (opening_of j) j.notes c) (sym core) k.led;
      safe = subst (λ (c : Core). IsRestartable (opening_of j) j.history.entries (logged_in j.notes) c) (sym core) k.safe;
      numbered = k.numbered;
      spelled = k.spelled;
      of_ids = k.of_ids;
      red = red-passes j.history.slots (end_of j.history).state.ids (cells_of j) (subst (λ (n : ℕ). AreConsistent n (end_of j.history).state.ids (cells_of j)) k.stands.slots_are k.stands.sound.consistent) (red_of j)
          (walk-live j.history.slots v (core_of j) (red_of j) k.stands k.red) v.round w.round k.red passes;
      walked = k.walked;
      left = (let most = k.left in omega (arith, less, most));
      limits = k.limits;
      counted = k.counted;
      full = k.full;
      unmarked = k.unmarked;
    }

module _ {slots : ℕ} (a : Inside slots) (t : Tables slots) (now : JournalView) (held : List (HeldFrame slots)) (s : IsJournalInside a) (is : view_of a ≡ now) (agree : Agree (cells_of now) held) (same : tables_of t ≡ record (tables_of a.tables) { round = t.round.view })
    (stands : (c : Core) → Stands slots (tables_of a.tables) c → Agree c.cells held → Stands slots (tables_of t) c) (passes : (c : Core) → Stands slots (tables_of a.tables) c → Agree c.cells held → Passes slots c.cells a.tables.round.view t.round.view) where
  abbrev looked : Inside slots
  looked = record { alloc = a.alloc; opening = a.opening; trace = a.trace; tables = t }

  agree_a : Agree (cells_of (view_of a)) held
  agree_a = subst (λ (j : JournalView). Agree (cells_of j) held) (sym is) agree

  stands_a : Stands slots (tables_of t) (core_of (view_of a))
  stands_a = stands (core_of (view_of a)) s.keeps.stands agree_a

  pub looked-ids : t.ids ≡ a.tables.ids
  looked-ids = ap (λ (v : TablesView). v.ids) same

  seen : view_of looked ≡ record (view_of a) { round = t.round.view }
  seen =
      let i = looked-ids in
      let q : t.queue.ids ≡ a.tables.queue.ids = ap (λ (v : TablesView). v.queue) same in
      cc

  lower : (t.round.view ≡ a.tables.round.view) ⊎ (left_of slots t.round.view < left_of slots a.tables.round.view)
  lower = left-passes slots a.tables.ids (cells_of (view_of a)) a.tables.round.view t.round.view s.keeps.stands.in_step (passes (core_of (view_of a)) s.keeps.stands agree_a)

  most : left_of slots t.round.view ≤ left_of slots a.tables.round.view
  most = ⊎_elim (λ (e : t.round.view ≡ a.tables.round.view). let l = ap (left_of slots) e in omega (arith, l)) (λ l. omega (arith, l)) lower

  owed : t.owed ≡ a.tables.owed
  owed = ap (λ (v : TablesView). v.owed) same

  pub looked-sound : IsJournalInside looked
  looked-sound = record {
    keeps = subst (λ j. Keeps j (tables_of t)) (sym seen) (Keeps-looked (view_of a) (tables_of a.tables) (tables_of t) s.keeps stands_a (passes (core_of (view_of a)) s.keeps.stands agree_a) most);
    placed = subst (λ n. AreByIds n a.opening.items) (sym looked-ids) s.placed;
    room = subst (λ (n : ℕ). length a.trace.notes.list + n ≤ a.trace.notes.room) (sym owed) s.room;
    reserved = subst (λ (n : ℕ). a.trace.reserved ≡ true → (length a.trace.notes.list + n + 1 ≤ a.trace.notes.room) × (length a.trace.notes.list + n + 1 ≤ a.trace.limits.trace)) (sym owed) s.reserved;
  }

  pub looked-view : view_of looked ≡ record now { round = t.round.view }
  looked-view = seen ∙ ap (λ (j : JournalView). let k : JournalView = record j { round = t.round.view } in k) is

  pub looked-core : core_of (view_of looked) ≡ core_of now
  looked-core = ap core_of seen ∙ (core-looked (view_of a) (tables_of t) stands_a ∙ ap core_of is)

  pub looked-passes : Passes slots (cells_of now) now.round t.round.view
  looked-passes = subst (λ (j : JournalView). Passes slots (cells_of j) j.round t.round.view) is (passes (core_of (view_of a)) s.keeps.stands agree_a)

  pub looked-left : (t.round.view ≡ now.round) ⊎ (left_of slots t.round.view < left_of slots now.round)
  looked-left = subst (λ (j : JournalView). (t.round.view ≡ j.round) ⊎ (left_of slots t.round.view < left_of slots j.round)) is lower
