-- A journal for which room for an entry of upkeep is taken, and one after such an entry.
use Rattle.std.proofs.Common.{◌≡◌, ℕ, ◌+◌, ◌≤◌, true, false, [], length, refl, sym, ap, ◌∙◌, subst, None, arith}
use Rattle.std.proofs.lemmas.List.{length-map}
use Rattle.plain_model.specs.declared.calls.Entry.{Entry}
use Rattle.plain_model.specs.History.{end_of, with_entry}
use Rattle.core_store.specs.declared.journal.Journal.TheInside.{Inside}
use Rattle.core_store.specs.declared.note.Note.{Note}
use Rattle.core_store.specs.declared.act.Act.TheVariants.{Other}
use Rattle.core_store.specs.declared.limits.Limits.{Limits}
use Rattle.core_store.specs.declared.trace.Trace.{Trace}
use Rattle.core_store.specs.JournalView.{JournalView, core_of, with_note}
use Rattle.core_store.specs.Journal.{view_of, Keeps, IsJournalInside}
use Rattle.core_store.specs.Limited.{is_past_limit}
use Rattle.core_store.specs.RoundView.{left_of}
use Rattle.core_store.specs.Tables.{TablesView}
use Rattle.core_store.specs.Upkeep.{IsUpkeep, with_upkeep}
use Rattle.core_store.specs.Views.{view_of as tables_of}
use Rattle.core_store.proofs.HappensLaws.{client_note, counted-within, happens-upkeep}
use Rattle.core_store.proofs.JournalLaws.{grown, Happens}
use Rattle.core_store.proofs.JournalSteps.{Grows, HasGrown, has-grown}

-- ---- room is taken

Keeps-reserved : (j : JournalView) (v : TablesView) → Keeps j v → Keeps (record j { reserved = true }) v
Keeps-reserved j v k = record {
  legal = k.legal;
  running = k.running;
  opened = k.opened;
  bounded = k.bounded;
  entries = k.entries;
  consistent = k.consistent;
  laid = k.laid;
  stands = k.stands;
  led = k.led;
  safe = k.safe;
  numbered = k.numbered;
  spelled = k.spelled;
  of_ids = k.of_ids;
  red = k.red;
  walked = k.walked;
  left = k.left;
  limits = k.limits;
  counted = k.counted;
  full = k.full;
  unmarked = k.unmarked;
}

-- the journal with this trace
abbrev pub traced : {slots : ℕ} → Inside slots → Trace → Inside slots
traced a t = record { alloc = a.alloc; opening = a.opening; trace = t; tables = a.tables }

-- room was taken in the trace, and is kept for upkeep
pub record HasTaken {slots : ℕ} (a : Inside slots) (t u : Trace) : Type 0 where
  pub notes : t.notes.list ≡ a.trace.notes.list
  pub limits : t.limits ≡ a.trace.limits
  pub marks : t.marks ≡ a.trace.marks
  pub room : length t.notes.list + (a.tables.owed + 1) ≤ t.notes.room
  pub kept : u ≡ record t { reserved = true }

module _ {slots : ℕ} (a : Inside slots) (t u : Trace) (now : JournalView) (s : IsJournalInside a) (is : view_of a ≡ now) (within : is_past_limit now 1 ≡ false) (taken : HasTaken a t u) where
  notes : u.notes ≡ t.notes
  notes = ap (λ (x : Trace). x.notes) taken.kept

  items : u.notes.list ≡ a.trace.notes.list
  items = ap (λ (x : Trace). x.notes.list) taken.kept ∙ taken.notes

  limits : u.limits ≡ a.trace.limits
  limits = ap (λ (x : Trace). x.limits) taken.kept ∙ taken.limits

  seen : view_of (traced a u) ≡ record (view_of a) { reserved = true }
  seen =
      let n = items in
      let l = limits in
      let m : u.marks ≡ a.trace.marks = ap (λ (x : Trace). x.marks) taken.kept ∙ taken.marks in
      let r : u.reserved ≡ true = ap (λ (x : Trace). x.reserved) taken.kept in
      cc

  enough : length u.notes.list + a.tables.owed + 1 ≤ u.notes.room
  enough = subst (λ x. length x.list + a.tables.owed + 1 ≤ x.room) (sym notes) (let room = taken.room in omega (arith, room))

  few : length u.notes.list + a.tables.owed + 1 ≤ u.limits.trace
  few =
      let counted = counted-within (view_of a) (tables_of a.tables) (tables_of a.tables) 1 s.keeps (ap (λ (j : JournalView). is_past_limit j 1) is ∙ within) (omega arith) in
      let long = length-map a.trace.notes.list (λ (n : Note). n.entry) in
      let same = ap length items in
      let most = ap (λ (l : Limits). l.trace) limits in
      omega (arith, counted, long, same, most)

  pub reserved-sound : IsJournalInside (traced a u)
  reserved-sound = record {
    keeps = subst (λ (j : JournalView). Keeps j (tables_of a.tables)) (sym seen) (Keeps-reserved (view_of a) (tables_of a.tables) s.keeps);
    placed = s.placed;
    room = (let room = enough in omega (arith, room));
    reserved = λ _. (enough, few);
  }

  pub reserved-seen : view_of (traced a u) ≡ record now { reserved = true }
  reserved-seen = seen ∙ ap (λ (j : JournalView). let k : JournalView = record j { reserved = true } in k) is

-- ---- an entry of upkeep

module _ {slots : ℕ} (a : Inside slots) (t : Trace) (now : JournalView) (entry : Entry) (left : ℕ) (s : IsJournalInside a) (is : view_of a ≡ now) (reserved : now.reserved ≡ true) (upkeep : IsUpkeep (end_of now.history) entry) (g : Grows a (traced a t) (client_note entry None left)) where
  room : (length a.trace.notes.list + a.tables.owed + 1 ≤ a.trace.notes.room) × (length a.trace.notes.list + a.tables.owed + 1 ≤ a.trace.limits.trace)
  room = s.reserved (ap (λ (j : JournalView). j.reserved) is ∙ reserved)

  happens : Happens (view_of a) (tables_of a.tables) (client_note entry None left) (core_of (view_of a))
  happens =
      let within = room.1 in
      let long = length-map a.trace.notes.list (λ (n : Note). n.entry) in
      happens-upkeep (view_of a) (tables_of a.tables) entry left s.keeps (subst (λ (j : JournalView). IsUpkeep (end_of j.history) entry) (sym is) upkeep) (omega (arith, within, long))

  grows : HasGrown (traced a t) now [] [] (client_note entry None left) (core_of (view_of a))
  grows = has-grown a (traced a t) (client_note entry None left) (core_of (view_of a)) s g happens now [] [] is (record { fits = tt; lays = tt; agree = tt; elsewhere = λ p e. refl })

  pub upkeep-sound : length t.notes.list ≡ length a.trace.notes.list + 1 → a.trace.notes.room ≤ t.notes.room → IsJournalInside (traced a t)
  upkeep-sound long more = grows.sound (let enough = room.0 in omega (arith, enough, long, more))

  pub upkeep-entered : view_of (traced a t) ≡ with_upkeep slots now entry
  upkeep-entered =
      grows.view_is
      ∙ (ap (λ (j : JournalView). grown now (client_note entry None left) j.queue j.round) is
      ∙ ap (λ (n : ℕ). let k : JournalView = record now { history = with_entry now.history entry; notes = with_note now.notes entry None n Other; reserved = false } in k) (g.left ∙ ap (λ (j : JournalView). left_of slots j.round) is))

  pub upkeep-same : core_of (view_of (traced a t)) ≡ core_of now
  upkeep-same = grows.core_is ∙ ap core_of is
