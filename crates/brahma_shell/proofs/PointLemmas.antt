-- Points of a history, and what the journals are there.
use Rattle.std.proofs.Common.{◌≡◌, ◌≢◌, ℕ, List, [], ◌∷◌, ◌++◌, append_assoc, Option, Some, None, refl, sym, ap, subst, ◌∙◌, ⊎_elim, true, arith}
use Rattle.std.specs.List.{last_or}
use Rattle.std.specs.Option.{option_map_or}
use Rattle.std.specs.Prelude.{Contains, option_map}
use Rattle.std.proofs.lemmas.List.{append-nil}
use Rattle.std.proofs.lemmas.List.Sums.{fold-append}
use Rattle.plain_model.specs.Graphs.{root}
use Rattle.plain_model.specs.History.{History, Moment, moment_after, start_of, end_of}
use Rattle.plain_model.proofs.StepLaws.{end_of-ids}
use Rattle.cell_model.specs.Cells.{Cell, cell_at, is_live}
use Rattle.store_model.specs.Core.{Core, is_named}
use Rattle.cell_model.specs.Records.{Record, cells_after}
use Rattle.store_model.specs.Sound.{IsSound}
use Rattle.log_record.specs.declared.cell_record.CellRecord.{CellRecord}
use Rattle.log_record.specs.Records.{record_of}
use Rattle.core_store.specs.declared.note.Note.{Note}
use Rattle.core_store.specs.JournalView.{JournalView, cells_of, core_of, opening_of, cells_after_notes, logged_in, last_left}
use Rattle.core_store.specs.Leads.{AreLed}
use Rattle.core_store.specs.Logged.{after_logged}
use Rattle.core_store.specs.References.{references_from, references_of}
use Rattle.core_store.specs.RoundView.{RoundView, Closed, round_of}
use Rattle.brahma_shell.specs.Points.{Point, after_note, after_notes, start_point, point_of, entries_in, MayRest}

pub after_notes-append : (p : Point) (xs ys : List Note) → after_notes p (xs ++ ys) ≡ after_notes (after_notes p xs) ys
after_notes-append p xs ys = fold-append after_note p xs ys

-- ---- part by part

pub moment-after : (p : Point) (ns : List Note) → (after_notes p ns).moment ≡ moment_after p.moment (entries_in ns)
moment-after p [] = refl
moment-after p (n ∷ ns) = moment-after (after_note p n) ns

refs-after : (p : Point) (ns : List Note) → (after_notes p ns).refs ≡ references_from p.moment p.refs ns
refs-after p [] = refl
refs-after p (n ∷ ns) = refs-after (after_note p n) ns

cells-one : (slots : ℕ) (cells : List Cell) (logged : Option CellRecord) (rest : List (Option Record)) → cells_after slots (after_logged slots cells logged) rest ≡ cells_after slots cells (option_map record_of logged ∷ rest)
cells-one slots cells None rest = refl
cells-one slots cells (Some r) rest = refl

cells-after : (p : Point) (ns : List Note) → (after_notes p ns).cells ≡ cells_after_notes p.slots p.cells ns
cells-after p [] = refl
cells-after p (n ∷ ns) = cells-after (after_note p n) ns ∙ cells-one p.slots p.cells n.logged (logged_in ns)

left-after : (p : Point) (ns : List Note) (last : Option Note) (d : ℕ) → p.left ≡ option_map_or (λ n. n.left) last d → (after_notes p ns).left ≡ option_map_or (λ n. n.left) (last_or last ns) d
left-after p [] last d e = e
left-after p (n ∷ ns) last d e = left-after (after_note p n) ns (Some n) d refl

slots-after : (p : Point) (ns : List Note) → (after_notes p ns).slots ≡ p.slots
slots-after p [] = refl
slots-after p (n ∷ ns) = slots-after (after_note p n) ns

opening-after : (p : Point) (ns : List Note) → (after_notes p ns).opening ≡ p.opening
opening-after p [] = refl
opening-after p (n ∷ ns) = opening-after (after_note p n) ns

notes-after : (p : Point) (ns : List Note) → (after_notes p ns).notes ≡ p.notes ++ ns
notes-after p [] = sym (append-nil p.notes)
notes-after p (n ∷ ns) = notes-after (after_note p n) ns ∙ append_assoc p.notes (n ∷ []) ns

-- ---- the end of a journal

pub moment_of_point : (j : JournalView) → entries_in j.notes ≡ j.history.entries → (point_of j).moment ≡ end_of j.history
moment_of_point j e = moment-after (start_point j) j.notes ∙ ap (moment_after (start_of j.history)) e

pub ids_of_point : (j : JournalView) → (point_of j).moment.state.ids ≡ j.history.ids
ids_of_point j =
    let h : History = record j.history { entries = entries_in j.notes } in
    ap (λ (m : Moment). m.state.ids) (moment-after (start_point j) j.notes) ∙ end_of-ids h

-- the notes lead to the journal
led_to_point : (slots : ℕ) (j : JournalView) → j.history.slots ≡ slots → AreLed slots (opening_of j) j.notes (core_of j) → AreLed (point_of j).slots (point_of j).opening (point_of j).notes (core_of j)
led_to_point slots j size led =
    let same : (point_of j).slots ≡ slots = slots-after (start_point j) j.notes ∙ size in
    let opening : (point_of j).opening ≡ opening_of j = opening-after (start_point j) j.notes in
    let notes : (point_of j).notes ≡ j.notes = notes-after (start_point j) j.notes in
    subst (λ (n : ℕ). AreLed n (point_of j).opening (point_of j).notes (core_of j)) (sym same)
    (subst (λ (c : Core). AreLed slots c (point_of j).notes (core_of j)) (sym opening)
    (subst (λ (ns : List Note). AreLed slots (opening_of j) ns (core_of j)) (sym notes) led))

pub left_of_point : (j : JournalView) → (point_of j).left ≡ last_left j.notes
left_of_point j = left-after (start_point j) j.notes None 0 refl

-- where no round is open nothing is left
closed-left : (slots : ℕ) (c d : Core) (p : Point) (ns : List Note) → AreLed slots c ns d → (c.round ≡ None → p.left ≡ 0) → d.round ≡ None → (after_notes p ns).left ≡ 0
closed-left slots c d p [] led start closed = start (ap (λ (x : Core). x.round) led ∙ closed)
closed-left slots c d p (n ∷ ns) led start closed = closed-left slots led.0 d (after_note p n) ns led.2 led.1.left.1 closed

pub none_left : (slots : ℕ) (j : JournalView) → AreLed slots (opening_of j) j.notes (core_of j) → round_of j.round ≡ None → (point_of j).left ≡ 0
none_left slots j led closed = closed-left slots (opening_of j) (core_of j) (start_point j) j.notes led (λ _. refl) closed

not_in : (id : ℕ) → Contains {X = ℕ} [] id → ⊥
not_in id h = omega (arith, h.1)

-- the collector may rest where its queue is empty and no round is open
pub may_rest : (slots : ℕ) (j : JournalView) → j.history.slots ≡ slots → IsSound (core_of j) → AreLed slots (opening_of j) j.notes (core_of j) → j.queue ≡ [] → j.round ≡ Closed → MayRest (point_of j)
may_rest slots j size sound led empty closed = record {
  core = core_of j;
  led = led_to_point slots j size led;
  none_queued = empty;
  none_open = ap round_of closed;
  closed = none_left slots j led (ap round_of closed);
  named = λ id live other zero.
      let cells : (point_of j).cells ≡ cells_of j = cells-after (start_point j) j.notes in
      let refs : (point_of j).refs ≡ references_of (start_of j.history) j.notes = refs-after (start_point j) j.notes in
      rw refs (named id (rw cells at live) other (rw cells at zero));
}
  where
    named : (id : ℕ) → is_live (cells_of j) id ≡ true → id ≢ root → (cell_at (cells_of j) id).strong ≡ 0 → is_named (references_of (start_of j.history) j.notes) id ≡ true
    named id live other zero =
        ⊎_elim
        (λ q. absurd (not_in id (subst (λ (ids : List ℕ). Contains ids id) empty q)))
        (λ r. ⊎_elim (λ i. absurd (not_in id (subst (λ (v : RoundView). Contains (option_map_or (λ r. r.list) (round_of v) []) id) closed i))) (λ n. n) r)
        (sound.zero id live other zero)
