use Rattle.std.proofs.Common.{◌≡◌, ◌∙◌, ◌*◌, ◌≤◌, ◌-◌, [], List, ℕ, All, Option, Some, None, length, refl, sym, ap, subst, arith}
use Rattle.std.specs.Prelude.{IfSome}
use Rattle.std.specs.Option.{option_map_or}
use Rattle.std.specs.List.{last_or}
use Rattle.std.proofs.lemmas.List.{append-nil}
use Rattle.std.proofs.lemmas.List.Elements.{All-contains}
use Rattle.log_record.specs.declared.cell_record.CellRecord.{CellRecord}
use Rattle.log_record.specs.Spelling.{cell_record_bytes, HasCellSpelling, IsTypedCellRecord}
use Rattle.gate_log.specs.State.{LogState, appended}
use Rattle.core_store.specs.declared.note.Note.{Note}
use Rattle.core_store.specs.Spelled.{IsOfIds}
use Rattle.core_store.proofs.ReplacedLists.{last-contained}
use Rattle.logged_journal.proofs.NoteRecords.{within-some}
use Rattle.logged_journal.specs.Records.{note_bytes, IsTypedNote, last_bytes, last_logged, IsLastTyped, AreMarkedAfter}
use Rattle.logged_journal.proofs.spell.append_last.Goals as goal

-- what the last note logged
last-is : (notes read : List Note) (logged : Option CellRecord) → read ≡ notes → logged ≡ last_logged read → last_logged notes ≡ logged
last-is notes read logged same is = ap last_logged (sym same) ∙ sym is

-- its bytes
last-spelled : (notes : List Note) → last_bytes notes ≡ option_map_or cell_record_bytes (last_logged notes) []
last-spelled notes = by (last_or None notes)
  where
    by : (o : Option Note) → option_map_or note_bytes o [] ≡ option_map_or cell_record_bytes (option_map_or (λ (n : Note). n.logged) o None) []
    by None = refl
    by (Some n) = refl

-- the bytes of the last note
last-bytes : (notes read : List Note) (logged : Option CellRecord) → read ≡ notes → logged ≡ last_logged read → last_bytes notes ≡ option_map_or cell_record_bytes logged []
last-bytes notes read logged same is = last-spelled notes ∙ ap (λ (o : Option CellRecord). option_map_or cell_record_bytes o []) (last-is notes read logged same is)

-- what holds of each note's record holds of the last note's
last-holds : (P : CellRecord → Type 0) (notes : List Note) (change : CellRecord) → last_logged notes ≡ Some change → All (λ (n : Note). IfSome n.logged P) notes → P change
last-holds P notes change is all = by (last_or None notes) refl
  where
    by : (o : Option Note) → last_or None notes ≡ o → P change
    by None e = let none : last_logged notes ≡ None = ap (λ (o : Option Note). option_map_or (λ (n : Note). n.logged) o None) e in absurd (cc)
    by (Some n) e =
        let logs : n.logged ≡ Some change = sym (ap (λ (o : Option Note). option_map_or (λ (m : Note). m.logged) o None) e) ∙ is in
        subst (λ (o : Option CellRecord). IfSome o P) logs (All-contains (λ (m : Note). IfSome m.logged P) notes n all (last-contained notes n e))

pub append_record-requires-clause-spelled : goal.append_record-requires-clause-spelled
append_record-requires-clause-spelled g c =
    let is = last-is c.args.journal.now.notes c.history.result.now.list (Some c.in-Some.record) c.history.ensures.notes c.in-Some.ensures in
    last-holds (HasCellSpelling g.row.SLOTS) c.args.journal.now.notes c.in-Some.record is c.history.ensures.spelled

pub take-requires : goal.take-requires
take-requires g c =
    let is = last-is c.args.journal.now.notes c.history.result.now.list (Some c.in-Some.record) c.history.ensures.notes c.in-Some.ensures in
    let named : IsOfIds c.args.journal.now.history.ids c.in-Some.record = last-holds (IsOfIds c.args.journal.now.history.ids) c.args.journal.now.notes c.in-Some.record is c.history.ensures.of_ids in
    within-some (8 * length c.args.marks.now) (Some c.in-Some.record) (subst (λ (n : ℕ). IsOfIds n c.in-Some.record) c.requires.pages named)

pub append_record-requires-clause-room : goal.append_record-requires-clause-room
append_record-requires-clause-room g c =
    let bytes = last-bytes c.args.journal.now.notes c.history.result.now.list (Some c.in-Some.record) c.history.ensures.notes c.in-Some.ensures in
    subst (λ (l : List ℕ). length l ≤ c.args.log.now.room) bytes c.requires.room

pub returns-in-Some-clause-log : goal.returns-in-Some-clause-log
returns-in-Some-clause-log g c =
    let bytes = last-bytes c.args.journal.now.notes c.history.result.now.list (Some c.in-Some.record) c.history.ensures.notes c.in-Some.ensures in
    c.append_record.ensures.log ∙ ap (λ (l : List ℕ). appended c.args.log.now l) (sym bytes)

-- no bytes change nothing
append-none : (s : LogState) → appended s [] ≡ s
append-none s =
    let same : s.room - 0 ≡ s.room = omega (arith) in
    ap (λ (l : List ℕ). record s { tail = l; room = s.room - 0 }) (append-nil s.tail) ∙ ap (λ (n : ℕ). record s { room = n }) same

pub returns-in_default-clause-log : goal.returns-in_default-clause-log
returns-in_default-clause-log g c =
    let bytes = last-bytes c.args.journal.now.notes c.history.result.now.list None c.history.ensures.notes c.in_default.ensures in
    sym (append-none c.args.log.now) ∙ ap (λ (l : List ℕ). appended c.args.log.now l) (sym bytes)

-- the numbers of the last note's record
last-typed : (notes read : List Note) (logged : Option CellRecord) → read ≡ notes → logged ≡ last_logged read → IfSome logged IsTypedCellRecord → IsLastTyped notes
last-typed notes read logged same is typed = by (last_or None notes) (subst (λ (o : Option CellRecord). IfSome o IsTypedCellRecord) (sym (last-is notes read logged same is)) typed)
  where
    by : (o : Option Note) → IfSome (option_map_or (λ (n : Note). n.logged) o None) IsTypedCellRecord → IfSome o IsTypedNote
    by None h = tt
    by (Some n) h = h

pub returns-in-Some-clause-typed : goal.returns-in-Some-clause-typed
returns-in-Some-clause-typed g c = last-typed c.args.journal.now.notes c.history.result.now.list (Some c.in-Some.record) c.history.ensures.notes c.in-Some.ensures c.append_record.ensures.typed

pub returns-in_default-clause-typed : goal.returns-in_default-clause-typed
returns-in_default-clause-typed g c = last-typed c.args.journal.now.notes c.history.result.now.list None c.history.ensures.notes c.in_default.ensures tt

pub returns-in-Some-clause-marks : goal.returns-in-Some-clause-marks
returns-in-Some-clause-marks g c =
    let is = last-is c.args.journal.now.notes c.history.result.now.list (Some c.in-Some.record) c.history.ensures.notes c.in-Some.ensures in
    subst (λ (o : Option CellRecord). AreMarkedAfter g.row.SLOTS o c.args.marks.now c.take.new.self) (sym is) (c.take.ensures g.row.SLOTS)

pub returns-in_default-clause-marks : goal.returns-in_default-clause-marks
returns-in_default-clause-marks g c =
    let is = last-is c.args.journal.now.notes c.history.result.now.list None c.history.ensures.notes c.in_default.ensures in
    subst (λ (o : Option CellRecord). AreMarkedAfter g.row.SLOTS o c.args.marks.now c.args.marks.now) (sym is) refl
