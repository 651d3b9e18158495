-- The bytes of notes.
use Rattle.std.proofs.Common.{◌≡◌, ℕ, sym, List, [], ◌∷◌, ◌++◌, length, Option, None, ◌∙◌, ap, subst}
use Rattle.std.specs.Prelude.{IfSome, drop}
use Rattle.std.specs.List.{last_or, flat_map}
use Rattle.std.specs.Option.{option_map_or}
use Rattle.std.proofs.lemmas.List.{append-nil}
use Rattle.std.proofs.Math.Seq.{drop-append_seam}
use Rattle.core_store.proofs.ReplacedLists.{last_or-push}
use Rattle.log_record.specs.declared.cell_record.CellRecord.{CellRecord}
use Rattle.log_record.specs.Spelling.{cell_record_bytes}
use Rattle.page_marks.specs.declared.marks.PageMark.{PageMark}
use Rattle.core_store.specs.declared.note.Note.{Note}
use Rattle.core_store.specs.JournalView.{JournalView}
use Rattle.gate_log.specs.State.{LogState, appended, forced}
use Rattle.logged_journal.specs.View.{LoggedView}
use Rattle.logged_journal.specs.Calls.{KeepsDisk, LogGoesOn, appends, forces}
use Rattle.logged_journal.specs.Records.{note_bytes, bytes_joined, IsTypedNote, last_bytes, last_logged, IsLastTyped, AreMarkedAfter}

-- the record of the last note, spelled
pub last-push : (notes : List Note) (n : Note) → last_bytes (notes ++ n ∷ []) ≡ note_bytes n
last-push notes n = ap (λ (o : Option Note). option_map_or note_bytes o []) (last_or-push None notes n)

-- the numbers of the last note's record are in range
pub last-typed : (notes all : List Note) (n : Note) → all ≡ notes ++ n ∷ [] → IsLastTyped all → IsTypedNote n
last-typed notes all n is typed = subst (λ (o : Option Note). IfSome o IsTypedNote) (ap (λ (l : List Note). last_or None l) is ∙ last_or-push None notes n) typed

-- the marks are as what the last note logged makes them
pub last-marked : (slots own : ℕ) (notes all : List Note) (n : Note) (before now : List PageMark) → own ≡ slots → all ≡ notes ++ n ∷ [] → AreMarkedAfter slots (last_logged all) before now → AreMarkedAfter own n.logged before now
last-marked slots own notes all n before now same is marked =
    subst (λ (s : ℕ). AreMarkedAfter s n.logged before now) (sym same)
    (subst (λ (o : Option CellRecord). AreMarkedAfter slots o before now) (ap last_logged is ∙ ap (λ (o : Option Note). option_map_or (λ (m : Note). m.logged) o None) (last_or-push None notes n)) marked)

-- ---- the records of the notes that joined

-- none joined
pub joined-none : (old new : JournalView) → new.notes ≡ old.notes → bytes_joined old new ≡ []
joined-none old new same =
    ap (λ (l : List Note). flat_map note_bytes (drop (length old.notes) l)) (same ∙ sym (append-nil old.notes))
    ∙ ap (λ (l : List Note). flat_map note_bytes l) (drop-append_seam old.notes [])

-- one joined
pub joined-one : (old new : JournalView) (n : Note) → new.notes ≡ old.notes ++ n ∷ [] → bytes_joined old new ≡ note_bytes n
joined-one old new n more =
    ap (λ (l : List Note). flat_map note_bytes (drop (length old.notes) l)) more
    ∙ ap (λ (l : List Note). flat_map note_bytes l) (drop-append_seam old.notes (n ∷ []))
    ∙ append-nil (note_bytes n)

-- these bytes were appended, and are those of the notes that joined
pub appends-these : {D : Type 0} (old new : LoggedView D) (bytes : List ℕ) → bytes_joined old.journal new.journal ≡ bytes → KeepsDisk old new → new.log ≡ record (appended old.log bytes) { room = new.log.room } → LogGoesOn old new
appends-these old new bytes are kept log = appends kept (log ∙ ap (λ (b : List ℕ). record (appended old.log b) { room = new.log.room }) (sym are))

-- no note joined, and the log has the bytes that it had
pub appends-none : {D : Type 0} (old new : LoggedView D) → new.journal.notes ≡ old.journal.notes → KeepsDisk old new → new.log ≡ record old.log { room = new.log.room } → LogGoesOn old new
appends-none old new same kept log =
    appends-these old new [] (joined-none old.journal new.journal same) kept
    (log ∙ ap (λ (t : List ℕ). record old.log { tail = t; room = new.log.room }) (sym (append-nil old.log.tail)))

-- one note joined, and its record was appended
pub appends-one : {D : Type 0} (old new : LoggedView D) (n : Note) → new.journal.notes ≡ old.journal.notes ++ n ∷ [] → KeepsDisk old new → new.log ≡ record (appended old.log (note_bytes n)) { room = new.log.room } → LogGoesOn old new
appends-one old new n more kept log = appends-these old new (note_bytes n) (joined-one old.journal new.journal n more) kept log

-- the same, where it is told as the last note's
pub appends-last : {D : Type 0} (old new : LoggedView D) (n : Note) → new.journal.notes ≡ old.journal.notes ++ n ∷ [] → KeepsDisk old new → new.log ≡ record (appended old.log (last_bytes new.journal.notes)) { room = new.log.room } → LogGoesOn old new
appends-last old new n more kept log =
    appends-one old new n more kept (log ∙ ap (λ (b : List ℕ). record (appended old.log b) { room = new.log.room }) (ap last_bytes more ∙ last-push old.journal.notes n))

-- one note joined that logged nothing, and the log has the bytes that it had
pub appends-silent : {D : Type 0} (old new : LoggedView D) (n : Note) → n.logged ≡ None → new.journal.notes ≡ old.journal.notes ++ n ∷ [] → KeepsDisk old new → new.log ≡ record old.log { room = new.log.room } → LogGoesOn old new
appends-silent old new n none more kept log =
    appends-these old new [] (joined-one old.journal new.journal n more ∙ ap (λ (o : Option CellRecord). option_map_or cell_record_bytes o []) none) kept
    (log ∙ ap (λ (t : List ℕ). record old.log { tail = t; room = new.log.room }) (sym (append-nil old.log.tail)))

-- all of the tail was forced with these bytes, which are those of the notes that joined
pub forces-these : {D : Type 0} (old new : LoggedView D) (bytes : List ℕ) → bytes_joined old.journal new.journal ≡ bytes → new.durable ≡ length new.journal.notes → new.log ≡ forced (appended old.log bytes) → LogGoesOn old new
forces-these old new bytes are all log =
    let is = log ∙ ap (λ (b : List ℕ). forced (appended old.log b)) (sym are) in
    forces all (is ∙ ap (λ (n : ℕ). record (forced (appended old.log (bytes_joined old.journal new.journal))) { room = n }) (sym (ap (λ (l : LogState). l.room) is)))
