-- The notes of a journal in their rows: one more, how many there are, and the last one.
use Rattle.std.proofs.Common.{◌≡◌, ℕ, ◌-◌, ◌<◌, ◌≤◌, List, [], ◌∷◌, ◌++◌, length, Option, Some, None, refl, sym, ap, ◌∙◌, subst, arith}
use Rattle.std.specs.Prelude.{option_map}
use Rattle.std.specs.Global.{Vec}
use Rattle.std.specs.Option.{option_map_or}
use Rattle.std.specs.List.{last_or, slice_get}
use Rattle.log_record.specs.declared.cell_record.CellRecord.{CellRecord}
use Rattle.core_store.specs.declared.note.Note.{Note}
use Rattle.core_store.specs.declared.notes.EventNote.{EventNote}
use Rattle.core_store.specs.declared.notes.PlainNote.{PlainNote}
use Rattle.core_store.specs.declared.notes.Row.{Row}
use Rattle.core_store.specs.declared.notes.Row.TheVariants as row
use Rattle.core_store.specs.Notes.{NotesView, in_order, AreFilled, AreNotesInside, note_of_event, note_of_plain, logged_of, logged_of_plain}
use Rattle.core_store.proofs.ReplacedLists.{slice_get-last}

-- ---- one more

pub filled-plain : (rows : List Row) (plain : List PlainNote) (events : List EventNote) (n : PlainNote) → AreFilled rows plain events → AreFilled (rows ++ row.Plain ∷ []) (plain ++ n ∷ []) events
filled-plain [] [] events n f = (refl, f.1)
filled-plain [] (p ∷ plain) events n f = absurd (let none = f.0 in cc)
filled-plain (row.Plain ∷ rows) [] events n f = absurd f
filled-plain (row.Plain ∷ rows) (p ∷ plain) events n f = filled-plain rows plain events n f
filled-plain (row.Event ∷ rows) plain [] n f = absurd f
filled-plain (row.Event ∷ rows) plain (e ∷ events) n f = filled-plain rows plain events n f

pub filled-event : (rows : List Row) (plain : List PlainNote) (events : List EventNote) (e : EventNote) → AreFilled rows plain events → AreFilled (rows ++ row.Event ∷ []) plain (events ++ e ∷ [])
filled-event [] plain [] e f = (f.0, refl)
filled-event [] plain (x ∷ events) e f = absurd (let none = f.1 in cc)
filled-event (row.Plain ∷ rows) [] events e f = absurd f
filled-event (row.Plain ∷ rows) (p ∷ plain) events e f = filled-event rows plain events e f
filled-event (row.Event ∷ rows) plain [] e f = absurd f
filled-event (row.Event ∷ rows) plain (x ∷ events) e f = filled-event rows plain events e f

pub in_order-plain : (rows : List Row) (plain : List PlainNote) (events : List EventNote) (n : PlainNote) → AreFilled rows plain events → in_order (rows ++ row.Plain ∷ []) (plain ++ n ∷ []) events ≡ in_order rows plain events ++ note_of_plain n ∷ []
in_order-plain [] [] events n f = refl
in_order-plain [] (p ∷ plain) events n f = absurd (let none = f.0 in cc)
in_order-plain (row.Plain ∷ rows) [] events n f = absurd f
in_order-plain (row.Plain ∷ rows) (p ∷ plain) events n f = ap (λ (ns : List Note). note_of_plain p ∷ ns) (in_order-plain rows plain events n f)
in_order-plain (row.Event ∷ rows) plain [] n f = absurd f
in_order-plain (row.Event ∷ rows) plain (e ∷ events) n f = ap (λ (ns : List Note). note_of_event e.event e.left ∷ ns) (in_order-plain rows plain events n f)

pub in_order-event : (rows : List Row) (plain : List PlainNote) (events : List EventNote) (e : EventNote) → AreFilled rows plain events → in_order (rows ++ row.Event ∷ []) plain (events ++ e ∷ []) ≡ in_order rows plain events ++ note_of_event e.event e.left ∷ []
in_order-event [] plain [] e f = refl
in_order-event [] plain (x ∷ events) e f = absurd (let none = f.1 in cc)
in_order-event (row.Plain ∷ rows) [] events e f = absurd f
in_order-event (row.Plain ∷ rows) (p ∷ plain) events e f = ap (λ (ns : List Note). note_of_plain p ∷ ns) (in_order-event rows plain events e f)
in_order-event (row.Event ∷ rows) plain [] e f = absurd f
in_order-event (row.Event ∷ rows) plain (x ∷ events) e f = ap (λ (ns : List Note). note_of_event x.event x.left ∷ ns) (in_order-event rows plain events e f)

-- ---- how many

pub in_order-len : (rows : List Row) (plain : List PlainNote) (events : List EventNote) → AreFilled rows plain events → length (in_order rows plain events) ≡ length rows
in_order-len [] plain events f = refl
in_order-len (row.Plain ∷ rows) [] events f = absurd f
in_order-len (row.Plain ∷ rows) (p ∷ plain) events f = let same = in_order-len rows plain events f in omega (arith, same)
in_order-len (row.Event ∷ rows) plain [] f = absurd f
in_order-len (row.Event ∷ rows) plain (e ∷ events) f = let same = in_order-len rows plain events f in omega (arith, same)

-- neither row has more than the order tells of
pub filled-few : (rows : List Row) (plain : List PlainNote) (events : List EventNote) → AreFilled rows plain events → (length plain ≤ length rows) × (length events ≤ length rows)
filled-few [] plain events f = let none = ap length f.0 in let nothing = ap length f.1 in (omega (arith, none), omega (arith, nothing))
filled-few (row.Plain ∷ rows) [] events f = absurd f
filled-few (row.Plain ∷ rows) (p ∷ plain) events f = let few = filled-few rows plain events f in let a = few.0 in let b = few.1 in (omega (arith, a), omega (arith, b))
filled-few (row.Event ∷ rows) plain [] f = absurd f
filled-few (row.Event ∷ rows) plain (e ∷ events) f = let few = filled-few rows plain events f in let a = few.0 in let b = few.1 in (omega (arith, a), omega (arith, b))

-- where there is room for one more, there is in the row that tells the order
pub room-in_order : (order : Vec Row) (plain : Vec PlainNote) (events : Vec EventNote) (room : ℕ) (v : NotesView) → AreNotesInside order plain events room → (let seen : NotesView = record { list = in_order order.items plain.items events.items; room = room } in seen) ≡ v → length v.list < v.room → length order.items < room
room-in_order order plain events room v inside is below =
    let long = in_order-len order.items plain.items events.items inside.filled in
    let seen = ap (λ (x : NotesView). length x.list) is in
    let kept = ap (λ (x : NotesView). x.room) is in
    omega (arith, long, seen, kept, below)

-- ---- the last one

-- the last note is the last one of the row that the order ends with
abbrev pub IsLastOfRow : Option Row → Option PlainNote → Option EventNote → Option Note → Type 0
IsLastOfRow None p e last = last ≡ None
IsLastOfRow (Some row.Plain) p e last = last ≡ option_map note_of_plain p
IsLastOfRow (Some row.Event) p e last = last ≡ option_map (λ x. note_of_event x.event x.left) e

last-from : (rows : List Row) (plain : List PlainNote) (events : List EventNote) (r : Option Row) (p : Option PlainNote) (e : Option EventNote) (n : Option Note) → AreFilled rows plain events → IsLastOfRow r p e n → IsLastOfRow (last_or r rows) (last_or p plain) (last_or e events) (last_or n (in_order rows plain events))
last-from [] [] [] r p e n f is = is
last-from [] (x ∷ plain) events r p e n f is = absurd (let none = f.0 in cc)
last-from [] [] (x ∷ events) r p e n f is = absurd (let none = f.1 in cc)
last-from (row.Plain ∷ rows) [] events r p e n f is = absurd f
last-from (row.Plain ∷ rows) (x ∷ plain) events r p e n f is = last-from rows plain events (Some row.Plain) (Some x) e (Some (note_of_plain x)) f refl
last-from (row.Event ∷ rows) plain [] r p e n f is = absurd f
last-from (row.Event ∷ rows) plain (x ∷ events) r p e n f is = last-from rows plain events (Some row.Event) p (Some x) (Some (note_of_event x.event x.left)) f refl

last-note : (rows : List Row) (plain : List PlainNote) (events : List EventNote) → AreFilled rows plain events → IsLastOfRow (last_or None rows) (last_or None plain) (last_or None events) (last_or None (in_order rows plain events))
last-note rows plain events f = last-from rows plain events None None None None f refl

abbrev last_logged_in : Option Note → Option CellRecord
last_logged_in last = option_map_or (λ n. n.logged) last None

-- what the last note logged, where the order ends with either row
pub last-plain : (rows : List Row) (plain : List PlainNote) (events : List EventNote) (v : NotesView) (last : Option PlainNote) → AreFilled rows plain events → in_order rows plain events ≡ v.list → Some row.Plain ≡ last_or None rows → last ≡ last_or None plain → option_map_or (λ (n : PlainNote). logged_of_plain n.event) last None ≡ last_logged_in (last_or None v.list)
last-plain rows plain events v last f is ends here =
    let told = subst (λ (r : Option Row). IsLastOfRow r (last_or None plain) (last_or None events) (last_or None (in_order rows plain events))) (sym ends) (last-note rows plain events f) in
    logged last ∙ (ap (λ (o : Option PlainNote). last_logged_in (option_map note_of_plain o)) here ∙ (sym (ap last_logged_in told) ∙ ap (λ (ns : List Note). last_logged_in (last_or None ns)) is))
  where
    logged : (o : Option PlainNote) → option_map_or (λ (n : PlainNote). logged_of_plain n.event) o None ≡ last_logged_in (option_map note_of_plain o)
    logged None = refl
    logged (Some n) = refl

pub last-event : (rows : List Row) (plain : List PlainNote) (events : List EventNote) (v : NotesView) (last : Option EventNote) → AreFilled rows plain events → in_order rows plain events ≡ v.list → Some row.Event ≡ last_or None rows → last ≡ last_or None events → option_map_or (λ (e : EventNote). logged_of e.event) last None ≡ last_logged_in (last_or None v.list)
last-event rows plain events v last f is ends here =
    let told = subst (λ (r : Option Row). IsLastOfRow r (last_or None plain) (last_or None events) (last_or None (in_order rows plain events))) (sym ends) (last-note rows plain events f) in
    logged last ∙ (ap (λ (o : Option EventNote). last_logged_in (option_map (λ x. note_of_event x.event x.left) o)) here ∙ (sym (ap last_logged_in told) ∙ ap (λ (ns : List Note). last_logged_in (last_or None ns)) is))
  where
    logged : (o : Option EventNote) → option_map_or (λ (e : EventNote). logged_of e.event) o None ≡ last_logged_in (option_map (λ x. note_of_event x.event x.left) o)
    logged None = refl
    logged (Some e) = refl

-- the last of a row, as its slice has it
pub last-of : {A : Type 0} (xs ys : List A) (last : Option A) → last ≡ slice_get xs (length xs - 1) → xs ≡ ys → last ≡ last_or None ys
last-of xs ys last e same = e ∙ (slice_get-last xs ∙ ap (last_or None) same)
