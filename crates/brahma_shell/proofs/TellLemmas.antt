-- What is written after a run of clients.
use Rattle.std.proofs.Common.{◌≡◌, ◌≤◌, ℕ, List, [], ◌∷◌, ◌++◌, Option, Some, None, Result, Ok, Err, refl, sym, ap, subst, ◌∙◌, arith}
use Rattle.std.specs.Prelude.{IfErr, OnOk}
use Rattle.std.specs.List.{AllByRecursion}
use Rattle.std.specs.Option.{option_map_or}
use Rattle.std.specs.Io.KnownBytes.{Appends}
use Rattle.std.proofs.lemmas.List.{append-nil, append_assoc, map-append}
use Rattle.plain_model.specs.declared.calls.Call.TheVariants.{Commit}
use Rattle.plain_model.specs.declared.calls.Reply.TheVariants.{DiskFault}
use Rattle.plain_model.specs.declared.calls.Entry.{Entry}
use Rattle.plain_model.specs.declared.calls.Entry.TheVariants.{Call, Delete, Hidden, Undo, TurnBusy, Crash}
use Rattle.plain_model.specs.Text.{line_of, text_of}
use Rattle.log_record.specs.declared.cell_record.CellRecord.{CellRecord}
use Rattle.log_record.specs.declared.cell_record.CellRecord.TheVariants as logs
use Rattle.store_model.specs.Core.{Round, Core}
use Rattle.core_store.specs.declared.act.Act.{Act}
use Rattle.core_store.specs.declared.act.Act.TheVariants as act
use Rattle.core_store.specs.declared.note.Note.{Note}
use Rattle.core_store.specs.Collects.{entry_of}
use Rattle.core_store.specs.Leads.{IsLoggedByOther, Turns, AreLed}
use Rattle.logged_journal.specs.declared.failed.FailedCall.{FailedCall}
use Rattle.logged_journal.specs.View.{LoggedView, failed_commit, history_of}
use Rattle.script_lines.specs.Output.{AppendsFront}
use Rattle.disk_model.specs.Causes.{Rose}
use Rattle.script_lines.proofs.OutputLemmas.{Appends-trans, AppendsFront-after, AppendsFront-longer}
use Rattle.brahma_shell.specs.declared.replay.Stop.{Stop}
use Rattle.brahma_shell.specs.declared.replay.Stop.TheVariants as stop
use Rattle.brahma_shell.specs.Points.{entries_in}
use Rattle.brahma_shell.specs.Telling.{IsNoCrash, failed_text}
use Rattle.brahma_shell.proofs.FollowLemmas.{text_of-append}

-- ---- no journal enters that its store was opened again

entered : (c : Core) (e : Entry) (logged : Option CellRecord) → IsLoggedByOther c e logged → IsNoCrash e
entered c (Call client call reply) logged h = tt
entered c (Delete id) logged h = absurd h
entered c Hidden logged h = tt
entered c (Undo client) logged h = tt
entered c (TurnBusy client) logged h = tt
entered c (Crash cells) logged h = absurd h

collected : (logged : Option CellRecord) → IsNoCrash (entry_of logged)
collected (Some (logs.Free id)) = tt
collected other = tt

turned : (slots : ℕ) (c : Core) (a : Act) (e : Entry) (logged : Option CellRecord) (left : ℕ) (queue : List ℕ) (round : Option Round) → Turns slots c (record { entry = e; logged = logged; left = left; act = a }) queue round → IsNoCrash e
turned slots c act.Other e logged left queue round h = entered c e logged h.0
turned slots c (act.Skip id) e logged left queue round h = subst IsNoCrash (sym h.0) (collected logged)
turned slots c (act.Start id) e logged left queue round h = subst IsNoCrash (sym h.0) (collected logged)
turned slots c (act.Scan id) e logged left queue round h = subst IsNoCrash (sym h.0) (collected logged)
turned slots c act.Judge e logged left queue round h = subst IsNoCrash (sym h.0) (collected logged)
turned slots c act.End e logged left queue round h = subst IsNoCrash (sym h.0) (collected logged)
turned slots c act.Change e logged left queue round h = subst IsNoCrash (sym h.0) (collected logged)

pub no-crash : (slots : ℕ) (c d : Core) (ns : List Note) → AreLed slots c ns d → AllByRecursion IsNoCrash (entries_in ns)
no-crash slots c d [] led = tt
no-crash slots c d (n ∷ ns) led = (turned slots c n.act n.entry n.logged n.left led.0.queue led.0.round led.1.turns, no-crash slots led.0 d ns led.2)

-- ---- the lines of entries

-- the next entry's line after those of the first entries
pub entries-next : (done : List Entry) (e : Entry) → text_of (done ++ e ∷ []) ≡ text_of done ++ line_of e
entries-next done e = text_of-append done (e ∷ []) ∙ ap (λ (xs : List ℕ). text_of done ++ xs) (append-nil (line_of e))

-- ---- the history's lines

-- the lines of the notes, and that of a commit that the disk failed
pub history-parts : {D : Type 0} (v : LoggedView D) (notes : List Note) → entries_in notes ≡ v.journal.history.entries → text_of (history_of v).entries ≡ text_of (entries_in notes) ++ failed_text v.failed
history-parts {D} v notes entries = cases (failed_commit v) refl
  where
    all : text_of (entries_in notes) ≡ text_of v.journal.history.entries
    all = ap text_of entries

    cases : (o : Option ℕ) → o ≡ failed_commit v → text_of (option_map_or (λ client. record v.journal.history { entries = v.journal.history.entries ++ Call client Commit DiskFault ∷ [] }) o v.journal.history).entries ≡ text_of (entries_in notes) ++ option_map_or (λ client. line_of (Call client Commit DiskFault)) o []
    cases None is = sym all ∙ sym (append-nil (text_of (entries_in notes)))
    cases (Some client) is = entries-next v.journal.history.entries (Call client Commit DiskFault) ∙ ap (λ (xs : List ℕ). xs ++ line_of (Call client Commit DiskFault)) (sym all)

-- the line of a commit that the disk failed
pub text-failed : (o : Option FailedCall) (f : FailedCall) (client : ℕ) → o ≡ Some f → f.commit ≡ Some client → failed_text o ≡ line_of (Call client Commit DiskFault)
text-failed o f client e is = ap failed_text e ∙ ap (λ (c : Option ℕ). option_map_or (λ p. line_of (Call p Commit DiskFault)) c []) is

-- ---- notes, one after another

-- the first of the notes that are left is of no crash
pub no-crash_first : (note : Note) (left rest : List Note) → left ≡ note ∷ rest → AllByRecursion IsNoCrash (entries_in left) → IsNoCrash note.entry × AllByRecursion IsNoCrash (entries_in rest)
no-crash_first note left rest is all = subst (λ (ns : List Note). AllByRecursion IsNoCrash (entries_in ns)) is all

-- the next note's line after those of the notes before
text-more : (done : List Note) (note : Note) → text_of (entries_in (done ++ note ∷ [])) ≡ text_of (entries_in done) ++ line_of note.entry
text-more done note = ap text_of (map-append (λ (n : Note). n.entry) done (note ∷ [])) ∙ entries-next (entries_in done) note.entry

-- the next note's line was written after those of the notes before
pub appends-more : (old mid new : Option (List ℕ)) (done : List Note) (note : Note) → Appends old mid (text_of (entries_in done)) → Appends mid new (line_of note.entry) → Appends old new (text_of (entries_in (done ++ note ∷ [])))
appends-more old mid new done note a b = subst (Appends old new) (sym (text-more done note)) (Appends-trans old mid new (text_of (entries_in done)) (line_of note.entry) a b)

-- or a front of it, so a front of all lines
pub front-more : (old mid new : Option (List ℕ)) (done left rest notes : List Note) (note : Note) → done ++ left ≡ notes → left ≡ note ∷ rest → Appends old mid (text_of (entries_in done)) → AppendsFront mid new (line_of note.entry) → AppendsFront old new (text_of (entries_in notes))
front-more old mid new done left rest notes note whole is a b =
    let now : AppendsFront old new (text_of (entries_in (done ++ note ∷ []))) = subst (AppendsFront old new) (sym (text-more done note)) (AppendsFront-after old mid new (text_of (entries_in done)) (line_of note.entry) a b) in
    let parts : (done ++ note ∷ []) ++ rest ≡ notes = append_assoc done (note ∷ []) rest ∙ (ap (λ (ns : List Note). done ++ ns) (sym is) ∙ whole) in
    let all : text_of (entries_in (done ++ note ∷ [])) ++ text_of (entries_in rest) ≡ text_of (entries_in notes) =
    sym (text_of-append (entries_in (done ++ note ∷ [])) (entries_in rest)) ∙ ap text_of (sym (map-append (λ (n : Note). n.entry) (done ++ note ∷ []) rest)) ∙ ap (λ (ns : List Note). text_of (entries_in ns)) parts in
    subst (AppendsFront old new) all (AppendsFront-longer old new (text_of (entries_in (done ++ note ∷ []))) (text_of (entries_in rest)) now)

-- a front of the notes' lines is one of the history's lines
pub front-all : {D : Type 0} (v : LoggedView D) (notes : List Note) (old new : Option (List ℕ)) → entries_in notes ≡ v.journal.history.entries → AppendsFront old new (text_of (entries_in notes)) → AppendsFront old new (text_of (history_of v).entries)
front-all v notes old new entries h = subst (AppendsFront old new) (sym (history-parts v notes entries)) (AppendsFront-longer old new (text_of (entries_in notes)) (failed_text v.failed) h)

-- ---- how the writing of lines fails

-- the sink failed, and a front of this text was written
abbrev pub StopsWriting : Option (List ℕ) → Option (List ℕ) → ℕ → ℕ → List ℕ → Stop → Type 0
StopsWriting old new before now text s = (s ≡ stop.Write) × AppendsFront old new text × Rose before now

pub err-of_text : {T : Type 0} (r : Result T Stop) (old new : Option (List ℕ)) (before now : ℕ) (a b : List ℕ) → a ≡ b → IfErr r (StopsWriting old new before now a) → IfErr r (StopsWriting old new before now b)
err-of_text r old new before now a b e h = subst (λ text. IfErr r (StopsWriting old new before now text)) e h

-- after a text that was written
pub err-behind : {T : Type 0} (r : Result T Stop) (old mid new : Option (List ℕ)) («first» before now : ℕ) (a b : List ℕ) → «first» ≤ before → Appends old mid a → IfErr r (StopsWriting mid new before now b) → IfErr r (StopsWriting old new «first» now (a ++ b))
err-behind (Ok x) old mid new first before now a b le w h = tt
err-behind (Err s) old mid new first before now a b le w h = (h.0, AppendsFront-after old mid new a b w h.1, let rose = h.2 in omega (arith, rose, le))

pub ok-behind : {T : Type 0} (r : Result T Stop) (old mid new : Option (List ℕ)) (a b : List ℕ) → Appends old mid a → OnOk r (Appends mid new b) → OnOk r (Appends old new (a ++ b))
ok-behind (Ok x) old mid new a b w h = Appends-trans old mid new a b w h
ok-behind (Err s) old mid new a b w h = tt
