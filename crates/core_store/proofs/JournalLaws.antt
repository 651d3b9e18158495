-- One note more keeps a journal sound.
use Rattle.std.proofs.Common.{◌≡◌, ℕ, ◌+◌, ◌≤◌, List, [], ◌∷◌, ◌++◌, true, false, length, map, refl, sym, ap, ◌∙◌, subst, Option, Some, None, arith, append_assoc}
use Rattle.std.specs.Prelude.{is_some, IsSome, IfSome, option_map}
use Rattle.std.specs.Option.{option_map_or}
use Rattle.std.proofs.lemmas.List.{map-append, length_push}
use Rattle.std.proofs.lemmas.List.Sums.{fold-append}
use Rattle.plain_model.specs.declared.object.Object.{Object}
use Rattle.plain_model.specs.ActiveTransaction.{ActiveTransaction}
use Rattle.plain_model.specs.Machine.{transaction_of}
use Rattle.plain_model.specs.declared.calls.Entry.{Entry}
use Rattle.plain_model.specs.History.{Moment, IsAllowed, next, moment_after, with_entry, start_of, end_of, is_stopped}
use Rattle.plain_model.proofs.HistoryLemmas.{IsLegal-with_entry, end_of-with_entry}
use Rattle.log_record.specs.declared.cell_record.CellRecord.{CellRecord}
use Rattle.log_record.specs.Records.{record_of, FitsCells, LaysWell}
use Rattle.cell_model.specs.Cells.{Cell}
use Rattle.store_model.specs.Core.{Core, Ref, Round}
use Rattle.cell_model.specs.Records.{Record, Fits, IsWellLaid, after_record, cells_after, AllFit, AllWellLaid}
use Rattle.cell_model.specs.Consistent.{AreConsistent}
use Rattle.cell_model.proofs.ConsistentLaws.{consistent-after}
use Rattle.restart_laws.specs.Logged.{Logs}
use Rattle.restart_laws.specs.Restartable.{IsRestartable}
use Rattle.restart_laws.proofs.RestartableLaws.{events}
use Rattle.core_store.specs.declared.note.Note.{Note}
use Rattle.core_store.specs.Events.{core_after}
use Rattle.core_store.specs.JournalView.{JournalView, cells_of, cells_after_notes, core_of, opening_of, logged_in}
use Rattle.core_store.specs.Journal.{Keeps}
use Rattle.core_store.specs.Leads.{Turns, AreLed}
use Rattle.core_store.specs.Limited.{WasFull}
use Rattle.core_store.specs.Logged.{after_logged}
use Rattle.core_store.specs.Owed.{entries_owed}
use Rattle.core_store.specs.References.{references_by, references_of}
use Rattle.core_store.specs.RoundView.{RoundView, round_of, left_of}
use Rattle.core_store.specs.Safe.{IsSafe}
use Rattle.core_store.specs.Tables.{TablesView}
use Rattle.core_store.specs.Transactions.{Running, running_at}
use Rattle.core_store.specs.Stands.{Matches, Stands}
use Rattle.core_store.proofs.LedLaws.{AreLed-push, references-from_push, last_left-push, left-told}
use Rattle.core_store.specs.Clients.{AreNumbered, IsNumbered}
use Rattle.core_store.specs.Spelled.{IsOfIds}
use Rattle.core_store.specs.RedWalks.{RedWalk, no_walk, walk_after, IsOver, is_first_copy}
use Rattle.core_store.specs.RedCursor.{IsRedWalk, red_of}
use Rattle.core_store.proofs.RedNotes.{walk-push, AreWalked-push}
use Rattle.core_store.proofs.ClientNumbers.{numbered-next}
use Rattle.core_store.proofs.SpelledLaws.{IsOfClient, IsSpelledIn, spelled-logged}
use Rattle.log_record.specs.Spelling.{HasCellSpelling}
use Rattle.plain_model.proofs.StepLaws.{end_of-ids}
use Rattle.std.proofs.lemmas.List.Elements.{All-push}

-- the journal with one note more, and what its tables have of the collector then
abbrev pub grown : JournalView → Note → List ℕ → RoundView → JournalView
grown j n queue round = record j { history = with_entry j.history n.entry; notes = j.notes ++ n ∷ []; queue = queue; round = round; reserved = false }

-- ---- the cells and records of one note more

pub logged-push : (notes : List Note) (n : Note) → logged_in (notes ++ n ∷ []) ≡ logged_in notes ++ option_map record_of n.logged ∷ []
logged-push notes n = map-append (λ (x : Note). option_map record_of x.logged) notes (n ∷ [])

after-one : (slots : ℕ) (cells : List Cell) (logged : Option CellRecord) → option_map_or (after_record slots cells) (option_map record_of logged) cells ≡ after_logged slots cells logged
after-one slots cells None = refl
after-one slots cells (Some r) = refl

pub cells-grown : (j : JournalView) (n : Note) (queue : List ℕ) (round : RoundView) → cells_of (grown j n queue round) ≡ after_logged j.history.slots (cells_of j) n.logged
cells-grown j n queue round =
    ap (cells_after j.history.slots j.opening) (logged-push j.notes n)
    ∙ (fold-append (λ cs r. option_map_or (after_record j.history.slots cs) r cs) j.opening (logged_in j.notes) (option_map record_of n.logged ∷ []) ∙ after-one j.history.slots (cells_of j) n.logged)

core-with : (cells cells' : List Cell) (m m' : Moment) (refs refs' : List Ref) (queue queue' : List ℕ) (round round' : Option Round) → cells ≡ cells' → m ≡ m' → refs ≡ refs' → queue ≡ queue' → round ≡ round'
    → (let c : Core = record { cells = cells; moment = m; refs = refs; queue = queue; round = round } in c) ≡ record { cells = cells'; moment = m'; refs = refs'; queue = queue'; round = round' }
core-with cells cells' m m' refs refs' queue queue' round round' a b c d e = cc

-- what the notes name, with one more
references-push : (j : JournalView) (n : Note) → map (λ x. x.entry) j.notes ≡ j.history.entries → references_of (start_of j.history) (j.notes ++ n ∷ []) ≡ references_by (end_of j.history).state (references_of (start_of j.history) j.notes) n.entry n.logged
references-push j n entries =
    references-from_push (start_of j.history) [] j.notes n
    ∙ ap (λ (es : List Entry). references_by (moment_after (start_of j.history) es).state (references_of (start_of j.history) j.notes) n.entry n.logged) entries

pub core-grown : (j : JournalView) (n : Note) (queue : List ℕ) (round : RoundView) (d : Core) → map (λ x. x.entry) j.notes ≡ j.history.entries → d ≡ core_after j.history.slots (core_of j) n.entry n.logged d.queue d.round → queue ≡ d.queue → round_of round ≡ d.round → core_of (grown j n queue round) ≡ d
core-grown j n queue round d entries after q r =
    core-with (cells_of (grown j n queue round)) (after_logged j.history.slots (cells_of j) n.logged) (end_of (with_entry j.history n.entry)) (next (end_of j.history) n.entry) (references_of (start_of j.history) (j.notes ++ n ∷ [])) (core_after j.history.slots (core_of j) n.entry n.logged d.queue d.round).refs queue d.queue (round_of round) d.round
    (cells-grown j n queue round) (end_of-with_entry j.history n.entry) (references-push j n entries) q r
    ∙ sym after

pub AllWellLaid-push : (slots : ℕ) (cells : List Cell) (records : List (Option Record)) (r : Option Record) → AllWellLaid slots cells records → IfSome r (IsWellLaid (cells_after slots cells records)) → AllWellLaid slots cells (records ++ r ∷ [])
AllWellLaid-push slots cells [] None all one = tt
AllWellLaid-push slots cells [] (Some r) all one = (one, tt)
AllWellLaid-push slots cells (Some x ∷ xs) r all one = (all.0, AllWellLaid-push slots (after_record slots cells x) xs r all.1 one)
AllWellLaid-push slots cells (None ∷ xs) r all one = AllWellLaid-push slots cells xs r all one

pub AllFit-front : (slots : ℕ) (cells : List Cell) (front rest : List (Option Record)) → AllFit slots cells (front ++ rest) → AllFit slots cells front
AllFit-front slots cells [] rest all = tt
AllFit-front slots cells (Some x ∷ xs) rest all = (all.0, AllFit-front slots (after_record slots cells x) xs rest all.1)
AllFit-front slots cells (None ∷ xs) rest all = AllFit-front slots cells xs rest all

pub AllWellLaid-front : (slots : ℕ) (cells : List Cell) (front rest : List (Option Record)) → AllWellLaid slots cells (front ++ rest) → AllWellLaid slots cells front
AllWellLaid-front slots cells [] rest all = tt
AllWellLaid-front slots cells (Some x ∷ xs) rest all = (all.0, AllWellLaid-front slots (after_record slots cells x) xs rest all.1)
AllWellLaid-front slots cells (None ∷ xs) rest all = AllWellLaid-front slots cells xs rest all

some-fits : (cells : List Cell) (logged : Option CellRecord) → IfSome logged (FitsCells cells) → IfSome (option_map record_of logged) (Fits cells)
some-fits cells None f = tt
some-fits cells (Some r) f = f

some-lays : (cells : List Cell) (logged : Option CellRecord) → IfSome logged (LaysWell cells) → IfSome (option_map record_of logged) (IsWellLaid cells)
some-lays cells None f = tt
some-lays cells (Some r) f = f

-- ---- one note more

-- an event after which the tables stand for this journal
pub record Happens (j : JournalView) (w : TablesView) (n : Note) (d : Core) : Type 0 where
  pub allowed : IsAllowed (end_of j.history) n.entry
  pub going : is_stopped (next (end_of j.history) n.entry) ≡ false
  pub fits : IfSome n.logged (FitsCells (cells_of j))
  pub lays : IfSome n.logged (LaysWell (cells_of j))
  pub after : d ≡ core_after j.history.slots (core_of j) n.entry n.logged d.queue d.round
  pub turns : Turns j.history.slots (core_of j) n d.queue d.round
  -- and it logs what restart asks for
  pub logs : Logs (core_of j) n.entry (option_map record_of n.logged)
  pub stands : Stands j.history.slots w d
  pub counted : length j.history.entries + 1 + w.owed ≤ j.limits.trace
  -- where it is of a client, that is told by a number from 1 to 64
  pub numbered : IsNumbered n.entry
  pub of_client : IfSome n.logged IsOfClient
  -- the red walk goes on as the tables' walk does, and is over where something is copied first
  pub red : IsRedWalk (after_logged j.history.slots (cells_of j) n.logged) (walk_after (after_logged j.history.slots (cells_of j) n.logged) (red_of j) n) w.round
  pub copied : is_first_copy (red_of j) n.act ≡ true → IsOver (cells_of j) (red_of j)

pub core-happened : (j : JournalView) (w : TablesView) (n : Note) (d : Core) → map (λ x. x.entry) j.notes ≡ j.history.entries → Happens j w n d → core_of (grown j n w.queue w.round) ≡ d
core-happened j w n d entries h = core-grown j n w.queue w.round d entries h.after h.stands.queue h.stands.round

-- a crash stays safe
safe-grown : (j : JournalView) (w : TablesView) (n : Note) (d : Core) → map (λ x. x.entry) j.notes ≡ j.history.entries → IsSafe j → Happens j w n d → IsSafe (grown j n w.queue w.round)
safe-grown j w n d entries safe h =
    let slots = j.history.slots in
    let r = option_map record_of n.logged in
    let moment = ap (λ (c : Core). c.moment) h.after in
    let cells = ap (λ (c : Core). c.cells) h.after ∙ sym (after-one slots (cells_of j) n.logged) in
    let done = events (opening_of j) (core_of j) d j.history.entries (logged_in j.notes) safe n.entry r h.allowed h.logs (some-fits (cells_of j) n.logged h.fits) h.stands.sound moment cells in
    subst (λ (c : Core). IsRestartable (opening_of j) (with_entry j.history n.entry).entries (logged_in (j.notes ++ n ∷ [])) c) (sym (core-happened j w n d entries h))
    (subst (λ rs. IsRestartable (opening_of j) (with_entry j.history n.entry).entries rs d) (sym (logged-push j.notes n)) done)

-- its record has a spelling, and its ids are the store's
spelled-now : (j : JournalView) (v w : TablesView) (n : Note) (d : Core) → Keeps j v → Happens j w n d → IfSome n.logged (IsSpelledIn j.history.slots j.history.ids)
spelled-now j v w n d k h =
    let m = end_of j.history in
    let few : m.state.ids ≤ 8192 = (let same = k.stands.ids in let most = k.stands.few in omega (arith, same, most)) in
    subst (λ s. IfSome n.logged (IsSpelledIn s j.history.ids)) k.stands.slots_are
    (subst (λ i. IfSome n.logged (IsSpelledIn m.state.slots i)) (end_of-ids j.history) (spelled-logged m.state.slots m.state.ids (cells_of j) k.stands.sound.consistent few n.logged h.fits h.of_client))

spelling-of : (slots ids : ℕ) (logged : Option CellRecord) → IfSome logged (IsSpelledIn slots ids) → IfSome logged (HasCellSpelling slots)
spelling-of slots ids None s = tt
spelling-of slots ids (Some r) s = s.0

ids-of : (slots ids : ℕ) (logged : Option CellRecord) → IfSome logged (IsSpelledIn slots ids) → IfSome logged (IsOfIds ids)
ids-of slots ids None s = tt
ids-of slots ids (Some r) s = s.1

-- a history that was full stays so
full-push : (j : JournalView) (n : Note) (queue : List ℕ) (round : RoundView) → WasFull j → WasFull (grown j n queue round)
full-push j n queue round f = (f.0, f.1 ++ n ∷ [], ap (λ (ns : List Note). ns ++ n ∷ []) f.2 ∙ append_assoc f.0 f.1 (n ∷ []), f.3)

pub Keeps-note : (j : JournalView) (v w : TablesView) (n : Note) (d : Core) → Keeps j v → Happens j w n d → n.left ≡ left_of j.history.slots w.round → Keeps (grown j n w.queue w.round) w
Keeps-note j v w n d k h left =
    let core = core-happened j w n d k.entries h in
    let slots = j.history.slots in
    let told = left-told slots n.left w.round d.round left h.stands.round in
    record {
      legal = IsLegal-with_entry j.history n.entry k.legal h.allowed;
      running = ap is_stopped (end_of-with_entry j.history n.entry) ∙ h.going;
      opened = k.opened;
      bounded = k.bounded;
      entries = map-append (λ (x : Note). x.entry) j.notes (n ∷ []) ∙ ap (λ es. es ++ n.entry ∷ []) k.entries;
      consistent = k.consistent;
      laid = subst (AllWellLaid slots j.opening) (sym (logged-push j.notes n)) (AllWellLaid-push slots j.opening (logged_in j.notes) (option_map record_of n.logged) k.laid (some-lays (cells_of j) n.logged h.lays));
      stands = subst (λ (c : Core). Stands slots w c) (sym core) h.stands;
      led = subst (λ (c : Core). AreLed slots (opening_of j) (j.notes ++ n ∷ []) c) (sym core) (AreLed-push slots (opening_of j) (core_of j) d j.notes n k.led (record { after = h.after; turns = h.turns; left = told }));
      safe = safe-grown j w n d k.entries k.safe h;
      numbered = subst AreNumbered (sym (end_of-with_entry j.history n.entry)) (numbered-next (end_of j.history) n.entry k.numbered h.numbered);
      spelled = All-push (λ (x : Note). IfSome x.logged (HasCellSpelling slots)) j.notes n k.spelled (spelling-of slots j.history.ids n.logged (spelled-now j v w n d k h));
      of_ids = All-push (λ (x : Note). IfSome x.logged (IsOfIds j.history.ids)) j.notes n k.of_ids (ids-of slots j.history.ids n.logged (spelled-now j v w n d k h));
      red = subst (λ (cs : List Cell). IsRedWalk cs (red_of (grown j n w.queue w.round)) w.round) (sym (cells-grown j n w.queue w.round))
          (subst (λ (r : RedWalk). IsRedWalk (after_logged slots (cells_of j) n.logged) r w.round) (sym (walk-push slots j.opening no_walk j.notes n)) h.red);
      walked = AreWalked-push slots j.opening no_walk j.notes n k.walked h.copied;
      left = subst (λ m. left_of slots w.round ≤ m) (sym (last_left-push j.notes n)) (omega (arith, left));
      limits = k.limits;
      counted =
          let moment : end_of (with_entry j.history n.entry) ≡ d.moment = end_of-with_entry j.history n.entry ∙ sym (ap (λ (c : Core). c.moment) h.after) in
          let owed : w.owed ≡ entries_owed (end_of (with_entry j.history n.entry)) = h.stands.owed ∙ ap entries_owed (sym moment) in
          let longer = length_push j.history.entries n.entry in
          let few = h.counted in
          (omega (arith, owed, longer, few));
      full = λ e. full-push j n w.queue w.round (k.full e);
      unmarked = k.unmarked;
    }

-- the cells after any first notes are consistent
pub consistent-front : (j : JournalView) (v : TablesView) → Keeps j v → (front rest : List Note) → j.notes ≡ front ++ rest → AreConsistent j.history.slots j.history.ids (cells_after_notes j.history.slots j.opening front)
consistent-front j v k front rest e =
    let parts : logged_in j.notes ≡ logged_in front ++ logged_in rest = ap logged_in e ∙ map-append (λ (n : Note). option_map record_of n.logged) front rest in
    consistent-after j.history.slots j.history.ids j.opening (logged_in front)
    (AllFit-front j.history.slots j.opening (logged_in front) (logged_in rest) (subst (AllFit j.history.slots j.opening) parts k.safe.fit))
    (AllWellLaid-front j.history.slots j.opening (logged_in front) (logged_in rest) (subst (AllWellLaid j.history.slots j.opening) parts k.laid))
    k.consistent

-- ---- which clients are active

same_some : (slots : ℕ) (g : List Rattle.plain_model.specs.declared.object.Object.Object) (o : Option Running) (t : Option ActiveTransaction) (n : ℕ) → Matches slots g o t n → is_some o ≡ is_some t
same_some slots g None None n m = refl
same_some slots g (Some k) (Some t) n m = refl
same_some slots g None (Some t) n m = absurd m
same_some slots g (Some k) None n m = absurd m

pub active-same : (j : JournalView) (v : TablesView) (pass : ℕ) → Keeps j v → is_some (running_at v.transactions pass) ≡ is_some (transaction_of (end_of j.history).state pass)
active-same j v pass k = same_some j.history.slots (end_of j.history).state.committed (running_at v.transactions pass) (transaction_of (end_of j.history).state pass) ((end_of j.history).undone pass) (k.stands.running pass)

absent : (o : Option Running) → is_some o ≡ false → o ≡ None
absent None e = refl
absent (Some t) e = absurd (cc)

pub inactive-running : (j : JournalView) (v : TablesView) (pass : ℕ) → Keeps j v → transaction_of (end_of j.history).state pass ≡ None → running_at v.transactions pass ≡ None
inactive-running j v pass k e = absent (running_at v.transactions pass) (active-same j v pass k ∙ ap (λ (o : Option ActiveTransaction). is_some o) e)

present : (o : Option ActiveTransaction) → IsSome o → is_some o ≡ true
present (Some t) e = refl
present None e = absurd (cc)

there : (o : Option Running) → is_some o ≡ true → IsSome o
there (Some t) e = refl
there None e = absurd (cc)

pub active-running : (j : JournalView) (v : TablesView) (pass : ℕ) → Keeps j v → IsSome (transaction_of (end_of j.history).state pass) → IsSome (running_at v.transactions pass)
active-running j v pass k e = there (running_at v.transactions pass) (active-same j v pass k ∙ present (transaction_of (end_of j.history).state pass) e)
