-- What one pass keeps of a log, of which it keeps each place once: the calls of a client are those that the log has.
use Rattle.std.proofs.Common.{◌≡◌, ◌≢◌, ℕ, suc, ◌+◌, ◌-◌, ◌<◌, ◌≤◌, Bool, true, false, List, [], ◌∷◌, ◌++◌, map, length, get_or, drop, Some, refl, sym, ap, subst, ◌∙◌, arith, ⊎_elim}
use Rattle.std.specs.Prelude.{slice_get, filter}
use Rattle.std.specs.List.{AllByRecursion}
use Rattle.std.proofs.lemmas.Bool.{cases_eq, cond-true, cond-false, cond_both, eq-eqb, ne_eqb, both_ways}
use Rattle.std.proofs.lemmas.List.{drop_more, length-drop}
use Rattle.std.proofs.lemmas.Option.{same_Some, slice_get_within, slice_get-get_or}
use Rattle.std.proofs.lemmas.Simd.{map-map}
use Rattle.plain_model.specs.declared.calls.Entry.{Entry}
use Rattle.plain_model.specs.declared.calls.Entry.TheVariants.{Call, Delete, Hidden, Undo, TurnBusy, Crash}
use Rattle.core_store.specs.declared.note.Note.{Note}
use Rattle.latch_table.specs.Rule.{AreAt, KeepsEachOnce, times_in, one_if}
use Rattle.shared_store.specs.Chronicles.Clients.{speaker_of}
use Rattle.client_pass.specs.Attempts.{Made, Undid, call_in, calls_in}
use Rattle.client_pass.specs.Workings.{Ascend, calls_of}
use Rattle.client_pass.specs.Runs.{speaks_for, entries_of, AreInOrder}

-- ---- a client's own entries

-- whether the note is of a call or an undo of the client
abbrev pub is_own : ℕ → Note → Bool
is_own client n = speaks_for client (speaker_of n.entry)

-- all of them pass the test
abbrev pub AllPass : (Note → Bool) → List (ℕ × Note) → Type 0
AllPass test kept = AllByRecursion (λ k. test k.1 ≡ true) kept

own-first : (client : ℕ) (k : ℕ × Note) (kept : List (ℕ × Note)) → is_own client k.1 ≡ true → entries_of client (k ∷ kept) ≡ k ∷ entries_of client kept
own-first client k kept e = cond-true (is_own client k.1) (k ∷ entries_of client kept) (entries_of client kept) e

other-first : (client : ℕ) (k : ℕ × Note) (kept : List (ℕ × Note)) → is_own client k.1 ≡ false → entries_of client (k ∷ kept) ≡ entries_of client kept
other-first client k kept e = cond-false (is_own client k.1) (k ∷ entries_of client kept) (entries_of client kept) e

-- each stands at its place still
pub at-filter : (client : ℕ) (log : List Note) (kept : List (ℕ × Note)) → AreAt log kept → AreAt log (entries_of client kept)
at-filter client log [] at = tt
at-filter client log (k ∷ kept) at =
    cond_both (is_own client k.1) (k ∷ entries_of client kept) (entries_of client kept) (AreAt log) (λ e. (at.0, at-filter client log kept at.1)) (λ e. at-filter client log kept at.1)

-- none but the client's
pub own-filter : (client : ℕ) (kept : List (ℕ × Note)) → AllPass (is_own client) (entries_of client kept)
own-filter client [] = tt
own-filter client (k ∷ kept) =
    cond_both (is_own client k.1) (k ∷ entries_of client kept) (entries_of client kept) (AllPass (is_own client)) (λ e. (e, own-filter client kept)) (λ e. own-filter client kept)

-- ---- how often a place is kept

times-first : (p : ℕ) (k : ℕ × Note) (kept : List (ℕ × Note)) → k.0 ≡ p → times_in p (k ∷ kept) ≡ 1 + times_in p kept
times-first p k kept e = ap (λ b. one_if b + times_in p kept) (eq-eqb k.0 p e)

times-behind : (p : ℕ) (k : ℕ × Note) (kept : List (ℕ × Note)) → k.0 ≢ p → times_in p (k ∷ kept) ≡ times_in p kept
times-behind p k kept n = ap (λ b. one_if b + times_in p kept) (ne_eqb k.0 p n) ∙ omega arith

-- a place below them all is not kept
times-below : (p least behind : ℕ) (kept : List (ℕ × Note)) → p < least → Ascend least kept behind → times_in p kept ≡ 0
times-below p least behind [] l a = refl
times-below p least behind (k ∷ kept) l a =
    let h = a.0 in
    times-behind p k kept (λ e. absurd (omega (arith, l, h, e))) ∙ times-below p (k.0 + 1) behind kept (omega (arith, l, h)) a.1

-- what is kept of a place is the note there
note-there : (log : List Note) (p : ℕ) (n : Note) (k : ℕ × Note) → slice_get log k.0 ≡ Some k.1 → slice_get log p ≡ Some n → k.0 ≡ p → k.1 ≡ n
note-there log p n k at is e = same_Some k.1 n (sym at ∙ (ap (λ q. slice_get log q) e ∙ is))

-- of a note of the client's its own entries have as many as all
pub once-filter : (client : ℕ) (log : List Note) (kept : List (ℕ × Note)) → AreAt log kept → (p : ℕ) (n : Note) → slice_get log p ≡ Some n → is_own client n ≡ true → times_in p (entries_of client kept) ≡ times_in p kept
once-filter client log [] at p n is own = refl
once-filter client log (k ∷ kept) at p n is own =
    let more = once-filter client log kept at.1 p n is own in
    ⊎_elim
    (λ (e : k.0 ≡ p).
    let kept_too : is_own client k.1 ≡ true = ap (is_own client) (note-there log p n k at.0 is e) ∙ own in
    ap (times_in p) (own-first client k kept kept_too) ∙ (times-first p k (entries_of client kept) e ∙ (ap (λ x. 1 + x) more ∙ sym (times-first p k kept e))))
    (λ (apart : k.0 ≢ p).
    cond_both (is_own client k.1) (k ∷ entries_of client kept) (entries_of client kept) (λ (ks : List (ℕ × Note)). times_in p ks ≡ times_in p (k ∷ kept))
    (λ e. times-behind p k (entries_of client kept) apart ∙ (more ∙ sym (times-behind p k kept apart)))
    (λ e. more ∙ sym (times-behind p k kept apart)))
    (cases_eq k.0 p)

-- and of another's none
pub none-filter : (client : ℕ) (log : List Note) (kept : List (ℕ × Note)) → AreAt log kept → (p : ℕ) (n : Note) → slice_get log p ≡ Some n → is_own client n ≡ false → times_in p (entries_of client kept) ≡ 0
none-filter client log [] at p n is other = refl
none-filter client log (k ∷ kept) at p n is other =
    let more = none-filter client log kept at.1 p n is other in
    cond_both (is_own client k.1) (k ∷ entries_of client kept) (entries_of client kept) (λ (ks : List (ℕ × Note)). times_in p ks ≡ 0)
    (λ own. times-behind p k (entries_of client kept) (λ e. both_ways (is_own client n) other (ap (is_own client) (sym (note-there log p n k at.0 is e)) ∙ own)) ∙ more)
    (λ e. more)

-- ---- a log from a place on

same-head : {X : Type 0} (x y : X) (xs ys : List X) → x ∷ xs ≡ y ∷ ys → x ≡ y
same-head x y xs ys e = cc

same-tail : {X : Type 0} (x y : X) (xs ys : List X) → x ∷ xs ≡ y ∷ ys → xs ≡ ys
same-tail x y xs ys e = cc

-- after so many there is a first one, and the others
split-at : (whole : List Note) (n : ℕ) (e : Note) (log : List Note) → drop n whole ≡ e ∷ log → (slice_get whole n ≡ Some e) × (drop (n + 1) whole ≡ log)
split-at whole n e log is =
    let long : length whole - n ≡ suc (length log) = sym (length-drop n whole) ∙ ap length is in
    let within : n < length whole = omega (arith, long) in
    let parts : get_or whole n e ∷ drop (n + 1) whole ≡ e ∷ log = sym (drop_more whole n e within) ∙ is in
    (slice_get-get_or whole n e within ∙ ap Some (same-head (get_or whole n e) e (drop (n + 1) whole) log parts), same-tail (get_or whole n e) e (drop (n + 1) whole) log parts)

-- from this place on each note that passes the test is kept once
abbrev pub KeepsPassing : (Note → Bool) → List Note → ℕ → List (ℕ × Note) → Type 0
KeepsPassing test whole n kept = (p : ℕ) (note : Note) → n ≤ p → slice_get whole p ≡ Some note → test note ≡ true → times_in p kept ≡ 1

-- what is kept ascends from this place on
abbrev pub AscendFrom : ℕ → List (ℕ × Note) → Type 0
AscendFrom n kept = (behind : ℕ) × Ascend n kept behind

-- whatever ascends from the next place on, and is kept so, is the notes that pass there
abbrev IsNextInOrder : (Note → Bool) → List Note → ℕ → List Note → Type 0
IsNextInOrder test whole n log =
    (kept : List (ℕ × Note)) → AscendFrom (n + 1) kept → AreAt whole kept → AllPass test kept → KeepsPassing test whole (n + 1) kept → map (λ k. k.1) kept ≡ filter test log

later : (test : Note → Bool) (whole : List Note) (n : ℕ) (kept : List (ℕ × Note)) → KeepsPassing test whole n kept → KeepsPassing test whole (n + 1) kept
later test whole n kept once p note l is pass = once p note (omega (arith, l)) is pass

-- the first note passes: it is the first one that is kept
passes-here : (test : Note → Bool) (whole : List Note) (n : ℕ) (e : Note) (log : List Note) (kept : List (ℕ × Note)) → slice_get whole n ≡ Some e → test e ≡ true → IsNextInOrder test whole n log
    → AscendFrom n kept → AreAt whole kept → AllPass test kept → KeepsPassing test whole n kept → map (λ k. k.1) kept ≡ e ∷ filter test log
passes-here test whole n e log [] here pass next a at all once = let none : 0 ≡ 1 = once n e (omega arith) here pass in absurd (omega (arith, none))
passes-here test whole n e log (k ∷ kept) here pass next a at all once =
    ⊎_elim
    (λ (same : k.0 ≡ n).
    let first : k.1 ≡ e = note-there whole n e k at.0 here same in
    let others : KeepsPassing test whole (n + 1) kept = λ p note l is t. sym (times-behind p k kept (λ q. absurd (omega (arith, l, q, same)))) ∙ once p note (omega (arith, l)) is t in
    ap (λ x. x ∷ map (λ (j : ℕ × Note). j.1) kept) first ∙ ap (λ xs. e ∷ xs) (next kept (a.0, subst (λ m. Ascend m kept a.0) (ap (λ m. m + 1) same) a.1.1) at.1 all.1 others))
    (λ (apart : k.0 ≢ n).
    let least = a.1.0 in
    let none : times_in n (k ∷ kept) ≡ 0 = times-behind n k kept apart ∙ times-below n (k.0 + 1) a.0 kept (omega (arith, least)) a.1.1 in
    let one : times_in n (k ∷ kept) ≡ 1 = once n e (omega arith) here pass in
    absurd (omega (arith, none, one)))
    (cases_eq k.0 n)

-- it doesn't pass: it isn't kept
fails-here : (test : Note → Bool) (whole : List Note) (n : ℕ) (e : Note) (log : List Note) (kept : List (ℕ × Note)) → slice_get whole n ≡ Some e → test e ≡ false → IsNextInOrder test whole n log
    → AscendFrom n kept → AreAt whole kept → AllPass test kept → KeepsPassing test whole n kept → map (λ k. k.1) kept ≡ filter test log
fails-here test whole n e log [] here fail next a at all once = next [] (n + 1, refl) tt tt (later test whole n [] once)
fails-here test whole n e log (k ∷ kept) here fail next a at all once =
    ⊎_elim
    (λ (same : k.0 ≡ n). absurd (both_ways (test e) fail (ap test (sym (note-there whole n e k at.0 here same)) ∙ all.0)))
    (λ (apart : k.0 ≢ n).
    let least = a.1.0 in
    next (k ∷ kept) (a.0, (above n k.0 least apart, a.1.1)) at all (later test whole n (k ∷ kept) once))
    (cases_eq k.0 n)
  where
    above : (m l : ℕ) → m ≤ l → l ≢ m → m + 1 ≤ l
    above m l h ne = grind arith

-- Entries that ascend from a place on, each at its place, none but such as pass the test and each of these once, are the notes
-- that pass from there on
pub in-order : (test : Note → Bool) (whole log : List Note) (n : ℕ) (kept : List (ℕ × Note)) → drop n whole ≡ log → AscendFrom n kept → AreAt whole kept → AllPass test kept → KeepsPassing test whole n kept → map (λ k. k.1) kept ≡ filter test log
in-order test whole [] n [] is a at all once = refl
in-order test whole [] n (k ∷ kept) is a at all once =
    let none : length whole - n ≡ 0 = sym (length-drop n whole) ∙ ap length is in
    let within : k.0 < length whole = slice_get_within whole k.0 k.1 at.0 in
    let least = a.1.0 in
    absurd (omega (arith, none, within, least))
in-order test whole (e ∷ log) n kept is a at all once =
    let parts = split-at whole n e log is in
    let next : IsNextInOrder test whole n log = λ ks b there every each. in-order test whole log (n + 1) ks parts.1 b there every each in
    cond_both (test e) (e ∷ filter test log) (filter test log) (λ (xs : List Note). map (λ (k : ℕ × Note). k.1) kept ≡ xs)
    (λ t. passes-here test whole n e log kept parts.0 t next a at all once)
    (λ t. fails-here test whole n e log kept parts.0 t next a at all once)

-- ---- a client's calls

no-call : (client : ℕ) (e : Entry) → speaks_for client (speaker_of e) ≡ false → call_in client e ≡ []
no-call client (Call c call reply) h = cond-false _ (Made call reply ∷ []) [] h
no-call client (Delete id) h = refl
no-call client Hidden h = refl
no-call client (Undo c) h = cond-false _ (Undid ∷ []) [] h
no-call client (TurnBusy c) h = refl
no-call client (Crash cells) h = refl

-- a client's own entries have all its calls
pub own-calls : (client : ℕ) (kept : List (ℕ × Note)) → calls_of client (entries_of client kept) ≡ calls_of client kept
own-calls client [] = refl
own-calls client (k ∷ kept) =
    let more = own-calls client kept in
    cond_both (is_own client k.1) (k ∷ entries_of client kept) (entries_of client kept) (λ (ks : List (ℕ × Note)). calls_of client ks ≡ calls_of client (k ∷ kept))
    (λ e. ap (λ x. call_in client k.1.entry ++ x) more)
    (λ e. more ∙ sym (ap (λ x. x ++ calls_of client kept) (no-call client k.1.entry e)))

-- and so do its notes of a log
pub own-notes : (client : ℕ) (log : List Note) → calls_in client (map (λ n. n.entry) (filter (is_own client) log)) ≡ calls_in client (map (λ n. n.entry) log)
own-notes client [] = refl
own-notes client (n ∷ log) =
    let more = own-notes client log in
    cond_both (is_own client n) (n ∷ filter (is_own client) log) (filter (is_own client) log) (λ (ns : List Note). calls_in client (map (λ (m : Note). m.entry) ns) ≡ calls_in client (map (λ (m : Note). m.entry) (n ∷ log)))
    (λ e. ap (λ x. call_in client n.entry ++ x) more)
    (λ e. more ∙ sym (ap (λ x. x ++ calls_in client (map (λ (m : Note). m.entry) log)) (no-call client n.entry e)))

-- ---- the pass that keeps all

from-zero : (least behind : ℕ) (kept : List (ℕ × Note)) → AreInOrder least behind kept → AscendFrom 0 kept
from-zero least behind [] o = (0, refl)
from-zero least behind (k ∷ kept) o = (o.0, (omega arith, o.1.1))

-- a client's own entries are its notes of the log, in their order
pub notes-of_log : (client : ℕ) (log : List Note) (kept : List (ℕ × Note)) (least behind : ℕ) → AreAt log kept → KeepsEachOnce log kept → AreInOrder least behind (entries_of client kept) → map (λ k. k.1) (entries_of client kept) ≡ filter (is_own client) log
notes-of_log client log kept least behind at each o =
    in-order (is_own client) log log 0 (entries_of client kept) refl (from-zero least behind (entries_of client kept) o) (at-filter client log kept at) (own-filter client kept)
    (λ p n l is own. once-filter client log kept at p n is own ∙ each p (slice_get_within log p n is))

-- and its calls are those that the log has
pub calls-of_log : (client : ℕ) (log : List Note) (kept : List (ℕ × Note)) (least behind : ℕ) → AreAt log kept → KeepsEachOnce log kept → AreInOrder least behind (entries_of client kept) → calls_of client kept ≡ calls_in client (map (λ n. n.entry) log)
calls-of_log client log kept least behind at each o =
    sym (own-calls client kept)
    ∙ (ap (calls_in client) (sym (map-map (λ (n : Note). n.entry) (λ (k : ℕ × Note). k.1) (entries_of client kept)))
    ∙ (ap (λ ns. calls_in client (map (λ (n : Note). n.entry) ns)) (notes-of_log client log kept least behind at each o) ∙ own-notes client log))

-- a client without entries that are kept has none in the log
pub nobody : (client : ℕ) (log : List Note) (kept : List (ℕ × Note)) → AreAt log kept → KeepsEachOnce log kept → entries_of client kept ≡ [] → filter (is_own client) log ≡ []
nobody client log kept at each none =
    sym (notes-of_log client log kept 0 0 at each (subst (AreInOrder 0 0) (sym none) (0, refl, omega arith))) ∙ ap (map (λ (k : ℕ × Note). k.1)) none

-- and made no call
pub nobody-calls : (client : ℕ) (log : List Note) (kept : List (ℕ × Note)) → AreAt log kept → KeepsEachOnce log kept → entries_of client kept ≡ [] → calls_in client (map (λ n. n.entry) log) ≡ []
nobody-calls client log kept at each none = sym (own-notes client log) ∙ ap (λ ns. calls_in client (map (λ (n : Note). n.entry) ns)) (nobody client log kept at each none)

-- ---- what holds of all that is kept

-- it holds of each note of which a place is kept
kept-holds : (P : Note → Type 0) (log : List Note) (kept : List (ℕ × Note)) → AreAt log kept → AllByRecursion (λ (k : ℕ × Note). P k.1) kept → (p : ℕ) (n : Note) → slice_get log p ≡ Some n → 1 ≤ times_in p kept → P n
kept-holds P log [] at all p n is more = absurd (omega (arith, more))
kept-holds P log (k ∷ kept) at all p n is more =
    ⊎_elim
    (λ (e : k.0 ≡ p). subst P (note-there log p n k at.0 is e) all.0)
    (λ (apart : k.0 ≢ p). let same = times-behind p k kept apart in kept-holds P log kept at.1 all.1 p n is (omega (arith, same, more)))
    (cases_eq k.0 p)

all-from : (P : Note → Type 0) (whole log : List Note) (n : ℕ) → drop n whole ≡ log → ((p : ℕ) (note : Note) → slice_get whole p ≡ Some note → P note) → AllByRecursion P log
all-from P whole [] n is f = tt
all-from P whole (e ∷ log) n is f = let parts = split-at whole n e log is in (f n e parts.0, all-from P whole log (n + 1) parts.1 f)

-- so it holds of the log, where each place is kept
pub log-holds : (P : Note → Type 0) (log : List Note) (kept : List (ℕ × Note)) → AreAt log kept → KeepsEachOnce log kept → AllByRecursion (λ (k : ℕ × Note). P k.1) kept → AllByRecursion P log
log-holds P log kept at each all =
    all-from P log log 0 refl (λ p n is. let one = each p (slice_get_within log p n is) in kept-holds P log kept at all p n is (omega (arith, one)))
