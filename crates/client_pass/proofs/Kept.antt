-- The entries that the main pass keeps, sorted by who made them.
use Rattle.std.proofs.Common.{◌≡◌, ◌≢◌, ◌⊎◌, inl, inr, ℕ, ◌+◌, ◌≤◌, ◌==◌, Bool, true, false, List, [], ◌∷◌, ◌++◌, Option, Some, None, refl, sym, ap, ◌∙◌, arith}
use Rattle.std.specs.List.{AllByRecursion}
use Rattle.std.proofs.lemmas.Bool.{cases_Bool, both_ways, eq-eqb, ne_eqb, cond-true, cond-false}
use Rattle.plain_model.specs.declared.calls.Call.{Call as TransactionCall}
use Rattle.plain_model.specs.declared.calls.Reply.{Reply}
use Rattle.plain_model.specs.declared.calls.Entry.{Entry}
use Rattle.plain_model.specs.declared.calls.Entry.TheVariants.{Call, Undo, Delete, Hidden, TurnBusy, Crash}
use Rattle.core_store.specs.declared.note.Note.{Note}
use Rattle.shared_store.specs.Chronicles.Clients.{speaker_of}
use Rattle.client_pass.specs.Attempts.{Deed, Made, Undid, call_in}
use Rattle.client_pass.specs.Workings.{Ascend, AreOfClient, calls_of}
use Rattle.client_pass.specs.Runs.{IsOfCollector, IsNoteOfCollector, speaks_for, entries_of}

-- ---- those of a client

one-more : (client : ℕ) (k : ℕ × Note) (kept : List (ℕ × Note)) → speaks_for client (speaker_of k.1.entry) ≡ true → entries_of client (k ∷ kept) ≡ k ∷ entries_of client kept
one-more client k kept is = cond-true (speaks_for client (speaker_of k.1.entry)) (k ∷ entries_of client kept) (entries_of client kept) is

passed-over : (client : ℕ) (k : ℕ × Note) (kept : List (ℕ × Note)) → speaks_for client (speaker_of k.1.entry) ≡ false → entries_of client (k ∷ kept) ≡ entries_of client kept
passed-over client k kept is = cond-false (speaks_for client (speaker_of k.1.entry)) (k ∷ entries_of client kept) (entries_of client kept) is

pub entries-append : (client : ℕ) (kept more : List (ℕ × Note)) → entries_of client (kept ++ more) ≡ entries_of client kept ++ entries_of client more
entries-append client [] more = refl
entries-append client (k ∷ kept) more = by (cases_Bool (speaks_for client (speaker_of k.1.entry))) (entries-append client kept more)
  where
    by : (speaks_for client (speaker_of k.1.entry) ≡ true) ⊎ (speaks_for client (speaker_of k.1.entry) ≡ false) → entries_of client (kept ++ more) ≡ entries_of client kept ++ entries_of client more → entries_of client ((k ∷ kept) ++ more) ≡ entries_of client (k ∷ kept) ++ entries_of client more
    by (inl is) rest = one-more client k (kept ++ more) is ∙ (ap (λ xs. k ∷ xs) rest ∙ sym (ap (λ xs. xs ++ entries_of client more) (one-more client k kept is)))
    by (inr is) rest = passed-over client k (kept ++ more) is ∙ (rest ∙ sym (ap (λ xs. xs ++ entries_of client more) (passed-over client k kept is)))

-- what is of the collector speaks for nobody
pub speaks-none : (e : Entry) → IsOfCollector e → speaker_of e ≡ None
speaks-none (Call c call reply) is = absurd is
speaks-none (Delete id) is = refl
speaks-none Hidden is = refl
speaks-none (Undo c) is = absurd is
speaks-none (TurnBusy c) is = absurd is
speaks-none (Crash cells) is = absurd is

pub none-of_collector : (client : ℕ) (kept : List (ℕ × Note)) → AllByRecursion (λ (k : ℕ × Note). IsNoteOfCollector k.1) kept → entries_of client kept ≡ []
none-of_collector client [] all = refl
none-of_collector client (k ∷ kept) all = passed-over client k kept (ap (speaks_for client) (speaks-none k.1.entry (let n = all.0 in n.entry))) ∙ none-of_collector client kept all.1

-- the entries among these that speak for nobody are the collector's
abbrev pub OthersAreCollected : List (ℕ × Note) → Type 0
OthersAreCollected kept = AllByRecursion (λ (k : ℕ × Note). speaker_of k.1.entry ≡ None → IsNoteOfCollector k.1) kept

pub collected-append : (kept more : List (ℕ × Note)) → OthersAreCollected kept → OthersAreCollected more → OthersAreCollected (kept ++ more)
collected-append [] more a b = b
collected-append (k ∷ kept) more a b = (a.0, collected-append kept more a.1 b)

pub collected-all : (kept : List (ℕ × Note)) → AllByRecursion (λ (k : ℕ × Note). IsNoteOfCollector k.1) kept → OthersAreCollected kept
collected-all [] all = tt
collected-all (k ∷ kept) all = (λ _. all.0, collected-all kept all.1)

-- a client's are none of these
pub collected-own : (client : ℕ) (kept : List (ℕ × Note)) → AreOfClient client kept → OthersAreCollected kept
collected-own client [] all = tt
collected-own client (k ∷ kept) all = (λ none. absurd (let e = sym all.0 ∙ none in cc), collected-own client kept all.1)

-- what is all of one client
pub all-own : (client : ℕ) (kept : List (ℕ × Note)) → AreOfClient client kept → entries_of client kept ≡ kept
all-own client [] all = refl
all-own client (k ∷ kept) all = one-more client k kept (ap (speaks_for client) all.0 ∙ eq-eqb client client refl) ∙ ap (λ xs. k ∷ xs) (all-own client kept all.1)

-- and none of another
pub none-other : (client other : ℕ) (kept : List (ℕ × Note)) → client ≢ other → AreOfClient client kept → entries_of other kept ≡ []
none-other client other [] apart all = refl
none-other client other (k ∷ kept) apart all = passed-over other k kept (ap (speaks_for other) all.0 ∙ ne_eqb client other apart) ∙ none-other client other kept apart all.1

-- ---- its calls

silent : (client : ℕ) (e : Entry) → speaks_for client (speaker_of e) ≡ false → call_in client e ≡ []
silent client (Call c call reply) is = cond-false (c == client) (Made call reply ∷ []) [] is
silent client (Delete id) is = refl
silent client Hidden is = refl
silent client (Undo c) is = cond-false (c == client) (Undid ∷ []) [] is
silent client (TurnBusy c) is = refl
silent client (Crash cells) is = refl

pub no-calls : (client : ℕ) (kept : List (ℕ × Note)) → entries_of client kept ≡ [] → calls_of client kept ≡ []
no-calls client [] none = refl
no-calls client (k ∷ kept) none = by (no-calls client kept) (cases_Bool (speaks_for client (speaker_of k.1.entry)))
  where
    by : (entries_of client kept ≡ [] → calls_of client kept ≡ []) → (speaks_for client (speaker_of k.1.entry) ≡ true) ⊎ (speaks_for client (speaker_of k.1.entry) ≡ false) → calls_of client (k ∷ kept) ≡ []
    by rest (inl is) = absurd (let e = sym (one-more client k kept is) ∙ none in cc)
    by rest (inr is) = ap (λ (xs : List Deed). xs ++ calls_of client kept) (silent client k.1.entry is) ∙ rest (sym (passed-over client k kept is) ∙ none)

-- ---- places

pub ascend-le : (least behind : ℕ) (kept : List (ℕ × Note)) → Ascend least kept behind → least ≤ behind
ascend-le least behind [] a = omega (arith, a)
ascend-le least behind (k ∷ kept) a = let first = a.0 in let rest = ascend-le (k.0 + 1) behind kept a.1 in omega (arith, first, rest)
