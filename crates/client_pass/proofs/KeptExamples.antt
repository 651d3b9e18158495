-- Logs and what one pass keeps of them, of which is seen what the laws on kept entries say.
use Rattle.std.proofs.Common.{◌≡◌, ◌≢◌, ℕ, zero, suc, ◌<◌, ◌≤◌, true, false, List, [], ◌∷◌, map, length, None, refl, ap, arith}
use Rattle.std.specs.Prelude.{filter}
use Rattle.std.specs.List.{range_with_len}
use Rattle.std.proofs.lemmas.Bool.{true≢false}
use Rattle.plain_model.specs.declared.calls.Call.TheVariants.{Begin, GetPay, Commit, Abort}
use Rattle.plain_model.specs.declared.calls.Reply.TheVariants.{Done, Busy}
use Rattle.plain_model.specs.declared.calls.Entry.{Entry}
use Rattle.plain_model.specs.declared.calls.Entry.TheVariants.{Call, Undo, Hidden, Delete}
use Rattle.plain_model.specs.Machine.{is_stored}
use Rattle.plain_laws.specs.Sound.{Ascend as IdsAscend}
use Rattle.core_store.specs.declared.act.Act.TheVariants.{Other}
use Rattle.core_store.specs.declared.note.Note.{Note}
use Rattle.latch_table.specs.Rule.{AreAt, KeepsEachOnce, LieBelow}
use Rattle.shared_store.specs.Chronicles.View.{has_transaction}
use Rattle.client_pass.specs.declared.script.ClientScript.{ClientScript}
use Rattle.client_pass.specs.Attempts.{Deed, Made, Undid, calls_in, has_after}
use Rattle.client_pass.specs.Workings.{calls_of}
use Rattle.client_pass.specs.Runs.{entries_of, AreInOrder, AreApart}
use Rattle.client_pass.proofs.KeptLemmas.{is_own, AscendFrom, calls-of_log, nobody-calls}
use Rattle.client_pass.proofs.SameLogs.{same-log_once, seen-all}
use Rattle.client_pass.proofs.FewScripts.{few-up_to}

abbrev note : Entry → Note
note e = record { entry = e; logged = None; left = 0; act = Other }

-- ---- what two clients and the collector did

abbrev log : List Note
log =
    note (Call 1 Begin Done) ∷ note (Call 2 Begin Done) ∷ note (Call 1 (GetPay 0) (Busy 2)) ∷ note Hidden ∷ note (Undo 1) ∷ note (Call 1 Abort Done) ∷ note (Delete 7) ∷ note (Call 2 Commit Done) ∷ note (Call 1 Begin Done) ∷ []

-- client 2's pass was taken in first, then the collector's, and then client 1's
abbrev kept : List (ℕ × Note)
kept =
    (1, note (Call 2 Begin Done)) ∷ (7, note (Call 2 Commit Done)) ∷ (3, note Hidden) ∷ (6, note (Delete 7)) ∷ (0, note (Call 1 Begin Done)) ∷ (2, note (Call 1 (GetPay 0) (Busy 2))) ∷ (4, note (Undo 1)) ∷ (5, note (Call 1 Abort Done)) ∷ (8, note (Call 1 Begin Done)) ∷ []

at : AreAt log kept
at = (refl, (refl, (refl, (refl, (refl, (refl, (refl, (refl, (refl, tt)))))))))

each : KeepsEachOnce log kept
each zero l = refl
each (suc zero) l = refl
each (suc (suc zero)) l = refl
each (suc (suc (suc zero))) l = refl
each (suc (suc (suc (suc zero)))) l = refl
each (suc (suc (suc (suc (suc zero))))) l = refl
each (suc (suc (suc (suc (suc (suc zero)))))) l = refl
each (suc (suc (suc (suc (suc (suc (suc zero))))))) l = refl
each (suc (suc (suc (suc (suc (suc (suc (suc zero)))))))) l = refl
each (suc (suc (suc (suc (suc (suc (suc (suc (suc n))))))))) l = absurd (omega (arith, l))

own_1 : entries_of 1 kept ≡ (0, note (Call 1 Begin Done)) ∷ (2, note (Call 1 (GetPay 0) (Busy 2))) ∷ (4, note (Undo 1)) ∷ (5, note (Call 1 Abort Done)) ∷ (8, note (Call 1 Begin Done)) ∷ []
own_1 = refl

in_order_1 : AreInOrder 0 9 (entries_of 1 kept)
in_order_1 = (9, (omega arith, (omega arith, (omega arith, (omega arith, (omega arith, refl))))), omega arith)

-- the client's calls are those that the log has, as the law says and as they compute
calls_1 : calls_of 1 kept ≡ calls_in 1 (map (λ n. n.entry) log)
calls_1 = calls-of_log 1 log kept 0 9 at each in_order_1

calls_1-are : calls_of 1 kept ≡ Made Begin Done ∷ Made (GetPay 0) (Busy 2) ∷ Undid ∷ Made Abort Done ∷ Made Begin Done ∷ []
calls_1-are = refl

calls_1-of_log : calls_in 1 (map (λ (n : Note). n.entry) log) ≡ Made Begin Done ∷ Made (GetPay 0) (Busy 2) ∷ Undid ∷ Made Abort Done ∷ Made Begin Done ∷ []
calls_1-of_log = refl

notes_1 : filter (is_own 1) log ≡ note (Call 1 Begin Done) ∷ note (Call 1 (GetPay 0) (Busy 2)) ∷ note (Undo 1) ∷ note (Call 1 Abort Done) ∷ note (Call 1 Begin Done) ∷ []
notes_1 = refl

-- a log that has each of these at its place, and no more, is this log
one-log : (other : List Note) → AreAt other kept → KeepsEachOnce other kept → log ≡ other
one-log other there once = same-log_once log other kept at there each once

-- a look at nine entries, none of which is kept from there on, saw them all
seen-nine : (n : ℕ) → n ≤ 9 → LieBelow n kept → n ≡ 9
seen-nine n h below = seen-all n log kept below each h

-- nobody is client 3
nobody_3 : calls_in 3 (map (λ n. n.entry) log) ≡ []
nobody_3 = nobody-calls 3 log kept at each refl

-- kept in another order, the calls would be told in another order: the ascent is needed
abbrev turned : List (ℕ × Note)
turned = (7, note (Call 2 Commit Done)) ∷ (1, note (Call 2 Begin Done)) ∷ []

abbrev begin-last : List Deed
begin-last = Made Commit Done ∷ Made Begin Done ∷ []

abbrev begin-first : List Deed
begin-first = Made Begin Done ∷ Made Commit Done ∷ []

turned-calls : (calls_of 2 turned ≡ begin-last) × (calls_in 2 (map (λ (n : Note). n.entry) log) ≡ begin-first)
turned-calls = (refl, refl)

turned-differ : begin-last ≡ begin-first → ⊥
turned-differ e = true≢false (ap (has_after false) e)

turned-not_ascending : AscendFrom 0 (entries_of 2 turned) → ⊥
turned-not_ascending a = let l : 8 ≤ 1 = a.1.1.0 in absurd (omega (arith, l))

-- client 1 has a transaction, and client 2 has none
transaction_1 : (has_transaction log 1 ≡ true) × (has_after false (calls_in 1 (map (λ (n : Note). n.entry) log)) ≡ true)
transaction_1 = (refl, refl)

transaction_2 : (has_transaction log 2 ≡ false) × (has_after false (calls_in 2 (map (λ (n : Note). n.entry) log)) ≡ false)
transaction_2 = (refl, refl)

-- ---- scripts

abbrev script : ℕ → ClientScript
script client = record { pass = client; txns = [] }

-- two clients of two
two-scripts : length (script 2 ∷ script 1 ∷ []) ≤ 2
two-scripts = few-up_to 2 (script 2 ∷ script 1 ∷ []) ((differ, tt), (tt, tt)) ((omega arith, omega arith), ((omega arith, omega arith), tt))
  where
    differ : ◌≢◌ {A = ℕ} 1 2
    differ e = absurd (omega (arith, e))

-- of one client two scripts aren't apart
one-client : AreApart (script 2 ∷ script 2 ∷ []) → ⊥
one-client a = a.0.0 refl

-- ---- ids

stored-three : filter (is_stored (2 ∷ 3 ∷ 5 ∷ [])) (range_with_len 1 6) ≡ 2 ∷ 3 ∷ 5 ∷ []
stored-three = refl

-- the same members in another order are another list: both have to ascend
turned-ids : IdsAscend (3 ∷ 2 ∷ []) → ⊥
turned-ids a = let l : 3 < 2 = a.0.0 in absurd (omega (arith, l))

-- an id above the last number is missed: all have to be within
above-ids : filter (is_stored (2 ∷ 9 ∷ [])) (range_with_len 1 6) ≡ 2 ∷ []
above-ids = refl
