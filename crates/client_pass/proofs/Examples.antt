-- Calls of which is seen whether they are those of attempts.
use Rattle.std.proofs.Common.{◌≡◌, ◌⊎◌, ℕ, zero, suc, ◌+◌, ◌≤◌, Bool, true, false, List, [], ◌∷◌, ◌++◌, length, replicate, inl, inr, refl, sym, ap, ◌∙◌, arith}
use Rattle.std.proofs.lemmas.List.{length-append}
use Rattle.std.specs.List.{AllByRecursion}
use Rattle.plain_model.specs.declared.calls.Call.{Call as TransactionCall}
use Rattle.plain_model.specs.declared.calls.Call.TheVariants.{Begin, GetPay, SetPay, Commit, Abort}
use Rattle.plain_model.specs.declared.calls.Reply.{Reply}
use Rattle.plain_model.specs.declared.calls.Reply.TheVariants.{Done, Pay, Busy, DiskFault, EmptyRegister}
use Rattle.plain_model.specs.declared.calls.Entry.TheVariants.{Call, Undo, Hidden, Delete}
use Rattle.client_pass.specs.Attempts.{Deed, Made, Undid, calls_in, is_busy, IsMade, IsBusyAt, IsAnswered, AreAnswered, has_after, AreStuck, IsCompleted, IsGivenUp, IsTried, Attempts, Begun}
use Rattle.client_pass.proofs.Tries.{made-one, made-abort, may_answer, answered, tried_again}

abbrev get : TransactionCall
get = GetPay 0

abbrev set : TransactionCall
set = SetPay 0 5

-- so many times `Busy`, by client 2
abbrev busy : ℕ → TransactionCall → List Deed
busy n call = replicate n (Made call (Busy 2))

-- ---- a client's calls among entries

-- its undone writes are among them; those of another client and what the collector does are left out
of_entries : calls_in 1 (Call 1 Begin Done ∷ Call 2 Begin Done ∷ Call 1 set Done ∷ Undo 1 ∷ Undo 2 ∷ Hidden ∷ Delete 7 ∷ Call 1 Abort Done ∷ []) ≡ Made Begin Done ∷ Made set Done ∷ Undid ∷ Made Abort Done ∷ []
of_entries = refl

-- ---- what ends a transaction

open-begun : has_after false (Made Begin Done ∷ Made set Done ∷ []) ≡ true
open-begun = refl

ended-committed : has_after false (Made Begin Done ∷ Made set (EmptyRegister 0) ∷ Made Commit Done ∷ []) ≡ false
ended-committed = refl

ended-failed : has_after false (Made Begin Done ∷ Made Commit DiskFault ∷ []) ≡ false
ended-failed = refl

-- ---- a call

all_busy : (n : ℕ) (call : TransactionCall) → AllByRecursion (IsBusyAt call) (busy n call)
all_busy zero call = tt
all_busy (suc n) call = ((refl, refl), all_busy n call)

-- after seven times `Busy` it may be answered
seven : IsAnswered get (busy 7 get ++ Made get (Pay 5) ∷ [])
seven = answered get (busy 7 get) (Made get (Pay 5) ∷ []) (Pay 5) (all_busy 7 get) (omega arith) refl (made-one get (Pay 5))

-- after eight times it may not
eight : IsAnswered get (busy 8 get ++ Made get (Pay 5) ∷ []) → ⊥
eight a = by a.answered.of_abort
  where
    by : (a.answered.undos ≡ []) ⊎ ((get ≡ Abort) × (a.reply ≡ Done)) → ⊥
    by (inl none) =
        let one : length a.last ≡ 1 = ap length (a.answered.in_order ∙ ap (λ (x : List Deed). x ++ Made get a.reply ∷ []) none) in
        let n : 9 ≡ length a.busy + length a.last = ap length a.in_order ∙ length-append a.busy a.last in
        let few = a.few in
        absurd (omega (arith, n, one))
    by (inr e) = absurd (let f = e.0 in cc)

-- ---- a transaction

abbrev calls : List TransactionCall
calls = set ∷ Commit ∷ []

abbrev done : List Deed
done = Made Begin Done ∷ Made set Done ∷ Made Commit Done ∷ []

-- it is done
is_done : IsCompleted calls done
is_done = record { own = done; answered = all; ending = []; ended = refl; in_order = refl }
  where
    all : AreAnswered (Begin ∷ calls) done
    all = (Made Begin Done ∷ [], Made set Done ∷ Made Commit Done ∷ [], refl, may_answer Begin, (Made set Done ∷ [], Made Commit Done ∷ [], refl, may_answer set, (Made Commit Done ∷ [], [], refl, may_answer Commit, refl)))

-- a list of calls that ends inside its transaction is ended by an abort, before which its write is undone
is_ended : IsCompleted (set ∷ []) (Made Begin Done ∷ Made set Done ∷ Undid ∷ Made Abort Done ∷ [])
is_ended = record { own = Made Begin Done ∷ Made set Done ∷ []; answered = all; ending = Undid ∷ Made Abort Done ∷ []; ended = made-abort (Undid ∷ []) (refl, tt); in_order = refl }
  where
    all : AreAnswered (Begin ∷ set ∷ []) (Made Begin Done ∷ Made set Done ∷ [])
    all = (Made Begin Done ∷ [], Made set Done ∷ [], refl, may_answer Begin, (Made set Done ∷ [], [], refl, may_answer set, refl))

abbrev given_up : List Deed
given_up = Made Begin Done ∷ (busy 8 set ++ Made Abort Done ∷ [])

-- it is given up
is_given_up : IsGivenUp calls given_up
is_given_up = record { own = Made Begin Done ∷ busy 8 set; stuck = stuck; ending = Made Abort Done ∷ []; ended = made-one Abort Done; in_order = refl }
  where
    stuck : AreStuck (Begin ∷ calls) (Made Begin Done ∷ busy 8 set)
    stuck = record {
      before = Begin ∷ [];
      call = set;
      after = Commit ∷ [];
      of_calls = refl;
      own = Made Begin Done ∷ [];
      answered = (Made Begin Done ∷ [], [], refl, may_answer Begin, refl);
      busy = busy 8 set;
      eight = (all_busy 8 set, refl);
      in_order = refl;
    }

-- it is given up twice and then done, or given up four times
twice : IsTried 4 calls (given_up ++ (given_up ++ done))
twice = tried_again 3 calls given_up (given_up ++ done) is_given_up (tried_again 2 calls given_up done is_given_up (inl is_done))

four_times : IsTried 4 calls (given_up ++ (given_up ++ (given_up ++ given_up)))
four_times =
    tried_again 3 calls given_up (given_up ++ (given_up ++ given_up)) is_given_up
    (tried_again 2 calls given_up (given_up ++ given_up) is_given_up (tried_again 1 calls given_up given_up is_given_up (inr (given_up, [], refl, is_given_up, refl))))

-- after the fourth time it isn't tried again
no_fifth : IsTried 0 calls done → ⊥
no_fifth t = absurd (cc)

-- a write may be undone nowhere but in an abort that is done
no_undo : IsMade set Done (Undid ∷ Made set Done ∷ []) → ⊥
no_undo m = by m.of_abort
  where
    by : (m.undos ≡ []) ⊎ ((set ≡ Abort) × (Done ≡ Done)) → ⊥
    by (inl none) = let n : 2 ≡ 1 = ap length (m.in_order ∙ ap (λ (x : List Deed). x ++ Made set Done ∷ []) none) in absurd (omega (arith, n))
    by (inr e) = absurd (let f = e.0 in cc)

-- two transactions, one after the other
two : Attempts (calls ∷ calls ∷ []) (done ++ (given_up ++ done))
two = (done, given_up ++ done, refl, inl is_done, (given_up ++ done, [], refl, tried_again 3 calls given_up done is_given_up (inl is_done), refl))

-- and the beginning of such, where the second one waits for a lock
abbrev late : List Deed
late = Made Begin Done ∷ Made set (Busy 2) ∷ Made set Done ∷ Made Commit Done ∷ []

is_done_late : IsCompleted calls late
is_done_late = record { own = late; answered = all; ending = []; ended = refl; in_order = refl }
  where
    all : AreAnswered (Begin ∷ calls) late
    all = (Made Begin Done ∷ [], Made set (Busy 2) ∷ Made set Done ∷ Made Commit Done ∷ [], refl, may_answer Begin, (Made set (Busy 2) ∷ Made set Done ∷ [], Made Commit Done ∷ [], refl, answered set (busy 1 set) (Made set Done ∷ []) Done (all_busy 1 set) (omega arith) refl (made-one set Done), (Made Commit Done ∷ [], [], refl, may_answer Commit, refl)))

two_begun : Begun (Attempts (calls ∷ calls ∷ [])) (done ++ Made Begin Done ∷ Made set (Busy 2) ∷ [])
two_begun = (Made set Done ∷ Made Commit Done ∷ [], (done, late, refl, inl is_done, (late, [], refl, inl is_done_late, refl)))
