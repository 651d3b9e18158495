-- Attempts that are put together.
use Rattle.std.proofs.Common.{◌≡◌, inl, inr, ℕ, zero, suc, ◌≤◌, Bool, true, false, List, [], ◌∷◌, ◌++◌, length, refl, sym, ap, subst, ◌∙◌, arith}
use Rattle.std.specs.List.{AllByRecursion}
use Rattle.std.proofs.lemmas.List.{append_assoc, append-nil}
use Rattle.std.proofs.lemmas.List.Sums.{fold-append}
use Rattle.plain_model.specs.declared.calls.Call.{Call as TransactionCall}
use Rattle.plain_model.specs.declared.calls.Call.TheVariants.{Begin, Abort}
use Rattle.plain_model.specs.declared.calls.Reply.{Reply}
use Rattle.plain_model.specs.declared.calls.Reply.TheVariants.{Done}
use Rattle.plain_model.specs.declared.calls.Entry.{Entry}
use Rattle.client_pass.specs.Attempts.{Deed, Made, Undid, call_in, calls_in, IsMade, AreUndos, IsAnswered, AreAnswered, has_behind, has_after, IsEnding, IsCompleted, IsGivenUp, IsAttempt, IsTried, Attempts, Begun, IsBusyAt, is_busy}

-- ---- calls among entries

pub calls_in-append : (client : ℕ) (es fs : List Entry) → calls_in client (es ++ fs) ≡ calls_in client es ++ calls_in client fs
calls_in-append client [] fs = refl
calls_in-append client (e ∷ es) fs = ap (λ x. call_in client e ++ x) (calls_in-append client es fs) ∙ sym (append_assoc (call_in client e) (calls_in client es) (calls_in client fs))

pub has_after-append : (had : Bool) (made more : List Deed) → has_after had (made ++ more) ≡ has_after (has_after had made) more
has_after-append had made more = fold-append has_behind had made more

-- undos neither begin nor end a transaction
pub undos-keep : (had : Bool) (made : List Deed) → AreUndos made → has_after had made ≡ had
undos-keep had [] undone = refl
undos-keep had (d ∷ made) undone = ap (λ e. has_after (has_behind had e) made) undone.0 ∙ undos-keep had made undone.1

pub undos-append : (made more : List Deed) → AreUndos made → AreUndos more → AreUndos (made ++ more)
undos-append [] more a b = b
undos-append (d ∷ made) more a b = (a.0, undos-append made more a.1 b)

-- ---- one call

pub busy-more : (call : TransactionCall) (made : List Deed) (reply : Reply) → AllByRecursion (IsBusyAt call) made → is_busy reply ≡ true → AllByRecursion (IsBusyAt call) (made ++ Made call reply ∷ [])
busy-more call [] reply each busy = ((refl, busy), tt)
busy-more call (a ∷ made) reply each busy = (each.0, busy-more call made reply each.1 busy)

-- the call alone
pub made-one : (call : TransactionCall) (reply : Reply) → IsMade call reply (Made call reply ∷ [])
made-one call reply = record { undos = []; undone = tt; of_abort = inl refl; in_order = refl }

-- an abort that is done after undos
pub made-abort : (undos : List Deed) → AreUndos undos → IsMade Abort Done (undos ++ Made Abort Done ∷ [])
made-abort undos undone = record { undos = undos; undone = undone; of_abort = inr (refl, refl); in_order = refl }

-- answered otherwise after these
pub answered : (call : TransactionCall) (made last : List Deed) (reply : Reply) → AllByRecursion (IsBusyAt call) made → length made ≤ 7 → is_busy reply ≡ false → IsMade call reply last → IsAnswered call (made ++ last)
answered call made last reply each few another is = record { busy = made; each = each; few = few; reply = reply; another = another; last = last; answered = is; in_order = refl }

-- any call may be answered
pub may_answer : (call : TransactionCall) → IsAnswered call (Made call Done ∷ [])
may_answer call = answered call [] (Made call Done ∷ []) Done tt (omega arith) refl (made-one call Done)

-- a call that was cut off after these may be answered still
pub answer_begun : (call : TransactionCall) (made : List Deed) → AllByRecursion (IsBusyAt call) made → length made ≤ 7 → Begun (IsAnswered call) made
answer_begun call made each few = (Made call Done ∷ [], answered call made (Made call Done ∷ []) Done each few refl (made-one call Done))

-- and so may an abort that was cut off after some undos
pub abort_begun : (made undos : List Deed) → AllByRecursion (IsBusyAt Abort) made → length made ≤ 7 → AreUndos undos → Begun (IsAnswered Abort) (made ++ undos)
abort_begun made undos each few undone =
    (Made Abort Done ∷ [], subst (IsAnswered Abort) (sym (append_assoc made undos (Made Abort Done ∷ []))) (answered Abort made (undos ++ Made Abort Done ∷ []) Done each few refl (made-abort undos undone)))

-- a transaction may end
pub may_end : (had : Bool) → (made : List Deed) × IsEnding had made
may_end true = (Made Abort Done ∷ [], made-one Abort Done)
may_end false = ([], refl)

-- ---- calls in order

pub answered-append : (calls more : List TransactionCall) (made other : List Deed) → AreAnswered calls made → AreAnswered more other → AreAnswered (calls ++ more) (made ++ other)
answered-append [] more made other a b = rw a b
answered-append (call ∷ calls) more made other a b =
    (a.0, a.1 ++ other, ap (λ x. x ++ other) a.2 ∙ append_assoc a.0 a.1 other, a.3, answered-append calls more a.1 other a.4 b)

pub answered-one : (call : TransactionCall) (made : List Deed) → IsAnswered call made → AreAnswered (call ∷ []) made
answered-one call made a = (made, [], sym (append-nil made), a, refl)

-- any calls may be answered
pub may_answer_all : (calls : List TransactionCall) → (made : List Deed) × AreAnswered calls made
may_answer_all [] = ([], refl)
may_answer_all (call ∷ calls) = let rest = may_answer_all calls in (Made call Done ∷ rest.0, (Made call Done ∷ [], rest.0, refl, may_answer call, rest.1))

-- after the first calls the next one was begun
pub answers_begun : (before : List TransactionCall) (call : TransactionCall) (after : List TransactionCall) (own made : List Deed) → AreAnswered before own → Begun (IsAnswered call) made → Begun (AreAnswered (before ++ call ∷ after)) (own ++ made)
answers_begun before call after own made a b =
    let rest = may_answer_all after in
    let all = answered-append before (call ∷ after) own ((made ++ b.0) ++ rest.0) a (made ++ b.0, rest.0, refl, b.1, rest.1) in
    (b.0 ++ rest.0, subst (AreAnswered (before ++ call ∷ after)) (ap (λ x. own ++ x) (append_assoc made b.0 rest.0) ∙ sym (append_assoc own made (b.0 ++ rest.0))) all)

-- ---- attempts

pub attempt_begun : (calls : List TransactionCall) (made : List Deed) → Begun (AreAnswered (Begin ∷ calls)) made → Begun (IsAttempt calls) made
attempt_begun calls made b =
    let e = may_end (has_after false (made ++ b.0)) in
    (b.0 ++ e.0, inl (record { own = made ++ b.0; answered = b.1; ending = e.0; ended = e.1; in_order = sym (append_assoc made b.0 e.0) }))

-- any transaction may be tried, if it may be given up once at least
pub may_try : (n : ℕ) (calls : List TransactionCall) → (made : List Deed) × IsTried (suc n) calls made
may_try n calls =
    let all = may_answer_all (Begin ∷ calls) in
    let e = may_end (has_after false all.0) in
    (all.0 ++ e.0, inl (record { own = all.0; answered = all.1; ending = e.0; ended = e.1; in_order = refl }))

-- given up as often as it may be, it may go on so
pub may_go_on : (n : ℕ) (calls : List TransactionCall) → (made : List Deed) × IsTried n calls made
may_go_on zero calls = ([], refl)
may_go_on (suc n) calls = may_try n calls

pub tried_completed : (n : ℕ) (calls : List TransactionCall) (made : List Deed) → IsCompleted calls made → IsTried (suc n) calls made
tried_completed n calls made c = inl c

pub tried_again : (n : ℕ) (calls : List TransactionCall) (first more : List Deed) → IsGivenUp calls first → IsTried n calls more → IsTried (suc n) calls (first ++ more)
tried_again n calls first more g t = inr (first, more, refl, g, t)

pub try_begun : (n : ℕ) (calls : List TransactionCall) (made : List Deed) → Begun (IsAttempt calls) made → Begun (IsTried (suc n) calls) made
try_begun n calls made b = by b.1
  where
    by : IsAttempt calls (made ++ b.0) → Begun (IsTried (suc n) calls) made
    by (inl c) = (b.0, inl c)
    by (inr g) = let rest = may_go_on n calls in (b.0 ++ rest.0, subst (IsTried (suc n) calls) (append_assoc made b.0 rest.0) (tried_again n calls (made ++ b.0) rest.0 g rest.1))

-- ---- transactions in order

pub may_attempt : (transactions : List (List TransactionCall)) → (made : List Deed) × Attempts transactions made
may_attempt [] = ([], refl)
may_attempt (calls ∷ rest) = let one = may_try 3 calls in let all = may_attempt rest in (one.0 ++ all.0, (one.0, all.0, refl, one.1, all.1))

pub attempts_next : (calls : List TransactionCall) (rest : List (List TransactionCall)) (made more : List Deed) → IsTried 4 calls made → Attempts rest more → Attempts (calls ∷ rest) (made ++ more)
attempts_next calls rest made more t a = (made, more, refl, t, a)

pub attempts_begun : (calls : List TransactionCall) (rest : List (List TransactionCall)) (made : List Deed) → Begun (IsTried 4 calls) made → Begun (Attempts (calls ∷ rest)) made
attempts_begun calls rest made b = let all = may_attempt rest in (b.0 ++ all.0, subst (Attempts (calls ∷ rest)) (append_assoc made b.0 all.0) (made ++ b.0, all.0, refl, b.1, all.1))

-- ---- what may go on

-- all that goes on with such calls, after these
abbrev pub GoesOnTo : (List Deed → Type 0) → (List Deed → Type 0) → List Deed → Type 0
GoesOnTo AreRest AreAll made = (more : List Deed) → AreRest more → AreAll (made ++ more)

pub goes_on-nil : (P : List Deed → Type 0) → GoesOnTo P P []
goes_on-nil P more p = p

pub goes_on-append : (P Q R : List Deed → Type 0) (made more : List Deed) → GoesOnTo Q R made → GoesOnTo P Q more → GoesOnTo P R (made ++ more)
goes_on-append P Q R made more f g rest p = subst R (sym (append_assoc made more rest)) (f (more ++ rest) (g rest p))

pub goes_on-begun : (P Q : List Deed → Type 0) (made more : List Deed) → GoesOnTo P Q made → Begun P more → Begun Q (made ++ more)
goes_on-begun P Q made more f b = (b.0, subst Q (sym (append_assoc made more b.0)) (f (more ++ b.0) b.1))
