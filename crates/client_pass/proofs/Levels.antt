-- What is made of one call, of an attempt, of a transaction and of a script.
use Rattle.std.proofs.Common.{◌≡◌, ◌⊎◌, inl, inr, ℕ, suc, ◌+◌, ◌-◌, ◌<◌, ◌≤◌, Bool, true, false, List, [], ◌∷◌, ◌++◌, length, take, drop, Result, Ok, refl, sym, ap, subst, ◌∙◌, arith}
use lib.ListN.{get_or}
use Rattle.std.proofs.lemmas.Bool.{both_ways}
use Rattle.std.proofs.lemmas.List.{append_assoc, append-nil, length-append, take_more, take-append-drop, drop_more, drop_all}
use Rattle.plain_model.specs.declared.calls.Call.{Call as TransactionCall}
use Rattle.plain_model.specs.declared.calls.Call.TheVariants.{Begin, Abort}
use Rattle.plain_model.specs.declared.calls.Reply.{Reply}
use Rattle.plain_model.specs.declared.calls.Reply.TheVariants.{Done, DiskFault}
use Rattle.shared_store.specs.Passes.{Known}
use Rattle.client_pass.specs.declared.ends.WorkEnd.{WorkEnd}
use Rattle.client_pass.specs.declared.ends.WorkEnd.TheVariants.{Finished}
use Rattle.client_pass.specs.Attempts.{Deed, Made, is_busy, IsMade, AreBusy, AreUndos, IsAnswered, AreAnswered, AreStuck, has_after, IsEnding, IsCompleted, IsGivenUp, IsAttempt, IsTried, Attempts, Begun}
use Rattle.client_pass.specs.Workings.{Makes, IsCutOff, IsEnd, DoesTransactions, calls_of}
use Rattle.client_pass.proofs.Tries.{has_after-append, busy-more, answered, answer_begun, abort_begun, made-one, made-abort, answered-append, answered-one, answers_begun, attempt_begun, tried_completed, tried_again, try_begun, attempts_next, attempts_begun, GoesOnTo, goes_on-append, goes_on-begun}
use Rattle.client_pass.proofs.Makings.{makes-none, makes-map, makes-append}

-- ---- lists

-- the calls before this one, it, and those after it
split : (calls : List TransactionCall) (i : ℕ) (c : TransactionCall) → i < length calls → get_or calls i c ≡ c → Begin ∷ calls ≡ (Begin ∷ take i calls) ++ c ∷ drop (i + 1) calls
split calls i c within is = ap (λ x. Begin ∷ x) (sym (take-append-drop i calls) ∙ ap (λ x. take i calls ++ x) (drop_more calls i c within ∙ ap (λ y. y ∷ drop (i + 1) calls) is))

completes : (calls : List TransactionCall) (own behind : List Deed) → AreAnswered (Begin ∷ calls) own → IsEnding (has_after false own) behind → IsCompleted calls (own ++ behind)
completes calls own behind p e = record { own = own; answered = p; ending = behind; ended = e; in_order = refl }

gives_up : (calls : List TransactionCall) (own behind : List Deed) → AreStuck (Begin ∷ calls) own → IsEnding (has_after false own) behind → IsGivenUp calls (own ++ behind)
gives_up calls own behind p e = record { own = own; stuck = p; ending = behind; ended = e; in_order = refl }

-- what this is of an attempt's calls, that is of the attempt after its end
abbrev EndsAs : (List Deed → Type 0) → (List Deed → Type 0) → Type 0
EndsAs P Q = (own behind : List Deed) → P own → IsEnding (has_after false own) behind → Q (own ++ behind)

-- after an abort that is done no transaction is open
abort-closes : (had : Bool) (made : List Deed) → IsMade Abort Done made → has_after had made ≡ false
abort-closes had made m = ap (has_after had) m.in_order ∙ has_after-append had m.undos (Made Abort Done ∷ [])

-- it was given up so many times
abbrev pub HasGivenUp : ℕ → List TransactionCall → List Deed → Type 0
HasGivenUp n calls = GoesOnTo (IsTried (4 - n) calls) (IsTried 4 calls)

left : (n : ℕ) → n < 4 → 4 - n ≡ suc (3 - n)
left n few = omega (arith, few)

-- the first of these transactions are over, so many
abbrev pub HasDone : ℕ → List (List TransactionCall) → List Deed → Type 0
HasDone n transactions = GoesOnTo (Attempts (drop n transactions)) (Attempts transactions)

next_is : (transactions : List (List TransactionCall)) (n : ℕ) (calls : List TransactionCall) → n < length transactions → get_or transactions n calls ≡ calls → drop n transactions ≡ calls ∷ drop (n + 1) transactions
next_is transactions n calls within is = drop_more transactions n calls within ∙ ap (λ y. y ∷ drop (n + 1) transactions) is

-- a call that was answered `Busy` comes after no undo
alone : (c : TransactionCall) (r : Reply) (made : List Deed) → is_busy r ≡ true → IsMade c r made → made ≡ Made c r ∷ []
alone c r made busy m = by m.of_abort
  where
    by : (m.undos ≡ []) ⊎ ((c ≡ Abort) × (r ≡ Done)) → made ≡ Made c r ∷ []
    by (inl none) = m.in_order ∙ ap (λ x. x ++ Made c r ∷ []) none
    by (inr done) = absurd (both_ways (is_busy r) (ap is_busy done.1) busy)

module _ {slots : ℕ} where
  -- ---- one call, tried

  pub tried-busy : (u v w : Known slots) (n : ℕ) (c : TransactionCall) (r : Reply) → Makes u v (AreBusy n c) → Makes v w (IsMade c r) → is_busy r ≡ true → Makes u w (AreBusy (n + 1) c)
  tried-busy u v w n c r a b busy = makes-append u v w (AreBusy n c) (IsMade c r) (AreBusy (n + 1) c)
      (λ made more p q. subst (λ (x : List Deed). AreBusy (n + 1) c (made ++ x)) (sym (alone c r more busy q)) (busy-more c made r p.0 busy, length-append made (Made c r ∷ []) ∙ ap (λ k. k + 1) p.1)) a b

  pub tried-answered : (u v w : Known slots) (n : ℕ) (c : TransactionCall) (r : Reply) → n < 8 → Makes u v (AreBusy n c) → Makes v w (IsMade c r) → is_busy r ≡ false → Makes u w (IsAnswered c)
  tried-answered u v w n c r few a b another = makes-append u v w (AreBusy n c) (IsMade c r) (IsAnswered c)
      (λ made more p q. answered c made more r p.0 (let k = p.1 in omega (arith, k)) another q) a b

  pub tried-cut : (u v w : Known slots) (n : ℕ) (c : TransactionCall) → n < 8 → Makes u v (AreBusy n c) → Makes v w (IsCutOff c) → Makes u w (Begun (IsAnswered c))
  tried-cut u v w n c few a b = makes-append u v w (AreBusy n c) (IsCutOff c) (Begun (IsAnswered c)) by a b
    where
      by : (made more : List Deed) → AreBusy n c made → IsCutOff c more → Begun (IsAnswered c) (made ++ more)
      by made more p (inl q) = subst (λ (x : List Deed). Begun (IsAnswered c) (made ++ x)) (sym q) (subst (Begun (IsAnswered c)) (sym (append-nil made)) (answer_begun c made p.0 (let k = p.1 in omega (arith, k))))
      by made more p (inr (inl q)) = subst (λ (x : List Deed). Begun (IsAnswered c) (made ++ x)) (sym q) ([], subst (IsAnswered c) (sym (append-nil (made ++ Made c DiskFault ∷ []))) (answered c made (Made c DiskFault ∷ []) DiskFault p.0 (let k = p.1 in omega (arith, k)) refl (made-one c DiskFault)))
      by made more p (inr (inr q)) = subst (λ (x : TransactionCall). AreBusy n x made → Begun (IsAnswered x) (made ++ more)) (sym q.0) (λ h. abort_begun made more h.0 (let k = h.1 in omega (arith, k)) q.1) p

  -- ---- calls in order

  pub calls-first : (u v : Known slots) → Makes u v (IsAnswered Begin) → Makes u v (AreAnswered (Begin ∷ []))
  calls-first u v m = makes-map u v (IsAnswered Begin) (AreAnswered (Begin ∷ [])) (answered-one Begin) m

  pub calls-next : (u v w : Known slots) (calls : List TransactionCall) (i : ℕ) (c : TransactionCall) → i < length calls → get_or calls i c ≡ c → Makes u v (AreAnswered (Begin ∷ take i calls)) → Makes v w (IsAnswered c) → Makes u w (AreAnswered (Begin ∷ take (i + 1) calls))
  calls-next u v w calls i c within is a b = makes-append u v w (AreAnswered (Begin ∷ take i calls)) (IsAnswered c) (AreAnswered (Begin ∷ take (i + 1) calls))
      (λ made more p q.
      let more_is : Begin ∷ take (i + 1) calls ≡ (Begin ∷ take i calls) ++ c ∷ [] = ap (λ x. Begin ∷ x) (take_more calls i c within ∙ ap (λ y. take i calls ++ y ∷ []) is) in
      subst (λ (x : List TransactionCall). AreAnswered x (made ++ more)) (sym more_is) (answered-append (Begin ∷ take i calls) (c ∷ []) made more p (answered-one c more q))) a b

  pub first-stuck : (u v : Known slots) (calls : List TransactionCall) → Makes u v (AreBusy 8 Begin) → Makes u v (AreStuck (Begin ∷ calls))
  first-stuck u v calls m = makes-map u v (AreBusy 8 Begin) (AreStuck (Begin ∷ calls))
      (λ made p. record { before = []; call = Begin; after = calls; of_calls = refl; own = []; answered = refl; busy = made; eight = p; in_order = refl }) m

  pub calls-stuck : (u v w : Known slots) (calls : List TransactionCall) (i : ℕ) (c : TransactionCall) → i < length calls → get_or calls i c ≡ c → Makes u v (AreAnswered (Begin ∷ take i calls)) → Makes v w (AreBusy 8 c) → Makes u w (AreStuck (Begin ∷ calls))
  calls-stuck u v w calls i c within is a b = makes-append u v w (AreAnswered (Begin ∷ take i calls)) (AreBusy 8 c) (AreStuck (Begin ∷ calls))
      (λ made more p q. record { before = Begin ∷ take i calls; call = c; after = drop (i + 1) calls; of_calls = split calls i c within is; own = made; answered = p; busy = more; eight = q; in_order = refl }) a b

  pub first-cut : (u v : Known slots) (calls : List TransactionCall) → Makes u v (Begun (IsAnswered Begin)) → Makes u v (Begun (AreAnswered (Begin ∷ calls)))
  first-cut u v calls m = makes-map u v (Begun (IsAnswered Begin)) (Begun (AreAnswered (Begin ∷ calls))) (λ made p. answers_begun [] Begin calls [] made refl p) m

  pub calls-cut : (u v w : Known slots) (calls : List TransactionCall) (i : ℕ) (c : TransactionCall) → i < length calls → get_or calls i c ≡ c → Makes u v (AreAnswered (Begin ∷ take i calls)) → Makes v w (Begun (IsAnswered c)) → Makes u w (Begun (AreAnswered (Begin ∷ calls)))
  calls-cut u v w calls i c within is a b = makes-append u v w (AreAnswered (Begin ∷ take i calls)) (Begun (IsAnswered c)) (Begun (AreAnswered (Begin ∷ calls)))
      (λ made more p q. subst (λ (x : List TransactionCall). Begun (AreAnswered x) (made ++ more)) (sym (split calls i c within is)) (answers_begun (Begin ∷ take i calls) c (drop (i + 1) calls) made more p q)) a b

  -- ---- an attempt

  -- no transaction is open after the calls
  closed : (u v : Known slots) (P Q : List Deed → Type 0) → EndsAs P Q → u.knowledge.truth ≡ false → v.knowledge.truth ≡ false → Makes u v P → Makes u v Q
  closed u v P Q f before now m =
      let shut : has_after false m.made ≡ false = sym (ap (λ t. has_after t m.made) before) ∙ (sym m.truth ∙ now) in
      record { kept = m.kept; keeps = m.keeps; own = m.own; made = m.made; made_is = m.made_is; truth = m.truth; such = subst Q (append-nil m.made) (f m.made [] m.such (subst (λ t. IsEnding t []) (sym shut) refl)) }

  -- one is, and it is aborted
  aborted : (u v w : Known slots) (P Q : List Deed → Type 0) → EndsAs P Q → u.knowledge.truth ≡ false → v.knowledge.truth ≡ true → Makes u v P → Makes v w (IsMade Abort Done) → Makes u w Q
  aborted u v w P Q f before now m b =
      let opened : has_after false m.made ≡ true = sym (ap (λ t. has_after t m.made) before) ∙ (sym m.truth ∙ now) in
      makes-append u v w (λ x. x ≡ m.made) (IsMade Abort Done) Q
      (λ made more p q. subst (λ (x : List Deed). Q (x ++ more)) (sym p) (f m.made more m.such (subst (λ t. IsEnding t more) (sym opened) q)))
      (record { kept = m.kept; keeps = m.keeps; own = m.own; made = m.made; made_is = m.made_is; truth = m.truth; such = refl }) b

  -- one is, and its abort is cut off after some undos
  cut : (u v w : Known slots) (P Q : List Deed → Type 0) → EndsAs P Q → u.knowledge.truth ≡ false → v.knowledge.truth ≡ true → Makes u v P → Makes v w AreUndos → Makes u w (Begun Q)
  cut u v w P Q f before now m b =
      let opened : has_after false m.made ≡ true = sym (ap (λ t. has_after t m.made) before) ∙ (sym m.truth ∙ now) in
      makes-append u v w (λ x. x ≡ m.made) AreUndos (Begun Q)
      (λ made more p q. subst (λ (x : List Deed). Begun Q (x ++ more)) (sym p)
      (Made Abort Done ∷ [], subst Q (sym (append_assoc m.made more (Made Abort Done ∷ []))) (f m.made (more ++ Made Abort Done ∷ []) m.such (subst (λ t. IsEnding t (more ++ Made Abort Done ∷ [])) (sym opened) (made-abort more q)))))
      (record { kept = m.kept; keeps = m.keeps; own = m.own; made = m.made; made_is = m.made_is; truth = m.truth; such = refl }) b

  pub completed-closed : (u v : Known slots) (calls : List TransactionCall) → u.knowledge.truth ≡ false → v.knowledge.truth ≡ false → Makes u v (AreAnswered (Begin ∷ calls)) → Makes u v (IsCompleted calls)
  completed-closed u v calls before now m = closed u v (AreAnswered (Begin ∷ calls)) (IsCompleted calls) (completes calls) before now m

  pub completed-aborted : (u v w : Known slots) (calls : List TransactionCall) → u.knowledge.truth ≡ false → v.knowledge.truth ≡ true → Makes u v (AreAnswered (Begin ∷ calls)) → Makes v w (IsMade Abort Done) → Makes u w (IsCompleted calls)
  completed-aborted u v w calls before now m b = aborted u v w (AreAnswered (Begin ∷ calls)) (IsCompleted calls) (completes calls) before now m b

  pub stuck-closed : (u v : Known slots) (calls : List TransactionCall) → u.knowledge.truth ≡ false → v.knowledge.truth ≡ false → Makes u v (AreStuck (Begin ∷ calls)) → Makes u v (IsGivenUp calls)
  stuck-closed u v calls before now m = closed u v (AreStuck (Begin ∷ calls)) (IsGivenUp calls) (gives_up calls) before now m

  pub stuck-aborted : (u v w : Known slots) (calls : List TransactionCall) → u.knowledge.truth ≡ false → v.knowledge.truth ≡ true → Makes u v (AreStuck (Begin ∷ calls)) → Makes v w (IsMade Abort Done) → Makes u w (IsGivenUp calls)
  stuck-aborted u v w calls before now m b = aborted u v w (AreStuck (Begin ∷ calls)) (IsGivenUp calls) (gives_up calls) before now m b

  pub completed-cut : (u v w : Known slots) (calls : List TransactionCall) → u.knowledge.truth ≡ false → v.knowledge.truth ≡ true → Makes u v (AreAnswered (Begin ∷ calls)) → Makes v w AreUndos → Makes u w (Begun (IsAttempt calls))
  completed-cut u v w calls before now m b = cut u v w (AreAnswered (Begin ∷ calls)) (IsAttempt calls) (λ own behind p e. inl (completes calls own behind p e)) before now m b

  pub stuck-cut : (u v w : Known slots) (calls : List TransactionCall) → u.knowledge.truth ≡ false → v.knowledge.truth ≡ true → Makes u v (AreStuck (Begin ∷ calls)) → Makes v w AreUndos → Makes u w (Begun (IsAttempt calls))
  stuck-cut u v w calls before now m b = cut u v w (AreStuck (Begin ∷ calls)) (IsAttempt calls) (λ own behind p e. inr (gives_up calls own behind p e)) before now m b

  -- whichever of the two it was
  pub either-cut : (u v w : Known slots) (calls : List TransactionCall) (t : Result Bool WorkEnd) (b : Bool) → t ≡ Ok b → u.knowledge.truth ≡ false → v.knowledge.truth ≡ true
      → (t ≡ Ok true → Makes u v (AreAnswered (Begin ∷ calls))) → (t ≡ Ok false → Makes u v (AreStuck (Begin ∷ calls))) → Makes v w AreUndos → Makes u w (Begun (IsAttempt calls))
  either-cut u v w calls t true is before now answered stuck b = completed-cut u v w calls before now (answered is) b
  either-cut u v w calls t false is before now answered stuck b = stuck-cut u v w calls before now (stuck is) b

  pub attempt-cut : (u v : Known slots) (calls : List TransactionCall) → Makes u v (Begun (AreAnswered (Begin ∷ calls))) → Makes u v (Begun (IsAttempt calls))
  attempt-cut u v calls m = makes-map u v (Begun (AreAnswered (Begin ∷ calls))) (Begun (IsAttempt calls)) (attempt_begun calls) m

  -- a transaction has ended by its abort
  pub shut : (v w : Known slots) → v.knowledge.truth ≡ true → Makes v w (IsMade Abort Done) → w.knowledge.truth ≡ false
  shut v w now m = m.truth ∙ (ap (λ t. has_after t m.made) now ∙ abort-closes true m.made m.such)

  -- ---- a transaction

  pub transaction-first : (v : Known slots) (calls : List TransactionCall) → Makes v v (HasGivenUp 0 calls)
  transaction-first v calls = makes-none v (HasGivenUp 0 calls) (λ more p. p)

  pub transaction-completed : (u v w : Known slots) (n : ℕ) (calls : List TransactionCall) → n < 4 → Makes u v (HasGivenUp n calls) → Makes v w (IsCompleted calls) → Makes u w (IsTried 4 calls)
  transaction-completed u v w n calls few a b = makes-append u v w (HasGivenUp n calls) (IsCompleted calls) (IsTried 4 calls)
      (λ made more p q. p more (subst (λ k. IsTried k calls more) (sym (left n few)) (tried_completed (3 - n) calls more q))) a b

  pub transaction-given_up : (u v w : Known slots) (n : ℕ) (calls : List TransactionCall) → n < 4 → Makes u v (HasGivenUp n calls) → Makes v w (IsGivenUp calls) → Makes u w (HasGivenUp (n + 1) calls)
  transaction-given_up u v w n calls few a b = makes-append u v w (HasGivenUp n calls) (IsGivenUp calls) (HasGivenUp (n + 1) calls)
      (λ made more p q. goes_on-append (IsTried (4 - (n + 1)) calls) (IsTried (4 - n) calls) (IsTried 4 calls) made more p
      (λ rest t. subst (λ k. IsTried k calls (more ++ rest)) (sym (left n few)) (tried_again (3 - n) calls more rest q (subst (λ k. IsTried k calls rest) (omega (arith, few)) t)))) a b

  pub transaction-cut : (u v w : Known slots) (n : ℕ) (calls : List TransactionCall) → n < 4 → Makes u v (HasGivenUp n calls) → Makes v w (Begun (IsAttempt calls)) → Makes u w (Begun (IsTried 4 calls))
  transaction-cut u v w n calls few a b = makes-append u v w (HasGivenUp n calls) (Begun (IsAttempt calls)) (Begun (IsTried 4 calls))
      (λ made more p q. goes_on-begun (IsTried (4 - n) calls) (IsTried 4 calls) made more p (subst (λ k. Begun (IsTried k calls) more) (sym (left n few)) (try_begun (3 - n) calls more q))) a b

  pub transaction-over : (u v : Known slots) (calls : List TransactionCall) → Makes u v (HasGivenUp 4 calls) → Makes u v (IsTried 4 calls)
  transaction-over u v calls m = makes-map u v (HasGivenUp 4 calls) (IsTried 4 calls) (λ made p. subst (IsTried 4 calls) (append-nil made) (p [] refl)) m

  -- ---- a script

  pub script-first : (v : Known slots) (transactions : List (List TransactionCall)) → Makes v v (HasDone 0 transactions)
  script-first v transactions = makes-none v (HasDone 0 transactions) (λ more p. p)

  pub script-next : (u v w : Known slots) (transactions : List (List TransactionCall)) (n : ℕ) (calls : List TransactionCall) → n < length transactions → get_or transactions n calls ≡ calls → Makes u v (HasDone n transactions) → Makes v w (IsTried 4 calls) → Makes u w (HasDone (n + 1) transactions)
  script-next u v w transactions n calls within is a b = makes-append u v w (HasDone n transactions) (IsTried 4 calls) (HasDone (n + 1) transactions)
      (λ made more p q. goes_on-append (Attempts (drop (n + 1) transactions)) (Attempts (drop n transactions)) (Attempts transactions) made more p
      (λ rest t. subst (λ k. Attempts k (more ++ rest)) (sym (next_is transactions n calls within is)) (attempts_next calls (drop (n + 1) transactions) more rest q t))) a b

  pub script-cut : (u v w : Known slots) (transactions : List (List TransactionCall)) (n : ℕ) (calls : List TransactionCall) → n < length transactions → get_or transactions n calls ≡ calls → Makes u v (HasDone n transactions) → Makes v w (Begun (IsTried 4 calls)) → Makes u w (Begun (Attempts transactions))
  script-cut u v w transactions n calls within is a b = makes-append u v w (HasDone n transactions) (Begun (IsTried 4 calls)) (Begun (Attempts transactions))
      (λ made more p q. goes_on-begun (Attempts (drop n transactions)) (Attempts transactions) made more p
      (subst (λ k. Begun (Attempts k) more) (sym (next_is transactions n calls within is)) (attempts_begun calls (drop (n + 1) transactions) more q))) a b

  pub script-over : (u v : Known slots) (transactions : List (List TransactionCall)) (n : ℕ) → length transactions ≤ n → Makes u v (HasDone n transactions) → Makes u v (Attempts transactions)
  script-over u v transactions n all m = makes-map u v (HasDone n transactions) (Attempts transactions)
      (λ made p. subst (Attempts transactions) (append-nil made) (p [] (subst (λ k. Attempts k []) (sym (drop_all n transactions all)) refl))) m

  -- ---- what the whole work promises

  pub does-cut : (u v : Known slots) (transactions : List (List TransactionCall)) (e : WorkEnd) → IsEnd e → Makes u v (Begun (Attempts transactions)) → DoesTransactions u v transactions e
  does-cut u v transactions e is m =
      record { kept = m.kept; keeps = m.keeps; own = m.own; begun = subst (Begun (Attempts transactions)) m.made_is m.such; finished = λ over. absurd (subst IsEnd over is) }

  pub does-all : (u v : Known slots) (transactions : List (List TransactionCall)) → v.knowledge.truth ≡ false → Makes u v (Attempts transactions) → DoesTransactions u v transactions Finished
  does-all u v transactions none m =
      let all = subst (Attempts transactions) m.made_is m.such in
      record { kept = m.kept; keeps = m.keeps; own = m.own; begun = ([], subst (Attempts transactions) (sym (append-nil (calls_of u.station.name m.kept))) all); finished = λ over. (all, none) }
