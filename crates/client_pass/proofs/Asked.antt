-- What one call leaves, by its answer.
use Rattle.std.proofs.Common.{◌≡◌, ◌⊎◌, ℕ, List, [], ◌∷◌, ◌++◌, Option, Some, None, Result, Ok, Err, IfOk, IfErr, inl, inr, refl, sym, ap, subst, ◌∙◌}
use Rattle.plain_model.specs.declared.calls.Call.{Call as TransactionCall}
use Rattle.plain_model.specs.declared.calls.Call.TheVariants as call
use Rattle.plain_model.specs.declared.calls.Reply.{Reply}
use Rattle.plain_model.specs.declared.calls.Reply.TheVariants as reply
use Rattle.plain_model.specs.declared.calls.Entry.{Entry}
use Rattle.plain_model.specs.declared.calls.Entry.TheVariants as entry
use Rattle.disk_model.specs.declared.area.Area.{Area}
use Rattle.disk_model.specs.Areas.{Bytes}
use Rattle.core_store.specs.declared.abort_step.AbortStep.{AbortStep}
use Rattle.core_store.specs.declared.abort_step.AbortStep.TheVariants.{Undone, Ended}
use Rattle.shared_store.specs.Chronicles.Steps.{entered_by_call}
use Rattle.shared_store.specs.declared.answers.StepRefusal.{StepRefusal}
use Rattle.shared_store.specs.declared.answers.StepRefusal.TheVariants as step
use Rattle.shared_store.specs.declared.refused.Refused.{Refused}
use Rattle.shared_store.specs.Passes.{Known}
use Rattle.shared_store.specs.Calls.{GoesOnAs, MakesCall, MakesStep, found_by_call, refused_by_call, entered_by_step, found_by_step}
use Rattle.client_pass.specs.declared.ends.WorkEnd.{WorkEnd}
use Rattle.client_pass.specs.declared.ends.WorkEnd.TheVariants as end
use Rattle.client_pass.specs.Attempts.{Deed, Made, has_after, IsMade, AreUndos}
use Rattle.client_pass.specs.Workings.{Makes, AreNone, IsOne, IsCutOff, IsEnd, EndsWork, IsToldToClient, WasAnswered, WasStopped, end_of, refused_by_work, refused_after}
use Rattle.client_pass.proofs.Tries.{made-one, made-abort, undos-keep, undos-append}
use Rattle.client_pass.proofs.Makings.{makes-one, makes-undo, makes-refused, makes-map, makes-append}

-- ---- answers

entered : (client : ℕ) (c : TransactionCall) (r : Reply) → found_by_call r ≡ None → end_of r ≡ None → entered_by_call client c r ≡ Some (entry.Call client c r)
entered client c (reply.Again word seat) f e = absurd (cc)
entered client c (reply.Stopped faults) f e = absurd (cc)
entered client c reply.TraceFull f e = absurd (cc)
entered client c reply.Memory f e = absurd (cc)
entered client c reply.LogFull f e = absurd (cc)
entered client c reply.DiskFault f e = absurd (cc)
entered client c reply.Done f e = refl
entered client c (reply.Id id) f e = refl
entered client c (reply.Pay value) f e = refl
entered client c reply.NoTxn f e = refl
entered client c reply.HasTxn f e = refl
entered client c reply.Aborting f e = refl
entered client c (reply.EmptyRegister reg) f e = refl
entered client c reply.NotShared f e = refl
entered client c (reply.Busy other) f e = refl
entered client c reply.Full f e = refl

pub unfound : (r : Reply) → ((word seat : ℕ) → r ≡ reply.Again word seat → ⊥) → found_by_call r ≡ None
unfound (reply.Again word seat) other = absurd (other word seat refl)
unfound (reply.Stopped faults) other = refl
unfound reply.TraceFull other = refl
unfound reply.Memory other = refl
unfound reply.LogFull other = refl
unfound reply.DiskFault other = refl
unfound reply.Done other = refl
unfound (reply.Id id) other = refl
unfound (reply.Pay value) other = refl
unfound reply.NoTxn other = refl
unfound reply.HasTxn other = refl
unfound reply.Aborting other = refl
unfound (reply.EmptyRegister reg) other = refl
unfound reply.NotShared other = refl
unfound (reply.Busy client) other = refl
unfound reply.Full other = refl

uncounted : (r : Reply) (counts : Refused) → end_of r ≡ None → refused_by_call r counts ≡ counts
uncounted (reply.Again word seat) counts e = refl
uncounted (reply.Stopped faults) counts e = absurd (cc)
uncounted reply.TraceFull counts e = absurd (cc)
uncounted reply.Memory counts e = refl
uncounted reply.LogFull counts e = absurd (cc)
uncounted reply.DiskFault counts e = absurd (cc)
uncounted reply.Done counts e = refl
uncounted (reply.Id id) counts e = refl
uncounted (reply.Pay value) counts e = refl
uncounted reply.NoTxn counts e = refl
uncounted reply.HasTxn counts e = refl
uncounted reply.Aborting counts e = refl
uncounted (reply.EmptyRegister reg) counts e = refl
uncounted reply.NotShared counts e = refl
uncounted (reply.Busy other) counts e = refl
uncounted reply.Full counts e = refl

-- of a reply that means an end: what the end tells, what is counted, and whether it was entered
record Ends (client : ℕ) (c : TransactionCall) (r : Reply) (e : WorkEnd) : Type 0 where
  is_end : IsEnd e
  counted : (counts : Refused) → refused_by_work e counts ≡ refused_by_call r counts
  entry_is : (entered_by_call client c r ≡ None) ⊎ ((entered_by_call client c r ≡ Some (entry.Call client c r)) × (r ≡ reply.DiskFault))

ends : (client : ℕ) (c : TransactionCall) (r : Reply) (e : WorkEnd) → end_of r ≡ Some e → Ends client c r e
ends client c (reply.Stopped faults) e is = let f : end.Disk (reply.Stopped faults) ≡ e = cc in subst (Ends client c (reply.Stopped faults)) f (record { is_end = refl; counted = λ counts. refl; entry_is = inl refl })
ends client c reply.DiskFault e is = let f : end.Disk reply.DiskFault ≡ e = cc in subst (Ends client c reply.DiskFault) f (record { is_end = refl; counted = λ counts. refl; entry_is = inr (refl, refl) })
ends client c reply.TraceFull e is = let f : end.Limit reply.TraceFull ≡ e = cc in subst (Ends client c reply.TraceFull) f (record { is_end = refl; counted = λ counts. refl; entry_is = inl refl })
ends client c reply.LogFull e is = let f : end.Limit reply.LogFull ≡ e = cc in subst (Ends client c reply.LogFull) f (record { is_end = refl; counted = λ counts. refl; entry_is = inl refl })
ends client c reply.Memory e is = let f : end.Memory ≡ e = cc in subst (Ends client c reply.Memory) f (record { is_end = tt; counted = λ counts. refl; entry_is = inl refl })
ends client c (reply.Again word seat) e is = absurd (cc)
ends client c reply.Done e is = absurd (cc)
ends client c (reply.Id id) e is = absurd (cc)
ends client c (reply.Pay value) e is = absurd (cc)
ends client c reply.NoTxn e is = absurd (cc)
ends client c reply.HasTxn e is = absurd (cc)
ends client c reply.Aborting e is = absurd (cc)
ends client c (reply.EmptyRegister reg) e is = absurd (cc)
ends client c reply.NotShared e is = absurd (cc)
ends client c (reply.Busy other) e is = absurd (cc)
ends client c reply.Full e is = absurd (cc)

-- ---- calls

module _ {slots : ℕ} where
  -- it found a word held
  pub asked-again : (u v : Known slots) (c : TransactionCall) (r : Reply) (word seat : ℕ) → r ≡ reply.Again word seat → GoesOnAs u v (entered_by_call u.station.name c r) (found_by_call r) → Makes u v AreNone
  asked-again u v c r word seat is g = makes-refused u v (Some (word, seat)) (subst (λ (x : Reply). GoesOnAs u v (entered_by_call u.station.name c x) (found_by_call x)) is g)

  -- its answer, or the end of the work
  pub record Asked (u v : Known slots) (c : TransactionCall) (t : Result Reply WorkEnd) (before after : Refused) : Type 0 where
    pub ok : IfOk t (λ r. Makes u v (IsMade c r))
    pub err : IfErr t (λ e. Makes u v (IsCutOff c) × IsEnd e)
    pub refused : after ≡ refused_after t before

  pub asked : (u v : Known slots) (c : TransactionCall) (r : Reply) (t : Result Reply WorkEnd) (before after : Refused)
      → found_by_call r ≡ None → IfOk t (λ x. (x ≡ r) × (end_of r ≡ None)) → IfErr t (λ e. end_of r ≡ Some e)
      → GoesOnAs u v (entered_by_call u.station.name c r) (found_by_call r) → after ≡ refused_by_call r before
      → Asked u v c t before after
  asked u v c r (Ok x) before after none ok err g counted = record {
    ok = makes-map u v (IsOne c r) (IsMade c x) (λ made m. subst (IsMade c x) (sym (m ∙ ap (λ y. Made c y ∷ []) (sym ok.0))) (made-one c x))
        (makes-one u v c r (found_by_call r) (subst (λ (o : Option Entry). GoesOnAs u v o (found_by_call r)) (entered u.station.name c r none ok.1) g));
    err = tt;
    refused = counted ∙ uncounted r before ok.1;
  }
  asked u v c r (Err e) before after none ok err g counted =
      let k = ends u.station.name c r e err in
      record {
        ok = tt;
        err = (cut-off k.entry_is, k.is_end);
        refused = counted ∙ sym (k.counted before);
      }
    where
      cut-off : (entered_by_call u.station.name c r ≡ None) ⊎ ((entered_by_call u.station.name c r ≡ Some (entry.Call u.station.name c r)) × (r ≡ reply.DiskFault)) → Makes u v (IsCutOff c)
      cut-off (inl is) = makes-map u v AreNone (IsCutOff c) (λ made m. inl m) (makes-refused u v (found_by_call r) (subst (λ (o : Option Entry). GoesOnAs u v o (found_by_call r)) is g))
      cut-off (inr is) = makes-map u v (IsOne c r) (IsCutOff c) (λ made m. inr (inl (m ∙ ap (λ y. Made c y ∷ []) is.1))) (makes-one u v c r (found_by_call r) (subst (λ (o : Option Entry). GoesOnAs u v o (found_by_call r)) is.0 g))

  -- the end of the work names the answer
  pub told-ends : (D : Type 0) (content : D → Area → Option (List ℕ)) (may_leave : D → Area → List ℕ → Type 0) (faults : D → ℕ) (moment : D → ℕ) (left_since : D → ℕ → Bytes → Type 0) (w u v : Known slots) (c : TransactionCall) (r : Reply) (t : Result Reply WorkEnd) → IfErr t (λ e. end_of r ≡ Some e)
      → GoesOnAs u v (entered_by_call u.station.name c r) (found_by_call r) → MakesCall D slots content may_leave faults moment left_since u v c r
      → IfErr t (λ e. Makes w v (IsCutOff c) × IsEnd e) → IfErr t (λ e. Makes w v (IsCutOff c) × EndsWork D slots content may_leave faults moment left_since v e)
  told-ends D content may_leave faults moment left_since w u v c r (Ok x) is g made cut = tt
  told-ends D content may_leave faults moment left_since w u v c r (Err e) is g made cut = (cut.0, (cut.1, inl (r, is, record { before = u; call = c; knows = g; made = made })))

  -- ---- steps of an abort

  abbrev Steps : Known slots → Known slots → Result AbortStep StepRefusal → Type 0
  Steps u v s = GoesOnAs u v (entered_by_step u.station.name s) (found_by_step s)

  pub undid : (u v : Known slots) (s : Result AbortStep StepRefusal) (a : AbortStep) → s ≡ Ok a → a ≡ Undone → GoesOnAs u v (entered_by_step u.station.name s) (found_by_step s) → Makes u v AreUndos
  undid u v s a is undone g = makes-undo u v None (subst (Steps u v) (is ∙ ap Ok undone) g)

  pub ended : (u v : Known slots) (s : Result AbortStep StepRefusal) (a : AbortStep) → s ≡ Ok a → a ≡ Ended → GoesOnAs u v (entered_by_step u.station.name s) (found_by_step s) → Makes u v (IsOne call.Abort reply.Done)
  ended u v s a is over g = makes-one u v call.Abort reply.Done None (subst (Steps u v) (is ∙ ap Ok over) g)

  none-undos : (u v : Known slots) → Makes u v AreNone → Makes u v AreUndos
  none-undos u v m = makes-map u v AreNone AreUndos (λ made none. subst AreUndos (sym none) tt) m

  pub step-again : (u v : Known slots) (s : Result AbortStep StepRefusal) (f : StepRefusal) (word seat : ℕ) → s ≡ Err f → f ≡ step.Again word seat → GoesOnAs u v (entered_by_step u.station.name s) (found_by_step s) → Makes u v AreUndos
  step-again u v s f word seat is again g = none-undos u v (makes-refused u v (Some (word, seat)) (subst (Steps u v) (is ∙ ap Err again) g))

  pub step-stopped : (u v : Known slots) (s : Result AbortStep StepRefusal) (f : StepRefusal) (faults : ℕ) → s ≡ Err f → f ≡ step.Stopped faults → GoesOnAs u v (entered_by_step u.station.name s) (found_by_step s) → Makes u v AreUndos
  step-stopped u v s f faults is stopped g = none-undos u v (makes-refused u v None (subst (Steps u v) (is ∙ ap Err stopped) g))

  -- the end of the work names the answer
  pub stopped-ends : (D : Type 0) (content : D → Area → Option (List ℕ)) (may_leave : D → Area → List ℕ → Type 0) (faults : D → ℕ) (moment : D → ℕ) (left_since : D → ℕ → Bytes → Type 0) (u v : Known slots) (s : Result AbortStep StepRefusal) (f : StepRefusal) (n : ℕ) → s ≡ Err f → f ≡ step.Stopped n
      → GoesOnAs u v (entered_by_step u.station.name s) (found_by_step s) → (found_by_step s ≡ None → MakesStep D slots u v s) → EndsWork D slots content may_leave faults moment left_since v (end.Disk (reply.Stopped n))
  stopped-ends D content may_leave faults moment left_since u v s f n is stopped g made =
      let all : s ≡ Err (step.Stopped n) = is ∙ ap Err stopped in
      (refl, inr (n, refl, record { before = u; knows = subst (Steps u v) all g; made = subst (MakesStep D slots u v) all (made (ap found_by_step all)) }))

  -- ---- after no call

  pub none-append : (u v w : Known slots) (P : List Deed → Type 0) → Makes u v AreNone → Makes v w P → Makes u w P
  none-append u v w P a b = makes-append u v w AreNone P P (λ made more m p. subst P (sym (ap (λ x. x ++ more) m)) p) a b

  pub same-truth : (u v : Known slots) → Makes u v AreNone → v.knowledge.truth ≡ u.knowledge.truth
  same-truth u v m = m.truth ∙ ap (has_after u.knowledge.truth) m.such

  -- ---- after undos

  pub undos-behind : (u v w : Known slots) → Makes u v AreUndos → Makes v w AreUndos → Makes u w AreUndos
  undos-behind u v w a b = makes-append u v w AreUndos AreUndos AreUndos undos-append a b

  -- the abort is done after them
  pub abort-done : (u v w : Known slots) → Makes u v AreUndos → Makes v w (IsOne call.Abort reply.Done) → Makes u w (IsMade call.Abort reply.Done)
  abort-done u v w a b = makes-append u v w AreUndos (IsOne call.Abort reply.Done) (IsMade call.Abort reply.Done) (λ made more p q. subst (λ (x : List Deed). IsMade call.Abort reply.Done (made ++ x)) (sym q) (made-abort made p)) a b

  pub undos-truth : (u v : Known slots) → Makes u v AreUndos → v.knowledge.truth ≡ u.knowledge.truth
  undos-truth u v m = m.truth ∙ undos-keep u.knowledge.truth m.made m.such

  -- it was stopped after them
  pub abort-cut : (u v : Known slots) (c : TransactionCall) → c ≡ call.Abort → Makes u v AreUndos → Makes u v (IsCutOff c)
  abort-cut u v c is m = makes-map u v AreUndos (IsCutOff c) (λ made p. inr (inr (is, p))) m

  pub same-name : (u v : Known slots) (P : List Deed → Type 0) → Makes u v P → u.station.name ≡ v.station.name
  same-name u v P m = sym (ap (λ s. s.name) m.keeps.station)

  pub asked-behind : (u v w : Known slots) (c : TransactionCall) (t : Result Reply WorkEnd) (before after : Refused) → Makes u v AreNone → Asked v w c t before after → Asked u w c t before after
  asked-behind u v w c (Ok r) before after m a = record { ok = none-append u v w (IsMade c r) m a.ok; err = tt; refused = a.refused }
  asked-behind u v w c (Err e) before after m a = record { ok = tt; err = (none-append u v w (IsCutOff c) m a.err.0, a.err.1); refused = a.refused }
