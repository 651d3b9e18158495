-- How often a run of clients was refused, and what its end tells of that.
use Rattle.std.proofs.Common.{◌≡◌, ◌≢◌, ◌⊎◌, inl, inr, ℕ, ◌+◌, ◌≤◌, min, Some, refl, sym, ap, subst, ◌∙◌, arith}
use Rattle.std.proofs.lemmas.Bool.{cases_eq}
use Rattle.plain_model.specs.declared.calls.Reply.{Reply}
use Rattle.plain_model.specs.declared.calls.Reply.TheVariants as reply
use Rattle.shared_store.specs.declared.refused.Refused.{Refused}
use Rattle.shared_store.specs.Passes.{no_refusals, joined_refusals}
use Rattle.shared_store.specs.Calls.{refused_by_call, refused_disk, refused_trace, refused_log}
use Rattle.client_pass.specs.declared.ends.WorkEnd.{WorkEnd}
use Rattle.client_pass.specs.declared.ends.WorkEnd.TheVariants.{Finished, Disk, Limit, Memory}
use Rattle.client_pass.specs.Workings.{IsEnd, end_of, weight, refused_by_work}
use Rattle.client_pass.specs.Runs.{AreCounts, HaveGrown, RoseBy, TellsWorst, CountsRefusals}

-- an end that a reply means, or none
abbrev pub IsAnEnd : WorkEnd → Type 0
IsAnEnd e = (e ≡ Finished → ⊥) → IsEnd e

-- ---- what an end counts

-- the counts after an end: of the disk, of the history, of the log, or none
pub data Counted (r : Refused) : WorkEnd → Refused → Type 0 where
  finished : Counted r Finished r
  memory : Counted r Memory r
  disk : (q : Reply) → Counted r (Disk q) (refused_disk r)
  trace : Counted r (Limit reply.TraceFull) (refused_trace r)
  log : Counted r (Limit reply.LogFull) (refused_log r)

pub counted : (e : WorkEnd) (r : Refused) → IsAnEnd e → Counted r e (refused_by_work e r)
counted Finished r is = finished
counted Memory r is = memory
counted (Disk q) r is = of_disk q (is (λ (f : Disk q ≡ Finished). absurd (cc)))
  where
    of_disk : (q : Reply) → end_of q ≡ Some (Disk q) → Counted r (Disk q) (refused_by_call q r)
    of_disk (reply.Stopped faults) e = disk (reply.Stopped faults)
    of_disk reply.DiskFault e = disk reply.DiskFault
    of_disk reply.TraceFull e = absurd (cc)
    of_disk reply.LogFull e = absurd (cc)
    of_disk reply.Memory e = absurd (cc)
    of_disk (reply.Again word seat) e = absurd (cc)
    of_disk reply.Done e = absurd (cc)
    of_disk (reply.Id id) e = absurd (cc)
    of_disk (reply.Pay value) e = absurd (cc)
    of_disk reply.NoTxn e = absurd (cc)
    of_disk reply.HasTxn e = absurd (cc)
    of_disk reply.Aborting e = absurd (cc)
    of_disk (reply.EmptyRegister reg) e = absurd (cc)
    of_disk reply.NotShared e = absurd (cc)
    of_disk (reply.Busy other) e = absurd (cc)
    of_disk reply.Full e = absurd (cc)
counted (Limit q) r is = of_limit q (is (λ (f : Limit q ≡ Finished). absurd (cc)))
  where
    of_limit : (q : Reply) → end_of q ≡ Some (Limit q) → Counted r (Limit q) (refused_by_call q r)
    of_limit reply.TraceFull e = trace
    of_limit reply.LogFull e = log
    of_limit (reply.Stopped faults) e = absurd (cc)
    of_limit reply.DiskFault e = absurd (cc)
    of_limit reply.Memory e = absurd (cc)
    of_limit (reply.Again word seat) e = absurd (cc)
    of_limit reply.Done e = absurd (cc)
    of_limit (reply.Id id) e = absurd (cc)
    of_limit (reply.Pay value) e = absurd (cc)
    of_limit reply.NoTxn e = absurd (cc)
    of_limit reply.HasTxn e = absurd (cc)
    of_limit reply.Aborting e = absurd (cc)
    of_limit (reply.EmptyRegister reg) e = absurd (cc)
    of_limit reply.NotShared e = absurd (cc)
    of_limit (reply.Busy other) e = absurd (cc)
    of_limit reply.Full e = absurd (cc)

-- the counts of a pass that had none before
own-counts : {e : WorkEnd} {c : Refused} → Counted no_refusals e c → (c.disk ≢ 0 → weight e ≡ 3) × (c.trace ≢ 0 → 2 ≤ weight e) × (c.log ≢ 0 → 2 ≤ weight e)
own-counts finished = (λ ne. absurd (ne refl), λ ne. absurd (ne refl), λ ne. absurd (ne refl))
own-counts memory = (λ ne. absurd (ne refl), λ ne. absurd (ne refl), λ ne. absurd (ne refl))
own-counts (disk q) = (λ ne. refl, λ ne. omega arith, λ ne. omega arith)
own-counts trace = (λ ne. absurd (ne refl), λ ne. omega arith, λ ne. omega arith)
own-counts log = (λ ne. absurd (ne refl), λ ne. omega arith, λ ne. omega arith)

light : (e : WorkEnd) → weight e ≤ 3
light Finished = omega arith
light Memory = omega arith
light (Limit r) = omega arith
light (Disk r) = omega arith

-- ---- the collector's

grown-same : (a : Refused) → HaveGrown a a
grown-same a = record { disk = omega arith; trace = omega arith; log = omega arith }

quiet : (e : WorkEnd) (a : Refused) → TellsWorst e a a
quiet e a = record { disk = λ ne. absurd (ne refl); trace = λ ne. absurd (ne refl); log = λ ne. absurd (ne refl) }

pub counts-one : (e : WorkEnd) (a b : Refused) → AreCounts a → IsAnEnd e → b ≡ refused_by_work e a → CountsRefusals e a b
counts-one e a b few is same = subst (CountsRefusals e a) (sym same) (by (counted e a is))
  where
    by : {e : WorkEnd} {c : Refused} → Counted a e c → CountsRefusals e a c
    by finished = record { grown = grown-same a; rose = tt; worst = quiet Finished a }
    by memory = record { grown = grown-same a; rose = tt; worst = quiet Memory a }
    by (disk q) = record {
      grown = record { disk = let f = few.disk in omega (arith, f); trace = omega arith; log = omega arith };
      rose = omega arith;
      worst = record { disk = λ ne. refl; trace = λ ne. omega arith; log = λ ne. omega arith };
    }
    by trace = record {
      grown = record { disk = omega arith; trace = let f = few.trace in omega (arith, f); log = omega arith };
      rose = omega arith;
      worst = record { disk = λ ne. absurd (ne refl); trace = λ ne. omega arith; log = λ ne. omega arith };
    }
    by log = record {
      grown = record { disk = omega arith; trace = omega arith; log = let f = few.log in omega (arith, f) };
      rose = omega arith;
      worst = record { disk = λ ne. absurd (ne refl); trace = λ ne. omega arith; log = λ ne. omega arith };
    }

-- ---- after a join

-- a count that was joined with another differs from what it was only where one of the two tells of it
differ : (a b c : ℕ) → a ≤ 18446744073709551615 → min (b + c) 18446744073709551615 ≢ a → (b ≢ a) ⊎ (c ≢ 0)
differ a b c few ne = by (cases_eq b a) (cases_eq c 0)
  where
    by : (b ≡ a) ⊎ (b ≡ a → ⊥) → (c ≡ 0) ⊎ (c ≡ 0 → ⊥) → (b ≢ a) ⊎ (c ≢ 0)
    by (inr m) d = inl m
    by (inl e) (inr m) = inr m
    by (inl e) (inl z) = absurd (ne (omega (arith, e, z, few)))

at-least : (n own rest e : ℕ) (P Q : Type 0) → (own ≤ e) × (rest ≤ e) → P ⊎ Q → (P → n ≤ rest) → (Q → n ≤ own) → n ≤ e
at-least n own rest e P Q heavy (inl p) f g = let k = f p in let h = heavy.1 in omega (arith, k, h)
at-least n own rest e P Q heavy (inr q) f g = let k = g q in let h = heavy.0 in omega (arith, k, h)

-- the count that rose of one that ended so, and was joined with others
rose-more : {e : WorkEnd} {r : Refused} (a b c : Refused) → Counted no_refusals e r → RoseBy e a b → RoseBy e a (joined_refusals b c)
rose-more a b c finished rose = tt
rose-more a b c memory rose = tt
rose-more a b c (disk q) rose = omega (arith, rose)
rose-more a b c trace rose = omega (arith, rose)
rose-more a b c log rose = omega (arith, rose)

rose-own : {e : WorkEnd} {c : Refused} (a b : Refused) → HaveGrown a b → Counted no_refusals e c → RoseBy e a (joined_refusals b c)
rose-own a b grown finished = tt
rose-own a b grown memory = tt
rose-own a b grown (disk q) = let g = grown.disk in omega (arith, g)
rose-own a b grown trace = let g = grown.trace in omega (arith, g)
rose-own a b grown log = let g = grown.log in omega (arith, g)

pub counts-joined : (own rest e : WorkEnd) (a b c : Refused) → AreCounts a → IsAnEnd own → IsAnEnd rest → c ≡ refused_by_work own no_refusals → CountsRefusals rest a b
    → (e ≡ own) ⊎ (e ≡ rest) → (weight own ≤ weight e) × (weight rest ≤ weight e) → CountsRefusals e a (joined_refusals b c)
counts-joined own rest e a b c few is-own is-rest same counts one heavy =
    let w = counts.worst in
    let o = own-counts of-own in
    record {
      grown = record {
        disk = let f = few.disk in let g = counts.grown.disk in omega (arith, f, g);
        trace = let f = few.trace in let g = counts.grown.trace in omega (arith, f, g);
        log = let f = few.log in let g = counts.grown.log in omega (arith, f, g);
      };
      rose = rose one;
      worst = record {
        disk = λ ne. let l = light e in let h = at-least 3 (weight own) (weight rest) (weight e) (b.disk ≢ a.disk) (c.disk ≢ 0) heavy (differ a.disk b.disk c.disk few.disk ne) (λ m. let k = w.disk m in omega (arith, k)) (λ m. let k = o.0 m in omega (arith, k)) in omega (arith, l, h);
        trace = λ ne. at-least 2 (weight own) (weight rest) (weight e) (b.trace ≢ a.trace) (c.trace ≢ 0) heavy (differ a.trace b.trace c.trace few.trace ne) w.trace o.1;
        log = λ ne. at-least 2 (weight own) (weight rest) (weight e) (b.log ≢ a.log) (c.log ≢ 0) heavy (differ a.log b.log c.log few.log ne) w.log o.2;
      };
    }
  where
    of-own : Counted no_refusals own c
    of-own = subst (Counted no_refusals own) (sym same) (counted own no_refusals is-own)

    rose : (e ≡ own) ⊎ (e ≡ rest) → RoseBy e a (joined_refusals b c)
    rose (inl q) = subst (λ (x : WorkEnd). RoseBy x a (joined_refusals b c)) (sym q) (rose-own a b counts.grown of-own)
    rose (inr q) = subst (λ (x : WorkEnd). RoseBy x a (joined_refusals b c)) (sym q) (rose-more a b c (counted rest no_refusals is-rest) counts.rose)

-- the same, with the names that a caller has for the counts
pub counts-together : (own rest e : WorkEnd) (a b c d before : Refused) → AreCounts a → IsAnEnd own → IsAnEnd rest → before ≡ no_refusals → c ≡ refused_by_work own before → CountsRefusals rest a b
    → d ≡ joined_refusals b c → (e ≡ own) ⊎ (e ≡ rest) → (weight own ≤ weight e) × (weight rest ≤ weight e) → CountsRefusals e a d
counts-together own rest e a b c d before few is-own is-rest none same counts join one heavy =
    subst (CountsRefusals e a) (sym join) (counts-joined own rest e a b c few is-own is-rest (same ∙ ap (refused_by_work own) none) counts one heavy)

-- the end of two is an end
pub end-either : (own rest e : WorkEnd) → IsAnEnd own → IsAnEnd rest → (e ≡ own) ⊎ (e ≡ rest) → IsAnEnd e
end-either own rest e is-own is-rest (inl q) = subst IsAnEnd (sym q) is-own
end-either own rest e is-own is-rest (inr q) = subst IsAnEnd (sym q) is-rest

-- ---- after all

-- the collector went on after a run that was finished
pub counts-behind : (e : WorkEnd) (a b c : Refused) → IsAnEnd e → CountsRefusals Finished a b → CountsRefusals e b c → CountsRefusals e a c
counts-behind e a b c is first then =
    record {
      grown = record {
        disk = let f = first.grown.disk in let g = then.grown.disk in omega (arith, f, g);
        trace = let f = first.grown.trace in let g = then.grown.trace in omega (arith, f, g);
        log = let f = first.grown.log in let g = then.grown.log in omega (arith, f, g);
      };
      rose = rose (counted e no_refusals is) then.rose;
      worst = record {
        disk = λ ne. then.worst.disk (λ q. ne (q ∙ same-disk));
        trace = λ ne. then.worst.trace (λ q. ne (q ∙ same-trace));
        log = λ ne. then.worst.log (λ q. ne (q ∙ same-log));
      };
    }
  where
    same-disk : b.disk ≡ a.disk
    same-disk = by (cases_eq b.disk a.disk)
      where
        by : (b.disk ≡ a.disk) ⊎ (b.disk ≡ a.disk → ⊥) → b.disk ≡ a.disk
        by (inl q) = q
        by (inr ne) = absurd (let w = first.worst.disk ne in cc)

    same-trace : b.trace ≡ a.trace
    same-trace = by (cases_eq b.trace a.trace)
      where
        by : (b.trace ≡ a.trace) ⊎ (b.trace ≡ a.trace → ⊥) → b.trace ≡ a.trace
        by (inl q) = q
        by (inr ne) = absurd (let w = first.worst.trace ne in omega (arith, w))

    same-log : b.log ≡ a.log
    same-log = by (cases_eq b.log a.log)
      where
        by : (b.log ≡ a.log) ⊎ (b.log ≡ a.log → ⊥) → b.log ≡ a.log
        by (inl q) = q
        by (inr ne) = absurd (let w = first.worst.log ne in omega (arith, w))

    rose : {e : WorkEnd} {r : Refused} → Counted no_refusals e r → RoseBy e b c → RoseBy e a c
    rose finished t = tt
    rose memory t = tt
    rose (disk q) t = let g = first.grown.disk in omega (arith, g, t)
    rose trace t = let g = first.grown.trace in omega (arith, g, t)
    rose log t = let g = first.grown.log in omega (arith, g, t)
