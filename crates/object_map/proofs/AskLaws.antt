-- Calls, one after another.
use Rattle.std.proofs.Common.{◌≡◌, ℕ, ◌+◌, ◌-◌, ◌*◌, ◌<◌, ◌≤◌, suc, Bool, true, false, List, [], ◌∷◌, ◌++◌, refl, sym, ap, ◌∙◌, subst, arith, Result, Ok, Err, IfErr, IsErrAnd}
use Rattle.std.specs.Prelude.{if◌then◌else◌}
use Rattle.plain_model.specs.declared.calls.Call.{Call as TransactionCall}
use Rattle.plain_model.specs.declared.calls.Reply.{Reply}
use Rattle.object_map.specs.declared.refusal.MapRefusal.{MapRefusal}
use Rattle.object_map.specs.Seen.{held}
use Rattle.object_map.specs.Clients.{ClientView, seen, is_look, IsGranted, IsCause, IsAsked, Run, looks_in, changes_in, makes_in, is_make, free_ids, state_of, AreGranted, Asks, Fails, Falls, no_id, refusal_for}

-- ---- two runs are one

zero_sum : (n : ℕ) → n ≡ 0 + n
zero_sum n = omega arith

suc_sum : (n a b : ℕ) → n ≡ a + b → suc n ≡ suc a + b
suc_sum n a b e = omega (arith, e)

run_then : {D : Type 0} (es fs : List (TransactionCall × Reply)) (u v w : ClientView D) → Run es u v → Run fs v w → Run (es ++ fs) u w
run_then [] fs u v w r s = subst (λ x. Run fs x w) r s
run_then (e ∷ es) fs u v w r s = (r.0, (r.1.0, run_then es fs r.0 v w r.1.1 s))

granted_then : (es fs : List (TransactionCall × Reply)) → AreGranted es → AreGranted fs → AreGranted (es ++ fs)
granted_then [] fs g h = h
granted_then (e ∷ es) fs g h = (g.0, granted_then es fs g.1 h)

looks_then : (es fs : List (TransactionCall × Reply)) → looks_in (es ++ fs) ≡ looks_in es + looks_in fs
looks_then [] fs = zero_sum (looks_in fs)
looks_then (e ∷ es) fs = by (looks_then es fs) (is_look e.0)
  where
    by : (looks_in (es ++ fs) ≡ looks_in es + looks_in fs) → (b : Bool) → (if b then suc (looks_in (es ++ fs)) else looks_in (es ++ fs)) ≡ (if b then suc (looks_in es) else looks_in es) + looks_in fs
    by h true = suc_sum (looks_in (es ++ fs)) (looks_in es) (looks_in fs) h
    by h false = h

changes_then : (es fs : List (TransactionCall × Reply)) → changes_in (es ++ fs) ≡ changes_in es ++ changes_in fs
changes_then [] fs = refl
changes_then (e ∷ es) fs = by (changes_then es fs) (is_look e.0)
  where
    by : (changes_in (es ++ fs) ≡ changes_in es ++ changes_in fs) → (b : Bool) → (if b then changes_in (es ++ fs) else e.0 ∷ changes_in (es ++ fs)) ≡ (if b then changes_in es else e.0 ∷ changes_in es) ++ changes_in fs
    by h true = h
    by h false = ap (λ cs. e.0 ∷ cs) h

makes_then : (cs ds : List TransactionCall) → makes_in (cs ++ ds) ≡ makes_in cs + makes_in ds
makes_then [] ds = zero_sum (makes_in ds)
makes_then (c ∷ cs) ds = by (makes_then cs ds) (is_make c)
  where
    by : (makes_in (cs ++ ds) ≡ makes_in cs + makes_in ds) → (b : Bool) → (if b then suc (makes_in (cs ++ ds)) else makes_in (cs ++ ds)) ≡ (if b then suc (makes_in cs) else makes_in cs) + makes_in ds
    by h true = suc_sum (makes_in (cs ++ ds)) (makes_in cs) (makes_in ds) h
    by h false = h

-- ---- calls that were done

pub asks_none : {D : Type 0} (v : ClientView D) → Asks 0 [] v v
asks_none v = record { made = []; run = refl; granted = tt; few = omega (arith); changes_are = refl; rooted = refl; free = (let n = free_ids (state_of v) in omega arith) }

pub asks_then : {D : Type 0} {a b : ℕ} {cs ds : List TransactionCall} {u v w : ClientView D} → Asks a cs u v → Asks b ds v w → Asks (a + b) (cs ++ ds) u w
asks_then {D} {a} {b} {cs} {ds} {u} {v} {w} x y = record {
  made = x.made ++ y.made;
  run = run_then x.made y.made u v w x.run y.run;
  granted = granted_then x.made y.made x.granted y.granted;
  few = (let e : looks_in (x.made ++ y.made) ≡ looks_in x.made + looks_in y.made = looks_then x.made y.made in
      let f : looks_in x.made ≤ a = x.few in
      let g : looks_in y.made ≤ b = y.few in
      omega (arith, e, f, g));
  changes_are = changes_then x.made y.made ∙ ap (λ l. l ++ changes_in y.made) x.changes_are ∙ ap (λ l. cs ++ l) y.changes_are;
  rooted = y.rooted ∙ x.rooted;
  free = (let e : makes_in (cs ++ ds) ≡ makes_in cs + makes_in ds = makes_then cs ds in
      let f : free_ids (state_of v) + makes_in cs ≡ free_ids (state_of u) = x.free in
      let g : free_ids (state_of w) + makes_in ds ≡ free_ids (state_of v) = y.free in
      omega (arith, e, f, g));
}

pub asks_within : {D : Type 0} {a b : ℕ} {cs : List TransactionCall} {u v : ClientView D} → a ≤ b → Asks a cs u v → Asks b cs u v
asks_within {D} {a} {b} {cs} {u} {v} h x = record {
  made = x.made;
  run = x.run;
  granted = x.granted;
  changes_are = x.changes_are;
  rooted = x.rooted;
  free = x.free;
  few = (let f : looks_in x.made ≤ a = x.few in omega (arith, f, h));
}

-- ---- a call that was refused

pub fails_after : {D : Type 0} {a : ℕ} {cs : List TransactionCall} {why : MapRefusal} {u v w : ClientView D} → Asks a cs u v → Fails why v w → Fails why u w
fails_after {D} {a} {cs} {why} {u} {v} {w} x y = record {
  made = x.made ++ y.made;
  before = y.before;
  call = y.call;
  answer = y.answer;
  run = run_then x.made y.made u v y.before x.run y.run;
  granted = granted_then x.made y.made x.granted y.granted;
  last = y.last;
  cause = y.cause;
  told = y.told;
  rooted = y.rooted ∙ x.rooted;
}

pub falls_after : {D : Type 0} {a n : ℕ} {cs : List TransactionCall} {why : MapRefusal} {u v w : ClientView D} → Asks a cs u v → Falls n why v w → Falls (makes_in cs + n) why u w
falls_after {D} {a} {n} {cs} {why} {u} {v} {w} x y = record {
  fails = fails_after x y.fails;
  short = λ e. (let f : free_ids (state_of v) + makes_in cs ≡ free_ids (state_of u) = x.free in
      let g : free_ids (state_of v) < n = y.short e in
      omega (arith, f, g));
}

pub falls_within : {D : Type 0} {m n : ℕ} {why : MapRefusal} {u w : ClientView D} → m ≤ n → Falls m why u w → Falls n why u w
falls_within {D} {m} {n} {why} {u} {w} h y = record { fails = y.fails; short = λ e. (let g : free_ids (state_of u) < m = y.short e in omega (arith, g, h)) }

-- that every id is stored never comes of calls that make no object
pub never_full : {D : Type 0} {why : MapRefusal} {u w : ClientView D} → Falls 0 why u w → why ≡ no_id → ⊥
never_full {D} {why} {u} {w} y e = (let g : free_ids (state_of u) < 0 = y.short e in absurd (omega (arith, g)))

-- ---- one call

pub asked_look : {D : Type 0} {v w : ClientView D} (c : TransactionCall) (r : Reply) → is_look c ≡ true → IsAsked v c r w → IsGranted r → held (seen w) 0 ≡ held (seen v) 0 → free_ids (state_of w) ≡ free_ids (state_of v) → Asks 1 [] v w
asked_look {D} {v} {w} c r look a g rooted free = record {
  made = (c, r) ∷ [];
  run = (w, (a, refl));
  granted = (g, tt);
  few = subst (λ b. (if b then 1 else 0) ≤ 1) (sym look) (omega (arith));
  changes_are = ap (λ b. if b then [] else c ∷ []) look;
  rooted = rooted;
  free = (let f : free_ids (state_of w) ≡ free_ids (state_of v) = free in omega (arith, f));
}

pub asked_change : {D : Type 0} {v w : ClientView D} (c : TransactionCall) (r : Reply) → is_look c ≡ false → IsAsked v c r w → IsGranted r → held (seen w) 0 ≡ held (seen v) 0 → free_ids (state_of w) + makes_in (c ∷ []) ≡ free_ids (state_of v) → Asks 0 (c ∷ []) v w
asked_change {D} {v} {w} c r look a g rooted free = record {
  made = (c, r) ∷ [];
  run = (w, (a, refl));
  granted = (g, tt);
  few = subst (λ b. (if b then 1 else 0) ≤ 0) (sym look) (omega (arith));
  changes_are = ap (λ b. if b then [] else c ∷ []) look;
  rooted = rooted;
  free = free;
}

pub asked_fails : {D : Type 0} {v w : ClientView D} (why : MapRefusal) (c : TransactionCall) (r : Reply) → IsAsked v c r w → IsCause c r → why ≡ refusal_for r → held (seen w) 0 ≡ held (seen v) 0 → Fails why v w
asked_fails {D} {v} {w} why c r a cause told rooted = record { made = []; before = v; call = c; answer = r; run = refl; granted = tt; last = a; cause = cause; told = told; rooted = rooted }

-- it isn't for want of an id
pub falls_other : {D : Type 0} {v w : ClientView D} {why : MapRefusal} → Fails why v w → (why ≡ no_id → ⊥) → Falls 0 why v w
falls_other f n = record { fails = f; short = λ e. absurd (n e) }

-- every id is stored
pub falls_full : {D : Type 0} {v w : ClientView D} {why : MapRefusal} → Fails why v w → free_ids (state_of v) ≡ 0 → Falls 1 why v w
falls_full {D} {v} {w} {why} f n = record { fails = f; short = λ e. (let g : free_ids (state_of v) ≡ 0 = n in omega (arith, g)) }

-- ---- loops

-- one turn of a loop that goes down by the numbers of bits
left_more : (last number : ℕ) → number < last → number < 64 → (64 - last) + 1 ≤ 64 - number
left_more last number h k = omega (arith, h, k)

pub two_more : {D : Type 0} {last number : ℕ} {u v w x : ClientView D} → Asks (1 + 2 * (64 - last)) [] u v → Asks 1 [] v w → Asks 1 [] w x → number < last → number < 64 → Asks (1 + 2 * (64 - number)) [] u x
two_more {D} {last} {number} a b c h k =
    let e : (64 - last) + 1 ≤ 64 - number = left_more last number h k in
    let f : (1 + 2 * (64 - last)) + (1 + 1) ≤ 1 + 2 * (64 - number) = omega (arith, e) in
    asks_within f (asks_then a (asks_then b c))

pub two_end : {D : Type 0} (last : ℕ) {u v : ClientView D} → Asks (1 + 2 * (64 - last)) [] u v → Asks 129 [] u v
two_end {D} last a =
    let f : 1 + 2 * (64 - last) ≤ 129 = omega arith in
    asks_within f a

pub three_more : {D : Type 0} {last number : ℕ} {u v w x y : ClientView D} → Asks (3 * (64 - last)) [] u v → Asks 1 [] v w → Asks 1 [] w x → Asks 1 [] x y → number < last → number < 64 → Asks (3 * (64 - number)) [] u y
three_more {D} {last} {number} a b c d h k =
    let e : (64 - last) + 1 ≤ 64 - number = left_more last number h k in
    let f : 3 * (64 - last) + (1 + (1 + 1)) ≤ 3 * (64 - number) = omega (arith, e) in
    asks_within f (asks_then a (asks_then b (asks_then c d)))

pub three_end : {D : Type 0} (last : ℕ) {u v w x : ClientView D} → Asks (3 * (64 - last)) [] u v → Asks 1 [] v w → Asks 1 [] w x → Asks 194 [] u x
three_end {D} last a b c =
    let f : 3 * (64 - last) + (1 + 1) ≤ 194 = omega (arith) in
    asks_within f (asks_then a (asks_then b c))

pub five_more : {D : Type 0} {last number : ℕ} {u v w x y : ClientView D} → Asks (1 + 5 * (64 - last)) [] u v → Asks 1 [] v w → Asks 1 [] w x → Asks 3 [] x y → number < last → number < 64 → Asks (1 + 5 * (64 - number)) [] u y
five_more {D} {last} {number} a b c d h k =
    let e : (64 - last) + 1 ≤ 64 - number = left_more last number h k in
    let f : (1 + 5 * (64 - last)) + (1 + (1 + 3)) ≤ 1 + 5 * (64 - number) = omega (arith, e) in
    asks_within f (asks_then a (asks_then b (asks_then c d)))

pub five_end : {D : Type 0} (last : ℕ) {u v w x : ClientView D} → Asks (1 + 5 * (64 - last)) [] u v → Asks 1 [] v w → Asks 1 [] w x → Asks 323 [] u x
five_end {D} last a b c =
    let f : (1 + 5 * (64 - last)) + (1 + 1) ≤ 323 = omega (arith) in
    asks_within f (asks_then a (asks_then b c))

pub seen_same : {D : Type 0} {v w : ClientView D} → v ≡ w → seen v ≡ seen w
seen_same e = ap (λ (x : ClientView _). seen x) e

-- ---- a refusal is handed on

pub out : {T : Type 0} {why : MapRefusal} (r : Result T MapRefusal) (P : MapRefusal → Type 0) → IsErrAnd r (λ y. y ≡ why) → P why → IfErr r P
out (Ok x) P e f = tt
out (Err y) P e f = subst P (sym e) f

pub more : (n : ℕ) → 0 ≤ n
more n = omega arith

-- a bound that is told by its numbers
pub at_most : (m n : ℕ) → m ≤ n → m ≤ n
at_most m n h = h
