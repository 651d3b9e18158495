-- What a turn leaves, and that the turns end.
use Rattle.std.proofs.Common.{◌≡◌, ℕ, zero, suc, ◌+◌, ◌-◌, ◌*◌, ◌<◌, ◌≤◌, Bool, true, false, List, [], ◌∷◌, length, map, get_or, set, replicate, Option, Some, None, refl, sym, ap, subst, ◌∙◌, arith, rules}
use Rattle.std.specs.Prelude.{sum, nat_le, nat_lt, if◌then◌else◌}
use Rattle.std.specs.List.{AllByRecursion}
use Rattle.std.proofs.lemmas.Bool.{ltb-true, leb-true, ltb-false, leb-false}
use Rattle.std.proofs.lemmas.List.Sums.{sum-map, sum_by-set}
use Rattle.plain_model.specs.declared.calls.Call.{Call}
use Rattle.call_generator.specs.declared.client.Client.{Client}
use Rattle.call_generator.specs.declared.turns.Turn.{Turn}
use Rattle.call_generator.specs.Draws.{next_number, drawn}
use Rattle.call_generator.specs.Generator.{Generating, generator, new_client, has_left, waiting, chosen, client_of, call_of_client, drawn_call, ends, after_call, asked, next_turn, after_turn, Generates, done, turn, IsWithin, IsGenerating, turns_of, turns_left}
use Rattle.call_generator.proofs.WaitingLaws.{IsWaiting, waiting-each}

-- ---- a client

-- the client after a call is as it should be, and fewer turns are left to it
pub record GoesOn (c after : Client) : Type 0 where
  pub within : IsWithin after
  pub fewer : turns_of after < turns_of c

after-drawn : (left calls : ℕ) (call : Call) → calls < 64 → 0 < left → GoesOn (record { left = left; calls = Some calls }) (after_call (record { left = left; calls = Some calls }) call)
after-drawn left calls call few some =
    elim (ends call) as (λ (b : Bool). GoesOn (record { left = left; calls = Some calls }) (if b then record { left = left - 1; calls = None } else record { left = left; calls = Some (calls + 1) })) [
      | true ↦ record { within = tt; fewer = omega arith }
      | false ↦ record { within = (omega arith, some); fewer = omega arith }
    ]

pub after-goes-on : (left : ℕ) (calls : Option ℕ) (x : ℕ) → 0 < left → IsWithin (record { left = left; calls = calls }) → GoesOn (record { left = left; calls = calls }) (after_call (record { left = left; calls = calls }) (call_of_client calls x).0)
after-goes-on left None x some within = record { within = (omega arith, some); fewer = omega arith }
after-goes-on left (Some calls) x some within = by (nat_le 64 calls) refl
  where
    by : (b : Bool) → nat_le 64 calls ≡ b → GoesOn (record { left = left; calls = Some calls }) (after_call (record { left = left; calls = Some calls }) (call_of_client (Some calls) x).0)
    by true e = let w = within.0 in rw e (record { within = tt; fewer = omega (arith, w) })
    by false e = let few = leb-false 64 calls e in rw e (after-drawn left calls (drawn_call (drawn (next_number x) 16) (next_number x)).0 (omega (arith, few)) some)

-- ---- all clients

pub each-at : {X : Type 0} (P : X → Type 0) (xs : List X) (i : ℕ) (d : X) → i < length xs → AllByRecursion P xs → P (get_or xs i d)
each-at P [] i d l all = absurd (omega arith)
each-at P (x ∷ xs) zero d l all = all.0
each-at P (x ∷ xs) (suc i) d l all = each-at P xs i d (omega arith) all.1

each-set : {X : Type 0} (P : X → Type 0) (xs : List X) (i : ℕ) (y : X) → P y → AllByRecursion P xs → AllByRecursion P (set xs i y)
each-set P [] i y p all = tt
each-set P (x ∷ xs) zero y p all = (p, all.1)
each-set P (x ∷ xs) (suc i) y p all = (all.0, each-set P xs i y p all.1)

length-set : {X : Type 0} (xs : List X) (i : ℕ) (y : X) → length (set xs i y) ≡ length xs
length-set [] i y = refl
length-set (x ∷ xs) zero y = refl
length-set (x ∷ xs) (suc i) y = ap suc (length-set xs i y)

pub sum-set : (xs : List Client) (i : ℕ) (y d : Client) → i < length xs → turns_of y < turns_of (get_or xs i d) → sum (map turns_of (set xs i y)) < sum (map turns_of xs)
sum-set xs i y d within less =
    let a = sum-map turns_of (set xs i y) in
    let b = sum-map turns_of xs in
    let s = sum_by-set turns_of xs i y d within in
    omega (arith, a, b, s, less)

-- ---- a turn

nonempty : (ws : List ℕ) → (ws ≡ [] → ⊥) → 0 < length ws
nonempty [] n = absurd (n refl)
nonempty (w ∷ ws) n = omega arith

drawn-below : (x k : ℕ) → 0 < k → drawn x k < k
unfolding drawn
drawn-below x k some = search (rules, some)

-- the client whose turn it is has a transaction left
pub chosen-waits : (g : Generating) → (waiting g.clients ≡ [] → ⊥) → IsWaiting 0 g.clients (new_client 0) (chosen g)
chosen-waits g some =
    let ws = waiting g.clients in
    waiting-each 0 g.clients (new_client 0) (drawn (next_number g.number) (length ws)) (drawn-below (next_number g.number) (length ws) (nonempty ws some))

-- the generator after a turn is as it should be, and has fewer turns left
pub record TurnGoesOn (g : Generating) : Type 0 where
  pub inside : IsGenerating (after_turn g)
  pub fewer : turns_left (after_turn g) < turns_left g

pub turn-goes-on : (g : Generating) → IsGenerating g → (waiting g.clients ≡ [] → ⊥) → TurnGoesOn g
turn-goes-on g inside some =
    let w = chosen-waits g some in
    let there : chosen g < length g.clients = (let e = w.is in let l = w.within in omega (arith, e, l)) in
    let same : w.place ≡ chosen g = (let e = w.is in omega (arith, e)) in
    let left = subst (λ (i : ℕ). has_left (get_or g.clients i (new_client 0)) ≡ true) same w.left in
    let within = each-at IsWithin g.clients (chosen g) (new_client 0) there inside.each in
    let on = after-goes-on (client_of g).left (client_of g).calls (next_number g.number) (ltb-true 0 (client_of g).left left) within in
    record {
      inside = record {
        few = (let f = inside.few in let l = length-set g.clients (chosen g) (after_call (client_of g) (asked g).0) in omega (arith, f, l));
        each = each-set IsWithin g.clients (chosen g) _ on.within inside.each;
      };
      fewer = sum-set g.clients (chosen g) _ (new_client 0) there on.fewer;
    }

-- ---- all turns

-- the generator gives some turns, and then none
pub gives-turns : (n : ℕ) (g : Generating) → IsGenerating g → turns_left g ≤ n → (turns : List Turn) × Generates g turns
gives-turns zero g inside most = by (waiting g.clients) refl
  where
    by : (ws : List ℕ) → waiting g.clients ≡ ws → (turns : List Turn) × Generates g turns
    by [] e = ([], done g e)
    by (w ∷ ws) e = let on = turn-goes-on g inside (λ f. let h : w ∷ ws ≡ [] = sym e ∙ f in absurd (cc (h))) in absurd (let l = on.fewer in omega (arith, l, most))
gives-turns (suc n) g inside most = by (λ next l. gives-turns n (after_turn g) next l) (waiting g.clients) refl
  where
    by : (IsGenerating (after_turn g) → turns_left (after_turn g) ≤ n → (turns : List Turn) × Generates (after_turn g) turns) → (ws : List ℕ) → waiting g.clients ≡ ws → (turns : List Turn) × Generates g turns
    by behind [] e = ([], done g e)
    by behind (w ∷ ws) e =
        let some : waiting g.clients ≡ [] → ⊥ = λ f. let h : w ∷ ws ≡ [] = sym e ∙ f in absurd (cc (h)) in
        let on = turn-goes-on g inside some in
        let rest = behind on.inside (let l = on.fewer in omega (arith, l, most)) in
        (next_turn g ∷ rest.0, turn g rest.0 some rest.1)

-- no generator gives two lists of turns
pub one-list : (g : Generating) (xs ys : List Turn) → Generates g xs → Generates g ys → xs ≡ ys
one-list g xs ys (done _ e) (done _ f) = refl
one-list g xs ys (done _ e) (turn _ ts some more) = absurd (some e)
one-list g xs ys (turn _ ts some more) (done _ e) = absurd (some e)
one-list g xs ys (turn _ ts some more) (turn _ us other less) = ap (λ (zs : List Turn). next_turn g ∷ zs) (one-list (after_turn g) ts us more less)

-- ---- a new generator

pub generator-inside : (seed clients transactions : ℕ) → clients ≤ 64 → IsGenerating (generator seed clients transactions)
generator-inside seed clients transactions few = record { few = (let l = size clients in omega (arith, l, few)); each = each clients }
  where
    size : (n : ℕ) → length (replicate n (new_client transactions)) ≡ n
    size zero = refl
    size (suc n) = ap suc (size n)

    each : (n : ℕ) → AllByRecursion IsWithin (replicate n (new_client transactions))
    each zero = tt
    each (suc n) = (tt, each n)
