-- Looks one after another, and the way to an object by a guide's bits.
use Rattle.std.proofs.Common.{◌≡◌, ◌≢◌, ℕ, ◌<◌, ◌≤◌, ◌+◌, List, [], ◌∷◌, ◌++◌, Option, refl, sym, ap, ◌∙◌, subst, arith}
use Rattle.std.specs.Int.{bit_at}
use Rattle.plain_model.specs.declared.object.Object.{Object}
use Rattle.plain_model.specs.declared.calls.Reply.TheVariants as reply
use Rattle.object_map.specs.declared.refusal.MapRefusal.{MapRefusal}
use Rattle.object_map.specs.declared.refusal.MapRefusal.TheVariants as refusal
use Rattle.object_map.specs.Maps.{slot_of, payload_of}
use Rattle.object_map.specs.Seen.{Seen, held, Loads}
use Rattle.object_map.specs.Clients.{ClientView, seen, Asks, Falls, no_id}
use Rattle.object_map.specs.Walking.{Looks, Scans, Refuses, Comes, IsReached}
use Rattle.object_map.specs.Walking.Refuses.{denies, starves, falls}
use Rattle.object_map.proofs.AskLaws.{asks_none, asks_then, falls_after, never_full}

-- ---- looks

pub looks_none : {D : Type 0} (v : ClientView D) → Looks v v
looks_none v = record { looks = 0; asks = asks_none v; graph = refl }

pub looks_then : {D : Type 0} {u v w : ClientView D} → Looks u v → Looks v w → Looks u w
looks_then {D} {u} {v} {w} x y = record { looks = x.looks + y.looks; asks = asks_then x.asks y.asks; graph = y.graph ∙ x.graph }

-- one call that reads
pub looks_once : {D : Type 0} {n : ℕ} {v w : ClientView D} → Asks n [] v w → (seen w).graph ≡ (seen v).graph → Looks v w
looks_once {D} {n} a g = record { looks = n; asks = a; graph = g }

-- one that answers a payload
pub looks_payload : {D : Type 0} {n : ℕ} {v w : ClientView D} → Asks n [] v w → seen w ≡ seen v → Looks v w
looks_payload {D} {n} a s = record { looks = n; asks = a; graph = ap (λ (x : Seen). x.graph) s }

pub scans_none : {D : Type 0} (v : ClientView D) → Scans v v
scans_none v = record { look = looks_none v; others = λ r n. refl }

pub scans_then : {D : Type 0} {u v w : ClientView D} → Scans u v → Scans v w → Scans u w
scans_then {D} {u} {v} {w} x y = record { look = looks_then x.look y.look; others = λ r n. y.others r n ∙ x.others r n }

pub scans_once : {D : Type 0} {n : ℕ} {v w : ClientView D} {id : Option ℕ} → Asks n [] v w → Loads 4 id (seen v) (seen w) → Scans v w
scans_once {D} {n} a l = record { look = looks_once a l.graph; others = l.others }

-- ---- refusals

pub falls_looked : {D : Type 0} {why : MapRefusal} {u v w : ClientView D} → Looks u v → Falls 0 why v w → Falls 0 why u w
falls_looked x f = falls_after x.asks f

pub refuses_after : {D : Type 0} {why : MapRefusal} {A B : Type 0} {u v w : ClientView D} → Looks u v → (A → B) → Refuses why A v w → Refuses why B u w
refuses_after x f (denies id e a l) = denies id e (f a) (looks_then x l)
refuses_after x f (starves e l) = starves e (looks_then x l)
refuses_after x f (falls g) = falls (falls_looked x g)

pub refuses_full : {D : Type 0} {why : MapRefusal} {A : Type 0} {u w : ClientView D} → Refuses why A u w → why ≡ no_id → ⊥
refuses_full (denies id e a l) n = other id (sym e ∙ n)
  where
    other : (id : ℕ) → refusal.NotMap id ≡ refusal.Store reply.Full → ⊥
    other id p = absurd (cc)
refuses_full (starves e l) n = other (sym e ∙ n)
  where
    other : refusal.Memory ≡ refusal.Store reply.Full → ⊥
    other p = absurd (cc)
refuses_full (falls g) n = never_full g n

pub refuses_rooted : {D : Type 0} {why : MapRefusal} {A : Type 0} {u w : ClientView D} → Refuses why A u w → held (seen w) 0 ≡ held (seen u) 0
refuses_rooted (denies id e a l) = l.asks.rooted
refuses_rooted (starves e l) = l.asks.rooted
refuses_rooted (falls g) = g.fails.rooted

-- ---- the way by a guide's bits

pub comes_below : (at : ℕ → Option Object) (guide last below : ℕ) (bs : List ℕ) (x y : ℕ) → Comes at guide last below bs x y → below ≤ last
comes_below at guide last below [] x y h = h.0
comes_below at guide last below (b ∷ bs) x y h =
    let less : b < last = h.0 in
    let le : below ≤ b = comes_below at guide b below bs (slot_of (at x) (bit_at guide b)) y h.3 in
    omega (arith, less, le)

-- another guide with the same bits leads the same way
pub comes_guide : (at : ℕ → Option Object) (guide other last below : ℕ) (bs : List ℕ) (x y : ℕ) → ((b : ℕ) → below ≤ b → bit_at other b ≡ bit_at guide b) → Comes at guide last below bs x y → Comes at other last below bs x y
comes_guide at guide other last below [] x y same h = h
comes_guide at guide other last below (b ∷ bs) x y same h =
    let le : below ≤ b = comes_below at guide b below bs (slot_of (at x) (bit_at guide b)) y h.3 in
    let digit : bit_at guide b ≡ bit_at other b = sym (same b le) in
    (h.0, h.1, subst (λ d. slot_of (at x) d ≢ 0) digit h.2, subst (λ d. Comes at other b below bs (slot_of (at x) d) y) digit (comes_guide at guide other b below bs (slot_of (at x) (bit_at guide b)) y same h.3))

-- the way goes on by one object more
pub comes_more : (at : ℕ → Option Object) (guide last below bit : ℕ) (bs : List ℕ) (x y z : ℕ) → Comes at guide last below bs x y → bit < below → payload_of (at y) ≡ bit → slot_of (at y) (bit_at guide bit) ≡ z → z ≢ 0 → Comes at guide last bit (bs ++ bit ∷ []) x z
comes_more at guide last below bit [] x y z h less p s n =
    let same : x ≡ y = h.1 in
    let le : below ≤ last = h.0 in
    let here : slot_of (at x) (bit_at guide bit) ≡ z = ap (λ i. slot_of (at i) (bit_at guide bit)) same ∙ s in
    let low : bit < last = omega (arith, less, le) in
    let own : bit ≤ bit = omega arith in
    (low, ap (λ i. payload_of (at i)) same ∙ p, (λ e. n (sym here ∙ e)), (own, here))
comes_more at guide last below bit (b ∷ bs) x y z h less p s n = (h.0, h.1, h.2, comes_more at guide b below bit bs (slot_of (at x) (bit_at guide b)) y z h.3 less p s n)

pub reached_more : (at : ℕ → Option Object) (guide below bit x y z : ℕ) → IsReached at guide below x y → bit < below → payload_of (at y) ≡ bit → slot_of (at y) (bit_at guide bit) ≡ z → z ≢ 0 → IsReached at guide bit x z
reached_more at guide below bit x y z r less p s n = record { numbers = r.numbers ++ bit ∷ []; comes = comes_more at guide 64 below bit r.numbers x y z r.comes less p s n }

pub reached_guide : (at : ℕ → Option Object) (guide other below x y : ℕ) → ((b : ℕ) → below ≤ b → bit_at other b ≡ bit_at guide b) → IsReached at guide below x y → IsReached at other below x y
reached_guide at guide other below x y same r = record { numbers = r.numbers; comes = comes_guide at guide other 64 below r.numbers x y same r.comes }

-- where the way isn't at its end, it goes on
pub record GoesOn (at : ℕ → Option Object) (guide last below x y : ℕ) : Type 0 where
  pub bit : ℕ
  pub less : bit < last
  pub number : payload_of (at x) ≡ bit
  pub some : slot_of (at x) (bit_at guide bit) ≢ 0
  pub rest : List ℕ
  pub comes : Comes at guide bit below rest (slot_of (at x) (bit_at guide bit)) y

pub goes_on : (at : ℕ → Option Object) (guide last below : ℕ) (bs : List ℕ) (x y : ℕ) → Comes at guide last below bs x y → x ≢ y → GoesOn at guide last below x y
goes_on at guide last below [] x y h n = absurd (n h.1)
goes_on at guide last below (b ∷ bs) x y h n = record { bit = b; less = h.0; number = h.1; some = h.2; rest = bs; comes = h.3 }
