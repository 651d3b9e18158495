-- Which refusal comes of one below an inner object.
use Rattle.std.proofs.Common.{◌≡◌, ◌≢◌, ℕ, ◌<◌, ◌≤◌, ◌*◌, ◌%◌, ◌^◌, List, [], ◌∷◌, Option, Some, sym, ap, ◌∙◌, subst, arith}
use Rattle.std.specs.Int.{bit_at}
use Rattle.std.specs.Int.Bits.{bit_or}
use Rattle.plain_model.specs.declared.object.Object.{Object}
use Rattle.plain_model.specs.declared.calls.Reply.{Reply}
use Rattle.plain_model.specs.declared.calls.Reply.TheVariants as reply
use Rattle.object_map.specs.declared.refusal.MapRefusal.{MapRefusal}
use Rattle.object_map.specs.declared.refusal.MapRefusal.TheVariants as refusal
use Rattle.object_map.specs.Clients.{ClientView, Falls, refusal_for}
use Rattle.plain_model.specs.Graphs.{root, object_at}
use Rattle.object_map.specs.declared.fork.Fork.{Fork}
use Rattle.object_map.specs.Forks.{IsFork, IsReady}
use Rattle.object_map.specs.Maps.{IsInner, slot_of}
use Rattle.object_map.specs.Seen.{Seen, at, held}
use Rattle.object_map.specs.Walking.{Looks, Refuses, Blames, Comes, IsReached}
use Rattle.object_map.specs.Walking.Refuses.{denies, starves, falls}
use Rattle.object_map.specs.Walking.Blames.{passes, keeps, turns, stops}
use Rattle.object_map.proofs.WalkLaws.{looks_then, refuses_after, reached_more, reached_guide}
use Rattle.object_map.proofs.GrowLaws.{moved_on, bit_here, bit_other}
use Rattle.object_map.proofs.GuideLaws.{clear_high}

-- ---- which refusals name an object

abbrev named_in : MapRefusal → ℕ
named_in (refusal.NotMap id) = id
named_in (refusal.Store r) = 0
named_in refusal.Memory = 0

pub same_name : (a b : ℕ) → refusal.NotMap a ≡ refusal.NotMap b → a ≡ b
same_name a b e = ap named_in e

pub memory_names : (d : ℕ) → refusal.Memory ≡ refusal.NotMap d → ⊥
memory_names d e = absurd (cc)

reply_names : (d : ℕ) (r : Reply) → refusal_for r ≡ refusal.NotMap d → ⊥
reply_names d reply.Memory e = absurd (cc)
reply_names d r e = absurd (cc)

-- none that comes of the store
pub falls_names : {D : Type 0} {n : ℕ} {why : MapRefusal} {u v : ClientView D} → Falls n why u v → (d : ℕ) → why ≡ refusal.NotMap d → ⊥
falls_names {D} {n} {why} {u} {v} f d e = reply_names d f.fails.answer (sym f.fails.told ∙ e)

-- where an object is named there were looks alone
pub record Denied {D : Type 0} (A : Type 0) (u v : ClientView D) : Type 0 where
  pub absent : A
  pub looks : Looks u v

pub denied : {D : Type 0} {why : MapRefusal} {A : Type 0} {u v : ClientView D} → Refuses why A u v → (d : ℕ) → why ≡ refusal.NotMap d → Denied A u v
denied (denies id n a l) d e = record { absent = a; looks = l }
denied (starves n l) d e = absurd (memory_names d (sym n ∙ e))
denied (falls f) d e = absurd (falls_names f d e)

-- ---- a refusal below an inner object

pub blamed : {D : Type 0} {why result : MapRefusal} {A B W : Type 0} {id : ℕ} {t u v w : ClientView D} → Looks t u → (A → B) → Refuses why A u v → Blames why W id v w result → Refuses result B t w
blamed {D} {why} {result} {A} {B} {W} {id} {t} {u} {v} {w} x f r (passes none e s) = subst (λ y. Refuses y B t w) (sym e) (subst (λ y. Refuses why B t y) (sym s) (refuses_after x f r))
blamed {D} {why} {result} {A} {B} {W} {id} {t} {u} {v} {w} x f r (keeps d n e none l) = (let y : Denied A u v = denied r d n in denies d (e ∙ n) (f y.absent) (looks_then x (looks_then y.looks l)))
blamed {D} {why} {result} {A} {B} {W} {id} {t} {u} {v} {w} x f r (turns d n e wrong l) = (let y : Denied A u v = denied r d n in denies id e (f y.absent) (looks_then x (looks_then y.looks l)))
blamed {D} {why} {result} {A} {B} {W} {id} {t} {u} {v} {w} x f r (stops d n s) = (let y : Denied A u v = denied r d n in refuses_after (looks_then x y.looks) (λ (z : ⊥). absurd z) s)

-- what is named is what was named below, where there is no wrong key, or the inner object, where there is one
pub blamed_first : {D : Type 0} {why result : MapRefusal} {W : Type 0} {id : ℕ} {v w : ClientView D} (F : ℕ → Type 0) → ((d : ℕ) → why ≡ refusal.NotMap d → (W → ⊥) → F d) → ((d : ℕ) → why ≡ refusal.NotMap d → W → F id) → Blames why W id v w result → (d : ℕ) → result ≡ refusal.NotMap d → F d
blamed_first {D} {why} {result} {W} {id} {v} {w} F below here (passes none e s) d n = absurd (none d (sym e ∙ n))
blamed_first {D} {why} {result} {W} {id} {v} {w} F below here (keeps b m e none l) d n = below d (sym e ∙ n) none
blamed_first {D} {why} {result} {W} {id} {v} {w} F below here (turns b m e wrong l) d n = subst F (same_name id d (sym e ∙ n)) (here b m wrong)
blamed_first {D} {why} {result} {W} {id} {v} {w} F below here (stops b m s) d n = absurd ((denied s d n).absent)

-- ---- what a guide's bits lead to is named

comes_named : (f : ℕ → Option Object) (guide last below : ℕ) (bs : List ℕ) (x y : ℕ) → x ≢ 0 → Comes f guide last below bs x y → y ≢ 0
comes_named f guide last below [] x y n h = λ z. n (h.1 ∙ z)
comes_named f guide last below (b ∷ bs) x y n h = comes_named f guide b below bs (slot_of (f x) (bit_at guide b)) y h.2 h.3

pub reached_named : (f : ℕ → Option Object) (guide below x y : ℕ) → x ≢ 0 → IsReached f guide below x y → y ≢ 0
reached_named f guide below x y n r = comes_named f guide 64 below r.numbers x y n r.comes

-- ---- an inner object with two sides

pub fork_is : (f : ℕ → Option Object) (top : ℕ) (k : Fork) (id payload low high guide below : ℕ) → k ≡ record { id = id; bit = payload; low = low; high = high; guide = guide; turned = bit_or guide (1 * 2 ^ payload % 2 ^ 64) }
    → IsInner (f id) payload low high → payload < below → below ≤ 64 → IsReached f guide below top id → ((b : ℕ) → b < below → bit_at guide b ≡ 0) → IsFork f top k
fork_is f top k id payload low high guide below e i less few way clear =
    let fits : payload < 64 = omega (arith, less, few) in
    let turned = bit_or guide (1 * 2 ^ payload % 2 ^ 64) in
    let same : (b : ℕ) → below ≤ b → bit_at turned b ≡ bit_at guide b = λ b le. bit_other guide payload b fits (λ q. absurd (omega (arith, q, le, less))) in
    subst (λ x. IsFork f top x) (sym e) (record {
      inner = i;
      number = fits;
      low_way = reached_more f guide below payload top id low way less i.bit_is (ap (λ d. slot_of (f id) d) (clear payload less) ∙ i.names_low) i.low_named;
      high_way = reached_more f turned below payload top id high (reached_guide f guide turned below top id same way) less i.bit_is (ap (λ d. slot_of (f id) d) (bit_here guide payload fits) ∙ i.names_high) i.high_named;
      low_clear = λ b l. clear b (omega (arith, l, less));
      high_clear = clear_high guide below payload less few clear;
    })

-- at a later moment with the same graph
pub ready_later : (v w : Seen) (k : Fork) → w.graph ≡ v.graph → held w 0 ≡ Some root → slot_of (at v root) 13 ≢ 0 → IsFork (at v) (slot_of (at v root) 13) k → IsReady w k
ready_later v w k g r n h = record { rooted = r; start = λ z. n (ap (λ x. slot_of (object_at x root) 13) (sym g) ∙ z); fork = moved_on v w (λ f. IsFork f (slot_of (f root) 13) k) g h }
