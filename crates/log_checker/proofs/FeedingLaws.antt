-- A checker after more pieces.
use Rattle.std.proofs.Common.{◌≡◌, ℕ, List, [], ◌++◌, length, Option, Some, None, refl, sym, ap, subst, arith, length-append}
use Rattle.std.specs.Int.{w16, to_be_bytes}
use Rattle.ship_stream.specs.declared.refusal.FeedRefusal.{FeedRefusal}
use Rattle.ship_stream.specs.declared.refusal.FeedRefusal.TheVariants.{Damaged, Memory}
use Rattle.ship_stream.specs.Reading.{Reading, Nothing}
use Rattle.ship_stream.specs.Feeding.{Feeding, HasTaken, fresh, IsWaiting}
use Rattle.standby.specs.Damage.{IsDamagedAt}
use Rattle.standby.proofs.FeedingLaws.{stays_damaged}
use Rattle.log_checker.specs.Checking.{Checked, HasBoth, IsReadInto}
use Rattle.log_checker.specs.Feeds.{IsFedWith, FollowsAs}

nothing_waits : {slots : ℕ} (rest : List ℕ) → [] ≡ rest → IsWaiting {slots = slots} Nothing rest
nothing_waits rest none = record {
  behind = tt;
  no_part = λ long. omega (arith, long, ap length none);
  no_fault = λ at b. omega (arith, ap length b.2, ap length none, length-append (to_be_bytes w16 b.0) b.1);
}

taken_nothing : {slots : ℕ} (v : Feeding) → v ≡ fresh → HasTaken {slots = slots} Nothing [] v
taken_nothing {slots} v is = subst (λ x. HasTaken {slots = slots} Nothing [] x) (sym is) (record { reading = tt; rest = []; split = refl; place = refl; stands = refl })

pub starts : {slots : ℕ} (v : Feeding) (c : Checked slots) → v ≡ fresh → HasBoth Nothing c → FollowsAs None [] v c
starts {slots} v c is has =
    let t : HasTaken {slots = slots} Nothing [] v = taken_nothing v is in
    (Nothing, record { read = record { taken = t; has = has }; waits = nothing_waits t.rest t.split })

-- a checker that was refused stays as it is
follows_on : {slots : ℕ} (bytes piece : List ℕ) (v : Feeding) (c : Checked slots) (refusal : FeedRefusal) → FollowsAs (Some refusal) bytes v c → FollowsAs (Some refusal) (bytes ++ piece) v c
follows_on {slots} bytes piece v c (Damaged at) f = stays_damaged slots bytes piece at f
follows_on bytes piece v c Memory f = tt

pub refused_on : {slots : ℕ} (bytes piece : List ℕ) (v : Feeding) (c : Checked slots) (refused : Option FeedRefusal) (refusal : FeedRefusal) → refused ≡ Some refusal
    → FollowsAs refused bytes v c → FollowsAs refused (bytes ++ piece) v c
refused_on bytes piece v c refused refusal is f =
    subst (λ o. FollowsAs o (bytes ++ piece) v c) (sym is) (follows_on bytes piece v c refusal (subst (λ o. FollowsAs o bytes v c) is f))

-- one that isn't was fed with it
pub fed_on : {slots : ℕ} (bytes piece : List ℕ) (v w : Feeding) (c d : Checked slots) (refused : Option FeedRefusal) → refused ≡ None
    → ((r : Reading slots) (front : List ℕ) → IsReadInto r front v c → IsFedWith (front ++ piece) w d) → FollowsAs refused bytes v c → FollowsAs refused (bytes ++ piece) w d
fed_on bytes piece v w c d refused is took f =
    let fed = subst (λ o. FollowsAs o bytes v c) is f in
    subst (λ o. FollowsAs o (bytes ++ piece) w d) (sym is) (took fed.0 bytes fed.1.read)

-- and one that is refused now shows the fault
pub refused_now : {slots : ℕ} (bytes piece : List ℕ) (v w : Feeding) (c d : Checked slots) (refused : Option FeedRefusal) (refusal : FeedRefusal) → refused ≡ None
    → ((r : Reading slots) (front : List ℕ) (at : ℕ) → IsReadInto r front v c → refusal ≡ Damaged at → IsDamagedAt slots (front ++ piece) at)
    → FollowsAs refused bytes v c → FollowsAs (Some refusal) (bytes ++ piece) w d
refused_now {slots} bytes piece v w c d refused refusal is found f = by refusal found
  where
    by : (e : FeedRefusal) → ((r : Reading slots) (front : List ℕ) (at : ℕ) → IsReadInto r front v c → e ≡ Damaged at → IsDamagedAt slots (front ++ piece) at) → FollowsAs (Some e) (bytes ++ piece) w d
    by (Damaged at) finds = let fed = subst (λ o. FollowsAs o bytes v c) is f in finds fed.0 bytes at fed.1.read refl
    by Memory finds = tt
