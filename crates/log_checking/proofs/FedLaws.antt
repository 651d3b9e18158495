-- A checker that is fed from a source.
use Rattle.std.proofs.Common.{◌≡◌, ◌⊎◌, ⊎_elim, inl, inr, ℕ, ◌+◌, ◌-◌, ◌<◌, ◌≤◌, List, [], ◌++◌, length, sym, subst, arith, length-append}
use Rattle.std.proofs.lemmas.List.{append-nil}
use Rattle.std.specs.Prelude.{Option, Some, None}
use Rattle.std.specs.Io.KnownBytes.{IsAtEnd}
use Rattle.cell_page.specs.Format.{IsSlotCount}
use Rattle.ship_stream.specs.declared.stage.Stage.TheVariants.{Ended}
use Rattle.ship_stream.specs.declared.refusal.FeedRefusal.{FeedRefusal}
use Rattle.ship_stream.specs.declared.refusal.FeedRefusal.TheVariants.{Damaged as IsDamaged}
use Rattle.standby.specs.Damage.{IsDamagedAt}
use Rattle.standby_feeding.specs.Streams.{AreBytes, HasEnd, IsReadThrough, longest}
use Rattle.standby_feeding.proofs.WaitingLaws.{came, came_is, came_few, has_end, nothing_open}
use Rattle.log_checker.specs.Checking.{Checking}
use Rattle.log_checker.specs.Feeds.{Follows, FollowsAs, IsFedWith}

-- how many bytes came of a stream that goes on, as far as the checker tells
abbrev pub came_to : {slots : ℕ} → Checking slots → ℕ
came_to s = came s.feed.stage s.feed

-- a checker that wasn't refused read all of the bytes
fed : {slots : ℕ} (bytes : List ℕ) (s : Checking slots) → s.refused ≡ None → Follows bytes s → IsFedWith {slots = slots} bytes s.feed s.checked
fed bytes s none f = subst (λ (o : Option FeedRefusal). FollowsAs o bytes s.feed s.checked) none f

-- one that was refused shows the fault
pub damaged_at : {slots : ℕ} (bytes : List ℕ) (s : Checking slots) (at : ℕ) → s.refused ≡ Some (IsDamaged at) → Follows bytes s → IsDamagedAt slots bytes at
damaged_at bytes s at is f = subst (λ (o : Option FeedRefusal). FollowsAs o bytes s.feed s.checked) is f

end_of : {slots : ℕ} (bytes : List ℕ) (s : Checking slots) → s.refused ≡ None → s.feed.stage ≡ Ended → Follows bytes s → HasEnd slots bytes
end_of bytes s none is f = let x = fed bytes s none f in has_end x.0 bytes s.feed x.1.read.taken x.1.waits is

-- one that is fresh has no end yet
pub open_at_first : {slots : ℕ} (s : Checking slots) → s.refused ≡ None → Follows [] s → s.feed.stage ≡ Ended → ⊥
open_at_first {slots} s none f is = nothing_open slots (end_of [] s none is f)

-- the source was read through
pub read_through : {slots : ℕ} (now : Option (List ℕ)) (bytes : List ℕ) (s : Checking slots) → s.refused ≡ None → Follows bytes s → (s.feed.stage ≡ Ended) ⊎ IsAtEnd now → IsReadThrough slots now bytes
read_through now bytes s none f ends = ⊎_elim (λ is. inl (end_of bytes s none is f)) (λ is. inr is) ends

-- nothing more came
pub fed_none : {slots : ℕ} (s : Checking slots) («front» : List ℕ) → Follows «front» s → Follows («front» ++ []) s
fed_none s «front» f = subst (λ (l : List ℕ). Follows l s) (sym (append-nil «front»)) f

-- With each piece that has a byte there is less that may come.
pub less_left : {slots : ℕ} (bytes more : List ℕ) (old new : Checking slots) → IsSlotCount slots → AreBytes (bytes ++ more) → 1 ≤ length more
    → old.refused ≡ None → (old.feed.stage ≡ Ended → ⊥) → Follows bytes old
    → new.refused ≡ None → (new.feed.stage ≡ Ended → ⊥) → Follows (bytes ++ more) new
    → longest slots - came_to new < longest slots - came_to old
less_left {slots} bytes more old new known typed some old_none old_open before new_none new_open after =
    let x = fed bytes old old_none before in
    let y = fed (bytes ++ more) new new_none after in
    let was : came_to old ≡ length bytes = came_is x.0 bytes old.feed x.1.read.taken x.1.waits old_open in
    let is : came_to new ≡ length (bytes ++ more) = came_is y.0 (bytes ++ more) new.feed y.1.read.taken y.1.waits new_open in
    let few : length (bytes ++ more) < longest slots = came_few y.0 (bytes ++ more) new.feed y.1.read.taken y.1.waits known typed new_open in
    less (came_to old) (came_to new) (length bytes) (length more) (length (bytes ++ more)) (longest slots) was is few (length-append bytes more) some
  where
    less : (a b n m both most : ℕ) → a ≡ n → b ≡ both → both < most → both ≡ n + m → 1 ≤ m → most - b < most - a
    less a b n m both most was is few sum some = omega (arith, was, is, few, sum, some)
