-- The base of a standby, where it is there.
use Rattle.std.proofs.Common.{◌≡◌, ℕ, ◌-◌, List, [], ◌∷◌, length, Option, Some, None, refl, sym, ap, subst, ◌∙◌, arith}
use Rattle.std.specs.Prelude.{Bool, true, false, is_some, slice_index, slice_set, MatchOption, Err, IsErrOf}
use Rattle.std.proofs.lemmas.List.{set-get_or}
use Rattle.store_model.proofs.Lists.{get_or-zeros}
use Rattle.cell_page.specs.declared.cell.Cell.{Cell}
use Rattle.log_record.specs.declared.record.Record.{Record}
use Rattle.log_record.specs.declared.record.Record.TheVariants.{OfCells, Image, Turn}
use Rattle.log_replay.specs.Replays.{Replaying, after_taking}
use Rattle.log_replay.specs.Finishes.{AreNoneAwaited}
use Rattle.opened_images.specs.LogRecords.{all_of}
use Rattle.ship_stream.specs.Reading.{Reading, Nothing, InBase, InLog, HasAllPages}
use Rattle.ship_stream.specs.Feeding.{Feeding, HasTaken}
use Rattle.ship_stream.specs.Laws.{IsRead}
use Rattle.standby.specs.Following.{Gathering, over_base, base_after, after_all, Has}
use Rattle.standby.specs.Feeds.{HasRead, IsFedWith, FollowsAs}
use Rattle.standby.specs.declared.refusals.PromoteRefusal.{PromoteRefusal}
use Rattle.standby.specs.declared.refusals.PromoteRefusal.TheVariants.{NoBase}
use Rattle.standby.proofs.Results.{error_is}
use Rattle.ship_stream.specs.declared.refusal.FeedRefusal.{FeedRefusal}
use Rattle.standby.specs.Promoted.{LeadsTo, LacksBase}

-- a standby that wasn't refused was fed with them
pub fed : {slots : ℕ} (bytes : List ℕ) (v : Feeding) (g : Gathering slots) (refused : Option FeedRefusal) → refused ≡ None → FollowsAs refused bytes v g → IsFedWith bytes v g
fed bytes v g refused is f = subst (λ o. FollowsAs o bytes v g) is f

pub none_of : {X : Type 0} (o : Option X) (b : Bool) → b ≡ is_some o → b ≡ false → o ≡ None
none_of None b is unset = refl
none_of (Some x) b is unset = absurd (apart (sym is ∙ unset))
  where
    apart : true ≡ false → ⊥
    apart e = absurd cc

-- what the reader tells of the pages
abbrev pub Tells : (slots : ℕ) → Feeding → Option ℕ → Type 0
Tells slots v o = (r : Reading slots) (bytes : List ℕ) → HasTaken r bytes v → MatchOption o (HasAllPages r) (λ len. (HasAllPages r → ⊥) × (len ≡ length bytes))

pub all_there : {slots : ℕ} (v : Feeding) (o : Option ℕ) → o ≡ None → Tells slots v o → (r : Reading slots) (bytes : List ℕ) → HasTaken r bytes v → HasAllPages r
all_there v o is told r bytes t = subst (λ x. MatchOption x (HasAllPages r) (λ len. (HasAllPages r → ⊥) × (len ≡ length bytes))) is (told r bytes t)

pub some_there : {slots : ℕ} (v : Feeding) (o : Option ℕ) (len : ℕ) → o ≡ Some len → Tells slots v o → (r : Reading slots) (bytes : List ℕ) → HasTaken r bytes v → (HasAllPages r → ⊥) × (len ≡ length bytes)
some_there v o len is told r bytes t = subst (λ x. MatchOption x (HasAllPages r) (λ n. (HasAllPages r → ⊥) × (n ≡ length bytes))) is (told r bytes t)

-- the number of bytes in a refusal
abbrev len_of : PromoteRefusal → ℕ
len_of (NoBase len) = len
len_of _ = 0

pub same_len : {T : Type 0} (a b : ℕ) → IsErrOf {T = T} (Err (NoBase a)) (NoBase b) → a ≡ b
same_len a b is = ap len_of (error_is (NoBase a) (NoBase b) is)

pub is_read : {slots : ℕ} (r : Reading slots) (bytes : List ℕ) (v : Feeding) (g : Gathering slots) (h : HasRead r bytes v g) → IsRead bytes r h.read.taken.rest
is_read r bytes v g h = record { reading = h.read.taken.reading; split = h.read.taken.split; waits = h.waits }

some_same : {X : Type 0} (x y : X) → Some x ≡ Some y → x ≡ y
some_same x y same = cc

-- all pages are there, and this is made of them
pub leads : {slots : ℕ} (r : Reading slots) (bytes : List ℕ) (v : Feeding) (g : Gathering slots) (replaying : Replaying) → HasRead r bytes v g → HasAllPages r → g.replaying ≡ Some replaying → LeadsTo slots bytes g.batches replaying
leads Nothing bytes v g replaying h all is = absurd all
leads (InBase count pages) bytes v g replaying h all is = absurd all
leads (InLog pages batches) bytes v g replaying h all is =
    record {
      pages = pages;
      log = batches;
      rest = h.read.taken.rest;
      read = is_read (InLog pages batches) bytes v g h;
      fit = h.read.has.0;
      many = h.read.has.2;
      are = some_same replaying (base_after pages batches) (sym is ∙ h.read.has.1);
    }

-- where they are, it is made
pub made : {slots : ℕ} (r : Reading slots) (g : Gathering slots) → Has r g → HasAllPages r → g.replaying ≡ None → ⊥
made Nothing g has all none = all
made (InBase count pages) g has all none = all
made (InLog pages batches) g has all none = absurd (apart (sym has.1 ∙ none))
  where
    apart : Some (base_after pages batches) ≡ None → ⊥
    apart e = absurd cc

-- and where they aren't, that many bytes are
pub lacks : {slots : ℕ} (r : Reading slots) (bytes : List ℕ) (v : Feeding) (g : Gathering slots) (len : ℕ) → HasRead r bytes v g → (HasAllPages r → ⊥) → len ≡ length bytes → LacksBase slots bytes len
lacks r bytes v g len h none is = (r, h.read.taken.rest, is_read r bytes v g h, none, is)

-- ---- no image is awaited

none_set : (skips : List ℕ) (page : ℕ) → AreNoneAwaited skips → AreNoneAwaited (slice_set skips page (slice_index skips page - 1))
none_set skips page none p = ap (λ (k : ℕ). slice_index (slice_set skips page k) p) same ∙ ap (λ (l : List ℕ). slice_index l p) (set-get_or skips page 0) ∙ none p
  where
    same : slice_index skips page - 1 ≡ slice_index skips page
    same = omega (arith, none page)

pub none_awaited : {slots : ℕ} (v : Replaying) (rs : List (Record slots)) → AreNoneAwaited v.skips → AreNoneAwaited (after_all v rs).skips
none_awaited v [] none = none
none_awaited v (OfCells r ∷ rs) none = none_awaited (after_taking (OfCells r) v) rs none
none_awaited v (Image page held ∷ rs) none = none_awaited (after_taking (Image page held) v) rs (none_set v.skips page none)
none_awaited v (Turn version pages ∷ rs) none = none_awaited v rs none

pub none_in_base : {slots : ℕ} (pages : List (List (Cell slots))) (batches : List (List (Record slots))) → AreNoneAwaited (base_after pages batches).skips
none_in_base pages batches = none_awaited (over_base pages) (all_of batches) (λ p. get_or-zeros (length pages) p)

-- so it is with the base after the batches
pub skips_none : {slots : ℕ} (bytes : List ℕ) (batches : ℕ) (v : Replaying) → LeadsTo slots bytes batches v → AreNoneAwaited v.skips
skips_none bytes batches v l = subst (λ (x : Replaying). AreNoneAwaited x.skips) (sym l.are) (none_in_base l.pages l.log)
