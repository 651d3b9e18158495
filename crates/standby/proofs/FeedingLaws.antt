-- A standby after more pieces.
use Rattle.std.proofs.Common.{◌≡◌, inl, inr, ℕ, List, [], ◌∷◌, ◌++◌, length, Option, Some, None, refl, sym, ap, subst, ◌∙◌, arith, append_assoc, length-append}
use Rattle.std.specs.Int.{w16, w32, to_be_bytes}
use Rattle.std.proofs.lemmas.List.{take-append-le}
use Rattle.cell_page.specs.Format.{page_size}
use Rattle.cell_page.specs.Fields.{FailsAt}
use Rattle.gate_log.specs.Batches.{batch_bytes}
use Rattle.log_record.specs.declared.record.Record.{Record}
use Rattle.opened_images.specs.LogRecords.{body_of}
use Rattle.ship_stream.specs.declared.refusal.FeedRefusal.{FeedRefusal}
use Rattle.ship_stream.specs.declared.refusal.FeedRefusal.TheVariants.{Damaged, Memory}
use Rattle.ship_stream.specs.Reading.{Reading, Nothing, InBase, InLog, bytes_of}
use Rattle.ship_stream.specs.Faults.{BreaksLog, no_batch, no_body, no_record, no_end, RunsOver, Breaks}
use Rattle.ship_stream.specs.Feeding.{Feeding, HasTaken, fresh, IsWaiting}
use Rattle.standby.specs.Following.{Gathering, Has, IsReadInto}
use Rattle.standby.specs.Damage.{IsDamagedAt}
use Rattle.standby.specs.Feeds.{IsFedWith, FollowsAs}

-- ---- nothing came

nothing_waits : {slots : ℕ} (rest : List ℕ) → [] ≡ rest → IsWaiting {slots = slots} Nothing rest
nothing_waits rest none = record {
  behind = tt;
  no_part = λ long. omega (arith, long, ap length none);
  no_fault = λ at b. omega (arith, ap length b.2, ap length none, length-append (to_be_bytes w16 b.0) b.1);
}

taken_nothing : {slots : ℕ} (v : Feeding) → v ≡ fresh → HasTaken {slots = slots} Nothing [] v
taken_nothing {slots} v is = subst (λ x. HasTaken {slots = slots} Nothing [] x) (sym is) (record { reading = tt; rest = []; split = refl; place = refl; stands = refl })

pub starts : {slots : ℕ} (v : Feeding) (g : Gathering slots) → v ≡ fresh → Has Nothing g → FollowsAs None [] v g
starts {slots} v g is has =
    let t : HasTaken {slots = slots} Nothing [] v = taken_nothing v is in
    (Nothing, record { read = record { taken = t; has = has }; waits = nothing_waits t.rest t.split })

-- ---- damage stays

log_stays_broken : {slots : ℕ} (pages : ℕ) (batches : List (List (Record slots))) (rest more : List ℕ) (at : ℕ) → BreaksLog pages batches rest at → BreaksLog pages batches (rest ++ more) at
log_stays_broken pages batches rest more at (no_batch commit_byte behind first are closed is) =
    no_batch commit_byte (behind ++ more) first (ap (λ (l : List ℕ). l ++ more) are) closed is
log_stays_broken pages batches rest more at (no_body size behind are typed wrong within is) =
    no_body size (behind ++ more) (ap (λ (l : List ℕ). l ++ more) are ∙ ap (λ (l : List ℕ). 1 ∷ l) (append_assoc (to_be_bytes w32 size) behind more)) typed wrong within is
log_stays_broken pages batches rest more at (no_record rs left commit_byte behind are size within stops is) =
    no_record rs left commit_byte (behind ++ more) (ap (λ (l : List ℕ). l ++ more) are ∙ append_assoc (batch_bytes (body_of rs ++ left)) (commit_byte ∷ behind) more) size within stops is
log_stays_broken pages batches rest more at (no_end behind are full over is) =
    no_end (behind ++ more) (ap (λ (l : List ℕ). l ++ more) are) (omega (arith, full, length-append rest more)) (over_stays _ behind more over) is
  where
    over_stays : (used : ℕ) (behind more : List ℕ) → RunsOver used behind → RunsOver used (behind ++ more)
    over_stays used behind more (inl short) = inl short
    over_stays used behind more (inr long) =
        inr (long.0, long.1 ++ more, ap (λ (l : List ℕ). l ++ more) long.2 ∙ append_assoc (to_be_bytes w32 long.0) long.1 more, long.3, long.4, long.5)

-- what comes later heals nothing
stays_broken : {slots : ℕ} (r : Reading slots) (rest more : List ℕ) (at : ℕ) → Breaks r rest at → Breaks r (rest ++ more) at
stays_broken Nothing rest more at b = (b.0, b.1 ++ more, ap (λ (l : List ℕ). l ++ more) b.2 ∙ append_assoc (to_be_bytes w16 b.0) b.1 more, b.3, b.4, b.5)
stays_broken {slots} (InBase count pages) rest more at b = (
  b.0,
  omega (arith, b.1, length-append rest more),
  subst (λ (l : List ℕ). FailsAt slots (length pages) l b.0) (sym (take-append-le (page_size slots) rest more b.1)) b.2,
  b.3,
)
stays_broken (InLog pages batches) rest more at b = (b.0, log_stays_broken (length pages) batches rest more b.0 b.1, b.2)

split_on : (bytes front rest more : List ℕ) → bytes ≡ front ++ rest → bytes ++ more ≡ front ++ (rest ++ more)
split_on bytes front rest more split = ap (λ (l : List ℕ). l ++ more) split ∙ append_assoc front rest more

pub stays_damaged : (slots : ℕ) (bytes more : List ℕ) (at : ℕ) → IsDamagedAt slots bytes at → IsDamagedAt slots (bytes ++ more) at
stays_damaged slots bytes more at (inl b) =
    inl (record { r = b.r; rest = b.rest ++ more; reading = b.reading; split = split_on bytes (bytes_of b.r) b.rest more b.split; fit = b.fit; breaks = stays_broken b.r b.rest more at b.breaks })
stays_damaged slots bytes more at (inr u) =
    inr (record {
      pages = u.pages;
      front = u.front;
      rs = u.rs;
      rest = u.rest ++ more;
      reading = u.reading;
      split = split_on bytes (bytes_of (InLog u.pages (u.front ++ u.rs ∷ []))) u.rest more u.split;
      behind = omega (arith, u.behind, length-append u.rest more);
      fit = u.fit;
      stops = u.stops;
    })

-- ---- a piece more

-- a standby that was refused stays as it is
pub follows_on : {slots : ℕ} (bytes piece : List ℕ) (v : Feeding) (g : Gathering slots) (refusal : FeedRefusal) → FollowsAs (Some refusal) bytes v g → FollowsAs (Some refusal) (bytes ++ piece) v g
follows_on {slots} bytes piece v g (Damaged at) f = stays_damaged slots bytes piece at f
follows_on bytes piece v g Memory f = tt

pub refused_on : {slots : ℕ} (bytes piece : List ℕ) (v : Feeding) (g : Gathering slots) (refused : Option FeedRefusal) (refusal : FeedRefusal) → refused ≡ Some refusal
    → FollowsAs refused bytes v g → FollowsAs refused (bytes ++ piece) v g
refused_on bytes piece v g refused refusal is f =
    subst (λ o. FollowsAs o (bytes ++ piece) v g) (sym is) (follows_on bytes piece v g refusal (subst (λ o. FollowsAs o bytes v g) is f))

-- one that isn't was fed with it
pub fed_on : {slots : ℕ} (bytes piece : List ℕ) (v w : Feeding) (g h : Gathering slots) (refused : Option FeedRefusal) → refused ≡ None
    → ((r : Reading slots) (front : List ℕ) → IsReadInto r front v g → IsFedWith (front ++ piece) w h) → FollowsAs refused bytes v g → FollowsAs refused (bytes ++ piece) w h
fed_on bytes piece v w g h refused is took f =
    let fed = subst (λ o. FollowsAs o bytes v g) is f in
    subst (λ o. FollowsAs o (bytes ++ piece) w h) (sym is) (took fed.0 bytes fed.1.read)

-- and one that is refused now shows the fault
pub refused_now : {slots : ℕ} (bytes piece : List ℕ) (v w : Feeding) (g h : Gathering slots) (refused : Option FeedRefusal) (refusal : FeedRefusal) → refused ≡ None
    → ((r : Reading slots) (front : List ℕ) (at : ℕ) → IsReadInto r front v g → refusal ≡ Damaged at → IsDamagedAt slots (front ++ piece) at)
    → FollowsAs refused bytes v g → FollowsAs (Some refusal) (bytes ++ piece) w h
refused_now {slots} bytes piece v w g h refused refusal is found f = by refusal found
  where
    by : (e : FeedRefusal) → ((r : Reading slots) (front : List ℕ) (at : ℕ) → IsReadInto r front v g → e ≡ Damaged at → IsDamagedAt slots (front ++ piece) at) → FollowsAs (Some e) (bytes ++ piece) w h
    by (Damaged at) finds = let fed = subst (λ o. FollowsAs o bytes v g) is f in finds fed.0 bytes at fed.1.read refl
    by Memory finds = tt
