-- What is made of the stream, one part more, with the fold.
use Rattle.std.proofs.Common.{◌≡◌, ℕ, ◌+◌, ◌*◌, ◌<◌, ◌≤◌, ◌^◌, List, [], ◌∷◌, ◌++◌, length, replicate, Option, Some, None, Result, Ok, Err, Box, Global, refl, sym, ap, subst, ◌∙◌, arith, append_assoc, length-append}
use Rattle.std.specs.Prelude.{OnOk, Bool, true, false, ◌==◌, if◌then◌else◌}
use Rattle.std.proofs.lemmas.List.{append-nil, length-replicate}
use Rattle.cell_model.specs.Cells.{Cell as StoredCell}
use Rattle.cell_page.specs.declared.cell.Cell.{Cell}
use Rattle.log_record.specs.declared.record.Record.{Record}
use Rattle.log_replay.specs.Inside.{cells_of_pages}
use Rattle.log_replay.specs.Replays.{Replaying, after_taking}
use Rattle.log_replay.proofs.PageLists.{length-cells_of_pages}
use Rattle.opened_images.specs.LogRecords.{all_of, body_of}
use Rattle.ship_stream.specs.declared.part.Part.TheVariants.{Pages, Page, Batch}
use Rattle.ship_stream.specs.Runs.{RecordRun, AreRecords}
use Rattle.ship_stream.specs.Reading.{Reading, Nothing, InBase, InLog, shipped_bytes, IsReading, AllFollow, Follows as IsNextBatch, with_page}
use Rattle.ship_stream.specs.Feeding.{Adds}
use Rattle.standby.specs.Following.{over_base, base_after, after_all, AllFit, Gathering, Has}
use Rattle.standby.proofs.GatherLaws.{has_number, unboxed, page_awaited, has_page, page_next, batch_awaited, batch_took}
use Rattle.log_checker.specs.Tallies.{Tallying, Tells}
use Rattle.log_checker.specs.Checking.{Checked, HasTally, HasBoth}
use Rattle.log_checker.specs.Taking.{IsBeside, TellsMore}
use Rattle.log_checker.proofs.CountLaws.{few_commits}
use Rattle.log_checker.proofs.RecordLaws.{skips_kept}

-- ---- the number

none_after_number : {slots : ℕ} (r next : Reading slots) (count : ℕ) (o p : Option Tallying) → Adds (Pages count) r next → p ≡ o → HasTally r o → HasTally next p
none_after_number {slots} Nothing next count o p adds same has = subst (λ (r : Reading slots). HasTally r p) (sym adds) (same ∙ has)
none_after_number (InBase n ps) next count o p adds same has = absurd adds
none_after_number (InLog ps bs) next count o p adds same has = absurd adds

pub number_both : {slots : ℕ} (r next : Reading slots) (c d : Checked slots) (count : ℕ) → HasBoth r c → Adds (Pages count) r next → d.gathered.count ≡ count → d.gathered.pages ≡ c.gathered.pages
    → d.gathered.replaying ≡ c.gathered.replaying → d.gathered.batches ≡ c.gathered.batches → d.tally ≡ c.tally → HasBoth next d
number_both r next c d count has adds counted pages replaying batches tally =
    (has_number r next c.gathered d.gathered count has.0 adds counted pages replaying batches, none_after_number r next count c.tally d.tally adds tally has.1)

-- ---- a page

none_before_page : {slots : ℕ} (r next : Reading slots) (page : Box (List (Cell slots)) Global) (o : Option Tallying) → Adds (Page page) r next → HasTally r o → o ≡ None
none_before_page Nothing next page o adds has = has
none_before_page (InBase n ps) next page o adds has = has
none_before_page (InLog ps bs) next page o adds has = absurd adds

pub page_awaited_both : {slots : ℕ} (r next : Reading slots) (c : Checked slots) (page : Box (List (Cell slots)) Global) (cells : List (Cell slots)) → cells ≡ page.value → HasBoth r c → Adds (Page page) r next → IsReading next
    → IsReading (page_next c.gathered cells) × ((c.gathered.replaying ≡ None) × (c.gathered.batches ≡ 0) × (c.tally ≡ None))
page_awaited_both r next c page cells boxed has adds reading =
    let a = page_awaited r next c.gathered page cells boxed has.0 adds reading in
    (a.0, (a.1.0, a.1.1, none_before_page r next page c.tally adds has.1))

is_next : {slots : ℕ} (r next : Reading slots) (g : Gathering slots) (page : Box (List (Cell slots)) Global) (cells : List (Cell slots)) → cells ≡ page.value → Has r g → Adds (Page page) r next → next ≡ page_next g cells
is_next Nothing next g page cells boxed has adds = absurd adds
is_next (InBase n ps) next g page cells boxed has adds =
    unboxed n ps next page cells boxed adds ∙ ap (λ (k : ℕ). with_page k (ps ++ cells ∷ [])) (sym has.0) ∙ ap (λ l. with_page g.count (l ++ cells ∷ [])) (sym has.1)
is_next (InLog ps bs) next g page cells boxed has adds = absurd adds

pub page_both : {slots : ℕ} (r next : Reading slots) (c d : Checked slots) (page : Box (List (Cell slots)) Global) (cells : List (Cell slots)) → cells ≡ page.value → HasBoth r c → Adds (Page page) r next → HasBoth (page_next c.gathered cells) d → HasBoth next d
page_both {slots} r next c d page cells boxed has adds took = subst (λ (x : Reading slots). HasBoth x d) (sym (is_next r next c.gathered page cells boxed has.0 adds)) took

-- where pages are missing yet, and where they are all there
pub both_waits : {slots : ℕ} (pages : List (List (Cell slots))) (count : ℕ) (d : Checked slots) → (length pages == count) ≡ false → d.gathered.count ≡ count → d.gathered.pages ≡ pages
    → d.gathered.replaying ≡ None → d.gathered.batches ≡ 0 → d.tally ≡ None → HasBoth (with_page count pages) d
both_waits {slots} pages count d apart counted paged replaying batches tally = by (length pages == count) apart
  where
    by : (b : Bool) → b ≡ false → HasBoth {slots = slots} (if b then InLog pages [] else InBase count pages) d
    by true e = absurd cc
    by false e = ((counted, paged, replaying, batches), tally)

pub both_start : {slots : ℕ} (pages : List (List (Cell slots))) (count : ℕ) (d : Checked slots) (t : Tallying) → (length pages == count) ≡ true
    → d.gathered.replaying ≡ Some (over_base pages) → d.gathered.batches ≡ 0 → d.tally ≡ Some t → Tells {slots = slots} (cells_of_pages pages) [] t → HasBoth (with_page count pages) d
both_start {slots} pages count d t all replaying batches tally tells = by (length pages == count) all
  where
    by : (b : Bool) → b ≡ true → HasBoth {slots = slots} (if b then InLog pages [] else InBase count pages) d
    by true e = ((tt, replaying, batches), (t, tally, tells))
    by false e = absurd cc

-- ---- a batch

-- what is taken leaves as many pages
skips_after : {slots : ℕ} (v : Replaying) (rs : List (Record slots)) → length (after_all v rs).skips ≡ length v.skips
skips_after v [] = refl
skips_after v (r ∷ rs) = skips_after (after_taking r v) rs ∙ skips_kept v r

last_follows : {slots : ℕ} (pages : ℕ) (before batches : List (List (Record slots))) (rs : List (Record slots)) → AllFollow pages before (batches ++ rs ∷ []) → IsNextBatch pages (before ++ batches) rs
last_follows pages before [] rs all = subst (λ l. IsNextBatch pages l rs) (sym (append-nil before)) all.0
last_follows pages before (batch ∷ batches) rs all =
    subst (λ l. IsNextBatch pages l rs) (append_assoc before (batch ∷ []) batches) (last_follows pages (before ++ batch ∷ []) batches rs all.1)

pub batch_awaited_both : {slots : ℕ} (r next : Reading slots) (c : Checked slots) (at : ℕ) (records : RecordRun) → HasBoth r c → Adds (Batch at records) r next → IsReading next
    → ((v : Replaying) × (t : Tallying) × (c.gathered.replaying ≡ Some v) × (c.tally ≡ Some t) × IsBeside v t records) × (c.gathered.batches + 1 < 2 ^ 64)
batch_awaited_both Nothing next c at records has adds reading = absurd adds
batch_awaited_both (InBase n ps) next c at records has adds reading = absurd adds
batch_awaited_both {slots} (InLog ps bs) next c at records has adds reading =
    let a = batch_awaited (InLog ps bs) next c.gathered at records has.0 adds reading in
    let all = subst (λ (x : Reading slots). IsReading x) adds.4 reading in
    let last = last_follows (length ps) [] bs adds.0 all.2 in
    let t : Tallying = has.1.0 in
    let tells : Tells (cells_of_pages ps) (all_of bs) t = has.1.2 in
    let many : length (base_after ps bs).skips ≡ length ps = skips_after (over_base ps) (all_of bs) ∙ length-replicate (length ps) 0 in
    let beside : IsBeside (base_after ps bs) t records = record {
      sized = omega (arith, tells.sized, length-cells_of_pages ps, many);
      room = omega (arith, tells.counted, few_commits bs, last.within, ap length adds.1.are);
    } in
    ((base_after ps bs, t, has.0.1, has.1.1, beside), a.1)

pub batch_both : {slots : ℕ} {T E : Type 0} (o : Result T E) (r next : Reading slots) (c d : Checked slots) (at : ℕ) (records : RecordRun) → HasBoth r c → Adds (Batch at records) r next
    → ((v : Replaying) (rs : List (Record slots)) → c.gathered.replaying ≡ Some v → AreRecords rs records → OnOk o (AllFit v rs × (d.gathered.replaying ≡ Some (after_all v rs)) × (d.gathered.batches ≡ c.gathered.batches + 1)))
    → ((t : Tallying) (rs : List (Record slots)) → c.tally ≡ Some t → AreRecords rs records → OnOk o ((u : Tallying) × (d.tally ≡ Some u) × TellsMore rs t u))
    → OnOk o (HasBoth next d)
batch_both o Nothing next c d at records has adds took told = absurd adds
batch_both o (InBase n ps) next c d at records has adds took told = absurd adds
batch_both (Err e) (InLog ps bs) next c d at records has adds took told = tt
batch_both {slots} {T} {E} (Ok x) (InLog ps bs) next c d at records has adds took told =
    let o : Result T E = Ok x in
    let first : Has next d.gathered = batch_took o (InLog ps bs) next c.gathered d.gathered at records has.0 adds took in
    let more = told has.1.0 adds.0 has.1.1 adds.1 in
    let all : all_of (bs ++ adds.0 ∷ []) ≡ all_of bs ++ adds.0 = all_push bs adds.0 in
    let tells : Tells (cells_of_pages ps) (all_of (bs ++ adds.0 ∷ [])) more.0 =
    subst (λ (l : List (Record slots)). Tells (cells_of_pages ps) l more.0) (sym all) (more.2 (cells_of_pages ps) (all_of bs) has.1.2) in
    let second : HasTally (InLog ps (bs ++ adds.0 ∷ [])) d.tally = (more.0, more.1, tells) in
    (first, subst (λ (y : Reading slots). HasTally y d.tally) (sym adds.4) second)
  where
    all_push : (batches : List (List (Record slots))) (rs : List (Record slots)) → all_of (batches ++ rs ∷ []) ≡ all_of batches ++ rs
    all_push [] rs = append-nil rs
    all_push (batch ∷ batches) rs = ap (λ l. batch ++ l) (all_push batches rs) ∙ sym (append_assoc batch (all_of batches) rs)
