-- Both sides of a verdict.
use Rattle.std.proofs.Common.{◌≡◌, ℕ, List, length, Option, Some, None, refl, sym, ap, subst, ◌∙◌, arith}
use Rattle.plain_model.specs.declared.object.Object.{Object}
use Rattle.cell_model.specs.Graph.{graph_of}
use Rattle.cell_page.specs.declared.cell.Cell.{Cell as PageCell}
use Rattle.cell_page.specs.Format.{IsSlotCount}
use Rattle.log_replay.specs.Inside.{cells_of_pages, AreStorePages}
use Rattle.restart_store.specs.Fresh.{MayBeMade}
use Rattle.standby.specs.declared.settling.Settled.{Settled}
use Rattle.standby.specs.Settled.{IsSettled}
use Rattle.log_replay.specs.Replays.{Replaying}
use Rattle.log_replay.specs.Finishes.{AreNoneAwaited}
use Rattle.opened_images.specs.LogRecords.{all_of}
use Rattle.ship_stream.specs.Reading.{Reading, Nothing, InBase, InLog, HasAllPages}
use Rattle.ship_stream.specs.Feeding.{Feeding, HasTaken}
use Rattle.ship_stream.specs.Laws.{IsRead}
use Rattle.standby.specs.Following.{base_after}
use Rattle.standby.specs.Promoted.{LeadsTo, LacksBase, BreaksAt, IsUnsoundAt}
use Rattle.ship_stream.specs.declared.refusal.FeedRefusal.{FeedRefusal}
use Rattle.std.specs.Prelude.{Result, Err, IsErrOf}
use Rattle.standby.proofs.Results.{error_is, is_error}
use Rattle.log_checker.specs.Commits.{commit_count}
use Rattle.log_checker.specs.Tallies.{Tallying, Tells}
use Rattle.log_checker.specs.Differences.{IsDifference}
use Rattle.log_checker.specs.declared.verdict.Verdict.{Verdict}
use Rattle.log_checker.specs.declared.refusal.CheckRefusal.{CheckRefusal}
use Rattle.log_checker.specs.declared.refusal.CheckRefusal.TheVariants.{NoBase}
use Rattle.log_checker.specs.Checking.{Checked}
use Rattle.log_checker.specs.Feeds.{HasRead, IsFedWith, FollowsAs}
use Rattle.log_checker.specs.Verdicts.{stream_fold, IsVerdict, LeadsToBoth, IsRestoredGraph}

-- a checker that wasn't refused was fed with them
pub fed : {slots : ℕ} (bytes : List ℕ) (v : Feeding) (c : Checked slots) (refused : Option FeedRefusal) → refused ≡ None → FollowsAs refused bytes v c → IsFedWith bytes v c
fed bytes v c refused is f = subst (λ o. FollowsAs o bytes v c) is f

some_same : {X : Type 0} (x y : X) → Some x ≡ Some y → x ≡ y
some_same x y same = cc

-- all pages are there, and this is made of them
pub leads_both : {slots : ℕ} (r : Reading slots) (bytes : List ℕ) (v : Feeding) (c : Checked slots) (replaying : Replaying) (t : Tallying) → HasRead r bytes v c → HasAllPages r
    → c.gathered.replaying ≡ Some replaying → c.tally ≡ Some t → LeadsToBoth slots bytes replaying t
leads_both Nothing bytes v c replaying t h all is told = absurd all
leads_both (InBase count pages) bytes v c replaying t h all is told = absurd all
leads_both {slots} (InLog pages batches) bytes v c replaying t h all is told =
    let tally = h.read.has.1 in
    let same : tally.0 ≡ t = some_same tally.0 t (sym tally.1 ∙ told) in
    let read : IsRead bytes (InLog pages batches) h.read.taken.rest = record { reading = h.read.taken.reading; split = h.read.taken.split; waits = h.waits } in
    record {
      batches = length batches;
      leads = record {
        pages = pages;
        log = batches;
        rest = h.read.taken.rest;
        read = read;
        fit = h.read.has.0.0;
        many = refl;
        are = some_same replaying (base_after pages batches) (sym is ∙ h.read.has.0.1);
      };
      tells = subst (λ (x : Tallying). Tells (cells_of_pages pages) (all_of batches) x) same tally.2;
    }

-- where they are, both are made
pub replay_made : {slots : ℕ} (r : Reading slots) (bytes : List ℕ) (v : Feeding) (c : Checked slots) → HasRead r bytes v c → HasAllPages r → c.gathered.replaying ≡ None → ⊥
replay_made Nothing bytes v c h all none = all
replay_made (InBase count pages) bytes v c h all none = all
replay_made (InLog pages batches) bytes v c h all none = absurd (apart (sym h.read.has.0.1 ∙ none))
  where
    apart : Some (base_after pages batches) ≡ None → ⊥
    apart e = absurd cc

pub tally_made : {slots : ℕ} (r : Reading slots) (bytes : List ℕ) (v : Feeding) (c : Checked slots) → HasRead r bytes v c → HasAllPages r → c.tally ≡ None → ⊥
tally_made Nothing bytes v c h all none = all
tally_made (InBase count pages) bytes v c h all none = all
tally_made (InLog pages batches) bytes v c h all none = absurd (apart (sym h.read.has.1.1 ∙ none))
  where
    apart : Some h.read.has.1.0 ≡ None → ⊥
    apart e = absurd cc

-- and where they aren't, that many bytes are
pub lacks : {slots : ℕ} (r : Reading slots) (bytes : List ℕ) (v : Feeding) (c : Checked slots) (len : ℕ) → HasRead r bytes v c → (HasAllPages r → ⊥) → len ≡ length bytes → LacksBase slots bytes len
lacks r bytes v c len h none is = (r, h.read.taken.rest, record { reading = h.read.taken.reading; split = h.read.taken.split; waits = h.waits }, none, is)

-- the number of bytes in a refusal
abbrev len_of : CheckRefusal → ℕ
len_of (NoBase len) = len
len_of _ = 0

pub same_len : {T : Type 0} (a b : ℕ) → IsErrOf {T = T} (Err (NoBase a)) (NoBase b) → a ≡ b
same_len a b is = ap len_of (error_is (NoBase a) (NoBase b) is)

-- ---- the verdict

pub judged : (slots : ℕ) (bytes : List ℕ) (v : Replaying) (t : Tallying) (stored fold : List Object) (verdict : Verdict) → LeadsToBoth slots bytes v t → IsRestoredGraph slots v stored → fold ≡ graph_of t.cells
    → verdict.commits ≡ t.commits → IsDifference stored fold verdict.differs → IsVerdict slots bytes verdict
judged slots bytes v t stored fold verdict l s folded counted d = record {
  batches = l.batches;
  replaying = v;
  leads = l.leads;
  cells = s.cells;
  restores = s.restores;
  commits = counted ∙ l.tells.counted;
  differs = subst (λ (g : List Object). IsDifference g (stream_fold l.leads.pages l.leads.log) verdict.differs) s.are (subst (λ (g : List Object). IsDifference stored g verdict.differs) (folded ∙ l.tells.objects) d);
}

pub unsound_at : (slots : ℕ) (bytes : List ℕ) (v : Replaying) (t : Tallying) (id rule : ℕ) → LeadsToBoth slots bytes v t → BreaksAt slots v id rule → IsUnsoundAt slots bytes id rule
unsound_at slots bytes v t id rule l b = (l.batches, v, l.leads, b)

-- pages that a store may be made with are those of a store
pub store_pages : {slots : ℕ} (pages : List (List (PageCell slots))) → IsSlotCount slots → MayBeMade pages → AreStorePages pages
store_pages pages count m = record { slot_count = count; some = omega (arith, m.some); most = m.few; each = λ p within. (m.each p within).0 }

-- the graph of a settled store
pub restored_graph : (slots : ℕ) (v : Replaying) (s : Settled slots) (g : List Object) → IsSettled slots v s → g ≡ graph_of (cells_of_pages s.pages.items) → IsRestoredGraph slots v g
restored_graph slots v s g settled are = record { cells = settled.cells; restores = settled.restores; are = are ∙ ap graph_of settled.are }

-- a call was refused so
pub refused_as : {T E : Type 0} (r : Result T E) (e x : E) → r ≡ Err e → e ≡ x → IsErrOf r x
refused_as {T} {E} r e x is same = subst (λ (y : Result T E). IsErrOf y x) (sym is) (is_error e x same)
