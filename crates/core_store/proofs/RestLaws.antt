-- The references, the queue and the round that tables stand for, and what the transactions owe, beside what a change of one
-- transaction is told by.
use Rattle.std.proofs.Common.{◌≡◌, ℕ, ◌&&◌, ◌==◌, Bool, not, List, [], refl, sym, ap, ◌∙◌, subst, Option, Some, None}
use Rattle.std.specs.Prelude.{IfSome, slice_index_or}
use Rattle.green_walk.specs.declared.green_at.Test.{Test}
use Rattle.green_walk.specs.Sweeping.{SweepState as Sweep}
use Rattle.green_walk.specs.Greening.{Greening}
use Rattle.cell_model.specs.Cells.{Cell, Pointer, cell_at, pointer_in, pointer_at, edit, pays, same}
use Rattle.store_model.specs.Core.{Ref, Round, Core}
use Rattle.store_model.specs.Sound.{IsSound}
use Rattle.cell_model.proofs.EditLaws.{edit-keeps}
use Rattle.core_store.specs.Changes.{is_counted_strong}
use Rattle.core_store.specs.Owed.{entries_owed}
use Rattle.core_store.specs.Saved.{IsSpent, AreSaved}
use Rattle.core_store.specs.References.{named_by}
use Rattle.core_store.specs.RoundView.{RoundView, Closed, Walking, Sweeping, round_of, IsInStep}
use Rattle.core_store.specs.Tables.{TablesView}
use Rattle.core_store.specs.Touched.{round_after}
use Rattle.core_store.specs.Stands.{IsEmptied, IsTestedIn, IsTested, Stands}

pub record HasRest (slots : ℕ) (w : TablesView) (d : Core) : Type 0 where
  pub references : (pass : ℕ) → w.references pass ≡ named_by d.refs pass
  pub queue : w.queue ≡ d.queue
  pub round : round_of w.round ≡ d.round
  pub in_step : IsInStep slots w.ids w.round
  pub emptied : IsEmptied d.cells w.round
  pub tested : IsTested d.cells w.round
  pub owed : w.owed ≡ entries_owed d.moment

pub HasRest-of : (slots : ℕ) (v : TablesView) (c : Core) → Stands slots v c → HasRest slots v c
HasRest-of slots v c h = record { references = h.references; queue = h.queue; round = h.round; in_step = h.in_step; emptied = h.emptied; tested = h.tested; owed = h.owed }

-- where nothing is touched the round is as before
pub round-same : (r : Option Round) → round_after r [] ≡ r
round-same None = refl
round-same (Some r) = refl

-- a sound journal is sound where nothing was touched
pub sound-untouched : (d : Core) → IsSound d → IsSound (record d { round = round_after d.round [] })
sound-untouched d s = subst (λ (r : Option Round). IsSound (record d { round = r })) (sym (round-same d.round)) s

-- slots that were null stay null
pub IsEmptied-kept : (cells later : List Cell) (r : RoundView) → ((x k : ℕ) → (pointer_at cells x k).target ≡ 0 → (pointer_at later x k).target ≡ 0) → IsEmptied cells r → IsEmptied later r
IsEmptied-kept cells later Closed f e = tt
IsEmptied-kept cells later (Walking w) f e = tt
IsEmptied-kept cells later (Sweeping w s slot g) f e = (λ place k a b c. f _ k (e.0 place k a b c), λ k a b. f _ k (e.1 k a b))

-- ---- cells that differ in payloads, or in what is live

-- pointers, target bits and strong counts are as before
pub record HasSameLinks (cells later : List Cell) : Type 0 where
  pub pointers : (x k : ℕ) → pointer_at later x k ≡ pointer_at cells x k
  pub bits : (x : ℕ) → (cell_at later x).bit ≡ (cell_at cells x).bit
  pub strong : (x : ℕ) → (cell_at later x).strong ≡ (cell_at cells x).strong

pub links-same : (cells later : List Cell) → later ≡ cells → HasSameLinks cells later
links-same cells later e = subst (HasSameLinks cells) (sym e) (record { pointers = λ x k. refl; bits = λ x. refl; strong = λ x. refl })

-- a new payload leaves them
pub links-paid : (cells : List Cell) (id value : ℕ) → HasSameLinks cells (edit cells id (pays value))
links-paid cells id value = record {
  pointers = λ x k. edit-keeps (λ (c : Cell). pointer_in c k) cells id x (pays value) (λ c. refl);
  bits = λ x. edit-keeps (λ (c : Cell). c.bit) cells id x (pays value) (λ c. refl);
  strong = λ x. edit-keeps (λ (c : Cell). c.strong) cells id x (pays value) (λ c. refl);
}

-- a pointer is as strong as before
pub counted-same : (cells later : List Cell) → HasSameLinks cells later → (x k : ℕ) → is_counted_strong later (pointer_at later x k) ≡ is_counted_strong cells (pointer_at cells x k)
counted-same cells later links x k =
    ap (is_counted_strong later) (links.pointers x k)
    ∙ ap (λ (b : Bool). not ((pointer_at cells x k).target == 0) && same b (pointer_at cells x k).bit) (links.bits (pointer_at cells x k).target)

-- there is nothing to do at a pointer as before
spent-links : (cells later : List Cell) (g : Greening) (x : ℕ) → HasSameLinks cells later → IsSpent cells g g.stage x → IsSpent later g g.stage x
spent-links cells later g x links spent w zero =
    let out = spent w (ap (λ (n : ℕ). n == 0) (sym (links.strong x)) ∙ zero) in
    record {
      slot = out.slot;
      strong = counted-same cells later links x out.slot ∙ out.strong;
      apart = λ flipped rest e q. out.apart flipped rest e (sym (ap (λ (p : Pointer). p.target) (links.pointers x out.slot)) ∙ q);
    }

-- what looks are saved by is as before
saved-links : (cells later : List Cell) (s : Sweep) (g : Greening) → HasSameLinks cells later → AreSaved cells s g → AreSaved later s g
saved-links cells later s g links k = record {
  current = λ e c m l. ap (λ (p : Pointer). p.target) (links.pointers c.id c.slot) ∙ k.current e c m l;
  walked = λ e place slot was few small.
      (let at = slice_index_or g.green place 0 in
      subst (λ (x : ℕ). IsSpent later g g.stage x) (sym (ap (λ (p : Pointer). p.target) (links.pointers at slot))) (spent-links cells later g (pointer_at cells at slot).target links (k.walked e place slot was few small)));
  early = k.early;
}

-- what a test has found, and what looks are saved by, holds as before
pub IsTested-kept : (cells later : List Cell) (r : RoundView) → HasSameLinks cells later → IsTested cells r → IsTested later r
IsTested-kept cells later Closed links e = tt
IsTested-kept cells later (Walking w) links e = tt
IsTested-kept cells later (Sweeping w s slot g) links e = (by g.test e.0, saved-links cells later s g links e.1)
  where
    by : (o : Option Test) → IfSome o (IsTestedIn cells g) → IfSome o (IsTestedIn later g)
    by None k = tt
    by (Some t) k = record {
      zero = ap (λ (n : ℕ). n == 0) (links.strong t.id) ∙ k.zero;
      none = λ j l. counted-same cells later links t.id j ∙ k.none j l;
      named = λ «from» j at. ap (λ (p : Pointer). p.target) (links.pointers «from» j) ∙ k.named «from» j at;
    }

-- ---- what a change leaves

module _ (slots : ℕ) (v w : TablesView) (c d : Core) (h : Stands slots v c) (ids : w.ids ≡ v.ids) (queue : w.queue ≡ v.queue) (round : w.round ≡ v.round) (core_queue : d.queue ≡ c.queue) (core_round : d.round ≡ c.round) (owed : w.owed ≡ entries_owed d.moment) where
  -- what is named changes, and pointers, target bits and strong counts stay
  pub HasRest-with : ((pass : ℕ) → w.references pass ≡ named_by d.refs pass) → HasSameLinks c.cells d.cells → HasRest slots w d
  HasRest-with references links = record {
    references = references;
    queue = queue ∙ (h.queue ∙ sym core_queue);
    round = ap round_of round ∙ (h.round ∙ sym core_round);
    in_step = subst (λ (n : ℕ). IsInStep slots n w.round) (sym ids) (subst (λ (r : RoundView). IsInStep slots v.ids r) (sym round) h.in_step);
    emptied = subst (λ (r : RoundView). IsEmptied d.cells r) (sym round) (IsEmptied-kept c.cells d.cells v.round (λ x k e. ap (λ (p : Pointer). p.target) (links.pointers x k) ∙ e) h.emptied);
    tested = subst (λ (r : RoundView). IsTested d.cells r) (sym round) (IsTested-kept c.cells d.cells v.round links h.tested);
    owed = owed;
  }

  -- pointers, target bits and strong counts stay
  pub HasRest-kept : w.references ≡ v.references → d.refs ≡ c.refs → HasSameLinks c.cells d.cells → HasRest slots w d
  HasRest-kept references refs links = HasRest-with (λ pass. ap (λ (f : ℕ → List ℕ). f pass) references ∙ (h.references pass ∙ ap (λ (rs : List Ref). named_by rs pass) (sym refs))) links

  -- the cells are as before
  pub HasRest-same : w.references ≡ v.references → d.refs ≡ c.refs → d.cells ≡ c.cells → HasRest slots w d
  HasRest-same references refs cells = HasRest-kept references refs (links-same c.cells d.cells cells)
