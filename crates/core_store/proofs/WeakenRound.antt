-- A strong pointer out of an object of the round is made weak.
use Rattle.std.proofs.Common.{◌≡◌, ◌≢◌, ℕ, ◌+◌, ◌<◌, ◌≤◌, List, [], length, get_or, Bool, true, false, not, None, Some, refl, sym, ap, ◌∙◌, subst, inl, inr, ◌⊎◌, ⊎_elim, true≢false}
use Rattle.std.specs.Prelude.{◌==◌, ◌&&◌, Contains, Option, if◌then◌else◌}
use Rattle.std.proofs.lemmas.Bool.{and_parts, not-true, eqb-false, eqb-true}
use Rattle.std.specs.Option.{option_map_or}
use Rattle.plain_model.specs.Graphs.{root}
use Rattle.cell_model.specs.Cells.{Cell, cell_at, pointer_at, is_live, relinked, other_strength}
use Rattle.cell_model.specs.Records.{Weaken as WeakenRecord, HasPointer, Fits}
use Rattle.store_model.specs.Core.{Round, Core}
use Rattle.store_model.specs.Sound.{IsOnce}
use Rattle.cell_model.specs.Consistent.{AreConsistent}
use Rattle.store_model.specs.Steps.{IsTracked, with_listed, after_collect}
use Rattle.cell_model.proofs.CountLaws.{relinked-live, relinked-length}
use Rattle.cell_model.proofs.EditLaws.{live-within}
use Rattle.store_model.proofs.WalkSound.{weaken-sound, weaken_joins-sound}
use Rattle.ref_tables.specs.Queue.{has, without}
use Rattle.red_walk.specs.declared.red_at.RedAt.TheVariants as red
use Rattle.red_walk.specs.Walk.{Walk, next, moved, joined_by}
use Rattle.red_walk.specs.Rounds.{round_of as walked, Removes}
use Rattle.red_walk.proofs.Members.{has-Contains, Contains-has}
use Rattle.red_walk.proofs.RoundLaws.{look-law, removed-law}
use Rattle.log_record.specs.declared.cell_record.CellRecord.TheVariants as logs
use Rattle.core_store.specs.declared.three.HeldFrame.{HeldFrame}
use Rattle.core_store.specs.declared.act.Act.TheVariants as act
use Rattle.core_store.specs.declared.round_at.RoundAt.{RoundAt}
use Rattle.core_store.specs.declared.round_at.RoundAt.TheVariants as at
use Rattle.core_store.specs.Frames.{Agree}
use Rattle.core_store.specs.Changes.{has_no_strong, is_counted_strong}
use Rattle.core_store.specs.Slots.{CanChange, IsChanged, HoldsPagesOf, IsReadyToWeaken, WeakensSlot}
use Rattle.core_store.specs.RoundView.{RoundView, Walking, round_of, asked, is_event, ids_in, IsWalking, IsInStep, Proceeds, weaken}
use Rattle.core_store.specs.Tables.{TablesView}
use Rattle.core_store.specs.Stands.{Stands, Moves}
use Rattle.core_store.specs.Collects.{is_let_go, Weakens}
use Rattle.core_store.specs.Collecting.{objects_at, IsReadyToCollect, Collected}
use Rattle.core_store.proofs.SlotLaws.{holds-old}
use Rattle.core_store.proofs.SlotStrengths.{counted-some}
use Rattle.core_store.proofs.CollectedLaws.{Stands-collected, mark-at, marks-long_of}
use Rattle.core_store.proofs.NextLaws.{one-live}
use Rattle.core_store.proofs.PlanLaws.{live-id}
use Rattle.core_store.proofs.ReadyRound.{IsThere, asked-there}

-- a slot that was looked at changes nothing
pub moved-same : (slots : ℕ) (w : Walk) → walked (moved slots w) ≡ walked w
moved-same slots w = by (w.slot + 1 == slots)
  where
    by : (b : Bool) → walked (if b then record w { place = w.place + 1; slot = 0 } else record w { slot = w.slot + 1 }) ≡ walked w
    by true = refl
    by false = refl

moved-joined : (slots : ℕ) (w : Walk) (id : ℕ) → walked (joined_by (moved slots w) (Some id)) ≡ with_listed (walked w) id
moved-joined slots w id = ap (λ (r : Round). with_listed r id) (moved-same slots w)

-- without an id, a list whose ids are there once has each once
without-removes : (w : Walk) (queue : List ℕ) (id : ℕ) → IsOnce queue → Removes (record w { left = queue }) (record w { left = without queue id }) id
without-removes w queue id once = removed-law (record w { left = queue }) id once

-- what isn't let go is the root, in the list or keeps a strong pointer
pub not-let_go : (target strong : ℕ) (list : List ℕ) → (not (target == root) && (not (has list target) && (strong == 0))) ≡ false → (target ≡ root) ⊎ (Contains list target ⊎ (strong ≢ 0))
not-let_go target strong list e = by (target == root) (has list target) (strong == 0) refl refl refl
  where
    by : (a b c : Bool) → (target == root) ≡ a → has list target ≡ b → (strong == 0) ≡ c → (target ≡ root) ⊎ (Contains list target ⊎ (strong ≢ 0))
    by true b c p q r = inl (eqb-true target root p)
    by false true c p q r = inr (inl (Contains-has list target q))
    by false false false p q r = inr (inr (eqb-false strong 0 r))
    by false false true p q r = absurd (let some : (not (target == root) && (not (has list target) && (strong == 0))) ≡ true = rw (p, q, r) refl in cc)

-- the slot of a live object can change
pub can-null : (slots : ℕ) (v : TablesView) (c : Core) → Stands slots v c → (id slot : ℕ) → is_live c.cells id ≡ true → slot < slots → CanChange slots v.ids c.cells id slot 0
can-null slots v c h id slot live within = record {
  consistent = subst (λ (n : ℕ). AreConsistent n v.ids c.cells) h.slots_are (subst (λ (n : ℕ). AreConsistent c.moment.state.slots n c.cells) h.ids h.sound.consistent);
  few = h.few;
  live = live;
  within = within;
  target_live = λ n. absurd (n refl);
}

module _ (slots : ℕ) (v : TablesView) (c : Core) (h : Stands slots v c) (id slot target : ℕ) (target_is : target ≡ (pointer_at c.cells id slot).target) (live : is_live c.cells id ≡ true) (within : slot < slots) (strong : is_counted_strong c.cells (pointer_at c.cells id slot) ≡ true) where
  abbrev later : List Cell
  later = relinked c.cells id slot (other_strength (pointer_at c.cells id slot))

  some : target ≢ 0
  some = subst (λ (n : ℕ). n ≢ 0) (sym target_is) (counted-some c.cells (pointer_at c.cells id slot) strong)

  fits : Fits c.cells (WeakenRecord id slot target)
  fits =
      let old = (pointer_at c.cells id slot).target in (
        subst (λ (n : ℕ). HasPointer c.cells id slot n true) (sym target_is)
            (subst (λ (b : Bool). HasPointer c.cells id slot old b) strong (holds-old slots v.ids c.cells id slot 0 (can-null slots v c h id slot live within))),
        some,
      )

  pub target-live : is_live c.cells target ≡ true
  target-live = fits.0.target_live fits.1

  pub target-later : target < length later
  target-later = subst (λ (n : ℕ). target < n) (sym (relinked-length c.cells id slot (other_strength (pointer_at c.cells id slot)))) (live-within c.cells target target-live)

  module _ (w : Walk) (is : v.round ≡ Walking w) (at : next w ≡ red.Look id slot) (held new : List (HeldFrame slots)) (marks : List Bool) (changed : IsChanged c.cells later held new v.zeros marks) where
    walking : IsWalking slots v.ids w
    walking = subst (λ (r : RoundView). IsInStep slots v.ids r) is h.in_step

    there : c.round ≡ Some (walked w)
    there = sym h.round ∙ ap round_of is

    moves : Moves slots c.cells held new (Some (logs.Weaken id slot target))
    moves = record { fits = fits; lays = tt; agree = changed.agree; elsewhere = changed.elsewhere }

    -- what the event makes of the queue and the round
    weakens : (queue : List ℕ) (round : Option Round) → queue ≡ (if is_let_go slots c (walked w) (logs.Weaken id slot target) target then without c.queue target else c.queue)
        → round ≡ Some (if is_let_go slots c (walked w) (logs.Weaken id slot target) target then with_listed (walked w) target else walked w) → Weakens slots c id slot target queue round
    weakens queue round q r = record {
      of = walked w;
      there = there;
      before = refl;
      uncopied = (look-law slots w id slot walking.walk at).1 refl;
      listed = subst (λ (ids : List ℕ). Contains ids id) (sym walking.whole) (look-law slots w id slot walking.walk at).0;
      queue_is = q;
      round_is = r;
    }

    -- the target stays where it is
    pub stays-collected : is_let_go slots c (walked w) (logs.Weaken id slot target) target ≡ false → IsInStep slots v.ids (Walking (joined_by (moved slots w) None))
        → Collected slots v (record v { zeros = marks; round = Walking (joined_by (moved slots w) None) }) c held new act.Change (Some (logs.Weaken id slot target))
    stays-collected kept step =
        let known : IsTracked c target ⊎ ((cell_at later target).strong ≢ 0)
        = ⊎_elim (λ (e : target ≡ root). inl (inl e)) (λ (m : Contains w.left target ⊎ ((cell_at later target).strong ≢ 0)). ⊎_elim
        (λ (m : Contains w.left target). inl (inr (inr (inl (subst (λ (o : Option Round). Contains (option_map_or (λ (r : Round). r.list) o []) target) (sym there) m)))))
        (λ (n : (cell_at later target).strong ≢ 0). inr n) m) (not-let_go target (cell_at later target).strong w.left kept) in
        record {
          proceeds = subst (λ (r : RoundView). Proceeds slots v.ids r act.Change (Some (logs.Weaken id slot target)) (Walking (joined_by (moved slots w) None))) (sym is) (weaken w id slot target None at);
          begins = λ e. absurd (cc);
          moves = moves;
          core = after_collect c later c.queue c.round;
          after = refl;
          collects = inl (weakens c.queue c.round (sym (ap (λ (b : Bool). if b then without c.queue target else c.queue) kept)) (there ∙ sym (ap (λ (b : Bool). Some (if b then with_listed (walked w) target else walked w)) kept)));
          stands = subst (λ (q : List ℕ). Stands slots (record v { zeros = marks; queue = q; round = Walking (joined_by (moved slots w) None) }) (after_collect c later c.queue c.round)) (sym h.queue)
              (Stands-collected slots v c later c.queue c.round marks (Walking (joined_by (moved slots w) None)) h
              (weaken-sound c h.sound (walked w) there (look-law slots w id slot walking.walk at).1 id slot target fits known)
              (relinked-live c.cells id slot (other_strength (pointer_at c.cells id slot))) (changed.marks_are h.zeros) (ap (λ (r : Round). Some r) (moved-same slots w) ∙ sym there) step tt tt);
        }

    -- it leaves the queue and joins the round
    pub joins-collected : is_let_go slots c (walked w) (logs.Weaken id slot target) target ≡ true → IsInStep slots v.ids (Walking (joined_by (moved slots w) (Some target)))
        → Collected slots v (record v { zeros = marks; queue = without v.queue target; round = Walking (joined_by (moved slots w) (Some target)) }) c held new act.Change (Some (logs.Weaken id slot target))
    joins-collected goes step =
        let parts = and_parts (not (target == root)) (not (has w.left target) && has_no_strong (cell_at later target)) goes in
        let rest = and_parts (not (has w.left target)) (has_no_strong (cell_at later target)) parts.1 in
        let not_root : target ≢ root = eqb-false target root (not-true (target == root) parts.0) in
        let not_listed : Contains w.left target → ⊥ = λ m. true≢false (sym (has-Contains w.left target m) ∙ not-true (has w.left target) rest.0) in
        let removes = without-removes w c.queue target h.sound.queue_once in
        let queue = without c.queue target in
        let round = Some (with_listed (walked w) target) in
        record {
          proceeds = subst (λ (r : RoundView). Proceeds slots v.ids r act.Change (Some (logs.Weaken id slot target)) (Walking (joined_by (moved slots w) (Some target)))) (sym is) (weaken w id slot target (Some target) at);
          begins = λ e. absurd (cc);
          moves = moves;
          core = after_collect c later queue round;
          after = refl;
          collects = inl (weakens queue round (sym (ap (λ (b : Bool). if b then without c.queue target else c.queue) goes)) (sym (ap (λ (b : Bool). Some (if b then with_listed (walked w) target else walked w)) goes)));
          stands = subst (λ (q : List ℕ). Stands slots (record v { zeros = marks; queue = without q target; round = Walking (joined_by (moved slots w) (Some target)) }) (after_collect c later queue round)) (sym h.queue)
              (Stands-collected slots v c later queue round marks (Walking (joined_by (moved slots w) (Some target))) h
              (weaken_joins-sound c h.sound (walked w) there (look-law slots w id slot walking.walk at).1 id slot target fits queue not_root not_listed removes.once removes.without)
              (relinked-live c.cells id slot (other_strength (pointer_at c.cells id slot))) (changed.marks_are h.zeros) (ap (λ (r : Round). Some r) (moved-joined slots w target)) step tt tt);
        }

-- ---- what the call left

-- the slot held a strong pointer to this target, and is weak now
pub record IsWeakened (slots : ℕ) (v : TablesView) (c : Core) (held new : List (HeldFrame slots)) (marks : List Bool) (id slot target : ℕ) : Type 0 where
  pub target_is : target ≡ (pointer_at c.cells id slot).target
  pub live : is_live c.cells id ≡ true
  pub within : slot < slots
  pub strong : is_counted_strong c.cells (pointer_at c.cells id slot) ≡ true
  pub changed : IsChanged c.cells (relinked c.cells id slot (other_strength (pointer_at c.cells id slot))) held new v.zeros marks

-- where a look at the slot comes next, it is there, and where there is something to do, it holds a strong pointer
pub look-strong : (slots : ℕ) (v : TablesView) (c : Core) (held : List (HeldFrame slots)) (id slot : ℕ) → IsReadyToCollect c.cells v.round held → asked v.round ≡ at.Look id slot → is_counted_strong c.cells (pointer_at c.cells id slot) ≡ true
look-strong slots v c held id slot ready look = subst (λ (a : RoundAt). is_event c.cells a ≡ true) look ready.event

module _ (slots : ℕ) (v : TablesView) (c : Core) (held : List (HeldFrame slots)) (id slot : ℕ) (h : Stands slots v c) (agree : Agree c.cells held) (ready : IsReadyToCollect c.cells v.round held) (look : asked v.round ≡ at.Look id slot) where
  look-there : (is_live c.cells id ≡ true) × (slot < slots)
  look-there = subst (λ (a : RoundAt). IsThere slots c.cells a) look (asked-there h)

  pub weaken-ready_to : IsReadyToWeaken held v.zeros id slot
  weaken-ready_to = record {
    ready = record {
      ids = v.ids;
      cells = c.cells;
      agree = agree;
      marks = h.zeros;
      can = can-null slots v c h id slot look-there.0 look-there.1;
      pages = subst (λ (a : RoundAt). HoldsPagesOf held (objects_at c.cells a)) look ready.pages;
    };
    strong = look-strong slots v c held id slot ready look;
  }

  pub weakened-of : (new : List (HeldFrame slots)) (marks : List Bool) (target : ℕ) → WeakensSlot held new v.zeros marks id slot target → IsWeakened slots v c held new marks id slot target
  weakened-of new marks target weakens =
      let done = weakens v.ids c.cells agree (can-null slots v c h id slot look-there.0 look-there.1) (look-strong slots v c held id slot ready look) in
      record { target_is = done.0; live = look-there.0; within = look-there.1; strong = look-strong slots v c held id slot ready look; changed = done.1 }

module _ {slots : ℕ} {v : TablesView} {c : Core} {held new : List (HeldFrame slots)} {marks : List Bool} {id slot target : ℕ} (h : Stands slots v c) (k : IsWeakened slots v c held new marks id slot target) where
  pub weakened-marked : target < length marks
  weakened-marked = subst (λ (n : ℕ). target < n) (sym (marks-long_of marks (relinked c.cells id slot (other_strength (pointer_at c.cells id slot))) (k.changed.marks_are h.zeros))) (target-later slots v c h id slot target k.target_is k.live k.within k.strong)

  pub weakened-within : (1 ≤ target) × (target ≤ v.ids)
  weakened-within = one-live h target (live-id h target (target-live slots v c h id slot target k.target_is k.live k.within k.strong))

  -- whether it is let go is what the tables tell
  pub weakened-told : (w : Walk) → v.round ≡ Walking w → (b : Bool) → b ≡ (not (target == root) && (not (has (ids_in v.round) target) && get_or marks target false)) → is_let_go slots c (walked w) (logs.Weaken id slot target) target ≡ b
  weakened-told w is b told =
      let cells = relinked c.cells id slot (other_strength (pointer_at c.cells id slot)) in
      ap (λ (z : Bool). not (target == root) && (not (has w.left target) && z)) (sym (mark-at marks cells (k.changed.marks_are h.zeros) target (target-later slots v c h id slot target k.target_is k.live k.within k.strong)))
      ∙ (ap (λ (r : RoundView). not (target == root) && (not (has (ids_in r) target) && get_or marks target false)) (sym is) ∙ sym told)

  -- nothing in the round has its id
  pub weakened-unlisted : (b : Bool) → b ≡ (not (target == root) && (not (has (ids_in v.round) target) && get_or marks target false)) → b ≡ true → has (ids_in v.round) target ≡ false
  weakened-unlisted b told goes =
      let parts = and_parts (not (target == root)) (not (has (ids_in v.round) target) && get_or marks target false) (sym told ∙ goes) in
      not-true (has (ids_in v.round) target) (and_parts (not (has (ids_in v.round) target)) (get_or marks target false) parts.1).0
