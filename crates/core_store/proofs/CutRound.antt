-- A pointer out of a condemned object is removed.
use Rattle.std.proofs.Common.{◌≡◌, ◌≢◌, ℕ, ◌<◌, ◌≤◌, List, [], ◌∷◌, ◌++◌, length, get_or, Bool, true, false, not, cond, Some, refl, sym, ap, ◌∙◌, subst, arith, inl, inr, ◌⊎◌, ⊎_elim, true≢false}
use Rattle.std.specs.Prelude.{◌==◌, ◌&&◌, Contains, Option, if◌then◌else◌}
use Rattle.std.specs.Option.{option_map_or}
use Rattle.std.proofs.lemmas.Bool.{and_parts, and_cases, and_right, not-true, not-false, eqb-false, cases_eq, cases_Bool}
use Rattle.plain_model.specs.Graphs.{root}
use Rattle.cell_model.specs.Cells.{Pointer, Cell, null, cell_at, pointer_at, is_live, is_strong, same, relinked, hits, counted}
use Rattle.cell_model.specs.Records.{CutDead as CutDeadRecord, HasPointer, Fits}
use Rattle.store_model.specs.Core.{Round, Core, is_named}
use Rattle.store_model.specs.Sound.{IsSound}
use Rattle.store_model.specs.Steps.{IsQuiet, IsTracked, after_collect}
use Rattle.cell_model.proofs.CountLaws.{relinked-live, relinked-bit, relinked-length, relinked-slot, relinked-other, relinked-counted, relinked-which}
use Rattle.cell_model.proofs.EditLaws.{live-there, live-within}
use Rattle.store_model.proofs.StoreSound.{same-self}
use Rattle.store_model.proofs.WalkSound.{cut-sound, cut_joins-sound}
use Rattle.ref_tables.specs.Queue.{has, joined}
use Rattle.red_walk.specs.Walk.{Walk}
use Rattle.red_walk.specs.Rounds.{round_of as walked}
use Rattle.red_walk.proofs.Members.{has-Contains, Contains-has}
use Rattle.green_walk.specs.declared.sweep.SweepAt.TheVariants as sweep
use Rattle.green_walk.specs.Sweeping.{SweepState as Sweep, next as next_of_sweep, unfreed}
use Rattle.green_walk.specs.Greening.{Greening}
use Rattle.green_walk.proofs.SweepLaws.{empty-law}
use Rattle.log_record.specs.declared.cell_record.CellRecord.{CellRecord}
use Rattle.log_record.specs.declared.cell_record.CellRecord.TheVariants as logs
use Rattle.core_store.specs.declared.three.HeldFrame.{HeldFrame}
use Rattle.core_store.specs.declared.act.Act.TheVariants as act
use Rattle.core_store.specs.declared.round_at.RoundAt.{RoundAt}
use Rattle.core_store.specs.declared.round_at.RoundAt.TheVariants as at
use Rattle.core_store.specs.declared.slots.SlotChange.{SlotChange}
use Rattle.core_store.specs.Frames.{Agree}
use Rattle.core_store.specs.Changes.{has_no_strong, is_counted_strong, restored_change}
use Rattle.core_store.specs.Slots.{IsChanged, HoldsPagesOf, IsReadyToChange, Changes}
use Rattle.core_store.specs.RoundView.{RoundView, Rounds, Sweeping, round_of, asked, is_event, ids_in, next_slot, looked_past, passed_by_sweep, IsSweeping, IsInStep, Proceeds, cut}
use Rattle.core_store.specs.Tables.{TablesView}
use Rattle.core_store.specs.Stands.{IsEmptied, IsTested, Stands}
use Rattle.core_store.specs.Steps.{is_queued, JoinsIfCut}
use Rattle.core_store.specs.Collects.{is_let_go}
use Rattle.core_store.specs.Collecting.{objects_at, IsReadyToCollect, Collected}
use Rattle.core_store.proofs.SlotLaws.{holds-old}
use Rattle.core_store.proofs.CollectedLaws.{Stands-collected, tested-next_slot, slots-end, rests-at_slots, mark-at, marks-long_of}
use Rattle.core_store.proofs.SavedLaws.{saved-swept}
use Rattle.core_store.proofs.EndQueue.{not-free, are-names}
use Rattle.core_store.proofs.NextLaws.{one-live}
use Rattle.core_store.proofs.PassLaws.{round-next_slot, IsEmptied-next_slot}
use Rattle.core_store.proofs.PlanLaws.{live-id}
use Rattle.core_store.proofs.QueueLaws.{joined-there, joined-new}
use Rattle.core_store.proofs.ReadyRound.{IsThere, asked-there}
use Rattle.core_store.proofs.RestLaws.{IsEmptied-kept}
use Rattle.core_store.proofs.WeakenRound.{can-null, not-let_go}

-- ---- the cells

same-switched : (a b : Bool) → same a b ≡ false → same b a ≡ false
same-switched true true e = absurd (cc)
same-switched true false e = refl
same-switched false true e = refl
same-switched false false e = absurd (cc)

-- a cell loses no strong pointer where a weak one is removed
strong-before : (cells : List Cell) (id slot x : ℕ) → is_strong cells (pointer_at cells id slot) ≡ false → x ≡ (pointer_at cells id slot).target → x ≢ 0 → x < length cells → (cell_at (relinked cells id slot null) x).strong ≡ 0 → (cell_at cells x).strong ≡ 0
strong-before cells id slot x weak is n l z =
    let bit = (cell_at cells x).bit in
    let old = pointer_at cells id slot in
    let c = relinked-counted cells id slot null x bit n l in
    let unlike : same old.bit bit ≡ false = same-switched bit old.bit (ap (λ (y : ℕ). same (cell_at cells y).bit old.bit) is ∙ weak) in
    let nothing : hits x bit old ≡ 0 = ap {B = ℕ} (λ (t : Bool). cond t 1 0) (and_right (old.target == x) (same old.bit bit) unlike) in
    let before : counted bit (cell_at cells x) ≡ (cell_at cells x).strong = ap (λ (t : Bool). cond t (cell_at cells x).strong (cell_at cells x).weak) (same-self bit) in
    let after : counted bit (cell_at (relinked cells id slot null) x) ≡ (cell_at (relinked cells id slot null) x).strong =
    ap (λ (o : Bool). cond (same o bit) (cell_at (relinked cells id slot null) x).strong (cell_at (relinked cells id slot null) x).weak) (relinked-bit cells id slot null x)
    ∙ ap (λ (t : Bool). cond t (cell_at (relinked cells id slot null) x).strong (cell_at (relinked cells id slot null) x).weak) (same-self bit) in
    omega (arith, c, nothing, before, after, z)

-- slots that were null stay null
null-stays : (cells : List Cell) (id slot : ℕ) → id ≢ 0 → id < length cells → slot < length (cell_at cells id).pointers → (x k : ℕ) → (pointer_at cells x k).target ≡ 0 → (pointer_at (relinked cells id slot null) x k).target ≡ 0
null-stays cells id slot n l within x k none =
    ⊎_elim (λ e. ap (λ (p : Pointer). p.target) e.2) (λ e. ap (λ (p : Pointer). p.target) e ∙ none) (relinked-which cells id slot null x k n l within)

-- ---- what the call left

-- the slot held a pointer to this target, of this strength, and is null now
pub record IsCut (slots : ℕ) (v : TablesView) (c : Core) (held new : List (HeldFrame slots)) (marks : List Bool) (id slot target : ℕ) (was_strong : Bool) : Type 0 where
  pub target_is : target ≡ (pointer_at c.cells id slot).target
  pub strong_is : was_strong ≡ is_counted_strong c.cells (pointer_at c.cells id slot)
  pub live : is_live c.cells id ≡ true
  pub within : slot < slots
  pub some : target ≢ 0
  pub changed : IsChanged c.cells (relinked c.cells id slot null) held new v.zeros marks

-- where a look at the slot of a condemned object comes next, it is there, and where there is something to do, it holds a pointer
module _ (slots : ℕ) (v : TablesView) (c : Core) (held : List (HeldFrame slots)) (id slot : ℕ) (h : Stands slots v c) (agree : Agree c.cells held) (ready : IsReadyToCollect c.cells v.round held) (look : asked v.round ≡ at.Cut id slot) where
  cut-there : (is_live c.cells id ≡ true) × (slot < slots)
  cut-there = subst (λ (a : RoundAt). IsThere slots c.cells a) look (asked-there h)

  cut-some : (pointer_at c.cells id slot).target ≢ 0
  cut-some = eqb-false (pointer_at c.cells id slot).target 0 (not-true ((pointer_at c.cells id slot).target == 0) (subst (λ (a : RoundAt). is_event c.cells a ≡ true) look ready.event))

  pub cut-ready_to : IsReadyToChange held v.zeros id slot 0
  cut-ready_to = record {
    ids = v.ids;
    cells = c.cells;
    agree = agree;
    marks = h.zeros;
    can = can-null slots v c h id slot cut-there.0 cut-there.1;
    pages = subst (λ (a : RoundAt). HoldsPagesOf held (objects_at c.cells a)) look ready.pages;
  }

  pub cut-of : (new : List (HeldFrame slots)) (marks : List Bool) (change : SlotChange) → Changes held new v.zeros marks id slot 0 (λ cells. restored_change cells id slot 0) change → IsCut slots v c held new marks id slot change.old_target change.old_strong
  cut-of new marks change changes =
      let done = changes v.ids c.cells agree (can-null slots v c h id slot cut-there.0 cut-there.1) in
      record {
        target_is = ap (λ (x : SlotChange). x.old_target) done.0;
        strong_is = ap (λ (x : SlotChange). x.old_strong) done.0;
        live = cut-there.0;
        within = cut-there.1;
        some = subst (λ (n : ℕ). n ≢ 0) (sym (ap (λ (x : SlotChange). x.old_target) done.0)) cut-some;
        changed = subst (λ (b : Bool). IsChanged c.cells (relinked c.cells id slot (record { target = 0; bit = b })) held new v.zeros marks) (ap (λ (x : SlotChange). x.new_bit) done.0) done.1;
      }

-- ---- the event

-- the open round as a sweep has it
abbrev swept : Walk → Sweep → Round
swept w s = record (walked w) { judged = true; condemned = unfreed s }

-- the tests of the tables, in the order of the journal's
regroup : (z r l n : Bool) → (z && (not r && (true && (not l && not n)))) ≡ ((not r && (not l && z)) && not n)
regroup true true l n = refl
regroup true false true n = refl
regroup true false false n = refl
regroup false true l n = refl
regroup false false true n = refl
regroup false false false n = refl

module _ {slots : ℕ} {v : TablesView} {c : Core} {held new : List (HeldFrame slots)} {marks : List Bool} {id slot target : ℕ} {was_strong : Bool} (h : Stands slots v c) (k : IsCut slots v c held new marks id slot target was_strong) where
  abbrev later : List Cell
  later = relinked c.cells id slot null

  abbrev logged : CellRecord
  logged = logs.CutDead id slot target was_strong

  fits : Fits c.cells (CutDeadRecord id slot target was_strong)
  fits =
      let old = (pointer_at c.cells id slot).target in (
        subst (λ (n : ℕ). HasPointer c.cells id slot n was_strong) (sym k.target_is)
            (subst (λ (b : Bool). HasPointer c.cells id slot old b) (sym k.strong_is) (holds-old slots v.ids c.cells id slot 0 (can-null slots v c h id slot k.live k.within))),
        k.some,
      )

  target-live : is_live c.cells target ≡ true
  target-live = fits.0.target_live fits.1

  target-later : target < length later
  target-later = subst (λ (n : ℕ). target < n) (sym (relinked-length c.cells id slot null)) (live-within c.cells target target-live)

  pub cut-marked : target < length marks
  cut-marked = subst (λ (n : ℕ). target < n) (sym (marks-long_of marks later (k.changed.marks_are h.zeros))) target-later

  pub cut-within : (1 ≤ target) × (target ≤ v.ids)
  cut-within = one-live h target (live-id h target target-live)

  some-id : id ≢ 0
  some-id = live-there c.cells id h.sound.consistent.exact.none k.live

  module _ (w : Walk) (s : Sweep) (g : Greening) (is : v.round ≡ Sweeping w s slot g) (at : next_of_sweep s ≡ sweep.Slots id) where
    sweeping : IsSweeping slots v.ids w s slot g
    sweeping = subst (λ (r : RoundView). IsInStep slots v.ids r) is h.in_step

    there : c.round ≡ Some (swept w s)
    there = sym h.round ∙ ap round_of is

    condemned : Contains (unfreed s) id
    condemned = let law = empty-law s id sweeping.sweep at in subst (λ (ids : List ℕ). Contains ids id) (sym law.0) law.1

    quiet : IsQuiet (swept w s)
    quiet e = absurd (true≢false e)

    -- the target was lost by its last strong pointer, and isn't known otherwise
    abbrev is_lost : Bool
    is_lost = is_let_go slots c (swept w s) logged target && not (is_named c.refs target)

    -- that is what the tables tell
    told : is_queued (record v { zeros = marks }) (is_named c.refs) target ≡ is_lost
    told =
        let named = is_named c.refs target in
        ap (λ (f : Bool). get_or marks target false && (not (target == root) && (not f && (not (has (ids_in v.round) target) && not named)))) (not-free slots v c h target target-live)
        ∙ (ap (λ (r : RoundView). get_or marks target false && (not (target == root) && (true && (not (has (ids_in r) target) && not named)))) is
        ∙ (regroup (get_or marks target false) (target == root) (has w.left target) named
        ∙ ap (λ (z : Bool). (not (target == root) && (not (has w.left target) && z)) && not named) (mark-at marks later (k.changed.marks_are h.zeros) target target-later)))

    -- without a strong pointer it is known, where it doesn't join
    tracked : (was_strong && is_lost) ≡ false → (cell_at later target).strong ≡ 0 → IsTracked c target
    tracked stays zero =
        ⊎_elim
        (λ (weak : was_strong ≡ false).
        ⊎_elim
        (λ (e : target ≡ root). inl e)
        (λ (n : target ≢ root). inr (h.sound.zero target target-live n (strong-before c.cells id slot target (fits.0.strength fits.1 ∙ weak) k.target_is k.some (live-within c.cells target target-live) zero)))
        (cases_eq target root))
        (λ (kept : is_lost ≡ false).
        ⊎_elim
        (λ (e : is_let_go slots c (swept w s) logged target ≡ false).
        ⊎_elim
        (λ (e : target ≡ root). inl e)
        (λ (m : Contains w.left target ⊎ ((cell_at later target).strong ≢ 0)).
        ⊎_elim
        (λ (m : Contains w.left target). inr (inr (inl (subst (λ (o : Option Round). Contains (option_map_or (λ (r : Round). r.list) o []) target) (sym there) m))))
        (λ (n : (cell_at later target).strong ≢ 0). absurd (n zero))
        m)
        (not-let_go target (cell_at later target).strong w.left e))
        (λ (e : not (is_named c.refs target) ≡ false). inr (inr (inr (not-false (is_named c.refs target) e))))
        (and_cases (is_let_go slots c (swept w s) logged target) (not (is_named c.refs target)) kept))
        (and_cases was_strong is_lost stays)

    known : (was_strong && is_lost) ≡ false → IsTracked c target ⊎ ((cell_at later target).strong ≢ 0)
    known stays = ⊎_elim (λ (zero : (cell_at later target).strong ≡ 0). inl (tracked stays zero)) (λ (n : (cell_at later target).strong ≢ 0). inr n) (cases_eq (cell_at later target).strong 0)

    stays-sound : IsTracked c target ⊎ ((cell_at later target).strong ≢ 0) → IsSound (after_collect c later c.queue c.round)
    stays-sound = cut-sound c h.sound (swept w s) there quiet id slot target was_strong condemned fits

    joins-sound : is_lost ≡ true → (Contains c.queue target → ⊥) → IsSound (after_collect c later (c.queue ++ target ∷ []) c.round)
    joins-sound lost new_one =
        let goes = (and_parts (is_let_go slots c (swept w s) logged target) (not (is_named c.refs target)) lost).0 in
        let parts = and_parts (not (target == root)) (not (has w.left target) && has_no_strong (cell_at later target)) goes in
        let rest = and_parts (not (has w.left target)) (has_no_strong (cell_at later target)) parts.1 in
        cut_joins-sound c h.sound (swept w s) there quiet id slot target was_strong condemned fits (eqb-false target root (not-true (target == root) parts.0))
        (λ (m : Contains w.left target). true≢false (sym (has-Contains w.left target m) ∙ not-true (has w.left target) rest.0)) new_one

    joined-sound : is_lost ≡ true → IsSound (after_collect c later (joined c.queue target) c.round)
    joined-sound lost =
        ⊎_elim
        (λ (e : has c.queue target ≡ true). subst (λ (q : List ℕ). IsSound (after_collect c later q c.round)) (sym (joined-there c.queue target e)) (stays-sound (inl (inr (inl (Contains-has c.queue target e))))))
        (λ (e : has c.queue target ≡ false). subst (λ (q : List ℕ). IsSound (after_collect c later q c.round)) (sym (joined-new c.queue target e)) (joins-sound lost (λ m. true≢false (sym (has-Contains c.queue target m) ∙ e))))
        (cases_Bool (has c.queue target))

    abbrev queue_behind : Bool → List ℕ → List ℕ
    queue_behind b queue = if b then joined queue target else queue

    behind-sound : (b : Bool) → (was_strong && is_lost) ≡ b → IsSound (after_collect c later (queue_behind b c.queue) c.round)
    behind-sound true e = joined-sound (and_parts was_strong is_lost e).1
    behind-sound false e = stays-sound (known e)

    emptied-later : length (cell_at later id).pointers ≡ slots → IsEmptied later (next_slot slots w s slot g)
    emptied-later long =
        let within : slot < length (cell_at c.cells id).pointers = fits.0.within in
        let there = live-within c.cells id k.live in
        IsEmptied-next_slot slots later w s slot g id at long (ap (λ (p : Pointer). p.target) (relinked-slot c.cells id slot null some-id there within))
        (subst (IsEmptied later) is (IsEmptied-kept c.cells later v.round (null-stays c.cells id slot some-id there within) h.emptied))

    collected : IsInStep slots v.ids (next_slot slots w s slot g) → Collected slots v (record v { zeros = marks; queue = queue_behind (was_strong && is_lost) c.queue; round = next_slot slots w s slot g }) c held new act.Change (Some logged)
    collected step =
        let queue = queue_behind (was_strong && is_lost) c.queue in
        let sound = behind-sound (was_strong && is_lost) refl in
        record {
          proceeds = subst (λ (r : RoundView). Proceeds slots v.ids r act.Change (Some logged) (next_slot slots w s slot g)) (sym is) (cut w s slot id target was_strong g at);
          begins = λ e. absurd (cc);
          moves = record { fits = fits; lays = tt; agree = k.changed.agree; elsewhere = k.changed.elsewhere };
          core = after_collect c later queue c.round;
          after = refl;
          collects = record { of = swept w s; there = there; behind = refl; condemned = condemned; queue_is = refl; round_is = there };
          stands = Stands-collected slots v c later queue c.round marks (next_slot slots w s slot g) h sound (relinked-live c.cells id slot null) (k.changed.marks_are h.zeros) (round-next_slot slots w s slot g id at ∙ sym there) step
              (emptied-later (sound.consistent.slotted id (relinked-live c.cells id slot null id ∙ k.live) ∙ h.slots_are))
              (tested-next_slot slots later w s slot g (rests-at_slots slots v.ids w s g id sweeping.greens at)
              (λ t. saved-swept c.cells later s t g (slots-end s id at)
              (λ x j l. ap (λ (p : Pointer). p.target) (relinked-other c.cells id slot null x j (λ e. sweeping.greens.spared x l (subst (Contains s.list) (sym e) (empty-law s id sweeping.sweep at).1))))
              (subst (IsTested c.cells) is h.tested).1));
        }

    -- the queue and the round as the tables have them
    cut-passed : IsInStep slots v.ids (looked_past slots c.cells v.round)
        → Collected slots v (record v { zeros = marks; queue = queue_behind (was_strong && is_queued (record v { zeros = marks }) (is_named c.refs) target) v.queue; round = looked_past slots c.cells v.round }) c held new act.Change (Some logged)
    cut-passed step =
        let is_next : looked_past slots c.cells v.round ≡ next_slot slots w s slot g = ap (looked_past slots c.cells) is ∙ ap (passed_by_sweep slots c.cells w s slot g) at in
        subst (λ (r : RoundView). Collected slots v (record v { zeros = marks; queue = queue_behind (was_strong && is_queued (record v { zeros = marks }) (is_named c.refs) target) v.queue; round = r }) c held new act.Change (Some logged)) (sym is_next)
        (subst (λ (q : List ℕ). Collected slots v (record v { zeros = marks; queue = q; round = next_slot slots w s slot g }) c held new act.Change (Some logged))
        (ap (λ (q : List ℕ). queue_behind (was_strong && is_lost) q) (sym h.queue) ∙ ap (λ (b : Bool). queue_behind (was_strong && b) v.queue) (sym told))
        (collected (subst (λ (r : RoundView). IsInStep slots v.ids r) is_next step)))

    -- the tables after the target's turn, and the round after that
    pub cut-collected : (x : TablesView) (limit : ℕ) (after : Rounds) → JoinsIfCut (record v { zeros = marks }) x target was_strong → limit ≡ x.ids → after ≡ record { limit = limit; view = looked_past slots c.cells x.round } → IsInStep slots after.limit after.view
        → Collected slots v (record x { round = after.view }) c held new act.Change (Some logged)
    cut-collected x limit after joins sized moved step =
        let round : x.round ≡ v.round = ap (λ (y : TablesView). y.round) joins.same in
        let ids : limit ≡ v.ids = sized ∙ ap (λ (y : TablesView). y.ids) joins.same in
        let step_of : IsInStep slots limit (looked_past slots c.cells x.round) = subst (λ (r : Rounds). IsInStep slots r.limit r.view) moved step in
        let step_here : IsInStep slots v.ids (looked_past slots c.cells v.round) = subst (λ (r : RoundView). IsInStep slots v.ids (looked_past slots c.cells r)) round (subst (λ (n : ℕ). IsInStep slots n (looked_past slots c.cells x.round)) ids step_of) in
        let queue = joins.queue (is_named c.refs) (are-names c.refs v.references h.references) in
        let tables = joins.same ∙ ap (λ (q : List ℕ). record v { zeros = marks; queue = q }) queue in
        let whole = ap (λ (r : Rounds). record x { round = r.view }) moved ∙ ap (λ (y : TablesView). record y { round = looked_past slots c.cells y.round }) tables in
        subst (λ (y : TablesView). Collected slots v y c held new act.Change (Some logged)) (sym whole) (cut-passed step_here)
