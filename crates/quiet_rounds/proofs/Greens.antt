-- A quiet round stays quiet over the events of the green walk.
use Rattle.std.proofs.Common.{◌≡◌, ◌≢◌, ℕ, ◌+◌, ◌<◌, ◌≤◌, ◌==◌, if◌then◌else◌, Bool, true, false, not, List, [], ◌∷◌, ◌++◌, length, slice_index_or, Option, Some, None, refl, sym, ap, ◌∙◌, subst, arith, ◌⊎◌, inl, inr, ⊎_elim, true≢false}
use Rattle.std.specs.Prelude.{Contains, option_map}
use Rattle.std.proofs.lemmas.Bool.{cases_eq, cases_lt, eqb-true}
use Rattle.std.proofs.lemmas.List.{get_or_append_left}
use Rattle.std.proofs.lemmas.List.Elements.{Contains-append_left, Contains-push, Contains-push_cases, Contains-get_or}
use Rattle.cell_model.specs.Cells.{pointer_at, is_live, is_strong, edit, flipped}
use Rattle.store_model.specs.Core.{Core, Round}
use Rattle.cell_model.specs.Records.{HasPointer}
use Rattle.store_model.proofs.Lists.{Contains-here}
use Rattle.cell_model.proofs.EditLaws.{live-there}
use Rattle.red_walk.specs.Walk.{Walk}
use Rattle.green_walk.specs.declared.copied_slots.CopiedSlot.{CopiedSlot}
use Rattle.green_walk.specs.declared.sweep.Found.TheVariants.{Made}
use Rattle.green_walk.specs.Sweeping.{SweepState as Sweep, next as next_of_sweep}
use Rattle.green_walk.specs.Greening.{Greening, GreenStage, AtSeed, AtInto, AtOut, IsPlace, waits, may_lead_to, behind_first, greened, moved, found as found_by_green}
use Rattle.green_walk.proofs.GreenAsked.{green-done, first-has, waits-live}
use Rattle.green_walk.proofs.GreenHeads.{lead-waits, leads-named}
use Rattle.log_record.specs.declared.cell_record.CellRecord.TheVariants as logs
use Rattle.core_store.specs.declared.act.Act.TheVariants as act
use Rattle.core_store.specs.declared.round_at.RoundAt.TheVariants as at
use Rattle.core_store.specs.Changes.{is_counted_strong}
use Rattle.core_store.specs.Collects.{Flips, Weakens, Strengthens}
use Rattle.core_store.specs.RoundView.{Sweeping, round_of}
use Rattle.quiet_rounds.specs.Quiet.{IsToWeaken, WasWalked, IsHeldStrongly, IsQuietSweep, IsQuietRound}
use Rattle.quiet_rounds.specs.Laws.{IsQuietEvent, NoneJoins}
use Rattle.core_store.proofs.GreenAt.{asks, asked-green, IsAtFlip, at-flip, IsAtInto, at-into, IsAtStrengthen, at-strengthen}
use Rattle.core_store.proofs.Strengths.{counted-parts, counted-from, weak-to, flip-graph, flip-zero, flip-apart, flip-into, flip-held, switched_at, turn-which, turn-graph, turn-switched, turn-apart, turn-held, turn-zero}
use Rattle.quiet_rounds.proofs.Kept.{waits-more, waits-none, waits-yes, waits-apart, behind-first, other-kept, copied-kept, led-kept, IsQuietGreen, quiet-green, queue-stays, left-stored, left-lives, stored-live, some-within, null-waits, waits-zero}

-- ---- a flip

-- the walk after it
abbrev flip_walk : Greening → ℕ → Greening
flip_walk g id = record (greened g id) { stage = AtInto id g.copied; test = None }

same-seed : (x y : ℕ) (xs ys zs : List ℕ) → zs ≡ x ∷ xs → zs ≡ y ∷ ys → x ≡ y
same-seed x y xs ys zs e f = let h : x ∷ xs ≡ y ∷ ys = sym e ∙ f in cc

module _ {slots : ℕ} {c : Core} {w : Walk} {s : Sweep} {g : Greening} (h : IsQuietGreen slots c w s g) (id : ℕ) (a : IsAtFlip g id) where
  lives : Contains g.live id
  lives = waits-live g id a.waiting

  stored : is_live c.cells id ≡ true
  stored = stored-live h id (waits-live g id a.waiting)

  -- an object that waits has no strong pointer out of it but to the flipped one
  flip-none_out : (x k : ℕ) → Contains w.left x → (Contains (g.green ++ id ∷ []) x → ⊥) → is_counted_strong (edit c.cells id (flipped id)) (pointer_at (edit c.cells id (flipped id)) x k) ≡ true
      → IsToWeaken (AtInto id g.copied) x k (pointer_at (edit c.cells id (flipped id)) x k).target
  flip-none_out x k m n st =
      let new = edit c.cells id (flipped id) in
      let graph = flip-graph c.cells id h.sound.consistent.exact stored in
      let now = counted-parts new (pointer_at new x k) st in
      let some : (pointer_at c.cells x k).target ≢ 0 = λ z. now.0 (graph.target x k ∙ z) in
      let apart : x ≢ id = λ z. n (subst (λ y. Contains (g.green ++ id ∷ []) y) (sym z) (Contains-push g.green id)) in
      ⊎_elim
      (λ t. (graph.target x k ∙ t, h.quiet.copied.all x k (left-lives h x m) (some-within h x k (left-stored h x m) some)))
      (λ t.
      let was = counted-from c.cells (pointer_at c.cells x k) some (sym (flip-apart c.cells id h.sound.consistent.exact stored x k apart t) ∙ now.1) in
      let none = h.quiet.none_out x k m (λ o. n (Contains-append_left g.green (id ∷ []) x o)) was in
      absurd (subst (λ stage. IsToWeaken stage x k (pointer_at c.cells x k).target) a.stage none))
      (cases_eq (pointer_at c.cells x k).target id)

  -- what was green is held as before
  flip-held_still : (x : ℕ) → Contains g.green x → IsHeldStrongly (edit c.cells id (flipped id)) (flip_walk g id) x
  flip-held_still x m =
      let was = h.quiet.green x m in (
        was.0,
        was.1,
        waits-more g id (AtInto id g.copied) None was.0 was.2,
        flip-held c.cells id h.sound.consistent.exact stored was.0 was.1 x (waits-apart g was.0 id was.2 a.waiting) (waits-apart g x id (green-done g x m) a.waiting) was.3,
      )

  -- the flipped object is held by the pointer that comes from elsewhere
  flip-held_now : IsHeldStrongly (edit c.cells id (flipped id)) (flip_walk g id) id
  flip-held_now =
      let exact = h.sound.consistent.exact in
      let is : Contains g.seeds id = subst (λ ids. Contains ids id) (sym a.seeds) (Contains-here id a.rest) in
      let other = h.quiet.seeds id is in
      let u = other.0 in
      let slot = other.1 in
      let some = live-there c.cells id exact.none stored in
      let apart : u ≢ id = λ z. other.3 (subst (λ x. Contains w.list x) (sym z) (h.listed id (h.greens.left id lives))) in
      let weak = weak-to c.cells exact u slot id other.2 other.4 some (waits-zero h id a.waiting) in (
        u,
        slot,
        waits-more g id (AtInto id g.copied) None u (waits-none g u (λ m. other.3 (h.listed u (h.greens.left u m)))),
        record {
          live = (flip-graph c.cells id exact stored).live u ∙ other.2;
          target = (flip-graph c.cells id exact stored).target u slot ∙ other.4;
          not_null = some;
          strong = flip-into c.cells id exact stored u slot apart other.4 weak;
        },
      )

  flip-walked : (place slot : ℕ) → place < g.walked → waits (flip_walk g id) (pointer_at (edit c.cells id (flipped id)) (slice_index_or (g.green ++ id ∷ []) place 0) slot).target ≡ false
  flip-walked place slot l =
      let few = h.greens.greening.walked_few in
      let within : place < length g.green = omega (arith, l, few) in
      let was = h.quiet.walked place slot (subst (λ stage. WasWalked g stage place slot) (sym a.stage) l) within in
      let first = slice_index_or g.green place 0 in
      let target = (flip-graph c.cells id h.sound.consistent.exact stored).target first slot in
      let now = waits-more g id (AtInto id g.copied) None (pointer_at c.cells first slot).target was in
      subst (λ x. waits (flip_walk g id) (pointer_at (edit c.cells id (flipped id)) x slot).target ≡ false) (sym (get_or_append_left g.green (id ∷ []) 0 place within))
      (subst (λ x. waits (flip_walk g id) x ≡ false) (sym target) now)

  flip-quiet : IsQuietSweep (edit c.cells id (flipped id)) slots w s (flip_walk g id)
  flip-quiet =
      let q = h.quiet in
      let graph = flip-graph c.cells id h.sound.consistent.exact stored in
      record {
        zero = λ x m n. flip-zero c.cells id h.sound.consistent.exact stored x (λ z. n (subst (λ y. Contains (g.green ++ id ∷ []) y) (sym z) (Contains-push g.green id)))
            (q.zero x m (λ o. n (Contains-append_left g.green (id ∷ []) x o)));
        none_out = flip-none_out;
        green = λ x m. ⊎_elim (λ o. flip-held_still x o) (λ e. subst (λ y. IsHeldStrongly (edit c.cells id (flipped id)) (flip_walk g id) y) e flip-held_now) (Contains-push_cases g.green id x m);
        seeds = λ x m. other-kept graph w.list x (q.seeds x m);
        copied = copied-kept graph g (g.green ++ id ∷ []) (AtInto id g.copied) None slots q.copied;
        current = q.current;
        walked = λ place slot l _. flip-walked place slot l;
        at_seed = λ e. absurd (cc);
        in_hand = λ _ x xs e. subst (λ y. Contains (g.green ++ id ∷ []) y) (same-seed id x a.rest xs g.seeds a.seeds e) (Contains-push g.green id);
        led = λ x m. led-kept graph g (g.green ++ id ∷ []) (AtInto id g.copied) None (λ y o. Contains-append_left g.green (id ∷ []) y o) (q.led x m);
        parted = q.parted;
        sweeping = λ n. absurd (n h.over);
      }

pub quiet-flip : (slots : ℕ) (c d : Core) (w : Walk) (s : Sweep) (slot id : ℕ) (g : Greening)
    → IsQuietEvent slots c d (Sweeping w s slot g) (Sweeping w s slot (found_by_green g (Made id))) act.Change (Some (logs.Flip id)) → IsQuietRound slots c.cells (Sweeping w s slot g)
    → IsQuietRound slots d.cells (Sweeping w s slot (found_by_green g (Made id))) × NoneJoins act.Change c.queue d.queue
quiet-flip slots c d w s slot id g e q =
    let asked = asked-green slot g (next_of_sweep s) (at.Flip id) tt (asks e.proceeds) in
    let a = at-flip g id asked.1.1 e.in_step.greens.greening asked.1.0 asked.1.2 in
    let cells : d.cells ≡ edit c.cells id (flipped id) = ap (λ (x : Core). x.cells) e.after in
    let does : Flips c id d.queue d.round = e.collects in (
      subst (λ cells. IsQuietSweep cells slots w s (found_by_green g (Made id))) (sym cells)
          (subst (λ x. IsQuietSweep (edit c.cells id (flipped id)) slots w s x) (sym a.found) (flip-quiet (quiet-green e q asked.0) id a)),
      queue-stays does.greens.queue_is,
    )

-- ---- a strong pointer to the flipped object becomes weak

module _ {slots : ℕ} {c : Core} {w : Walk} {s : Sweep} {g : Greening} (h : IsQuietGreen slots c w s g) («from» slot to : ℕ) (a : IsAtInto g «from» slot to) (fits : HasPointer c.cells «from» slot to true) (some : to ≢ 0) where
  weakened-place : IsPlace g (AtInto to a.rest)
  weakened-place = subst (λ stage. IsPlace g stage) a.stage h.greens.greening.place

  source-waits : waits g «from» ≡ true
  source-waits = subst (λ x. waits g x ≡ true) a.id (lead-waits g to a.first (first-has (may_lead_to g to) a.rest a.first a.leads).1)

  -- the pointer isn't strong then
  no-more_strong : (x k : ℕ) → x ≡ «from» → k ≡ slot → is_counted_strong (switched_at c.cells «from» slot) (pointer_at (switched_at c.cells «from» slot) x k) ≡ true → ⊥
  no-more_strong x k e f st =
      let new = switched_at c.cells «from» slot in
      let here = (counted-parts new (pointer_at new x k) st).1 in
      let strong : is_strong new (pointer_at new «from» slot) ≡ true = subst (λ y. is_strong new (pointer_at new «from» y) ≡ true) f (subst (λ y. is_strong new (pointer_at new y k) ≡ true) e here) in
      let was : is_strong c.cells (pointer_at c.cells «from» slot) ≡ true = fits.strength some in
      true≢false (sym strong ∙ turn-switched c.cells «from» slot h.sound.consistent.exact fits.live fits.within ∙ ap not was)

  weakened-none_out : (x k : ℕ) → Contains w.left x → (Contains g.green x → ⊥) → is_counted_strong (switched_at c.cells «from» slot) (pointer_at (switched_at c.cells «from» slot) x k) ≡ true
      → IsToWeaken (AtInto to (behind_first (may_lead_to g to) a.rest)) x k (pointer_at (switched_at c.cells «from» slot) x k).target
  weakened-none_out x k m n st =
      ⊎_elim
      (λ e. absurd (no-more_strong x k e.0 e.1 st))
      (λ same.
      let exact = h.sound.consistent.exact in
      let was : is_counted_strong c.cells (pointer_at c.cells x k) ≡ true = sym (turn-apart c.cells «from» slot exact fits.live fits.within x k same) ∙ st in
      let waiting : IsToWeaken (AtInto to a.rest) x k (pointer_at c.cells x k).target = subst (λ stage. IsToWeaken stage x k (pointer_at c.cells x k).target) a.stage (h.quiet.none_out x k m n was) in
      let copied = waiting.1.0 in
      let there = waiting.1.1 in
      let is_id : copied.id ≡ x = waiting.1.2 in
      let is_slot : copied.slot ≡ k = waiting.1.3 in
      let live = left-lives h x m in
      let held : (pointer_at c.cells copied.id copied.slot).target ≡ to = ap (λ y. (pointer_at c.cells y copied.slot).target) is_id ∙ ap (λ y. (pointer_at c.cells x y).target) is_slot ∙ waiting.0 in
      let told = h.quiet.copied.tell copied (weakened-place.3 copied there) (subst (λ y. Contains g.live y) (sym is_id) live) in
      let waits_yet : waits g copied.id ≡ true = subst (λ y. waits g y ≡ true) (sym is_id) (waits-yes g x live n) in
      let may = leads-named g to copied (sym told ∙ held) waits_yet in
      ⊎_elim
      (λ (e : a.first ≡ copied). absurd (no-more_strong x k (sym is_id ∙ ap (λ (y : CopiedSlot). y.id) (sym e) ∙ a.id) (sym is_slot ∙ ap (λ (y : CopiedSlot). y.slot) (sym e) ∙ a.at) st))
      (λ rest. ((turn-graph c.cells «from» slot exact fits.live fits.within).target x k ∙ waiting.0, (copied, rest, is_id, is_slot)))
      (behind-first (may_lead_to g to) a.rest a.first copied a.leads there may))
      (turn-which c.cells «from» slot h.sound.consistent.exact fits.live fits.within x k)

  weakened-held : (x : ℕ) → Contains g.green x → IsHeldStrongly (switched_at c.cells «from» slot) (record g { stage = AtInto to (behind_first (may_lead_to g to) a.rest) }) x
  weakened-held x m =
      let was = h.quiet.green x m in
      ⊎_elim
      (λ e. absurd (waits-apart g was.0 «from» was.2 source-waits e.0))
      (λ same. (was.0, was.1, was.2, turn-held c.cells «from» slot h.sound.consistent.exact fits.live fits.within was.0 was.1 x same was.3))
      (turn-which c.cells «from» slot h.sound.consistent.exact fits.live fits.within was.0 was.1)

  weakened-quiet : IsQuietSweep (switched_at c.cells «from» slot) slots w s (record g { stage = AtInto to (behind_first (may_lead_to g to) a.rest) })
  weakened-quiet =
      let q = h.quiet in
      let exact = h.sound.consistent.exact in
      let rest = behind_first (may_lead_to g to) a.rest in
      let graph = turn-graph c.cells «from» slot exact fits.live fits.within in
      record {
        zero = λ x m n. turn-zero c.cells «from» slot exact fits.live fits.within x (left-stored h x m) (λ e. n (subst (λ y. Contains g.green y) (sym fits.target ∙ e) weakened-place.2)) (q.zero x m n);
        none_out = weakened-none_out;
        green = weakened-held;
        seeds = λ x m. other-kept graph w.list x (q.seeds x m);
        copied = copied-kept graph g g.green (AtInto to rest) g.test slots q.copied;
        current = q.current;
        walked = λ place k l within.
            subst (λ x. waits g x ≡ false) (sym (graph.target (slice_index_or g.green place 0) k)) (q.walked place k (subst (λ stage. WasWalked g stage place k) (sym a.stage) l) within);
        at_seed = λ e. absurd (cc);
        in_hand = λ _ x xs e. q.in_hand (λ z. let no : AtInto to a.rest ≡ AtSeed = sym a.stage ∙ z in cc) x xs e;
        led = λ x m. led-kept graph g g.green (AtInto to rest) g.test (λ y o. o) (q.led x m);
        parted = q.parted;
        sweeping = λ n. absurd (n h.over);
      }

pub quiet-into : (slots : ℕ) (c d : Core) (w : Walk) (s : Sweep) (slot «from» k to : ℕ) (g : Greening)
    → IsQuietEvent slots c d (Sweeping w s slot g) (Sweeping w s slot (found_by_green g (Made «from»))) act.Change (Some (logs.Weaken «from» k to)) → IsQuietRound slots c.cells (Sweeping w s slot g)
    → IsQuietRound slots d.cells (Sweeping w s slot (found_by_green g (Made «from»))) × NoneJoins act.Change c.queue d.queue
quiet-into slots c d w s slot «from» k to g e q =
    let asked = asked-green slot g (next_of_sweep s) (at.Into «from» k to) tt (asks e.proceeds) in
    let a = at-into g «from» k to asked.1 in
    let cells : d.cells ≡ switched_at c.cells «from» k = ap (λ (x : Core). x.cells) e.after in (
      subst (λ cells. IsQuietSweep cells slots w s (found_by_green g (Made «from»))) (sym cells)
          (subst (λ x. IsQuietSweep (switched_at c.cells «from» k) slots w s x) (sym a.found) (weakened-quiet (quiet-green e q asked.0) «from» k to a e.fits.0 e.fits.1)),
      ⊎_elim (λ x. absurd (judged-before x e.before)) (λ x. queue-stays x.greens.queue_is) e.collects,
    )
  where
    judged-before : Weakens slots c «from» k to d.queue d.round → round_of (Sweeping w s slot g) ≡ c.round → ⊥
    judged-before x before =
        let judged : Some true ≡ Some false = ap (λ (o : Option Round). option_map (λ (r : Round). r.judged) o) (before ∙ x.there) ∙ ap (λ b. Some b) x.before in
        absurd (cc)

-- ---- a weak pointer of a green object becomes strong

-- the walk after it
abbrev stronger_walk : Greening → ℕ → GreenStage → Greening
stronger_walk g to stage = record (greened g to) { stage = stage; test = None }

module _ {slots : ℕ} {c : Core} {w : Walk} {s : Sweep} {g : Greening} (h : IsQuietGreen slots c w s g) («from» slot to : ℕ) (a : IsAtStrengthen g «from» slot to) (fits : HasPointer c.cells «from» slot to false) (some : to ≢ 0) where
  is-green : Contains g.green «from»
  is-green = subst (λ x. Contains g.green x) a.green (Contains-get_or g.green a.place 0 a.within)

  -- the pointers of the object that was walked so far lead to none that waits
  stronger-own : (stage : GreenStage) (k : ℕ) → (k ≤ slot) ⊎ (slots ≤ k) → waits (stronger_walk g to stage) (pointer_at c.cells «from» k).target ≡ false
  stronger-own stage k way =
      ⊎_elim
      (λ less. ⊎_elim
      (λ (e : k ≡ slot).
      subst (λ x. waits (stronger_walk g to stage) x ≡ false) (sym (ap (λ x. (pointer_at c.cells «from» x).target) e ∙ fits.target)) (green-done (stronger_walk g to stage) to (Contains-push g.green to)))
      (λ n.
      let at : WasWalked g (AtOut a.place slot) a.place k = inr (refl, omega (arith, less, n)) in
      let was = h.quiet.walked a.place k (subst (λ st. WasWalked g st a.place k) (sym a.stage) at) a.within in
      waits-more g to stage None (pointer_at c.cells «from» k).target (subst (λ x. waits g (pointer_at c.cells x k).target ≡ false) a.green was))
      (cases_eq k slot))
      (λ past. ⊎_elim
      (λ e. subst (λ x. waits (stronger_walk g to stage) x ≡ false) (sym e) (null-waits h stage (g.green ++ to ∷ []) None))
      (λ n. let less = some-within h «from» k fits.live n in absurd (omega (arith, less, past)))
      (cases_eq (pointer_at c.cells «from» k).target 0))
      way

  -- the slots that were walked are those from before, and that of the pointer
  stronger-walked : (stage : GreenStage) → ((place k : ℕ) → WasWalked (stronger_walk g to stage) stage place k → (place < a.place) ⊎ ((place ≡ a.place) × ((k ≤ slot) ⊎ (slots ≤ k))))
      → (place k : ℕ) → WasWalked (stronger_walk g to stage) stage place k → waits (stronger_walk g to stage) (pointer_at (switched_at c.cells «from» slot) (slice_index_or (g.green ++ to ∷ []) place 0) k).target ≡ false
  stronger-walked stage ways place k l =
      let graph = turn-graph c.cells «from» slot h.sound.consistent.exact fits.live fits.within in
      let a_within = a.within in
      ⊎_elim
      (λ before.
      let within : place < length g.green = omega (arith, before, a_within) in
      let first = slice_index_or g.green place 0 in
      let at : WasWalked g (AtOut a.place slot) place k = inl before in
      let was = h.quiet.walked place k (subst (λ st. WasWalked g st place k) (sym a.stage) at) within in
      subst (λ x. waits (stronger_walk g to stage) (pointer_at (switched_at c.cells «from» slot) x k).target ≡ false) (sym (get_or_append_left g.green (to ∷ []) 0 place within))
      (subst (λ x. waits (stronger_walk g to stage) x ≡ false) (sym (graph.target first k)) (waits-more g to stage None (pointer_at c.cells first k).target was)))
      (λ here.
      let is : slice_index_or (g.green ++ to ∷ []) place 0 ≡ «from» = ap (λ x. slice_index_or (g.green ++ to ∷ []) x 0) here.0 ∙ get_or_append_left g.green (to ∷ []) 0 a.place a_within ∙ a.green in
      subst (λ x. waits (stronger_walk g to stage) (pointer_at (switched_at c.cells «from» slot) x k).target ≡ false) (sym is)
      (subst (λ x. waits (stronger_walk g to stage) x ≡ false) (sym (graph.target «from» k)) (stronger-own stage k here.1)))
      (ways place k l)

  stronger-none_out : (x k : ℕ) → Contains w.left x → (Contains (g.green ++ to ∷ []) x → ⊥) → is_counted_strong (switched_at c.cells «from» slot) (pointer_at (switched_at c.cells «from» slot) x k) ≡ true → ⊥
  stronger-none_out x k m n st =
      ⊎_elim
      (λ e. n (subst (λ y. Contains (g.green ++ to ∷ []) y) (sym e.0) (Contains-append_left g.green (to ∷ []) «from» is-green)))
      (λ same.
      let was = sym (turn-apart c.cells «from» slot h.sound.consistent.exact fits.live fits.within x k same) ∙ st in
      subst (λ stage. IsToWeaken stage x k (pointer_at c.cells x k).target) a.stage (h.quiet.none_out x k m (λ o. n (Contains-append_left g.green (to ∷ []) x o)) was))
      (turn-which c.cells «from» slot h.sound.consistent.exact fits.live fits.within x k)

  -- what was green is held as before, since the pointer was weak
  stronger-held_still : (stage : GreenStage) (x : ℕ) → Contains g.green x → IsHeldStrongly (switched_at c.cells «from» slot) (stronger_walk g to stage) x
  stronger-held_still stage x m =
      let was = h.quiet.green x m in
      ⊎_elim
      (λ e.
      let strong : is_strong c.cells (pointer_at c.cells «from» slot) ≡ true = subst (λ y. is_strong c.cells (pointer_at c.cells «from» y) ≡ true) e.1 (subst (λ y. is_strong c.cells (pointer_at c.cells y was.1) ≡ true) e.0 was.3.strong) in
      absurd (true≢false (sym strong ∙ fits.strength some)))
      (λ same. (was.0, was.1, waits-more g to stage None was.0 was.2, turn-held c.cells «from» slot h.sound.consistent.exact fits.live fits.within was.0 was.1 x same was.3))
      (turn-which c.cells «from» slot h.sound.consistent.exact fits.live fits.within was.0 was.1)

  -- the target is held by the pointer
  stronger-held_now : (stage : GreenStage) → IsHeldStrongly (switched_at c.cells «from» slot) (stronger_walk g to stage) to
  stronger-held_now stage =
      let graph = turn-graph c.cells «from» slot h.sound.consistent.exact fits.live fits.within in (
        «from»,
        slot,
        waits-more g to stage None «from» (green-done g «from» is-green),
        record {
          live = graph.live «from» ∙ fits.live;
          target = graph.target «from» slot ∙ fits.target;
          not_null = some;
          strong = turn-switched c.cells «from» slot h.sound.consistent.exact fits.live fits.within ∙ ap not (fits.strength some);
        },
      )

  stronger-quiet : (stage : GreenStage) → (stage ≡ AtSeed → ⊥) → ((place k : ℕ) → WasWalked (stronger_walk g to stage) stage place k → (place < a.place) ⊎ ((place ≡ a.place) × ((k ≤ slot) ⊎ (slots ≤ k))))
      → IsQuietSweep (switched_at c.cells «from» slot) slots w s (stronger_walk g to stage)
  stronger-quiet stage apart ways =
      let q = h.quiet in
      let exact = h.sound.consistent.exact in
      let graph = turn-graph c.cells «from» slot exact fits.live fits.within in
      record {
        zero = λ x m n. turn-zero c.cells «from» slot exact fits.live fits.within x (left-stored h x m) (λ e. n (subst (λ y. Contains (g.green ++ to ∷ []) y) (sym fits.target ∙ e) (Contains-push g.green to)))
            (q.zero x m (λ o. n (Contains-append_left g.green (to ∷ []) x o)));
        none_out = λ x k m n st. absurd (stronger-none_out x k m n st);
        green = λ x m. ⊎_elim (λ o. stronger-held_still stage x o) (λ e. subst (λ y. IsHeldStrongly (switched_at c.cells «from» slot) (stronger_walk g to stage) y) e (stronger-held_now stage)) (Contains-push_cases g.green to x m);
        seeds = λ x m. other-kept graph w.list x (q.seeds x m);
        copied = copied-kept graph g (g.green ++ to ∷ []) stage None slots q.copied;
        current = q.current;
        walked = λ place k l _. stronger-walked stage ways place k l;
        at_seed = λ e. absurd (apart e);
        in_hand = λ _ x xs e. Contains-append_left g.green (to ∷ []) x (q.in_hand (λ z. let never : AtOut a.place slot ≡ AtSeed = sym a.stage ∙ z in cc) x xs e);
        led = λ x m. led-kept graph g (g.green ++ to ∷ []) stage None (λ y o. Contains-append_left g.green (to ∷ []) y o) (q.led x m);
        parted = q.parted;
        sweeping = λ n. absurd (n h.over);
      }

  -- the walk is after the pointer
  moved-quiet : IsQuietSweep (switched_at c.cells «from» slot) slots w s (moved (greened g to) a.place slot)
  moved-quiet = by (slot + 1 == g.slots) refl
    where
      same : g.slots ≡ slots
      same = h.greens.green_slots

      by : (last : Bool) → (slot + 1 == g.slots) ≡ last → IsQuietSweep (switched_at c.cells «from» slot) slots w s (stronger_walk g to (if last then AtOut (a.place + 1) 0 else AtOut a.place (slot + 1)))
      by true e = stronger-quiet (AtOut (a.place + 1) 0) (λ z. cc) (λ place k l.
          let last = eqb-true (slot + 1) g.slots e in
          let all = h.greens.green_slots in
          ⊎_elim
          (λ less. ⊎_elim (λ z. inr (z, ⊎_elim (λ past. inr (omega (arith, past, last, all))) (λ within. inl within) (cases_lt slot k))) (λ n. inl (omega (arith, less, n))) (cases_eq place a.place))
          (λ (none : (place ≡ a.place + 1) × (k < 0)). let n = none.1 in absurd (omega (arith, n)))
          l)
      by false e = stronger-quiet (AtOut a.place (slot + 1)) (λ z. cc) (λ place k l.
          ⊎_elim (λ less. inl less) (λ (here : (place ≡ a.place) × (k < slot + 1)). let n = here.1 in inr (here.0, inl (omega (arith, n)))) l)

pub quiet-strengthen : (slots : ℕ) (c d : Core) (w : Walk) (s : Sweep) (slot «from» k to : ℕ) (g : Greening)
    → IsQuietEvent slots c d (Sweeping w s slot g) (Sweeping w s slot (found_by_green g (Made to))) act.Change (Some (logs.Strengthen «from» k to)) → IsQuietRound slots c.cells (Sweeping w s slot g)
    → IsQuietRound slots d.cells (Sweeping w s slot (found_by_green g (Made to))) × NoneJoins act.Change c.queue d.queue
quiet-strengthen slots c d w s slot «from» k to g e q =
    let asked = asked-green slot g (next_of_sweep s) (at.Strengthen «from» k to) tt (asks e.proceeds) in
    let a = at-strengthen g «from» k to asked.1.1 e.in_step.greens.greening asked.1.0 asked.1.2 asked.1.3 in
    let cells : d.cells ≡ switched_at c.cells «from» k = ap (λ (x : Core). x.cells) e.after in
    let does : Strengthens c «from» to d.queue d.round = e.collects in (
      subst (λ cells. IsQuietSweep cells slots w s (found_by_green g (Made to))) (sym cells)
          (subst (λ x. IsQuietSweep (switched_at c.cells «from» k) slots w s x) (sym a.found) (moved-quiet (quiet-green e q asked.0) «from» k to a e.fits.0 e.fits.1)),
      queue-stays does.greens.queue_is,
    )
