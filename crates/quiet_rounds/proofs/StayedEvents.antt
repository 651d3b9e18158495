-- What each event of a quiet round leaves as it was.
use Rattle.std.proofs.Common.{◌≡◌, ◌≢◌, ℕ, Bool, true, false, List, [], map, Option, Some, None, refl, sym, ap, ◌∙◌, subst, inr, ⊎_elim, true≢false}
use Rattle.std.specs.Prelude.{Contains}
use Rattle.std.specs.Option.{option_map_or, unwrap_or}
use Rattle.cell_model.specs.Cells.{Cell, null, blank_cell, pointer_at, is_live, object_of, edit, relinked, other_strength, flipped, IsExact}
use Rattle.store_model.specs.Core.{Core, Round}
use Rattle.store_model.specs.Sound.{HasNoReason, IsOnce}
use Rattle.store_model.specs.Verdict.{IsCondemned}
use Rattle.store_model.proofs.CollectLaws.{strength-objects, flip-objects}
use Rattle.cell_model.proofs.CountLaws.{relinked-live}
use Rattle.cell_model.proofs.EditLaws.{live-there, live-within, edit-here, edit-other}
use Rattle.cell_model.proofs.FlipLaws.{flip-live}
use Rattle.store_model.proofs.OnceLaws.{nothing-in}
use Rattle.store_model.proofs.StepLaws.{relinked-object_other}
use Rattle.store_model.proofs.VerdictLaws.{verdict}
use Rattle.red_walk.specs.Walk.{Walk, removed}
use Rattle.red_walk.specs.Rounds.{round_of as walked}
use Rattle.green_walk.specs.declared.sweep.SweepAt.{SweepAt}
use Rattle.green_walk.specs.declared.sweep.SweepAt.TheVariants as sweep
use Rattle.green_walk.specs.declared.sweep.Found.TheVariants.{Made}
use Rattle.green_walk.specs.Sweeping.{SweepState as Sweep, next as next_of_sweep, found, found_at, unfreed, started}
use Rattle.green_walk.specs.Greening.{Greening, started as green_started}
use Rattle.green_walk.specs.Judged.{Judged, Picks}
use Rattle.green_walk.proofs.GreenAsked.{Contains-drop}
use Rattle.green_walk.proofs.PicksLaws.{picks-from}
use Rattle.green_walk.proofs.SweepLaws.{free-law}
use Rattle.log_record.specs.declared.cell_record.CellRecord.{CellRecord}
use Rattle.log_record.specs.declared.cell_record.CellRecord.TheVariants as logs
use Rattle.core_store.specs.declared.act.Act.{Act}
use Rattle.core_store.specs.declared.act.Act.TheVariants as act
use Rattle.core_store.specs.Logged.{after_logged}
use Rattle.core_store.specs.Collects.{Judges, Cuts}
use Rattle.core_store.specs.RoundView.{RoundView, Walking, Sweeping, is_closed, next_slot, Proceeds, skip, start, weaken, scan, judge, cut, free, flip, into, strengthen, end, IsWalking, IsSweeping}
use Rattle.quiet_rounds.specs.Quiet.{IsLedTo, from_seed, from_green, over, IsQuietWalk, IsQuietSweep, IsQuietRound}
use Rattle.quiet_rounds.specs.Laws.{IsQuietEvent}
use Rattle.quiet_rounds.proofs.Judge.{quiet-judge}
use Rattle.quiet_rounds.proofs.Stayed.{IsSameAt, same-then, same-back, IsLedFrom, out_of, onwards, led-live, led-same, IsStayed, HasStayed, stayed-next}

-- ---- the verdict

some-same : {X : Type 0} (x y : X) → Some x ≡ Some y → x ≡ y
some-same x y e = ap (λ o. unwrap_or o x) e

-- what has no reason to live isn't led to from outside
led-reason : (c : Core) (list : List ℕ) (D : ℕ → Type 0) → IsExact c.cells → HasNoReason c D → ((id : ℕ) → D id → Contains list id) → {id : ℕ} → IsLedFrom c.cells list id → D id → ⊥
led-reason c list D e n among (out_of u slot l out t) d = out (among u (n.within u slot l d))
led-reason c list D e n among (onwards id slot l t) d = led-reason c list D e n among l (n.within id slot (led-live c.cells list e l) d)

-- what the green walk begins with is led to from outside
led-begun : (slots : ℕ) (cells : List Cell) (w : Walk) (s : Sweep) (g : Greening) → IsQuietSweep cells slots w s g → g.green ≡ [] → ((id : ℕ) → Contains g.live id → id ≢ 0) → ((id : ℕ) → Contains g.seeds id → Contains g.live id) → {id : ℕ} → IsLedTo cells g id
    → IsLedFrom cells w.list id
led-begun slots cells w s g q none there seeds (from_seed id m) =
    let o = q.seeds id m in
    subst (λ x. IsLedFrom cells w.list x) o.4 (out_of o.0 o.1 o.2 o.3 (λ z. there id (seeds id m) (sym o.4 ∙ z)))
led-begun slots cells w s g q none there seeds (from_green id m) = absurd (nothing-in id (subst (λ (xs : List ℕ). Contains xs id) none m))
led-begun slots cells w s g q none there seeds (over id slot l m) = onwards id slot (led-begun slots cells w s g q none there seeds l) (there _ m)

module _ (slots : ℕ) (first : List Cell) (c d : Core) (w : Walk) (j : Judged) (e : IsQuietEvent slots c d (Walking w) (Sweeping w (started j.condemned c.moment.state.ids) 0 (green_started slots j w)) act.Judge None) (q : IsQuietWalk slots c.cells w)
    (h : (id : ℕ) → IsSameAt first c.cells id) where
  there : c.round ≡ Some (walked w)
  there = sym e.before

  walking : IsWalking slots c.moment.state.ids w
  walking = e.in_step

  judges : Judges c d.queue d.round
  judges = e.collects

  of_is : judges.of ≡ walked w
  of_is = some-same judges.of (walked w) (sym judges.there ∙ there)

  all : map (λ e. e.0) w.copies ≡ w.left
  all = subst (λ (r : Round). map (λ e. e.0) r.copies ≡ r.list) of_is judges.all

  exact : Picks (IsCondemned c (walked w)) w.left judges.condemned
  exact = subst (λ (r : Round). Picks (IsCondemned c r) r.list judges.condemned) of_is judges.exact

  condemned_are : judges.condemned ≡ j.condemned
  condemned_are = ap (λ (r : Option Round). option_map_or (λ (r : Round). r.condemned) r []) (sym judges.round_is ∙ sym e.behind)

  lives : (id : ℕ) → Contains w.left id → (is_live c.cells id ≡ true) × (id ≢ 1)
  lives id m = e.sound.round_live id (subst (λ (r : Option Round). Contains (option_map_or (λ (r : Round). r.list) r []) id) (sym there) m)

  listed : (id : ℕ) → Contains w.left id → Contains w.list id
  listed id m = subst (λ (l : List ℕ). Contains l id) walking.whole m

  no_reason : HasNoReason c (IsCondemned c (walked w))
  no_reason = verdict c (walked w) e.sound.consistent.exact (record {
    all = all;
    current = λ id copy m. inr (q.copies id copy m);
    once = subst IsOnce (sym walking.whole) walking.walk.ids.once;
    live = lives;
  })

  chosen : (id : ℕ) → Contains j.condemned id → IsCondemned c (walked w) id
  chosen id m = (picks-from (IsCondemned c (walked w)) exact id (subst (λ (l : List ℕ). Contains l id) (sym condemned_are) m)).1

  same_cells : d.cells ≡ c.cells
  same_cells = ap (λ (x : Core). x.cells) e.after

  begun : IsQuietSweep c.cells slots w (started j.condemned c.moment.state.ids) (green_started slots j w)
  begun = subst (λ (cells : List Cell). IsQuietSweep cells slots w (started j.condemned c.moment.state.ids) (green_started slots j w)) same_cells (quiet-judge slots c d w j e q).0

  behind : IsSweeping slots c.moment.state.ids w (started j.condemned c.moment.state.ids) 0 (green_started slots j w)
  behind = e.in_step_behind

  stays-led : (id : ℕ) → Contains j.live id → IsLedFrom c.cells w.list id
  stays-led id m =
      led-begun slots c.cells w (started j.condemned c.moment.state.ids) (green_started slots j w) begun refl
      (λ x n. live-there c.cells x e.sound.consistent.exact.none (lives x (behind.greens.left x n)).0) behind.greens.greening.seeds_live (begun.led id m)

  judged-stays : IsStayed first c.cells w.list j.condemned j.condemned
  judged-stays = record {
    chosen_are = λ id m.
        (let d = chosen id m in
        (listed id d.0, λ l. led-reason c w.list (IsCondemned c (walked w)) e.sound.consistent.exact no_reason (λ x r. listed x r.0) (led-same first c.cells w.list h l) d));
    all_chosen = λ id m n.
        ⊎_elim (λ k. k) (λ l. absurd (n (led-same c.cells first w.list (same-back h) (stays-led id l))))
        (begun.parted id (subst (λ (l : List ℕ). Contains l id) (sym walking.whole) m));
    spared = λ id n. h id;
    gone = λ id m l. m;
    fewer = λ id l. sym (h id).live ∙ l;
  }

-- ---- events that change strengths alone

switched-same : (cells : List Cell) (id slot x : ℕ) → IsSameAt cells (relinked cells id slot (other_strength (pointer_at cells id slot))) x
switched-same cells id slot x = record { live = relinked-live cells id slot (other_strength (pointer_at cells id slot)) x; object = strength-objects cells id slot x }

flipped-same : (cells : List Cell) (id : ℕ) → IsExact cells → is_live cells id ≡ true → (x : ℕ) → IsSameAt cells (edit cells id (flipped id)) x
flipped-same cells id e l x = record { live = flip-live cells id e l x; object = flip-objects cells id x }

stayed-same : (first cells new : List Cell) (list chosen waiting : List ℕ) → ((id : ℕ) → IsSameAt cells new id) → IsStayed first cells list chosen waiting → IsStayed first new list chosen waiting
stayed-same first cells new list some waiting same h = record {
  chosen_are = h.chosen_are;
  all_chosen = h.all_chosen;
  spared = λ id n. same-then (h.spared id n) (same id);
  gone = λ id m l. h.gone id m (sym (same id).live ∙ l);
  fewer = λ id l. h.fewer id (sym (same id).live ∙ l);
}

-- ---- events of the sweep

cut-stays : (slots : ℕ) (first : List Cell) (c d : Core) (w : Walk) (s : Sweep) (slot id target : ℕ) (strong : Bool) (g : Greening) → next_of_sweep s ≡ sweep.Slots id
    → IsQuietEvent slots c d (Sweeping w s slot g) (next_slot slots w s slot g) act.Change (Some (logs.CutDead id slot target strong)) → IsStayed first c.cells w.list s.list (unfreed s)
    → HasStayed first (relinked c.cells id slot null) (next_slot slots w s slot g)
cut-stays slots first c d w s slot id target strong g at e h =
    let k : Cuts slots c id slot target strong d.queue d.round = e.collects in
    let round : Some k.of ≡ Some (record (walked w) { judged = true; condemned = unfreed s }) = sym k.there ∙ sym e.before in
    let chosen : Contains (unfreed s) id = subst (λ (o : Option Round). Contains (option_map_or (λ (r : Round). r.condemned) o []) id) round k.condemned in
    let among : Contains s.list id = Contains-drop s.freed s.list id chosen in
    let new = relinked c.cells id slot null in
    let live : (x : ℕ) → is_live new x ≡ is_live c.cells x = relinked-live c.cells id slot null in
    stayed-next slots first new w s slot id g at (record {
      chosen_are = h.chosen_are;
      all_chosen = h.all_chosen;
      spared = λ x n. same-then (h.spared x n) (record { live = live x; object = relinked-object_other c.cells id slot null x (λ z. n (subst (λ y. Contains s.list y) (sym z) among)) });
      gone = λ x m l. h.gone x m (sym (live x) ∙ l);
      fewer = λ x l. h.fewer x (sym (live x) ∙ l);
    })

free-stays : (slots : ℕ) (first : List Cell) (c d : Core) (w : Walk) (s : Sweep) (slot id : ℕ) (g : Greening) → next_of_sweep s ≡ sweep.Free id
    → IsQuietEvent slots c d (Sweeping w s slot g) (Sweeping (removed w id) (found s (Made id)) slot g) act.Change (Some (logs.Free id)) → IsStayed first c.cells w.list s.list (unfreed s)
    → IsStayed first (edit c.cells id (λ _. blank_cell false slots)) w.list (found s (Made id)).list (unfreed (found s (Made id)))
free-stays slots first c d w s slot id g at e h =
    let k : IsSweeping slots c.moment.state.ids w s slot g = e.in_step in
    let law = free-law s id k.sweep at in
    let among : Contains s.list id = Contains-drop s.freed s.list id law.0 in
    let blank : Cell → Cell = λ _. blank_cell false slots in
    let new = edit c.cells id blank in
    let list_same : (found s (Made id)).list ≡ s.list = ap (λ (n : SweepAt). (found_at s n (Made id)).list) at in
    let was_live : is_live c.cells id ≡ true = e.fits.0 in
    let now : is_live new id ≡ false = ap (λ (y : Cell). y.live) (edit-here c.cells id blank (live-there c.cells id e.sound.consistent.exact.none was_live) (live-within c.cells id was_live)) in
    let others : (x : ℕ) → x ≢ id → IsSameAt c.cells new x = λ x n. let same = edit-other c.cells id x blank n in record { live = ap (λ (y : Cell). y.live) same; object = ap (object_of x) same } in
    let apart : (x : ℕ) → is_live new x ≡ true → x ≢ id = λ x l z. true≢false (sym l ∙ ap (is_live new) z ∙ now) in
    subst (λ (l : List ℕ). IsStayed first new w.list l (unfreed (found s (Made id)))) (sym list_same) (record {
      chosen_are = h.chosen_are;
      all_chosen = h.all_chosen;
      spared = λ x n. same-then (h.spared x n) (others x (λ z. n (subst (λ y. Contains s.list y) (sym z) among)));
      gone = λ x m l. law.2.rest x (h.gone x m (sym (others x (apart x l)).live ∙ l)) (apart x l);
      fewer = λ x l. h.fewer x (sym (others x (apart x l)).live ∙ l);
    })

-- ---- all events

by-event : (slots : ℕ) (first : List Cell) (c d : Core) (u v : RoundView) (event : Act) (logged : Option CellRecord) → Proceeds slots c.moment.state.ids u event logged v → IsQuietEvent slots c d u v event logged → IsQuietRound slots c.cells u → HasStayed first c.cells u
    → is_closed v ≡ false → HasStayed first (after_logged slots c.cells logged) v
by-event slots first c d u v event logged (skip id) e q h o = absurd h
by-event slots first c d u v event logged (start id) e q h o = absurd h
by-event slots first c d u v event logged (weaken w id slot target joins at) e q h o = λ x. same-then (h x) (switched-same c.cells id slot x)
by-event slots first c d u v event logged (scan w id copy at) e q h o = h
by-event slots first c d u v event logged (judge w j at) e q h o = judged-stays slots first c d w j e q h
by-event slots first c d u v event logged (cut w s slot id target strong g at) e q h o = cut-stays slots first c d w s slot id target strong g at e h
by-event slots first c d u v event logged (free w s slot id g at) e q h o = free-stays slots first c d w s slot id g at e h
by-event slots first c d u v event logged (flip w s slot id g at) e q h o =
    stayed-same first c.cells (edit c.cells id (flipped id)) w.list s.list (unfreed s) (flipped-same c.cells id e.sound.consistent.exact e.fits.0) h
by-event slots first c d u v event logged (into w s slot «from» k to g at) e q h o =
    stayed-same first c.cells (relinked c.cells «from» k (other_strength (pointer_at c.cells «from» k))) w.list s.list (unfreed s) (switched-same c.cells «from» k) h
by-event slots first c d u v event logged (strengthen w s slot «from» k to g at) e q h o =
    stayed-same first c.cells (relinked c.cells «from» k (other_strength (pointer_at c.cells «from» k))) w.list s.list (unfreed s) (switched-same c.cells «from» k) h
by-event slots first c d u v event logged (end w s slot g at) e q h o = absurd (true≢false o)

pub event-stays : (slots : ℕ) (first : List Cell) (c d : Core) (u v : RoundView) (event : Act) (logged : Option CellRecord) → IsQuietEvent slots c d u v event logged → IsQuietRound slots c.cells u → HasStayed first c.cells u → is_closed v ≡ false → HasStayed first d.cells v
event-stays slots first c d u v event logged e q h o =
    subst (λ (cells : List Cell). HasStayed first cells v) (sym (ap (λ (x : Core). x.cells) e.after)) (by-event slots first c d u v event logged e.proceeds e q h o)
