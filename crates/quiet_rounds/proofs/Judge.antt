-- The verdict of a quiet round.
use Rattle.std.proofs.Common.{◌≡◌, ◌≢◌, ℕ, ◌+◌, ◌<◌, true, false, List, [], ◌∷◌, length, map, get_or, refl, sym, ap, ◌∙◌, subst, Option, Some, None, arith, ◌⊎◌, inl, inr, ⊎_elim, true≢false}
use Rattle.std.specs.Prelude.{Contains}
use Rattle.std.specs.Option.{option_map_or, unwrap_or}
use Rattle.std.proofs.lemmas.Bool.{cases_lt}
use Rattle.std.proofs.lemmas.List.{get_or_default, get_or_past, length-map}
use Rattle.plain_model.specs.Graphs.{root}
use Rattle.cell_model.specs.Cells.{Pointer, null, cell_at, pointer_at, is_live}
use Rattle.store_model.specs.Core.{Copy, Ref, Round, Core, is_named}
use Rattle.store_model.specs.Sound.{IsSound, in_round}
use Rattle.store_model.specs.Verdict.{IsSeed, was_touched, is_locked, has_name, has_other, IsLive, seed, from_live, IsCondemned}
use Rattle.store_model.proofs.Lists.{Contains-here}
use Rattle.store_model.proofs.DeletionLaws.{target-map}
use Rattle.store_model.proofs.OnceLaws.{nothing-in}
use Rattle.store_model.proofs.StepLaws.{Contains-cons}
use Rattle.store_model.proofs.VerdictLaws.{distinct_from}
use Rattle.red_walk.specs.Walk.{Walk}
use Rattle.red_walk.specs.Rounds.{round_of as walked}
use Rattle.green_walk.specs.Judged.{Judged, Picks, none, takes, passes}
use Rattle.green_walk.specs.Sweeping.{started}
use Rattle.green_walk.specs.Greening.{are_none, started as green_started}
use Rattle.green_walk.proofs.PicksLaws.{picks-from, picks-all}
use Rattle.green_walk.proofs.ReachLaws.{copied-in}
use Rattle.core_store.specs.declared.act.Act.TheVariants as act
use Rattle.core_store.specs.Changes.{is_counted_strong}
use Rattle.core_store.specs.Collects.{Judges}
use Rattle.core_store.specs.RoundView.{Walking, Sweeping, IsWalking}
use Rattle.quiet_rounds.specs.Quiet.{NoneActive, IsQuietWalk, HasOther, IsLedTo, from_seed, over, AreCopied, IsQuietSweep, IsQuietRound}
use Rattle.quiet_rounds.specs.Laws.{IsQuietEvent, NoneJoins}
use Rattle.quiet_rounds.proofs.Pointers.{other-pointer}
use Rattle.core_store.proofs.Copies.{copy-of, copied-tells, copied-has}

-- ---- lists

-- each member has the property, or doesn't
decided : {P : ℕ → Type 0} {xs ys : List ℕ} → Picks P xs ys → (x : ℕ) → Contains xs x → P x ⊎ (P x → ⊥)
decided none x m = nothing-in x m
decided {P} (takes id ids chosen p k) x m = ⊎_elim (λ (e : id ≡ x). inl (subst P e p)) (λ (l : Contains ids x). decided k x l) (Contains-cons id ids x m)
decided {P} (passes id ids chosen n k) x m = ⊎_elim (λ (e : id ≡ x). inr (λ p. n (subst P (sym e) p))) (λ (l : Contains ids x). decided k x l) (Contains-cons id ids x m)

-- a name is one of the references
pub named-by : (refs : List Ref) (id : ℕ) → is_named refs id ≡ true → (r : Ref) × Contains refs r
named-by [] id h = absurd (cc)
named-by (r ∷ rs) id h = (r, Contains-here r rs)

-- ---- a walk over which no client is active, all of whose objects were copied

module _ (slots : ℕ) (c : Core) (w : Walk) (j : Judged) (s : IsSound c) (slots_are : c.moment.state.slots ≡ slots) (quiet : NoneActive c) (there : c.round ≡ Some (walked w)) (k : IsWalking slots c.moment.state.ids w) (q : IsQuietWalk slots c.cells w)
    (all : map (λ e. e.0) w.copies ≡ w.list) (seeds : Picks (IsSeed c (walked w)) w.left j.seeds) (live : Picks (IsLive c (walked w)) w.left j.live) where
  in_the_round : in_round c ≡ w.list
  in_the_round = ap (λ (r : Option Round). option_map_or (λ (r : Round). r.list) r []) there ∙ k.whole

  listed : {id : ℕ} → Contains w.left id → Contains w.list id
  listed {id} m = subst (λ l. Contains l id) k.whole m

  left : {id : ℕ} → Contains w.list id → Contains w.left id
  left {id} m = subst (λ l. Contains l id) (sym k.whole) m

  lives : (id : ℕ) → Contains w.list id → (is_live c.cells id ≡ true) × (id ≢ root)
  lives id m = s.round_live id (subst (λ l. Contains l id) (sym in_the_round) m)

  -- a seed has a pointer to it from elsewhere
  other : (id : ℕ) → Contains w.list id → IsSeed c (walked w) id → HasOther c.cells w.list id
  other id m (was_touched t) = nothing-in id (subst (λ l. Contains l id) q.untouched t)
  other id m (is_locked e a h) = nothing-in e (subst (λ l. Contains l e) quiet a)
  other id m (has_name n) =
      let by = named-by c.refs id n in
      let a = s.refs_active by.0 by.1 in
      nothing-in (by.0.pass, a.0) (subst (λ l. Contains l (by.0.pass, a.0)) quiet a.1)
  other id m (has_other copy e l) =
      let is = ap (λ (y : Copy). y.strong + y.weak) (q.copies id copy e) in
      other-pointer c.cells s.consistent.exact w.copies w.list (distinct_from w.list k.walk.ids.once) all (λ v n. (lives v n).0) (copied-in w all) q.copies id (lives id m).0 (lives id m).1 (omega (arith, is, l))

  -- all slots of each object were looked at
  none-strong : (id slot : ℕ) → Contains w.list id → is_counted_strong c.cells (pointer_at c.cells id slot) ≡ false
  none-strong id slot m =
      ⊎_elim
      (λ l. subst (λ v. is_counted_strong c.cells (pointer_at c.cells v slot) ≡ false) (get_or_default w.list m.0 0 id m.1 ∙ m.2) (q.walked m.0 before m.1 slot l))
      (λ l. ap (λ (p : Pointer). is_counted_strong c.cells p) (get_or_past (cell_at c.cells id).pointers slot null (let n = s.consistent.slotted id (lives id m).0 in omega (arith, l, n, slots_are))))
      (cases_lt slot slots)
    where
      before : m.0 < w.place
      before = ⊎_elim
          (λ l.
          let z = ap length (k.walk.quiet l) in
          let n = length-map w.copies (λ (e : ℕ × Copy). e.0) in
          let a = ap length all in
          let i = m.1 in absurd (omega (arith, z, n, a, i)))
          (λ l. let i = m.1 in omega (arith, l, i))
          (cases_lt w.place (length w.list))

  -- the slots of a copy are the cell's
  copied-target : (id : ℕ) (copy : Copy) → Contains w.copies (id, copy) → (slot : ℕ) → get_or copy.targets slot 0 ≡ (pointer_at c.cells id slot).target
  copied-target id copy m slot = ap (λ (y : Copy). get_or y.targets slot 0) (q.copies id copy m) ∙ target-map (cell_at c.cells id).pointers slot

  copied-length : (id : ℕ) (copy : Copy) → Contains w.copies (id, copy) → length copy.targets ≡ slots
  copied-length id copy m = ap (λ (y : Copy). length y.targets) (q.copies id copy m) ∙ length-map (cell_at c.cells id).pointers (λ (p : Pointer). p.target) ∙ s.consistent.slotted id (lives id (copied-in w all id copy m)).0 ∙ slots_are

  copied-slots : AreCopied slots c.cells (green_started slots j w)
  copied-slots = record {
    tell = λ x m l. let h = copied-tells w.copies x m in sym (copied-target x.id h.0 h.1 x.slot) ∙ h.3;
    all = λ id slot m l.
        let e = copy-of w.copies id (subst (λ l. Contains l id) (sym all) (listed (picks-from (IsLive c (walked w)) live id m).0)) in
        copied-has w.copies id e.0 e.1 slot (let n = copied-length id e.0 e.1 in omega (arith, l, n));
  }

  -- what lives is a seed, or a pointer leads to it from what lives
  led-to : {id : ℕ} → Contains w.left id → IsLive c (walked w) id → IsLedTo c.cells (green_started slots j w) id
  led-to m (seed id x) = from_seed id (picks-all (IsSeed c (walked w)) seeds id m x)
  led-to m (from_live id to copy l e t) =
      let is : (pointer_at c.cells id t.0).target ≡ to = sym (copied-target id copy e t.0) ∙ (get_or_default copy.targets t.0 0 to t.1 ∙ t.2) in
      subst (λ x. IsLedTo c.cells (green_started slots j w) x) is
      (over id t.0 (led-to (left (copied-in w all id copy e)) l) (subst (λ x. Contains j.live x) (sym is) (picks-all (IsLive c (walked w)) live to m (from_live id to copy l e t))))

  pub judged-quiet : ((id : ℕ) → Contains w.left id → (IsLive c (walked w) id → ⊥) → Contains j.condemned id) → IsQuietSweep c.cells slots w (started j.condemned c.moment.state.ids) (green_started slots j w)
  judged-quiet condemned = record {
    zero = λ id m n. q.zero id (listed m);
    none_out = λ id slot m n h. absurd (true≢false (sym h ∙ none-strong id slot (listed m)));
    green = λ id m. nothing-in id m;
    seeds = λ id m. let h = picks-from (IsSeed c (walked w)) seeds id m in other id (listed h.0) h.1;
    copied = copied-slots;
    current = (ap are_none q.untouched, refl);
    walked = λ place slot b l. absurd (omega (arith, l));
    at_seed = λ e. refl;
    in_hand = λ n. absurd (n refl);
    led = λ id m. let h = picks-from (IsLive c (walked w)) live id m in led-to h.0 h.1;
    parted = λ id m. ⊎_elim (λ l. inr (picks-all (IsLive c (walked w)) live id m l)) (λ n. inl (condemned id m n)) (decided live id m);
    sweeping = λ n. (refl, refl);
  }

-- ---- the event

some-same : {X : Type 0} (x y : X) → Some x ≡ Some y → x ≡ y
some-same x y e = ap (λ o. unwrap_or o x) e

pub quiet-judge : (slots : ℕ) (c d : Core) (w : Walk) (j : Judged) → IsQuietEvent slots c d (Walking w) (Sweeping w (started j.condemned c.moment.state.ids) 0 (green_started slots j w)) act.Judge None → IsQuietRound slots c.cells (Walking w)
    → IsQuietRound slots d.cells (Sweeping w (started j.condemned c.moment.state.ids) 0 (green_started slots j w)) × NoneJoins act.Judge c.queue d.queue
quiet-judge slots c d w j h q =
    let v = Sweeping w (started j.condemned c.moment.state.ids) 0 (green_started slots j w) in
    let there : c.round ≡ Some (walked w) = sym h.before in
    let k = h.in_step in
    let judges : Judges c d.queue d.round = h.collects in
    let of_is : judges.of ≡ walked w = some-same judges.of (walked w) (sym judges.there ∙ there) in
    let all : map (λ e. e.0) w.copies ≡ w.list = subst (λ (r : Round). map (λ e. e.0) r.copies ≡ r.list) of_is judges.all ∙ k.whole in
    let exact : Picks (IsCondemned c (walked w)) w.left judges.condemned = subst (λ (r : Round). Picks (IsCondemned c r) r.list judges.condemned) of_is judges.exact in
    let condemned_are : judges.condemned ≡ j.condemned =
    ap (λ (r : Option Round). option_map_or (λ (r : Round). r.condemned) r []) (sym judges.round_is ∙ sym h.behind) in
    let picks = h.begins refl (walked w) there in (
      subst (λ cells. IsQuietRound slots cells v) (ap (λ (x : Core). x.cells) (sym h.after))
          (judged-quiet slots c w j h.sound h.slots_are h.quiet there k q all picks.0 picks.1
          (λ id m n. subst (λ l. Contains l id) condemned_are (picks-all (IsCondemned c (walked w)) exact id m (m, n)))),
      record {
        fewer = λ id m. subst (λ l. Contains l id) judges.queue_is m;
        shorter = (let e = ap length judges.queue_is in omega (arith, e));
      },
    )
