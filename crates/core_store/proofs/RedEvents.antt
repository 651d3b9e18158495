-- What the events of a journal leave of the red walk.
use Rattle.std.proofs.Common.{◌≡◌, ℕ, ◌+◌, ◌<◌, List, [], ◌∷◌, ◌++◌, Bool, true, false, not, inl, ⊎_elim, refl, sym, ap, ◌∙◌, subst, Option, Some, None, arith}
use Rattle.std.specs.Prelude.{◌==◌, ◌&&◌, if◌then◌else◌, slice_index, Contains, IfSome, unwrap_or}
use Rattle.std.specs.Option.{option_map_or}
use Rattle.std.proofs.lemmas.List.{get_or_default}
use Rattle.plain_model.specs.Graphs.{root}
use Rattle.cell_model.specs.Cells.{Cell, cell_at, is_live}
use Rattle.cell_model.specs.Consistent.{AreConsistent}
use Rattle.store_model.specs.Core.{Core, Round}
use Rattle.store_model.specs.Steps.{with_listed}
use Rattle.red_walk.specs.declared.red_at.RedAt.TheVariants as red
use Rattle.red_walk.specs.Walk.{Walk, next, moved, joined_by}
use Rattle.red_walk.specs.Rounds.{round_of as walked}
use Rattle.red_walk.proofs.WalkLaws.{look-at, copy-place}
use Rattle.ref_tables.specs.Queue.{has}
use Rattle.green_walk.specs.Sweeping.{found}
use Rattle.green_walk.specs.declared.sweep.Found.TheVariants.{Nothing}
use Rattle.log_record.specs.declared.cell_record.CellRecord.{CellRecord}
use Rattle.log_record.specs.declared.cell_record.CellRecord.TheVariants as logs
use Rattle.log_record.specs.Records.{FitsCells, after_cell_record}
use Rattle.core_store.specs.declared.act.Act.{Act}
use Rattle.core_store.specs.declared.act.Act.TheVariants as act
use Rattle.core_store.specs.declared.three.HeldFrame.{HeldFrame}
use Rattle.core_store.specs.Changes.{has_no_strong}
use Rattle.core_store.specs.Collecting.{Collected}
use Rattle.core_store.specs.Collects.{is_let_go, Weakens, WeakensInto, entry_of}
use Rattle.core_store.specs.Logged.{after_logged}
use Rattle.core_store.specs.RedWalks.{RedWalk, joins, with_record, walk_after, IsOver, is_first_copy}
use Rattle.core_store.specs.RedCursor.{IsRedWalk}
use Rattle.core_store.specs.RoundView.{RoundView, Closed, Walking, Sweeping, round_of, IsWalking, IsInStep, touched_by_record, Proceeds, skip, start, weaken, scan, judge, cut, free, flip, into, strengthen, end}
use Rattle.core_store.specs.Stands.{Stands}
use Rattle.core_store.specs.Tables.{TablesView}
use Rattle.core_store.proofs.RedStrengths.{IsByClient, IsStrong, weak-here, weak-before}
use Rattle.core_store.proofs.RedCursors.{behind-next, none-past, red-touched, red-recorded}

-- where the walk goes on, its objects are those of the round, and so they are live
pub walk-live : (slots : ℕ) (v : TablesView) (c : Core) (r : RedWalk) → Stands slots v c → IsRedWalk c.cells r v.round → r.going ≡ true → (id : ℕ) → Contains r.list id → is_live c.cells id ≡ true
walk-live slots v c r h k go id m = by v.round refl k
  where
    by : (p : RoundView) → v.round ≡ p → IsRedWalk c.cells r p → is_live c.cells id ≡ true
    by Closed e k = absurd (cc)
    by (Sweeping w s slot g) e k = absurd (cc)
    by (Walking w) e k =
        let walking : IsWalking slots v.ids w = subst (λ (p : RoundView). IsInStep slots v.ids p) e h.in_step in
        let listed : Contains w.left id = subst (λ (xs : List ℕ). Contains xs id) ((k go).0 ∙ sym walking.whole) m in
        let there : c.round ≡ Some (walked w) = sym h.round ∙ ap round_of e in
        (h.sound.round_live id (subst (λ (o : Option Round). Contains (option_map_or (λ (x : Round). x.list) o []) id) (sym there) listed)).0

-- ---- a client's event

pub red-client : (slots : ℕ) (v w : TablesView) (c : Core) (r : RedWalk) (logged : Option CellRecord) → Stands slots v c → IfSome logged (FitsCells c.cells) → IfSome logged IsByClient → w.round ≡ touched_by_record v.round logged → IsRedWalk c.cells r v.round
    → IsRedWalk (after_logged slots c.cells logged) (with_record (after_logged slots c.cells logged) r logged) w.round
red-client slots v w c r None h f b e k = subst (IsRedWalk c.cells r) (sym e) k
red-client slots v w c r (Some x) h f b e k =
    let later = after_cell_record slots c.cells x in
    let new = with_record later r (Some x) in
    let consistent = subst (λ (n : ℕ). AreConsistent n c.moment.state.ids c.cells) h.slots_are h.sound.consistent in
    subst (IsRedWalk later new) (sym e) (red-touched later new (Rattle.core_store.specs.Touched.objects_touched (Some x)) v.round (red-recorded slots c.moment.state.ids c.cells consistent r x f b v.round k))

-- ---- an event of the collector

false-not : {X : Type 0} → false ≡ true → X
false-not e = absurd (cc)

-- a record that may join an object keeps all else
joined-going : (r : RedWalk) (id : ℕ) (b : Bool) → (if b then record r { list = r.list ++ id ∷ [] } else r).going ≡ r.going
joined-going r id true = refl
joined-going r id false = refl

joined-written : (r : RedWalk) (id : ℕ) (b : Bool) → (if b then record r { list = r.list ++ id ∷ [] } else r).written ≡ r.written
joined-written r id true = refl
joined-written r id false = refl

joined-list : (r : RedWalk) (of : Round) (id : ℕ) (b : Bool) → r.list ≡ of.list → (if b then record r { list = r.list ++ id ∷ [] } else r).list ≡ (if b then with_listed of id else of).list
joined-list r of id true e = ap (λ (xs : List ℕ). xs ++ id ∷ []) e
joined-list r of id false e = e

module _ (slots : ℕ) (v w : TablesView) (c : Core) (r : RedWalk) (held new : List (HeldFrame slots)) (h : Stands slots v c) where
  -- a pointer becomes weak, and its target may join
  weakened-red : (u : Walk) (id slot target : ℕ) (joining : Option ℕ) → next u ≡ red.Look id slot → v.round ≡ Walking u → w.round ≡ Walking (joined_by (moved slots u) joining) → (t : Collected slots v w c held new act.Change (Some (logs.Weaken id slot target)))
      → IsRedWalk c.cells r (Walking u) → IsRedWalk (after_cell_record slots c.cells (logs.Weaken id slot target)) (with_record (after_cell_record slots c.cells (logs.Weaken id slot target)) r (Some (logs.Weaken id slot target))) (Walking (joined_by (moved slots u) joining))
  weakened-red u id slot target joining look before after t k = λ go.
      let later = after_cell_record slots c.cells (logs.Weaken id slot target) in
      let b = joins later r target in
      let at = k (sym (joined-going r target b) ∙ go) in
      let walking : IsWalking slots v.ids u = subst (λ (p : RoundView). IsInStep slots v.ids p) before h.in_step in
      let there : c.round ≡ Some (walked u) = sym h.round ∙ ap round_of before in
      let consistent = subst (λ (n : ℕ). AreConsistent n c.moment.state.ids c.cells) h.slots_are h.sound.consistent in
      let listed : r.list ≡ u.left = at.0 ∙ sym walking.whole in
      let same : joins later r target ≡ is_let_go slots c (walked u) (logs.Weaken id slot target) target = ap (λ (xs : List ℕ). not (target == root) && (not (has xs target) && has_no_strong (cell_at later target))) listed in
      let now = joined_by (moved slots u) joining in
      let whole : now.left ≡ now.list = (subst (λ (p : RoundView). IsInStep slots w.ids p) after t.stands.in_step).whole in
      let round : Some (walked now) ≡ t.core.round = sym (ap round_of after) ∙ t.stands.round in
      let lists : now.left ≡ (if is_let_go slots c (walked u) (logs.Weaken id slot target) target then with_listed (walked u) target else walked u).list = ⊎_elim
      (λ (x : Weakens slots c id slot target t.core.queue t.core.round).
      let of_is : x.of ≡ walked u = ap (λ (o : Option Round). unwrap_or o x.of) (sym x.there ∙ there) in
      ap (λ (o : Option Round). option_map_or (λ (y : Round). y.list) o []) (round ∙ x.round_is)
      ∙ ap (λ (y : Round). (if is_let_go slots c y (logs.Weaken id slot target) target then with_listed y target else y).list) of_is)
      (λ (x : WeakensInto c id target t.core.queue t.core.round). absurd (
      let of_is : x.greens.of ≡ walked u = ap (λ (o : Option Round). unwrap_or o x.greens.of) (sym x.greens.there ∙ there) in
      let judged : true ≡ false = sym x.greens.behind ∙ ap (λ (y : Round). y.judged) of_is in
      cc))
      t.collects in
      let place = look-at u id slot look in
      let id_listed : Contains r.list id = subst (λ (xs : List ℕ). Contains xs id) (sym at.0) (u.place, place.0, get_or_default u.list u.place id 0 place.0 ∙ place.1) in
      let live = walk-live slots v c r h (subst (IsRedWalk c.cells r) (sym before) k) (sym (joined-going r target b) ∙ go) id id_listed in
      let fits = t.moves.fits in (
        joined-list r (walked u) target b listed ∙ ap (λ (d : Bool). (if d then with_listed (walked u) target else walked u).list) same ∙ sym lists ∙ whole,
        λ p n l i s. subst (λ (es : List (ℕ × ℕ)). Contains es (slice_index now.list p, n)) (sym (joined-written r target b))
            (behind-next slots later u joining id slot r.written look (weak-here slots c.moment.state.ids c.cells consistent id slot target fits)
            (λ m o y. none-past slots c.cells id (consistent.slotted id live) m o (weak-before slots c.moment.state.ids c.cells consistent id slot target fits id m y))
            (λ q m o j y. at.1 q m o j (weak-before slots c.moment.state.ids c.cells consistent id slot target fits (slice_index u.list q) m y)) p n i s),
      )

  pub red-collected : (a : Act) (logged : Option CellRecord) (left : ℕ) → (t : Collected slots v w c held new a logged) → IsRedWalk c.cells r v.round
      → IsRedWalk (after_logged slots c.cells logged) (walk_after (after_logged slots c.cells logged) r (record { entry = entry_of logged; logged = logged; left = left; act = a })) w.round
  red-collected a logged left t k = by v.round w.round a logged refl refl t t.proceeds k
    where
      by : (p q : RoundView) (a : Act) (logged : Option CellRecord) → v.round ≡ p → w.round ≡ q → (t : Collected slots v w c held new a logged) → Proceeds slots v.ids p a logged q → IsRedWalk c.cells r p
          → IsRedWalk (after_logged slots c.cells logged) (walk_after (after_logged slots c.cells logged) r (record { entry = entry_of logged; logged = logged; left = left; act = a })) q
      by _ _ _ _ d e t (skip id) k = k
      by _ _ _ _ d e t (start id) k = λ go. (refl, λ place n l i s. absurd (⊎_elim (λ (m : place < 0). omega (arith, m)) (λ (m : (place ≡ 0) × (n < 0)). let z = m.1 in omega (arith, z)) i))
      by _ _ _ _ d e t (weaken u id slot target joining look) k = weakened-red u id slot target joining look d e t k
      by _ _ _ _ d e t (scan u id copy look) k = λ go. false-not go
      by _ _ _ _ d e t (judge u j look) k = refl
      by _ _ _ _ d e t (cut u s slot id target strong g look) k = last (slot + 1 == slots)
        where
          later : List Cell
          later = after_cell_record slots c.cells (logs.CutDead id slot target strong)

          last : (b : Bool) → IsRedWalk later r (if b then Sweeping u (found s Nothing) 0 g else Sweeping u s (slot + 1) g)
          last true = k
          last false = k
      by _ _ _ _ d e t (free u s slot id g look) k = k
      by _ _ _ _ d e t (flip u s slot id g look) k = k
      by _ _ _ _ d e t (into u s slot «from» n to g look) k = joined-going r to (joins (after_cell_record slots c.cells (logs.Weaken «from» n to)) r to) ∙ k
      by _ _ _ _ d e t (strengthen u s slot «from» n to g look) k = k
      by _ _ _ _ d e t (end u s slot g look) k = k

  -- at the first copy the walk is over
  pub copied-over : (a : Act) (logged : Option CellRecord) → Proceeds slots v.ids v.round a logged w.round → IsRedWalk c.cells r v.round → is_first_copy r a ≡ true → IsOver c.cells r
  copied-over a logged t k e = by v.round w.round a logged t k e
    where
      by : (p q : RoundView) (a : Act) (logged : Option CellRecord) → Proceeds slots v.ids p a logged q → IsRedWalk c.cells r p → is_first_copy r a ≡ true → IsOver c.cells r
      by _ _ _ _ (skip id) k e = false-not e
      by _ _ _ _ (start id) k e = false-not e
      by _ _ _ _ (weaken u id slot target joining look) k e = false-not e
      by _ _ _ _ (scan u id copy look) k e = λ x n m s.
          let at = k e in
          let listed : Contains u.list x = subst (λ (xs : List ℕ). Contains xs x) at.0 m in
          let here : slice_index u.list listed.0 ≡ x = get_or_default u.list listed.0 0 x listed.1 ∙ listed.2 in
          let far = (copy-place u id look).0 in
          let within = listed.1 in
          subst (λ (y : ℕ). Contains r.written (y, n)) here (at.1 listed.0 n listed.1 (inl (omega (arith, within, far))) (subst (λ (y : ℕ). IsStrong c.cells y n) (sym here) s))
      by _ _ _ _ (judge u j look) k e = false-not e
      by _ _ _ _ (cut u s slot id target strong g look) k e = false-not e
      by _ _ _ _ (free u s slot id g look) k e = false-not e
      by _ _ _ _ (flip u s slot id g look) k e = false-not e
      by _ _ _ _ (into u s slot «from» n to g look) k e = false-not e
      by _ _ _ _ (strengthen u s slot «from» n to g look) k e = false-not e
      by _ _ _ _ (end u s slot g look) k e = false-not e
