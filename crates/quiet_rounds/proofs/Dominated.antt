-- The objects of a whole quiet round are the strongly dominated set of the first one, by the cells at its start.
use Rattle.std.proofs.Common.{◌≡◌, ℕ, ◌+◌, ◌<◌, Bool, true, false, if◌then◌else◌, ◌==◌, List, [], ◌∷◌, length, refl, sym, ap, ◌∙◌, subst, Option, arith, ⊎_elim, true≢false}
use Rattle.std.specs.Prelude.{Contains, ◌↔◌}
use Rattle.std.specs.Option.{option_map_or}
use Rattle.std.proofs.lemmas.Bool.{cases_eq, cases_lt}
use Rattle.std.proofs.lemmas.List.{get_or_default, get_or_past}
use Rattle.cell_model.specs.Cells.{Pointer, null, Cell, cell_at, pointer_at, is_live, IsExact}
use Rattle.cell_model.specs.Strong.{IsStrongAt}
use Rattle.store_model.specs.Core.{Round, Core}
use Rattle.store_model.specs.Sound.{IsSound}
use Rattle.store_model.proofs.AtRest.{strong-in}
use Rattle.ref_tables.specs.Queue.{has}
use Rattle.red_walk.specs.declared.red_at.RedAt.TheVariants as red
use Rattle.red_walk.specs.Walk.{Walk, next, opened, moved}
use Rattle.red_walk.proofs.Members.{Contains-has, has-Contains}
use Rattle.red_walk.proofs.WalkLaws.{verdict-place}
use Rattle.green_walk.specs.declared.sweep.SweepAt.{SweepAt}
use Rattle.green_walk.specs.declared.sweep.SweepAt.TheVariants as sweep
use Rattle.green_walk.specs.declared.sweep.Found.TheVariants.{Nothing}
use Rattle.green_walk.specs.Sweeping.{SweepState as Sweep, next as next_of_sweep, found as found_in_sweep}
use Rattle.green_walk.specs.Greening.{Greening}
use Rattle.log_record.specs.declared.cell_record.CellRecord.{CellRecord}
use Rattle.core_store.specs.declared.act.Act.{Act}
use Rattle.core_store.specs.Changes.{is_counted_strong}
use Rattle.core_store.specs.RoundView.{RoundView, round_of, Closed, Walking, Sweeping, IsWalking, Passes, none as no_look, more, looked_past, passed_by_sweep, next_slot, is_closed, Proceeds, skip, start, weaken, scan, judge, cut, free, flip, into, strengthen, end}
use Rattle.quiet_rounds.specs.Quiet.{IsQuietWalk, IsQuietRound}
use Rattle.quiet_rounds.specs.Laws.{IsQuietEvent}
use Rattle.quiet_rounds.specs.WholeRounds.{IsDominated, itself, joins, OpenRun, none, looks, event, DominatedLaw}
use Rattle.quiet_rounds.proofs.Ends.{held-counts}
use Rattle.quiet_rounds.proofs.FromStart.{IsFrom, from-start, weaken-from, strong-counted, strong-back}
use Rattle.quiet_rounds.proofs.Runs.{run-quiet, opening-cells, opening-quiet}

-- the list is the strongly dominated set of the object
abbrev pub IsDominatedSet : List Cell → ℕ → List ℕ → Type 0
IsDominatedSet began x list = (id : ℕ) → Contains list id ↔ IsDominated began x id

-- how the round came from the cells at its start
abbrev pub IsRoundFrom : List Cell → ℕ → List Cell → RoundView → Type 0
IsRoundFrom began x cells Closed = ⊥
IsRoundFrom began x cells (Walking w) = IsFrom began x cells w.list
IsRoundFrom began x cells (Sweeping w s slot g) = IsDominatedSet began x w.list

-- ---- the verdict

-- where no strong pointer leads out of objects of the round, all dominated ones are among them
module _ (began : List Cell) (x : ℕ) (cells : List Cell) (list : List ℕ) (exact : IsExact began) (exact_now : IsExact cells) (h : IsFrom began x cells list)
    (none_out : (u k : ℕ) → Contains list u → is_counted_strong cells (pointer_at cells u k) ≡ false) where
  -- a strong pointer that is still there came from an object that isn't listed
  out : (u k to : ℕ) → IsStrongAt cells u k to → Contains list u → ⊥
  out u k to s m = true≢false (sym (strong-counted cells u k to s) ∙ none_out u k m)

  closed-up : (id : ℕ) → IsDominated began x id → Contains list id
  closed-up _ itself = h.first
  closed-up _ (joins id live not_root held all) = by (λ v k s. closed-up v (all v k s)) (has list id) refl
    where
      no : (Contains list id → ⊥) → ((cell_at cells id).strong ≡ 0) → ⊥
      no n z =
          let lost = h.zero id (h.graph.live id ∙ live) not_root n z in
          let one = held-counts began exact held.0 held.1 id held.2 in
          absurd (omega (arith, lost, one))

      back : (v k : ℕ) → IsStrongAt cells v k id → IsStrongAt began v k id
      back v k s = strong-back began cells h.graph v k id s (h.weaker v k (strong-counted cells v k id s))

      by : ((v k : ℕ) → IsStrongAt began v k id → Contains list v) → (b : Bool) → has list id ≡ b → Contains list id
      by among true e = Contains-has list id e
      by among false e =
          let n : Contains list id → ⊥ = λ m. absurd (true≢false (sym (has-Contains list id m) ∙ e)) in
          ⊎_elim
          (λ z. absurd (no n z))
          (λ z. let s = strong-in cells exact_now id (h.graph.live id ∙ live) not_root z in absurd (out s.0 s.1 id s.2 (among s.0 s.1 (back s.0 s.1 s.2))))
          (cases_eq (cell_at cells id).strong 0)

  pub judged-from : (id : ℕ) → Contains list id ↔ IsDominated began x id
  judged-from id = (h.dominated id, closed-up id)

-- at the verdict all slots of each object were looked at
none-out : (slots : ℕ) (c : Core) (w : Walk) → IsSound c → c.moment.state.slots ≡ slots → round_of (Walking w) ≡ c.round → IsWalking slots c.moment.state.ids w → IsQuietWalk slots c.cells w → next w ≡ red.Verdict
    → (id slot : ℕ) → Contains w.list id → is_counted_strong c.cells (pointer_at c.cells id slot) ≡ false
none-out slots c w sound slots_are before in_step q at id slot m =
    ⊎_elim
    (λ l. subst (λ v. is_counted_strong c.cells (pointer_at c.cells v slot) ≡ false) (get_or_default w.list m.0 0 id m.1 ∙ m.2) (q.walked m.0 walked m.1 slot l))
    (λ l. ap (λ (p : Pointer). is_counted_strong c.cells p) (get_or_past (cell_at c.cells id).pointers slot null (let n = sound.consistent.slotted id live in omega (arith, l, n, slots_are))))
    (cases_lt slot slots)
  where
    live : is_live c.cells id ≡ true
    live = (sound.round_live id (subst (λ (r : Option Round). Contains (option_map_or (λ (r : Round). r.list) r []) id) before (subst (λ l. Contains l id) (sym in_step.whole) m))).0

    walked : m.0 < w.place
    walked = ⊎_elim
        (λ l.
        let z = ap length (in_step.walk.quiet l) in
        let n = verdict-place w at in
        let i = m.1 in absurd (omega (arith, z, n, i)))
        (λ l. let i = m.1 in omega (arith, l, i))
        (cases_lt w.place (length w.list))

-- ---- looks

module _ (began : List Cell) (x slots : ℕ) (cells : List Cell) where
  moved-list : (w : Walk) → (moved slots w).list ≡ w.list
  moved-list w = by (w.slot + 1 == slots)
    where
      by : (b : Bool) → (if b then record w { place = w.place + 1; slot = 0 } else record w { slot = w.slot + 1 }).list ≡ w.list
      by true = refl
      by false = refl

  pub next_slot-from : (new : List Cell) (w : Walk) (s : Sweep) (slot : ℕ) (g : Greening) → IsDominatedSet began x w.list → IsRoundFrom began x new (next_slot slots w s slot g)
  next_slot-from new w s slot g k = by (slot + 1 == slots)
    where
      by : (b : Bool) → IsRoundFrom began x new (if b then Sweeping w (found_in_sweep s Nothing) 0 g else Sweeping w s (slot + 1) g)
      by true = k
      by false = k

  sweep-look-from : (w : Walk) (s : Sweep) (slot : ℕ) (g : Greening) (a : SweepAt) → IsDominatedSet began x w.list → IsRoundFrom began x cells (passed_by_sweep slots cells w s slot g a)
  sweep-look-from w s slot g (sweep.Slots id) k = next_slot-from cells w s slot g k
  sweep-look-from w s slot g (sweep.Free id) k = k
  sweep-look-from w s slot g sweep.End k = k

  look-from : (v : RoundView) → IsRoundFrom began x cells v → IsRoundFrom began x cells (looked_past slots cells v)
  look-from Closed k = k
  look-from (Walking w) k = subst (λ l. IsFrom began x cells l) (sym (moved-list w)) k
  look-from (Sweeping w s slot g) k = sweep-look-from w s slot g (next_of_sweep s) k

  pub looks-from : (u v : RoundView) → Passes slots cells u v → IsRoundFrom began x cells u → IsRoundFrom began x cells v
  looks-from u _ no_look k = k
  looks-from u _ (more v before idle) k = look-from v (looks-from u v before k)

-- ---- events

module _ (began : List Cell) (x slots : ℕ) (exact : IsExact began) where
  by-event : (c d : Core) (u v : RoundView) (logged : Option CellRecord) (event : Act) → Proceeds slots c.moment.state.ids u event logged v → IsQuietEvent slots c d u v event logged → is_closed v ≡ false → IsQuietRound slots c.cells u → IsRoundFrom began x c.cells u → IsRoundFrom began x d.cells v
  by-event c d u v logged act (skip id) e n q k = k
  by-event c d u v logged act (start id) e n q k = absurd k
  by-event c d u v logged act (weaken w id slot target j at) e n q k = weaken-from slots c d w id slot target j e began x k
  by-event c d u v logged act (scan w id copy at) e n q k = subst (λ cells. IsFrom began x cells w.list) (ap (λ (y : Core). y.cells) (sym e.after)) k
  by-event c d u v logged act (judge w j at) e n q k = judged-from began x c.cells w.list exact e.sound.consistent.exact k (none-out slots c w e.sound e.slots_are e.before e.in_step q at)
  by-event c d u v logged act (cut w s slot id target strong g at) e n q k = next_slot-from began x slots d.cells d.cells w s slot g k
  by-event c d u v logged act (free w s slot id g at) e n q k = k
  by-event c d u v logged act (flip w s slot id g at) e n q k = k
  by-event c d u v logged act (into w s slot «from» place to g at) e n q k = k
  by-event c d u v logged act (strengthen w s slot «from» place to g at) e n q k = k
  by-event c d u v logged act (end w s slot g at) e n q k = absurd (cc)

  pub run-from : (c : Core) (u : RoundView) (d : Core) (v : RoundView) (n : ℕ) → OpenRun slots c u d v n → IsQuietRound slots c.cells u → IsRoundFrom began x c.cells u → IsRoundFrom began x d.cells v
  run-from c u _ _ _ none q k = k
  run-from c u _ _ _ (looks d v w n runs still passes) q k = looks-from began x slots d.cells v w passes (run-from c u d v n runs q k)
  run-from c u _ _ _ (event d e v w act logged n runs one still_open) q k =
      by-event d e v w logged act one.proceeds one still_open (run-quiet slots c u d v n runs q) (run-from c u d v n runs q k)

-- ---- the law

pub dominated : DominatedLaw
dominated slots c d x events r =
    run-from c.cells x slots r.starts.sound.consistent.exact r.opening (Walking (opened c.moment.state.ids x)) r.last (Sweeping r.walk r.swept r.slot r.greening) r.between r.runs
    (opening-quiet slots c d x events r)
    (subst (λ cells. IsFrom c.cells x cells (x ∷ [])) (sym (opening-cells slots c d x events r)) (from-start c.cells x))
