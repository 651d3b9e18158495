-- The verdict of a round.
use Rattle.std.proofs.Common.{◌≡◌, ℕ, ◌<◌, List, Bool, true, false, Option, refl, sym, ap, ◌∙◌, subst, Some, None, map, length, slice_index_or, arith}
use Rattle.std.specs.Prelude.{Contains, slice_index, ◌↔◌, ◌==◌, ◌⊎◌, IfSome}
use Rattle.std.specs.List.{list_any}
use Rattle.plain_model.specs.ActiveTransaction.{ActiveTransaction}
use Rattle.plain_model.specs.History.{holds}
use Rattle.store_model.specs.Core.{Core, Copy, Round, names, IsActive}
use Rattle.cell_model.specs.Cells.{cell_at}
use Rattle.store_model.specs.Sound.{copy_of}
use Rattle.store_model.specs.Steps.{with_verdict, after_look}
use Rattle.store_model.specs.Verdict.{IsSeed as IsRoundSeed, IsLive as IsRoundLive, IsCondemned}
use Rattle.store_model.proofs.CollectSound.{judge-sound}
use Rattle.store_model.proofs.DeletionLaws.{names-is_named}
use Rattle.ref_tables.specs.Queue.{has}
use Rattle.ref_tables.specs.Refs.{Table, entries_of}
use Rattle.red_walk.specs.declared.red_at.RedAt.TheVariants as red
use Rattle.red_walk.specs.Walk.{Walk, next}
use Rattle.red_walk.specs.Rounds.{round_of as walked}
use Rattle.red_walk.proofs.RoundLaws.{verdict-law}
use Rattle.green_walk.specs.Judged.{Judged, IsSeed, IsLive, Picks}
use Rattle.green_walk.specs.Sweeping.{started}
use Rattle.green_walk.specs.Greening.{started as green_started}
use Rattle.green_walk.specs.Laws.{IsOf}
use Rattle.green_walk.proofs.PicksLaws.{picks-same}
use Rattle.green_walk.proofs.JudgedLaws.{seed-law, condemned-law, live-law}
use Rattle.core_store.specs.declared.act.Act.TheVariants as act
use Rattle.core_store.specs.declared.three.HeldFrame.{HeldFrame}
use Rattle.core_store.specs.Frames.{Agree}
use Rattle.core_store.specs.References.{targets_of}
use Rattle.core_store.specs.RoundInside.{IsRowOf}
use Rattle.core_store.specs.RoundView.{RoundView, Walking, Sweeping, round_of, Proceeds, judge, IsInStep, IsWalking}
use Rattle.core_store.specs.Tables.{TablesView}
use Rattle.core_store.specs.Stands.{Stands}
use Rattle.core_store.specs.Collects.{BeginsGreen}
use Rattle.core_store.specs.Collecting.{Collected}
use Rattle.core_store.proofs.QueueLaws.{has-targets}
use Rattle.core_store.proofs.EndQueue.{has-named_by, are-names}
use Rattle.core_store.proofs.HolderLaws.{holder-active, active-holder}
use Rattle.core_store.proofs.CollectedLaws.{Stands-looked}
use Rattle.core_store.proofs.SavedEvents.{saved-started}

module _ (slots : ℕ) (v : TablesView) (c : Core) (w : Walk) (row : List Bool) (refs : Table) (j : Judged) (h : Stands slots v c) (walks : v.round ≡ Walking w) (verdict : next w ≡ red.Verdict)
    (in_step : IsInStep slots v.ids (Sweeping w (started j.condemned v.ids) 0 (green_started slots j w))) (row_is : IsRowOf v.locks w.list row) (refs_are : (p : ℕ) → v.references p ≡ targets_of (entries_of refs p))
    (seeds : Picks (IsSeed w row refs) w.list j.seeds) (lives : Picks (IsLive w (IsSeed w row refs)) w.list j.live) (picks : Picks (λ id. IsLive w (IsSeed w row refs) id → ⊥) w.list j.condemned) where
  there : c.round ≡ Some (walked w)
  there = sym h.round ∙ ap round_of walks

  step : IsWalking slots v.ids w
  step = subst (λ (r : RoundView). IsInStep slots v.ids r) walks h.in_step

  copied : map (λ e. e.0) w.copies ≡ w.left
  copied = verdict-law slots w step.walk verdict ∙ sym step.whole

  locked : (place : ℕ) → place < length w.list → (slice_index_or row place false ≡ true) ↔ ((e : ℕ × ActiveTransaction) × IsActive c e × (holds (slice_index w.list place) e.1 ≡ true))
  locked place within = (
    λ e. let p = row_is.locked place within e in holder-active slots v c h (slice_index w.list place) p.0 p.1,
    λ e. at (slice_index_or row place false) refl e,
  )
    where
      at : (b : Bool) → slice_index_or row place false ≡ b → ((e : ℕ × ActiveTransaction) × IsActive c e × (holds (slice_index w.list place) e.1 ≡ true)) → b ≡ true
      at true f e = refl
      at false f e = absurd (row_is.free place e.0.0 within f (active-holder slots v c h (slice_index w.list place) e.0 e.1 e.2))

  listed : (p id : ℕ) → list_any (λ e. e.target == id) (entries_of refs p) ≡ has (v.references p) id
  listed p id = sym (has-targets (entries_of refs p) id) ∙ ap (λ xs. has xs id) (sym (refs_are p))

  named-by : (p id : ℕ) → list_any (λ e. e.target == id) (entries_of refs p) ≡ names c.refs p id
  named-by p id = listed p id ∙ (ap (λ xs. has xs id) (h.references p) ∙ has-named_by c.refs p id)

  pub judged-of : IsOf c (walked w) w row refs
  judged-of = record {
    list = step.whole;
    copies = refl;
    touched = refl;
    copied = copied;
    locked = locked;
    named = λ id m. (λ n. names-is_named c.refs n.0 id (sym (named-by n.0 id) ∙ n.1), λ n. let p = (are-names c.refs v.references h.references).yes id n in (p.0, listed p.0 id ∙ p.1));
  }

  condemned-is : (id : ℕ) → Contains j.condemned id ↔ IsCondemned c (walked w) id
  condemned-is = condemned-law c (walked w) w row refs judged-of j.condemned picks

  -- exactly those are condemned that don't live by the copies
  exact : Picks (IsCondemned c (walked w)) w.left j.condemned
  exact = subst (λ xs. Picks (IsCondemned c (walked w)) xs j.condemned) (sym step.whole)
      (picks-same (λ id. IsLive w (IsSeed w row refs) id → ⊥) (IsCondemned c (walked w))
      (λ x m dead. (subst (λ xs. Contains xs x) (sym step.whole) m, λ live. dead ((live-law c (walked w) w row refs judged-of x m).1 live)))
      (λ x m dead live. dead.1 ((live-law c (walked w) w row refs judged-of x m).0 live)) picks)

  after : RoundView
  after = Sweeping w (started j.condemned v.ids) 0 (green_started slots j w)

  -- the green walk begins with the seeds and what lives
  begins : BeginsGreen c after
  unfolding after
  begins = λ r there-is.
      let same : walked w ≡ r = by r (sym there ∙ there-is) in
      subst (λ (x : Round). Picks (IsRoundSeed c x) x.list j.seeds × Picks (IsRoundLive c x) x.list j.live) same (seeds-are, live-are)
    where
      by : (r : Round) → Some (walked w) ≡ Some r → walked w ≡ r
      by r e = cc

      seeds-are : Picks (IsRoundSeed c (walked w)) w.left j.seeds
      seeds-are = subst (λ xs. Picks (IsRoundSeed c (walked w)) xs j.seeds) (sym step.whole)
          (picks-same (IsSeed w row refs) (IsRoundSeed c (walked w)) (λ x m is. (seed-law c (walked w) w row refs judged-of x m).0 is) (λ x m is. (seed-law c (walked w) w row refs judged-of x m).1 is) seeds)

      live-are : Picks (IsRoundLive c (walked w)) w.left j.live
      live-are = subst (λ xs. Picks (IsRoundLive c (walked w)) xs j.live) (sym step.whole)
          (picks-same (IsLive w (IsSeed w row refs)) (IsRoundLive c (walked w)) (λ x m is. (live-law c (walked w) w row refs judged-of x m).0 is) (λ x m is. (live-law c (walked w) w row refs judged-of x m).1 is) lives)

  copies-current : (id : ℕ) (copy : Copy) → Contains w.copies (id, copy) → Contains w.touched id ⊎ (copy ≡ copy_of (cell_at c.cells id))
  copies-current id copy m = subst (λ (o : Option Round). IfSome o (λ r. r.judged ≡ false → (id : ℕ) (copy : Copy) → Contains r.copies (id, copy) → Contains r.touched id ⊎ (copy ≡ copy_of (cell_at c.cells id)))) there h.sound.copies refl id copy m

  pub judge-collected : {held : List (HeldFrame slots)} → Agree c.cells held → Collected slots v (record v { round = Sweeping w (started j.condemned v.ids) 0 (green_started slots j w) }) c held held act.Judge None
  unfolding after
  judge-collected agree = record {
    proceeds = subst (λ (r : RoundView). Proceeds slots v.ids r act.Judge None after) (sym walks) (judge w j verdict);
    begins = λ e. begins;
    moves = record { fits = tt; lays = tt; agree = agree; elsewhere = λ p e. refl };
    core = after_look c c.queue (Some (with_verdict (walked w) j.condemned));
    after = refl;
    collects = record { of = walked w; there = there; before = refl; all = copied; condemned = j.condemned; exact = exact; queue_is = refl; round_is = refl };
    stands = subst (λ q. Stands slots (record v { queue = q; round = after }) (after_look c c.queue (Some (with_verdict (walked w) j.condemned)))) (sym h.queue)
        (Stands-looked slots v c c.queue after h in_step ((λ place k a b d. absurd (omega (arith, b))), (λ k a b. absurd (omega (arith, b)))) (tt, saved-started c.cells (started j.condemned v.ids) slots j w copies-current)
        (judge-sound c h.sound (walked w) there refl copied j.condemned (λ x m. (condemned-is x).0 m) (λ x m. (condemned-is x).1 m)));
  }
