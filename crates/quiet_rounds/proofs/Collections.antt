-- A collection beside which no client is active uses up the queue, and takes as many rounds as there were objects without strong
-- pointers.
use Rattle.std.proofs.Common.{◌≡◌, ◌≢◌, ℕ, ◌+◌, ◌≤◌, List, [], ◌∷◌, length, Option, None, true, refl, sym, ap, subst, arith, ⊎_elim}
use Rattle.std.specs.Prelude.{Contains, if◌then◌else◌}
use Rattle.std.specs.Option.{option_map_or}
use Rattle.std.proofs.lemmas.Bool.{cases_eq, eqb-true, and_parts}
use Rattle.std.proofs.lemmas.Cmp.{nat_eq_equiv}
use Rattle.std.proofs.lemmas.Map.Made.{length-le_from_is_member}
use Rattle.std.proofs.lemmas.Map.Views.{Contains-from_any, list_any-from_Contains}
use Rattle.cell_model.specs.Cells.{Cell, cell_at}
use Rattle.store_model.specs.Core.{Round, Core, is_named}
use Rattle.store_model.specs.Sound.{IsOnce, IsSound}
use Rattle.store_model.proofs.Lists.{Contains-here, Contains-later}
use Rattle.store_model.proofs.OnceLaws.{nothing-in, once-none}
use Rattle.store_model.proofs.StepLaws.{Contains-cons}
use Rattle.red_walk.specs.Walk.{opened}
use Rattle.log_record.specs.declared.cell_record.CellRecord.{CellRecord}
use Rattle.core_store.specs.declared.act.Act.{Act}
use Rattle.core_store.specs.declared.act.Act.TheVariants as act
use Rattle.core_store.specs.Changes.{has_no_strong}
use Rattle.core_store.specs.Collecting.{is_pop}
use Rattle.core_store.specs.Collects.{Starts}
use Rattle.core_store.specs.RoundView.{RoundView, Closed, Walking, Sweeping}
use Rattle.quiet_rounds.specs.Quiet.{NoneActive, IsQuietRound}
use Rattle.quiet_rounds.specs.Laws.{IsQuietEvent}
use Rattle.quiet_rounds.specs.WholeRounds.{OpenRun, none as none_yet, looks, event, IsWholeRound, IsWithoutStrong}
use Rattle.quiet_rounds.specs.Collections.{none, pass, round, AreWithoutStrong, IsUsedUp, RoundsLaw, QueueLaw, AtRestLaw}
use Rattle.quiet_rounds.proofs.Fewer.{fewer}
use Rattle.quiet_rounds.proofs.FewQueued.{once-distinct, once-cons}
use Rattle.quiet_rounds.proofs.Judge.{named-by}
use Rattle.quiet_rounds.proofs.Rounds.{quiet-events}
use Rattle.quiet_rounds.proofs.Runs.{run-quiet, opening-quiet, last-quiet}

-- ---- the queue

pub used-none : (queue : List ℕ) → IsUsedUp 0 queue queue
used-none queue = record { fewer = λ id m. m; shorter = omega arith }

pub used-more : (taken one both : ℕ) (queue middle behind : List ℕ) → IsUsedUp taken queue middle → IsUsedUp one middle behind → both ≤ taken + one → IsUsedUp both queue behind
used-more taken one both queue middle behind a b fits = record { fewer = λ id m. a.fewer id (b.fewer id m); shorter = omega (arith, a.shorter, b.shorter, fits) }

-- an event takes no object into the queue
used-event : (slots : ℕ) (c d : Core) (u v : RoundView) (one_act : Act) (logged : Option CellRecord) → IsQuietEvent slots c d u v one_act logged → IsQuietRound slots c.cells u → IsUsedUp (if is_pop one_act then 1 else 0) c.queue d.queue
used-event slots c d u v one_act logged e q = let n = (quiet-events slots c d u v one_act logged e q).1 in record { fewer = n.fewer; shorter = omega (arith, n.shorter) }

used-run : (slots : ℕ) (c : Core) (u : RoundView) (d : Core) (v : RoundView) (n : ℕ) → OpenRun slots c u d v n → IsQuietRound slots c.cells u → IsUsedUp 0 c.queue d.queue
used-run slots c u _ _ _ none_yet q = used-none c.queue
used-run slots c u _ _ _ (looks d v w n runs still passes) q = used-run slots c u d v n runs q
used-run slots c u _ _ _ (event d e v w one_act logged n runs one still_open) q =
    used-more 0 _ 0 c.queue d.queue e.queue (used-run slots c u d v n runs q) (used-event slots d e v w one_act logged one (run-quiet slots c u d v n runs q)) (omega arith)

used-round : (slots : ℕ) (c d : Core) (x events : ℕ) → IsWholeRound slots c d x events → IsUsedUp 1 c.queue d.queue
used-round slots c d x events r =
    let opens = used-event slots c r.opening Closed (Walking (opened c.moment.state.ids x)) _ _ r.starts tt in
    let runs = used-run slots r.opening (Walking (opened c.moment.state.ids x)) r.last (Sweeping r.walk r.swept r.slot r.greening) r.between r.runs (opening-quiet slots c d x events r) in
    let ends = used-event slots r.last d (Sweeping r.walk r.swept r.slot r.greening) Closed _ _ r.ends (last-quiet slots c d x events r) in
    used-more 1 0 1 c.queue r.last.queue d.queue (used-more 1 0 1 c.queue r.opening.queue r.last.queue opens runs (omega arith)) ends (omega arith)

pub queue : QueueLaw
queue slots c _ _ _ none = used-none c.queue
queue slots c _ _ _ (pass d e id rounds passed before one) =
    used-more (rounds + passed) 1 (rounds + (passed + 1)) c.queue d.queue e.queue (queue slots c d rounds passed before) (used-event slots d e Closed Closed _ _ one tt) (omega arith)
queue slots c _ _ _ (round d e id events rounds passed before one) =
    used-more (rounds + passed) 1 (rounds + 1 + passed) c.queue d.queue e.queue (queue slots c d rounds passed before) (used-round slots d e id events one) (omega arith)

-- ---- the objects without strong pointers

-- a list without doubles whose ids are in another one is no longer
once-le : (xs ys : List ℕ) → IsOnce xs → ((id : ℕ) → Contains xs id → Contains ys id) → length xs ≤ length ys
once-le xs ys once «from» = length-le_from_is_member nat_eq_equiv xs ys (once-distinct xs once) (λ q m. list_any-from_Contains nat_eq_equiv q ys («from» q (Contains-from_any eqb-true q xs m)))

same-length : (cells : List Cell) (xs ys : List ℕ) → AreWithoutStrong cells xs → AreWithoutStrong cells ys → length xs ≡ length ys
same-length cells xs ys a b =
    let le = once-le xs ys a.once (λ id m. (b.all id).1 ((a.all id).0 m)) in
    let ge = once-le ys xs b.once (λ id m. (a.all id).1 ((b.all id).0 m)) in
    omega (arith, le, ge)

-- the first object of a round is one of them
pub started-without_strong : (slots : ℕ) (c opening : Core) (v : RoundView) (x : ℕ) → IsQuietEvent slots c opening Closed v (act.Start x) None → IsWithoutStrong c.cells x
started-without_strong slots c opening v x e =
    let starts : Starts c x opening.queue opening.round = e.collects in
    let queued = e.sound.queued x (subst (λ l. Contains l x) (sym starts.first) (Contains-here x opening.queue)) in
    record { live = queued.0; not_root = queued.1; zero = eqb-true (cell_at c.cells x).strong 0 (and_parts (has_no_strong (cell_at c.cells x)) _ starts.loose).0 }

-- before a round there was its first object, and what is left
without_strong-before : (slots : ℕ) (c d : Core) (x events : ℕ) → IsWholeRound slots c d x events → (rest : List ℕ) → AreWithoutStrong d.cells rest → AreWithoutStrong c.cells (x ∷ rest)
without_strong-before slots c d x events r rest a = record {
  once = once-cons x rest a.once (λ m. ((fewer slots c d x events r x).0 ((a.all x).0 m)).1 refl);
  all = λ id. (
    λ m. ⊎_elim (λ (e : x ≡ id). subst (λ y. IsWithoutStrong c.cells y) e (started-without_strong slots c r.opening (Walking (opened c.moment.state.ids x)) x r.starts)) (λ (l : Contains rest id). ((fewer slots c d x events r id).0 ((a.all id).0 l)).0) (Contains-cons x rest id m),
    λ u. ⊎_elim (λ (e : id ≡ x). subst (λ y. Contains (x ∷ rest) y) (sym e) (Contains-here x rest)) (λ (n : id ≢ x). Contains-later x rest id ((a.all id).1 ((fewer slots c d x events r id).1 (u, n)))) (cases_eq id x),
  );
}

pub rounds-made : RoundsLaw
rounds-made slots c _ _ _ none ids rest a b = let same = same-length c.cells rest ids b a in omega (arith, same)
rounds-made slots c _ _ _ (pass d e id rounds passed before one) ids rest a b =
    rounds-made slots c d rounds passed before ids rest a (subst (λ cells. AreWithoutStrong cells rest) (ap (λ (y : Core). y.cells) one.after) b)
rounds-made slots c _ _ _ (round d e id events rounds passed before one) ids rest a b =
    let r = rounds-made slots c d rounds passed before ids (id ∷ rest) a (without_strong-before slots d e id events one rest b) in
    omega (arith, r)

-- ---- at rest

module _ (c : Core) (s : IsSound c) (quiet : NoneActive c) (closed : c.round ≡ None) (empty : c.queue ≡ []) where
  unnamed : (id : ℕ) → is_named c.refs id ≡ true → ⊥
  unnamed id n =
      let by = named-by c.refs id n in
      let a = s.refs_active by.0 by.1 in
      nothing-in (by.0.pass, a.0) (subst (λ l. Contains l (by.0.pass, a.0)) quiet a.1)

  none-without_strong : (id : ℕ) → IsWithoutStrong c.cells id → ⊥
  none-without_strong id u =
      ⊎_elim
      (λ m. nothing-in id (subst (λ l. Contains l id) empty m))
      (λ o. ⊎_elim (λ m. nothing-in id (subst (λ l. Contains l id) (ap (λ (r : Option Round). option_map_or (λ (r : Round). r.list) r []) closed) m)) (λ m. unnamed id m) o)
      (s.zero id u.live u.not_root u.zero)

  without_strong-none : AreWithoutStrong c.cells []
  without_strong-none = record { once = once-none; all = λ id. (λ m. nothing-in id m, λ u. absurd (none-without_strong id u)) }

pub rest : AtRestLaw
rest slots c d rounds passed k s q closed empty =
    let last = without_strong-none d s q closed empty in
    (last, λ ids a. let r = rounds-made slots c d rounds passed k ids [] a last in omega (arith, r))
