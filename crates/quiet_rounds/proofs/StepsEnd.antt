-- The steps of a journal's collector beside no active client use up the queue, in few rounds, and end.
use Rattle.std.proofs.Common.{◌≡◌, ℕ, ◌+◌, ◌*◌, ◌<◌, ◌≤◌, ◌==◌, Bool, true, false, not, if◌then◌else◌, List, [], ◌∷◌, ◌++◌, length, filter, Option, refl, sym, ap, subst, ◌∙◌, arith, inl, inr, ⊎_elim, true≢false, ne_eqb}
use Rattle.std.specs.Prelude.{◌⊎◌, Contains, count_by}
use Rattle.std.proofs.Math.Nat.{mul-le-mul_left}
use Rattle.std.proofs.lemmas.Bool.{eqb-false, not-true, not_from_false}
use Rattle.std.proofs.lemmas.List.{length-append}
use Rattle.std.proofs.lemmas.List.Sums.{sum_by-append}
use Rattle.plain_model.specs.declared.calls.Entry.{Entry}
use Rattle.plain_model.specs.History.{History}
use Rattle.cell_model.specs.Cells.{Cell}
use Rattle.store_model.specs.Core.{Core}
use Rattle.store_model.proofs.OnceLaws.{nothing-in}
use Rattle.red_walk.specs.Walk.{opened}
use Rattle.red_walk.proofs.Filters.{once-filter, filter-among, filter-passes, among-filter}
use Rattle.log_record.specs.declared.cell_record.CellRecord.{CellRecord}
use Rattle.core_store.specs.declared.act.Act.{Act}
use Rattle.core_store.specs.declared.act.Act.TheVariants as act
use Rattle.core_store.specs.declared.collect.Collect.{Collect}
use Rattle.core_store.specs.declared.note.Note.{Note}
use Rattle.core_store.specs.Collects.{entry_of}
use Rattle.core_store.specs.Collecting.{is_pop}
use Rattle.core_store.specs.JournalView.{JournalView, cells_of, core_of}
use Rattle.core_store.specs.RoundView.{RoundView, Closed, Walking, Sweeping, is_closed, round_of, left_of, IsInStep, Passes, Proceeds, skip, start, weaken, scan, judge, cut, free, flip, into, strengthen, end}
use Rattle.core_store.specs.Steppings.{MakesEvent, OnlyLooks}
use Rattle.core_store.proofs.LeftLaws.{left-proceeds, left-passes}
use Rattle.quiet_rounds.specs.Quiet.{NoneActive, IsQuietRound}
use Rattle.quiet_rounds.specs.Laws.{IsQuietEvent, NoneJoins}
use Rattle.quiet_rounds.specs.WholeRounds.{IsStill}
use Rattle.quiet_rounds.specs.Collections.{IsCollection, none as none_yet, pass, round, AreWithoutStrong, IsUsedUp}
use Rattle.quiet_rounds.specs.JournalSteps.{IsSoundJournal, CollectorSteps, none, looks, event, note_of}
use Rattle.quiet_rounds.specs.StepsEnd.{is_start, rounds_in, popped_in, most_events, StepsQueueLaw, StepsRoundsLaw, StepsEndLaw, StepsIdleLaw}
use Rattle.quiet_rounds.proofs.Collections.{used-none, used-more, rounds-made, rest, started-without_strong}
use Rattle.quiet_rounds.proofs.Fewer.{fewer}
use Rattle.quiet_rounds.proofs.JournalEvents.{journal-events, journal-looks, is-quiet_event, is-still, steps-told, steps-quiet}
use Rattle.quiet_rounds.proofs.NotedRounds.{stays-open}
use Rattle.quiet_rounds.proofs.OpenRounds.{IsOpenRound, opens, looked-open, looks-open, event-open, closes}

-- ---- a quiet round stays quiet over steps

round-from_rest : (slots : ℕ) (cells : List Cell) (v : RoundView) → v ≡ Closed → IsQuietRound slots cells v
round-from_rest slots cells v e = subst (λ (u : RoundView). IsQuietRound slots cells u) (sym e) tt

module _ (slots : ℕ) (i : JournalView) (s : IsSoundJournal slots i) (quiet : NoneActive (core_of i)) (rests : i.round ≡ Closed) where
  stays-quiet : (k : JournalView) (notes : List Note) → CollectorSteps slots i k notes → IsQuietRound slots (cells_of k) k.round
  stays-quiet _ _ none = round-from_rest slots (cells_of i) i.round rests
  stays-quiet _ _ (looks j k notes before l) = (journal-looks slots j k (steps-told slots i j notes s before) (steps-quiet slots i j notes s quiet before) l).round (stays-quiet j notes before)
  stays-quiet _ _ (event j k notes r before m opening told) =
      (journal-events slots j k r (steps-told slots i j notes s before) (steps-quiet slots i j notes s quiet before) m opening told).round (stays-quiet j notes before)

  joins-none : (j k : JournalView) (notes : List Note) (r : Collect) → CollectorSteps slots i j notes → (m : MakesEvent slots j k r) → k.opening ≡ j.opening → IsSoundJournal slots k → NoneJoins m.event j.queue k.queue
  joins-none j k notes r before m opening told =
      (journal-events slots j k r (steps-told slots i j notes s before) (steps-quiet slots i j notes s quiet before) m opening told).queue (stays-quiet j notes before)

-- ---- the queue

-- one note more counts where it is of this kind
count-snoc : (p : Note → Bool) (notes : List Note) (n : Note) → count_by p (notes ++ n ∷ []) ≡ count_by p notes + (if p n then 1 else 0)
count-snoc p notes n = let sums = sum_by-append (λ x. if p x then 1 else 0) notes (n ∷ []) in omega (arith, sums)

queue-looked : (i j : JournalView) (slots : ℕ) → OnlyLooks slots i j → j.queue ≡ i.queue
queue-looked i j slots l = ap (λ (c : Core). c.queue) l.core

module _ (slots : ℕ) (i : JournalView) (s : IsSoundJournal slots i) (quiet : NoneActive (core_of i)) (rests : i.round ≡ Closed) where
  steps-used : (k : JournalView) (notes : List Note) → CollectorSteps slots i k notes → IsUsedUp (popped_in notes) i.queue k.queue
  steps-used _ _ none = used-none i.queue
  steps-used _ _ (looks j k notes before l) = subst (λ (q : List ℕ). IsUsedUp (popped_in notes) i.queue q) (sym (queue-looked j k slots l)) (steps-used j notes before)
  steps-used _ _ (event j k notes r before m opening told) =
      let n = joins-none slots i s quiet rests j k notes r before m opening told in
      let count = count-snoc (λ x. is_pop x.act) notes (note_of slots j k r m) in
      let shorter = n.shorter in
      used-more (popped_in notes) (if is_pop m.event then 1 else 0) _ i.queue j.queue k.queue (steps-used j notes before) (record { fewer = n.fewer; shorter = omega (arith, shorter) }) (omega (arith, count))

pub steps-queue : StepsQueueLaw
steps-queue slots i k notes h = steps-used slots i h.journal h.quiet h.closed k notes h.steps

-- ---- the end

left-closed : (slots : ℕ) (v : RoundView) → v ≡ Closed → left_of slots v ≡ 0
left-closed slots v e = ap (left_of slots) e

some-more : (n : ℕ) → 0 + 1 ≤ n + 1
some-more n = omega arith

no-more : (n : ℕ) → n + 1 ≤ n + 1
no-more n = omega arith

-- an event of no pop lowers what is left, and one that takes an object out of the queue comes where nothing is left and leaves at
-- most a whole round
pop-left : (slots ids : ℕ) (u v : RoundView) (which : Act) (logged : Option CellRecord) → Proceeds slots ids u which logged v → is_pop which ≡ true → (left_of slots u ≡ 0) × (left_of slots v + 1 ≤ most_events slots ids)
pop-left slots ids _ _ _ _ (skip id) q = (refl, some-more (left_of slots (Walking (opened ids 0))))
pop-left slots ids _ _ _ _ (start id) q = (refl, no-more (left_of slots (Walking (opened ids 0))))
pop-left slots ids _ _ _ _ (weaken w id slot target joins at) q = absurd (cc)
pop-left slots ids _ _ _ _ (scan w id copy at) q = absurd (cc)
pop-left slots ids _ _ _ _ (judge w j at) q = absurd (cc)
pop-left slots ids _ _ _ _ (cut w s slot id target strong g at) q = absurd (cc)
pop-left slots ids _ _ _ _ (free w s slot id g at) q = absurd (cc)
pop-left slots ids _ _ _ _ (flip w s slot id g at) q = absurd (cc)
pop-left slots ids _ _ _ _ (into w s slot «from» i to g at) q = absurd (cc)
pop-left slots ids _ _ _ _ (strengthen w s slot «from» i to g at) q = absurd (cc)
pop-left slots ids _ _ _ _ (end w s slot g at) q = absurd (cc)

-- what an event adds to the notes it takes from what is left and from the queue
pays : (most notes more left behind waits queue : ℕ) → more ≡ notes + 1 → (behind < left) ⊎ ((left ≡ 0) × (behind + 1 ≤ most) × (waits + 1 ≤ queue)) → waits ≤ queue → more + behind + most * waits ≤ notes + left + most * queue
pays most notes more left behind waits queue one h fewer =
    ⊎_elim
    (λ (l : behind < left). let less = mul-le-mul_left most fewer in omega (arith, one, l, less))
    (λ (z : (left ≡ 0) × (behind + 1 ≤ most) × (waits + 1 ≤ queue)).
    let less = mul-le-mul_left most z.2 in
    let split : most * (waits + 1) ≡ most * waits + most = grind arith in
    let none_left = z.0 in
    let few = z.1 in
    omega (arith, one, none_left, few, less, split))
    h

module _ (slots : ℕ) (i : JournalView) (s : IsSoundJournal slots i) (quiet : NoneActive (core_of i)) (rests : i.round ≡ Closed) where
  -- the store's ids stay
  steps-ids : (k : JournalView) (notes : List Note) → CollectorSteps slots i k notes → k.history.ids ≡ i.history.ids
  steps-ids _ _ none = refl
  steps-ids _ _ (looks j k notes before l) = ap (λ (y : JournalView). y.history.ids) l.same ∙ steps-ids j notes before
  steps-ids _ _ (event j k notes r before m opening told) = ap (λ (y : History). y.ids) m.entry ∙ steps-ids j notes before

  event-pays : (j k : JournalView) (notes : List Note) (r : Collect) → CollectorSteps slots i j notes → (m : MakesEvent slots j k r) → k.opening ≡ j.opening → IsSoundJournal slots k
      → length (notes ++ note_of slots j k r m ∷ []) + left_of slots k.round + most_events slots i.history.ids * length k.queue ≤ length notes + left_of slots j.round + most_events slots i.history.ids * length j.queue
  event-pays j k notes r before m opening told =
      let n = joins-none slots i s quiet rests j k notes r before m opening told in
      let shorter = n.shorter in
      let long = length-append notes (note_of slots j k r m ∷ []) in
      pays (most_events slots i.history.ids) (length notes) (length (notes ++ note_of slots j k r m ∷ [])) (left_of slots j.round) (left_of slots k.round) (length k.queue) (length j.queue) (omega (arith, long)) (by (is_pop m.event) refl shorter) (omega (arith, shorter))
    where
      ids-same : k.history.ids ≡ j.history.ids
      ids-same = ap (λ (y : History). y.ids) m.entry

      by : (b : Bool) → is_pop m.event ≡ b → length k.queue + (if b then 1 else 0) ≤ length j.queue
          → (left_of slots k.round < left_of slots j.round) ⊎ ((left_of slots j.round ≡ 0) × (left_of slots k.round + 1 ≤ most_events slots i.history.ids) × (length k.queue + 1 ≤ length j.queue))
      by true e shorter =
          let left = pop-left slots j.history.ids j.round k.round m.event m.logged m.proceeds e in
          inr (left.0, subst (λ (ids : ℕ). left_of slots k.round + 1 ≤ most_events slots ids) (steps-ids j notes before) left.1, shorter)
      by false e shorter =
          inl (left-proceeds slots j.history.ids j.round k.round m.event m.logged (steps-told slots i j notes s before).in_step (subst (λ (ids : ℕ). IsInStep slots ids k.round) ids-same told.in_step) m.proceeds e)

  looks-pay : (j k : JournalView) → IsSoundJournal slots j → OnlyLooks slots j k → left_of slots k.round ≤ left_of slots j.round
  looks-pay j k told l =
      ⊎_elim
      (λ (e : k.round ≡ j.round). let same = ap (left_of slots) e in omega (arith, same))
      (λ (less : left_of slots k.round < left_of slots j.round). omega (arith, less))
      (left-passes slots j.history.ids (cells_of j) j.round k.round told.in_step l.passes)

  steps-pay : (k : JournalView) (notes : List Note) → CollectorSteps slots i k notes → length notes + left_of slots k.round + most_events slots i.history.ids * length k.queue ≤ most_events slots i.history.ids * length i.queue
  steps-pay _ _ none = let none_left = left-closed slots i.round rests in omega (arith, none_left)
  steps-pay _ _ (looks j k notes before l) =
      let paid = steps-pay j notes before in
      let less = looks-pay j k (steps-told slots i j notes s before) l in
      let same : most_events slots i.history.ids * length k.queue ≡ most_events slots i.history.ids * length j.queue = ap (λ (q : List ℕ). most_events slots i.history.ids * length q) (queue-looked j k slots l) in
      omega (arith, paid, less, same)
  steps-pay _ _ (event j k notes r before m opening told) =
      let paid = steps-pay j notes before in
      let more = event-pays j k notes r before m opening told in
      omega (arith, paid, more)

pub steps-end : StepsEndLaw
steps-end slots i k notes h = let paid = steps-pay slots i h.journal h.quiet h.closed k notes h.steps in omega (arith, paid)

-- ---- the rounds

-- so many rounds were opened from this moment on, and the last one may be open
data HasOpened (slots : ℕ) (c d : Core) : RoundView → ℕ → Type 0 where
  at_rest : (rounds passed : ℕ) → IsCollection slots c d rounds passed → HasOpened slots c d Closed rounds
  in_round : (b : Core) (v : RoundView) (x rounds passed : ℕ) (notes : List Note) → IsCollection slots c b rounds passed → IsOpenRound slots b x notes d v → HasOpened slots c d v (rounds + 1)

-- what holds of it where no round is open, and where one is
record IsAtRest (slots : ℕ) (c d : Core) (rounds : ℕ) : Type 0 where
  passed : ℕ
  collection : IsCollection slots c d rounds passed

record IsInRound (slots : ℕ) (c d : Core) (v : RoundView) (rounds : ℕ) : Type 0 where
  began : Core
  x : ℕ
  before : ℕ
  passed : ℕ
  notes : List Note
  collection : IsCollection slots c began before passed
  open_round : IsOpenRound slots began x notes d v
  one_more : rounds ≡ before + 1

is-at_rest : (slots : ℕ) (c d : Core) (v : RoundView) (n : ℕ) → HasOpened slots c d v n → is_closed v ≡ true → IsAtRest slots c d n
is-at_rest slots c d _ _ (at_rest rounds passed k) e = record { passed = passed; collection = k }
is-at_rest slots c d _ _ (in_round b v x rounds passed notes k o) e = absurd (true≢false (sym e ∙ o.still_open))

is-in_round : (slots : ℕ) (c d : Core) (v : RoundView) (n : ℕ) → HasOpened slots c d v n → is_closed v ≡ false → IsInRound slots c d v n
is-in_round slots c d _ _ (at_rest rounds passed k) e = absurd (true≢false e)
is-in_round slots c d _ _ (in_round b v x rounds passed notes k o) e = record { began = b; x = x; before = rounds; passed = passed; notes = notes; collection = k; open_round = o; one_more = refl }

-- where no round is open none opens by looks
closed-looks : (slots : ℕ) (cells : List Cell) (v : RoundView) → Passes slots cells Closed v → v ≡ Closed
closed-looks slots cells v p = by v (looks-open slots cells Closed v p)
  where
    by : (v : RoundView) → is_closed v ≡ true → v ≡ Closed
    by Closed e = refl
    by (Walking w) e = absurd (cc)
    by (Sweeping w s slot g) e = absurd (cc)

looked-opened : (slots : ℕ) (c d : Core) (u v : RoundView) (n : ℕ) → HasOpened slots c d u n → IsStill slots d u → Passes slots d.cells u v → HasOpened slots c d v n
looked-opened slots c d _ v _ (at_rest rounds passed k) still p = subst (λ (w : RoundView). HasOpened slots c d w rounds) (sym (closed-looks slots d.cells v p)) (at_rest rounds passed k)
looked-opened slots c d _ v _ (in_round b u x rounds passed notes k o) still p = in_round b v x rounds passed notes k (looked-open slots b x notes d u v o still p)

module _ (slots : ℕ) (c d f : Core) (n : ℕ) (entry : Entry) (left : ℕ) where
  -- an event of an open round that leaves it open
  opened-within : (u v : RoundView) (which : Act) (logged : Option CellRecord) → HasOpened slots c d u n → IsQuietEvent slots d f u v which logged → is_closed u ≡ false → is_closed v ≡ false → HasOpened slots c f v (n + 0)
  opened-within u v which logged h e was is =
      let r = is-in_round slots c d u n h was in
      let count : r.before + 1 ≡ n + 0 = let one = r.one_more in omega (arith, one) in
      subst (λ (m : ℕ). HasOpened slots c f v m) count (in_round r.began v r.x r.before r.passed (r.notes ++ record { entry = entry; logged = logged; left = left; act = which } ∷ []) r.collection (event-open slots r.began r.x r.notes d f u v entry left which logged r.open_round e is))

  opened-event : (u v : RoundView) (which : Act) (logged : Option CellRecord) → Proceeds slots d.moment.state.ids u which logged v → HasOpened slots c d u n → IsQuietEvent slots d f u v which logged → HasOpened slots c f v (n + (if is_start which then 1 else 0))
  opened-event _ _ _ _ (skip id) h e =
      let r = is-at_rest slots c d Closed n h refl in
      let count : n ≡ n + 0 = omega arith in
      subst (λ (m : ℕ). HasOpened slots c f Closed m) count (at_rest n (r.passed + 1) (pass d f id n r.passed r.collection e))
  opened-event _ _ _ _ (start id) h e = let r = is-at_rest slots c d Closed n h refl in in_round d (Walking (opened d.moment.state.ids id)) id n r.passed [] r.collection (opens slots d f id e)
  opened-event u v which logged (weaken w id slot target joins at) h e = opened-within u v which logged h e refl refl
  opened-event u v which logged (scan w id copy at) h e = opened-within u v which logged h e refl refl
  opened-event u v which logged (judge w j at) h e = opened-within u v which logged h e refl refl
  opened-event u v which logged (cut w s slot id target strong g at) h e = opened-within u v which logged h e refl (stays-open slots d.moment.state.ids u v which logged e.proceeds refl (λ q. not-end q))
    where
      not-end : act.Change ≡ act.End → ⊥
      not-end q = cc
  opened-event u v which logged (free w s slot id g at) h e = opened-within u v which logged h e refl refl
  opened-event u v which logged (flip w s slot id g at) h e = opened-within u v which logged h e refl refl
  opened-event u v which logged (into w s slot «from» i to g at) h e = opened-within u v which logged h e refl refl
  opened-event u v which logged (strengthen w s slot «from» i to g at) h e = opened-within u v which logged h e refl refl
  opened-event u v which logged (end w s slot g at) h e =
      let r = is-in_round slots c d u n h refl in
      let whole = closes slots r.began r.x r.notes d f u v which logged refl r.open_round e in
      let count : r.before + 1 ≡ n + 0 = let one = r.one_more in omega (arith, one) in
      subst (λ (m : ℕ). HasOpened slots c f Closed m) count (at_rest (r.before + 1) r.passed (round r.began f r.x (length r.notes + 2) r.before r.passed r.collection whole.0))

module _ (slots : ℕ) (i : JournalView) (s : IsSoundJournal slots i) (quiet : NoneActive (core_of i)) (rests : i.round ≡ Closed) where
  steps-opened : (k : JournalView) (notes : List Note) → CollectorSteps slots i k notes → HasOpened slots (core_of i) (core_of k) k.round (rounds_in notes)
  steps-opened _ _ none = subst (λ (v : RoundView). HasOpened slots (core_of i) (core_of i) v 0) (sym rests) (at_rest 0 0 none_yet)
  steps-opened _ _ (looks j k notes before l) =
      let still = is-still slots j (steps-told slots i j notes s before) (steps-quiet slots i j notes s quiet before) in
      subst (λ (d : Core). HasOpened slots (core_of i) d k.round (rounds_in notes)) (sym l.core) (looked-opened slots (core_of i) (core_of j) j.round k.round (rounds_in notes) (steps-opened j notes before) still l.passes)
  steps-opened _ _ (event j k notes r before m opening told) =
      let one = is-quiet_event slots j k r (steps-told slots i j notes s before) (steps-quiet slots i j notes s quiet before) m opening told in
      let h = opened-event slots (core_of i) (core_of j) (core_of k) (rounds_in notes) (entry_of m.logged) (left_of slots k.round) j.round k.round m.event m.logged one.proceeds (steps-opened j notes before) one in
      subst (λ (n : ℕ). HasOpened slots (core_of i) (core_of k) k.round n) (sym (count-snoc (λ x. is_start x.act) notes (note_of slots j k r m))) h

-- ---- the objects without strong pointers

-- those that are left, where these were there
left-over : (slots : ℕ) (c d : Core) (rounds passed : ℕ) → IsCollection slots c d rounds passed → (ids : List ℕ) → AreWithoutStrong c.cells ids → (over : List ℕ) × AreWithoutStrong d.cells over
left-over slots c _ _ _ none_yet ids a = (ids, a)
left-over slots c _ _ _ (pass d e id rounds passed before one) ids a =
    let over = left-over slots c d rounds passed before ids a in
    (over.0, subst (λ cells. AreWithoutStrong cells over.0) (ap (λ (y : Core). y.cells) (sym one.after)) over.1)
left-over slots c _ _ _ (round d e x events rounds passed before one) ids a =
    let over = left-over slots c d rounds passed before ids a in
    let others : ℕ → Bool = λ y. not (y == x) in (
      filter others over.0,
      record {
        once = once-filter others over.0 over.1.once;
        all = λ id. (
          λ m. (fewer slots d e x events one id).1 ((over.1.all id).0 (filter-among others over.0 id m), eqb-false id x (not-true (id == x) (filter-passes others over.0 id m))),
          λ u. let parts = (fewer slots d e x events one id).0 u in among-filter others over.0 id ((over.1.all id).1 parts.0) (not_from_false (id == x) (ne_eqb id x parts.1)),
        );
      },
    )

some-length : (xs : List ℕ) (x : ℕ) → Contains xs x → 1 ≤ length xs
some-length [] x m = nothing-in x m
some-length (y ∷ ys) x m = omega arith

-- no more rounds open than there are such objects
opened-most : (slots : ℕ) (c d : Core) (v : RoundView) (n : ℕ) → HasOpened slots c d v n → (ids : List ℕ) → AreWithoutStrong c.cells ids → n ≤ length ids
opened-most slots c d _ _ (at_rest rounds passed k) ids a =
    let over = left-over slots c d rounds passed k ids a in
    let made = rounds-made slots c d rounds passed k ids over.0 a over.1 in
    omega (arith, made)
opened-most slots c d _ _ (in_round b v x rounds passed notes k o) ids a =
    let over = left-over slots c b rounds passed k ids a in
    let made = rounds-made slots c b rounds passed k ids over.0 a over.1 in
    let some = some-length over.0 x ((over.1.all x).1 (started-without_strong slots b o.opening (Walking (opened b.moment.state.ids x)) x o.starts)) in
    omega (arith, made, some)

pub steps-rounds : StepsRoundsLaw
steps-rounds slots i k notes h ids a = opened-most slots (core_of i) (core_of k) k.round (rounds_in notes) (steps-opened slots i h.journal h.quiet h.closed k notes h.steps) ids a

pub steps-idle : StepsIdleLaw
steps-idle slots i k notes h empty closed =
    let r = is-at_rest slots (core_of i) (core_of k) k.round (rounds_in notes) (steps-opened slots i h.journal h.quiet h.closed k notes h.steps) (ap is_closed closed) in
    rest slots (core_of i) (core_of k) (rounds_in notes) r.passed r.collection (steps-told slots i k notes h.journal h.steps).sound (steps-quiet slots i k notes h.journal h.quiet h.steps) (ap round_of closed) empty
