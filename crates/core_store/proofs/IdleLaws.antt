-- Where the collector is idle: the queue is empty and no round is open.
use Rattle.std.proofs.Common.{◌≡◌, ◌⊎◌, ⊎_elim, true, false, List, ℕ, [], ◌∷◌, None, refl, sym, ap, ◌∙◌}
use Rattle.std.specs.Prelude.{◌&&◌}
use Rattle.cell_model.specs.Cells.{Cell}
use Rattle.store_model.specs.Core.{Core}
use Rattle.core_store.specs.JournalView.{JournalView, core_of}
use Rattle.core_store.specs.Limited.{is_past_limit}
use Rattle.core_store.specs.Queued.{is_none_queued}
use Rattle.core_store.specs.RoundView.{RoundView, Closed, Walking, Sweeping, asked, is_event, is_closed, round_of}

-- the queue is what comes next
pub idle-event : (cells : List Cell) (queue : List ℕ) (round : RoundView) → (is_closed round && is_none_queued queue) ≡ true → is_event cells (asked round) ≡ true
idle-event cells queue Closed e = refl
idle-event cells queue (Walking w) e = absurd (cc)
idle-event cells queue (Sweeping w s slot g) e = absurd (cc)

pub idle-both : (queue : List ℕ) (round : RoundView) → (is_closed round && is_none_queued queue) ≡ true → (queue ≡ []) × (round ≡ Closed)
idle-both [] Closed e = (refl, refl)
idle-both (id ∷ ids) Closed e = absurd (cc)
idle-both queue (Walking w) e = absurd (cc)
idle-both queue (Sweeping w s slot g) e = absurd (cc)

-- where it is not, a round is open or an object is queued
pub some-left : (queue : List ℕ) (round : RoundView) → (is_closed round && is_none_queued queue) ≡ false → (queue ≡ []) × (round ≡ Closed) → ⊥
some-left queue round busy idle =
    let both : (is_closed round && is_none_queued queue) ≡ true = ap (λ (r : RoundView). is_closed r && is_none_queued queue) idle.1 ∙ ap is_none_queued idle.0 in
    let e = sym busy ∙ both in
    cc (e)

-- a round is open after looks where one was before
closed-before : (u v : RoundView) → round_of v ≡ round_of u → v ≡ Closed → u ≡ Closed
closed-before Closed v same e = refl
closed-before (Walking w) v same e = absurd (let none : round_of (Walking w) ≡ None = sym same ∙ ap round_of e in cc)
closed-before (Sweeping w s slot g) v same e = absurd (let none : round_of (Sweeping w s slot g) ≡ None = sym same ∙ ap round_of e in cc)

-- looks change neither the queue nor how full the history is
pub some-behind : (i j : JournalView) → is_past_limit i 1 ≡ false → ((i.queue ≡ []) × (i.round ≡ Closed) → ⊥) → j ≡ record i { round = j.round } → core_of j ≡ core_of i → (is_past_limit j 1 ≡ true) ⊎ ((j.queue ≡ []) × (j.round ≡ Closed)) → ⊥
some-behind i j within some same core none =
    ⊎_elim
    (λ past. let e = sym past ∙ (ap (λ (x : JournalView). is_past_limit x 1) same ∙ within) in cc (e))
    (λ idle. some (sym (ap (λ (x : JournalView). x.queue) same) ∙ idle.0, closed-before i.round j.round (ap (λ (c : Core). c.round) core) idle.1))
    none
