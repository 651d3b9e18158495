-- Collections beside which no client is active: whole rounds, one after another.
use Rattle.std.specs.Prelude.{◌≡◌, ◌↔◌, ℕ, ◌+◌, ◌≤◌, List, [], length, Contains, None}
use Rattle.cell_model.specs.Cells.{Cell}
use Rattle.store_model.specs.Core.{Core}
use Rattle.store_model.specs.Sound.{IsOnce, IsSound}
use Rattle.core_store.specs.declared.act.Act.TheVariants as act
use Rattle.core_store.specs.RoundView.{Closed}
use Rattle.quiet_rounds.specs.Quiet.{NoneActive}
use Rattle.quiet_rounds.specs.Laws.{IsQuietEvent}
use Rattle.quiet_rounds.specs.WholeRounds.{IsWholeRound, IsWithoutStrong}

-- from one moment at which no round is open to another one: so many whole rounds, and so many queued objects that were passed
-- over
pub data IsCollection (slots : ℕ) (c : Core) : Core → ℕ → ℕ → Type 0 where
  none : IsCollection slots c c 0 0
  pass : (d e : Core) (id rounds passed : ℕ) → IsCollection slots c d rounds passed → IsQuietEvent slots d e Closed Closed (act.Skip id) None → IsCollection slots c e rounds (passed + 1)
  round : (d e : Core) (id events rounds passed : ℕ) → IsCollection slots c d rounds passed → IsWholeRound slots d e id events → IsCollection slots c e (rounds + 1) passed

-- the live objects, but for the root, to which no strong pointer leads, each once
pub record AreWithoutStrong (cells : List Cell) (ids : List ℕ) : Type 0 where
  pub once : IsOnce ids
  pub all : (id : ℕ) → Contains ids id ↔ IsWithoutStrong cells id

-- each round leaves one object fewer to which no strong pointer leads
abbrev pub RoundsLaw : Type 0
RoundsLaw =
    (slots : ℕ) (c d : Core) (rounds passed : ℕ) → IsCollection slots c d rounds passed
    → (ids rest : List ℕ) → AreWithoutStrong c.cells ids → AreWithoutStrong d.cells rest → rounds + length rest ≡ length ids

-- no object joins the queue, and each round, and each object that is passed over, takes one out
pub record IsUsedUp (taken : ℕ) (queue behind : List ℕ) : Type 0 where
  pub fewer : (id : ℕ) → Contains behind id → Contains queue id
  pub shorter : taken + length behind ≤ length queue

abbrev pub QueueLaw : Type 0
QueueLaw = (slots : ℕ) (c d : Core) (rounds passed : ℕ) → IsCollection slots c d rounds passed → IsUsedUp (rounds + passed) c.queue d.queue

-- where the queue is empty after it, there were as many rounds as objects to which no strong pointer led, and there is no such
-- object any more
abbrev pub AtRestLaw : Type 0
AtRestLaw =
    (slots : ℕ) (c d : Core) (rounds passed : ℕ) → IsCollection slots c d rounds passed → IsSound d → NoneActive d → d.round ≡ None → d.queue ≡ []
    → AreWithoutStrong d.cells [] × ((ids : List ℕ) → AreWithoutStrong c.cells ids → rounds ≡ length ids)
