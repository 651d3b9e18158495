-- What a checkpoint leaves, where no transaction is open.
use Rattle.std.proofs.Common.{◌≡◌, ◌≢◌, ℕ, zero, suc, ◌≤◌, Bool, true, false, List, [], ◌∷◌, Option, Some, None, length, drop, refl, ap, ◌∙◌, subst, arith}
use Rattle.std.specs.Prelude.{not, ◌||◌, All}
use Rattle.std.specs.List.{list_any}
use Rattle.std.specs.Option.{option_map_or, option_and_then}
use Rattle.std.proofs.lemmas.List.Elements.{recursion_from_All}
use Rattle.plain_model.specs.declared.object.Object.{Object}
use Rattle.plain_model.specs.declared.calls.Call.TheVariants.{Commit}
use Rattle.plain_model.specs.declared.calls.Reply.TheVariants.{DiskFault}
use Rattle.plain_model.specs.declared.calls.Entry.TheVariants.{Call, Hidden}
use Rattle.plain_model.specs.Machine.{State}
use Rattle.plain_model.specs.ActiveTransaction.{ActiveTransaction}
use Rattle.plain_model.specs.History.{History, Moment, CommitPoint, IsCrashConsistent, SameReachable, graph_after, end_of, with_entry, is_stopped, least_active}
use Rattle.plain_model.proofs.HistoryLemmas.{end_of-with_entry}
use Rattle.restart_laws.specs.Settled.{IsSettled}
use Rattle.restart_laws.proofs.QuietLaws.{same-same}
use Rattle.disk_model.specs.declared.area.Area.{Area}
use Rattle.disk_model.specs.Areas.{Bytes}
use Rattle.disk_model.specs.Time.{LeavesOnlyImages}
use Rattle.disk_model.specs.Told.{EachImage}
use Rattle.disk_model.proofs.Moments.{weaken}
use Rattle.cell_model.specs.Graph.{graph_of}
use Rattle.gate_log.specs.State.{other_log}
use Rattle.core_store.specs.JournalView.{JournalView, cells_of}
use Rattle.core_store.specs.Limited.{is_past_limit}
use Rattle.core_store.specs.Safe.{IsSafe}
use Rattle.logged_journal.specs.declared.failed.FailedCall.{FailedCall}
use Rattle.logged_journal.specs.View.{LoggedView, history_of, OnlyTakesRoom}
use Rattle.logged_journal.specs.Opens.{OpensAfter}
use Rattle.logged_journal.specs.Upkeep.{IsPastLogToTurn, IsTurned, Turns}
use Rattle.object_store.specs.declared.error.StoreError.TheVariants as error
use Rattle.object_store.specs.Seen.{object_slots, state_of, IsQuiet}
use Rattle.object_store.specs.Upkeep.{TurnsLog, StaysUnturned, OpensToReach}
use Rattle.object_store.proofs.CollectLaws.{same_back}

-- ---- the log is turned, or isn't

-- nothing moved but the disk and the log
pub turned : {D : Type 0} (may_leave : D → Area → List ℕ → Type 0) (u v : LoggedView D) → Turns object_slots u v → EachImage may_leave v.disk (IsTurned object_slots (cells_of u.journal) (other_log u.log.area)) → TurnsLog may_leave u v
turned may_leave u v t i = record {
  same = ap (λ (j : JournalView). end_of j.history) t.does.journal ∙ end_of-with_entry u.journal.history Hidden;
  turns = t;
  images = i;
}

pub unturned_full : {D : Type 0} (u v : LoggedView D) → u.failed ≡ None → is_past_limit u.journal 1 ≡ true → v ≡ record u { journal = record u.journal { marks = record u.journal.marks { trace = true } } } → StaysUnturned error.HistoryFull u v
unturned_full {D} u v running full is = record {
  cause = full;
  same = ap (λ (x : LoggedView D). end_of x.journal.history) is;
  running = ap (λ (x : LoggedView D). x.failed) is ∙ running;
  disk = record { disk = ap (λ (x : LoggedView D). x.disk) is; durable = ap (λ (x : LoggedView D). x.durable) is };
}

pub unturned_log : {D : Type 0} (u v : LoggedView D) → u.failed ≡ None → IsPastLogToTurn object_slots u → OnlyTakesRoom (record u { log_full = true }) v → StaysUnturned error.LogFull u v
unturned_log {D} u v running past is = record {
  cause = past;
  same = ap (λ (x : LoggedView D). end_of x.journal.history) is;
  running = ap (λ (x : LoggedView D). x.failed) is ∙ running;
  disk = record { disk = ap (λ (x : LoggedView D). x.disk) is; durable = ap (λ (x : LoggedView D). x.durable) is };
}

pub unturned_memory : {D : Type 0} (u v : LoggedView D) → u.failed ≡ None → OnlyTakesRoom u v → StaysUnturned error.Memory u v
unturned_memory {D} u v running is = record {
  cause = tt;
  same = ap (λ (x : LoggedView D). end_of x.journal.history) is;
  running = ap (λ (x : LoggedView D). x.failed) is ∙ running;
  disk = record { disk = ap (λ (x : LoggedView D). x.disk) is; durable = ap (λ (x : LoggedView D). x.durable) is };
}

-- no client is active
pub no_least : (s : State) (pass : ℕ) → IsQuiet s → least_active s ≢ Some pass
no_least s pass q e = absurd (let none : least_active s ≡ None = ap (λ (es : List (ℕ × ActiveTransaction)). least_active (record s { active = es })) q in cc)

-- ---- what a power loss leaves

none_first : (a b : Bool) → (not a || b) ≡ false → (a ≡ true) × (b ≡ false)
none_first true b h = (refl, h)
none_first false b h = absurd (cc)

-- where each commit was acknowledged, none is left out
all_kept : (cs : List CommitPoint) → list_any (λ (c : CommitPoint). not c.acknowledged) cs ≡ false → (n : ℕ) → n ≤ length cs → All (λ (c : CommitPoint). c.acknowledged ≡ false) (drop n cs) → n ≡ length cs
all_kept [] h n le a = omega (arith, le)
all_kept (c ∷ cs) h zero le a =
    let one = none_first c.acknowledged (list_any (λ (x : CommitPoint). not x.acknowledged) cs) h in
    let lost = recursion_from_All (λ (x : CommitPoint). x.acknowledged ≡ false) (c ∷ cs) a in
    let kept : c.acknowledged ≡ true = one.0 in
    let gone : c.acknowledged ≡ false = lost.0 in
    absurd (cc (kept, gone))
all_kept (c ∷ cs) h (suc n) le a =
    let one = none_first c.acknowledged (list_any (λ (x : CommitPoint). not x.acknowledged) cs) h in
    let few : n ≤ length cs = omega (arith, le) in
    ap suc (all_kept cs one.1 n few a)

-- a graph that a crash may leave then has the reach of the committed one
kept_reach : (m : Moment) (g : List Object) → is_stopped m ≡ false → IsSettled m → IsCrashConsistent m g → SameReachable g m.state.committed
kept_reach m g running settled c =
    let all : c.prefix ≡ length m.commits = all_kept m.commits running c.prefix c.within c.has_acknowledged in
    same-same g (graph_after m (length m.commits)) m.state.committed (subst (λ n. SameReachable g (graph_after m n)) all c.reachable) (same_back m.state.committed (graph_after m (length m.commits)) settled)

-- the history with no failed commit
history_kept : {D : Type 0} (v : LoggedView D) → v.failed ≡ None → history_of v ≡ v.journal.history
history_kept v e = ap (λ (f : Option FailedCall). option_map_or (λ client. with_entry v.journal.history (Call client Commit DiskFault)) (option_and_then (λ (x : FailedCall). x.commit) f) v.journal.history) e

-- each image that opens after this history opens to what the root reaches
pub opens_reach : {D : Type 0} (v : LoggedView D) → v.failed ≡ None → is_stopped (end_of v.journal.history) ≡ false → IsSettled (end_of v.journal.history) → (image : Bytes) → OpensAfter object_slots (history_of v) image → OpensToReach (state_of v).committed image
opens_reach v none running settled image o =
    let crash : IsCrashConsistent (end_of v.journal.history) (graph_of o.cells) = subst (λ (h : History). IsCrashConsistent (end_of h) (graph_of o.cells)) (history_kept v none) o.graph in
    record { cells = o.cells; opened = o.opened; reach = kept_reach (end_of v.journal.history) (graph_of o.cells) running settled crash }

-- so at each moment of a checkpoint
pub turn_opens : {D : Type 0} (moment : D → ℕ) (left_since : D → ℕ → Bytes → Type 0) (v w x : LoggedView D) (j : JournalView) → v.failed ≡ None → x ≡ v → j ≡ x.journal → is_stopped (end_of j.history) ≡ false → IsSafe j
    → LeavesOnlyImages moment left_since v.disk w.disk (OpensAfter object_slots (history_of v)) → LeavesOnlyImages moment left_since v.disk w.disk (OpensToReach (state_of v).committed)
turn_opens {D} moment left_since v w x j none is of running safe opens =
    let at : j ≡ v.journal = of ∙ ap (λ (y : LoggedView D). y.journal) is in
    weaken (OpensToReach (state_of v).committed)
    (opens_reach v none (subst (λ (y : JournalView). is_stopped (end_of y.history) ≡ false) at running) (subst (λ (y : JournalView). IsSettled (end_of y.history)) at safe.settled))
    opens
