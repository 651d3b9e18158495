-- What a call of a store is to its journal.
use Rattle.std.proofs.Common.{◌≡◌, ℕ, ◌≤◌, true, [], None, refl, sym, ap, subst, ◌∙◌, arith}
use Rattle.core_store.specs.JournalView.{JournalView}
use Rattle.logged_journal.specs.View.{LoggedView}
use Rattle.brahma_shell.specs.Growth.{Grows, GrowsBy, BecomesFull}
use Rattle.brahma_shell.specs.Log.{TellsFull}
use Rattle.brahma_shell.proofs.GrowthLemmas.{Grows-none}

pub marked-full : (j k : JournalView) → k ≡ record j { marks = record j.marks { trace = true } } → BecomesFull j k
marked-full j k e = record {
  grows = subst (λ (x : JournalView). Grows j x []) (sym e) (record { notes = none.notes; history = none.history; opening = refl; limits = refl });
  marked = ap (λ (x : JournalView). x.marks.trace) e;
}
  where
    none : Grows j j []
    none = Grows-none j

pub same-memory : (j k : JournalView) → k ≡ j → GrowsBy j k []
same-memory j k e = record { more = []; entries = refl; grows = subst (λ (x : JournalView). Grows j x []) (sym e) (Grows-none j); unmarked = ap (λ (x : JournalView). x.marks) e }

-- the collector has only looked
pub looked : (i j : JournalView) → j ≡ record i { round = j.round } → Grows i j []
looked i j e = subst (λ (x : JournalView). Grows i x []) (sym e) (record { notes = none.notes; history = none.history; opening = refl; limits = refl })
  where
    none : Grows i i []
    none = Grows-none i

-- a call is answered that the log is full, and nothing else changes
pub fills-log : {D : Type 0} (faults : D → ℕ) (v k : LoggedView D) → v.failed ≡ None → k ≡ record v { log_full = true } → GrowsBy v.journal k.journal [] × TellsFull faults v k
fills-log {D} faults v k r e = (
  same-memory v.journal k.journal (ap (λ (x : LoggedView D). x.journal) e),
  record {
    running = ap (λ (x : LoggedView D). x.failed) e ∙ r;
    marked = ap (λ (x : LoggedView D). x.log_full) e;
    later = subst (λ (x : LoggedView D). faults v.disk ≤ faults x.disk) (sym e) same;
  },
)
  where
    same : faults v.disk ≤ faults v.disk
    same = omega arith

-- the collector has only looked, and is answered that the log is full
pub fills-looked : {D : Type 0} (faults : D → ℕ) (v k : LoggedView D) (j : JournalView) → v.failed ≡ None → j ≡ record v.journal { round = j.round } → k ≡ record v { journal = j; log_full = true } → GrowsBy v.journal k.journal [] × TellsFull faults v k
fills-looked {D} faults v k j r e m = (
  record {
    more = [];
    entries = refl;
    grows = subst (λ (x : JournalView). Grows v.journal x []) (sym (ap (λ (x : LoggedView D). x.journal) m)) (looked v.journal j e);
    unmarked = ap (λ (x : LoggedView D). x.journal.marks) m ∙ ap (λ (x : JournalView). x.marks) e;
  },
  record {
    running = ap (λ (x : LoggedView D). x.failed) m ∙ r;
    marked = ap (λ (x : LoggedView D). x.log_full) m;
    later = subst (λ (x : LoggedView D). faults v.disk ≤ faults x.disk) (sym m) same;
  },
)
  where
    same : faults v.disk ≤ faults v.disk
    same = omega arith
