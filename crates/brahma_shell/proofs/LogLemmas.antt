-- What calls leave of a log, one call after another.
use Rattle.std.proofs.Common.{◌≡◌, ℕ, Some, None, refl, sym, subst, ◌∙◌, arith}
use Rattle.logged_journal.specs.View.{LoggedView, failed_commit, history_of}
use Rattle.brahma_shell.specs.declared.replay.Stop.{Stop}
use Rattle.brahma_shell.specs.declared.replay.Stop.TheVariants as stop
use Rattle.brahma_shell.specs.Log.{StaysRunning, TellsFull, LosesCommit, LosesUpkeep}
use Rattle.brahma_shell.specs.Replay.{LeavesLog}

module _ {D : Type 0} (faults : D → ℕ) where
  pub StaysRunning-same : (v : LoggedView D) → v.failed ≡ None → StaysRunning faults v v
  StaysRunning-same v e = record { running = e; log_full = refl; later = omega arith }

  pub StaysRunning-trans : (a b d : LoggedView D) → StaysRunning faults a b → StaysRunning faults b d → StaysRunning faults a d
  StaysRunning-trans a b d g h = record { running = h.running; log_full = h.log_full ∙ g.log_full; later = omega (arith, g.later, h.later) }

  pub TellsFull-after : (a b d : LoggedView D) → StaysRunning faults a b → TellsFull faults b d → TellsFull faults a d
  TellsFull-after a b d g h = record { running = h.running; marked = h.marked; later = omega (arith, g.later, h.later) }

  pub LosesCommit-after : (client : ℕ) (a b d : LoggedView D) → StaysRunning faults a b → LosesCommit faults client b d → LosesCommit faults client a d
  LosesCommit-after client a b d g h = record { told = h.told; granted = h.granted; log_full = h.log_full ∙ g.log_full; rose = omega (arith, g.later, h.rose); later = omega (arith, g.later, h.later) }

  pub LosesUpkeep-after : (a b d : LoggedView D) → StaysRunning faults a b → LosesUpkeep faults b d → LosesUpkeep faults a d
  LosesUpkeep-after a b d g h = record { told = h.told; log_full = h.log_full ∙ g.log_full; rose = omega (arith, g.later, h.rose); later = omega (arith, g.later, h.later) }

  pub LeavesLog-after : (s : Stop) (a b d : LoggedView D) → StaysRunning faults a b → LeavesLog faults s b d → LeavesLog faults s a d
  LeavesLog-after (stop.Line k) a b d g h = StaysRunning-trans a b d g h
  LeavesLog-after stop.Read a b d g h = StaysRunning-trans a b d g h
  LeavesLog-after stop.Write a b d g h = StaysRunning-trans a b d g h
  LeavesLog-after stop.Memory a b d g h = StaysRunning-trans a b d g h
  LeavesLog-after stop.Full a b d g h = StaysRunning-trans a b d g h
  LeavesLog-after stop.LogFull a b d g h = TellsFull-after a b d g h
  LeavesLog-after stop.Fault a b d g h = StaysRunning-trans a b d g h
  LeavesLog-after stop.UpkeepFault a b d g h = StaysRunning-trans a b d g h
  LeavesLog-after stop.Stopped a b d g h = StaysRunning-trans a b d g h

  pub write-leaves : (s : Stop) (a b : LoggedView D) → s ≡ stop.Write → StaysRunning faults a b → LeavesLog faults s a b
  write-leaves s a b e g = subst (λ (t : Stop). LeavesLog faults t a b) (sym e) g

-- where the disk failed nothing it failed no commit
pub none-committed : {D : Type 0} (v : LoggedView D) → v.failed ≡ None → failed_commit v ≡ None
none-committed v e = rw e refl

-- where it failed upkeep neither
pub none-committed_lost : {D : Type 0} (faults : D → ℕ) (a b : LoggedView D) → LosesUpkeep faults a b → failed_commit b ≡ None
none-committed_lost faults a b h = rw h.told refl

-- where it failed a commit, that one
pub committed : {D : Type 0} (faults : D → ℕ) (client : ℕ) (a b : LoggedView D) → LosesCommit faults client a b → failed_commit b ≡ Some client
committed faults client a b h = rw h.told refl

-- where the disk failed no commit the history is the journal's
pub history-uncommitted : {D : Type 0} (v : LoggedView D) → failed_commit v ≡ None → history_of v ≡ v.journal.history
history-uncommitted v e = rw e refl

pub history-running : {D : Type 0} (v : LoggedView D) → v.failed ≡ None → history_of v ≡ v.journal.history
history-running v e = history-uncommitted v (none-committed v e)

pub history-lost : {D : Type 0} (faults : D → ℕ) (a b : LoggedView D) → LosesUpkeep faults a b → history_of b ≡ b.journal.history
history-lost faults a b h = history-uncommitted b (none-committed_lost faults a b h)
