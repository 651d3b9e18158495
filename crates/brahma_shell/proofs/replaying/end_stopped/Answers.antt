use Rattle.std.proofs.Common.{⊎_elim}
use Rattle.brahma_shell.proofs.replaying.end_stopped.Goals as goal

pub returns-in-Line-clause-last : goal.returns-in-Line-clause-last
returns-in-Line-clause-last g c = rw c.in-Line.is (rw (c.as_bytes.ensures.value, c.as_str.ensures.value, c.refused_line.ensures) at c.write_last.ensures.ends)

pub returns-in-Read-clause-last : goal.returns-in-Read-clause-last
returns-in-Read-clause-last g c = rw c.in-Read.is c.write_last-in-Read.ensures.ends

pub returns-in-Fault-clause-last : goal.returns-in-Fault-clause-last
returns-in-Fault-clause-last g c =
    let ends = c.write_last-in-Fault.ensures.ends in
    ⊎_elim (λ e. rw e ends) (λ h. ⊎_elim (λ e. rw e ends) (λ e. rw e ends) h) c.in-Fault.is

pub returns-in-Memory-clause-last : goal.returns-in-Memory-clause-last
returns-in-Memory-clause-last g c = rw c.in-Memory.is c.write_last-in-Memory.ensures.ends

pub returns-in-Full-clause-last : goal.returns-in-Full-clause-last
returns-in-Full-clause-last g c = rw c.in-Full.is c.write_last-in-Full.ensures.ends

pub returns-in-LogFull-clause-last : goal.returns-in-LogFull-clause-last
returns-in-LogFull-clause-last g c = rw c.in-LogFull.is c.write_last-in-LogFull.ensures.ends
