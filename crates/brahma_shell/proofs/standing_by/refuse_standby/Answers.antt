use Rattle.brahma_shell.proofs.standing_by.refuse_standby.Goals as goal

pub returns-in-Read-clause-last : goal.returns-in-Read-clause-last
returns-in-Read-clause-last g c = rw c.in-Read.is c.write_last.ensures.ends

pub returns-in-Damaged-clause-last : goal.returns-in-Damaged-clause-last
returns-in-Damaged-clause-last g c = rw c.in-Damaged.is c.refuse_stream.ensures.last

pub returns-in-NoBase-clause-last : goal.returns-in-NoBase-clause-last
returns-in-NoBase-clause-last g c = rw c.in-NoBase.is c.refuse_stream-in-NoBase.ensures.last

pub returns-in-Unsound-clause-last : goal.returns-in-Unsound-clause-last
returns-in-Unsound-clause-last g c = rw c.in-Unsound.is c.refuse.ensures.last

pub returns-in-Disk-clause-last : goal.returns-in-Disk-clause-last
returns-in-Disk-clause-last g c = rw c.in-Disk.is c.refuse-in-Disk.ensures.last

pub returns-in-Memory-clause-last : goal.returns-in-Memory-clause-last
returns-in-Memory-clause-last g c = rw c.in-Memory.is c.refuse-in-Memory.ensures.last
