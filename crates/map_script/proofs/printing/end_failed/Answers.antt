use Rattle.map_script.proofs.printing.end_failed.Goals as goal

pub returns-in-Disk-clause-last : goal.returns-in-Disk-clause-last
returns-in-Disk-clause-last g c = rw c.in-Disk.is c.write_last.ensures.ends

pub returns-in-HistoryFull-clause-last : goal.returns-in-HistoryFull-clause-last
returns-in-HistoryFull-clause-last g c = rw c.in-HistoryFull.is c.write_last-in-HistoryFull.ensures.ends

pub returns-in-LogFull-clause-last : goal.returns-in-LogFull-clause-last
returns-in-LogFull-clause-last g c = rw c.in-LogFull.is c.write_last-in-LogFull.ensures.ends

pub returns-in-Memory-clause-last : goal.returns-in-Memory-clause-last
returns-in-Memory-clause-last g c = rw c.in-Memory.is c.write_last-in-Memory.ensures.ends
