use Rattle.map_script.proofs.printing.end_stopped.Goals as goal

pub returns-in-Line-clause-last : goal.returns-in-Line-clause-last
returns-in-Line-clause-last g c = rw c.in-Line.is (rw (c.as_bytes.ensures.value, c.as_str.ensures.value, c.refused_line.ensures) at c.write_last.ensures.ends)

pub returns-in-Read-clause-last : goal.returns-in-Read-clause-last
returns-in-Read-clause-last g c = rw c.in-Read.is c.write_last-in-Read.ensures.ends
