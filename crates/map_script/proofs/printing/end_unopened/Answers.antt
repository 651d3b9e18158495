use Rattle.map_script.proofs.printing.end_unopened.Goals as goal

pub returns-in-NoMap-clause-last : goal.returns-in-NoMap-clause-last
returns-in-NoMap-clause-last g c =
    rw c.in-NoMap.is (rw (c.as_bytes-in-NoMap.ensures.value, c.as_str-in-NoMap.ensures.value, c.no_map_line.ensures) at c.write_last-in-NoMap.ensures.ends)
