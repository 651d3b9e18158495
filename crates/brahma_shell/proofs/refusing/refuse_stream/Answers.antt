use Rattle.brahma_shell.proofs.refusing.refuse_stream.Goals as goal

pub returns-clause-last : goal.returns-clause-last
returns-clause-last g c = rw (c.as_bytes.ensures.value, c.as_str.ensures.value, c.stream_line.ensures) at c.write_last.ensures.ends
