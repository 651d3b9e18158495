use Rattle.brahma_shell.proofs.client_lines.take_line.Goals as goal

pub returns-in-Ok-clause-taken : goal.returns-in-Ok-clause-taken
returns-in-Ok-clause-taken c = λ asked of.
    let may = c.in-Some.ensures.value in
    let t = c.in-Ok.ensures.taken asked of in
    (c.in-Some.line, record { accepted = may.0; asks = may.1; in_turn = t.0 }, t.1)
