use Rattle.std.proofs.Common.{sym, ap, ◌∙◌}
use Rattle.plain_model.specs.Text.{line_of}
use Rattle.brahma_shell.proofs.TellLemmas.{err-of_text}
use Rattle.brahma_shell.proofs.telling.print_entry.Goals as goal

pub returns-in-Call-clause-err : goal.returns-in-Call-clause-err
returns-in-Call-clause-err g c = err-of_text c.print.result _ _ _ _ _ _ (c.as_bytes.ensures.value ∙ c.as_str.ensures.value ∙ c.call_line.ensures ∙ ap line_of (sym c.in-Call.is)) c.print.ensures.err

pub returns-in-Delete-clause-err : goal.returns-in-Delete-clause-err
returns-in-Delete-clause-err g c = err-of_text c.print_deletion.result _ _ _ _ _ _ (ap line_of (sym c.in-Delete.is)) c.print_deletion.ensures.err

pub returns-in-TurnBusy-clause-err : goal.returns-in-TurnBusy-clause-err
returns-in-TurnBusy-clause-err g c = err-of_text c.print-in-TurnBusy.result _ _ _ _ _ _ (c.as_bytes-in-TurnBusy.ensures.value ∙ c.as_str-in-TurnBusy.ensures.value ∙ c.turn_busy_line.ensures ∙ ap line_of (sym c.in-TurnBusy.is)) c.print-in-TurnBusy.ensures.err
