use Rattle.std.proofs.Common.{◌∙◌}
use Rattle.brahma_shell.proofs.TellLemmas.{err-of_text}
use Rattle.brahma_shell.proofs.telling.print_deletion.Goals as goal

pub returns-clause-err : goal.returns-clause-err
returns-clause-err g c = err-of_text c.print.result _ _ _ _ _ _ (c.as_bytes.ensures.value ∙ c.as_str.ensures.value ∙ c.delete_line.ensures) c.print.ensures.err
