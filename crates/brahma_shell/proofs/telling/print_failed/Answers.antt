use Rattle.std.proofs.Common.{sym, ◌∙◌}
use Rattle.brahma_shell.proofs.TellLemmas.{err-of_text, text-failed}
use Rattle.brahma_shell.proofs.telling.print_failed.Goals as goal

pub returns-in-Some-commit-clause-err : goal.returns-in-Some-commit-clause-err
returns-in-Some-commit-clause-err g c = err-of_text c.print.result _ _ _ _ _ _ (c.as_bytes.ensures.value ∙ c.as_str.ensures.value ∙ c.call_line.ensures ∙ sym (text-failed c.args.failed c.in-Some.failed c.in-Some-commit.client c.in-Some.is c.in-Some-commit.is)) c.print.ensures.err
