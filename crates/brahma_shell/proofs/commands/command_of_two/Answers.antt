use Rattle.std.proofs.Common.{◌≡◌, codes, rules, ap}
use Rattle.std.specs.Prelude.{Option, option_map, ℕ}
use Rattle.std.proofs.lemmas.Slice.Eq.{text_from_reads}
use Rattle.brahma_shell.specs.declared.commands.Command.TheVariants.{ParAudit}
use Rattle.brahma_shell.proofs.commands.command_of_two.Goals as goal

pub returns-in_ok-pages_of-in-paudit : goal.returns-in_ok-pages_of-in-paudit
returns-in_ok-pages_of-in-paudit c =
    let e : c.args.word.now ≡ codes "paudit" = search (rules, text_from_reads) in
    rw e (ap (λ (found : Option ℕ). option_map ParAudit found) c.in_ok-pages_of-in-paudit.ensures.value)
