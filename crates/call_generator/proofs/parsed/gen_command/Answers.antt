use Rattle.std.proofs.Common.{◌≡◌, ◌∙◌, ap₂, codes}
use Rattle.std.proofs.lemmas.Result.{IfOk-weaker}
use Rattle.clap.specs.Words.{rule_of, with_rule}
use Rattle.call_generator.specs.GenCommand.{option_rule}
use Rattle.call_generator.proofs.Built.{bare-is}
use Rattle.call_generator.proofs.parsed.gen_command.Goals as goal

pub returns : goal.returns
returns c =
    let none = bare-is c.new.result c.no_binary_name.result c.disable_help_flag.result c.disable_version_flag-command.result c.new.ensures.app c.no_binary_name.ensures c.disable_help_flag.ensures c.disable_version_flag-command.ensures in
    let seed : rule_of c.option.result ≡ option_rule (codes "seed") = c.option.ensures.rule in
    let clients : rule_of c.option-2.result ≡ option_rule (codes "clients") = c.option-2.ensures.rule in
    let txns : rule_of c.option-3.result ≡ option_rule (codes "txns") = c.option-3.ensures.rule in
    let one = c.in_ok-command.ensures.shape c.option.ensures.local ∙ ap₂ with_rule none seed in
    let two = c.in_ok-command-2.ensures.shape c.option-2.ensures.local ∙ ap₂ with_rule one clients in
    IfOk-weaker c.arg-3.result _ _ (λ r h. h.shape c.option-3.ensures.local ∙ ap₂ with_rule two txns) c.arg-3.ensures
