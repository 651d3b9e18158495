use Rattle.std.proofs.Common.{rules, false, ◌≡◌, ◌∙◌, ap, sym}
use Rattle.script_lines.specs.Fields.{fields_of}
use Rattle.script_lines.specs.Grammar.{request_of, is_comment}
use Rattle.script_lines.proofs.GrammarLemmas.{request_of-many, line_of_client, meaning_of_client}
use Rattle.script_lines.proofs.grammar.meaning_of.Goals as goal

pub returns-in_err-operands_of-clause-value : goal.returns-in_err-operands_of-clause-value
returns-in_err-operands_of-clause-value c =
    let party = c.in-Some.party.now in
    let verb = c.in-Some-next_verb.word.now in
    let rest = fields_of c.in-Some-next_verb.rest.now in
    let many = request_of-many c.in-Some-client_of.client c.in_ok-verb.field-0 rest c.in_err-operands_of.ensures in
    let of_client = line_of_client c.in-Some-client_of.client party verb rest (sym c.in-Some-client_of.ensures.value) in
    search rules

pub returns-in_err-verb-clause-value : goal.returns-in_err-verb-clause-value
returns-in_err-verb-clause-value c =
    let party = c.in-Some.party.now in
    let verb = c.in-Some-next_verb.word.now in
    let rest = fields_of c.in-Some-next_verb.rest.now in
    let of_client = line_of_client c.in-Some-client_of.client party verb rest (sym c.in-Some-client_of.ensures.value) in
    search rules

pub returns-in-Some-client_of-clause-value : goal.returns-in-Some-client_of-clause-value
returns-in-Some-client_of-clause-value c =
    let client = c.in-Some-client_of.client in
    let verb = c.in_ok-verb.field-0 in
    let party = c.in-Some.party.now in
    let rest = c.in-Some.rest.now in
    let behind = c.in-Some-next_verb.rest.now in
    let plain : is_comment party ≡ false = sym c.if-is_comment.ensures in
    let meant = meaning_of_client client verb c.args.line.now party rest c.in-Some-next_verb.word.now behind c.in-Some.ensures c.in-Some-next_verb.ensures.0 plain (sym c.in-Some-client_of.ensures.value) (sym c.in-Some-next_verb.ensures.1 ∙ c.in_ok-verb.was) in
    c.request_of.ensures.value ∙ ap (request_of client verb) (sym c.in_ok-operands_of.ensures) ∙ sym meant
