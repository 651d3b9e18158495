use Rattle.std.proofs.Common.{◌≡◌, ◌∷◌, drop, rules}
use Rattle.script_lines.proofs.VerbLemmas.{four_in_front, set_in_front, get_in_front}
use Rattle.script_lines.proofs.verb.next_verb.Goals as goal

pub returns-in-115 : goal.returns-in-115
returns-in-115 c =
    let is : c.args.bytes.now ≡ 115 ∷ 101 ∷ 116 ∷ 32 ∷ drop 4 c.args.bytes.now = search (rules, four_in_front) in
    set_in_front c.args.bytes.now (drop 4 c.args.bytes.now) is

pub returns-in-103 : goal.returns-in-103
returns-in-103 c =
    let is : c.args.bytes.now ≡ 103 ∷ 101 ∷ 116 ∷ 32 ∷ drop 4 c.args.bytes.now = search (rules, four_in_front) in
    get_in_front c.args.bytes.now (drop 4 c.args.bytes.now) is
