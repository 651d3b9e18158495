use Rattle.std.proofs.Common.{◌+◌, ◌-◌, take, drop, length}
use Rattle.std.proofs.lemmas.List.{take_rest}
use Rattle.script_lines.proofs.FieldLemmas.{fields_of-none, fields_of-before, fields_of-last}
use Rattle.map_calls.proofs.fields.next_field.Goals as goal

pub returns-in-Some-blank_start : goal.returns-in-Some-blank_start
returns-in-Some-blank_start c =
    let bytes = c.args.bytes.now in
    let start = c.in-Some.start in
    let end = c.in-Some-blank_start.end in
    let field = take (length bytes - start) (drop start bytes) in
    rw (take_rest field (end + 1)) (fields_of-before bytes field start end c.in-Some.ensures (take_rest bytes start) c.in-Some-blank_start.ensures)

pub returns-in-None : goal.returns-in-None
returns-in-None c =
    let bytes = c.args.bytes.now in
    let start = c.in-Some.start in
    let field = take (length bytes - start) (drop start bytes) in
    rw (take_rest field (length field)) (fields_of-last bytes field start c.in-Some.ensures (take_rest bytes start) c.in-None.ensures)

pub returns-in_default : goal.returns-in_default
returns-in_default c = fields_of-none c.args.bytes.now c.in_default.ensures
