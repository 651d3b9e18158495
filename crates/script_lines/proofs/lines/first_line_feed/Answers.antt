use Rattle.script_lines.proofs.LineLemmas.{first_place}
use Rattle.script_lines.proofs.lines.first_line_feed.Goals as goal

pub returns : goal.returns
returns c = first_place c.args.bytes.now c.memchr.result c.memchr.ensures
