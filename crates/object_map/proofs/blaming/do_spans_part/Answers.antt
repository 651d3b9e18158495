use Rattle.object_map.proofs.SpanLaws.{low_stray, high_stray, lows_differ, spans_part}
use Rattle.object_map.proofs.blaming.do_spans_part.Goals as goal

pub returns-then-not-are_on_side-clause-no : goal.returns-then-not-are_on_side-clause-no
returns-then-not-are_on_side-clause-no c = λ e. low_stray c.args.low c.args.high c.args.bit (c.are_on_side.ensures.no c.if-not-are_on_side.true)

pub returns-then-not-are_on_side-2-clause-no : goal.returns-then-not-are_on_side-2-clause-no
returns-then-not-are_on_side-2-clause-no c = λ e. high_stray c.args.low c.args.high c.args.bit (c.are_on_side-2.ensures.no c.if-not-are_on_side-2.true)

pub returns-clause-yes : goal.returns-clause-yes
returns-clause-yes c = λ e. spans_part c.args.low c.args.high c.args.bit (c.are_on_side.ensures.yes c.if-not-are_on_side.false) (c.are_on_side-2.ensures.yes c.if-not-are_on_side-2.false) (c.do_agree.ensures.yes e)

pub returns-clause-no : goal.returns-clause-no
returns-clause-no c = λ e. lows_differ c.args.low c.args.high c.args.bit (c.do_agree.ensures.no e)
