use Rattle.std.proofs.Common.{sym, subst}
use Rattle.object_map.specs.Telling.{IsWithin, AreStray}
use Rattle.object_map.proofs.SpanLaws.{eq_test, ne_test, on_side, ends_differ, digit_differs}
use Rattle.object_map.proofs.blaming.are_on_side.Goals as goal

pub returns-then-low-high-clause-no : goal.returns-then-low-high-clause-no
returns-then-low-high-clause-no c = λ e. subst (λ o. AreStray o c.args.bit c.args.side) (sym c.in-Some.is) (ends_differ c.args.bit c.args.side c.in-Some.keys c.if-low-high.true)

pub returns-clause-yes : goal.returns-clause-yes
returns-clause-yes c = λ e j k v w. on_side c.args.bit c.args.side c.in-Some.keys c.if-low-high.false (eq_test _ _ e) j k (subst (λ o. IsWithin o j) c.in-Some.is v) (subst (λ o. IsWithin o k) c.in-Some.is w)

pub returns-clause-no : goal.returns-clause-no
returns-clause-no c = λ e. subst (λ o. AreStray o c.args.bit c.args.side) (sym c.in-Some.is) (digit_differs c.args.bit c.args.side c.in-Some.keys (ne_test _ _ e))
