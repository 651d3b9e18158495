use Rattle.std.proofs.Common.{sym, ap, ◌∙◌}
use Rattle.object_map.specs.Trees.{above}
use Rattle.object_map.proofs.SpanLaws.{eq_test, ne_test, some_span, above_same, same_above}
use Rattle.object_map.proofs.blaming.do_agree.Goals as goal

pub returns-clause-yes : goal.returns-clause-yes
returns-clause-yes c = λ e s t p q.
    ap (λ k. above c.args.bit k) (some_span _ _ (sym p ∙ c.in-Some.is)).0 ∙ same_above c.args.bit c.in-Some.s.low c.in-Some-high.t.low (eq_test _ _ e) ∙ ap (λ k. above c.args.bit k) (sym (some_span _ _ (sym q ∙ c.in-Some-high.is)).0)

pub returns-clause-no : goal.returns-clause-no
returns-clause-no c = λ e. (c.in-Some.s, (c.in-Some-high.t, (c.in-Some.is, c.in-Some-high.is, (λ a. ne_test _ _ e (above_same c.args.bit c.in-Some.s.low c.in-Some-high.t.low a)))))
