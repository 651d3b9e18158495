use Rattle.std.proofs.Common.{◌∷◌, refl, sym, ap, ◌∙◌}
use Rattle.core_store.proofs.MapLaws.{none_from}
use Rattle.object_map.proofs.RangeLaws.{gives_none, gives_past, gives_pair}
use Rattle.object_map.proofs.range.Range.take.Goals as goal

pub returns-in_default : goal.returns-in_default
returns-in_default c = record { gives = λ pairs a e. (gives_none c.args.self.now pairs c.requires.more (sym (none_from c.args.found (λ x is. c.in_default.not-Some x is)) ∙ e), refl) }

pub returns-then-pair-self : goal.returns-then-pair-self
returns-then-pair-self c = record { gives = λ pairs a e. (gives_past c.args.self.now pairs c.in-Some.pair.0 c.in-Some.pair.1 c.requires.more a (sym c.in-Some.is ∙ e) c.if-pair-self.true, refl) }

pub returns : goal.returns
returns c = record {
  gives = λ pairs a e. gives_pair c.args.self.now pairs c.in-Some.pair.0 c.in-Some.pair.1 c.requires.more a (sym c.in-Some.is ∙ e) c.if-pair-self.false ∙ ap (λ ps. c.in-Some.pair ∷ ps) (sym (c.after-self.ensures pairs));
}
