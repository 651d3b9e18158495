use Rattle.std.proofs.Common.{ℕ, ◌==◌, [], arith, ap, ◌∙◌, get_or}
use Rattle.std.specs.Prelude.{count_by}
use Rattle.std.proofs.lemmas.List.Sums.{sum_by_more}
use Rattle.store_model.specs.Core.{Copy}
use Rattle.green_walk.proofs.counts.take_off_all.Goals as goal

pub loop-place-preserved : goal.loop-place-preserved
loop-place-preserved g c = record {
  less = λ place l.
      let id = get_or c.args.red.now.list place 0 in
      let d : ℕ × Copy = (0, record { targets = []; strong = 0; weak = 0 }) in
      let now = c.take_off.ensures.less place l in
      let before = c.loop-place.invariant.less place l in
      let more = sum_by_more (λ (e : ℕ × Copy). count_by (λ t. t == id) e.1.targets) c.args.red.now.copies c.loop-place.place d (grind (arith, c.loop-place-test.true, c.list-list.ensures.ids, c.requires.copied)) in
      let here = ap (λ ts. count_by (λ t. t == id) ts) (c.targets.ensures d) in
      omega (arith, now, before, more, here);
  len = c.take_off.ensures.len ∙ c.loop-place.invariant.len;
}
