use Rattle.std.proofs.Common.{false, sym, ◌∙◌, arith}
use Rattle.std.proofs.lemmas.List.{get_or_default}
use Rattle.core_store.proofs.FreeIdLaws.{none-next}
use Rattle.core_store.proofs.free_ids.next_free.Goals as goal

pub loop-id-init : goal.loop-id-init
loop-id-init c = λ k low high. absurd (omega (arith, low, high))

pub returns-then-index : goal.returns-then-index
returns-then-index c =
    let row = c.args.row.now.items in
    let id = c.loop-id.id in
    let from = c.loop-id.auto.id in
    let until = c.loop-id-test.true in
    let long = c.requires.length in
    record {
      above = omega (arith, from);
      within = omega (arith, until);
      stored = c.loop-id.invariant;
      found = λ l. get_or_default row id false c.index.result.now (omega (arith, until, long)) ∙ (sym c.index.ensures ∙ c.if-index.true);
    }

pub loop-id-preserved : goal.loop-id-preserved
loop-id-preserved c =
    let row = c.args.row.now.items in
    let id = c.loop-id.id in
    let until = c.loop-id-test.true in
    let long = c.requires.length in
    none-next row c.args.from id c.loop-id.invariant (get_or_default row id false c.index.result.now (omega (arith, until, long)) ∙ (sym c.index.ensures ∙ c.if-index.false))

pub returns : goal.returns
returns c =
    let all = c.loop-id-test.false in
    let within = c.requires.within in
    record {
      above = omega (arith, within);
      within = omega arith;
      stored = λ k low high. c.loop-id.invariant k low (omega (arith, high, all));
      found = λ l. absurd (omega (arith, l));
    }
