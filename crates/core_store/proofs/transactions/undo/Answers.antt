use Rattle.std.proofs.Common.{ap, sym, ◌∙◌}
use Rattle.std.specs.Map.{set_value}
use Rattle.std.specs.Ordering.{nat_cmp}
use Rattle.std.specs.BTreeMap.{is_at}
use Rattle.core_store.specs.Transactions.{Running}
use Rattle.core_store.proofs.MapLaws.{set-own}
use Rattle.core_store.proofs.transactions.undo.Goals as goal

pub returns-clause-none : goal.returns-clause-none
returns-clause-none c = λ e.
    let es = c.args.transactions.now.entries in
    ap (λ (t : Running). set_value (is_at (nat_cmp c.args.pass)) es t) (c.undo.ensures.none e).1 ∙ set-own c.args.pass c.in_ok-get_mut.field-0.now es (sym c.in_ok-get_mut.ensures.value)
