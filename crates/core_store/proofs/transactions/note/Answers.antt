use Rattle.std.proofs.Common.{◌≡◌, ap, sym, ◌∙◌}
use Rattle.std.specs.Map.{set_value}
use Rattle.std.specs.Ordering.{nat_cmp}
use Rattle.std.specs.BTreeMap.{is_at}
use Rattle.core_store.specs.Transactions.{Running}
use Rattle.core_store.proofs.MapLaws.{more_on_err, set-own}
use Rattle.core_store.proofs.transactions.note.Goals as goal

pub returns-in-Some-clause-err : goal.returns-in-Some-clause-err
returns-in-Some-clause-err c =
    let es = c.args.transactions.now.entries in
    more_on_err c.note.result _ _
    (λ (same : c.note.new.self ≡ c.in-Some.transaction.now).
    ap (λ (t : Running). set_value (is_at (nat_cmp c.args.pass)) es t) same ∙ set-own c.args.pass c.in-Some.transaction.now es (sym c.in-Some.ensures.value))
    c.note.ensures.err
