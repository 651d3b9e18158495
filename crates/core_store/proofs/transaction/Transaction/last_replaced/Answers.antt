use Rattle.std.proofs.Common.{List, None, ap, ◌∙◌}
use Rattle.std.specs.List.{last_or}
use Rattle.plain_model.specs.declared.write.Write.{Write}
use Rattle.core_store.specs.Transactions.{Running}
use Rattle.core_store.proofs.ReplacedLists.{slice_get-last}
use Rattle.core_store.proofs.transaction.Transaction.last_replaced.Goals as goal

pub returns : goal.returns
returns c = c.copied.ensures ∙ (c.last.ensures.value ∙ (slice_get-last c.deref.result.now ∙ (ap (λ (ws : List Write). last_or None ws) c.deref.ensures.value ∙ ap (λ (t : Running). last_or None t.replaced) c.self.view_is)))
