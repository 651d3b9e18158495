use Rattle.std.proofs.Common.{List, None, sym, ap, ◌∙◌}
use Rattle.std.specs.List.{last_or}
use Rattle.plain_model.specs.declared.write.Write.{Write}
use Rattle.core_store.specs.Transactions.{Running}
use Rattle.core_store.proofs.ReplacedLists.{last_or-push}
use Rattle.core_store.proofs.transaction.Transaction.undo.Goals as goal

pub returns-clause-last : goal.returns-clause-last
returns-clause-last c =
    sym (last_or-push None c.pop.new.self.items c.in_ok-replaced.replaced) ∙ (ap (λ (ws : List Write). last_or None ws) (sym c.in_ok-replaced.ensures.items) ∙ ap (λ (t : Running). last_or None t.replaced) c.self.view_is)
