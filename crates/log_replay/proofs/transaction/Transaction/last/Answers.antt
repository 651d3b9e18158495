use Rattle.std.proofs.Common.{◌≡◌, List, ap, ◌∙◌, subst, Some, None}
use Rattle.std.specs.Prelude.{IfSome}
use Rattle.std.specs.List.{last_or}
use Rattle.restart_laws.specs.Unended.{Unended}
use Rattle.log_replay.specs.declared.transaction.Write.{Write}
use Rattle.log_replay.specs.Steps.{change_by}
use Rattle.log_replay.proofs.WriteLists.{slice_get-last, last-some}
use Rattle.log_replay.proofs.transaction.Transaction.last.Goals as goal

pub returns-clause-some : goal.returns-clause-some
returns-clause-some c =
    let is : c.copied.result ≡ last_or None c.self.inside.changes.items = c.copied.ensures ∙ (c.last.ensures.value ∙ (slice_get-last c.deref.result.now ∙ ap (λ (ws : List Write). last_or None ws) c.deref.ensures.value)) in
    subst (λ (t : Unended). IfSome c.copied.result (λ w. last_or None t.changes ≡ Some (change_by w))) c.self.view_is (last-some c.self.inside.changes.items c.copied.result is)
