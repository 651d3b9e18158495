use Rattle.std.proofs.Common.{◌≡◌, None, ap, subst}
use Rattle.disk_model.specs.Told.{EachImage}
use Rattle.logged_journal.specs.View.{LoggedView}
use Rattle.stored_map.specs.declared.kept.Kept.TheVariants.{Stopped}
use Rattle.stored_map.specs.Stores.{state_in, OpensToSame}
use Rattle.stored_map.proofs.transacting.stop.Goals as goal

pub returns-clause-kept : goal.returns-clause-kept
returns-clause-kept g c = ap (λ (v : LoggedView _). Stopped v) c.into_store-store.ensures.store

pub returns-clause-left : goal.returns-clause-left
returns-clause-left g c =
    (subst (λ (v : LoggedView _). v.failed ≡ None → EachImage g.D.Disk.may_leave v.disk (OpensToSame (state_in v).ids (state_in v).committed)) c.into_store-store.ensures.store c.know_left.ensures.left) c.into_store-store.ensures.client.running
