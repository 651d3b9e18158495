use Rattle.std.proofs.Common.{◌≡◌, refl, sym, subst}
use Rattle.logged_journal.specs.View.{LoggedView}
use Rattle.object_map.specs.Clients.{IsClient, free_ids}
use Rattle.stored_map.specs.Stores.{state_in}
use Rattle.stored_map.specs.Steps.{Stays, KeepsMarks}
use Rattle.stored_map.proofs.ViewLaws.{client_one, goes_idle}
use Rattle.stored_map.proofs.KeptLaws.{abort_idles}
use Rattle.stored_map.proofs.transacting.abort.Goals as goal

pub abort-requires-clause-client : goal.abort-requires-clause-client
abort-requires-clause-client g c κs within = subst (λ (v : LoggedView _). IsClient v 1) (sym c.into_store-store.ensures.store) (client_one c.args.client c.requires.at_work.number c.into_store-store.ensures.client)

pub returns-clause-kept : goal.returns-clause-kept
returns-clause-kept g c = (
  c.abort.new.store,
  refl,
  subst (λ (u : LoggedView _). Stays u c.abort.new.store) c.into_store-store.ensures.store c.abort.ensures.stays,
  subst (λ (u : LoggedView _). KeepsMarks u c.abort.new.store) c.into_store-store.ensures.store c.abort.ensures.marks,
  subst (λ (u : LoggedView _). free_ids (state_in c.abort.new.store) ≡ free_ids (state_in u)) c.into_store-store.ensures.store c.abort.ensures.free,
)

pub returns-clause-idle : goal.returns-clause-idle
returns-clause-idle g c =
    abort_idles c.args.client c.abort.new.store c.requires.at_work
    (subst (λ (u : LoggedView _). Stays u c.abort.new.store) c.into_store-store.ensures.store c.abort.ensures.stays)
    (subst (λ (u : LoggedView _). KeepsMarks u c.abort.new.store) c.into_store-store.ensures.store c.abort.ensures.marks) c.abort.ensures.none

pub returns-clause-goes : goal.returns-clause-goes
returns-clause-goes g c =
    let i = returns-clause-idle g c in
    goes_idle g.D.Disk.faults g.D.Disk.may_leave c.abort.new.store i.quiet.unmarked c.know_left.ensures.known i.map (c.know_left.ensures.left i.quiet.running)
