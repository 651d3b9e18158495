use Rattle.std.proofs.Common.{◌≤◌, refl, sym, subst}
use Rattle.logged_journal.specs.View.{LoggedView}
use Rattle.object_map.specs.Clients.{IsClient}
use Rattle.stored_map.specs.Stores.{IsUnmarked}
use Rattle.stored_map.specs.Steps.{Commits, LosesCommit}
use Rattle.stored_map.proofs.StepLaws.{unmarked_then}
use Rattle.stored_map.proofs.ViewLaws.{client_one, goes_idle, fails_on}
use Rattle.stored_map.proofs.KeptLaws.{commit_keeps, commit_idles, lost_limits}
use Rattle.stored_map.proofs.transacting.commit.Goals as goal

pub commit-requires-clause-client : goal.commit-requires-clause-client
commit-requires-clause-client g c κs within = subst (λ (v : LoggedView _). IsClient v 1) (sym c.into_store-store.ensures.store) (client_one c.args.client c.requires.at_work.number c.into_store-store.ensures.client)

pub commit-requires-clause-unmarked : goal.commit-requires-clause-unmarked
commit-requires-clause-unmarked g c κs within = subst (λ (v : LoggedView _). IsUnmarked v) (sym c.into_store-store.ensures.store) c.requires.at_work.unmarked

-- ---- it was done

pub returns-in-Ok-clause-done : goal.returns-in-Ok-clause-done
returns-in-Ok-clause-done g c =
    let k = subst (λ (u : LoggedView _). Commits g.D.Disk.faults u c.commit.new.store) c.into_store-store.ensures.store c.in-Ok.ensures.done in
    (c.commit.new.store, refl, k, c.know_left.ensures.known)

pub returns-in-Ok-clause-goes : goal.returns-in-Ok-clause-goes
returns-in-Ok-clause-goes g c =
    let k = subst (λ (u : LoggedView _). Commits g.D.Disk.faults u c.commit.new.store) c.into_store-store.ensures.store c.in-Ok.ensures.done in
    goes_idle g.D.Disk.faults g.D.Disk.may_leave c.commit.new.store (unmarked_then c.args.client.store c.commit.new.store c.requires.at_work.unmarked k.marks) c.know_left.ensures.known
    (commit_keeps g.D.Disk.faults c.args.client c.commit.new.store c.requires.at_work.number k c.requires.map) (c.know_left.ensures.left k.running)

pub returns-in-Ok-clause-later : goal.returns-in-Ok-clause-later
returns-in-Ok-clause-later g c = (subst (λ (u : LoggedView _). Commits g.D.Disk.faults u c.commit.new.store) c.into_store-store.ensures.store c.in-Ok.ensures.done).later

pub returns-in-Ok-clause-kept : goal.returns-in-Ok-clause-kept
returns-in-Ok-clause-kept g c =
    let k = subst (λ (u : LoggedView _). Commits g.D.Disk.faults u c.commit.new.store) c.into_store-store.ensures.store c.in-Ok.ensures.done in
    commit_idles g.D.Disk.faults c.args.client c.commit.new.store c.requires.at_work k c.requires.map

-- ---- it was lost

pub returns-in-Err-clause-failed : goal.returns-in-Err-clause-failed
returns-in-Err-clause-failed g c =
    let lost = subst (λ (u : LoggedView _). LosesCommit g.D.Disk.faults c.in-Err.failure u c.commit.new.store) c.into_store-store.ensures.store c.in-Err.ensures.lost in
    (c.commit.new.store, refl, fails_on g.D.Disk.faults g.D.Disk.may_leave c.args.client c.commit.new.store c.requires.at_work.number c.into_store-store.ensures.client c.requires.at_work.unmarked c.in-Err.failure c.know_left-in-Err.ensures.known lost c.know_left-in-Err.ensures.left c.know_left-in-Err.ensures.either)

pub returns-in-Err-clause-later : goal.returns-in-Err-clause-later
returns-in-Err-clause-later g c = subst (λ (u : LoggedView _). g.D.Disk.faults u.disk ≤ g.D.Disk.faults c.commit.new.store.disk) c.into_store-store.ensures.store c.commit.ensures.later

pub returns-in-Err-clause-kept : goal.returns-in-Err-clause-kept
returns-in-Err-clause-kept g c =
    let lost = subst (λ (u : LoggedView _). LosesCommit g.D.Disk.faults c.in-Err.failure u c.commit.new.store) c.into_store-store.ensures.store c.in-Err.ensures.lost in
    lost_limits g.D.Disk.faults c.in-Err.failure c.args.client.store c.commit.new.store c.requires.at_work.limits lost
