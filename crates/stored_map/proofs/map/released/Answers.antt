use Rattle.std.proofs.Common.{refl, ap}
use Rattle.logged_journal.specs.View.{LoggedView}
use Rattle.stored_map.specs.declared.kept.Released.TheVariants as released
use Rattle.stored_map.proofs.KeptLaws.{idle_limits, looking_limits, stopped_limits, not_taken}
use Rattle.stored_map.proofs.map.released.Goals as goal

pub returns-in-Idle-clause-released : goal.returns-in-Idle-clause-released
returns-in-Idle-clause-released g c = rw c.in-Idle.is (ap (λ (v : LoggedView _). released.Open v) c.into_logged.ensures)

pub returns-in-Looking-clause-released : goal.returns-in-Looking-clause-released
returns-in-Looking-clause-released g c = rw c.in-Looking.is (ap (λ (v : LoggedView _). released.Open v) c.into_logged-in-Looking.ensures)

pub returns-in-Stopped-clause-released : goal.returns-in-Stopped-clause-released
returns-in-Stopped-clause-released g c = rw c.in-Stopped.is (ap (λ (v : LoggedView _). released.Open v) c.into_logged-in-Stopped.ensures)

pub returns-in-Idle-clause-limits : goal.returns-in-Idle-clause-limits
returns-in-Idle-clause-limits g c = idle_limits c.args.kept c.in-Idle.store c.into_logged.result c.in-Idle.is c.requires.kept c.into_logged.ensures

pub returns-in-Looking-clause-limits : goal.returns-in-Looking-clause-limits
returns-in-Looking-clause-limits g c = looking_limits c.args.kept c.in-Looking.store c.into_logged-in-Looking.result c.in-Looking.is c.requires.kept c.into_logged-in-Looking.ensures

pub returns-in-Stopped-clause-limits : goal.returns-in-Stopped-clause-limits
returns-in-Stopped-clause-limits g c = stopped_limits c.args.kept c.in-Stopped.store c.into_logged-in-Stopped.result c.in-Stopped.is c.requires.kept c.into_logged-in-Stopped.ensures

pub returns-in-Shut-clause-released : goal.returns-in-Shut-clause-released
returns-in-Shut-clause-released g c = rw c.in-Shut.is refl

pub unreachable-requires : goal.unreachable-requires
unreachable-requires g c = not_taken c.args.kept c.in-Taken.is c.requires.kept
