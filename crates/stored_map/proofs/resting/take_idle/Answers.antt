use Rattle.std.proofs.Common.{sym, ap, ◌∙◌}
use Rattle.stored_map.specs.declared.kept.Kept.{Kept}
use Rattle.stored_map.specs.Stores.{view_of}
use Rattle.stored_map.proofs.KeptLaws.{not_stopped, not_shut, not_taken, is_idle, is_looking}
use Rattle.stored_map.proofs.RestLaws.{rest_idles, rest_view}
use Rattle.stored_map.proofs.resting.take_idle.Goals as goal

pub returns-in-Idle-clause-idle : goal.returns-in-Idle-clause-idle
returns-in-Idle-clause-idle g c = is_idle c.args.kept.now c.in-Idle.store (sym c.replace.ensures.value ∙ c.in-Idle.is) c.requires.kept

pub returns-in-Idle-clause-same : goal.returns-in-Idle-clause-same
returns-in-Idle-clause-same g c = ap (λ (k : Kept _). view_of g.D.Disk.faults k) (sym c.in-Idle.is ∙ c.replace.ensures.value)

pub abort-requires-clause-client : goal.abort-requires-clause-client
abort-requires-clause-client g c κs within = (is_looking c.args.kept.now c.in-Looking.store (sym c.replace.ensures.value ∙ c.in-Looking.is) c.requires.kept).begun.client

pub returns-in-Looking-clause-idle : goal.returns-in-Looking-clause-idle
returns-in-Looking-clause-idle g c =
    rest_idles c.in-Looking.store c.abort.new.store (is_looking c.args.kept.now c.in-Looking.store (sym c.replace.ensures.value ∙ c.in-Looking.is) c.requires.kept) c.abort.ensures.stays c.abort.ensures.marks c.abort.ensures.none

pub returns-in-Looking-clause-same : goal.returns-in-Looking-clause-same
returns-in-Looking-clause-same g c =
    rest_view g.D.Disk.faults c.in-Looking.store c.abort.new.store c.abort.ensures.stays c.abort.ensures.marks c.abort.ensures.free ∙ ap (λ (k : Kept _). view_of g.D.Disk.faults k) (sym c.in-Looking.is ∙ c.replace.ensures.value)

pub unreachable-requires : goal.unreachable-requires
unreachable-requires g c = not_stopped c.args.kept.now c.in-Stopped.field-0 (sym c.replace.ensures.value ∙ c.in-Stopped.is) c.requires.running

pub unreachable-requires-in-Shut : goal.unreachable-requires-in-Shut
unreachable-requires-in-Shut g c = not_shut c.args.kept.now c.in-Shut.field-0 (sym c.replace.ensures.value ∙ c.in-Shut.is) c.requires.running

pub unreachable-requires-in-Taken : goal.unreachable-requires-in-Taken
unreachable-requires-in-Taken g c = not_taken c.args.kept.now (sym c.replace.ensures.value ∙ c.in-Taken.is) c.requires.kept
