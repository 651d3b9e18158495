use Rattle.std.proofs.Common.{sym, subst, ◌∙◌, ◌≤◌}
use Rattle.std.specs.Prelude.{IfOk, IfErr, OnErr}
use Rattle.map_calls.specs.Views.{Fails}
use Rattle.object_map.specs.Clients.{ClientView}
use Rattle.stored_map.specs.declared.kept.Kept.{Kept}
use Rattle.stored_map.specs.Stores.{view_of, leaving}
use Rattle.stored_map.specs.Steps.{IsLooked}
use Rattle.stored_map.proofs.ViewLaws.{still_looked}
use Rattle.stored_map.proofs.KeptLaws.{not_stopped, not_shut, not_taken, is_idle, is_looking, only_of}
use Rattle.stored_map.proofs.transacting.begin.Goals as goal

-- ---- its transaction goes on

pub new-requires-clause-running : goal.new-requires-clause-running
new-requires-clause-running g c κs within = (is_looking c.args.kept.now c.in-Looking.store (sym c.replace.ensures.value ∙ c.in-Looking.is) c.requires.kept).begun.client.running

pub new-requires-clause-alone : goal.new-requires-clause-alone
new-requires-clause-alone g c κs within = only_of c.in-Looking.store 1 (is_looking c.args.kept.now c.in-Looking.store (sym c.replace.ensures.value ∙ c.in-Looking.is) c.requires.kept).begun.client

pub returns-in-Looking-clause-looked : goal.returns-in-Looking-clause-looked
returns-in-Looking-clause-looked g c =
    let is = sym c.replace.ensures.value ∙ c.in-Looking.is in
    let l = is_looking c.args.kept.now c.in-Looking.store is c.requires.kept in
    subst (λ (k : Kept _). IsLooked g.D.Disk.faults (view_of g.D.Disk.faults k) c.new.result) (sym is)
    (subst (λ (x : ClientView _). IsLooked g.D.Disk.faults (view_of g.D.Disk.faults (Kept.Looking c.in-Looking.store)) x) (sym c.new.ensures) (still_looked g.D.Disk.faults c.in-Looking.store l l.begun.client.alone.sound.committed))

-- ---- it begins

pub begin_at-requires-clause-idle : goal.begin_at-requires-clause-idle
begin_at-requires-clause-idle g c κs within = is_idle c.args.kept.now c.in-Idle.store (sym c.replace.ensures.value ∙ c.in-Idle.is) c.requires.kept

pub returns-in-Idle-clause-looked : goal.returns-in-Idle-clause-looked
returns-in-Idle-clause-looked g c =
    subst (λ (k : Kept _). IfOk c.begin_at.result (λ x. IsLooked g.D.Disk.faults (view_of g.D.Disk.faults k) x)) (sym c.in-Idle.is ∙ c.replace.ensures.value) c.begin_at.ensures.looked

pub returns-in-Idle-clause-failed : goal.returns-in-Idle-clause-failed
returns-in-Idle-clause-failed g c =
    subst (λ (k : Kept _). IfErr c.begin_at.result (λ f. Fails f (view_of g.D.Disk.faults k) (view_of g.D.Disk.faults c.begin_at.new.kept) (leaving g.D.Disk.may_leave c.begin_at.new.kept) (λ n. ⊥))) (sym c.in-Idle.is ∙ c.replace.ensures.value) c.begin_at.ensures.failed

pub returns-in-Idle-clause-later : goal.returns-in-Idle-clause-later
returns-in-Idle-clause-later g c =
    subst (λ (k : Kept _). OnErr c.begin_at.result ((view_of g.D.Disk.faults k).faults ≤ (view_of g.D.Disk.faults c.begin_at.new.kept).faults)) (sym c.in-Idle.is ∙ c.replace.ensures.value) c.begin_at.ensures.later

-- ---- nothing else runs

pub unreachable-requires : goal.unreachable-requires
unreachable-requires g c = not_stopped c.args.kept.now c.in-Stopped.field-0 (sym c.replace.ensures.value ∙ c.in-Stopped.is) c.requires.running

pub unreachable-requires-in-Shut : goal.unreachable-requires-in-Shut
unreachable-requires-in-Shut g c = not_shut c.args.kept.now c.in-Shut.field-0 (sym c.replace.ensures.value ∙ c.in-Shut.is) c.requires.running

pub unreachable-requires-in-Taken : goal.unreachable-requires-in-Taken
unreachable-requires-in-Taken g c = not_taken c.args.kept.now (sym c.replace.ensures.value ∙ c.in-Taken.is) c.requires.kept
