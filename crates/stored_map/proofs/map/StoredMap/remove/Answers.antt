use Rattle.std.proofs.Common.{◌≡◌, true, sym, subst}
use Rattle.std.specs.Prelude.{◌≤◌, IfOk, IfErr, OnOk}
use Rattle.plain_map.specs.Pairs.{value_of}
use Rattle.map_calls.specs.Maps.{Deletes}
use Rattle.map_calls.specs.Views.{Fails}
use Rattle.stored_map.specs.declared.kept.Kept.{Kept}
use Rattle.stored_map.specs.Stores.{view_of, leaving}
use Rattle.stored_map.proofs.KeptLaws.{runs}
use Rattle.stored_map.proofs.map.StoredMap.remove.Goals as goal

pub remove-requires-clause-kept : goal.remove-requires-clause-kept
remove-requires-clause-kept g c κs within = c.self.invariant

pub remove-requires-clause-running : goal.remove-requires-clause-running
remove-requires-clause-running g c κs within = runs g.D.Disk.faults c.self.inside.kept (subst (λ (k : Kept _). (view_of g.D.Disk.faults k).running ≡ true) (sym c.self.view_is) c.requires.running)

pub invariant_of-self : goal.invariant_of-self
invariant_of-self g c = c.remove.ensures.kept

pub returns-clause-value : goal.returns-clause-value
returns-clause-value g c = subst (λ (k : Kept _). IfOk c.remove.result (λ value. value ≡ value_of c.args.key (view_of g.D.Disk.faults k).map.pairs)) c.self.view_is c.remove.ensures.removes.value

pub returns-clause-removed : goal.returns-clause-removed
returns-clause-removed g c = subst (λ (k : Kept _). OnOk c.remove.result (Deletes c.args.key (view_of g.D.Disk.faults k).map (view_of g.D.Disk.faults c.remove.new.kept).map)) c.self.view_is c.remove.ensures.removes.removed

pub returns-clause-goes : goal.returns-clause-goes
returns-clause-goes g c = c.remove.ensures.removes.goes

pub returns-clause-failed : goal.returns-clause-failed
returns-clause-failed g c = subst (λ (k : Kept _). IfErr c.remove.result (λ f. Fails f (view_of g.D.Disk.faults k) (view_of g.D.Disk.faults c.remove.new.kept) (leaving g.D.Disk.may_leave c.remove.new.kept) (Deletes c.args.key (view_of g.D.Disk.faults k).map))) c.self.view_is c.remove.ensures.removes.failed

pub returns-clause-later : goal.returns-clause-later
returns-clause-later g c = subst (λ (k : Kept _). (view_of g.D.Disk.faults k).faults ≤ (view_of g.D.Disk.faults c.remove.new.kept).faults) c.self.view_is c.remove.ensures.removes.later
