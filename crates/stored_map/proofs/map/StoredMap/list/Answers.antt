use Rattle.std.proofs.Common.{◌≡◌, true, sym, subst}
use Rattle.std.specs.Prelude.{◌≤◌, IfOk, IfErr, OnOk}
use Rattle.map_calls.specs.Views.{Fails}
use Rattle.stored_map.specs.declared.kept.Kept.{Kept}
use Rattle.stored_map.specs.Stores.{view_of, leaving}
use Rattle.stored_map.proofs.KeptLaws.{runs}
use Rattle.stored_map.proofs.map.StoredMap.list.Goals as goal

pub list-requires-clause-kept : goal.list-requires-clause-kept
list-requires-clause-kept g c κs within = c.self.invariant

pub list-requires-clause-running : goal.list-requires-clause-running
list-requires-clause-running g c κs within = runs g.D.Disk.faults c.self.inside.kept (subst (λ (k : Kept _). (view_of g.D.Disk.faults k).running ≡ true) (sym c.self.view_is) c.requires.running)

pub invariant_of-self : goal.invariant_of-self
invariant_of-self g c = c.list.ensures.kept

pub returns-clause-pairs : goal.returns-clause-pairs
returns-clause-pairs g c = subst (λ (k : Kept _). IfOk c.list.result (λ pairs. pairs.items ≡ (view_of g.D.Disk.faults k).map.pairs)) c.self.view_is c.list.ensures.looks.value

pub returns-clause-same : goal.returns-clause-same
returns-clause-same g c = subst (λ (k : Kept _). OnOk c.list.result ((view_of g.D.Disk.faults c.list.new.kept).map ≡ (view_of g.D.Disk.faults k).map)) c.self.view_is c.list.ensures.looks.same

pub returns-clause-goes : goal.returns-clause-goes
returns-clause-goes g c = c.list.ensures.looks.goes

pub returns-clause-failed : goal.returns-clause-failed
returns-clause-failed g c = subst (λ (k : Kept _). IfErr c.list.result (λ f. Fails f (view_of g.D.Disk.faults k) (view_of g.D.Disk.faults c.list.new.kept) (leaving g.D.Disk.may_leave c.list.new.kept) (λ n. n ≡ (view_of g.D.Disk.faults k).map))) c.self.view_is c.list.ensures.looks.failed

pub returns-clause-later : goal.returns-clause-later
returns-clause-later g c = subst (λ (k : Kept _). (view_of g.D.Disk.faults k).faults ≤ (view_of g.D.Disk.faults c.list.new.kept).faults) c.self.view_is c.list.ensures.looks.later
