use Rattle.std.proofs.Common.{◌≡◌, true, sym, subst}
use Rattle.std.specs.Prelude.{◌≤◌, IfOk, IfErr, OnOk}
use Rattle.plain_map.specs.Pairs.{value_of}
use Rattle.map_calls.specs.Views.{Fails}
use Rattle.stored_map.specs.declared.kept.Kept.{Kept}
use Rattle.stored_map.specs.Stores.{view_of, leaving}
use Rattle.stored_map.proofs.KeptLaws.{runs}
use Rattle.stored_map.proofs.map.StoredMap.get.Goals as goal

pub get-requires-clause-kept : goal.get-requires-clause-kept
get-requires-clause-kept g c κs within = c.self.invariant

pub get-requires-clause-running : goal.get-requires-clause-running
get-requires-clause-running g c κs within = runs g.D.Disk.faults c.self.inside.kept (subst (λ (k : Kept _). (view_of g.D.Disk.faults k).running ≡ true) (sym c.self.view_is) c.requires.running)

pub invariant_of-self : goal.invariant_of-self
invariant_of-self g c = c.get.ensures.kept

pub returns-clause-value : goal.returns-clause-value
returns-clause-value g c = subst (λ (k : Kept _). IfOk c.get.result (λ value. value ≡ value_of c.args.key (view_of g.D.Disk.faults k).map.pairs)) c.self.view_is c.get.ensures.looks.value

pub returns-clause-same : goal.returns-clause-same
returns-clause-same g c = subst (λ (k : Kept _). OnOk c.get.result ((view_of g.D.Disk.faults c.get.new.kept).map ≡ (view_of g.D.Disk.faults k).map)) c.self.view_is c.get.ensures.looks.same

pub returns-clause-goes : goal.returns-clause-goes
returns-clause-goes g c = c.get.ensures.looks.goes

pub returns-clause-failed : goal.returns-clause-failed
returns-clause-failed g c = subst (λ (k : Kept _). IfErr c.get.result (λ f. Fails f (view_of g.D.Disk.faults k) (view_of g.D.Disk.faults c.get.new.kept) (leaving g.D.Disk.may_leave c.get.new.kept) (λ n. n ≡ (view_of g.D.Disk.faults k).map))) c.self.view_is c.get.ensures.looks.failed

pub returns-clause-later : goal.returns-clause-later
returns-clause-later g c = subst (λ (k : Kept _). (view_of g.D.Disk.faults k).faults ≤ (view_of g.D.Disk.faults c.get.new.kept).faults) c.self.view_is c.get.ensures.looks.later
