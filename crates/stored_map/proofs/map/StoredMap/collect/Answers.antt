use Rattle.std.proofs.Common.{◌≡◌, true, sym, subst}
use Rattle.std.specs.Prelude.{◌≤◌, IfErr, OnOk}
use Rattle.map_calls.specs.Views.{Fails}
use Rattle.stored_map.specs.declared.kept.Kept.{Kept}
use Rattle.stored_map.specs.Stores.{view_of, leaving}
use Rattle.stored_map.proofs.KeptLaws.{runs}
use Rattle.stored_map.proofs.map.StoredMap.collect.Goals as goal

pub collect_all-requires-clause-kept : goal.collect_all-requires-clause-kept
collect_all-requires-clause-kept g c κs within = c.self.invariant

pub collect_all-requires-clause-running : goal.collect_all-requires-clause-running
collect_all-requires-clause-running g c κs within = runs g.D.Disk.faults c.self.inside.kept (subst (λ (k : Kept _). (view_of g.D.Disk.faults k).running ≡ true) (sym c.self.view_is) c.requires.running)

pub invariant_of-self : goal.invariant_of-self
invariant_of-self g c = c.collect_all.ensures.kept

pub returns-clause-same : goal.returns-clause-same
returns-clause-same g c = subst (λ (k : Kept _). OnOk c.collect_all.result ((view_of g.D.Disk.faults c.collect_all.new.kept).map ≡ (view_of g.D.Disk.faults k).map)) c.self.view_is c.collect_all.ensures.looks.same

pub returns-clause-room : goal.returns-clause-room
returns-clause-room g c = c.collect_all.ensures.room

pub returns-clause-goes : goal.returns-clause-goes
returns-clause-goes g c = c.collect_all.ensures.looks.goes

pub returns-clause-failed : goal.returns-clause-failed
returns-clause-failed g c = subst (λ (k : Kept _). IfErr c.collect_all.result (λ f. Fails f (view_of g.D.Disk.faults k) (view_of g.D.Disk.faults c.collect_all.new.kept) (leaving g.D.Disk.may_leave c.collect_all.new.kept) (λ n. n ≡ (view_of g.D.Disk.faults k).map))) c.self.view_is c.collect_all.ensures.looks.failed

pub returns-clause-later : goal.returns-clause-later
returns-clause-later g c = subst (λ (k : Kept _). (view_of g.D.Disk.faults k).faults ≤ (view_of g.D.Disk.faults c.collect_all.new.kept).faults) c.self.view_is c.collect_all.ensures.looks.later
