use Rattle.std.proofs.Common.{◌≡◌, true, sym, subst, length}
use Rattle.std.specs.Prelude.{◌≤◌, IfOk, IfErr, OnOk}
use Rattle.map_calls.specs.Views.{Fails}
use Rattle.stored_map.specs.declared.kept.Kept.{Kept}
use Rattle.stored_map.specs.Stores.{view_of, leaving}
use Rattle.stored_map.proofs.KeptLaws.{runs}
use Rattle.stored_map.proofs.map.StoredMap.keys.Goals as goal

pub count-requires-clause-kept : goal.count-requires-clause-kept
count-requires-clause-kept g c κs within = c.self.invariant

pub count-requires-clause-running : goal.count-requires-clause-running
count-requires-clause-running g c κs within = runs g.D.Disk.faults c.self.inside.kept (subst (λ (k : Kept _). (view_of g.D.Disk.faults k).running ≡ true) (sym c.self.view_is) c.requires.running)

pub invariant_of-self : goal.invariant_of-self
invariant_of-self g c = c.count.ensures.kept

pub returns-clause-keys : goal.returns-clause-keys
returns-clause-keys g c = subst (λ (k : Kept _). IfOk c.count.result (λ keys. keys ≡ length (view_of g.D.Disk.faults k).map.pairs)) c.self.view_is c.count.ensures.looks.value

pub returns-clause-same : goal.returns-clause-same
returns-clause-same g c = subst (λ (k : Kept _). OnOk c.count.result ((view_of g.D.Disk.faults c.count.new.kept).map ≡ (view_of g.D.Disk.faults k).map)) c.self.view_is c.count.ensures.looks.same

pub returns-clause-room : goal.returns-clause-room
returns-clause-room g c = subst (λ (k : Kept _). OnOk c.count.result ((view_of g.D.Disk.faults c.count.new.kept).room ≡ (view_of g.D.Disk.faults k).room)) c.self.view_is c.count.ensures.room

pub returns-clause-goes : goal.returns-clause-goes
returns-clause-goes g c = c.count.ensures.looks.goes

pub returns-clause-failed : goal.returns-clause-failed
returns-clause-failed g c = subst (λ (k : Kept _). IfErr c.count.result (λ f. Fails f (view_of g.D.Disk.faults k) (view_of g.D.Disk.faults c.count.new.kept) (leaving g.D.Disk.may_leave c.count.new.kept) (λ n. n ≡ (view_of g.D.Disk.faults k).map))) c.self.view_is c.count.ensures.looks.failed

pub returns-clause-later : goal.returns-clause-later
returns-clause-later g c = subst (λ (k : Kept _). (view_of g.D.Disk.faults k).faults ≤ (view_of g.D.Disk.faults c.count.new.kept).faults) c.self.view_is c.count.ensures.looks.later
