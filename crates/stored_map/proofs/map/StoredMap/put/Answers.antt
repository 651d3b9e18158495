use Rattle.std.proofs.Common.{◌≡◌, true, sym, subst}
use Rattle.std.specs.Prelude.{◌≤◌, IfOk, IfErr}
use Rattle.map_calls.specs.Maps.{Puts}
use Rattle.map_calls.specs.Views.{Fails, Tries}
use Rattle.stored_map.specs.declared.kept.Kept.{Kept}
use Rattle.stored_map.specs.Stores.{view_of, leaving}
use Rattle.stored_map.proofs.KeptLaws.{runs}
use Rattle.stored_map.proofs.map.StoredMap.put.Goals as goal

pub put-requires-clause-kept : goal.put-requires-clause-kept
put-requires-clause-kept g c κs within = c.self.invariant

pub put-requires-clause-running : goal.put-requires-clause-running
put-requires-clause-running g c κs within = runs g.D.Disk.faults c.self.inside.kept (subst (λ (k : Kept _). (view_of g.D.Disk.faults k).running ≡ true) (sym c.self.view_is) c.requires.running)

pub invariant_of-self : goal.invariant_of-self
invariant_of-self g c = c.put.ensures.kept

pub returns-clause-put : goal.returns-clause-put
returns-clause-put g c = subst (λ (k : Kept _). IfOk c.put.result (λ put. Tries c.args.key c.args.value put (view_of g.D.Disk.faults k) (view_of g.D.Disk.faults c.put.new.kept))) c.self.view_is c.put.ensures.puts.put

pub returns-clause-goes : goal.returns-clause-goes
returns-clause-goes g c = c.put.ensures.puts.goes

pub returns-clause-failed : goal.returns-clause-failed
returns-clause-failed g c = subst (λ (k : Kept _). IfErr c.put.result (λ f. Fails f (view_of g.D.Disk.faults k) (view_of g.D.Disk.faults c.put.new.kept) (leaving g.D.Disk.may_leave c.put.new.kept) (Puts c.args.key c.args.value (view_of g.D.Disk.faults k).map))) c.self.view_is c.put.ensures.puts.failed

pub returns-clause-later : goal.returns-clause-later
returns-clause-later g c = subst (λ (k : Kept _). (view_of g.D.Disk.faults k).faults ≤ (view_of g.D.Disk.faults c.put.new.kept).faults) c.self.view_is c.put.ensures.puts.later
