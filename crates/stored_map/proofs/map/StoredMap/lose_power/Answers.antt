use Rattle.std.proofs.Common.{◌≡◌, true, sym, subst}
use Rattle.std.specs.Prelude.{◌≤◌, IfErr, OnOk}
use Rattle.map_calls.specs.Views.{StaysShut}
use Rattle.stored_map.specs.declared.kept.Kept.{Kept}
use Rattle.stored_map.specs.Stores.{view_of, leaving, Tell}
use Rattle.stored_map.proofs.KeptLaws.{runs}
use Rattle.stored_map.proofs.map.StoredMap.lose_power.Goals as goal

pub lose_power-requires-clause-kept : goal.lose_power-requires-clause-kept
lose_power-requires-clause-kept g c κs within = c.self.invariant

pub lose_power-requires-clause-running : goal.lose_power-requires-clause-running
lose_power-requires-clause-running g c κs within = runs g.D.Disk.faults c.self.inside.kept (subst (λ (k : Kept _). (view_of g.D.Disk.faults k).running ≡ true) (sym c.self.view_is) c.requires.running)

pub invariant_of-self : goal.invariant_of-self
invariant_of-self g c = c.lose_power.ensures.kept

pub returns-clause-keys : goal.returns-clause-keys
returns-clause-keys g c = c.lose_power.ensures.loses.keys

pub returns-clause-same : goal.returns-clause-same
returns-clause-same g c = subst (λ (k : Kept _). OnOk c.lose_power.result (Tell g.D.Disk.content → (view_of g.D.Disk.faults c.lose_power.new.kept).map ≡ (view_of g.D.Disk.faults k).map)) c.self.view_is c.lose_power.ensures.loses.same

pub returns-clause-goes : goal.returns-clause-goes
returns-clause-goes g c = c.lose_power.ensures.loses.goes

pub returns-clause-shut : goal.returns-clause-shut
returns-clause-shut g c = subst (λ (k : Kept _). IfErr c.lose_power.result (λ u. StaysShut (Tell g.D.Disk.content) u (view_of g.D.Disk.faults k) (view_of g.D.Disk.faults c.lose_power.new.kept) (leaving g.D.Disk.may_leave c.lose_power.new.kept))) c.self.view_is c.lose_power.ensures.loses.shut

pub returns-clause-later : goal.returns-clause-later
returns-clause-later g c = subst (λ (k : Kept _). (view_of g.D.Disk.faults k).faults ≤ (view_of g.D.Disk.faults c.lose_power.new.kept).faults) c.self.view_is c.lose_power.ensures.loses.later
