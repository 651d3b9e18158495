use Rattle.ref_tables.proofs.RefsLaws.{AreRefsInside-new, table-none}
use Rattle.ref_tables.proofs.temp_refs.TempRefs.new.Goals as goal

pub invariant_of-result : goal.invariant_of-result
invariant_of-result c = AreRefsInside-new _ _ c.new.ensures.items c.new-2.ensures

pub returns : goal.returns
returns c = table-none _ _ _ c.new.ensures.items
