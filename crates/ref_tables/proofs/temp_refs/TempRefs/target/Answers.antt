use Rattle.ref_tables.proofs.RefsLaws.{entries-seen}
use Rattle.ref_tables.proofs.temp_refs.TempRefs.target.Goals as goal

pub returns : goal.returns
returns c = rw (← c.self.view_is, entries-seen c.self.inside.lists.items c.self.inside.room_for c.self.inside.room c.args.pass, ← c.list.ensures) c.target_at.ensures
