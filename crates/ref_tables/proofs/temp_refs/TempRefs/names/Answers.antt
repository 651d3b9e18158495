use Rattle.std.proofs.Common.{arith, sym, subst}
use Rattle.std.proofs.lemmas.Bool.Decides.{nat_tests}
use Rattle.ref_tables.specs.Refs.{Names}
use Rattle.ref_tables.proofs.RefsLaws.{AreRefsInside-named, AreRefsInside-unnamed, entries-seen}
use Rattle.ref_tables.proofs.temp_refs.TempRefs.names.Goals as goal

pub returns-clause-yes : goal.returns-clause-yes
returns-clause-yes c = λ found.
    let named = AreRefsInside-named c.self.inside.lists.items _ _ _ c.args.id c.self.invariant (grind (arith, nat_tests, found, c.has.ensures)) in
    (named.0, rw (← c.self.view_is) (subst (λ entries. Names entries c.args.id) (sym (entries-seen c.self.inside.lists.items c.self.inside.room_for c.self.inside.room named.0)) named.1))

pub returns-clause-no : goal.returns-clause-no
returns-clause-no c = λ found p.
    let unnamed = AreRefsInside-unnamed c.self.inside.lists.items _ _ _ c.args.id c.self.invariant (grind (arith, nat_tests, found, c.has.ensures)) p in
    rw (← c.self.view_is) (subst (λ entries. ¬ Names entries c.args.id) (sym (entries-seen c.self.inside.lists.items c.self.inside.room_for c.self.inside.room p)) unnamed)
