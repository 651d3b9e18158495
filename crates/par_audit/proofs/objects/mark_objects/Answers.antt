use Rattle.std.proofs.Common.{◌≡◌, ◌+◌, ◌*◌, ℕ, map, subst, arith}
use Rattle.cell_page.specs.Stored.{cell_of}
use Rattle.par_audit.specs.Marks.{has_bit, is_object}
use Rattle.par_audit.proofs.MarkLaws.{mark_each}
use Rattle.par_audit.proofs.LevelLaws.{object-past}
use Rattle.par_audit.proofs.objects.mark_objects.Goals as goal

pub returns-clause-each : goal.returns-clause-each
returns-clause-each g c =
    let stored = map cell_of c.args.cells.now in
    let long = c.for_each_mut.auto.s in
    let len = c.requires.len in
    mark_each c.for_each_mut.new.s (is_object stored)
    (λ at within bit below.
    let change = (c.for_each_mut.ensures at 0 (omega (arith, within, long))).1 in
    subst (λ (w : ℕ). has_bit w bit ≡ is_object stored (64 * at + bit)) change.left (change.call bit below))
    (λ id far. object-past c.args.cells.now id (omega (arith, far, long, len)))
