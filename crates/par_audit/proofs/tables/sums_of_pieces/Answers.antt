use Rattle.std.proofs.Common.{◌∙◌, length, arith}
use Rattle.std.proofs.lemmas.List.{length-map}
use Rattle.cell_page.specs.Stored.{cell_of}
use Rattle.rayon.specs.Numbers.{nat_range}
use Rattle.par_audit.proofs.PieceLaws.{both}
use Rattle.par_audit.proofs.TableLaws.{tables-wide, tables-sum_whole, tables-few_whole}
use Rattle.par_audit.proofs.tables.sums_of_pieces.Goals as goal

pub sums_of-requires-clause-wide : goal.sums_of-requires-clause-wide
sums_of-requires-clause-wide g c = tables-wide c.args.cells.now c.args.size (length c.args.cells.now) (nat_range 0 c.args.pieces) c.args.tables.now c.requires.tables

pub sums_of-requires-clause-room : goal.sums_of-requires-clause-room
sums_of-requires-clause-room g c = λ id within.
    let few = tables-few_whole c.args.cells.now c.args.size c.args.pieces (length c.args.cells.now) id c.args.bit c.args.tables.now c.requires.whole within c.requires.tables in
    let most = c.requires.few in
    omega (arith, few, most)

pub returns : goal.returns
returns g c =
    let size = length-map c.args.cells.now cell_of in
    both c.sums_of.result _ _ _ c.sums_of.ensures.len c.sums_of.ensures.each (λ sums len each. record {
      len = len;
      each = λ id within. each id within ∙ tables-sum_whole c.args.cells.now c.args.size c.args.pieces (length c.args.cells.now) id c.args.bit c.args.tables.now c.requires.whole within c.requires.tables;
      few = λ id within.
          let few = tables-few_whole c.args.cells.now c.args.size c.args.pieces (length c.args.cells.now) id c.args.bit c.args.tables.now c.requires.whole within c.requires.tables in
          let here = each id within in
          omega (arith, few, here, size);
    })
