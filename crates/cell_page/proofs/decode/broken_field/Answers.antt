use Rattle.std.proofs.Common.{◌≡◌, Bool, true, false, not, sym, ◌∙◌}
use Rattle.cell_page.specs.Fields.{bits_break}
use Rattle.cell_page.proofs.Broken.{live_obeys}
use Rattle.cell_page.proofs.decode.broken_field.Goals as goal

not_true : (b : Bool) → not b ≡ true → b ≡ false
not_true true h = absurd cc
not_true false h = cc

pub returns-then-cell-clause-first : goal.returns-then-cell-clause-first
returns-then-cell-clause-first g c =
    let bits : not (bits_break c.args.cell.now) ≡ true = sym c.bits_obey.ensures ∙ c.if-not-bits_obey.false in
    live_obeys c.args.id c.args.cell.now (not_true (bits_break c.args.cell.now) bits) c.if-cell-id.false c.if-cell.true
