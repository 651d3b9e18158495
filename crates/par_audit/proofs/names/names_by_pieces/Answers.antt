use Rattle.std.proofs.Common.{◌≡◌, ◌+◌, ◌*◌, ◌/◌, ◌≤◌, ℕ, List, length, ◌∙◌, ap, sym, subst}
use Rattle.std.specs.List.{flat_map}
use Rattle.rayon.specs.Numbers.{nat_range}
use Rattle.par_audit.specs.Pieces.{piece_at}
use Rattle.par_audit.specs.Marks.{is_named}
use Rattle.par_audit.proofs.PieceLaws.{names-wide, names-any, range-whole, both, enough}
use Rattle.par_audit.proofs.names.names_by_pieces.Goals as goal

pub joined-requires : goal.joined-requires
joined-requires g c = record {
  wide = rw (c.as_slice.ensures.value, c.words_for.ensures) (names-wide c.args.cells.now (length c.args.cells.now / 64 + 1) c.div_ceil-size.result c.args.level.now (nat_range 0 c.args.pieces) c.in_ok-tables.tables.items c.in_ok-tables.ensures);
}

pub returns : goal.returns
returns g c =
    let size = c.div_ceil-size.result in
    let level = c.args.level.now in
    let all : length level ≤ c.args.pieces * size = subst (λ (k : ℕ). length level ≤ c.args.pieces * k) (sym c.div_ceil-size.ensures) (enough (length level) c.args.pieces c.requires.some) in
    let whole : flat_map (piece_at size level) (nat_range 0 c.args.pieces) ≡ level = range-whole size c.args.pieces level all in
    both c.joined.result _ _ _ c.joined.ensures.len c.joined.ensures.each (λ table len each. record {
      len = len ∙ c.words_for.ensures;
      each = λ id within.
          (rw (c.as_slice.ensures.value) at (each id))
          ∙ (names-any c.args.cells.now (length c.args.cells.now / 64 + 1) id size level (nat_range 0 c.args.pieces) c.in_ok-tables.tables.items within c.in_ok-tables.ensures
          ∙ ap (λ (l : List ℕ). is_named c.args.cells.now l id) whole);
    })
