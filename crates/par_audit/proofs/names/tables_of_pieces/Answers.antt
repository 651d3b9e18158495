use Rattle.std.proofs.Common.{◌≡◌, ◌+◌, ◌*◌, ◌/◌, ◌<◌, ◌≤◌, ℕ, length, ◌∙◌, arith, subst, List, Vec, Global}
use Rattle.std.proofs.Math.Nat.{mul-le-mul_right}
use Rattle.std.specs.declared.alloc.AllocError.{AllocError}
use Rattle.std.specs.Prelude.{IfOk, Result}
use Rattle.std.specs.List.{AllZip}
use Rattle.rayon.specs.Numbers.{nat_range}
use Rattle.rayon.proofs.ToStd.{nat_range-All}
use Rattle.par_audit.specs.Pieces.{piece_at}
use Rattle.par_audit.specs.Marks.{AreNames}
use Rattle.par_audit.proofs.PieceLaws.{collected, all-ok}
use Rattle.par_audit.proofs.names.tables_of_pieces.Goals as goal

-- each piece starts at a place that has a number
pub collect-requires-clause-ready : goal.collect-requires-clause-ready
collect-requires-clause-ready g c κs within =
    let ends = c.into_par_iter.ensures in
    let inside = nat_range-All (λ i. i * c.args.size < 18446744073709551616) 0 c.args.pieces
    (λ i low high. let most : i * c.args.size ≤ c.args.pieces * c.args.size = mul-le-mul_right c.args.size (let l : i ≤ c.args.pieces = omega (arith, high) in l) in let fits = c.requires.fits in omega (arith, most, fits)) in
    rw (c.map.ensures.base, c.map.ensures.f, c.with_min_len.ensures.base, ends.0, ends.1)
    (λ k d lt. ((search (arith) depth 20, (c.requires.slots, c.requires.ids, inside k d lt)), λ y p. tt))

pub returns : goal.returns
returns g c =
    let ends = c.into_par_iter.ensures in
    let h = c.in_ok-collect.ensures in
    collected c.in_ok-collect.field-0 _ _ _ h.2 (λ tables ok.
    let P = λ (number : ℕ) (t : Vec ℕ Global). AreNames c.args.cells.now (piece_at c.args.size c.args.level.now number) (length c.args.cells.now / 64 + 1) t.items in
    let chain = rw (c.map.ensures.base, c.map.ensures.f, c.with_min_len.ensures.base) at h.1 in
    let places : chain.0 ≡ nat_range 0 c.args.pieces = chain.1 ∙ (λ i. nat_range (ends.0 i) (ends.1 i)) in
    let step = subst (λ (l : List ℕ). AllZip (λ (number : ℕ) r. IfOk r (P number)) l h.0) places chain.2 in
    let okay = subst (λ (l : List (Result (Vec ℕ Global) AllocError)). AllZip (λ (number : ℕ) r. IfOk r (P number)) (nat_range 0 c.args.pieces) l) ok.1 step in
    rw ok.2 (all-ok AllocError P (nat_range 0 c.args.pieces) ok.0 okay))
