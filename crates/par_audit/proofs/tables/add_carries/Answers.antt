use Rattle.std.proofs.Common.{◌<◌, ◌==◌, ◌∙◌, ℕ, length, cond, arith}
use Rattle.std.proofs.lemmas.List.Sums.{sum_by_more_le, sum_by_more}
use Rattle.par_audit.specs.Tables.{place_of}
use Rattle.par_audit.proofs.tables.add_carries.Goals as goal

pub add_carry-requires-clause-room : goal.add_carry-requires-clause-room
add_carry-requires-clause-room c = λ id within.
    let len = c.loop-place.invariant.len in
    let there : id < length c.args.sums.now = omega (arith, len, within) in
    let was = c.loop-place.invariant.each id there in
    let most = c.requires.room id there in
    let more = sum_by_more_le (λ (p : ℕ). cond (p == place_of id c.args.bit) 1 0) c.args.carries.now c.loop-place.place-index 0 c.loop-place-test.true in
    omega (arith, was, most, more)

pub loop-place-preserved : goal.loop-place-preserved
loop-place-preserved c =
    let len = c.loop-place.invariant.len in
    record {
      len = c.add_carry.ensures.len ∙ len;
      each = λ id there.
          let within : id < length c.loop-place.sums = omega (arith, len, there) in
          let was = c.loop-place.invariant.each id there in
          let now = c.add_carry.ensures.each id within in
          let more = sum_by_more (λ (p : ℕ). cond (p == place_of id c.args.bit) 1 0) c.args.carries.now c.loop-place.place-index 0 c.loop-place-test.true in
          omega (arith, was, now, more);
    }
