use Rattle.std.proofs.Common.{◌≡◌, ◌+◌, ◌<◌, Bool, length, sym, ap, ◌∙◌, subst, arith, refl}
use Rattle.std.specs.Prelude.{is_some, slice_set}
use Rattle.std.proofs.lemmas.List.{length-set}
use Rattle.core_store.proofs.RowLaws.{IsRowTo, row-more, row-all}
use Rattle.core_store.proofs.round.note_locked.Goals as goal

pub loop-place-init : goal.loop-place-init
loop-place-init c = record { room = refl; noted = record { locked = λ place below e. absurd (omega (arith, below)); free = λ place pass below e h. omega (arith, below) } }

pub loop-place-preserved : goal.loop-place-preserved
loop-place-preserved c =
    let row = c.loop-place.row in
    let n = c.loop-place.place in
    let new : c.set.new.self ≡ slice_set row n (is_some c.holder.result) = c.set.ensures ∙ ap (λ (b : Bool). slice_set row n b) c.is_some.ensures in
    let most = c.requires in
    let below = c.loop-place-test.true in
    let room = c.loop-place.invariant.room in
    let within : n < length row = omega (arith, most, below, room) in
    record {
      room = ap length new ∙ length-set row n (is_some c.holder.result) ∙ room;
      noted = subst (λ r. IsRowTo c.args.locks.now c.args.list.now r (n + 1)) (sym new) (row-more c.args.locks.now c.args.list.now row n c.holder.result c.loop-place.invariant.noted within c.holder.ensures.least);
    }

pub returns-clause-row : goal.returns-clause-row
returns-clause-row c =
    let past = c.loop-place-test.false in
    row-all c.args.locks.now c.args.list.now c.loop-place.row c.loop-place.place c.loop-place.invariant.noted (omega (arith, past))
