-- How much work a walk has left.
use Rattle.std.proofs.Common.{◌≡◌, ℕ, ◌+◌, ◌-◌, ◌*◌, ◌<◌, Bool, true, false, ◌&&◌, ◌==◌, Some, None, refl, ap, ◌∙◌, arith}
use Rattle.std.proofs.lemmas.List.{length_push}
use Rattle.ref_tables.specs.Queue.{has}
use Rattle.red_walk.specs.Walk.{is_open, moved, touched_at, work_left}
use Rattle.red_walk.specs.Rounds.{LookWorkLaw, CopyWorkLaw, JoinWorkLaw, TouchWorkLaw}
use Rattle.red_walk.proofs.WalkLaws.{look-at, copy-place}

-- the slots of one object more
one-more : (rows slots : ℕ) → (rows + 1) * slots ≡ rows * slots + slots
one-more rows slots = grind arith

pub look-work-law : LookWorkLaw
look-work-law slots w id slot k e = by (w.slot + 1 == slots) refl
  where
    more : (w.limit - w.place) * slots ≡ (w.limit - (w.place + 1)) * slots + slots
    more =
        let p = (look-at w id slot e).0 in
        let n : w.limit - w.place ≡ (w.limit - (w.place + 1)) + 1 = omega (arith, p, k.ids.most) in
        ap (λ rows. rows * slots) n ∙ one-more (w.limit - (w.place + 1)) slots

    by : (last : Bool) → (w.slot + 1 == slots) ≡ last → work_left slots (moved slots w) < work_left slots w
    by true l = rw l (omega (arith, more, k.slot_within))
    by false l = rw l (omega (arith, more, k.slot_within))

pub copy-work-law : CopyWorkLaw
copy-work-law slots w id copy k e =
    let p = (copy-place w id e).1 in
    let n = length_push w.copies (id, copy) in
    omega (arith, p, n, k.ids.most)

pub join-work-law : JoinWorkLaw
join-work-law slots w None = refl
join-work-law slots w (Some id) = refl

pub touch-work-law : TouchWorkLaw
touch-work-law slots w id = by (is_open w && has w.left id) refl
  where
    by : (counts : Bool) → (is_open w && has w.left id) ≡ counts → work_left slots (touched_at w id) ≡ work_left slots w
    by true e = rw e refl
    by false e = rw e refl
