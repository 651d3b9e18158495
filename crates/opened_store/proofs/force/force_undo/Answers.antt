use Rattle.std.proofs.Common.{◌≡◌, ℕ, ◌+◌, ◌≤◌, ◌⊎◌, ◌++◌, ◌∙◌, ⊎_elim, List, length, sym, ap, subst, inl, inr, arith}
use Rattle.std.proofs.lemmas.Bool.{cases_lt}
use Rattle.disk_model.specs.Told.{EachImage, KeepsOthers, IsImage, IsImageBut}
use Rattle.disk_model.specs.Time.{LeavesOnlyImages}
use Rattle.disk_model.specs.declared.area.Area.{Area}
use Rattle.disk_model.proofs.Moments.{no_call, weaken}
use Rattle.std.specs.Prelude.{⊤}
use Rattle.gate_log.specs.Batches.{most_bytes}
use Rattle.gate_log.specs.State.{LogState, used, appended, forced, batch_length}
use Rattle.gate_log.specs.OnDisk.{IsOn, HasLog, HasEither, with_batch}
use Rattle.opened_store.proofs.ForceLaws.{tail-is, on-appended, fits-appended, fits-forced, bytes-forced}
use Rattle.opened_store.proofs.force.force_undo.Goals as goal

pub returns-in-Ok-force-clause-on : goal.returns-in-Ok-force-clause-on
returns-in-Ok-force-clause-on g c =
    λ batches on.
    subst (λ (t : List ℕ). IsOn g.D.Disk.may_leave c.force.new.self c.force.new.disk (with_batch batches t)) (tail-is c.args.log.now c.append.new.self c.args.bytes.now c.in-Ok.ensures.log c.requires.empty)
    (c.in-Ok-force.ensures.on batches (on-appended g.D.Disk.may_leave c.args.log.now c.append.new.self c.args.disk.now c.args.bytes.now batches c.in-Ok.ensures.log on))

pub returns-in-Ok-force-clause-images : goal.returns-in-Ok-force-clause-images
returns-in-Ok-force-clause-images g c =
    let room : used c.args.log.now + batch_length c.args.bytes.now ≤ most_bytes = ⊎_elim (λ past. absurd (let full = c.lacks_room.ensures.1 past in cc (full, c.if-lacks_room.false))) (λ fits. fits) (cases_lt most_bytes (used c.args.log.now + batch_length c.args.bytes.now)) in
    let fits = fits-appended c.args.log.now c.args.bytes.now c.requires.empty room in
    λ batches on.
    subst (λ (t : List ℕ). EachImage g.D.Disk.may_leave c.force.new.disk (HasLog (with_batch batches t))) (tail-is c.args.log.now c.append.new.self c.args.bytes.now c.in-Ok.ensures.log c.requires.empty)
    (c.in-Ok-force.ensures.images batches (on-appended g.D.Disk.may_leave c.args.log.now c.append.new.self c.args.disk.now c.args.bytes.now batches c.in-Ok.ensures.log on)
    (subst (λ (s : LogState). used s ≤ most_bytes) (sym c.in-Ok.ensures.log) fits))

pub returns-in-Ok-force-clause-moments : goal.returns-in-Ok-force-clause-moments
returns-in-Ok-force-clause-moments g c =
    let room : used c.args.log.now + batch_length c.args.bytes.now ≤ most_bytes = ⊎_elim (λ past. absurd (let full = c.lacks_room.ensures.1 past in cc (full, c.if-lacks_room.false))) (λ fits. fits) (cases_lt most_bytes (used c.args.log.now + batch_length c.args.bytes.now)) in
    let fits = fits-appended c.args.log.now c.args.bytes.now c.requires.empty room in
    λ batches on.
    weaken (λ image. IsImage g.D.Disk.may_leave c.args.disk.now image ⊎ HasEither batches (with_batch batches c.args.bytes.now) image) (λ image has. inr has)
    (subst (λ (t : List ℕ). LeavesOnlyImages g.D.Disk.moment g.D.Disk.left_since c.args.disk.now c.force.new.disk (HasEither batches (with_batch batches t)))
    (tail-is c.args.log.now c.append.new.self c.args.bytes.now c.in-Ok.ensures.log c.requires.empty)
    (c.in-Ok-force.ensures.moments batches (on-appended g.D.Disk.may_leave c.args.log.now c.append.new.self c.args.disk.now c.args.bytes.now batches c.in-Ok.ensures.log on)
    (subst (λ (s : LogState). used s ≤ most_bytes) (sym c.in-Ok.ensures.log) fits)))

pub returns-in-Err-force-clause-moments : goal.returns-in-Err-force-clause-moments
returns-in-Err-force-clause-moments g c =
    let room : used c.args.log.now + batch_length c.args.bytes.now ≤ most_bytes = ⊎_elim (λ past. absurd (let full = c.lacks_room.ensures.1 past in cc (full, c.if-lacks_room.false))) (λ fits. fits) (cases_lt most_bytes (used c.args.log.now + batch_length c.args.bytes.now)) in
    let fits = fits-appended c.args.log.now c.args.bytes.now c.requires.empty room in
    λ batches on.
    weaken (λ image. IsImage g.D.Disk.may_leave c.args.disk.now image ⊎ HasEither batches (with_batch batches c.args.bytes.now) image) (λ image has. inr has)
    (subst (λ (t : List ℕ). LeavesOnlyImages g.D.Disk.moment g.D.Disk.left_since c.args.disk.now c.force.new.disk (HasEither batches (with_batch batches t)))
    (tail-is c.args.log.now c.append.new.self c.args.bytes.now c.in-Ok.ensures.log c.requires.empty)
    (c.in-Err-force.ensures.moments batches (on-appended g.D.Disk.may_leave c.args.log.now c.append.new.self c.args.disk.now c.args.bytes.now batches c.in-Ok.ensures.log on)
    (subst (λ (s : LogState). used s ≤ most_bytes) (sym c.in-Ok.ensures.log) fits)))

pub returns-in-Ok-force-clause-others : goal.returns-in-Ok-force-clause-others
returns-in-Ok-force-clause-others g c =
    subst (λ (a : Area). LeavesOnlyImages g.D.Disk.moment g.D.Disk.left_since c.args.disk.now c.force.new.disk (IsImageBut g.D.Disk.may_leave c.args.disk.now a (λ _. ⊤))) (ap (λ (s : LogState). s.area) c.in-Ok.ensures.log) c.in-Ok-force.ensures.others

pub returns-in-Err-force-clause-others : goal.returns-in-Err-force-clause-others
returns-in-Err-force-clause-others g c =
    subst (λ (a : Area). LeavesOnlyImages g.D.Disk.moment g.D.Disk.left_since c.args.disk.now c.force.new.disk (IsImageBut g.D.Disk.may_leave c.args.disk.now a (λ _. ⊤))) (ap (λ (s : LogState). s.area) c.in-Ok.ensures.log) c.in-Err-force.ensures.others

pub returns-in-Ok-force-clause-keeps : goal.returns-in-Ok-force-clause-keeps
returns-in-Ok-force-clause-keeps g c =
    subst (λ (a : Area). KeepsOthers g.D.Disk.content g.D.Disk.may_leave c.args.disk.now c.force.new.disk a) (ap (λ (s : LogState). s.area) c.in-Ok.ensures.log) c.in-Ok-force.ensures.keeps

pub returns-in-Err-force-clause-keeps : goal.returns-in-Err-force-clause-keeps
returns-in-Err-force-clause-keeps g c =
    subst (λ (a : Area). KeepsOthers g.D.Disk.content g.D.Disk.may_leave c.args.disk.now c.force.new.disk a) (ap (λ (s : LogState). s.area) c.in-Ok.ensures.log) c.in-Err-force.ensures.keeps

pub returns-in-Err-clause-moments : goal.returns-in-Err-clause-moments
returns-in-Err-clause-moments g c =
    λ batches on.
    no_call g.D.Disk.may_leave (λ image. IsImage g.D.Disk.may_leave c.args.disk.now image ⊎ HasEither batches (with_batch batches c.args.bytes.now) image) g.D.Disk.only_now (λ image may. inl may)

pub returns-in-Err-clause-others : goal.returns-in-Err-clause-others
returns-in-Err-clause-others g c =
    no_call g.D.Disk.may_leave (IsImageBut g.D.Disk.may_leave c.args.disk.now c.args.log.now.area (λ _. ⊤)) g.D.Disk.only_now (λ image may. record { here = tt; others = λ other n. may other })

pub returns-in-Ok-force-clause-cause : goal.returns-in-Ok-force-clause-cause
returns-in-Ok-force-clause-cause g c = record { later = c.in-Ok-force.ensures.cause.later; failed = λ e. absurd cc; kept = λ no. c.in-Ok-force.ensures.cause.kept }

pub returns-in-Ok-force-clause-bounded : goal.returns-in-Ok-force-clause-bounded
returns-in-Ok-force-clause-bounded g c =
    let room : used c.args.log.now + batch_length c.args.bytes.now ≤ most_bytes = ⊎_elim (λ past. absurd (let full = c.lacks_room.ensures.1 past in cc (full, c.if-lacks_room.false))) (λ fits. fits) (cases_lt most_bytes (used c.args.log.now + batch_length c.args.bytes.now)) in
    let log = c.args.log.now in
    let durable : c.force.new.self.durable ≡ log.durable + batch_length c.args.bytes.now =
    ap (λ (s : LogState). s.durable) c.in-Ok-force.ensures.log ∙ ap (λ (s : LogState). (forced s).durable) c.in-Ok.ensures.log ∙ ap (λ (t : List ℕ). log.durable + batch_length (t ++ c.args.bytes.now)) c.requires.empty in
    fits-forced log c.force.new.self c.args.bytes.now c.requires.empty room durable (ap (λ (s : LogState). s.tail) c.in-Ok-force.ensures.log)

pub returns-in-Ok-force-clause-full : goal.returns-in-Ok-force-clause-full
returns-in-Ok-force-clause-full g c = (λ is. absurd (cc (is)), λ past. absurd (let full = c.lacks_room.ensures.1 past in cc (full, c.if-lacks_room.false)))

pub returns-in-Err-force-clause-full : goal.returns-in-Err-force-clause-full
returns-in-Err-force-clause-full g c = (λ is. absurd (cc (is)), λ past. absurd (let full = c.lacks_room.ensures.1 past in cc (full, c.if-lacks_room.false)))

pub returns-in-Err-clause-full : goal.returns-in-Err-clause-full
returns-in-Err-clause-full g c = (λ is. absurd (cc (is)), λ past. absurd (let full = c.lacks_room.ensures.1 past in cc (full, c.if-lacks_room.false)))

pub returns-in-Ok-force-clause-bytes : goal.returns-in-Ok-force-clause-bytes
returns-in-Ok-force-clause-bytes g c =
    let log = c.args.log.now in
    let is : c.append.new.self ≡ appended log c.args.bytes.now = c.in-Ok.ensures.log in
    let tail = tail-is log c.append.new.self c.args.bytes.now is c.requires.empty in
    bytes-forced g.D.Disk.content log c.append.new.self c.args.disk.now c.force.new.disk c.args.bytes.now (ap (λ (s : LogState). s.area) is) (ap (λ (s : LogState). s.durable) is) tail c.in-Ok-force.ensures.bytes

pub returns-in-Ok-force-clause-none : goal.returns-in-Ok-force-clause-none
returns-in-Ok-force-clause-none g c none =
    let tail = tail-is c.args.log.now c.append.new.self c.args.bytes.now c.in-Ok.ensures.log c.requires.empty in
    ((c.in-Ok-force.ensures.empty (tail ∙ none)).1, tt)

pub returns-in-Err-force-clause-none : goal.returns-in-Err-force-clause-none
returns-in-Err-force-clause-none g c none =
    let tail = tail-is c.args.log.now c.append.new.self c.args.bytes.now c.in-Ok.ensures.log c.requires.empty in
    absurd (cc ((c.in-Err-force.ensures.empty (tail ∙ none)).0))

pub returns-in-Err-clause-none : goal.returns-in-Err-clause-none
returns-in-Err-clause-none g c none =
    let room : used c.args.log.now + batch_length c.args.bytes.now ≤ most_bytes = ⊎_elim (λ past. absurd (let full = c.lacks_room.ensures.1 past in cc (full, c.if-lacks_room.false))) (λ fits. fits) (cases_lt most_bytes (used c.args.log.now + batch_length c.args.bytes.now)) in
    let zero : length c.args.bytes.now ≡ 0 = ap (λ (b : List ℕ). length b) none in
    absurd (cc (c.in-Err.ensures.room (omega (arith, room, zero)) (omega (arith, zero))))
