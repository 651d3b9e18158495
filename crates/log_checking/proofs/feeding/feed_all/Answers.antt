use Rattle.std.proofs.Common.{◌≡◌, ℕ, ◌≤◌, [], ◌++◌, length, Ok, Err, refl, ap, subst, ◌∙◌, arith}
use Rattle.disk_model.specs.Causes.{Rose}
use Rattle.standby_feeding.specs.declared.fault.FeedFault.TheVariants.{Read, Damaged}
use Rattle.standby_feeding.proofs.SourceLaws.{consumes_same, consumes_both, no_bytes, bytes_both}
use Rattle.log_checking.proofs.FedLaws.{open_at_first, less_left}
use Rattle.log_checking.proofs.feeding.feed_all.Goals as goal

pub pieces-init : goal.pieces-init
pieces-init g c = (
  [],
  consumes_same (g.R.Source.left c.args.source.now),
  no_bytes,
  c.requires.fresh,
  c.requires.unrefused,
  open_at_first {slots = g.row.SLOTS} c.args.checker.now c.requires.unrefused c.requires.fresh,
  refl,
  refl,
)

pub pieces-preserved : goal.pieces-preserved
pieces-preserved g c =
    let i = c.pieces.invariant in
    let e = c.in-Ok-More.ensures in
    let more = e.fed.more (ap Ok c.in-Ok-More.field-0-is) in (
      i.0 ++ e.fed.bytes,
      consumes_both (g.R.Source.left c.args.source.now) (g.R.Source.left c.pieces.source) (g.R.Source.left c.feed_piece.new.source) i.0 e.fed.bytes i.1 e.fed.consumed,
      bytes_both i.0 e.fed.bytes i.2 e.fed.typed,
      e.fed.follows i.0 i.3,
      more.1,
      more.2,
      c.feed_piece.ensures.length ∙ i.6,
      e.cause.kept (λ is. absurd (cc is)) ∙ i.7,
    )

pub pieces-smaller : goal.pieces-smaller
pieces-smaller g c =
    let i = c.pieces.invariant in
    let e = c.in-Ok-More.ensures in
    let more = e.fed.more (ap Ok c.in-Ok-More.field-0-is) in
    less_left {slots = g.row.SLOTS} i.0 e.fed.bytes c.pieces.checker c.feed_piece.new.checker c.requires.count (bytes_both i.0 e.fed.bytes i.2 e.fed.typed) more.0 i.4 i.5 i.3 more.1 more.2
    (e.fed.follows i.0 i.3)

pub feed_piece-requires : goal.feed_piece-requires
feed_piece-requires g c =
    let i = c.pieces.invariant in
    let room : 1 ≤ length c.pieces.piece = omega (arith, i.6, c.requires.room) in
    (omega arith, (room, i.4))

pub returns-in-Ok-Whole-clause-fed : goal.returns-in-Ok-Whole-clause-fed
returns-in-Ok-Whole-clause-fed g c =
    let i = c.pieces.invariant in
    let e = c.in-Ok-Whole.ensures in
    record {
      bytes = i.0 ++ e.fed.bytes;
      consumed = consumes_both (g.R.Source.left c.args.source.now) (g.R.Source.left c.pieces.source) (g.R.Source.left c.feed_piece.new.source) i.0 e.fed.bytes i.1 e.fed.consumed;
      follows = e.fed.follows i.0 i.3;
      whole = e.fed.whole (ap Ok c.in-Ok-Whole.field-0-is);
      damaged = λ at is. absurd (cc is);
    }

pub returns-in-Ok-Whole-clause-cause : goal.returns-in-Ok-Whole-clause-cause
returns-in-Ok-Whole-clause-cause g c =
    let i = c.pieces.invariant in
    let kept = c.in-Ok-Whole.ensures.cause.kept (λ is. absurd (cc is)) ∙ i.7 in
    record { later = omega (arith, kept); failed = λ is. absurd (cc is); kept = λ _. kept }

pub returns-in-Err-clause-fed : goal.returns-in-Err-clause-fed
returns-in-Err-clause-fed g c =
    let i = c.pieces.invariant in
    let e = c.in-Err.ensures in
    record {
      bytes = i.0 ++ e.fed.bytes;
      consumed = consumes_both (g.R.Source.left c.args.source.now) (g.R.Source.left c.pieces.source) (g.R.Source.left c.feed_piece.new.source) i.0 e.fed.bytes i.1 e.fed.consumed;
      follows = e.fed.follows i.0 i.3;
      whole = tt;
      damaged = λ at is. let same : c.in-Err.fault ≡ Damaged at = cc is in e.fed.damaged at (ap Err same);
    }

pub returns-in-Err-clause-cause : goal.returns-in-Err-clause-cause
returns-in-Err-clause-cause g c =
    let i = c.pieces.invariant in
    let e = c.in-Err.ensures.cause in
    record {
      later = omega (arith, e.later, i.7);
      failed = λ is. let same : c.in-Err.fault ≡ Read = cc is in subst (λ (n : ℕ). Rose n (g.R.Source.faults c.feed_piece.new.source)) i.7 (e.failed (ap Err same));
      kept = λ no. e.kept (λ is. let same : c.in-Err.fault ≡ Read = cc is in no (ap Err same)) ∙ i.7;
    }
