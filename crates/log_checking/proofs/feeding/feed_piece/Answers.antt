use Rattle.std.proofs.Common.{◌≡◌, ℕ, ◌<◌, ◌≤◌, [], length, take, inl, inr, Ok, Err, ap, subst, ◌∙◌, arith, rules, length-take}
use Rattle.std.specs.Io.KnownBytes.{Consumes}
use Rattle.ship_stream.specs.declared.refusal.FeedRefusal.TheVariants.{Damaged as IsDamaged}
use Rattle.log_checking.specs.declared.feeding.Fed.TheVariants.{More, Whole}
use Rattle.standby_feeding.proofs.SourceLaws.{consumes_none, no_bytes}
use Rattle.log_checking.proofs.FedLaws.{fed_none}
use Rattle.log_checking.proofs.feeding.feed_piece.Goals as goal

pub returns-in-Err-clause-fed : goal.returns-in-Err-clause-fed
returns-in-Err-clause-fed g c = record {
  bytes = [];
  consumed = consumes_none (g.R.Source.left c.args.source.now) (g.R.Source.left c.read.new.self) c.in-Err.ensures.bytes;
  typed = no_bytes;
  follows = fed_none c.args.checker.now;
  more = λ is. absurd (cc is);
  whole = λ is. absurd (cc is);
  damaged = λ at is. absurd (cc is);
}

pub returns-then-count-eq0-clause-fed : goal.returns-then-count-eq0-clause-fed
returns-then-count-eq0-clause-fed g c =
    let none : c.in-Ok.count ≡ 0 = c.if-count-eq0.true in
    let room : 0 < length c.read.new.into = search rules in
    record {
      bytes = [];
      consumed = subst (λ (n : ℕ). Consumes (g.R.Source.left c.args.source.now) (g.R.Source.left c.read.new.self) (take n c.read.new.into)) none c.in-Ok.ensures.bytes.0;
      typed = no_bytes;
      follows = fed_none c.args.checker.now;
      more = λ is. absurd (cc is);
      whole = λ _. (c.requires.unrefused, inr (c.in-Ok.ensures.bytes.1 none room));
      damaged = λ at is. absurd (cc is);
    }

pub returns-in-Ok-feed_bytes-clause-fed : goal.returns-in-Ok-feed_bytes-clause-fed
returns-in-Ok-feed_bytes-clause-fed g c =
    let e = c.in-Ok-feed_bytes.ensures in
    let within : c.in-Ok.count ≤ length c.read.new.into = search rules in
    let some : 1 ≤ length (take c.in-Ok.count c.read.new.into) = omega (arith, length-take c.in-Ok.count c.read.new.into, within, c.if-count-eq0.false) in
    record {
      bytes = take c.in-Ok.count c.read.new.into;
      consumed = c.in-Ok.ensures.bytes.0;
      typed = e.bytes;
      follows = e.follows;
      more = λ is. let same : c.in-Ok-feed_bytes.fed ≡ More = cc is in let open_end = e.more (ap Ok same) in (some, open_end.0, open_end.1);
      whole = λ is. let same : c.in-Ok-feed_bytes.fed ≡ Whole = cc is in let ended = e.whole (ap Ok same) in (ended.0, inl ended.1);
      damaged = λ at is. absurd (cc is);
    }

pub returns-in-Err-Damaged-clause-fed : goal.returns-in-Err-Damaged-clause-fed
returns-in-Err-Damaged-clause-fed g c =
    let e = c.in-Err-Damaged.ensures in
    record {
      bytes = take c.in-Ok.count c.read.new.into;
      consumed = c.in-Ok.ensures.bytes.0;
      typed = e.bytes;
      follows = e.follows;
      more = λ is. absurd (cc is);
      whole = λ is. absurd (cc is);
      damaged = λ at is. let same : c.in-Err-Damaged.at ≡ at = cc is in e.refused (IsDamaged at) (ap Err (c.in-Err-Damaged.field-0-is ∙ ap IsDamaged same));
    }

pub returns-in-Err-Memory-clause-fed : goal.returns-in-Err-Memory-clause-fed
returns-in-Err-Memory-clause-fed g c =
    let e = c.in-Err-Memory.ensures in
    record {
      bytes = take c.in-Ok.count c.read.new.into;
      consumed = c.in-Ok.ensures.bytes.0;
      typed = e.bytes;
      follows = e.follows;
      more = λ is. absurd (cc is);
      whole = λ is. absurd (cc is);
      damaged = λ at is. absurd (cc is);
    }
