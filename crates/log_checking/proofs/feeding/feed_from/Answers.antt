use Rattle.std.proofs.Common.{◌≡◌, Err, ap}
use Rattle.standby_feeding.specs.declared.fault.FeedFault.TheVariants.{Read, Damaged}
use Rattle.log_checking.proofs.FedLaws.{damaged_at, read_through}
use Rattle.log_checking.proofs.feeding.feed_from.Goals as goal

pub returns-in-Ok-clause-fed : goal.returns-in-Ok-clause-fed
returns-in-Ok-clause-fed g c =
    let e = c.in-Ok.ensures.fed in
    record {
      bytes = e.bytes;
      consumed = e.consumed;
      fed = record {
        follows = e.follows;
        unrefused = e.whole.0;
        through = read_through {slots = g.row.SLOTS} (g.R.Source.left c.feed_all.new.source) e.bytes c.feed_all.new.checker e.whole.0 e.follows e.whole.1;
      };
      damaged = λ at is. absurd (cc is);
    }

pub returns-in-Err-clause-fed : goal.returns-in-Err-clause-fed
returns-in-Err-clause-fed g c =
    let e = c.in-Err.ensures.fed in
    record {
      bytes = e.bytes;
      consumed = e.consumed;
      fed = tt;
      damaged = λ at is.
          let same : c.in-Err.fault ≡ Damaged at = cc is in
          damaged_at {slots = g.row.SLOTS} e.bytes c.feed_all.new.checker at (e.damaged at (ap Err same)) e.follows;
    }

pub returns-in-Err-clause-cause : goal.returns-in-Err-clause-cause
returns-in-Err-clause-cause g c =
    let e = c.in-Err.ensures.cause in
    record {
      later = e.later;
      failed = λ is. let same : c.in-Err.fault ≡ Read = cc is in e.failed (ap Err same);
      kept = λ no. e.kept (λ is. let same : c.in-Err.fault ≡ Read = cc is in no (ap Err same));
    }
