-- The verdict on a stream, or why there is none.
use Rattle.std.proofs.Common.{◌≡◌, ℕ, List, refl, subst, arith}
use Rattle.std.specs.Prelude.{Option, Result, Ok, Err, IfOk, IsErrOf}
use Rattle.std.specs.Io.KnownBytes.{Consumes}
use Rattle.cell_page.specs.Format.{IsSlotCount}
use Rattle.ship_stream.specs.Laws.{OneReadingLaw}
use Rattle.standby.specs.Damage.{IsDamagedAt}
use Rattle.standby.specs.Promoted.{IsUnsoundAt, LacksBase}
use Rattle.standby_feeding.specs.declared.fault.FeedFault.{FeedFault}
use Rattle.standby_feeding.specs.declared.fault.FeedFault.TheVariants as fault
use Rattle.standby_feeding.specs.Streams.{IsReadThrough}
use Rattle.standby_feeding.specs.Feedings.{HasFeedCause}
use Rattle.standby_feeding.proofs.WholeLaws.{no_damage, no_lack, no_fault}
use Rattle.log_checker.specs.declared.verdict.Verdict.{Verdict}
use Rattle.log_checker.specs.declared.refusal.CheckRefusal.{CheckRefusal}
use Rattle.log_checker.specs.declared.refusal.CheckRefusal.TheVariants as check
use Rattle.log_checker.specs.Verdicts.{IsVerdict}
use Rattle.log_checking.specs.declared.refusal.VerdictRefusal.TheVariants.{Damaged, NoBase, Unsound}
use Rattle.log_checking.specs.Feedings.{HasFedFrom}
use Rattle.log_checking.specs.Checked.{refusal_of, told_of, HasChecked, HasCheckCause}

-- ---- what a refusal names

same_place : {T : Type 0} (a b : ℕ) → IsErrOf {T = T} (Err (Damaged a)) (Damaged b) → a ≡ b
same_place a b e = cc e

same_len : {T : Type 0} (a b : ℕ) → IsErrOf {T = T} (Err (NoBase a)) (NoBase b) → a ≡ b
same_len a b e = cc e

same_id : {T : Type 0} (a b r s : ℕ) → IsErrOf {T = T} (Err (Unsound a r)) (Unsound b s) → a ≡ b
same_id a b r s e = cc e

same_rule : {T : Type 0} (a b r s : ℕ) → IsErrOf {T = T} (Err (Unsound a r)) (Unsound b s) → r ≡ s
same_rule a b r s e = cc e

module _ (slots : ℕ) (before now : Option (List ℕ)) where
  -- the stream wasn't read to its end
  pub unread : IsSlotCount slots → (f : FeedFault) → HasFedFrom slots before now (Err f) → HasChecked slots before now (Err (refusal_of f))
  unread known fault.Read h =
      record {
        bytes = h.bytes;
        consumed = h.consumed;
        verdict = tt;
        damaged = λ at e. absurd (cc e);
        base = λ len e. absurd (cc e);
        unsound = λ id rule e. absurd (cc e);
        taken = λ has is. is;
      }
  unread known (fault.Damaged at) h =
      record {
        bytes = h.bytes;
        consumed = h.consumed;
        verdict = tt;
        damaged = λ other e. subst (λ (place : ℕ). IsDamagedAt slots h.bytes place) (same_place {T = Verdict} at other e) (h.damaged at refl);
        base = λ len e. absurd (cc e);
        unsound = λ id rule e. absurd (cc e);
        taken = λ has is. no_damage slots at before now h.bytes known has h.consumed (h.damaged at refl);
      }
  unread known fault.Memory h =
      record {
        bytes = h.bytes;
        consumed = h.consumed;
        verdict = tt;
        damaged = λ at e. absurd (cc e);
        base = λ len e. absurd (cc e);
        unsound = λ id rule e. absurd (cc e);
        taken = λ has is. is;
      }

  -- it was read, and this is what the checker told
  pub judged : IsSlotCount slots → OneReadingLaw → (bytes : List ℕ) (r : Result Verdict CheckRefusal) → Consumes before now bytes → IsReadThrough slots now bytes → IfOk r (IsVerdict slots bytes)
      → ((id rule : ℕ) → IsErrOf r (check.Unsound id rule) → IsUnsoundAt slots bytes id rule) → ((len : ℕ) → IsErrOf r (check.NoBase len) → LacksBase slots bytes len) → HasChecked slots before now (told_of r)
  judged known one bytes (Ok v) consumed through verdict unsound base =
      record {
        bytes = bytes;
        consumed = consumed;
        verdict = (through, verdict);
        damaged = λ at e. absurd (cc e);
        base = λ len e. absurd (cc e);
        unsound = λ id rule e. absurd (cc e);
        taken = λ has. tt;
      }
  judged known one bytes (Err (check.NoBase len)) consumed through verdict unsound base =
      record {
        bytes = bytes;
        consumed = consumed;
        verdict = tt;
        damaged = λ at e. absurd (cc e);
        base = λ other e. (through, subst (λ (x : ℕ). LacksBase slots bytes x) (same_len {T = Verdict} len other e) (base len refl));
        unsound = λ id rule e. absurd (cc e);
        taken = λ has is. no_lack one slots len before now bytes known has consumed through (base len refl);
      }
  judged known one bytes (Err (check.Unsound id rule)) consumed through verdict unsound base =
      record {
        bytes = bytes;
        consumed = consumed;
        verdict = tt;
        damaged = λ at e. absurd (cc e);
        base = λ len e. absurd (cc e);
        unsound = λ other broken e. (
          through,
          subst (λ (x : ℕ). IsUnsoundAt slots bytes x broken) (same_id {T = Verdict} id other rule broken e)
              (subst (λ (x : ℕ). IsUnsoundAt slots bytes id x) (same_rule {T = Verdict} id other rule broken e) (unsound id rule refl)),
        );
        taken = λ has is. no_fault one slots id rule before now bytes known has consumed through (unsound id rule refl);
      }
  judged known one bytes (Err check.Memory) consumed through verdict unsound base =
      record {
        bytes = bytes;
        consumed = consumed;
        verdict = tt;
        damaged = λ at e. absurd (cc e);
        base = λ len e. absurd (cc e);
        unsound = λ id rule e. absurd (cc e);
        taken = λ has is. is;
      }

-- ---- the causes

pub unread_cause : {T : Type 0} (before now : ℕ) (f : FeedFault) → HasFeedCause {T = T} before now (Err f) → HasCheckCause {T = Verdict} before now (Err (refusal_of f))
unread_cause before now fault.Read h = record { later = h.later; failed = λ e. h.failed refl; kept = λ no. absurd (no refl) }
unread_cause before now (fault.Damaged at) h = record { later = h.later; failed = λ e. absurd (cc e); kept = λ no. h.kept (λ e. cc e) }
unread_cause before now fault.Memory h = record { later = h.later; failed = λ e. absurd (cc e); kept = λ no. h.kept (λ e. cc e) }

-- no read failed
pub judged_cause : (before now : ℕ) (r : Result Verdict CheckRefusal) → now ≡ before → HasCheckCause before now (told_of r)
judged_cause before now (Ok v) same = record { later = omega (arith, same); failed = λ e. absurd (cc e); kept = λ no. same }
judged_cause before now (Err (check.NoBase len)) same = record { later = omega (arith, same); failed = λ e. absurd (cc e); kept = λ no. same }
judged_cause before now (Err (check.Unsound id rule)) same = record { later = omega (arith, same); failed = λ e. absurd (cc e); kept = λ no. same }
judged_cause before now (Err check.Memory) same = record { later = omega (arith, same); failed = λ e. absurd (cc e); kept = λ no. same }
