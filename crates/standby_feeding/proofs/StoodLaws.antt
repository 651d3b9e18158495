-- A store that is made of a stream, or isn't.
use Rattle.std.proofs.Common.{◌≡◌, ◌≢◌, ℕ, List, refl, subst, arith}
use Rattle.std.specs.Prelude.{Option, Result, Ok, Err, IfOk, IfErr, IsErrOf}
use Rattle.std.specs.Io.KnownBytes.{Consumes}
use Rattle.cell_page.specs.Format.{IsSlotCount}
use Rattle.ship_stream.specs.Laws.{OneReadingLaw}
use Rattle.disk_model.specs.declared.area.Area.{Area}
use Rattle.disk_model.specs.Areas.{Bytes}
use Rattle.disk_model.specs.Told.{IsImage}
use Rattle.disk_model.specs.Time.{LeavesOnlyImages}
use Rattle.cell_model.specs.Cells.{Cell}
use Rattle.standby.specs.declared.promoted.Promoted.{Promoted}
use Rattle.standby.specs.declared.refusals.PromoteRefusal.{PromoteRefusal}
use Rattle.standby.specs.declared.refusals.PromoteRefusal.TheVariants as promote
use Rattle.standby.specs.Damage.{IsDamagedAt}
use Rattle.standby.specs.Promoted.{PromotesTo, IsUnsoundAt, LacksBase, IsPromoted, IsPromoting, HasPromoteCause}
use Rattle.standby.proofs.MadeDisks.{untouched}
use Rattle.standby_feeding.specs.declared.fault.FeedFault.{FeedFault}
use Rattle.standby_feeding.specs.declared.fault.FeedFault.TheVariants as fault
use Rattle.standby_feeding.specs.declared.refusal.StreamRefusal.TheVariants.{Damaged, NoBase, Unsound}
use Rattle.standby_feeding.specs.Streams.{IsReadThrough}
use Rattle.standby_feeding.specs.Feedings.{HasFedFrom, HasFeedCause}
use Rattle.standby_feeding.specs.StoodBy.{refusal_of, told_of, HasStoodBy, HasStreamCause}
use Rattle.standby_feeding.proofs.WholeLaws.{no_damage, no_lack, no_fault}

-- ---- what a refusal names

same_place : {T : Type 0} (a b : ℕ) → IsErrOf {T = T} (Err (Damaged a)) (Damaged b) → a ≡ b
same_place a b e = cc e

same_len : {T : Type 0} (a b : ℕ) → IsErrOf {T = T} (Err (NoBase a)) (NoBase b) → a ≡ b
same_len a b e = cc e

same_id : {T : Type 0} (a b r s : ℕ) → IsErrOf {T = T} (Err (Unsound a r)) (Unsound b s) → a ≡ b
same_id a b r s e = cc e

same_rule : {T : Type 0} (a b r s : ℕ) → IsErrOf {T = T} (Err (Unsound a r)) (Unsound b s) → r ≡ s
same_rule a b r s e = cc e

module _ {D : Type 0} (may_leave : D → Area → List ℕ → Type 0) (moment : D → ℕ) (left_since : D → ℕ → Bytes → Type 0) (slots : ℕ) (before now : Option (List ℕ)) where
  -- the stream wasn't read to its end
  pub unread : IsSlotCount slots → (disk : D) (f : FeedFault) → ((d : D) (image : Bytes) → left_since d (moment d) image → IsImage may_leave d image)
      → HasFedFrom slots before now (Err f) → HasStoodBy may_leave moment left_since slots before now disk disk (Err (refusal_of f))
  unread known disk fault.Read only_now h =
      record {
        bytes = h.bytes;
        consumed = h.consumed;
        promoted = tt;
        moments = untouched slots h.bytes may_leave moment left_since only_now disk;
        damaged = λ at e. absurd (cc e);
        base = λ len e. absurd (cc e);
        unsound = λ id rule e. absurd (cc e);
        failed = λ e. absurd (cc e);
        taken = λ has is. is;
        uncalled = λ _. refl;
      }
  unread known disk (fault.Damaged at) only_now h =
      record {
        bytes = h.bytes;
        consumed = h.consumed;
        promoted = tt;
        moments = untouched slots h.bytes may_leave moment left_since only_now disk;
        damaged = λ other e. subst (λ (place : ℕ). IsDamagedAt slots h.bytes place) (same_place {T = Promoted} at other e) (h.damaged at refl);
        base = λ len e. absurd (cc e);
        unsound = λ id rule e. absurd (cc e);
        failed = λ e. absurd (cc e);
        taken = λ has is. no_damage slots at before now h.bytes known has h.consumed (h.damaged at refl);
        uncalled = λ _. refl;
      }
  unread known disk fault.Memory only_now h =
      record {
        bytes = h.bytes;
        consumed = h.consumed;
        promoted = tt;
        moments = untouched slots h.bytes may_leave moment left_since only_now disk;
        damaged = λ at e. absurd (cc e);
        base = λ len e. absurd (cc e);
        unsound = λ id rule e. absurd (cc e);
        failed = λ e. absurd (cc e);
        taken = λ has is. is;
        uncalled = λ _. refl;
      }

  -- it was read, and this became of the promotion
  pub stood : IsSlotCount slots → OneReadingLaw → (disk later : D) (bytes : List ℕ) (r : Result Promoted PromoteRefusal) → Consumes before now bytes → IsReadThrough slots now bytes
      → IfOk r (IsPromoted may_leave slots bytes later) → LeavesOnlyImages moment left_since disk later (IsPromoting may_leave slots disk bytes)
      → ((id rule : ℕ) → IsErrOf r (promote.Unsound id rule) → IsUnsoundAt slots bytes id rule)
      → ((len : ℕ) → IsErrOf r (promote.NoBase len) → LacksBase slots bytes len)
      → (IsErrOf r promote.Disk → (batches : ℕ) × (cells : List Cell) × PromotesTo slots bytes batches cells)
      → IfErr r (λ e. e ≢ promote.Disk → later ≡ disk) → HasStoodBy may_leave moment left_since slots before now disk later (told_of r)
  stood known one disk later bytes (Ok p) consumed through promoted moments unsound base failed same =
      record {
        bytes = bytes;
        consumed = consumed;
        promoted = (through, promoted);
        moments = moments;
        damaged = λ at e. absurd (cc e);
        base = λ len e. absurd (cc e);
        unsound = λ id rule e. absurd (cc e);
        failed = λ e. absurd (cc e);
        taken = λ has. tt;
        uncalled = tt;
      }
  stood known one disk later bytes (Err promote.Disk) consumed through promoted moments unsound base failed same =
      record {
        bytes = bytes;
        consumed = consumed;
        promoted = tt;
        moments = moments;
        damaged = λ at e. absurd (cc e);
        base = λ len e. absurd (cc e);
        unsound = λ id rule e. absurd (cc e);
        failed = λ e. (through, failed refl);
        taken = λ has is. is;
        uncalled = λ no. absurd (no refl);
      }
  stood known one disk later bytes (Err (promote.Unsound id rule)) consumed through promoted moments unsound base failed same =
      record {
        bytes = bytes;
        consumed = consumed;
        promoted = tt;
        moments = moments;
        damaged = λ at e. absurd (cc e);
        base = λ len e. absurd (cc e);
        unsound = λ other broken e. (
          through,
          subst (λ (x : ℕ). IsUnsoundAt slots bytes x broken) (same_id {T = Promoted} id other rule broken e)
              (subst (λ (x : ℕ). IsUnsoundAt slots bytes id x) (same_rule {T = Promoted} id other rule broken e) (unsound id rule refl)),
        );
        failed = λ e. absurd (cc e);
        taken = λ has is. no_fault one slots id rule before now bytes known has consumed through (unsound id rule refl);
        uncalled = λ no. same (λ e. cc e);
      }
  stood known one disk later bytes (Err promote.Memory) consumed through promoted moments unsound base failed same =
      record {
        bytes = bytes;
        consumed = consumed;
        promoted = tt;
        moments = moments;
        damaged = λ at e. absurd (cc e);
        base = λ len e. absurd (cc e);
        unsound = λ id rule e. absurd (cc e);
        failed = λ e. absurd (cc e);
        taken = λ has is. is;
        uncalled = λ no. same (λ e. cc e);
      }
  stood known one disk later bytes (Err (promote.NoBase len)) consumed through promoted moments unsound base failed same =
      record {
        bytes = bytes;
        consumed = consumed;
        promoted = tt;
        moments = moments;
        damaged = λ at e. absurd (cc e);
        base = λ other e. (through, subst (λ (x : ℕ). LacksBase slots bytes x) (same_len {T = Promoted} len other e) (base len refl));
        unsound = λ id rule e. absurd (cc e);
        failed = λ e. absurd (cc e);
        taken = λ has is. no_lack one slots len before now bytes known has consumed through (base len refl);
        uncalled = λ no. same (λ e. cc e);
      }

-- ---- the causes

-- no call of the disk was made
pub unread_cause : {T : Type 0} (before now disk : ℕ) (f : FeedFault) → HasFeedCause {T = T} before now (Err f) → HasStreamCause {T = Promoted} before now disk disk (Err (refusal_of f))
unread_cause before now disk fault.Read h =
    record {
      source_later = h.later;
      source_failed = λ e. h.failed refl;
      source_kept = λ no. absurd (no refl);
      disk_later = omega arith;
      disk_failed = λ e. absurd (cc e);
      disk_kept = λ no. refl;
    }
unread_cause before now disk (fault.Damaged at) h =
    record {
      source_later = h.later;
      source_failed = λ e. absurd (cc e);
      source_kept = λ no. h.kept (λ e. cc e);
      disk_later = omega arith;
      disk_failed = λ e. absurd (cc e);
      disk_kept = λ no. refl;
    }
unread_cause before now disk fault.Memory h =
    record {
      source_later = h.later;
      source_failed = λ e. absurd (cc e);
      source_kept = λ no. h.kept (λ e. cc e);
      disk_later = omega arith;
      disk_failed = λ e. absurd (cc e);
      disk_kept = λ no. refl;
    }

-- no read failed
pub stood_cause : (before now old new : ℕ) (r : Result Promoted PromoteRefusal) → now ≡ before → HasPromoteCause old new r → HasStreamCause before now old new (told_of r)
stood_cause before now old new (Ok p) same h =
    record {
      source_later = omega (arith, same);
      source_failed = λ e. absurd (cc e);
      source_kept = λ no. same;
      disk_later = h.later;
      disk_failed = λ e. absurd (cc e);
      disk_kept = λ no. h.kept (λ e. cc e);
    }
stood_cause before now old new (Err promote.Disk) same h =
    record {
      source_later = omega (arith, same);
      source_failed = λ e. absurd (cc e);
      source_kept = λ no. same;
      disk_later = h.later;
      disk_failed = λ e. h.failed refl;
      disk_kept = λ no. absurd (no refl);
    }
stood_cause before now old new (Err (promote.Unsound id rule)) same h =
    record {
      source_later = omega (arith, same);
      source_failed = λ e. absurd (cc e);
      source_kept = λ no. same;
      disk_later = h.later;
      disk_failed = λ e. absurd (cc e);
      disk_kept = λ no. h.kept (λ e. cc e);
    }
stood_cause before now old new (Err promote.Memory) same h =
    record {
      source_later = omega (arith, same);
      source_failed = λ e. absurd (cc e);
      source_kept = λ no. same;
      disk_later = h.later;
      disk_failed = λ e. absurd (cc e);
      disk_kept = λ no. h.kept (λ e. cc e);
    }
stood_cause before now old new (Err (promote.NoBase len)) same h =
    record {
      source_later = omega (arith, same);
      source_failed = λ e. absurd (cc e);
      source_kept = λ no. same;
      disk_later = h.later;
      disk_failed = λ e. absurd (cc e);
      disk_kept = λ no. h.kept (λ e. cc e);
    }
