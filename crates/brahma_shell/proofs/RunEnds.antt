-- How a replay ends, at the end of its run.
use Rattle.std.proofs.Common.{◌≡◌, ◌⊎◌, ⊎_elim, inl, inr, ℕ, ◌-◌, List, length, false, Option, None, refl, arith}
use Rattle.std.specs.Prelude.{IfSome, IsSome, codes}
use Rattle.std.specs.Io.KnownBytes.{Appends}
use Rattle.plain_model.specs.History.{IsLegal}
use Rattle.disk_model.specs.declared.area.Area.{Area}
use Rattle.disk_model.specs.Causes.{Rose}
use Rattle.disk_model.specs.Told.{EachImage}
use Rattle.store_opening.specs.declared.open_refusal.OpenRefusal.{OpenRefusal}
use Rattle.journal_opening.specs.Openings.{ReadsAs}
use Rattle.logged_journal.specs.View.{LoggedView}
use Rattle.logged_journal.specs.Opens.{OpensAfter}
use Rattle.script_lines.specs.Output.{refused_line, open_refusal_line}
use Rattle.brahma_shell.specs.declared.ended.Ended.TheVariants.{Shut, Kept}
use Rattle.brahma_shell.specs.Follows.{FollowsAll, FollowsUpTo, FollowsRead, FollowsPart, FollowsToCommit}
use Rattle.brahma_shell.specs.Runs.{Run, run_history, whole, ids_at, end_point, IsLastOf}
use Rattle.brahma_shell.specs.Top.{Tell, IsOfReplay, Outside, Ends, EndsAtCommit, EndsAtUpkeep, EndsAtCrash, EndsAtHistory, EndsAtLog, IsCutShort, Replayed, text_in, whole_text, status_of_refusal}
use Rattle.brahma_shell.proofs.EndLemmas.{both-unmarked, no-failure}
use Rattle.brahma_shell.proofs.TopLemmas.{none-refused}
use Rattle.script_lines.specs.Numbers.{object_slots}

-- what is known at the end of each replay that hands a journal back
pub record AtEnd {D : Type 0} (content : D → Area → Option (List ℕ)) (may_leave : D → Area → List ℕ → Type 0) (disk : D) (before after : Outside) (r : Run) (v : LoggedView D) : Type 0 where
  pub opened : ReadsAs content object_slots disk r.opening
  pub legal : Tell content → IsLegal (run_history r)
  pub last : IsLastOf r v
  pub journal : IsOfReplay may_leave v
  pub exit : Tell content → EachImage may_leave v.disk (OpensAfter object_slots (run_history r))
  pub same_ids : Tell content → ids_at (end_point (whole r)) ≡ r.ids
  pub size : r.ids ≡ length r.opening - 1

-- and of each that hands the disk back
pub record AtLoss {D : Type 0} (content : D → Area → Option (List ℕ)) (may_leave : D → Area → List ℕ → Type 0) (disk now : D) (r : Run) : Type 0 where
  pub opened : ReadsAs content object_slots disk r.opening
  pub legal : Tell content → IsLegal (run_history r)
  pub exit : Tell content → EachImage may_leave now (OpensAfter object_slots (run_history r))
  pub same_ids : Tell content → ids_at (end_point (whole r)) ≡ r.ids
  pub size : r.ids ≡ length r.opening - 1

module _ {S D : Type 0} (content : D → Area → Option (List ℕ)) (may_leave : D → Area → List ℕ → Type 0) (script later : S) (disk : D) (before after : Outside) (r : Run) where
  -- each line was done
  pub ends-done : (v : LoggedView D) → AtEnd content may_leave disk before after r v → v.failed ≡ None → v.journal.marks.trace ≡ false → v.log_full ≡ false → FollowsAll before.left after.left (whole r) → Appends before.written after.written (whole_text r) → Replayed content may_leave script later disk before after 0 (Kept v)
  ends-done v k running trace log follows text = record {
    run = r;
    opened = k.opened;
    legal = k.legal;
    same_ids = k.same_ids;
    size = k.size;
    journal = (k.last, k.journal);
    exit = k.exit;
    statuses = inl refl;
    complete = λ only reads writes faults. inl (inl refl);
    only_untold = λ e _. absurd (omega (arith, e));
    handed = λ e. absurd (cc);
    lost = λ e. absurd (omega (arith, e));
    done = λ _. (follows, text);
    refused = λ e. absurd (omega (arith, e));
    read = λ e. absurd (omega (arith, e));
    write = λ e. absurd (omega (arith, e));
    failed_disk = λ e. absurd (omega (arith, e));
    disk_crash = λ e _. absurd (omega (arith, e));
    store = λ e. absurd (omega (arith, e));
    memory = λ e _. absurd (omega (arith, e));
    memory_crash = λ e _. absurd (omega (arith, e));
    limit = λ e _. absurd (omega (arith, e));
    limit_crash = λ e _. absurd (omega (arith, e));
    marked = both-unmarked v.journal.marks.trace v.log_full 0 trace log (λ e. omega (arith, e));
    failed = λ some. absurd (no-failure v running some);
  }

  -- a line was refused
  pub ends-refused : (v : LoggedView D) → AtEnd content may_leave disk before after r v → v.failed ≡ None → v.journal.marks.trace ≡ false → v.log_full ≡ false → (number : ℕ) → FollowsUpTo before.left number (whole r) → Ends before after (text_in r) (refused_line number) → Replayed content may_leave script later disk before after 3 (Kept v)
  ends-refused v k running trace log number follows text = record {
    run = r;
    opened = k.opened;
    legal = k.legal;
    same_ids = k.same_ids;
    size = k.size;
    journal = (k.last, k.journal);
    exit = k.exit;
    statuses = inr (inl refl);
    complete = λ only reads writes faults. absurd (none-refused before.left number (whole r) refl follows only);
    only_untold = λ e _. absurd (omega (arith, e));
    handed = λ e. absurd (cc);
    lost = λ e. absurd (omega (arith, e));
    done = λ e. absurd (omega (arith, e));
    refused = λ _. (number, follows, text);
    read = λ e. absurd (omega (arith, e));
    write = λ e. absurd (omega (arith, e));
    failed_disk = λ e. absurd (omega (arith, e));
    disk_crash = λ e _. absurd (omega (arith, e));
    store = λ e. absurd (omega (arith, e));
    memory = λ e _. absurd (omega (arith, e));
    memory_crash = λ e _. absurd (omega (arith, e));
    limit = λ e _. absurd (omega (arith, e));
    limit_crash = λ e _. absurd (omega (arith, e));
    marked = both-unmarked v.journal.marks.trace v.log_full 3 trace log (λ e. omega (arith, e));
    failed = λ some. absurd (no-failure v running some);
  }

  -- the source failed
  pub ends-read : (v : LoggedView D) → AtEnd content may_leave disk before after r v → v.failed ≡ None → v.journal.marks.trace ≡ false → v.log_full ≡ false → Rose before.read_faults after.read_faults → FollowsRead before.left after.left (whole r) → Ends before after (text_in r) (codes "refused: read\n") → Replayed content may_leave script later disk before after 4 (Kept v)
  ends-read v k running trace log rose follows text = record {
    run = r;
    opened = k.opened;
    legal = k.legal;
    same_ids = k.same_ids;
    size = k.size;
    journal = (k.last, k.journal);
    exit = k.exit;
    statuses = inr (inr (inl refl));
    complete = λ only reads writes faults. absurd (reads rose);
    only_untold = λ e _. absurd (omega (arith, e));
    handed = λ e. absurd (cc);
    lost = λ e. absurd (omega (arith, e));
    done = λ e. absurd (omega (arith, e));
    refused = λ e. absurd (omega (arith, e));
    read = λ _. (rose, follows, text);
    write = λ e. absurd (omega (arith, e));
    failed_disk = λ e. absurd (omega (arith, e));
    disk_crash = λ e _. absurd (omega (arith, e));
    store = λ e. absurd (omega (arith, e));
    memory = λ e _. absurd (omega (arith, e));
    memory_crash = λ e _. absurd (omega (arith, e));
    limit = λ e _. absurd (omega (arith, e));
    limit_crash = λ e _. absurd (omega (arith, e));
    marked = both-unmarked v.journal.marks.trace v.log_full 4 trace log (λ e. omega (arith, e));
    failed = λ some. absurd (no-failure v running some);
  }

  -- the sink failed
  pub ends-write : (v : LoggedView D) → AtEnd content may_leave disk before after r v → v.journal.marks.trace ≡ false → v.log_full ≡ false → Rose before.write_faults after.write_faults → IsCutShort before after r → IfSome r.failed (λ client. FollowsToCommit before.left client (whole r)) → (IsSome v.failed → IsSome r.failed) → Replayed content may_leave script later disk before after 5 (Kept v)
  ends-write v k trace log rose cut commit told = record {
    run = r;
    opened = k.opened;
    legal = k.legal;
    same_ids = k.same_ids;
    size = k.size;
    journal = (k.last, k.journal);
    exit = k.exit;
    statuses = inr (inr (inr (inl refl)));
    complete = λ only reads writes faults. absurd (writes rose);
    only_untold = λ e _. absurd (omega (arith, e));
    handed = λ e. absurd (cc);
    lost = λ e. absurd (omega (arith, e));
    done = λ e. absurd (omega (arith, e));
    refused = λ e. absurd (omega (arith, e));
    read = λ e. absurd (omega (arith, e));
    write = λ _. (rose, cut, commit);
    failed_disk = λ e. absurd (omega (arith, e));
    disk_crash = λ e _. absurd (omega (arith, e));
    store = λ e. absurd (omega (arith, e));
    memory = λ e _. absurd (omega (arith, e));
    memory_crash = λ e _. absurd (omega (arith, e));
    limit = λ e _. absurd (omega (arith, e));
    limit_crash = λ e _. absurd (omega (arith, e));
    marked = both-unmarked v.journal.marks.trace v.log_full 5 trace log (λ e. omega (arith, e));
    failed = λ some. inr (refl, told some);
  }

  -- memory was out
  pub ends-memory : (v : LoggedView D) → AtEnd content may_leave disk before after r v → v.failed ≡ None → v.journal.marks.trace ≡ false → v.log_full ≡ false → FollowsPart before.left (whole r) → Ends before after (text_in r) (codes "refused: memory\n") → Replayed content may_leave script later disk before after 8 (Kept v)
  ends-memory v k running trace log follows text = record {
    run = r;
    opened = k.opened;
    legal = k.legal;
    same_ids = k.same_ids;
    size = k.size;
    journal = (k.last, k.journal);
    exit = k.exit;
    statuses = inr (inr (inr (inr (inr (inr (inl refl))))));
    complete = λ only reads writes faults. inl (inr (inl refl));
    only_untold = λ e _. absurd (omega (arith, e));
    handed = λ e. absurd (cc);
    lost = λ e. absurd (omega (arith, e));
    done = λ e. absurd (omega (arith, e));
    refused = λ e. absurd (omega (arith, e));
    read = λ e. absurd (omega (arith, e));
    write = λ e. absurd (omega (arith, e));
    failed_disk = λ e. absurd (omega (arith, e));
    disk_crash = λ e _. absurd (omega (arith, e));
    store = λ e. absurd (omega (arith, e));
    memory = λ _ _. (follows, text);
    memory_crash = λ _ e. absurd (cc);
    limit = λ e _. absurd (omega (arith, e));
    limit_crash = λ e _. absurd (omega (arith, e));
    marked = both-unmarked v.journal.marks.trace v.log_full 8 trace log (λ e. omega (arith, e));
    failed = λ some. absurd (no-failure v running some);
  }

  -- the history is full, or the log
  pub ends-limit : (v : LoggedView D) → AtEnd content may_leave disk before after r v → v.failed ≡ None → FollowsPart before.left (whole r) → EndsAtHistory before after r v ⊎ EndsAtLog before after r v → Replayed content may_leave script later disk before after 9 (Kept v)
  ends-limit v k running follows which = record {
    run = r;
    opened = k.opened;
    legal = k.legal;
    same_ids = k.same_ids;
    size = k.size;
    journal = (k.last, k.journal);
    exit = k.exit;
    statuses = inr (inr (inr (inr (inr (inr (inr refl))))));
    complete = λ only reads writes faults. inl (inr (inr refl));
    only_untold = λ e _. absurd (omega (arith, e));
    handed = λ e. absurd (cc);
    lost = λ e. absurd (omega (arith, e));
    done = λ e. absurd (omega (arith, e));
    refused = λ e. absurd (omega (arith, e));
    read = λ e. absurd (omega (arith, e));
    write = λ e. absurd (omega (arith, e));
    failed_disk = λ e. absurd (omega (arith, e));
    disk_crash = λ e _. absurd (omega (arith, e));
    store = λ e. absurd (omega (arith, e));
    memory = λ e _. absurd (omega (arith, e));
    memory_crash = λ e _. absurd (omega (arith, e));
    limit = λ _ _. (follows, which);
    limit_crash = λ _ e. absurd (cc);
    marked = (λ _. refl, λ _. ⊎_elim (λ h. inl h.marked.0) (λ h. inr h.marked.1) which);
    failed = λ some. absurd (no-failure v running some);
  }

  -- the disk failed a commit, or upkeep
  pub ends-fault : (v : LoggedView D) → AtEnd content may_leave disk before after r v → v.journal.marks.trace ≡ false → v.log_full ≡ false → Rose before.disk_faults after.disk_faults → EndsAtCommit before after r v ⊎ EndsAtUpkeep before after r v → Replayed content may_leave script later disk before after 6 (Kept v)
  ends-fault v k trace log rose failed = record {
    run = r;
    opened = k.opened;
    legal = k.legal;
    same_ids = k.same_ids;
    size = k.size;
    journal = (k.last, k.journal);
    exit = k.exit;
    statuses = inr (inr (inr (inr (inl refl))));
    complete = λ only reads writes faults. absurd (faults rose);
    only_untold = λ e _. absurd (omega (arith, e));
    handed = λ e. absurd (cc);
    lost = λ e. absurd (omega (arith, e));
    done = λ e. absurd (omega (arith, e));
    refused = λ e. absurd (omega (arith, e));
    read = λ e. absurd (omega (arith, e));
    write = λ e. absurd (omega (arith, e));
    failed_disk = λ _. (rose, failed);
    disk_crash = λ _ e. absurd (cc);
    store = λ e. absurd (omega (arith, e));
    memory = λ e _. absurd (omega (arith, e));
    memory_crash = λ e _. absurd (omega (arith, e));
    limit = λ e _. absurd (omega (arith, e));
    limit_crash = λ e _. absurd (omega (arith, e));
    marked = both-unmarked v.journal.marks.trace v.log_full 6 trace log (λ e. omega (arith, e));
    failed = λ _. inl refl;
  }

  -- the disk failed where power was lost, or after it
  pub ends-lost-disk : (now : D) → AtLoss content may_leave disk now r → Rose before.disk_faults after.disk_faults → EndsAtCrash before after r (codes "refused: disk\n") → Replayed content may_leave script later disk before after 6 (Shut now)
  ends-lost-disk now k rose at = record {
    run = r;
    opened = k.opened;
    legal = k.legal;
    same_ids = k.same_ids;
    size = k.size;
    journal = tt;
    exit = k.exit;
    statuses = inr (inr (inr (inr (inl refl))));
    complete = λ only reads writes faults. absurd (faults rose);
    only_untold = λ e _. absurd (omega (arith, e));
    handed = λ _. inl refl;
    lost = λ e. absurd (omega (arith, e));
    done = λ e. absurd (omega (arith, e));
    refused = λ e. absurd (omega (arith, e));
    read = λ e. absurd (omega (arith, e));
    write = λ e. absurd (omega (arith, e));
    failed_disk = λ _. (rose, tt);
    disk_crash = λ _ _. at;
    store = λ e. absurd (omega (arith, e));
    memory = λ e _. absurd (omega (arith, e));
    memory_crash = λ e _. absurd (omega (arith, e));
    limit = λ e _. absurd (omega (arith, e));
    limit_crash = λ e _. absurd (omega (arith, e));
    marked = tt;
    failed = tt;
  }

  -- memory was out there
  pub ends-lost-memory : (now : D) → AtLoss content may_leave disk now r → EndsAtCrash before after r (codes "refused: memory\n") → Replayed content may_leave script later disk before after 8 (Shut now)
  ends-lost-memory now k at = record {
    run = r;
    opened = k.opened;
    legal = k.legal;
    same_ids = k.same_ids;
    size = k.size;
    journal = tt;
    exit = k.exit;
    statuses = inr (inr (inr (inr (inr (inr (inl refl))))));
    complete = λ only reads writes faults. inl (inr (inl refl));
    only_untold = λ e _. absurd (omega (arith, e));
    handed = λ _. inr (inr (inl refl));
    lost = λ e. absurd (omega (arith, e));
    done = λ e. absurd (omega (arith, e));
    refused = λ e. absurd (omega (arith, e));
    read = λ e. absurd (omega (arith, e));
    write = λ e. absurd (omega (arith, e));
    failed_disk = λ e. absurd (omega (arith, e));
    disk_crash = λ e _. absurd (omega (arith, e));
    store = λ e. absurd (omega (arith, e));
    memory = λ _ e. absurd (cc);
    memory_crash = λ _ _. at;
    limit = λ e _. absurd (omega (arith, e));
    limit_crash = λ e _. absurd (omega (arith, e));
    marked = tt;
    failed = tt;
  }

  -- its log had no room to go on there
  pub ends-lost-room : (now : D) → AtLoss content may_leave disk now r → EndsAtCrash before after r (codes "refused: log\n") → Replayed content may_leave script later disk before after 9 (Shut now)
  ends-lost-room now k at = record {
    run = r;
    opened = k.opened;
    legal = k.legal;
    same_ids = k.same_ids;
    size = k.size;
    journal = tt;
    exit = k.exit;
    statuses = inr (inr (inr (inr (inr (inr (inr refl))))));
    complete = λ only reads writes faults. inl (inr (inr refl));
    only_untold = λ e _. absurd (omega (arith, e));
    handed = λ _. inr (inr (inr refl));
    lost = λ e. absurd (omega (arith, e));
    done = λ e. absurd (omega (arith, e));
    refused = λ e. absurd (omega (arith, e));
    read = λ e. absurd (omega (arith, e));
    write = λ e. absurd (omega (arith, e));
    failed_disk = λ e. absurd (omega (arith, e));
    disk_crash = λ e _. absurd (omega (arith, e));
    store = λ e. absurd (omega (arith, e));
    memory = λ e _. absurd (omega (arith, e));
    memory_crash = λ e _. absurd (omega (arith, e));
    limit = λ _ e. absurd (cc);
    limit_crash = λ _ _. at;
    marked = tt;
    failed = tt;
  }

  -- the disk holds no store there, or none that can be opened
  pub ends-lost-store : (now : D) → AtLoss content may_leave disk now r → (e : OpenRefusal) → status_of_refusal e ≡ 7 → (Tell content → ⊥) → EndsAtCrash before after r (open_refusal_line e) → Replayed content may_leave script later disk before after 7 (Shut now)
  ends-lost-store now k e seven untold at = record {
    run = r;
    opened = k.opened;
    legal = k.legal;
    same_ids = k.same_ids;
    size = k.size;
    journal = tt;
    exit = k.exit;
    statuses = inr (inr (inr (inr (inr (inl refl)))));
    complete = λ only reads writes faults. inr refl;
    only_untold = λ _ tell. untold tell;
    handed = λ _. inr (inl refl);
    lost = λ e. refl;
    done = λ e. absurd (omega (arith, e));
    refused = λ e. absurd (omega (arith, e));
    read = λ e. absurd (omega (arith, e));
    write = λ e. absurd (omega (arith, e));
    failed_disk = λ e. absurd (omega (arith, e));
    disk_crash = λ e _. absurd (omega (arith, e));
    store = λ _. (e, seven, at);
    memory = λ e _. absurd (omega (arith, e));
    memory_crash = λ e _. absurd (omega (arith, e));
    limit = λ e _. absurd (omega (arith, e));
    limit_crash = λ e _. absurd (omega (arith, e));
    marked = tt;
    failed = tt;
  }
