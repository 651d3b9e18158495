-- What the program answers where a check was asked.
use Rattle.std.proofs.Common.{◌≡◌, ◌⊎◌, ⊎_elim, inl, inr, ◌≤◌, ℕ, List, Option, Some, sym, subst}
use Rattle.std.specs.Prelude.{IfSome}
use Rattle.disk_model.specs.declared.area.Area.{Area}
use Rattle.disk_model.specs.Areas.{Bytes}
use Rattle.disk_model.specs.Told.{IsImage}
use Rattle.store_opening.specs.Looks.{IsLookedAt}
use Rattle.brahma_shell.specs.declared.commands.Command.TheVariants.{Init, Replay, Run, Gen, Audit, ParAudit, Migrate, Backup, Ship, Log, Standby, Check, Map}
use Rattle.brahma_shell.specs.declared.ended.Ended.{Ended}
use Rattle.brahma_shell.specs.declared.ended.Ended.TheVariants.{Shut}
use Rattle.brahma_shell.specs.Commands.{command_of}
use Rattle.brahma_shell.specs.Ended.{disk_in}
use Rattle.brahma_shell.specs.Top.{IsStatusOfReplay, GoesLater, Outside, AlwaysOpens}
use Rattle.brahma_shell.specs.Checked.{Checked}
use Rattle.brahma_shell.specs.Answered.{CanBeDone, Answered}
use Rattle.brahma_shell.specs.Migrated.{AlwaysOpensAtEither}
use Rattle.brahma_shell.proofs.AnswerLemmas.{none-some, not-usage, same-command, not-asked}
use Rattle.brahma_shell.proofs.CheckEnds.{checked-complete}

of-check : (status : ℕ) → (status ≡ 0) ⊎ ((status ≡ 3) ⊎ ((status ≡ 4) ⊎ ((status ≡ 5) ⊎ ((status ≡ 7) ⊎ (status ≡ 8))))) → IsStatusOfReplay status
of-check status is =
    ⊎_elim (λ h. inl h)
    (λ is. inr (⊎_elim (λ h. inl h) (λ is. inr (⊎_elim (λ h. inl h) (λ is. inr (⊎_elim (λ h. inl h) (λ is. inr (inr (⊎_elim (λ h. inl h) (λ h. inr (inl h)) is))) is)) is)) is)) is

module _ {S D : Type 0} (content : D → Area → Option (List ℕ)) (may_leave : D → Area → List ℕ → Type 0) (moment : D → ℕ) (left_since : D → ℕ → Bytes → Type 0)
    (words : List (List ℕ)) (script later : S) (disk : D) (before after : Outside) (status : ℕ) (ended : Ended D) (goes : GoesLater before after)
    (stay : (d : D) (area : Area) → IfSome (content d area) (may_leave d area)) (counts : (d : D) (t : ℕ) (image : Bytes) → t ≤ moment d → IsImage may_leave d image → left_since d t image) where
  pub asks-check : ((d : D) (image : Bytes) → left_since d (moment d) image → IsImage may_leave d image) → command_of words ≡ Some Check → ended ≡ Shut disk → Checked before after status
      → Answered content may_leave moment left_since words script later disk before after status ended
  asks-check only_now asked back checked =
      let is = of-check status checked.statuses in
      record {
        usage = λ two. absurd (not-usage status is two);
        no_reading = λ none. absurd (none-some (command_of words) Check none asked);
        statuses = inr is;
        goes_later = goes;
        only_looks = λ other image reads closed.
            subst (λ (e : Ended D). IsLookedAt content may_leave moment left_since disk (disk_in e)) (sym back)
            (not-asked content may_leave moment left_since words script later disk before after status ended goes stay counts only_now);
        unread = λ two. absurd (not-usage status is two);
        made = λ pages e. absurd (cc (same-command (command_of words) (Init pages) Check e asked));
        replayed = λ e. absurd (cc (same-command (command_of words) Replay Check e asked));
        ran = λ e. absurd (cc (same-command (command_of words) Run Check e asked));
        audited = λ e. absurd (cc (same-command (command_of words) Audit Check e asked));
        par_audited = λ n e. absurd (cc (same-command (command_of words) (ParAudit n) Check e asked));
        generated = λ a e. absurd (cc (same-command (command_of words) (Gen a) Check e asked));
        migrated = λ e. absurd (cc (same-command (command_of words) Migrate Check e asked));
        backed_up = λ e. absurd (cc (same-command (command_of words) Backup Check e asked));
        shipped = λ e. absurd (cc (same-command (command_of words) Ship Check e asked));
        logged = λ e. absurd (cc (same-command (command_of words) Log Check e asked));
        stood_by = λ e. absurd (cc (same-command (command_of words) Standby Check e asked));
        checked = λ _. (back, checked);
        mapped = λ e. absurd (cc (same-command (command_of words) Map Check e asked));
        makes_open = λ pages e. absurd (cc (same-command (command_of words) (Init pages) Check e asked));
        stays_open = λ tell ids opens other. subst (λ (e : Ended D). AlwaysOpens may_leave ids (disk_in e)) (sym back) opens;
        stays_either = λ tell ids opens other. subst (λ (e : Ended D). AlwaysOpensAtEither may_leave ids (disk_in e)) (sym back) opens;
        migrates = λ tell ids opens e. absurd (cc (same-command (command_of words) Migrate Check e asked));
        complete = λ tell command e can reads writes faults.
            checked-complete before after status checked (subst (CanBeDone may_leave disk before.left) (same-command (command_of words) command Check e asked) can) reads writes;
        refuses = λ image reads closed ask.
            absurd (⊎_elim (λ e. cc (same-command (command_of words) Replay Check e asked)) (λ h. ⊎_elim (λ e. cc (same-command (command_of words) Run Check e asked)) (λ h. ⊎_elim (λ e. cc (same-command (command_of words) Audit Check e asked)) (λ h. ⊎_elim (λ n. cc (same-command (command_of words) (ParAudit n.0) Check n.1 asked)) (λ h. ⊎_elim (λ g. cc (same-command (command_of words) (Gen g.0) Check g.1 asked)) (λ h. ⊎_elim (λ e. cc (same-command (command_of words) Backup Check e asked)) (λ e. cc (same-command (command_of words) Map Check e asked)) h) h) h) h) h) ask);
        refuses_to_migrate = λ image reads closed e. absurd (cc (same-command (command_of words) Migrate Check e asked));
        only_refused = λ not_stream tell seven image reads. absurd (not_stream (inr asked));
      }
