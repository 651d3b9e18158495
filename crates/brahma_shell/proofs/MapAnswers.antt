-- What the program answers where lines over a map were asked.
use Rattle.std.proofs.Common.{◌≡◌, ◌⊎◌, ⊎_elim, inl, inr, ◌≤◌, ◌+◌, ℕ, List, length, Option, Some, refl, ap, ◌∙◌, subst, arith}
use Rattle.std.specs.Prelude.{IfSome}
use Rattle.disk_model.specs.declared.area.Area.{Area}
use Rattle.disk_model.specs.Areas.{Bytes}
use Rattle.disk_model.specs.Told.{IsImage}
use Rattle.cell_model.specs.Cells.{Cell}
use Rattle.cell_model.specs.Graph.{graph_of}
use Rattle.map_calls.specs.declared.failure.Failure.{Failure}
use Rattle.map_calls.specs.declared.failure.Failure.TheVariants as failure
use Rattle.map_calls.specs.Views.{status_of_failure}
use Rattle.object_map.specs.Maps.{IsMap}
use Rattle.opened_images.specs.Opened.{Opened, OpensTo}
use Rattle.store_opening.specs.Store.{Reads}
use Rattle.script_lines.specs.Numbers.{object_slots}
use Rattle.brahma_shell.specs.declared.commands.Command.TheVariants.{Init, Replay, Run, Gen, Audit, ParAudit, Migrate, Backup, Ship, Log, Standby, Check, Map}
use Rattle.brahma_shell.specs.declared.ended.Ended.{Ended}
use Rattle.brahma_shell.specs.Commands.{command_of}
use Rattle.brahma_shell.specs.Ended.{disk_in}
use Rattle.brahma_shell.specs.MapRan.{AlwaysKeepsMap, KeepsNoMap, ReadsNoMap, Unmapped, MapRan}
use Rattle.brahma_shell.specs.Top.{Tell, IsStatusOfReplay, IsDoneOrFull, GoesLater, Outside, AlwaysOpens, Unopened}
use Rattle.brahma_shell.specs.Answered.{CanBeDone, Answered}
use Rattle.brahma_shell.specs.Migrated.{AlwaysOpensAtEither}
use Rattle.brahma_shell.proofs.AnswerLemmas.{none-some, not-usage, same-command}
use Rattle.brahma_shell.proofs.CompleteLemmas.{at-either, cells-read, read-left, same-outcome, unopened-open, unopened-either, unopened-closed, unopened-memory}
use Rattle.brahma_shell.proofs.CrashLemmas.{read-image}

-- ---- a look that was refused

read_full : (status : ℕ) (f : Failure) → (f ≡ failure.Disk → ⊥) → status ≡ status_of_failure f → IsDoneOrFull status
read_full status failure.Disk n e = absurd (n refl)
read_full status failure.HistoryFull n e = inr (inr e)
read_full status failure.LogFull n e = inr (inr e)
read_full status failure.Memory n e = inr (inl e)

read_seven : (status : ℕ) (f : Failure) → status ≡ status_of_failure f → status ≡ 7 → ⊥
read_seven status failure.Disk e s = absurd (omega (arith, e, s))
read_seven status failure.HistoryFull e s = absurd (omega (arith, e, s))
read_seven status failure.LogFull e s = absurd (omega (arith, e, s))
read_seven status failure.Memory e s = absurd (omega (arith, e, s))

module _ {S D : Type 0} (content : D → Area → Option (List ℕ)) (may_leave : D → Area → List ℕ → Type 0) (moment : D → ℕ) (left_since : D → ℕ → Bytes → Type 0)
    (words : List (List ℕ)) (script later : S) (disk : D) (before after : Outside) (status : ℕ) (ended : Ended D) (goes : GoesLater before after)
    (stay : (d : D) (area : Area) → IfSome (content d area) (may_leave d area)) (counts : (d : D) (t : ℕ) (image : Bytes) → t ≤ moment d → IsImage may_leave d image → left_since d t image) where
  abbrev NotOpened : Type 0
  NotOpened = Unopened content may_leave moment left_since disk before after status ended

  abbrev NoMap : Type 0
  NoMap = KeepsNoMap content may_leave moment left_since disk before after status ended

  abbrev NotRead : Type 0
  NotRead = ReadsNoMap content may_leave moment left_since disk before after status ended

  abbrev Ran : Type 0
  Ran = MapRan content may_leave disk before after status ended

  -- what was found: nothing that opens, or cells
  by_found : {P : Type 0} → (later ≡ script) × Unmapped content may_leave moment left_since disk before after status ended ⊎ Ran → (NotOpened → P) → (NoMap → P) → (NotRead → P) → (Ran → P) → P
  by_found m u k n r = ⊎_elim (λ x. ⊎_elim u (λ y. ⊎_elim k n y) x.1) r m

  -- ---- the store opens still

  same_ids : Tell content → (ids many : ℕ) (cells : List Cell) → AlwaysOpensAtEither may_leave ids disk → ((image : Bytes) → Reads content disk image → Opened object_slots image (OpensTo cells)) → length cells ≡ many + 1 → many ≡ ids
  same_ids tell ids many cells opens holds size =
      let read = cells-read content may_leave stay ids disk opens tell cells holds in
      omega (arith, read, size)

  open_after : (ids many : ℕ) → many ≡ ids → ((image : Bytes) → IsImage may_leave (disk_in ended) image → (cells : List Cell) × Opened object_slots image (OpensTo cells) × (length cells ≡ many + 1)) → AlwaysOpens may_leave ids (disk_in ended)
  open_after ids many e each image is = (let o = each image is in (o.0, o.1, o.2 ∙ ap (λ n. n + 1) e))

  open_still : Tell content → (ids : ℕ) → AlwaysOpensAtEither may_leave ids disk → (later ≡ script) × Unmapped content may_leave moment left_since disk before after status ended ⊎ Ran → (NotOpened → AlwaysOpens may_leave ids (disk_in ended)) → AlwaysOpens may_leave ids (disk_in ended)
  open_still tell ids opens m u = by_found m u
      (λ k. open_after ids k.ids (same_ids tell ids k.ids k.cells opens k.opened k.size) (λ image is. (let o = k.exit image is in (o.cells, o.opened, o.size))))
      (λ n. open_after ids n.ids (same_ids tell ids n.ids n.cells opens n.opened n.size) (λ image is. (let o = n.exit image is in (o.cells, o.opened, o.size))))
      (λ r. open_after ids r.ids (same_ids tell ids r.ids r.cells opens r.opened r.size) (λ image is. (let o = r.exit tell image is in (o.2.cells, o.2.opened, o.2.size ∙ ap (λ n. n + 1) o.1))))

  -- ---- what can be done is done

  keeps_open : (ids : ℕ) → AlwaysKeepsMap may_leave ids disk → AlwaysOpens may_leave ids disk
  keeps_open ids keeps image is = (let o = keeps image is in (o.2.cells, o.2.opened, o.2.size ∙ ap (λ n. n + 1) o.1))

  not_none : Tell content → (ids : ℕ) → AlwaysKeepsMap may_leave ids disk → NoMap → ⊥
  not_none tell ids keeps k =
      let read = read-image content tell disk in
      let o = keeps read.0 (read-left content may_leave stay disk read.0 read.1) in
      let same = same-outcome read.0 o.2.cells k.cells o.2.opened (k.opened read.0 read.1) in
      k.none o.0.pairs (subst (λ (cs : List Cell). IsMap 13 (graph_of cs) o.0.pairs) same o.2.map)

  pub asks-map : command_of words ≡ Some Map → IsStatusOfReplay status → (later ≡ script) × Unmapped content may_leave moment left_since disk before after status ended ⊎ Ran
      → Answered content may_leave moment left_since words script later disk before after status ended
  asks-map asked is mapped = record {
    usage = λ two. absurd (not-usage status is two);
    no_reading = λ none. absurd (none-some (command_of words) Map none asked);
    statuses = inr is;
    goes_later = goes;
    only_looks = λ other image reads closed. by_found mapped (λ u. u.refused.only_looks image reads closed.0) (λ k. absurd (closed.0 k.cells (k.opened image reads))) (λ n. absurd (closed.0 n.cells (n.opened image reads))) (λ r. absurd (closed.0 r.cells (r.opened image reads)));
    unread = λ two. absurd (not-usage status is two);
    made = λ pages e. absurd (cc (same-command (command_of words) (Init pages) Map e asked));
    replayed = λ e. absurd (cc (same-command (command_of words) Replay Map e asked));
    ran = λ e. absurd (cc (same-command (command_of words) Run Map e asked));
    audited = λ e. absurd (cc (same-command (command_of words) Audit Map e asked));
    par_audited = λ n e. absurd (cc (same-command (command_of words) (ParAudit n) Map e asked));
    generated = λ a e. absurd (cc (same-command (command_of words) (Gen a) Map e asked));
    migrated = λ e. absurd (cc (same-command (command_of words) Migrate Map e asked));
    backed_up = λ e. absurd (cc (same-command (command_of words) Backup Map e asked));
    shipped = λ e. absurd (cc (same-command (command_of words) Ship Map e asked));
    logged = λ e. absurd (cc (same-command (command_of words) Log Map e asked));
    stood_by = λ e. absurd (cc (same-command (command_of words) Standby Map e asked));
    checked = λ e. absurd (cc (same-command (command_of words) Check Map e asked));
    mapped = λ _. mapped;
    makes_open = λ pages e. absurd (cc (same-command (command_of words) (Init pages) Map e asked));
    stays_open = λ tell ids opens other. open_still tell ids (at-either may_leave ids disk opens) mapped (λ u. unopened-open content may_leave moment left_since disk before after status ended u stay counts tell ids opens);
    stays_either = λ tell ids opens other. by_found mapped
        (λ u. unopened-either content may_leave moment left_since disk before after status ended u stay counts tell ids opens)
        (λ k. at-either may_leave ids (disk_in ended) (open_after ids k.ids (same_ids tell ids k.ids k.cells opens k.opened k.size) (λ image at. (let o = k.exit image at in (o.cells, o.opened, o.size)))))
        (λ n. at-either may_leave ids (disk_in ended) (open_after ids n.ids (same_ids tell ids n.ids n.cells opens n.opened n.size) (λ image at. (let o = n.exit image at in (o.cells, o.opened, o.size)))))
        (λ r. at-either may_leave ids (disk_in ended) (open_after ids r.ids (same_ids tell ids r.ids r.cells opens r.opened r.size) (λ image at. (let o = r.exit tell image at in (o.2.cells, o.2.opened, o.2.size ∙ ap (λ n. n + 1) o.1)))));
    migrates = λ tell ids opens e. absurd (cc (same-command (command_of words) Migrate Map e asked));
    complete = λ tell command e can reads writes faults.
        let c = subst (CanBeDone may_leave disk before.left) (same-command (command_of words) command Map e asked) can in
        by_found mapped
        (λ u. unopened-memory content may_leave moment left_since disk before after status ended u stay tell c.0 (keeps_open c.0 c.1) faults)
        (λ k. absurd (not_none tell c.0 c.1 k))
        (λ n. read_full status n.cause n.no_disk n.told)
        (λ r. ⊎_elim (λ d. d) (λ seven. absurd (r.only_untold seven tell)) (r.complete c.2 reads writes faults));
    refuses = λ image reads closed ask. by_found mapped (λ u. u) (λ k. absurd (closed k.cells (k.opened image reads))) (λ n. absurd (closed n.cells (n.opened image reads))) (λ r. absurd (closed r.cells (r.opened image reads)));
    refuses_to_migrate = λ image reads closed e. absurd (cc (same-command (command_of words) Migrate Map e asked));
    only_refused = λ no_stream tell seven image reads. by_found mapped
        (λ u. inl (unopened-closed content may_leave moment left_since disk before after status ended u seven image reads, λ e. absurd (cc (same-command (command_of words) Migrate Map e asked))))
        (λ k. inr (asked, record { cells = k.cells; opened = k.opened image reads; none = k.none }))
        (λ n. absurd (read_seven status n.cause n.told seven))
        (λ r. absurd (r.only_untold seven tell));
  }
