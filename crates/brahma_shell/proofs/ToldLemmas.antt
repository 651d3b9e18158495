-- With which status a run of clients is told.
use Rattle.std.proofs.Common.{◌≡◌, ◌⊎◌, ⊎_elim, inl, inr, ℕ, ◌≤◌, List, [], Option, Some, refl, arith}
use Rattle.std.specs.Prelude.{codes}
use Rattle.std.specs.Io.KnownBytes.{Appends}
use Rattle.plain_model.specs.Text.{stored_line}
use Rattle.disk_model.specs.Causes.{Rose}
use Rattle.logged_journal.specs.View.{LoggedView}
use Rattle.script_lines.specs.Output.{AppendsFront, EndsWith}
use Rattle.script_lines.proofs.OutputLemmas.{Appends-trans, AppendsFront-after}
use Rattle.brahma_shell.specs.declared.replay.Stop.{Stop}
use Rattle.brahma_shell.specs.declared.replay.Stop.TheVariants as stop
use Rattle.brahma_shell.specs.Replay.{status_of, last_line}
use Rattle.brahma_shell.specs.Running.{TellsStop}
use Rattle.brahma_shell.specs.Telling.{IsUnmarked, Shown, Tells, TellsStored, history_text}
use Rattle.brahma_shell.proofs.TopLemmas.{EndsWith-after}

module _ (stored : Option (List ℕ)) (before after : Shown) where
  -- the stored ids are told, or not
  pub told-ids : (ids : List ℕ) (status : ℕ) → stored ≡ Some ids → (status ≡ 0) ⊎ ((status ≡ 5) ⊎ (status ≡ 8)) → (status ≡ 0 → Appends before.written after.written (stored_line ids)) → (status ≡ 5 → AppendsFront before.written after.written (stored_line ids) × Rose before.faults after.faults)
      → (status ≡ 8 → EndsWith before.written after.written before.faults after.faults [] (codes "refused: memory\n")) → before.faults ≤ after.faults → TellsStored stored before after status
  told-ids ids status is statuses done write memory later = record {
    statuses = statuses;
    done = λ e. (ids, is, done e);
    write = λ e. let w = write e in (w.1, ids, is, w.0);
    memory = memory;
    later = later;
  }

  -- memory was out before
  pub told-none : EndsWith before.written after.written before.faults after.faults [] (codes "refused: memory\n") → before.faults ≤ after.faults → TellsStored stored before after 8
  told-none ends later = record {
    statuses = inr (inr refl);
    done = λ e. absurd (omega (arith, e));
    write = λ e. absurd (omega (arith, e));
    memory = λ _. ends;
    later = later;
  }

module _ {D : Type 0} (v : LoggedView D) (stored : Option (List ℕ)) (before middle after : Shown) where
  -- the sink failed a line of the history
  pub tells-front : AppendsFront before.written after.written (history_text v) → Rose before.faults after.faults → before.faults ≤ after.faults → Tells v stored before after 5
  tells-front front rose later = record {
    statuses = inr (inl refl);
    done = λ e. absurd (omega (arith, e));
    write = λ _. (rose, inl front);
    failed_disk = λ e. absurd (omega (arith, e));
    memory = λ e. absurd (omega (arith, e));
    limit = λ e. absurd (omega (arith, e));
    later = later;
  }

  -- after all lines of the history
  module _ (written : Appends before.written middle.written (history_text v)) (first_later : before.faults ≤ middle.faults) where
    ends-behind : (last : List ℕ) → EndsWith middle.written after.written middle.faults after.faults [] last → EndsWith before.written after.written before.faults after.faults (history_text v) last
    ends-behind last e = EndsWith-after before.written middle.written after.written before.faults middle.faults after.faults (history_text v) last first_later written e

    -- the ids come, where the journal tells no reason
    pub tells-ids : (status : ℕ) → IsUnmarked v → TellsStored stored middle after status → Tells v stored before after status
    tells-ids status off t = record {
      statuses = ⊎_elim (λ z. inl z) (λ h. inr (⊎_elim (λ z. inl z) (λ z. inr (inr (inl z))) h)) t.statuses;
      done = λ e. let d = t.done e in (off, d.0, d.1, Appends-trans before.written middle.written after.written (history_text v) (stored_line d.0) written d.2);
      write = λ e.
          let w = t.write e in
          let rose = w.0 in
          (omega (arith, rose, first_later), inr (off, w.1, w.2, AppendsFront-after before.written middle.written after.written (history_text v) (stored_line w.1) written w.3));
      failed_disk = λ e. absurd (⊎_elim (λ z. omega (arith, e, z)) (λ h. ⊎_elim (λ z. omega (arith, e, z)) (λ z. omega (arith, e, z)) h) t.statuses);
      memory = λ e. (off, ends-behind (codes "refused: memory\n") (t.memory e));
      limit = λ e. absurd (⊎_elim (λ z. omega (arith, e, z)) (λ h. ⊎_elim (λ z. omega (arith, e, z)) (λ z. omega (arith, e, z)) h) t.statuses);
      later = let more = t.later in omega (arith, more, first_later);
    }

    -- the reason comes that the journal tells
    pub tells-stop : (s : Stop) → TellsStop v s → EndsWith middle.written after.written middle.faults after.faults [] (last_line s) → middle.faults ≤ after.faults → Tells v stored before after (status_of s)
    tells-stop (stop.Line k) t ends later = absurd t
    tells-stop stop.Read t ends later = absurd t
    tells-stop stop.Write t ends later = absurd t
    tells-stop stop.Memory t ends later = absurd t
    tells-stop stop.Full t ends later = record {
      statuses = inr (inr (inr (inr refl)));
      done = λ e. absurd (omega (arith, e));
      write = λ e. absurd (omega (arith, e));
      failed_disk = λ e. absurd (omega (arith, e));
      memory = λ e. absurd (omega (arith, e));
      limit = λ _. (t.0, inl (t.1, ends-behind (codes "refused: trace\n") ends));
      later = omega (arith, later, first_later);
    }
    tells-stop stop.LogFull t ends later = record {
      statuses = inr (inr (inr (inr refl)));
      done = λ e. absurd (omega (arith, e));
      write = λ e. absurd (omega (arith, e));
      failed_disk = λ e. absurd (omega (arith, e));
      memory = λ e. absurd (omega (arith, e));
      limit = λ _. (t.0, inr (t.1, ends-behind (codes "refused: log\n") ends));
      later = omega (arith, later, first_later);
    }
    tells-stop stop.Fault t ends later = absurd t
    tells-stop stop.UpkeepFault t ends later = absurd t
    tells-stop stop.Stopped t ends later = record {
      statuses = inr (inr (inl refl));
      done = λ e. absurd (omega (arith, e));
      write = λ e. absurd (omega (arith, e));
      failed_disk = λ _. (t, ends-behind (codes "refused: disk\n") ends);
      memory = λ e. absurd (omega (arith, e));
      limit = λ e. absurd (omega (arith, e));
      later = omega (arith, later, first_later);
    }
