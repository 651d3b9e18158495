-- What a log that was printed leaves, and that it is printed where it can be.
use Rattle.std.proofs.Common.{◌≡◌, ⊎_elim, inl, inr, ℕ, List, [], Option, refl, subst, arith}
use Rattle.std.specs.Prelude.{IfSome, IsSome}
use Rattle.std.specs.Io.KnownBytes.{Appends}
use Rattle.disk_model.specs.declared.area.Area.{Area}
use Rattle.disk_model.specs.Areas.{Bytes, in_area}
use Rattle.disk_model.specs.Causes.{Rose}
use Rattle.disk_model.specs.Told.{EachImage}
use Rattle.opened_store.specs.Unopened.{DoesNotOpen}
use Rattle.store_opening.specs.declared.open_refusal.OpenRefusal.{OpenRefusal}
use Rattle.store_opening.specs.declared.open_refusal.OpenRefusal.TheVariants as refusal
use Rattle.store_opening.specs.declared.open_refusal.Place.TheVariants as place
use Rattle.store_opening.specs.Looks.{IsLookedAt}
use Rattle.store_opening.specs.Store.{Reads, IsOfStore}
use Rattle.current_log.specs.Current.{RefusesLog, IsOfLog}
use Rattle.log_printing.specs.Printed.{IsLogText, IsTextFront}
use Rattle.script_lines.specs.Output.{AppendsFront, open_refusal_line}
use Rattle.script_lines.specs.Numbers.{object_slots}
use Rattle.brahma_shell.specs.declared.ended.Ended.{Ended}
use Rattle.brahma_shell.specs.Ended.{disk_in, shut_in}
use Rattle.brahma_shell.specs.Top.{Tell, AlwaysOpens, IsDoneOrFull, Outside, Ends, status_of_refusal}
use Rattle.brahma_shell.specs.Logged.{Logged}
use Rattle.brahma_shell.proofs.CompleteLemmas.{refused-closed, never-closed}
use Rattle.brahma_shell.proofs.ShippedLemmas.{refuses-too, log-refused}
use Rattle.brahma_shell.proofs.SlotLemmas.{known-slots}

module _ {D : Type 0} (content : D → Area → Option (List ℕ)) (may_leave : D → Area → List ℕ → Type 0) (moment : D → ℕ) (left_since : D → ℕ → Bytes → Type 0) (disk : D) (before after : Outside) (status : ℕ) (ended : Ended D)
    (l : Logged content may_leave moment left_since disk before after status ended) where
  -- what holds of each image goes on to hold
  pub logged-images : (P : Bytes → Type 0) → EachImage may_leave disk P → EachImage may_leave (disk_in ended) P
  logged-images P all image is = all image (λ area. (l.looks.keeps area).no_more (in_area image area) (is area))

  -- it is refused only where what the disk reads does not open
  pub logged-closed : status ≡ 7 → (image : Bytes) → Reads content disk image → DoesNotOpen object_slots image
  logged-closed seven image reads =
      let r = l.refused seven in
      let told = (r.4 image reads).1 in
      refused-closed object_slots known-slots r.0 image (log-refused object_slots image r.0 r.1 told) (refuses-too object_slots image r.0 told)

  pub logged-done : ((d : D) (area : Area) → IfSome (content d area) (may_leave d area)) → Tell content → (ids : ℕ) → AlwaysOpens may_leave ids disk
      → ¬ Rose before.write_faults after.write_faults → ¬ Rose before.disk_faults after.disk_faults → IsDoneOrFull status
  logged-done stay tell ids opens writes faults =
      ⊎_elim (λ zero. inl zero)
      (λ is. ⊎_elim (λ five. absurd (writes (l.write five).0))
      (λ is. ⊎_elim (λ six. absurd (faults (l.failed six).0))
      (λ is. ⊎_elim (λ seven. absurd (never-closed content may_leave stay ids disk opens tell (logged-closed seven))) (λ eight. inr (inl eight)) is) is) is) l.statuses

module _ {D : Type 0} (content : D → Area → Option (List ℕ)) (may_leave : D → Area → List ℕ → Type 0) (moment : D → ℕ) (left_since : D → ℕ → Bytes → Type 0)
    (disk : D) (before after : Outside) (ended : Ended D) (shut : IsSome (shut_in ended)) (looks : IsLookedAt content may_leave moment left_since disk (disk_in ended)) where
  -- all was written
  pub logs-all : ((image : Bytes) → Reads content disk image → (text : List ℕ) × IsLogText object_slots image text × Appends before.written after.written text)
      → Logged content may_leave moment left_since disk before after 0 ended
  logs-all done =
      record {
        shut = shut;
        statuses = inl refl;
        looks = looks;
        done = λ _. done;
        write = λ five. absurd (omega (arith, five));
        failed = λ six. absurd (omega (arith, six));
        refused = λ seven. absurd (omega (arith, seven));
        memory = λ eight. absurd (omega (arith, eight));
      }

  -- the sink failed
  pub logs-part : Rose before.write_faults after.write_faults
      → ((image : Bytes) → Reads content disk image → (text : List ℕ) × IsLogText object_slots image text × AppendsFront before.written after.written text)
      → Logged content may_leave moment left_since disk before after 5 ended
  logs-part rose write =
      record {
        shut = shut;
        statuses = inr (inl refl);
        looks = looks;
        done = λ zero. absurd (omega (arith, zero));
        write = λ _. (rose, write);
        failed = λ six. absurd (omega (arith, six));
        refused = λ seven. absurd (omega (arith, seven));
        memory = λ eight. absurd (omega (arith, eight));
      }

  logs-none : (e : OpenRefusal) → IsOfStore e → («front» : List ℕ) → Ends before after «front» (open_refusal_line e) → ((image : Bytes) → Reads content disk image → «front» ≡ [])
      → ((image : Bytes) → Reads content disk image → RefusesLog object_slots image e) → Logged content may_leave moment left_since disk before after 7 ended
  logs-none e is «front» ends none refused =
      record {
        shut = shut;
        statuses = inr (inr (inr (inl refl)));
        looks = looks;
        done = λ zero. absurd (omega (arith, zero));
        write = λ five. absurd (omega (arith, five));
        failed = λ six. absurd (omega (arith, six));
        refused = λ _. (e, is, «front», ends, λ image reads. (none image reads, refused image reads));
        memory = λ eight. absurd (omega (arith, eight));
      }

  -- the log isn't read
  pub logs-unread : (e : OpenRefusal) → IsOfLog e → ((image : Bytes) → Reads content disk image → RefusesLog object_slots image e)
      → (e ≡ refusal.Disk → Rose before.disk_faults after.disk_faults)
      → («front» : List ℕ) → Ends before after «front» (open_refusal_line e) → (e ≡ refusal.Memory → «front» ≡ [])
      → (e ≡ refusal.Disk → (image : Bytes) → Reads content disk image → IsTextFront object_slots image «front»)
      → ((e ≡ refusal.Disk → ⊥) → (image : Bytes) → Reads content disk image → «front» ≡ [])
      → Logged content may_leave moment left_since disk before after (status_of_refusal e) ended
  logs-unread refusal.Disk is refused rose «front» ends starved failed none =
      record {
        shut = shut;
        statuses = inr (inr (inl refl));
        looks = looks;
        done = λ zero. absurd (omega (arith, zero));
        write = λ five. absurd (omega (arith, five));
        failed = λ _. (rose refl, («front», ends, failed refl));
        refused = λ seven. absurd (omega (arith, seven));
        memory = λ eight. absurd (omega (arith, eight));
      }
  logs-unread (refusal.Damaged place.LogA at) is refused rose «front» ends starved failed none = logs-none (refusal.Damaged place.LogA at) tt «front» ends (none (λ e. absurd (cc e))) refused
  logs-unread (refusal.Damaged place.LogB at) is refused rose «front» ends starved failed none = logs-none (refusal.Damaged place.LogB at) tt «front» ends (none (λ e. absurd (cc e))) refused
  logs-unread (refusal.Damaged (place.Page page) at) is refused rose «front» ends starved failed none = absurd is
  logs-unread refusal.NoStore is refused rose «front» ends starved failed none = logs-none refusal.NoStore tt «front» ends (none (λ e. absurd (cc e))) refused
  logs-unread (refusal.UnknownVersion byte) is refused rose «front» ends starved failed none = logs-none (refusal.UnknownVersion byte) tt «front» ends (none (λ e. absurd (cc e))) refused
  logs-unread (refusal.Unsound id rule) is refused rose «front» ends starved failed none = absurd is
  logs-unread refusal.LogFull is refused rose «front» ends starved failed none = absurd is
  logs-unread refusal.Memory is refused rose «front» ends starved failed none =
      record {
        shut = shut;
        statuses = inr (inr (inr (inr refl)));
        looks = looks;
        done = λ zero. absurd (omega (arith, zero));
        write = λ five. absurd (omega (arith, five));
        failed = λ six. absurd (omega (arith, six));
        refused = λ seven. absurd (omega (arith, seven));
        memory = λ _. subst (λ (text : List ℕ). Ends before after text (open_refusal_line refusal.Memory)) (starved refl) ends;
      }
