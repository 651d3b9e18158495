-- What a journal with its log keeps at an event.
use Rattle.std.proofs.Common.{◌≡◌, ℕ, ◌+◌, ◌≤◌, max, false, ◌||◌, List, [], ◌∷◌, ◌++◌, length, take, drop, Option, Some, None, sym, ◌∙◌, ap, subst, arith}
use Rattle.std.specs.Prelude.{IfSome, ◌*◌}
use Rattle.std.specs.Option.{option_and_then}
use Rattle.cell_page.specs.Format.{page_size}
use Rattle.std.proofs.lemmas.List.{length-append, take-append-le, drop-append-le}
use Rattle.disk_model.specs.declared.area.Area.{Area}
use Rattle.disk_model.specs.declared.area.Area.TheVariants.{Pages, Super}
use Rattle.disk_model.specs.Areas.{Bytes}
use Rattle.disk_model.specs.Told.{EachImage}
use Rattle.plain_laws.specs.Sound.{is_crash}
use Rattle.plain_model.specs.History.{end_of}
use Rattle.plain_model.proofs.GraphLemmas.{AllByRecursion-push}
use Rattle.restart_laws.specs.Settled.{acknowledges}
use Rattle.gate_log.specs.Batches.{most_bytes, IsLog}
use Rattle.gate_log.specs.State.{LogState, IsLogArea}
use Rattle.gate_log.specs.OnDisk.{IsOn}
use Rattle.core_store.specs.declared.note.Note.{Note}
use Rattle.core_store.specs.JournalView.{JournalView}
use Rattle.core_store.specs.Owed.{bytes_owed}
use Rattle.core_store.specs.Safe.{IsDurable, HasNote}
use Rattle.core_store.proofs.SafeLaws.{durable-kept}
use Rattle.logged_journal.specs.View.{LoggedView, bytes_counted, image_need}
use Rattle.logged_journal.specs.declared.failed.FailedCall.{FailedCall}
use Rattle.logged_journal.specs.Records.{note_bytes, IsTypedNote, AreTypedNotes, AreMarkedAfter, HaveRecords, HasRecords, durable_notes, MayBeLeft, durable, failed}
use Rattle.logged_journal.specs.Kept.{CanCommit, IsKept}
use Rattle.logged_journal.proofs.HeldRecords.{marked-many, records-as, holds-as, holds-push}

-- one note more, whose record joined the tail
pub record HasEvent {D : Type 0} (v w : LoggedView D) (n : Note) : Type 0 where
  pub note : HasNote v.journal w.journal n
  pub limits : w.journal.limits ≡ v.journal.limits
  -- but for how much room there is
  pub area : w.log.area ≡ v.log.area
  pub stage : w.log.stage ≡ v.log.stage
  pub offset : w.log.durable ≡ v.log.durable
  pub tail : w.log.tail ≡ v.log.tail ++ note_bytes n
  pub disk : w.disk ≡ v.disk
  pub durable : w.durable ≡ v.durable
  -- the marks of the pages that it concerns
  pub marked : AreMarkedAfter v.journal.history.slots n.logged v.marks w.marks
  pub running : (v.failed ≡ None) × (w.failed ≡ None)
  pub log_full : w.log_full ≡ v.log_full
  pub unpromised : (acknowledges n.entry || is_crash n.entry) ≡ false
  pub typed : IsTypedNote n
  -- its room and its bytes
  pub room : bytes_owed (end_of w.journal.history) ≤ w.log.room
  pub bounded : bytes_counted w ≤ most_bytes
  pub peak : bytes_counted w ≤ w.peak
  pub higher : v.peak ≤ w.peak

-- a log that has the records of some notes has them after one note more
pub hold-same : (j k : JournalView) (n : Note) (pages : ℕ) (area : List ℕ) (notes : List Note) (batches : List (List ℕ)) → HasNote j k n → HaveRecords j.history.slots pages j.opening area notes batches
    → HaveRecords k.history.slots pages k.opening area notes batches
hold-same j k n pages area notes batches has hold = records-as j.history.slots k.history.slots pages j.opening k.opening area notes batches (ap (λ h. h.slots) has.entry) has.opening hold

module _ {D : Type 0} (may_leave : D → Area → List ℕ → Type 0) where
  -- the durable notes are the same
  pub durable-same : (v w : LoggedView D) (n : Note) → HasNote v.journal w.journal n → w.durable ≡ v.durable → v.durable ≤ length v.journal.notes → durable_notes w ≡ durable_notes v
  durable-same v w n has same inside =
      ap (λ (d : ℕ). take d w.journal.notes) same
      ∙ ap (λ (l : List Note). take v.durable l) has.noted
      ∙ take-append-le v.durable v.journal.notes (n ∷ []) inside

  pub records-same : (j k : JournalView) (n : Note) («first» : List Note) (image : Bytes) → HasNote j k n → HasRecords j «first» image → HasRecords k «first» image
  records-same j k n «first» image has is =
      record { batches = is.batches; log = is.log; hold = (is.hold.0, ap (λ h. h.ids) has.entry ∙ is.hold.1, hold-same j k n is.hold.0 image.pages «first» is.batches has is.hold.2) }

  -- the images of the disk are what the durable notes have
  pub left-same : (v w : LoggedView D) (n : Note) (image : Bytes) → HasNote v.journal w.journal n → w.durable ≡ v.durable → v.durable ≤ length v.journal.notes → v.failed ≡ None → MayBeLeft v image → MayBeLeft w image
  left-same v w n image has same inside running (durable is) =
      durable (records-same v.journal w.journal n (durable_notes w) image has (subst (λ (l : List Note). HasRecords v.journal l image) (sym (durable-same v w n has same inside)) is))
  left-same v w n image has same inside running (failed f is more) = absurd (cc (running, is))

  -- the log stands on the disk as before: only its tail and its room changed
  pub on-same : (s t : LogState) (old now : D) (batches : List (List ℕ)) → t.area ≡ s.area → t.durable ≡ s.durable → now ≡ old → IsOn may_leave s old batches → IsOn may_leave t now batches
  on-same s t old now batches area offset disk on =
      record {
        area = subst IsLogArea (sym area) on.area;
        named = λ c may. on.named c (subst (λ (d : D). may_leave d Super c) disk may) ∙ ap Some (sym area);
        logs = λ c may. subst (λ (k : ℕ). IsLog (max most_bytes (k + 1)) batches c) (sym offset)
            (on.logs c (subst (λ (a : Area). may_leave old a c) area (subst (λ (d : D). may_leave d t.area c) disk may)));
        commit_byte = offset ∙ on.commit_byte;
      }

  pub kept-event : (v w : LoggedView D) (n : Note) → IsKept may_leave v → HasEvent v w n → IsKept may_leave w
  kept-event v w n kept e =
      let stands = kept.standing e.running.0 in
      let same = durable-same v w n e.note e.durable kept.inside in
      record {
        standing = λ _. record {
          stage = e.stage ∙ stands.stage;
          batches = stands.batches;
          on = on-same v.log w.log v.disk w.disk stands.batches e.area e.offset e.disk stands.on;
          pages = stands.pages;
          ids = ap (λ h. h.ids) e.note.entry ∙ stands.ids;
          records = holds-as may_leave v.journal.history.slots w.journal.history.slots stands.pages v.journal.opening w.journal.opening (durable_notes v) (durable_notes w) (drop v.durable v.journal.notes ++ n ∷ []) (drop w.durable w.journal.notes)
              w.marks v.disk w.disk stands.batches w.log.tail (ap (λ h. h.slots) e.note.entry) e.note.opening same
              (ap (λ (d : ℕ). drop d w.journal.notes) e.durable ∙ ap (λ (l : List Note). drop v.durable l) e.note.noted ∙ drop-append-le v.durable v.journal.notes (n ∷ []) kept.inside) e.disk
              (holds-push may_leave v.journal.history.slots stands.pages v.journal.opening (durable_notes v) (drop v.durable v.journal.notes) v.marks v.disk stands.batches v.log.tail stands.records n w.marks w.log.tail e.tail e.marked);
          long = λ area may. subst (λ (s : ℕ). page_size s * stands.pages ≤ length area) (sym (ap (λ h. h.slots) e.note.entry)) (stands.long area (subst (λ (d : D). may_leave d Pages area) e.disk may));
          room = e.room;
          bounded = e.bounded;
          peak = e.peak;
        };
        inside = subst (λ (d : ℕ). d ≤ length w.journal.notes) (sym e.durable) (let more = ap (λ (l : List Note). length l) e.note.noted ∙ length-append v.journal.notes (n ∷ []) in omega (arith, more, kept.inside));
        many =
            let ids = ap (λ h. h.ids) e.note.entry in
            let many = marked-many v.journal.history.slots n.logged v.marks w.marks e.marked in
            let before = kept.many in
            omega (arith, ids, many, before);
        lasting = subst (λ (l : List Note). IsDurable w.journal l) (sym same) (durable-kept v.journal w.journal n (durable_notes v) kept.lasting e.note e.unpromised);
        images = subst (λ (d : D). EachImage may_leave d (MayBeLeft w)) (sym e.disk) (λ image may. left-same v w n image e.note e.durable kept.inside e.running.0 (kept.images image may));
        granted = subst (λ (o : Option FailedCall). IfSome (option_and_then (λ (f : FailedCall). f.commit) o) (CanCommit w.journal)) (sym e.running.1) tt;
        typed = subst AreTypedNotes (sym e.note.noted) (AllByRecursion-push IsTypedNote v.journal.notes n kept.typed e.typed);
        full = λ is.
            let limit = ap (λ l. l.log) e.limits in
            let before = kept.full (sym e.log_full ∙ is) in
            let need = ap (λ h. image_need h.slots) e.note.entry in
            omega (arith, limit, before, need, e.higher);
      }
