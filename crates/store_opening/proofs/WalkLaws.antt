-- Batches that are walked one after another.
use Rattle.std.proofs.Common.{◌≡◌, ℕ, ◌+◌, ◌<◌, ◌≤◌, List, [], ◌∷◌, ◌++◌, length, Option, Some, None, refl, sym, ap, subst, ◌∙◌, ⊎_elim, arith, append_assoc}
use Rattle.std.specs.Prelude.{IfSome, slice_index, replicate}
use Rattle.std.proofs.lemmas.Bool.{cases_lt}
use Rattle.std.proofs.lemmas.List.{append-nil, map-append}
use Rattle.std.proofs.lemmas.Grind.{flat_map-append}
use Rattle.disk_model.specs.declared.area.Area.{Area}
use Rattle.log_record.specs.declared.record.Record.{Record}
use Rattle.gate_log.specs.declared.refusal.LogRefusal.{LogRefusal}
use Rattle.gate_log.specs.declared.refusal.LogRefusal.TheVariants.{Disk as LogDisk, LogFull as LogLogFull, Damaged as LogDamaged, Memory as LogMemory}
use Rattle.gate_log.specs.Batches.{batch_bytes, Begins, IsLog, most_bytes}
use Rattle.gate_log.specs.CommitBytes.{IsDamaged, too_long, no_batches}
use Rattle.gate_log.specs.State.{LogState, reach}
use Rattle.gate_log.specs.OnDisk.{IsRead, IsOn}
use Rattle.log_replay.specs.Replays.{Replaying}
use Rattle.opened_images.specs.LogRecords.{body_of, bodies_of, all_of, BeginsWithBody}
use Rattle.page_marks.specs.declared.marks.PageMark.{PageMark}
use Rattle.page_marks.specs.Marks.{AreMarks, unmarked}
use Rattle.page_marks.proofs.MarkLaws.{first-marks}
use Rattle.store_opening.specs.Walks.{Takes, TakesBody, StopsInBody}
use Rattle.store_opening.specs.Walked.{HasWalked, EndsWalk, StopsWalk, no_batch, no_record}
use Rattle.store_opening.specs.declared.refusal.ReadRefusal.{ReadRefusal}
use Rattle.store_opening.specs.declared.refusal.ReadRefusal.TheVariants.{Damaged}
use Rattle.store_opening.specs.Refusals.{told}
use Rattle.store_opening.proofs.TakeLaws.{takes_both, takes_none}

-- of what is there, more by one fact or two
pub some_more : {A : Type 0} (o : Option A) (P Q : A → Type 0) → ((a : A) → P a → Q a) → IfSome o P → IfSome o Q
some_more None P Q more is = is
some_more (Some a) P Q more is = more a is

pub some_both : {A : Type 0} (o : Option A) (P Q R : A → Type 0) → ((a : A) → P a → Q a → R a) → IfSome o P → IfSome o Q → IfSome o R
some_both None P Q R more p q = p
some_both (Some a) P Q R more p q = more a p q

-- an area that isn't damaged for its length is short
pub is_short : (at : ℕ) (area : List ℕ) → ((place : ℕ) → IsDamaged at place area → ⊥) → length area ≤ most_bytes
is_short at area sound = ⊎_elim (λ (long : most_bytes < length area). absurd (sound most_bytes (too_long long refl))) (λ short. omega (arith, short)) (cases_lt most_bytes (length area))

module _ {D : Type 0} (content : D → Area → Option (List ℕ)) (may_leave : D → Area → List ℕ → Type 0) where
  -- an area that is told begins with the batches that were read
  pub told_begins : (s : LogState) (disk : D) (batches : List (List ℕ)) → IsRead content may_leave s disk batches → IfSome (content disk s.area) (may_leave disk s.area)
      → IfSome (content disk s.area) (Begins batches)
  told_begins s disk batches is may = some_more (content disk s.area) (may_leave disk s.area) (Begins batches) is.begins may

  -- one batch more
  pub walked_more : (slots : ℕ) (read : List (List ℕ)) (v w u : Replaying) (before marks : List PageMark) (log next : LogState) (disk now : D) (body : List ℕ)
      → (walked : HasWalked content may_leave slots read v w before log disk)
      → ((batches : List (List ℕ)) → IsRead content may_leave log disk batches → IsRead content may_leave next now (batches ++ body ∷ []))
      → TakesBody slots body w u before marks → HasWalked content may_leave slots read v u marks next now
  walked_more slots read v w u before marks log next disk now body walked reads took =
      let rs = took.rs in
      let records : all_of (walked.batches ++ rs ∷ []) ≡ all_of walked.batches ++ rs =
      flat_map-append (λ (b : List (Record slots)). b) walked.batches (rs ∷ []) ∙ ap (λ (l : List (Record slots)). all_of walked.batches ++ l) (append-nil rs) in
      let bodies : (read ++ bodies_of walked.batches) ++ body ∷ [] ≡ read ++ bodies_of (walked.batches ++ rs ∷ []) =
      append_assoc read (bodies_of walked.batches) (body ∷ [])
      ∙ ap (λ (l : List (List ℕ)). read ++ l) (ap (λ (b : List ℕ). bodies_of walked.batches ++ b ∷ []) took.split ∙ sym (map-append body_of walked.batches (rs ∷ []))) in
      record {
        batches = walked.batches ++ rs ∷ [];
        takes = subst (λ (l : List (Record slots)). Takes l v u) (sym records) (takes_both (all_of walked.batches) rs v w u walked.takes took.takes);
        marked = subst (λ (l : List (Record slots)). AreMarks l marks) (sym records) (took.marked.more (all_of walked.batches) walked.marked);
        is_read = subst (λ (l : List (List ℕ)). IsRead content may_leave next now l) bodies (reads (read ++ bodies_of walked.batches) walked.is_read);
      }

  -- the log's end
  pub walked_end : (slots : ℕ) (read : List (List ℕ)) (v w : Replaying) (marks : List PageMark) (log next : LogState) (disk now : D) → (walked : HasWalked content may_leave slots read v w marks log disk)
      → ((batches : List (List ℕ)) → IsRead content may_leave log disk batches → IsOn may_leave next now batches)
      → IfSome (content disk log.area) (λ area. (place : ℕ) → IsDamaged log.durable place area → ⊥) → content now next.area ≡ content disk log.area
      → IfSome (content now next.area) (may_leave now next.area) → EndsWalk content may_leave slots read v w marks next now
  walked_end slots read v w marks log next disk now walked ends sound same may =
      let batches : List (List ℕ) = read ++ bodies_of walked.batches in
      let is_on = ends batches walked.is_read in
      record {
        batches = walked.batches;
        takes = walked.takes;
        marked = walked.marked;
        is_on = is_on;
        whole = some_both (content now next.area) (may_leave now next.area) (λ area. (place : ℕ) → IsDamaged log.durable place area → ⊥) (IsLog most_bytes batches)
            (λ area leaves fine.
            let is_log = is_on.logs area leaves in
            record {
              bodies = is_log.bodies;
              commit_byte = is_log.commit_byte;
              closed = is_log.closed;
              rest = is_log.rest;
              are = is_log.are;
              short = is_short log.durable area fine;
            })
            may (subst (λ (o : Option (List ℕ)). IfSome o (λ area. (place : ℕ) → IsDamaged log.durable place area → ⊥)) (sym same) sound);
      }

  -- no batch after them
  pub walked_cut : (slots : ℕ) (read : List (List ℕ)) (v w : Replaying) (marks : List PageMark) (log : LogState) (disk : D) (place : ℕ) → HasWalked content may_leave slots read v w marks log disk
      → IfSome (content disk log.area) (IsDamaged log.durable place) → IfSome (content disk log.area) (may_leave disk log.area)
      → IfSome (content disk log.area) (StopsWalk slots read v place)
  walked_cut slots read v w marks log disk place walked damaged may =
      let batches : List (List ℕ) = read ++ bodies_of walked.batches in
      some_both (content disk log.area) (Begins batches) (IsDamaged log.durable place) (StopsWalk slots read v place)
      (λ area begins is.
      no_batch walked.batches w walked.takes begins (subst (λ (n : ℕ). IsDamaged n place area) walked.is_read.commit_byte is))
      (told_begins log disk batches walked.is_read may) damaged

  -- no record in the batch after them
  pub walked_stop : (slots : ℕ) (read : List (List ℕ)) (v w : Replaying) (marks : List PageMark) (log next : LogState) (disk now : D) (body : List ℕ) (place offset : ℕ)
      → (walked : HasWalked content may_leave slots read v w marks log disk)
      → ((batches : List (List ℕ)) → IsRead content may_leave log disk batches → IsRead content may_leave next now (batches ++ body ∷ []))
      → IfSome (content disk log.area) (λ area. (place : ℕ) → IsDamaged log.durable place area → ⊥) → content now next.area ≡ content disk log.area
      → IfSome (content now next.area) (may_leave now next.area) → StopsInBody slots body offset w → place ≡ log.durable + 5 + offset
      → IfSome (content disk log.area) (StopsWalk slots read v place)
  walked_stop slots read v w marks log next disk now body place offset walked reads sound same may stops is =
      let batches : List (List ℕ) = read ++ bodies_of walked.batches in
      some_both (content disk log.area) (Begins (batches ++ body ∷ [])) (λ area. (place : ℕ) → IsDamaged log.durable place area → ⊥) (StopsWalk slots read v place)
      (λ area begins fine.
      no_record walked.batches w walked.takes body offset stops begins (is_short log.durable area fine) (omega (arith, is, walked.is_read.commit_byte)))
      (subst (λ (o : Option (List ℕ)). IfSome o (Begins (batches ++ body ∷ []))) same (told_begins next now (batches ++ body ∷ []) (reads batches walked.is_read) may)) sound

  -- nothing was walked yet
  pub walked_none : (slots : ℕ) (read : List (List ℕ)) (v : Replaying) (marks : List PageMark) (log : LogState) (disk : D) → AreMarks {slots = slots} [] marks → IsRead content may_leave log disk read
      → HasWalked content may_leave slots read v v marks log disk
  walked_none slots read v marks log disk none is =
      record { batches = []; takes = takes_none slots v; marked = none; is_read = subst (λ (l : List (List ℕ)). IsRead content may_leave log disk l) (sym (append-nil read)) is }

  -- an area that is told begins with the batch that was read first
  pub told_first : (log next : LogState) (disk now : D) (body : List ℕ) → IsRead content may_leave next now (body ∷ [])
      → IfSome (content disk log.area) (λ area. (place : ℕ) → IsDamaged log.durable place area → ⊥) → content now next.area ≡ content disk log.area
      → IfSome (content now next.area) (may_leave now next.area) → IfSome (content disk log.area) (BeginsWithBody body)
  told_first log next disk now body is sound same may =
      some_both (content disk log.area) (Begins (body ∷ [])) (λ area. (place : ℕ) → IsDamaged log.durable place area → ⊥) (BeginsWithBody body)
      (λ area begins fine.
      record {
        whole = begins.bodies.0;
        rest = begins.rest;
        are = begins.are ∙ ap (λ (l : List ℕ). l ++ begins.rest) (append-nil (batch_bytes body));
        short = is_short log.durable area fine;
      })
      (subst (λ (o : Option (List ℕ)). IfSome o (Begins (body ∷ []))) same (told_begins next now (body ∷ []) is may)) sound

  -- an area whose first commit byte is closed is damaged there
  pub told_closed : (log next : LogState) (disk now : D) (place : ℕ) → IsOn may_leave next now [] → IfSome (content disk log.area) (λ area. (place : ℕ) → IsDamaged log.durable place area → ⊥)
      → content now next.area ≡ content disk log.area → IfSome (content now next.area) (may_leave now next.area) → place ≡ 0 → IfSome (content disk log.area) (IsDamaged 0 place)
  told_closed log next disk now place is sound same may zero =
      some_both (content disk log.area) (IsLog (reach next) []) (λ area. (place : ℕ) → IsDamaged log.durable place area → ⊥) (IsDamaged 0 place)
      (λ area is_log fine.
      no_batches (is_short log.durable area fine)
      (record {
        inside = omega (arith, ap length is_log.are);
        closed = λ one. is_log.closed (sym (ap (λ (l : List ℕ). slice_index l 0) is_log.are) ∙ one);
      }) refl zero)
      (subst (λ (o : Option (List ℕ)). IfSome o (IsLog (reach next) [])) same (some_more (content now next.area) (may_leave now next.area) (IsLog (reach next) []) is.logs may)) sound

-- before the first record no page is marked
pub unmarked-yet : (slots pages : ℕ) (marks : List PageMark) → marks ≡ replicate pages unmarked → AreMarks {slots = slots} [] marks
unmarked-yet slots pages marks none = subst (λ (m : List PageMark). AreMarks {slots = slots} [] m) (sym none) (first-marks slots pages)

-- the refusal was one of the log
pub told_damaged : (r : LogRefusal) (s : ReadRefusal) (at : ℕ) → s ≡ told r → s ≡ Damaged at → r ≡ LogDamaged at
told_damaged LogDisk s at is was = absurd (cc (sym is ∙ was))
told_damaged (LogDamaged place) s at is was = let same : place ≡ at = cc (sym is ∙ was) in ap LogDamaged same
told_damaged (LogLogFull used) s at is was = absurd (cc (sym is ∙ was))
told_damaged LogMemory s at is was = absurd (cc (sym is ∙ was))
