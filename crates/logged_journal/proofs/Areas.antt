-- What calls leave of the areas of a disk.
use Rattle.std.proofs.Common.{◌≡◌, ◌∙◌, ℕ, List, ◌++◌, Option, option_map, refl, sym, ap, subst}
use Rattle.disk_model.specs.declared.area.Area.{Area}
use Rattle.disk_model.specs.declared.area.Area.TheVariants.{Pages}
use Rattle.disk_model.specs.Told.{Keeps, KeepsOthers}
use Rattle.plain_model.specs.declared.calls.Call.{Call as TransactionCall}
use Rattle.plain_model.specs.declared.calls.Call.TheVariants.{Commit}
use Rattle.plain_model.specs.declared.calls.Reply.{Reply}
use Rattle.plain_model.specs.declared.calls.Reply.TheVariants.{Done}
use Rattle.log_record.specs.declared.cell_record.CellRecord.TheVariants as logs
use Rattle.log_record.specs.Spelling.{cell_record_bytes}
use Rattle.gate_log.specs.State.{LogState, IsLogArea, forced_area}
use Rattle.cell_page.specs.declared.cell.Cell.{Cell as PageCell}
use Rattle.logged_journal.specs.declared.upkeep.Upkeep.{Upkeep}
use Rattle.logged_journal.specs.declared.upkeep.Upkeep.TheVariants as upkeep
use Rattle.logged_journal.specs.View.{LoggedView, OnlyTakesRoom}
use Rattle.logged_journal.specs.Records.{bytes_joined}
use Rattle.logged_journal.specs.Calls.{OnlyForces, log_joined}
use Rattle.logged_journal.specs.Upkeep.{LogsWanted, OnlyCleans, KeepsButPages}
use Rattle.logged_journal.proofs.Commits.{pages-apart}
use Rattle.logged_journal.proofs.CommitDone.{with_record}

-- nothing changed
pub areas-kept : {D : Type 0} (content : D → Area → Option (List ℕ)) (may_leave : D → Area → List ℕ → Type 0) (old new : LoggedView D) (c : TransactionCall) (r : Reply) → new.disk ≡ old.disk → (c ≡ Commit → r ≡ Done → ⊥) → OnlyForces content may_leave old new c r
areas-kept {D} content may_leave old new c r same never = record {
  others = λ other apart. subst (λ (d : D). Keeps content may_leave old.disk d other) (sym same) (record { same = refl; no_more = λ area may. may });
  batch = λ is done. absurd (never is done);
}

-- a commit's record was appended, and the log was forced
pub others-forced : {D : Type 0} (content : D → Area → Option (List ℕ)) (may_leave : D → Area → List ℕ → Type 0) (v : LoggedView D) (now : D) (log : LogState) (pass : ℕ) → log ≡ with_record v.log pass → KeepsOthers content may_leave v.disk now log.area → KeepsOthers content may_leave v.disk now v.log.area
others-forced content may_leave v now log pass is keeps = subst (λ (area : Area). KeepsOthers content may_leave v.disk now area) (ap (λ (l : LogState). l.area) is) keeps

-- so the log has that as one batch more
pub batch-forced : {D : Type 0} (content : D → Area → Option (List ℕ)) (v new : LoggedView D) (log : LogState) (pass : ℕ) → log ≡ with_record v.log pass → bytes_joined v.journal new.journal ≡ cell_record_bytes (logs.Commit pass)
    → content new.disk log.area ≡ option_map (forced_area log.durable log.tail) (content v.disk log.area) → content new.disk v.log.area ≡ option_map (forced_area v.log.durable (log_joined v new).tail) (content v.disk v.log.area)
batch-forced content v new log pass is joined bytes =
    subst (λ (b : List ℕ). content new.disk v.log.area ≡ option_map (forced_area v.log.durable (v.log.tail ++ b)) (content v.disk v.log.area)) (sym joined)
    (subst (λ (l : LogState). content new.disk l.area ≡ option_map (forced_area l.durable l.tail) (content v.disk l.area)) is bytes)

-- ---- a page is cleaned

-- nothing changed
pub cleans-still : {D : Type 0} {slots : ℕ} (content : D → Area → Option (List ℕ)) (may_leave : D → Area → List ℕ → Type 0) (old new : LoggedView D) (page : ℕ) (held : List (PageCell slots)) (r : Upkeep) → new.disk ≡ old.disk → (r ≡ upkeep.Done → ⊥) → OnlyCleans content may_leave old new page held r
cleans-still {D} content may_leave old new page held r same never = record {
  others = λ other apart away. subst (λ (d : D). Keeps content may_leave old.disk d other) (sym same) (record { same = refl; no_more = λ area may. may });
  batch = λ done. absurd (never done);
}

-- it was done after a reservation of room
pub cleans-behind : {D : Type 0} {slots : ℕ} (content : D → Area → Option (List ℕ)) (may_leave : D → Area → List ℕ → Type 0) (old mid new : LoggedView D) (page : ℕ) (held : List (PageCell slots)) (r : Upkeep) → OnlyTakesRoom old mid → OnlyCleans content may_leave mid new page held r → OnlyCleans content may_leave old new page held r
cleans-behind {D} content may_leave old mid new page held r takes on =
    let a = subst (λ (w : LoggedView D). OnlyCleans content may_leave w new page held r) takes on in
    record { others = a.others; batch = a.batch }

module _ {D : Type 0} {slots : ℕ} (content : D → Area → Option (List ℕ)) (may_leave : D → Area → List ℕ → Type 0) (page : ℕ) (held : List (PageCell slots)) (v imaged : LoggedView D) (logs : LogsWanted v imaged page held) where
  -- the disk failed the force of the tail
  pub cleans-unforced : (new : LoggedView D) → KeepsOthers content may_leave imaged.disk new.disk imaged.log.area → OnlyCleans content may_leave v new page held upkeep.DiskFault
  cleans-unforced new keeps = record {
    others = λ other apart away. subst (λ (w : LoggedView D). KeepsOthers content may_leave w.disk new.disk w.log.area) logs.same keeps other apart;
    batch = λ done. absurd (cc (done));
  }

  -- the tail was forced, and the page was written in place, or not
  pub others-cleaned : (all placed : LoggedView D) → KeepsOthers content may_leave imaged.disk all.disk imaged.log.area → KeepsOthers content may_leave all.disk placed.disk Pages → KeepsButPages content may_leave v.disk placed.disk v.log.area
  others-cleaned all placed forced wrote other apart away =
      let a = subst (λ (w : LoggedView D). KeepsOthers content may_leave w.disk all.disk w.log.area) logs.same forced other apart in
      let b = wrote other away in
      record { same = b.same ∙ a.same; no_more = λ area may. a.no_more area (b.no_more area may) }

  pub cleans-unplaced : (all placed : LoggedView D) → KeepsOthers content may_leave imaged.disk all.disk imaged.log.area → KeepsOthers content may_leave all.disk placed.disk Pages → OnlyCleans content may_leave v placed page held upkeep.DiskFault
  cleans-unplaced all placed forced wrote = record { others = others-cleaned all placed forced wrote; batch = λ done. absurd (cc (done)) }

  pub cleans-all : (all placed new : LoggedView D) → IsLogArea imaged.log.area → KeepsOthers content may_leave imaged.disk all.disk imaged.log.area → KeepsOthers content may_leave all.disk placed.disk Pages
      → content all.disk imaged.log.area ≡ option_map (forced_area imaged.log.durable imaged.log.tail) (content imaged.disk imaged.log.area) → new.disk ≡ placed.disk → OnlyCleans content may_leave v new page held upkeep.Done
  cleans-all all placed new is_log forced wrote bytes hides =
      let log = subst (λ (w : LoggedView D). IsLogArea w.log.area) logs.same is_log in
      let laid = subst (λ (w : LoggedView D). content all.disk w.log.area ≡ option_map (forced_area w.log.durable w.log.tail) (content w.disk w.log.area)) logs.same bytes in
      record {
        others = subst (λ (d : D). KeepsButPages content may_leave v.disk d v.log.area) (sym hides) (others-cleaned all placed forced wrote);
        batch = λ done. ap (λ (d : D). content d v.log.area) hides ∙ (wrote v.log.area (λ e. pages-apart v.log.area log (sym e))).same ∙ laid;
      }
