-- Room that upkeep takes in the log and in the history changes nothing else.
use Rattle.std.proofs.Common.{◌≡◌, inl, inr, ⊎_elim, ℕ, Bool, true, List, sym, ◌∙◌, ap, subst}
use Rattle.disk_model.specs.Areas.{Bytes}
use Rattle.cell_page.specs.declared.cell.Cell.{Cell as PageCell}
use Rattle.core_store.specs.declared.note.Note.{Note}
use Rattle.core_store.specs.JournalView.{JournalView}
use Rattle.logged_journal.specs.View.{LoggedView, OnlyTakesRoom}
use Rattle.logged_journal.specs.Records.{HasRecords, MayBeLeft, durable, failed, MayHaveAll}
use Rattle.logged_journal.specs.Upkeep.{FailsUpkeep, Cleans}

-- the records of notes are in an image whatever room is reserved
has-room : (j : JournalView) (reserved : Bool) (notes : List Note) (image : Bytes) → HasRecords (record j { reserved = reserved }) notes image → HasRecords j notes image
has-room j reserved notes image is = record { batches = is.batches; log = is.log; hold = is.hold }

module _ {D : Type 0} where
  -- ---- ways to it

  -- the view with other room
  abbrev with_room : LoggedView D → Bool → ℕ → LoggedView D
  with_room v reserved room = record v { journal = record v.journal { reserved = reserved }; log = record v.log { room = room } }

  -- the room of a view like it
  by-room : (v w : LoggedView D) (reserved : Bool) (room : ℕ) → w ≡ with_room v reserved room → OnlyTakesRoom v w
  by-room v w reserved room is = is ∙ ap (λ (u : LoggedView D). with_room v u.journal.reserved u.log.room) (sym is)

  pub room-same : (v w : LoggedView D) → w ≡ v → OnlyTakesRoom v w
  room-same v w is = by-room v w v.journal.reserved v.log.room is

  pub room-entry : (v w : LoggedView D) → w ≡ record v { journal = record v.journal { reserved = true } } → OnlyTakesRoom v w
  room-entry v w is = by-room v w true v.log.room is

  pub room-log : (v w u : LoggedView D) → OnlyTakesRoom v w → u ≡ record w { log = record w.log { room = u.log.room } } → OnlyTakesRoom v u
  room-log v w u takes is = by-room v u w.journal.reserved u.log.room (is ∙ ap (λ (x : LoggedView D). record x { log = record x.log { room = u.log.room } }) takes)

  pub room-full : (v w u : LoggedView D) → OnlyTakesRoom v w → u ≡ record w { log_full = true } → OnlyTakesRoom (record v { log_full = true }) u
  room-full v w u takes is = by-room (record v { log_full = true }) u w.journal.reserved w.log.room (is ∙ ap (λ (x : LoggedView D). record x { log_full = true }) takes)

  -- ---- what is said after it is said of the view before it

  pub room-have : (v w : LoggedView D) (image : Bytes) → OnlyTakesRoom v w → MayHaveAll w image → MayHaveAll v image
  room-have v w image takes has =
      ⊎_elim (λ before. inl (left before)) (λ all. inr (has-room v.journal w.journal.reserved v.journal.notes image all)) (subst (λ (u : LoggedView D). MayHaveAll u image) takes has)
    where
      left : MayBeLeft (with_room v w.journal.reserved w.log.room) image → MayBeLeft v image
      left (durable is) = durable (has-room v.journal w.journal.reserved _ image is)
      left (failed f told is) = failed f told (has-room v.journal w.journal.reserved _ image is)

  pub room-fails : (faults : D → ℕ) (v w new : LoggedView D) → OnlyTakesRoom v w → FailsUpkeep faults w new → FailsUpkeep faults v new
  room-fails faults v w new takes fails =
      let f = subst (λ (u : LoggedView D). FailsUpkeep faults u new) takes fails in
      record { journal = f.journal; told = f.told; rose = f.rose; durable = f.durable; log_full = f.log_full; peak = f.peak; counted = f.counted; opened = f.opened }

  pub room-cleans : {slots : ℕ} (v w new : LoggedView D) (page : ℕ) (held : List (PageCell slots)) → OnlyTakesRoom v w → Cleans w new page held → Cleans v new page held
  room-cleans v w new page held takes cleans =
      let f = subst (λ (u : LoggedView D). Cleans u new page held) takes cleans in
      record {
        does = record { journal = f.does.journal; durable = f.does.durable; tail = f.does.tail; running = f.does.running; log_full = f.does.log_full; peak = f.does.peak; opened = f.does.opened };
        log = f.log;
        current = f.current;
        imaged = f.imaged;
      }
