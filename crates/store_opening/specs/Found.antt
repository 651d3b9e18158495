-- What the log of a store tells before its records are done to the pages.
use Rattle.std.specs.Prelude.{◌≡◌, ℕ, ◌<◌, List, [], ◌∷◌, length, slice_index, Option, IfSome}
use Rattle.disk_model.specs.declared.area.Area.{Area}
use Rattle.log_record.specs.declared.record.Record.{Record}
use Rattle.log_record.specs.declared.record.Record.TheVariants.{Turn}
use Rattle.log_record.specs.Spelling.{known_version, HasSpelling}
use Rattle.gate_log.specs.State.{LogState}
use Rattle.gate_log.specs.OnDisk.{IsRead, IsOn}
use Rattle.opened_images.specs.LogRecords.{body_of, bodies_of, all_of, first_records, IsRecordLog}
use Rattle.store_opening.specs.Walks.{count_images}

module _ {D : Type 0} (content : D → Area → Option (List ℕ)) (may_leave : D → Area → List ℕ → Type 0) where
  -- the first batch was read, which tells that the store has so many pages
  pub record HasFirst (slots pages : ℕ) (log : LogState) (disk : D) : Type 0 where
    pub rules : HasSpelling {slots = slots} (Turn (known_version slots) pages)
    pub is_read : IsRead content may_leave log disk (body_of (first_records slots pages) ∷ [])

  -- All batches were read. The log stands on the disk with them; what is told of its area is a log of these
  -- batches of records, and these are how many images of each page it has.
  pub record HasFound (slots pages : ℕ) (images : List ℕ) (log : LogState) (disk : D) : Type 0 where
    pub batches : List (List (Record slots))
    pub rules : HasSpelling {slots = slots} (Turn (known_version slots) pages)
    pub is_on : IsOn may_leave log disk (body_of (first_records slots pages) ∷ bodies_of batches)
    pub whole : IfSome (content disk log.area) (IsRecordLog pages batches)
    pub number : length images ≡ pages
    pub counts : IfSome (content disk log.area) (λ _. (page : ℕ) → page < pages → slice_index images page ≡ count_images page (all_of batches))
