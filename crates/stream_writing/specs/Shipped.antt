-- The bytes of the current log of a store.
use Rattle.std.specs.Prelude.{◌≡◌, ◌⊎◌, ℕ, ◌≤◌, List, [], ◌++◌, take, Result, IsErrOf}
use Rattle.disk_model.specs.declared.area.Area.{Area}
use Rattle.disk_model.specs.Areas.{Bytes, in_area}
use Rattle.disk_model.specs.Causes.{Rose}
use Rattle.store_opening.specs.declared.open_refusal.OpenRefusal.TheVariants.{Disk}
use Rattle.current_log.specs.Current.{HasCurrentLog}
use Rattle.stream_writing.specs.declared.ship_refusal.ShipRefusal.{ShipRefusal}
use Rattle.stream_writing.specs.declared.ship_refusal.ShipRefusal.TheVariants.{Unread, Write}

-- These are the bytes of the log area that the super area of the image names, up to and with its first closed commit byte. The area
-- is a log of a store.
pub record AreLogBytes (slots : ℕ) (image : Bytes) (bytes : List ℕ) : Type 0 where
  pub area : Area
  pub pages : ℕ
  pub len : ℕ
  pub log : HasCurrentLog slots image area pages len
  pub are : bytes ≡ take len (in_area image area)

-- there are none, or they are the first of those
abbrev pub IsLogFront : (slots : ℕ) → Bytes → List ℕ → Type 0
IsLogFront slots image «front» = («front» ≡ []) ⊎ ((rest : List ℕ) × AreLogBytes slots image («front» ++ rest))

-- No count of faults falls. Each rose where its side failed a call, and is as before at each other answer.
pub record HasShipCause {T : Type 0} (disk_before disk_now sink_before sink_now : ℕ) (result : Result T ShipRefusal) : Type 0 where
  pub disk_later : disk_before ≤ disk_now
  pub disk_failed : IsErrOf result (Unread Disk) → Rose disk_before disk_now
  pub disk_kept : (IsErrOf result (Unread Disk) → ⊥) → disk_now ≡ disk_before
  pub sink_later : sink_before ≤ sink_now
  pub sink_failed : IsErrOf result Write → Rose sink_before sink_now
  pub sink_kept : (IsErrOf result Write → ⊥) → sink_now ≡ sink_before
