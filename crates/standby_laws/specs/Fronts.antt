-- What a standby has that was fed with a base of a store and with the first bytes of its log after that.
use Rattle.std.specs.Prelude.{◌≡◌, ◌⊎◌, ℕ, ◌+◌, ◌*◌, ◌<◌, ◌≤◌, false, List, [], ◌++◌, length}
use Rattle.std.specs.List.{AllByRecursion}
use Rattle.plain_model.specs.declared.object.Object.{Object}
use Rattle.plain_model.specs.declared.calls.Entry.{Entry}
use Rattle.plain_model.specs.History.{History, Moment, end_of, moment_after, graph_after, SameReachable, IsCrashConsistent}
use Rattle.plain_laws.specs.Sound.{is_crash}
use Rattle.cell_model.specs.Cells.{Cell}
use Rattle.cell_model.specs.Graph.{graph_of}
use Rattle.cell_page.specs.Format.{IsSlotCount}
use Rattle.disk_model.specs.declared.area.Area.{Area}
use Rattle.disk_model.specs.Areas.{Bytes}
use Rattle.log_record.specs.declared.record.Record.{Record}
use Rattle.opened_images.specs.LogRecords.{all_of}
use Rattle.opened_images.specs.Opened.{Opened, OpensTo, IsLogRead}
use Rattle.opened_images.specs.Marks.{StandsInPlace}
use Rattle.opened_images.specs.WithImages.{AreSamePages}
use Rattle.logged_journal.specs.Opens.{OpensAfter}
use Rattle.logged_journal.specs.Upkeep.{IsTurned}
use Rattle.stream_writing.specs.Shipped.{AreLogBytes}
use Rattle.standby.specs.Promoted.{PromotesTo}
use Rattle.stream_writing.specs.Backups.{IsBaseOf}

-- ---- the store

-- The image is one of a store that made a checkpoint when it had these cells. Since then its log got just these batches after the
-- first one, and each page without an image among their records is in place as it was at the checkpoint.
pub record HasGoneOn {slots : ℕ} (cells : List Cell) (pages : ℕ) (batches : List (List (Record slots))) (image : Bytes) : Type 0 where
  pub area : Area
  pub read : IsLogRead image area pages batches
  -- what the pages area had at the checkpoint: every page
  pub before : List ℕ
  pub in_place : (page : ℕ) → page < pages → StandsInPlace slots before cells page
  pub same : AreSamePages pages (all_of batches) before image.pages

-- ---- the commits

-- These objects have what the root reaches in the committed graph after some front of the commits so far.
pub record IsAfterFront (m : Moment) (objects : List Object) : Type 0 where
  pub prefix : ℕ
  pub within : prefix ≤ length m.commits
  pub reachable : SameReachable objects (graph_after m prefix)

-- none of the entries is a crash
abbrev pub AreWithoutCrash : List Entry → Type 0
AreWithoutCrash es = AllByRecursion (λ e. is_crash e ≡ false) es

-- ---- the standby

-- These cells are what the store comes to by the first batches after the checkpoint, of those in the log of this image. The whole
-- batches that came are so many, the first one of the log among them.
pub record IsOfFront (slots pages : ℕ) (cells : List Cell) (image : Bytes) (whole : ℕ) (made : List Cell) : Type 0 where
  pub area : Area
  -- the batches that came whole after the log's first one, and the others
  pub front : List (List (Record slots))
  pub later : List (List (Record slots))
  pub read : IsLogRead image area pages (front ++ later)
  pub many : ((whole ≡ 0) × (front ≡ [])) ⊎ (whole ≡ length front + 1)
  -- they are what the store opens to where its log has just these batches
  pub opens : (earlier : Bytes) (opened : List Cell) → HasGoneOn cells pages front earlier → Opened slots earlier (OpensTo opened) → made ≡ opened
  -- so they have the reach and the objects of the committed graph after a front of its commits
  pub graph : (earlier : Bytes) (h : History) → HasGoneOn cells pages front earlier → OpensAfter slots h earlier → IsCrashConsistent (end_of h) (graph_of made)
  -- and however the store went on since then, they have those after some front of all its commits
  pub stays : (earlier : Bytes) (h : History) (es : List Entry) → HasGoneOn cells pages front earlier → OpensAfter slots h earlier → AreWithoutCrash es → IsAfterFront (moment_after (end_of h) es) (graph_of made)

-- ---- the laws

-- a store that has just made a checkpoint has gone on from it by no batch
abbrev pub BeginLaw : Type 0
BeginLaw = (slots pages : ℕ) (cells : List Cell) (area : Area) (image : Bytes) → 1 ≤ pages → pages ≤ 1024 → length cells ≡ 8 * pages + 1 → IsTurned slots cells area image → HasGoneOn {slots = slots} cells pages [] image

-- so it has by further batches, where the pages without an image in its log stay in place
abbrev pub LaterLaw : Type 0
LaterLaw =
    (slots pages : ℕ) (cells : List Cell) (batches more : List (List (Record slots))) (area : Area) (image later : Bytes)
    → HasGoneOn cells pages batches image → IsLogRead later area pages (batches ++ more) → AreSamePages pages (all_of (batches ++ more)) image.pages later.pages → HasGoneOn cells pages (batches ++ more) later

-- What a crash may leave after a history is after a front of the commits of each longer one too.
abbrev pub StaysLaw : Type 0
StaysLaw = (m : Moment) (es : List Entry) (objects : List Object) → AreWithoutCrash es → IsCrashConsistent m objects → IsAfterFront (moment_after m es) objects

-- A standby that was fed with the base of a store at its checkpoint, and with any first bytes of what its log has in this image, is
-- promoted to what the store comes to by the batches that are whole in them.
abbrev pub FrontLaw : Type 0
FrontLaw =
    (slots pages whole : ℕ) (cells made : List Cell) (base front rest : List ℕ) (image : Bytes)
    → IsSlotCount slots → IsBaseOf slots (8 * pages) cells base → (shipped : AreLogBytes slots image (front ++ rest)) → shipped.pages ≡ pages
    → PromotesTo slots (base ++ front) whole made → IsOfFront slots pages cells image whole made
