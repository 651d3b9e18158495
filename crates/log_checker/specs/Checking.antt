-- What a checker has of the stream that it is fed with.
use Rattle.std.specs.Prelude.{◌≡◌, ℕ, List, Option, Some, None}
use Rattle.log_replay.specs.Inside.{cells_of_pages}
use Rattle.opened_images.specs.LogRecords.{all_of}
use Rattle.ship_stream.specs.declared.refusal.FeedRefusal.{FeedRefusal}
use Rattle.ship_stream.specs.Reading.{Reading, InLog}
use Rattle.ship_stream.specs.Feeding.{Feeding, HasTaken}
use Rattle.standby.specs.Following.{Gathering, Has}
use Rattle.log_checker.specs.Tallies.{Tallying, Tells}

-- what is made of the parts of the stream that came whole
pub record Checked (slots : ℕ) : Type 0 where
  -- the pages, and what the records of the whole batches made of them, as in a standby
  pub gathered : Gathering slots
  -- from when all pages are there, the plain fold of the same records
  pub tally : Option Tallying

-- what contracts see of a checker
pub record Checking (slots : ℕ) : Type 0 where
  -- the reader of the stream
  pub feed : Feeding
  pub checked : Checked slots
  -- how it was refused, and is from then on
  pub refused : Option FeedRefusal

-- the plain fold of what came whole: of the whole batches over the pages
abbrev pub HasTally : {slots : ℕ} → Reading slots → Option Tallying → Type 0
HasTally (InLog pages batches) o = (t : Tallying) × (o ≡ Some t) × Tells (cells_of_pages pages) (all_of batches) t
HasTally _ o = o ≡ None

-- what is made of what came whole: what a standby makes of it, and the plain fold
abbrev pub HasBoth : {slots : ℕ} → Reading slots → Checked slots → Type 0
HasBoth r c = Has r c.gathered × HasTally r c.tally

-- The reader was fed with these bytes. This came whole of them, and that is made of it.
pub record IsReadInto {slots : ℕ} (r : Reading slots) (bytes : List ℕ) (feed : Feeding) (c : Checked slots) : Type 0 where
  pub taken : HasTaken r bytes feed
  pub has : HasBoth r c
