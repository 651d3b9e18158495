-- The records of a log, taken one after another by a replay, and where that stops.
use Rattle.std.specs.Prelude.{◌≡◌, ℕ, ◌+◌, ◌-◌, ◌*◌, ◌^◌, ◌≤◌, ◌==◌, Bool, true, false, List, [], ◌∷◌, ◌++◌, length, drop, replicate, slice_index, ⊤}
use Rattle.log_record.specs.declared.record.Record.{Record}
use Rattle.log_record.specs.declared.record.Record.TheVariants.{OfCells, Image, Turn}
use Rattle.log_record.specs.Spelling.{BeginsWith}
use Rattle.log_replay.specs.Replays.{Replaying, FitsReplay, after_taking}
use Rattle.opened_images.specs.LogRecords.{body_of, HaveSpellings}
use Rattle.page_marks.specs.declared.marks.PageMark.{PageMark}
use Rattle.page_marks.specs.Marks.{AreMarkedBy, AreMarkedByAll}

-- the record may stand after a log's first one, and it fits what the replay has, which awaits it where it is an image
abbrev pub CanTake : {slots : ℕ} → Replaying → Record slots → Type 0
CanTake {slots} v (OfCells r) = FitsReplay {slots = slots} v (OfCells r)
CanTake {slots} v (Image page cells) = FitsReplay {slots = slots} v (Image page cells) × (1 ≤ slice_index v.skips page)
CanTake v (Turn version pages) = ⊥

-- so do all of these, one after another
abbrev pub CanTakeAll : {slots : ℕ} → Replaying → List (Record slots) → Type 0
CanTakeAll v [] = ⊤
CanTakeAll v (r ∷ rs) = CanTake v r × CanTakeAll (after_taking r v) rs

-- what the replay has after all of these
abbrev pub taken_all : {slots : ℕ} → Replaying → List (Record slots) → Replaying
taken_all v [] = v
taken_all v (r ∷ rs) = taken_all (after_taking r v) rs

-- the replay took these records, and has this afterwards
pub record Takes {slots : ℕ} (rs : List (Record slots)) (v w : Replaying) : Type 0 where
  pub spelled : HaveSpellings rs
  pub fit : CanTakeAll v rs
  pub are : w ≡ taken_all v rs

-- ---- one record

-- it took the record that the bytes begin with, which has so many, and the marks are changed by it
pub record TakesFirst (slots : ℕ) (bytes : List ℕ) (len : ℕ) (v w : Replaying) (before now : List PageMark) : Type 0 where
  pub r : Record slots
  pub begins : BeginsWith bytes r len
  pub fits : CanTake v r
  pub are : w ≡ after_taking r v
  pub marked : AreMarkedBy r before now

-- the bytes begin with no record that it can take
abbrev pub TakesNone : (slots : ℕ) → List ℕ → Replaying → Type 0
TakesNone slots bytes v = (r : Record slots) (len : ℕ) → BeginsWith bytes r len → CanTake v r → ⊥

-- ---- the body of a batch

-- it took the records of the first bytes of the body, so many, and the marks are changed by them
pub record TakesFront (slots : ℕ) (body : List ℕ) (count : ℕ) (v w : Replaying) (before now : List PageMark) : Type 0 where
  pub rs : List (Record slots)
  pub takes : Takes rs v w
  pub so_far : count ≡ length (body_of rs)
  pub split : body ≡ body_of rs ++ drop count body
  pub marked : AreMarkedByAll rs before now

-- it took all its records, and the marks are changed by them
pub record TakesBody (slots : ℕ) (body : List ℕ) (v w : Replaying) (before now : List PageMark) : Type 0 where
  pub rs : List (Record slots)
  pub takes : Takes rs v w
  pub split : body ≡ body_of rs
  pub marked : AreMarkedByAll rs before now

-- it can take the records in front of this offset, and there begins none that it can take
pub record StopsInBody (slots : ℕ) (body : List ℕ) (offset : ℕ) (v : Replaying) : Type 0 where
  pub rs : List (Record slots)
  pub w : Replaying
  pub takes : Takes rs v w
  pub so_far : offset ≡ length (body_of rs)
  pub left : List ℕ
  pub some : 1 ≤ length left
  pub none : TakesNone slots left w
  pub split : body ≡ body_of rs ++ left

-- ---- images

-- one more where both are the same number
abbrev pub one_if : Bool → ℕ
one_if true = 1
one_if false = 0

-- how many of the records are images of this page
abbrev pub count_images : {slots : ℕ} → ℕ → List (Record slots) → ℕ
count_images page [] = 0
count_images page (OfCells r ∷ rs) = count_images page rs
count_images page (Image p cells ∷ rs) = one_if (p == page) + count_images page rs
count_images page (Turn version pages ∷ rs) = count_images page rs

-- ---- a replay that awaits so many images of each page that it tests and changes no cell

-- the greatest number of four bytes
abbrev pub most_images : ℕ
most_images = 2 ^ 32 - 1

pub record IsWaiting (pages : ℕ) (v : Replaying) : Type 0 where
  pub sized : length v.cells ≡ 8 * pages + 1
  pub none : v.unended ≡ []
  pub awaits : v.skips ≡ replicate pages most_images
