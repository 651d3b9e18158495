-- What a power loss might have left since the journal's store was shared.
use Rattle.std.specs.Prelude.{◌≡◌, ℕ, ◌≤◌, List, ◌++◌}
use Rattle.disk_model.specs.Areas.{Bytes}
use Rattle.plain_model.specs.declared.calls.Entry.{Entry}
use Rattle.plain_model.specs.History.{History}
use Rattle.logged_journal.specs.View.{LoggedView, history_of}
use Rattle.logged_journal.specs.Opens.{OpensAfter}

-- the image opens to cells whose graph is one that a crash after some first entries of this history may leave
pub record OpensToFront (slots : ℕ) (h : History) (image : Bytes) : Type 0 where
  pub front : List Entry
  pub rest : List Entry
  pub split : h.entries ≡ front ++ rest
  pub opens : OpensAfter slots (record h { entries = front }) image

-- Of a journal that goes on from another one: each image that a power loss might have left since the moment of that one opens to a
-- crash after some first entries of the history
pub record OpensSince {D : Type 0} (moment : D → ℕ) (left_since : D → ℕ → Bytes → Type 0) (slots : ℕ) (began now : LoggedView D) : Type 0 where
  pub later : moment began.disk ≤ moment now.disk
  pub each : (image : Bytes) → left_since now.disk (moment began.disk) image → OpensToFront slots (history_of now) image
