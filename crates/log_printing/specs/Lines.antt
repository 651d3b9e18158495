-- The lines of a log that are left to give.
use Rattle.std.specs.Prelude.{◌≡◌, ◌≢◌, ℕ, ◌+◌, ◌<◌, ◌≤◌, List, [], ◌∷◌, ◌++◌, length, drop}
use Rattle.log_record.specs.declared.record.Record.{Record}
use Rattle.gate_log.specs.Batches.{AreBodies, batches_bytes}
use Rattle.opened_images.specs.LogRecords.{body_of, bodies_of, all_of, HaveSpellings}
use Rattle.log_printing.specs.Text.{located, located_in, lines_of}

-- Where the next record stands in the area, and where the body ends that it stands in. Where the body has ended, the next commit
-- byte stands there.
pub record Place : Type 0 where
  pub at : ℕ
  pub end : ℕ

-- From this place of the area on these records are left, each with its offset: those of the body, and those of the batches after
-- it, after which stands a closed commit byte.
pub record AreLeft {slots : ℕ} (area : List ℕ) (items : List (ℕ × Record slots)) (p : Place) : Type 0 where
  pub records : List (Record slots)
  pub batches : List (List (Record slots))
  pub spelled : HaveSpellings records
  pub later_spelled : HaveSpellings (all_of batches)
  pub later_bodies : AreBodies (bodies_of batches)
  pub commit_byte : ℕ
  pub closed : commit_byte ≢ 1
  pub rest : List ℕ
  pub are : drop p.at area ≡ body_of records ++ (batches_bytes (bodies_of batches) ++ commit_byte ∷ rest)
  pub within : p.at + length (body_of records) ≡ p.end
  pub items_are : items ≡ located p.at records ++ located_in p.end batches

-- the lines of what is left are this text
abbrev pub GivesText : (slots : ℕ) → List ℕ → List ℕ → Place → Type 0
GivesText slots area text p = (items : List (ℕ × Record slots)) × AreLeft area items p × (text ≡ lines_of items)

-- the place is one of a log
abbrev pub IsPlaceIn : (slots : ℕ) → List ℕ → Place → Type 0
IsPlaceIn slots area p = (items : List (ℕ × Record slots)) × AreLeft area items p

-- What is left from the first place on is left from the second one on too.
abbrev pub KeepsLeft : (slots : ℕ) → List ℕ → Place → Place → Type 0
KeepsLeft slots area p q = (items : List (ℕ × Record slots)) → AreLeft area items p → AreLeft area items q

-- From the first place on the second one is the next at which a record stands.
pub record GoesToRecord (slots : ℕ) (area : List ℕ) (p q : Place) : Type 0 where
  pub keeps : KeepsLeft slots area p q
  pub on : p.at ≤ q.at
  pub some : q.at < q.end
  pub within : q.end ≤ length area
