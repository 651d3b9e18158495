-- The objects of an open round that change between the copies and the verdict.
use Rattle.std.specs.Prelude.{ℕ, Bool, not, ◌&&◌, ◌||◌, ◌==◌, nat_lt, if◌then◌else◌, List, [], ◌∷◌, length, filter, fold, Option, Some, option_map}
use Rattle.store_model.specs.Core.{Round}
use Rattle.ref_tables.specs.Queue.{has}
use Rattle.log_record.specs.declared.cell_record.CellRecord.{CellRecord}
use Rattle.log_record.specs.declared.cell_record.CellRecord.TheVariants as logs
use Rattle.log_record.specs.Records.{payload_place}

-- some object was copied, and the verdict is to come
abbrev pub is_window : Round → Bool
is_window r = not r.judged && nat_lt 0 (length r.copies)

-- the round where a change of the object counts: it is marked as touched, in the list's order
abbrev pub touch : Round → ℕ → Round
touch r id = if is_window r && has r.list id then record r { touched = filter (λ x. (x == id) || has r.touched x) r.list } else r

-- the objects whose slots or counts a change of a slot concerns: its own, what the slot held, and what it holds, each 0 for null
abbrev pub objects_touched : Option CellRecord → List ℕ
objects_touched (Some (logs.Store pass id slot old_target old_strong new_target new_bit new_strong)) = id ∷ old_target ∷ new_target ∷ []
objects_touched (Some (logs.Undo pass place from_strong to_bit id «from» to)) = if place == payload_place then [] else id ∷ «from» ∷ to ∷ []
objects_touched _ = []

-- the open round, if one is, after changes of these objects
abbrev pub round_after : Option Round → List ℕ → Option Round
round_after round ids = option_map (λ r. fold touch r ids) round
