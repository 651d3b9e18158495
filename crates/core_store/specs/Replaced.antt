-- What the writes of a transaction replaced.
use Rattle.std.specs.Prelude.{ℕ, if◌then◌else◌, List, [], ◌∷◌, ◌++◌, take, Option, None}
use Rattle.std.specs.List.{last_or}
use Rattle.std.specs.Option.{option_map_or}
use Rattle.plain_model.specs.declared.object.Object.{Object}
use Rattle.plain_model.specs.declared.write.Write.{Write}
use Rattle.plain_model.specs.Graphs.{applied}
use Rattle.plain_model.specs.Machine.{transaction_of}
use Rattle.plain_model.specs.History.{Moment, can_be_undone, left_to_undo}
use Rattle.restart_laws.specs.Told.{value_in}

-- the write that lays again what the graph has where this write goes
abbrev pub before_write : List Object → Write → Write
before_write g w = record { id = w.id; place = w.place; value = value_in g w.id w.place }

-- what the writes that can be undone replaced, in order, where they are made one after another from this graph on
abbrev pub replaced : ℕ → List Object → List Write → List Write
replaced slots g [] = []
replaced slots g (w ∷ ws) = (if can_be_undone w then before_write g w ∷ [] else []) ++ replaced slots (applied slots g (w ∷ [])) ws

-- what the client's writes replaced that aren't undone yet, in order
abbrev pub to_restore : Moment → ℕ → List Write
to_restore m pass = option_map_or (λ t. take (left_to_undo m pass) (replaced m.state.slots m.state.committed t.writes)) (transaction_of m.state pass) []

-- what the next undo step of the client lays again: what the last of those writes replaced
abbrev pub next_to_restore : Moment → ℕ → Option Write
next_to_restore m pass = last_or None (to_restore m pass)
