use Rattle.std.proofs.Common.{◌≡◌, ℕ, ◌-◌, List, length}
use Rattle.std.specs.Prelude.{None}
use Rattle.std.specs.Io.KnownBytes.{Consumes}
use Rattle.ship_stream.specs.declared.stage.Stage.TheVariants.{Ended}
use Rattle.log_checker.specs.Feeds.{Follows}
use Rattle.standby_feeding.specs.Streams.{AreBytes, longest}
use Rattle.log_checking.proofs.FedLaws.{came_to}
use Rattle.log_checking.proofs.feeding.feed_all.Given as goal

abbrev pub invariant-pieces : goal.invariant-pieces
invariant-pieces g l =
    (bytes : List ℕ) × Consumes (g.R.Source.left l.initial.source) (g.R.Source.left l.source) bytes × AreBytes bytes × Follows bytes l.checker
    × (l.checker.refused ≡ None) × (l.checker.feed.stage ≡ Ended → ⊥)
    × (length l.piece ≡ length l.initial.piece) × (g.R.Source.faults l.source ≡ g.R.Source.faults l.initial.source)

abbrev pub decreases-pieces : goal.decreases-pieces
decreases-pieces g l = longest g.row.SLOTS - came_to l.checker
