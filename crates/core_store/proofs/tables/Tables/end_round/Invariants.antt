use Rattle.core_store.specs.Views.{view_of}
use Rattle.core_store.proofs.EndRoundLaws.{HaveRequeued, walk_list}
use Rattle.core_store.proofs.tables.Tables.end_round.Given as goal

-- the first objects joined that are left and loose, and nothing else changed
abbrev pub invariant-loop-place : goal.invariant-loop-place
invariant-loop-place g l = HaveRequeued (view_of l.initial.self) (view_of l.self) (walk_list l.initial.self.round.view) l.place
