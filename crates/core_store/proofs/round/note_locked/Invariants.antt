use Rattle.std.proofs.Common.{◌≡◌, length}
use Rattle.core_store.proofs.RowLaws.{IsRowTo}
use Rattle.core_store.proofs.round.note_locked.Given as goal

-- the places before this one are noted
abbrev pub invariant-loop-place : goal.invariant-loop-place
invariant-loop-place l = record {
  room : length l.row ≡ length l.fn.row;
  noted : IsRowTo l.locks l.list l.row l.place;
}
