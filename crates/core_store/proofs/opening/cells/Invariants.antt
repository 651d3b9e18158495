use Rattle.std.proofs.Common.{◌≡◌, take}
use Rattle.std.specs.List.{flat_map}
use Rattle.core_store.proofs.opening.cells.Given as goal

-- the cells of the frames so far
abbrev pub invariant-loop-frame : goal.invariant-loop-frame
invariant-loop-frame g l = l.cells.items ≡ flat_map (λ f. f.page) (take l.frame-index l.frames)
