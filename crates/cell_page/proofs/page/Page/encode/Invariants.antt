use Rattle.std.proofs.Common.{◌≡◌, ◌*◌, take}
use Rattle.cell_page.specs.Format.{page_bytes}
use Rattle.cell_page.proofs.page.Page.encode.Given as goal

abbrev pub invariant-loop-place : goal.invariant-loop-place
invariant-loop-place g l = take (l.place * l.len) l.into ≡ page_bytes (take l.place l.cell-items)
