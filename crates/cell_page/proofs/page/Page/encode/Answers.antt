use Rattle.std.proofs.Common.{◌≡◌, ℕ, ◌+◌, ◌*◌, ◌<◌, ◌≤◌, List, [], length, take, get_or, refl, ap, sym, ◌∙◌, arith}
use Rattle.std.proofs.lemmas.List.{take_more, flat_map_more}
use Rattle.std.proofs.lemmas.Nat.{rows}
use Rattle.std.proofs.lemmas.Slice.{take-put_mid}
use borrow.Rule.Slice.PartMut.{put_mid}
use Rattle.cell_page.specs.declared.cell.Cell.{Cell}
use Rattle.cell_page.specs.Format.{cell_bytes, page_bytes}
use Rattle.cell_page.proofs.page.Page.encode.Goals as goal

-- the bytes of one cell more
one_more : {slots : ℕ} (cells : List (Cell slots)) (c : Cell slots) (place len k : ℕ) (into piece : List ℕ)
    → place < length cells → c ≡ get_or cells place c → piece ≡ cell_bytes c → length piece ≡ len → place * len ≤ length into
    → take (place * len) into ≡ page_bytes (take place cells)
    → take ((place + 1) * len) (put_mid (place * len) k into piece) ≡ page_bytes (take (place + 1) cells)
one_more cells c place len k into piece below is spelled long room so_far =
    let n-is : (place + 1) * len ≡ place * len + length piece = omega arith in
    take-put_mid (place * len) k into piece ((place + 1) * len) n-is room
    ∙ rw (so_far, spelled, flat_map_more cell_bytes [] (take place cells) c, take_more cells place c below, ← is) refl

pub loop-place-preserved : goal.loop-place-preserved
loop-place-preserved g c =
    let len = c.cell_len-len.result in
    let size : length c.encode_cell.new.into ≡ len = omega arith in
    let room : c.loop-place.place * len ≤ length c.loop-place.into = grind (arith, rows) in
    one_more c.self.inside.cells c.cell-item.result c.loop-place.place len _ c.loop-place.into c.encode_cell.new.into (omega arith) c.cell-item.is (c.encode_cell.ensures ∙ ap cell_bytes (sym c.cell-item.is)) size room c.loop-place.invariant
