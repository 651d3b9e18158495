use Rattle.std.proofs.Common.{rules, ap, sym, subst, get_or, Option}
use Rattle.std.specs.Global.{Vec}
use Rattle.cell_page.specs.Format.{HasId}
use Rattle.core_store.specs.declared.frame.Frame.{Frame}
use Rattle.core_store.specs.Inside.{frames_of_all}
use Rattle.core_store.proofs.three.put_in_all.Goals as goal

pub put_cell-requires : goal.put_cell-requires
put_cell-requires g c =
    let d = c.index_mut.result.now in
    let all = ap (λ (o : Option (Vec (Frame g.row.SLOTS))). get_or (frames_of_all o) c.page_of.result d) c.in-Some.is in
    (search rules, (search rules, subst (λ (f : Frame g.row.SLOTS). HasId f.page c.args.cell.id) (sym c.index_mut.ensures.value) (rw (c.in-Some.is, ← c.page_of.ensures.page) at c.requires.ids d)))
