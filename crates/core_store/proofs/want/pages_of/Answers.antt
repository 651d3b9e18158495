use Rattle.std.proofs.Common.{ℕ, ◌<◌, get_or, sym, subst}
use Rattle.core_store.proofs.WantSteps.{target-held, three_pages-change}
use Rattle.core_store.proofs.want.pages_of.Goals as goal

-- what the slot holds is small, as in the store's cells
pub page_or-requires : goal.page_or-requires
page_or-requires g c =
    let a = c.requires.agrees in
    subst (λ (n : ℕ). n < 65536) (target-held a.0 c.args.work.id c.in-Some.slot c.cell.result.now (c.cell.ensures.stored a.0 a.1)) (a.2 c.args.work.id c.in-Some.slot)

pub returns-in-Some : goal.returns-in-Some
returns-in-Some g c = λ cells agree.
    let old = target-held cells c.args.work.id c.in-Some.slot c.cell.result.now (c.cell.ensures.stored cells agree) in
    rw (c.page_or.ensures, c.page_or-in-Some.ensures, c.requires.first) (sym (three_pages-change cells c.args.work c.in-Some.slot c.in-Some.target (get_or c.cell.result.now.slots c.in-Some.slot 0) c.in-Some.is old))
