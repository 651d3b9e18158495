use Rattle.std.proofs.Common.{◌≤◌, [], sym, ◌∙◌, ⊎_elim, arith, rules}
use Rattle.std.specs.Option.{option_map_or}
use Rattle.core_store.specs.Work.{objects_of}
use Rattle.core_store.proofs.NextLaws.{next-of}
use Rattle.core_store.proofs.PlanWork.{small-targets}
use Rattle.core_store.proofs.tables.Tables.wants.Goals as goal

pub wanted-requires : goal.wanted-requires
wanted-requires g c =
    let s = c.requires.standing in
    let small : g.row.SLOTS ≤ 14 = ⊎_elim (λ six. omega arith) (λ fourteen. omega arith) s.1.counted in
    (search rules, (s.3.small, (s.0.cells, s.2, small-targets s.1)))

pub returns-clause-exact : goal.returns-clause-exact
returns-clause-exact g c = λ core h agree. c.wanted.ensures.exact core.cells agree

pub returns-clause-next : goal.returns-clause-next
returns-clause-next g c = λ page e.
    let s = c.requires.standing in
    next-of c.args.self.now.ids c.args.held.now (option_map_or (objects_of s.0.cells) c.args.work []) page c.wanted.ensures.once s.3.few (sym (c.wanted.ensures.exact s.0.cells s.2) ∙ e)
