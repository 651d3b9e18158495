use Rattle.std.proofs.Common.{ap, ◌∙◌, subst, rules, arith}
use Rattle.plain_model.specs.History.{end_of}
use Rattle.plain_laws.specs.Sound.{PassesAscend}
use Rattle.core_store.specs.Journal.{view_of}
use Rattle.core_store.specs.JournalView.{JournalView, core_of}
use Rattle.core_store.specs.Owed.{bytes_owed}
use Rattle.core_store.specs.Views.{view_of as tables_of}
use Rattle.core_store.proofs.AskLaws.{owed-few}
use Rattle.core_store.proofs.journal.Journal.bytes_owed.Goals as goal

pub bytes_owed-requires : goal.bytes_owed-requires
bytes_owed-requires g c =
    let a = c.self.inside in
    let few = owed-few (view_of a) (tables_of a.tables) c.self.invariant.keeps in
    (search rules, ((core_of (view_of a), c.self.invariant.keeps.stands), omega (arith, few)))

pub returns-clause-value : goal.returns-clause-value
returns-clause-value g c =
    let a = c.self.inside in
    c.bytes_owed.ensures (core_of (view_of a)) c.self.invariant.keeps.stands ∙ ap (λ (j : JournalView). bytes_owed (end_of j.history)) c.self.view_is

pub returns-clause-ascend : goal.returns-clause-ascend
returns-clause-ascend g c = subst (λ (j : JournalView). PassesAscend (end_of j.history).state.active) c.self.view_is c.self.invariant.keeps.stands.sound.state.passes
