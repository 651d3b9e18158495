use Rattle.std.proofs.Common.{ap, ◌∙◌}
use Rattle.core_store.specs.declared.note.Note.{Note}
use Rattle.std.proofs.Common.{List}
use Rattle.brahma_shell.specs.Points.{entries_in}
use Rattle.brahma_shell.proofs.TallyLemmas.{told-text}
use Rattle.brahma_shell.proofs.generating.tell.Goals as goal

pub returns-in-Ok-write_all-clause-done : goal.returns-in-Ok-write_all-clause-done
returns-in-Ok-write_all-clause-done g c = λ zero.
    let t = c.tally_of-tally.ensures in
    told-text _ _ c.as_bytes.result.now (entries_in c.history.result.now.list) c.args.store.now.journal.history.entries c.tally_of-tally.result c.items.result.now _
    (c.as_bytes.ensures.value ∙ c.as_str.ensures.value ∙ c.generated_line-line.ensures) t.commits t.aborts t.busy t.deleted
    (ap (λ (ns : List Note). entries_in ns) c.history.ensures.notes ∙ c.history.ensures.entries) (c.items.ensures ∙ c.in-Ok.ensures) c.in-Ok-write_all.ensures.ok
