use Rattle.std.proofs.Common.{◌≡◌, List, ◌++◌, sym, ap, subst, ◌∙◌}
use Rattle.std.specs.Prelude.{OnOk}
use Rattle.std.specs.List.{AllByRecursion}
use Rattle.std.specs.Io.KnownBytes.{Appends}
use Rattle.plain_model.specs.Text.{text_of}
use Rattle.core_store.specs.declared.note.Note.{Note}
use Rattle.core_store.specs.JournalView.{JournalView}
use Rattle.logged_journal.specs.View.{history_of}
use Rattle.brahma_shell.specs.Points.{entries_in}
use Rattle.brahma_shell.specs.Telling.{IsNoCrash, failed_text}
use Rattle.brahma_shell.proofs.TellLemmas.{no-crash, history-parts, err-of_text, err-behind, ok-behind, front-all}
use Rattle.brahma_shell.proofs.telling.print_history.Goals as goal
use Rattle.script_lines.specs.Numbers.{object_slots}

pub print_notes-requires : goal.print_notes-requires
print_notes-requires g c = subst (λ (ns : List Note). AllByRecursion IsNoCrash (entries_in ns)) (sym c.history.ensures.notes) (no-crash object_slots _ _ c.journal.result.now.notes c.history.ensures.led)

pub returns-in-Ok-clause-ok : goal.returns-in-Ok-clause-ok
returns-in-Ok-clause-ok g c =
    let entries = c.history.ensures.entries ∙ ap (λ (j : JournalView). j.history.entries) c.journal.ensures.journal in
    let parts = history-parts c.args.logged.now c.history.result.now.list entries in
    let same : text_of (entries_in c.history.result.now.list) ++ failed_text c.failed.result ≡ text_of (history_of c.args.logged.now).entries = ap (λ o. text_of (entries_in c.history.result.now.list) ++ failed_text o) c.failed.ensures.failed ∙ sym parts in
    subst (λ text. OnOk c.print_failed.result (Appends (g.W.Sink.written c.args.out.now) (g.W.Sink.written c.print_failed.new.out) text)) same (ok-behind c.print_failed.result _ _ _ _ _ c.in-Ok.ensures.ok c.print_failed.ensures.ok)

pub returns-in-Ok-clause-err : goal.returns-in-Ok-clause-err
returns-in-Ok-clause-err g c =
    let entries = c.history.ensures.entries ∙ ap (λ (j : JournalView). j.history.entries) c.journal.ensures.journal in
    let parts = history-parts c.args.logged.now c.history.result.now.list entries in
    let same : text_of (entries_in c.history.result.now.list) ++ failed_text c.failed.result ≡ text_of (history_of c.args.logged.now).entries = ap (λ o. text_of (entries_in c.history.result.now.list) ++ failed_text o) c.failed.ensures.failed ∙ sym parts in
    err-of_text c.print_failed.result _ _ _ _ _ _ same (err-behind c.print_failed.result _ _ _ _ _ _ _ _ c.in-Ok.ensures.later c.in-Ok.ensures.ok c.print_failed.ensures.err)

pub returns-in-Err-clause-err : goal.returns-in-Err-clause-err
returns-in-Err-clause-err g c =
    let entries = c.history.ensures.entries ∙ ap (λ (j : JournalView). j.history.entries) c.journal.ensures.journal in
    let e = c.in-Err.ensures.err in
    (e.0, front-all c.args.logged.now c.history.result.now.list _ _ entries e.1, e.2)
