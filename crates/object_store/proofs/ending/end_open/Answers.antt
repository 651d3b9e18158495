use Rattle.std.proofs.Common.{◌≡◌, ◌∙◌, sym, ap, true, false, is_some}
use Rattle.core_store.specs.JournalView.{JournalView}
use Rattle.plain_model.specs.Machine.{transaction_of}
use Rattle.plain_model.specs.History.{end_of}
use Rattle.logged_journal.specs.View.{LoggedView}
use Rattle.object_store.specs.Seen.{client, state_of, open_in}
use Rattle.object_store.proofs.EndLaws.{ends_none, ends_one}
use Rattle.object_store.proofs.ending.end_open.Goals as goal

pub returns-then-active : goal.returns-then-active
returns-then-active g c =
    let v = c.args.below.now in
    let w = c.abort.new.self in
    let told = c.abort.ensures in
    let same = c.journal.ensures.journal ∙ ap (λ (x : LoggedView g.row.D.Denot). x.journal) c.logged.ensures.logged in
    let some : is_some (open_in (state_of v)) ≡ true = ap (λ (j : JournalView). is_some (transaction_of (end_of j.history).state client)) (sym same) ∙ sym c.active.ensures.value ∙ c.if-active.true in
    ends_one v w c.abort.result c.requires.kept some told.stopped told.only_stopped told.entries told.goes_on told.untouched

pub returns-else-active : goal.returns-else-active
returns-else-active g c =
    let v = c.args.below.now in
    let same = c.journal.ensures.journal ∙ ap (λ (x : LoggedView g.row.D.Denot). x.journal) c.logged.ensures.logged in
    let none : is_some (open_in (state_of v)) ≡ false = ap (λ (j : JournalView). is_some (transaction_of (end_of j.history).state client)) (sym same) ∙ sym c.active.ensures.value ∙ c.if-active.false in
    ends_none v c.requires.kept none
