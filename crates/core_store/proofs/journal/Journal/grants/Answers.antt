use Rattle.std.proofs.Common.{◌≡◌, false, None, sym, ap, ◌∙◌, subst, rules}
use Rattle.std.specs.Prelude.{◌&&◌, not, is_none}
use Rattle.plain_model.specs.Machine.{refusal_of, transaction_of}
use Rattle.plain_model.specs.declared.calls.Call.TheVariants.{Abort}
use Rattle.plain_model.specs.History.{end_of}
use Rattle.core_store.specs.Journal.{view_of}
use Rattle.core_store.specs.JournalView.{JournalView, core_of}
use Rattle.core_store.specs.Limited.{is_past_limit}
use Rattle.core_store.specs.Owed.{entries_needed}
use Rattle.core_store.specs.Transactions.{running_at}
use Rattle.core_store.specs.Views.{view_of as tables_of}
use Rattle.core_store.proofs.JournalLaws.{inactive-running}
use Rattle.core_store.proofs.PlannedLaws.{planned-allowed}
use Rattle.core_store.proofs.journal.Journal.grants.Goals as goal

pub plan-requires : goal.plan-requires
plan-requires g c =
    let a = c.self.inside in
    let s = c.self.invariant in
    let none : c.args.call.now ≡ Abort → running_at a.tables.transactions.entries c.args.pass ≡ None =
    λ e. inactive-running (view_of a) (tables_of a.tables) c.args.pass s.keeps (subst (λ (j : JournalView). transaction_of (end_of j.history).state c.args.pass ≡ None) (sym c.self.view_is) (c.requires.no_abort e)) in
    (search rules, ((g.row.SLOTS, c.requires.in_range), none))

pub returns : goal.returns
returns g c =
    let a = c.self.inside in
    let within : is_past_limit c.args.self.now (entries_needed c.args.call.now) ≡ false = subst (λ n. is_past_limit c.args.self.now n ≡ false) c.entries_needed.ensures (sym c.is_past_limit.ensures ∙ c.if-is_past_limit.false) in
    c.is_ok.ensures.value
    ∙ (planned-allowed (tables_of a.tables) (core_of (view_of a)) c.self.invariant.keeps.stands c.args.pass c.args.call.now c.plan.result c.plan.ensures.ok c.plan.ensures.err
    ∙ (ap (λ (j : JournalView). is_none (refusal_of (end_of j.history).state c.args.pass c.args.call.now)) c.self.view_is
    ∙ sym (ap (λ b. not b && is_none (refusal_of (end_of c.args.self.now.history).state c.args.pass c.args.call.now)) within)))
