use Rattle.std.proofs.Common.{◌≡◌, ℕ, ◌≤◌, [], ◌∷◌, ◌++◌, Option, Some, sym, ap, ◌∙◌, subst, arith, rules, refl, ⊎_elim}
use Rattle.std.specs.Prelude.{IsSome, option_map}
use Rattle.plain_model.specs.declared.calls.Call.TheVariants.{Abort}
use Rattle.plain_model.specs.declared.calls.Reply.TheVariants.{Done}
use Rattle.plain_model.specs.declared.calls.Entry.TheVariants.{Call, Undo}
use Rattle.plain_model.specs.Machine.{transaction_of}
use Rattle.plain_model.specs.History.{end_of}
use Rattle.log_record.specs.declared.cell_record.CellRecord.{CellRecord}
use Rattle.log_record.specs.declared.cell_record.CellRecord.TheVariants.{AbortEnd}
use Rattle.core_store.specs.declared.journal.Journal.TheInside.{Inside}
use Rattle.core_store.specs.declared.act.Act.TheVariants.{Other}
use Rattle.core_store.specs.Events.{after_event}
use Rattle.core_store.specs.JournalView.{JournalView, cells_of, core_of, with_note}
use Rattle.core_store.specs.Journal.{view_of, IsJournalInside}
use Rattle.core_store.specs.Logged.{logged_by_undo}
use Rattle.core_store.specs.Replaced.{next_to_restore}
use Rattle.core_store.specs.Transactions.{running_at}
use Rattle.core_store.specs.Views.{view_of as tables_of}
use Rattle.core_store.proofs.AskLaws.{ready-undo}
use Rattle.core_store.proofs.AbortLaws.{has-undone, undone-left, undone-record, undone-round, has-ended, ended-left, ended-round}
use Rattle.core_store.proofs.HappensLaws.{client_note}
use Rattle.core_store.proofs.JournalLaws.{active-running}
use Rattle.core_store.proofs.JournalSteps.{Grows, HasGrown}
use Rattle.core_store.proofs.journal.Journal.abort_step.Given.{Over}
use Rattle.core_store.proofs.journal.Journal.abort_step.Goals as goal

active : {slots : ℕ} (a : Inside slots) (now : JournalView) (pass : ℕ) → IsJournalInside a → view_of a ≡ now → IsSome (transaction_of (end_of now.history).state pass) → IsSome (running_at a.tables.transactions.entries pass)
active a now pass s is some = active-running (view_of a) (tables_of a.tables) pass s.keeps (subst (λ (j : JournalView). IsSome (transaction_of (end_of j.history).state pass)) (sym is) some)

pub undo-logged-requires : goal.undo-logged-requires
undo-logged-requires g c =
    let a = c.self.inside in
    let s = c.self.invariant in
    let small : g.row.SLOTS ≤ 14 = ⊎_elim (λ six. omega arith) (λ fourteen. omega arith) s.keeps.stands.counted in
    (search rules, (search rules, (active a c.args.self.now c.args.pass s c.self.view_is c.requires.active, (sym c.plan_undo.ensures ∙ c.in-Some.is, ready-undo a c.args.self.now c.args.held.now c.args.pass s c.self.view_is c.requires.agree c.requires.ready))))

pub end_abort-logged-requires : goal.end_abort-logged-requires
end_abort-logged-requires g c =
    let a = c.self.inside in
    let s = c.self.invariant in
    (search rules, (active a c.args.self.now c.args.pass s c.self.view_is c.requires.active, (sym c.plan_undo.ensures ∙ c.in-None.is, (core_of (view_of a), s.keeps.stands))))

-- ---- one write is undone

abbrev after_undo : (g : Over) (c : goal.After-add g) → Inside g.row.SLOTS
after_undo g c = record { alloc = c.self.inside.alloc; opening = c.self.inside.opening; trace = c.add.new.self; tables = c.undo-logged.new.self }

grows : (g : Over) (c : goal.After-add g) → Grows c.self.inside (after_undo g c) (client_note (Undo c.args.pass) (Some c.undo-logged.result) c.left.result)
grows g c = record { opening = refl; limits = c.add.ensures.rest.0; marks = c.add.ensures.rest.1; reserved = c.add.ensures.reserved; trace = c.add.ensures.items; left = c.left.ensures }

undone : (g : Over) (c : goal.After-add g)
    → HasGrown (after_undo g c) c.args.self.now c.args.held.now c.undo-logged.new.held (client_note (Undo c.args.pass) (Some c.undo-logged.result) c.left.result) (after_event g.row.SLOTS (core_of c.args.self.now) (Undo c.args.pass) (Some c.undo-logged.result))
undone g c =
    has-undone c.self.inside (after_undo g c) c.args.self.now c.args.held.now c.undo-logged.new.held c.args.pass c.left.result c.self.invariant c.self.view_is c.requires.agree c.undo-logged.ensures.owed
    c.undo-logged.result (grows g c) c.undo-logged.ensures.undone

logged : (g : Over) (c : goal.After-add g) → Some c.undo-logged.result ≡ option_map (logged_by_undo (cells_of c.args.self.now) c.args.pass) (next_to_restore (end_of c.args.self.now.history) c.args.pass)
logged g c =
    undone-record c.self.inside (after_undo g c) c.args.self.now c.args.held.now c.undo-logged.new.held c.args.pass c.left.result c.self.invariant c.self.view_is c.requires.agree c.undo-logged.ensures.owed
    c.undo-logged.result (grows g c) c.undo-logged.ensures.undone

pub invariant_of-self : goal.invariant_of-self
invariant_of-self g c = (undone g c).sound (omega (arith, c.self.invariant.room, c.add.ensures.len, c.add.ensures.room, c.undo-logged.ensures.owed))

pub returns-in-Some-clause-undone : goal.returns-in-Some-clause-undone
returns-in-Some-clause-undone g c = λ _. (
  undone-left c.self.inside (after_undo g c) c.args.self.now c.args.held.now c.undo-logged.new.held c.args.pass c.left.result c.self.invariant c.self.view_is c.requires.agree c.undo-logged.ensures.owed
      c.undo-logged.result (grows g c) c.undo-logged.ensures.undone,
  ap (λ (j : JournalView). j.history) (undone g c).view_is,
)

pub returns-in-Some-clause-noted_undo : goal.returns-in-Some-clause-noted_undo
returns-in-Some-clause-noted_undo g c = λ _.
    ap (λ (j : JournalView). j.notes) (undone g c).view_is
    ∙ (ap (λ (r : Option CellRecord). with_note c.args.self.now.notes (Undo c.args.pass) r c.left.result Other) (logged g c)
    ∙ ap (λ n. with_note c.args.self.now.notes (Undo c.args.pass) (option_map (logged_by_undo (cells_of c.args.self.now) c.args.pass) (next_to_restore (end_of c.args.self.now.history) c.args.pass)) n Other) c.left.ensures)

pub returns-in-Some-clause-collector_undo : goal.returns-in-Some-clause-collector_undo
returns-in-Some-clause-collector_undo g c = λ _. (undone g c).core_is ∙ ap (λ (r : Option CellRecord). after_event g.row.SLOTS (core_of c.args.self.now) (Undo c.args.pass) r) (logged g c)

pub returns-in-Some-clause-cursor_undo : goal.returns-in-Some-clause-cursor_undo
returns-in-Some-clause-cursor_undo g c = λ _.
    undone-round c.self.inside (after_undo g c) c.args.self.now c.args.held.now c.undo-logged.new.held c.args.pass c.left.result c.self.invariant c.self.view_is c.requires.agree c.undo-logged.ensures.owed
    c.undo-logged.result (grows g c) c.undo-logged.ensures.undone

pub returns-in-Some-clause-agree : goal.returns-in-Some-clause-agree
returns-in-Some-clause-agree g c = (undone g c).agree

pub returns-in-Some-clause-elsewhere : goal.returns-in-Some-clause-elsewhere
returns-in-Some-clause-elsewhere g c = (undone g c).elsewhere

-- ---- the transaction ends

abbrev after_end : (g : Over) (c : goal.After-add-in-None g) → Inside g.row.SLOTS
after_end g c = record { alloc = c.self.inside.alloc; opening = c.self.inside.opening; trace = c.add-in-None.new.self; tables = c.end_abort-logged.new.self }

ended : (g : Over) (c : goal.After-add-in-None g) → Grows c.self.inside (after_end g c) (client_note (Call c.args.pass Abort Done) (Some (AbortEnd c.args.pass)) c.left-in-None.result)
ended g c =
    let end = c.end_abort-logged.ensures in
    record {
      opening = refl;
      limits = c.add-in-None.ensures.rest.0;
      marks = c.add-in-None.ensures.rest.1;
      reserved = c.add-in-None.ensures.reserved;
      trace = c.add-in-None.ensures.items ∙ ap (λ (r : CellRecord). c.self.inside.trace.notes.list ++ client_note (Call c.args.pass Abort Done) (Some r) c.left-in-None.result ∷ []) end.logged;
      left = c.left-in-None.ensures;
    }

it : (g : Over) (c : goal.After-add-in-None g)
    → HasGrown (after_end g c) c.args.self.now c.args.held.now c.args.held.now (client_note (Call c.args.pass Abort Done) (Some (AbortEnd c.args.pass)) c.left-in-None.result) (after_event g.row.SLOTS (core_of c.args.self.now) (Call c.args.pass Abort Done) (Some (AbortEnd c.args.pass)))
it g c =
    let end = c.end_abort-logged.ensures in
    has-ended c.self.inside (after_end g c) c.args.self.now c.args.held.now c.args.held.now c.args.pass c.left-in-None.result c.self.invariant c.self.view_is c.requires.agree c.end_abort-logged.ensures.owed (ended g c) end.ended refl

pub invariant_of-self-in-None : goal.invariant_of-self-in-None
invariant_of-self-in-None g c = (it g c).sound (omega (arith, c.self.invariant.room, c.add-in-None.ensures.len, c.add-in-None.ensures.room, c.end_abort-logged.ensures.owed))

pub returns-in-None-clause-ended : goal.returns-in-None-clause-ended
returns-in-None-clause-ended g c = λ _.
    let end = c.end_abort-logged.ensures in (
      ended-left c.self.inside (after_end g c) c.args.self.now c.args.held.now c.args.held.now c.args.pass c.left-in-None.result c.self.invariant c.self.view_is c.requires.agree c.end_abort-logged.ensures.owed (ended g c) end.ended refl,
      ap (λ (j : JournalView). j.history) (it g c).view_is,
    )

pub returns-in-None-clause-noted_end : goal.returns-in-None-clause-noted_end
returns-in-None-clause-noted_end g c = λ _. ap (λ (j : JournalView). j.notes) (it g c).view_is ∙ ap (λ n. with_note c.args.self.now.notes (Call c.args.pass Abort Done) (Some (AbortEnd c.args.pass)) n Other) c.left-in-None.ensures

pub returns-in-None-clause-collector_end : goal.returns-in-None-clause-collector_end
returns-in-None-clause-collector_end g c = λ _. (it g c).core_is

pub returns-in-None-clause-cursor_end : goal.returns-in-None-clause-cursor_end
returns-in-None-clause-cursor_end g c = λ _.
    let end = c.end_abort-logged.ensures in
    ended-round c.self.inside (after_end g c) c.args.self.now c.args.held.now c.args.held.now c.args.pass c.left-in-None.result c.self.invariant c.self.view_is c.requires.agree c.end_abort-logged.ensures.owed (ended g c) end.ended refl

pub returns-in-None-clause-agree : goal.returns-in-None-clause-agree
returns-in-None-clause-agree g c = (it g c).agree

pub returns-in-None-clause-elsewhere : goal.returns-in-None-clause-elsewhere
returns-in-None-clause-elsewhere g c = (it g c).elsewhere
