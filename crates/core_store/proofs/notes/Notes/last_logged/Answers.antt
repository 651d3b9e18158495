use Rattle.std.proofs.Common.{None, Some, sym, ap, ◌∙◌}
use Rattle.core_store.specs.declared.notes.Row.{Row}
use Rattle.core_store.specs.Notes.{NotesView}
use Rattle.core_store.proofs.NotesLaws.{last-plain, last-event, last-of}
use Rattle.core_store.proofs.notes.Notes.last_logged.Goals as goal

pub returns-in_err-last-in-Plain : goal.returns-in_err-last-in-Plain
returns-in_err-last-in-Plain c =
    let a = c.self.inside in
    c.from_residual-in_err-last-in-Plain.ensures
    ∙ last-plain a.order.items a.plain.items a.events.items c.args.self.now None c.self.invariant.filled (ap (λ (v : NotesView). v.list) c.self.view_is)
    (sym (ap (λ (r : Row). Some r) c.in-Plain.is) ∙ last-of c.deref.result.now a.order.items (Some c.in_ok-last.field-0.now) c.in_ok-last.ensures.value c.deref.ensures.value)
    (last-of c.deref-in-Plain.result.now a.plain.items None c.in_err-last-in-Plain.ensures.value c.deref-in-Plain.ensures.value)

pub returns-in_err-last-in-Event : goal.returns-in_err-last-in-Event
returns-in_err-last-in-Event c =
    let a = c.self.inside in
    c.from_residual-in_err-last-in-Event.ensures
    ∙ last-event a.order.items a.plain.items a.events.items c.args.self.now None c.self.invariant.filled (ap (λ (v : NotesView). v.list) c.self.view_is)
    (sym (ap (λ (r : Row). Some r) c.in-Event.is) ∙ last-of c.deref.result.now a.order.items (Some c.in_ok-last.field-0.now) c.in_ok-last.ensures.value c.deref.ensures.value)
    (last-of c.deref-in-Event.result.now a.events.items None c.in_err-last-in-Event.ensures.value c.deref-in-Event.ensures.value)

pub returns-in_ok-last-in-Plain : goal.returns-in_ok-last-in-Plain
returns-in_ok-last-in-Plain c =
    let a = c.self.inside in
    c.logged.ensures
    ∙ last-plain a.order.items a.plain.items a.events.items c.args.self.now (Some c.in_ok-last-in-Plain.field-0.now) c.self.invariant.filled (ap (λ (v : NotesView). v.list) c.self.view_is)
    (sym (ap (λ (r : Row). Some r) c.in-Plain.is) ∙ last-of c.deref.result.now a.order.items (Some c.in_ok-last.field-0.now) c.in_ok-last.ensures.value c.deref.ensures.value)
    (last-of c.deref-in-Plain.result.now a.plain.items (Some c.in_ok-last-in-Plain.field-0.now) c.in_ok-last-in-Plain.ensures.value c.deref-in-Plain.ensures.value)

pub returns-in_ok-last-in-Event : goal.returns-in_ok-last-in-Event
returns-in_ok-last-in-Event c =
    let a = c.self.inside in
    c.logged-in-Event.ensures
    ∙ last-event a.order.items a.plain.items a.events.items c.args.self.now (Some c.in_ok-last-in-Event.field-0.now) c.self.invariant.filled (ap (λ (v : NotesView). v.list) c.self.view_is)
    (sym (ap (λ (r : Row). Some r) c.in-Event.is) ∙ last-of c.deref.result.now a.order.items (Some c.in_ok-last.field-0.now) c.in_ok-last.ensures.value c.deref.ensures.value)
    (last-of c.deref-in-Event.result.now a.events.items (Some c.in_ok-last-in-Event.field-0.now) c.in_ok-last-in-Event.ensures.value c.deref-in-Event.ensures.value)
