use Rattle.std.proofs.Common.{◌≡◌, ◌*◌, ◌≤◌, List, length, sym, ap, subst, ◌∙◌, arith, rules}
use Rattle.core_store.specs.declared.frame.Frame.{Frame}
use Rattle.core_store.specs.declared.note.Note.{Note}
use Rattle.core_store.specs.JournalView.{cells_of}
use Rattle.core_store.specs.Frames.{AllAgree}
use Rattle.logged_journal.specs.View.{LoggedView}
use Rattle.shared_store.specs.Chronicles.View.{origin_of, frame_after}
use Rattle.framed_journal.proofs.HoldLaws.{slots-few}
use Rattle.shared_store.proofs.Lones.{none-noted, first-lone}
use Rattle.shared_store.proofs.lone.LoneStore.new.Goals as goal

pub new-boxed-requires-after_bounds : goal.new-boxed-requires-after_bounds
new-boxed-requires-after_bounds g c κs within =
    let small : g.row.SLOTS ≤ 14 = slots-few g.row.SLOTS c.requires.size in
    let value = c.as_slice.ensures.value in
    (search rules, (search rules, (search rules, (c.requires.size, (c.requires.running, (ap (λ (fs : List (Frame g.row.SLOTS)). 8 * length fs) value ∙ c.requires.pages, subst (λ (fs : List (Frame g.row.SLOTS)). AllAgree (cells_of c.args.logged.journal) fs) (sym value) c.requires.agree))))))

pub new_in_hand-requires-clause-agree : goal.new_in_hand-requires-clause-agree
new_in_hand-requires-clause-agree g c k f at =
    let is = c.in-Ok.ensures.ok in
    let few : 8 * length c.args.frames.items ≤ c.in-Ok.journal.journal.history.ids = let e = ap (λ (v : LoggedView g.row.D.Denot). v.journal.history.ids) is in let p = c.requires.pages in omega arith in
    let agree : AllAgree (cells_of c.in-Ok.journal.journal) c.args.frames.items = subst (λ (v : LoggedView g.row.D.Denot). AllAgree (cells_of v.journal) c.args.frames.items) (sym is) c.requires.agree in
    (c.know_frames.ensures.all c.args.frames.items few).0 agree k f at ∙ ap (λ (ns : List Note). frame_after g.row.SLOTS (origin_of c.in-Ok.journal) ns k) (none-noted c.in-Ok.journal (ap (λ (v : LoggedView g.row.D.Denot). v.failed) is ∙ c.requires.running) (ap (λ (v : LoggedView g.row.D.Denot). v.journal.notes) is ∙ c.requires.empty))

pub invariant_of-result-in-Ok-new_in_hand : goal.invariant_of-result-in-Ok-new_in_hand
invariant_of-result-in-Ok-new_in_hand g c =
    let is = c.in-Ok.ensures.ok in
    let made = c.in-Ok-new_in_hand.ensures.ok in
    let few : 8 * length c.args.frames.items ≡ c.in-Ok.journal.journal.history.ids = c.requires.pages ∙ sym (ap (λ (v : LoggedView g.row.D.Denot). v.journal.history.ids) is) in
    let agree : AllAgree (cells_of c.in-Ok.journal.journal) c.args.frames.items = subst (λ (v : LoggedView g.row.D.Denot). AllAgree (cells_of v.journal) c.args.frames.items) (sym is) c.requires.agree in
    first-lone g.row.SLOTS _ c.in-Ok-new_in_hand.hold c.in-Ok.journal c.args.frames.items c.whole.result made.1 (let n = made.0 in let s = c.requires.few.0 in omega (arith, n, s)) (let n = made.0 in let s = c.requires.few.1 in omega (arith, n, s)) c.requires.size (let n = made.0 in omega (arith, n, few)) agree (sym made.0) c.whole.ensures made.2
