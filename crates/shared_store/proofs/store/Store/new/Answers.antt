use Rattle.std.proofs.Common.{◌≡◌, ◌*◌, ◌≤◌, List, [], ◌∷◌, ◌++◌, length, false, Option, None, append-nil, sym, ap, subst, ◌∙◌, arith, rules}
use Rattle.std.specs.Option.{option_map_or, option_and_then}
use Rattle.logged_journal.specs.declared.failed.FailedCall.{FailedCall}
use Rattle.core_store.specs.declared.frame.Frame.{Frame}
use Rattle.core_store.specs.declared.note.Note.{Note}
use Rattle.core_store.specs.JournalView.{cells_of}
use Rattle.core_store.specs.Frames.{AllAgree}
use Rattle.logged_journal.specs.View.{LoggedView, history_of}
use Rattle.shared_store.specs.Chronicles.View.{origin_of, notes_of, failed_note, frame_after}
use Rattle.std.proofs.lemmas.List.{get_or-replicate}
use Rattle.latch_table.specs.Views.{truth_of}
use Rattle.framed_journal.proofs.HoldLaws.{slots-few}
use Rattle.disk_model.specs.Told.{EachImage}
use Rattle.logged_journal.specs.Opens.{OpensAfter}
use Rattle.shared_store.proofs.Since.{since-now}
use Rattle.shared_store.proofs.store.Store.new.Goals as goal

none-noted : {D : Type 0} (v : LoggedView D) → v.failed ≡ None → v.journal.notes ≡ [] → notes_of v ≡ []
none-noted v running none =
    ap (λ (f : Option FailedCall). v.journal.notes ++ option_map_or (λ client. failed_note v.journal.notes client ∷ []) (option_and_then (λ x. x.commit) f) []) running
    ∙ append-nil v.journal.notes
    ∙ none

pub new-boxed-requires-after_bounds : goal.new-boxed-requires-after_bounds
new-boxed-requires-after_bounds g c κs within =
    let small : g.row.SLOTS ≤ 14 = slots-few g.row.SLOTS c.requires.size in
    let value = c.as_slice.ensures.value in
    (search rules, (search rules, (search rules, (c.requires.size, (c.requires.running, (ap (λ (fs : List (Frame g.row.SLOTS)). 8 * length fs) value ∙ c.requires.pages, subst (λ (fs : List (Frame g.row.SLOTS)). AllAgree (cells_of c.args.logged.journal) fs) (sym value) c.requires.agree))))))

pub new-requires-clause-agree : goal.new-requires-clause-agree
new-requires-clause-agree g c k f at =
    let is = c.in-Ok.ensures.ok in
    let few : 8 * length c.args.frames.items ≤ c.in-Ok.journal.journal.history.ids = let e = ap (λ (v : LoggedView g.row.D.Denot). v.journal.history.ids) is in let p = c.requires.pages in omega arith in
    let agree : AllAgree (cells_of c.in-Ok.journal.journal) c.args.frames.items = subst (λ (v : LoggedView g.row.D.Denot). AllAgree (cells_of v.journal) c.args.frames.items) (sym is) c.requires.agree in
    (c.know_frames.ensures.all c.args.frames.items few).0 agree k f at ∙ ap (λ (ns : List Note). frame_after g.row.SLOTS (origin_of c.in-Ok.journal) ns k) (none-noted c.in-Ok.journal (ap (λ (v : LoggedView g.row.D.Denot). v.failed) is ∙ c.requires.running) (ap (λ (v : LoggedView g.row.D.Denot). v.journal.notes) is ∙ c.requires.empty))

pub invariant_of-pass : goal.invariant_of-pass
invariant_of-pass g c =
    let view = c.in-Ok-new.ensures.ok.2 in
    let table = c.in-Ok-new.ensures.ok.1 in
    let is = c.in-Ok.ensures.ok in
    record {
      none = (ap (λ v. v.hands.pages) view, ap (λ v. v.hands.log) view);
      main_is = sym (ap (λ v. v.station.main) view);
      number_is = sym (ap (λ v. v.station.name) view);
      txn_is = sym (ap (λ v. v.knowledge.truth) view);
      seen_is = sym (ap (λ v. v.knowledge.seen) view);
      marked = rw c.none.ensures (record { disk = λ p. absurd (omega arith); trace = λ p. absurd (omega arith); log = λ p. absurd (omega arith) });
      left_is = λ name low main. get_or-replicate 256 name false false low ∙ sym (ap (λ v. truth_of v.station.truths name) view);
      size = c.requires.size;
      of_store = (
        origin_of c.in-Ok.journal,
        ap (λ v. v.knowledge.fixed) view,
        (let e = ap (λ (v : LoggedView g.row.D.Denot). v.journal.history.ids) is in
            let slots = ap (λ z. z.slots) table in
            let sized = c.in-Ok-new.ensures.sized in
            let pages = c.requires.pages in
            let many = c.in-Ok-new.ensures.ok.0 in
            omega arith),
      );
    }

pub new-requires-clause-on : goal.new-requires-clause-on
new-requires-clause-on g c =
    since-now g.D.Disk.moment g.D.Disk.left_since g.row.SLOTS g.D.Disk.may_leave c.in-Ok.journal g.D.Disk.only_now
    (subst (λ (v : LoggedView g.row.D.Denot). EachImage g.D.Disk.may_leave v.disk (OpensAfter g.row.SLOTS (history_of v))) c.logged.ensures.logged c.durable.ensures.opens)
