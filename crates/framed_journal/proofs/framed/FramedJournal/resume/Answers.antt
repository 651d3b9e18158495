use Rattle.std.proofs.Common.{rules, ◌≡◌, ◌≤◌, ◌*◌, List, length, sym, ap, ◌∙◌, subst}
use Rattle.plain_model.specs.History.{History}
use Rattle.core_store.specs.declared.frame.Frame.{Frame}
use Rattle.core_store.specs.Frames.{AllAgree}
use Rattle.core_store.specs.JournalView.{cells_of}
use Rattle.framed_journal.proofs.HoldLaws.{slots-few}
use Rattle.framed_journal.proofs.framed.FramedJournal.resume.Goals as goal

pub invariant_of-result : goal.invariant_of-result
invariant_of-result g c =
    let made = c.in_ok-logged.ensures in
    let same : c.as_slice.result.now ≡ c.args.frames.items = c.as_slice.ensures.value in
    c.held_between-frames.ensures c.in_ok-logged.logged.journal
    (record {
      pages = ap (λ (l : List (Frame g.row.SLOTS)). 8 * length l) (sym same) ∙ sym (ap (λ (h : History). h.ids) made.history);
      some = c.requires.few.0;
      few = c.requires.few.1;
      agree = subst (λ (l : List (Frame g.row.SLOTS)). AllAgree (cells_of c.in_ok-logged.logged.journal) l) same made.agree;
      size = (ap (λ (h : History). h.slots) made.history, c.requires.size);
    })

pub resume-requires-after_bounds : goal.resume-requires-after_bounds
resume-requires-after_bounds g c κs within =
    let small : g.row.SLOTS ≤ 14 = slots-few g.row.SLOTS c.requires.size in
    rw c.as_slice.ensures.value
    (search rules, (search rules, (c.requires.size, (c.requires.few, (c.requires.pages, (c.requires.consistent, (c.requires.limits, (c.requires.standing, (c.requires.marked, (c.requires.begun, c.requires.long))))))))))
