use Rattle.std.proofs.Common.{◌≡◌, length, subst, sym}
use Rattle.logged_journal.specs.View.{LoggedView}
use Rattle.shared_store.specs.Chronicles.Inside.{IsChronicle}
use Rattle.shared_store.specs.Chronicles.View.{notes_of}
use Rattle.shared_store.proofs.Chronicles.Goings.{opened-chronicle}
use Rattle.shared_store.proofs.chronicle.JournalChronicle.new.Goals as goal

pub invariant_of-result : goal.invariant_of-result
invariant_of-result g c =
    let is = sym c.in-Ok.ensures.ok in
    record {
      size = c.requires.size;
      kept = subst (λ (v : LoggedView g.row.D.Denot). IsChronicle g.row.SLOTS v) is (opened-chronicle g.row.SLOTS c.args.logged c.args.frames.now c.requires.running c.requires.pages c.requires.agree);
      counted = subst (λ (v : LoggedView g.row.D.Denot). c.count_notes-count.result ≡ length (notes_of v)) is c.count_notes-count.ensures;
    }
