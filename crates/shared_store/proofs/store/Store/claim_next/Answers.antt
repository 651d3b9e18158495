use Rattle.std.proofs.Common.{◌≡◌, ℕ, ◌*◌, ◌<◌, length, ap, subst, ◌∙◌, arith}
use Rattle.cell_page.specs.Stored.{HoldsPage}
use Rattle.core_store.specs.JournalView.{cells_of}
use Rattle.latch_table.specs.Views.{frame_of}
use Rattle.shared_store.specs.Upkeep.{held_from}
use Rattle.shared_store.proofs.Pairs.{pairs-free, told-frame}
use Rattle.shared_store.proofs.Rows.{behind-free, agree-more}
use Rattle.shared_store.proofs.store.Store.claim_next.Goals as goal

pub claim_page-requires-clause-free : goal.claim_page-requires-clause-free
claim_page-requires-clause-free g c =
    let fs = c.args.frames.now.items in
    let at : c.len.result ≡ length fs = c.len.ensures ∙ c.args.frames.now.ok.0 in
    ap (λ ps. frame_of ps c.len.result) c.requires.pages ∙ pairs-free (held_from 0 fs) c.len.result (behind-free 0 c.len.result fs (omega arith))

pub returns-clause-agree : goal.returns-clause-agree
returns-clause-agree g c =
    let fs = c.args.frames.now.items in
    let j = c.args.journal.now in
    let at : c.len.result ≡ length fs = c.len.ensures ∙ c.args.frames.now.ok.0 in
    let there : 8 * c.len.result < j.journal.history.ids = omega (arith, c.requires.next, c.requires.journal.ids) in
    let told = told-frame c.args.self.now.pages c.args.hold.now.view j c.len.result c.in_ok-frame.frame c.requires.journal c.in_ok-frame.ensures.ok.1 in
    let holds = (c.know_frames.ensures.page c.len.result c.in_ok-frame.frame there).1 told in
    agree-more (cells_of j.journal) fs c.push-pushed.new.self.items c.in_ok-frame.frame c.requires.agree (subst (λ (n : ℕ). HoldsPage (cells_of j.journal) n c.in_ok-frame.frame.page) at holds) c.in-Ok.ensures.items
