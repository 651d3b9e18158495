use Rattle.std.proofs.Common.{ap, ◌∙◌}
use Rattle.core_store.proofs.PageLaws.{AreOnce-put}
use Rattle.latch_table.specs.Views.{frame_of}
use Rattle.shared_store.proofs.Pairs.{pairs-free, held-put, told-frame}
use Rattle.shared_store.proofs.store.Store.claim_one.Goals as goal

pub claim_page-requires-clause-free : goal.claim_page-requires-clause-free
claim_page-requires-clause-free g c = ap (λ ps. frame_of ps c.args.page) c.requires.held.1 ∙ pairs-free c.args.held.now c.args.page c.requires.next.other

pub returns-clause-held : goal.returns-clause-held
returns-clause-held g c =
    let told = told-frame c.args.self.now.pages c.args.hold.now.view c.args.journal.now c.args.page c.in_ok-frame.frame c.requires.journal c.in_ok-frame.ensures.ok.1 in
    held-put c.args.journal.now.journal c.args.held.now c.put.new.self _ c.requires.held.0 c.requires.next.there ((c.know_frames.ensures.page c.args.page c.in_ok-frame.frame c.requires.next.there).1 told) c.put.ensures

pub returns-clause-once : goal.returns-clause-once
returns-clause-once g c once = rw c.put.ensures (AreOnce-put c.args.held.now (record { page = c.args.page; frame = c.in_ok-frame.frame }) once c.requires.next.other)
