use Rattle.std.proofs.Common.{refl, sym, subst, ap, ◌∙◌, ◌≡◌, Some, List, ℕ}
use Rattle.core_store.specs.declared.three.HeldFrame.{HeldFrame}
use Rattle.core_store.specs.declared.want.Want.TheVariants.{Page}
use Rattle.core_store.specs.Frames.{pages_held}
use Rattle.core_store.specs.Limited.{pages_for_collector}
use Rattle.core_store.specs.Logged.{want_of}
use Rattle.core_store.proofs.WantLaws.{wanted-put}
use Rattle.framed_journal.proofs.HoldLaws.{AreHeldOf-put, AreHeldOf-none, first-wanted}
use Rattle.framed_journal.proofs.holding.hold_first.Goals as goal

pub returns-in-Some-clause-held : goal.returns-in-Some-clause-held
returns-in-Some-clause-held g c =
    let h : HeldFrame g.row.SLOTS = record { page = c.in-Some.page; frame = c.index-frames-page.result } in
    AreHeldOf-put c.args.journal.now c.args.frames.now c.args.held.now c.put.new.self h c.index-frames-page.result c.requires.frames (AreHeldOf-none c.args.journal.now c.args.held.now c.requires.none) c.in-Some.ensures.there c.index-frames-page.is c.put.ensures

pub returns-in-Some-clause-needed : goal.returns-in-Some-clause-needed
returns-in-Some-clause-needed g c =
    let h : HeldFrame g.row.SLOTS = record { page = c.in-Some.page; frame = c.index-frames-page.result } in
    let needed = pages_for_collector c.args.journal.now in
    let wants : want_of needed (pages_held c.args.held.now) ≡ Page c.in-Some.page =
    ap (λ (hs : List (HeldFrame g.row.SLOTS)). want_of needed (pages_held hs)) c.requires.none ∙ first-wanted needed c.in-Some.page (sym c.in-Some.ensures.first) in
    rw c.put.ensures (wanted-put needed c.args.held.now c.in-Some.page wants h refl)
