use Rattle.std.proofs.Common.{◌≡◌, ◌<◌, List, set, length, refl, sym, ap, subst, ◌∙◌, arith}
use Rattle.std.specs.List.{AllByRecursion}
use Rattle.std.proofs.lemmas.List.{length-set}
use Rattle.core_store.specs.declared.frame.Frame.{Frame}
use Rattle.core_store.specs.declared.three.HeldFrame.{HeldFrame}
use Rattle.core_store.proofs.PageLaws.{each-taken}
use Rattle.framed_journal.specs.Holding.{PutsBack, FollowsChange}
use Rattle.framed_journal.proofs.PutLaws.{PutsBack-none, PutsBack-more, FollowsChange-all, written}
use Rattle.framed_journal.proofs.holding.put_few_back.Goals as goal

pub frames-init : goal.frames-init
frames-init g c = record {
  follows = PutsBack-none c.args.frames.now.items c.args.held.now;
  within = c.requires.within;
  count = refl;
}

pub frames-preserved : goal.frames-preserved
frames-preserved g c =
    let old = c.args.frames.now.items in
    let frames = c.frames.frames.items in
    let left = c.put_back.new.self in
    let last = c.in-Some.ensures.last in
    let h : HeldFrame g.row.SLOTS = record { page = c.in-Some.field-0; frame = last.0 } in
    let both = each-taken (λ (h : HeldFrame g.row.SLOTS). h.page < length frames) left h (rw last.1 at c.frames.invariant.within) in
    let put = last.2 ∙ ap (λ (fs : List (Frame g.row.SLOTS)). set fs h.page h.frame) c.deref_mut.ensures.value in
    let now = written frames c.put_back.new.frames c.frames.frames.len c.frames.frames.ok.0 (ap length put ∙ length-set frames h.page h.frame) ∙ put in
    subst
    (λ (fs : List (Frame g.row.SLOTS)). record { follows : PutsBack old fs c.args.held.now left; within : AllByRecursion (λ h. h.page < length fs) left; count : length fs ≡ length old })
    (sym now)
    (record {
      follows = PutsBack-more old frames c.args.held.now left h both.1 (rw last.1 at c.frames.invariant.follows);
      within = rw (length-set frames h.page h.frame) both.0;
      count = length-set frames h.page h.frame ∙ c.frames.invariant.count;
    })

pub returns-clause-follows : goal.returns-clause-follows
returns-clause-follows g c =
    let old = c.args.frames.now.items in
    let frames = c.frames.frames.items in
    let none = c.in_default.ensures.none in
    let same = none.2 ∙ c.deref_mut.ensures.value in
    let now = written frames c.put_back.new.frames c.frames.frames.len c.frames.frames.ok.0 (ap length same) ∙ same in
    subst (λ (fs : List (Frame g.row.SLOTS)). FollowsChange old fs c.args.held.now) (sym now) (FollowsChange-all old frames c.args.held.now c.frames.held none.0 c.frames.invariant.follows)
