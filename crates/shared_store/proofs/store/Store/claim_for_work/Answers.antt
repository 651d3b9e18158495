use Rattle.std.proofs.Common.{◌≡◌, ◌≤◌, ℕ, Some, refl, sym, ap, subst, ◌∙◌, rules}
use Rattle.std.specs.List.{Contains}
use Rattle.core_store.specs.declared.three.HeldFrame.{HeldFrame}
use Rattle.core_store.specs.Frames.{pages_held, IsNext}
use Rattle.core_store.specs.JournalView.{JournalView, cells_of}
use Rattle.core_store.specs.Work.{pages_of_work}
use Rattle.core_store.specs.declared.want.Want.TheVariants.{Page}
use Rattle.core_store.specs.Logged.{want_of}
use Rattle.core_store.proofs.MapLaws.{if_err}
use Rattle.latch_table.specs.declared.hold.Held.{Held}
use Rattle.latch_table.specs.Holds.{IsAnother}
use Rattle.shared_store.specs.Acts.{Takes}
use Rattle.core_store.proofs.WantLaws.{wanted-put}
use Rattle.framed_journal.proofs.HoldLaws.{slots-few, less_room, wanted-ready}
use Rattle.shared_store.specs.Holding.{pairs_of}
use Rattle.shared_store.proofs.Pairs.{has-with, claimed-more, claim-met}
use Rattle.shared_store.proofs.Wanted.{want-needed}
use Rattle.shared_store.proofs.store.Store.claim_for_work.Goals as goal

pub claim_one-requires-after_bounds : goal.claim_one-requires-after_bounds
claim_one-requires-after_bounds g c κs within =
    let small : g.row.SLOTS ≤ 14 = slots-few g.row.SLOTS c.self.invariant.size in
    let same : c.journal.result.now ≡ c.args.journal.now.journal = c.journal.ensures.journal ∙ ap (λ v. v.journal) c.logged.ensures.logged in
    let next : IsNext c.args.journal.now.journal.history.ids c.pages.held c.in-Page.page = subst (λ (j : JournalView). IsNext j.history.ids c.pages.held c.in-Page.page) same (c.in-Page.ensures.next c.in-Page.page refl) in
    let i = c.pages.invariant in
    (search rules, (search rules, (search rules, (search rules, (search rules, (i.of, (has-with c.args.self.now.pages c.args.hold.now.view c.pages.hold.view (pairs_of c.pages.held) c.args.journal.now c.requires.journal i.pages, ((i.held, ap (λ v. v.hands.pages) i.pages.1), next))))))))

pub pages-smaller : goal.pages-smaller
pages-smaller g c =
    let next = c.in-Page.ensures.next c.in-Page.page refl in
    let ok = c.in_ok-claim_one.ensures.ok in
    let h : HeldFrame g.row.SLOTS = record { page = c.in-Page.page; frame = ok.0 } in
    less_room c.pages.held c.claim_one.new.held h next.room ok.1

pub pages-preserved : goal.pages-preserved
pages-preserved g c =
    let same : c.journal.result.now ≡ c.args.journal.now.journal = c.journal.ensures.journal ∙ ap (λ v. v.journal) c.logged.ensures.logged in
    let exact = subst (λ (j : JournalView). Page c.in-Page.page ≡ want_of (pages_of_work (cells_of j) c.args.work) (pages_held c.pages.held)) same c.in-Page.ensures.exact in
    let ok = c.in_ok-claim_one.ensures.ok in
    let h : HeldFrame g.row.SLOTS = record { page = c.in-Page.page; frame = ok.0 } in
    let needed = pages_of_work (cells_of c.args.journal.now.journal) c.args.work in
    record {
      of = c.in_ok-claim_one.ensures.of;
      once = c.in_ok-claim_one.ensures.once c.pages.invariant.once;
      held = c.in_ok-claim_one.ensures.held;
      pages = claimed-more c.args.hold.now.view c.pages.hold.view c.claim_one.new.hold.view c.pages.held c.claim_one.new.held c.in-Page.page ok.0 c.pages.invariant.pages ok.2 ok.1;
      needed = rw ok.1 (wanted-put needed c.pages.held c.in-Page.page (sym exact) h refl);
    }

pub returns : goal.returns
returns g c =
    let same : c.journal.result.now ≡ c.args.journal.now.journal = c.journal.ensures.journal ∙ ap (λ v. v.journal) c.logged.ensures.logged in
    let exact = subst (λ (j : JournalView). c.wants_for.result ≡ want_of (pages_of_work (cells_of j) c.args.work) (pages_held c.pages.held)) same c.wants_for.ensures.exact in
    let i = c.pages.invariant in
    let needed = pages_of_work (cells_of c.args.journal.now.journal) c.args.work in
    record {
      of = i.of;
      held = i.held;
      once = i.once;
      ready = wanted-ready c.wants_for.result (want_of needed (pages_held c.pages.held)) exact c.in_default.not-Page i.needed;
      needed = tt;
      ok = i.pages;
      met = tt;
    }

pub returns-in_err-claim_one-clause-needed : goal.returns-in_err-claim_one-clause-needed
returns-in_err-claim_one-clause-needed g c =
    let same : c.journal.result.now ≡ c.args.journal.now.journal = c.journal.ensures.journal ∙ ap (λ v. v.journal) c.logged.ensures.logged in
    let exact = subst (λ (j : JournalView). Page c.in-Page.page ≡ want_of (pages_of_work (cells_of j) c.args.work) (pages_held c.pages.held)) same c.in-Page.ensures.exact in
    let needed = pages_of_work (cells_of c.args.journal.now.journal) c.args.work in
    let P = λ (h : Held). Contains needed h.word in
    if_err c.from_residual.result _ P c.from_residual.ensures.1 (λ y k. subst P (sym k) (subst (λ (n : ℕ). Contains needed n) (sym c.in_err-claim_one.ensures.word) (want-needed needed (pages_held c.pages.held) c.in-Page.page (sym exact))))

pub returns-in_err-claim_one-clause-met : goal.returns-in_err-claim_one-clause-met
returns-in_err-claim_one-clause-met g c =
    let m = c.in_err-claim_one.ensures.met in
    let P = λ (h : Held). IsAnother c.args.hold.now.view h.seat × Takes c.args.hold.now.view c.claim_one.new.hold.view (pairs_of c.claim_one.new.held) (Some (h.word, h.seat)) in
    if_err c.from_residual.result _ P c.from_residual.ensures.1
    (λ y k. subst P (sym k) (claim-met c.args.hold.now.view c.pages.hold.view c.claim_one.new.hold.view c.pages.held c.claim_one.new.held c.in_err-claim_one.field-0.0.word c.in_err-claim_one.field-0.0.seat c.pages.invariant.pages m.0 m.1 m.2))
