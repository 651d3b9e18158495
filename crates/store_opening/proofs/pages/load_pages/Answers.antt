use Rattle.std.proofs.Common.{◌≡◌, ℕ, ◌+◌, ◌<◌, List, [], length, Option, Err, sym, ap, subst, ◌∙◌, arith}
use Rattle.std.specs.Prelude.{IfSome, slice_index_or}
use Rattle.disk_model.specs.declared.area.Area.TheVariants.{Pages}
use Rattle.cell_page.specs.Format.{IsPage}
use Rattle.store_opening.specs.declared.pages.PagesRefusal.TheVariants.{Damaged}
use Rattle.store_opening.specs.Loaded.{AreLoaded, IsDamagedAt, IsFirstDamaged}
use Rattle.store_opening.proofs.LookLaws.{and_look}
use Rattle.store_opening.proofs.WalkLaws.{some_both}
use Rattle.store_opening.proofs.PageLaws.{long_more, rules_more, more_loaded, first_damaged}
use Rattle.store_opening.proofs.pages.load_pages.Goals as goal

pub returns-in-Err-clause-looks : goal.returns-in-Err-clause-looks
returns-in-Err-clause-looks g c = and_look g.D.Disk.content c.pages.invariant.3 c.load_next.ensures.looks

pub returns-in-Err-clause-damaged : goal.returns-in-Err-clause-damaged
returns-in-Err-clause-damaged g c page at is =
    let refused : c.in-Err.refusal ≡ Damaged page at = cc is in
    let number = c.in-Err.ensures.number page at (ap Err refused) in
    let here = subst (λ (o : Option (List ℕ)). IfSome o (IsDamagedAt g.row.SLOTS c.pages.page at)) (c.pages.invariant.3.keeps Pages).same (c.in-Err.ensures.damaged page at (ap Err refused)) in
    subst (λ (p : ℕ). IfSome (g.D.Disk.content c.args.disk.now Pages) (IsFirstDamaged g.row.SLOTS c.args.images.now p at)) (sym number.0)
    (some_both (g.D.Disk.content c.args.disk.now Pages) (λ area. AreLoaded g.row.SLOTS c.args.images.now c.pages.page area c.pages.pages.items) (IsDamagedAt g.row.SLOTS c.pages.page at)
    (IsFirstDamaged g.row.SLOTS c.args.images.now c.pages.page at)
    (λ area loaded damaged. first_damaged g.row.SLOTS c.args.images.now c.pages.page at area c.pages.pages.items c.requires.count c.pages-test.true number.1 loaded damaged)
    c.pages.invariant.2 here)

pub pages-preserved : goal.pages-preserved
pages-preserved g c =
    let one = c.in_default.ensures.one in
    let long = c.pages.invariant.0 in (
      ap length one.1 ∙ long_more c.pages.pages.items one.0 c.pages.page long,
      subst (λ l. (p : ℕ) → p < c.pages.page + 1 → IsPage p (slice_index_or l p [])) (sym one.1) (rules_more c.pages.pages.items one.0 c.pages.page long c.pages.invariant.1 one.2),
      subst (λ l. IfSome (g.D.Disk.content c.args.disk.now Pages) (λ area. AreLoaded g.row.SLOTS c.args.images.now (c.pages.page + 1) area l)) (sym one.1)
          (more_loaded c.pages.pages.items one.0 c.pages.page long (g.D.Disk.content c.args.disk.now Pages) (g.D.Disk.content c.pages.disk Pages) c.args.images.now
          (c.pages.invariant.3.keeps Pages).same c.pages.invariant.2 one.3),
      and_look g.D.Disk.content c.pages.invariant.3 c.load_next.ensures.looks,
      c.in_default.ensures.cause.kept tt ∙ c.pages.invariant.4,
    )

pub returns-clause-loaded : goal.returns-clause-loaded
returns-clause-loaded g c =
    let all : c.pages.page ≡ length c.args.images.now = omega (arith, c.pages.auto.page-end, c.pages-test.false) in
    subst (λ (n : ℕ). IfSome (g.D.Disk.content c.args.disk.now Pages) (λ area. AreLoaded g.row.SLOTS c.args.images.now n area c.pages.pages.items)) all c.pages.invariant.2
