use Rattle.std.proofs.Common.{◌∙◌, List, ℕ, Option, sym, ap, subst}
use Rattle.std.specs.Prelude.{IfSome}
use Rattle.disk_model.specs.declared.area.Area.TheVariants.{Pages}
use Rattle.disk_model.proofs.Moments.{and_then, keeps_still}
use Rattle.cell_page.specs.Format.{Spells}
use Rattle.page_area.specs.Place.{bytes_of_page}
use Rattle.logged_journal.specs.View.{LoggedView}
use Rattle.logged_journal.specs.Records.{MayHaveAll}
use Rattle.logged_journal.proofs.CommitDone.{on-ok}
use Rattle.logged_journal.proofs.Upkeeps.{have-same}
use Rattle.logged_journal.proofs.logged.LoggedJournal.put_in_place.Goals as goal

pub returns-then-is_err-2-clause-moments : goal.returns-then-is_err-2-clause-moments
returns-then-is_err-2-clause-moments g c =
    let v = c.args.self.now in
    let w = c.write_page.new.self in
    let only = on-ok c.write_page.result _ (sym c.is_err.ensures.value ∙ c.if-is_err.false) c.write_page.ensures.done in
    and_then (MayHaveAll v) (λ image has. has)
    (λ image has. have-same v w image (ap (λ (u : LoggedView g.row.D.Denot). u.journal) only) (ap (λ (u : LoggedView g.row.D.Denot). u.durable) only) (ap (λ (u : LoggedView g.row.D.Denot). u.failed) only) has)
    c.write_page.ensures.moments c.sync_pages.ensures.moments

pub returns-clause-moments : goal.returns-clause-moments
returns-clause-moments g c =
    let v = c.args.self.now in
    let w = c.write_page.new.self in
    let only = on-ok c.write_page.result _ (sym c.is_err.ensures.value ∙ c.if-is_err.false) c.write_page.ensures.done in
    and_then (MayHaveAll v) (λ image has. has)
    (λ image has. have-same v w image (ap (λ (u : LoggedView g.row.D.Denot). u.journal) only) (ap (λ (u : LoggedView g.row.D.Denot). u.durable) only) (ap (λ (u : LoggedView g.row.D.Denot). u.failed) only) has)
    c.write_page.ensures.moments c.sync_pages.ensures.moments

-- what was synced is what was written
pub returns-clause-clean : goal.returns-clause-clean
returns-clause-clean g c =
    let there = on-ok c.write_page.result _ (sym c.is_err.ensures.value ∙ c.if-is_err.false) c.write_page.ensures.there in
    let settled = on-ok c.sync_pages.result _ (sym c.is_err-2.ensures.value ∙ c.if-is_err-2.false) c.sync_pages.ensures.settled in
    let keeps = c.sync_pages.ensures.keeps in
    λ image may. record {
      logged = c.know_image.ensures.image image may;
      in_place = subst (λ (o : Option (List ℕ)). IfSome o (λ area. Spells c.args.page c.args.frame.now.page (bytes_of_page g.row.SLOTS c.args.page area))) (sym (keeps Pages).same ∙ settled image.pages (may Pages)) there;
    }

pub returns-then-is_err-2-clause-others : goal.returns-then-is_err-2-clause-others
returns-then-is_err-2-clause-others g c = keeps_still c.write_page.ensures.others c.sync_pages.ensures.keeps

pub returns-clause-others : goal.returns-clause-others
returns-clause-others g c = keeps_still c.write_page.ensures.others c.sync_pages.ensures.keeps
