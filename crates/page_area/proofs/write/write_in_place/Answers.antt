use Rattle.disk_model.specs.declared.area.Area.TheVariants.{Pages}
use Rattle.std.proofs.Common.{ℕ, List}
use Rattle.disk_model.specs.Told.{EachImage}
use Rattle.page_area.specs.InPlace.{HasCopy}
use Rattle.page_area.proofs.InPlaceLaws.{page_written-on_ok, one_page, of_one_page}
use Rattle.page_area.proofs.write.write_in_place.Goals as goal

pub returns-clause-there : goal.returns-clause-there
returns-clause-there g c =
    page_written-on_ok c.args.page c.args.frame.now c.encode.new.into (g.D.Disk.content c.args.disk.now Pages) (g.D.Disk.content c.write_pages.new.disk Pages) c.write_pages.result
    c.requires.count c.requires.spelled c.encode.ensures.typed c.encode.ensures.spelling c.write_pages.ensures.bytes c.requires.reaches

pub returns-clause-moments : goal.returns-clause-moments
returns-clause-moments g c =
    c.write_pages.ensures.moments 1 (one_page c.args.page c.args.frame.now c.encode.new.into c.requires.count c.requires.spelled c.encode.ensures.typed c.encode.ensures.spelling)

pub write_pages-requires-clause-copied : goal.write_pages-requires-clause-copied
write_pages-requires-clause-copied g c κs within = λ k low.
    of_one_page c.args.page k c.args.frame.now c.encode.new.into (λ (p : ℕ) (b : List ℕ). EachImage g.D.Disk.may_leave c.args.disk.now (HasCopy g.row.SLOTS p b)) c.requires.count c.requires.spelled c.encode.ensures.typed c.encode.ensures.spelling low c.requires.copied
