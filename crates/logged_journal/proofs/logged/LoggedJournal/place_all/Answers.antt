use Rattle.std.proofs.Common.{◌≡◌, ◌∙◌, ◌*◌, ◌<◌, ℕ, List, Option, false, length, sym, ap, subst, arith}
use Rattle.std.specs.Prelude.{IfSome}
use Rattle.disk_model.specs.declared.area.Area.TheVariants.{Pages}
use Rattle.disk_model.proofs.Moments.{and_then, keeps_still}
use Rattle.opened_images.specs.Marks.{StandsInPlace}
use Rattle.page_marks.specs.declared.marks.PageMark.{PageMark}
use Rattle.core_store.specs.JournalView.{JournalView, cells_of}
use Rattle.logged_journal.specs.View.{LoggedView, mark_at}
use Rattle.logged_journal.specs.Records.{MayHaveAll}
use Rattle.logged_journal.specs.Checkpoints.{AreThere}
use Rattle.logged_journal.proofs.CommitDone.{on-ok}
use Rattle.logged_journal.proofs.Upkeeps.{have-same}
use Rattle.logged_journal.proofs.CheckpointPlaces.{all-stand}
use Rattle.logged_journal.proofs.logged.LoggedJournal.place_all.Goals as goal

pub returns-then-is_err-2-clause-moments : goal.returns-then-is_err-2-clause-moments
returns-then-is_err-2-clause-moments g c =
    let v = c.args.self.now in
    let w = c.write_changed.new.self in
    let only = on-ok c.write_changed.result _ (sym c.is_err.ensures.value ∙ c.if-is_err.false) c.write_changed.ensures.done in
    and_then (MayHaveAll v) (λ image has. has)
    (λ image has. have-same v w image (ap (λ (u : LoggedView g.row.D.Denot). u.journal) only) (ap (λ (u : LoggedView g.row.D.Denot). u.durable) only) (ap (λ (u : LoggedView g.row.D.Denot). u.failed) only) has)
    c.write_changed.ensures.moments c.sync_pages.ensures.moments

pub returns-clause-moments : goal.returns-clause-moments
returns-clause-moments g c =
    let v = c.args.self.now in
    let w = c.write_changed.new.self in
    let only = on-ok c.write_changed.result _ (sym c.is_err.ensures.value ∙ c.if-is_err.false) c.write_changed.ensures.done in
    and_then (MayHaveAll v) (λ image has. has)
    (λ image has. have-same v w image (ap (λ (u : LoggedView g.row.D.Denot). u.journal) only) (ap (λ (u : LoggedView g.row.D.Denot). u.durable) only) (ap (λ (u : LoggedView g.row.D.Denot). u.failed) only) has)
    c.write_changed.ensures.moments c.sync_pages.ensures.moments

pub returns-clause-stand : goal.returns-clause-stand
returns-clause-stand g c =
    let v = c.args.self.now in
    let w = c.write_changed.new.self in
    let now = c.sync_pages.new.self in
    let frames = c.args.frames.now in
    let wrote = on-ok c.write_changed.result _ (sym c.is_err.ensures.value ∙ c.if-is_err.false) c.write_changed.ensures.done in
    let synced = on-ok c.sync_pages.result _ (sym c.is_err-2.ensures.value ∙ c.if-is_err-2.false) c.sync_pages.ensures.done in
    let settled = on-ok c.sync_pages.result _ (sym c.is_err-2.ensures.value ∙ c.if-is_err-2.false) c.sync_pages.ensures.settled in
    let read = on-ok c.write_changed.result _ (sym c.is_err.ensures.value ∙ c.if-is_err.false) c.write_changed.ensures.there in
    let keeps = c.sync_pages.ensures.keeps in
    let there = subst (λ (o : Option (List ℕ)). IfSome o (AreThere frames v.marks (length v.marks))) (sym (keeps Pages).same) read in
    let marks : now.marks ≡ v.marks = ap (λ (u : LoggedView g.row.D.Denot). u.marks) synced ∙ ap (λ (u : LoggedView g.row.D.Denot). u.marks) wrote in
    let journal : now.journal ≡ v.journal = ap (λ (u : LoggedView g.row.D.Denot). u.journal) synced ∙ ap (λ (u : LoggedView g.row.D.Denot). u.journal) wrote in
    let others : (page : ℕ) → 8 * page < v.journal.history.ids → (mark_at v.marks page).changed ≡ false → (area : List ℕ) → g.D.Disk.may_leave now.disk Pages area → StandsInPlace g.row.SLOTS area (cells_of v.journal) page =
    subst (λ (j : JournalView). (page : ℕ) → 8 * page < j.history.ids → (mark_at v.marks page).changed ≡ false → (area : List ℕ) → g.D.Disk.may_leave now.disk Pages area → StandsInPlace g.row.SLOTS area (cells_of j) page) journal
    (subst (λ (ms : List PageMark). (page : ℕ) → 8 * page < now.journal.history.ids → (mark_at ms page).changed ≡ false → (area : List ℕ) → g.D.Disk.may_leave now.disk Pages area → StandsInPlace g.row.SLOTS area (cells_of now.journal) page) marks c.know_unchanged.ensures.unchanged) in
    let many = c.know_few.ensures.many in
    let pages = c.requires.pages in
    all-stand g.D.Disk.content g.D.Disk.may_leave g.row.SLOTS v.marks frames (cells_of v.journal) now.disk c.know_few.ensures.size many c.requires.agree c.requires.typed there settled
    (λ page low. others page (omega (arith, low, many, pages)))

pub returns-clause-others : goal.returns-clause-others
returns-clause-others g c =
    keeps_still c.write_changed.ensures.others c.sync_pages.ensures.keeps

pub returns-then-is_err-2-clause-others : goal.returns-then-is_err-2-clause-others
returns-then-is_err-2-clause-others g c = keeps_still c.write_changed.ensures.others c.sync_pages.ensures.keeps
