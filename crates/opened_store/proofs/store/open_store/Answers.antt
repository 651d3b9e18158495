use Rattle.std.proofs.Common.{ℕ, ◌*◌, ◌≤◌, sym, subst, length, ◌∙◌}
use Rattle.cell_page.specs.Format.{page_size}
use Rattle.disk_model.specs.declared.area.Area.TheVariants.{Pages}
use Rattle.opened_store.proofs.BegunLaws.{keeps-then}
use Rattle.opened_store.proofs.StoreLaws.{on-kept, all-longer, moments-longer, begun-left, long-left}
use Rattle.std.proofs.Common.{inr}
use Rattle.opened_store.proofs.GoOnLaws.{undo-kept}
use Rattle.opened_store.proofs.TouchLaws.{length-touches}
use Rattle.opened_store.proofs.store.open_store.Goals as goal

pub returns-in-Ok-lengthen-clause-on : goal.returns-in-Ok-lengthen-clause-on
returns-in-Ok-lengthen-clause-on g c =
    let b = c.in-Ok.ensures.begun in (
      b.0,
      on-kept g.D.Disk.content g.D.Disk.may_leave c.open_cells.new.disk c.lengthen.new.disk c.in-Ok.found.log b.0 c.lengthen.ensures.keeps b.1,
    )

pub returns-in-Ok-lengthen-clause-begun : goal.returns-in-Ok-lengthen-clause-begun
returns-in-Ok-lengthen-clause-begun g c =
    let b = c.in-Ok.ensures.begun in
    let skips = length c.in-Ok.found.replay.skips in (
      b.0,
      on-kept g.D.Disk.content g.D.Disk.may_leave c.open_cells.new.disk c.lengthen.new.disk c.in-Ok.found.log b.0 c.lengthen.ensures.keeps b.1,
      begun-left g.D.Disk.content g.D.Disk.may_leave c.in-Ok.found.marks g.D.Disk.told_together g.row.SLOTS skips c.pages_len.result c.args.disk.now c.open_cells.new.disk c.lengthen.new.disk b.0 c.in-Ok.found.replay.cells c.open_cells.ensures.pages
          c.in-Ok-lengthen.ensures.bytes (c.in-Ok-lengthen.ensures.settled c.in-Ok.ensures.settled) b.2,
    )

pub returns-in-Ok-lengthen-clause-long : goal.returns-in-Ok-lengthen-clause-long
returns-in-Ok-lengthen-clause-long g c =
    long-left g.D.Disk.content g.D.Disk.may_leave (page_size g.row.SLOTS * length c.in-Ok.found.replay.skips) c.pages_len.result c.lengthen.new.disk c.pages_len.ensures.len c.in-Ok-lengthen.ensures.longer
    (c.in-Ok-lengthen.ensures.settled c.in-Ok.ensures.settled)

pub returns-in-Ok-lengthen-clause-images : goal.returns-in-Ok-lengthen-clause-images
returns-in-Ok-lengthen-clause-images g c =
    λ image reads.
    let told = c.open_cells.ensures.pages.same ∙ reads Pages in
    all-longer g.D.Disk.content g.D.Disk.may_leave g.D.Disk.reads_may_stay g.row.SLOTS c.open_cells.new.disk c.lengthen.new.disk image.pages c.in-Ok.found.replay.cells told c.lengthen.ensures.keeps
    (c.lengthen.ensures.left image.pages c.in-Ok.ensures.settled told) (c.in-Ok.ensures.images image reads)

pub returns-in-Ok-lengthen-clause-moments : goal.returns-in-Ok-lengthen-clause-moments
returns-in-Ok-lengthen-clause-moments g c =
    λ image cells reads opened.
    let told = c.open_cells.ensures.pages.same ∙ reads Pages in
    moments-longer g.D.Disk.content g.D.Disk.may_leave g.D.Disk.reads_may_stay g.row.SLOTS c.args.disk.now c.open_cells.new.disk c.lengthen.new.disk image cells c.in-Ok.found.replay.cells c.requires.count told opened (c.in-Ok.ensures.opens image reads)
    (c.in-Ok.ensures.images image reads) (c.open_cells.ensures.moments image cells reads opened) (c.lengthen.ensures.moments image.pages c.in-Ok.ensures.settled told)

pub returns-in-Err-Disk-clause-moments : goal.returns-in-Err-Disk-clause-moments
returns-in-Err-Disk-clause-moments g c =
    λ image cells reads opened.
    let told = c.open_cells.ensures.pages.same ∙ reads Pages in
    moments-longer g.D.Disk.content g.D.Disk.may_leave g.D.Disk.reads_may_stay g.row.SLOTS c.args.disk.now c.open_cells.new.disk c.lengthen.new.disk image cells c.in-Ok.found.replay.cells c.requires.count told opened (c.in-Ok.ensures.opens image reads)
    (c.in-Ok.ensures.images image reads) (c.open_cells.ensures.moments image cells reads opened) (c.lengthen.ensures.moments image.pages c.in-Ok.ensures.settled told)

pub returns-clause-moments : goal.returns-clause-moments
returns-clause-moments g c =
    λ image cells reads opened.
    let told = c.open_cells.ensures.pages.same ∙ reads Pages in
    moments-longer g.D.Disk.content g.D.Disk.may_leave g.D.Disk.reads_may_stay g.row.SLOTS c.args.disk.now c.open_cells.new.disk c.lengthen.new.disk image cells c.in-Ok.found.replay.cells c.requires.count told opened (c.in-Ok.ensures.opens image reads)
    (c.in-Ok.ensures.images image reads) (c.open_cells.ensures.moments image cells reads opened) (c.lengthen.ensures.moments image.pages c.in-Ok.ensures.settled told)

pub returns-in-Ok-lengthen-clause-long_enough : goal.returns-in-Ok-lengthen-clause-long_enough
returns-in-Ok-lengthen-clause-long_enough g c =
    λ area told long.
    let same = c.open_cells.ensures.pages in
    let enough : c.pages_len.result ≤ length area = subst (λ (n : ℕ). n ≤ length area) (sym c.pages_len.ensures.len) long in
    keeps-then g.D.Disk.content g.D.Disk.may_leave c.args.disk.now c.open_cells.new.disk c.lengthen.new.disk Pages same (c.lengthen.ensures.long_enough area (same.same ∙ told) enough Pages)

pub returns-in-Ok-lengthen-clause-only_looks : goal.returns-in-Ok-lengthen-clause-only_looks
returns-in-Ok-lengthen-clause-only_looks g c = λ image reads none. absurd (none c.in-Ok.found.replay.cells (c.in-Ok.ensures.opens image reads))

pub returns-in-Err-Disk-clause-only_looks : goal.returns-in-Err-Disk-clause-only_looks
returns-in-Err-Disk-clause-only_looks g c = λ image reads none. absurd (none c.in-Ok.found.replay.cells (c.in-Ok.ensures.opens image reads))

pub returns-clause-only_looks : goal.returns-clause-only_looks
returns-clause-only_looks g c = λ image reads none. absurd (none c.in-Ok.found.replay.cells (c.in-Ok.ensures.opens image reads))

pub returns-in-Ok-lengthen-clause-undo : goal.returns-in-Ok-lengthen-clause-undo
returns-in-Ok-lengthen-clause-undo g c =
    undo-kept g.D.Disk.content g.D.Disk.may_leave g.row.SLOTS c.args.disk.now c.open_cells.new.disk c.lengthen.new.disk c.in-Ok.found.log c.in-Ok.ensures.begun.1.area c.lengthen.ensures.keeps c.in-Ok.ensures.undo

pub returns-in-Ok-lengthen-clause-touches : goal.returns-in-Ok-lengthen-clause-touches
returns-in-Ok-lengthen-clause-touches g c =
    length-touches g.D.Disk.content g.D.Disk.may_leave c.args.disk.now c.open_cells.new.disk c.lengthen.new.disk c.in-Ok.found.log.area c.in-Ok.ensures.touches c.open_cells.ensures.pages c.in-Ok.ensures.settled c.lengthen.ensures.keeps c.lengthen.ensures.left c.lengthen.ensures.moments

pub returns-in-Err-Disk-clause-touches_refused : goal.returns-in-Err-Disk-clause-touches_refused
returns-in-Err-Disk-clause-touches_refused g c =
    inr (
      c.in-Ok.found.log.area,
      length-touches g.D.Disk.content g.D.Disk.may_leave c.args.disk.now c.open_cells.new.disk c.lengthen.new.disk c.in-Ok.found.log.area c.in-Ok.ensures.touches c.open_cells.ensures.pages c.in-Ok.ensures.settled c.lengthen.ensures.keeps c.lengthen.ensures.left c.lengthen.ensures.moments,
    )

pub returns-clause-touches_refused : goal.returns-clause-touches_refused
returns-clause-touches_refused g c =
    inr (
      c.in-Ok.found.log.area,
      length-touches g.D.Disk.content g.D.Disk.may_leave c.args.disk.now c.open_cells.new.disk c.lengthen.new.disk c.in-Ok.found.log.area c.in-Ok.ensures.touches c.open_cells.ensures.pages c.in-Ok.ensures.settled c.lengthen.ensures.keeps c.lengthen.ensures.left c.lengthen.ensures.moments,
    )
