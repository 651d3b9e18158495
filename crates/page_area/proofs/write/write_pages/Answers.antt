use Rattle.std.proofs.Common.{ℕ, ◌*◌, length, ap}
use Rattle.disk_model.specs.declared.area.Area.TheVariants.{Pages}
use Rattle.disk_model.proofs.Moments.{no_call, one_more}
use Rattle.page_area.specs.InPlace.{HasTornPages}
use Rattle.page_area.proofs.InPlaceLaws.{left_pages, images_of_pages, images_before, partly_written, all_written, pages_written}
use Rattle.page_area.proofs.write.write_pages.Goals as goal

pub returns-in_err-write_at-clause-torn : goal.returns-in_err-write_at-clause-torn
returns-in_err-write_at-clause-torn g c = λ count long.
    partly_written g.row.SLOTS c.args.first count (c.encoded_len.result * c.args.first) (length c.args.bytes.now) (g.D.Disk.content c.args.disk.now Pages) (g.D.Disk.content c.write_at.new.self Pages)
    (ap (λ (size : ℕ). size * c.args.first) c.encoded_len.ensures) long c.in_err-write_at.ensures.torn

pub returns-in_err-write_at-clause-left : goal.returns-in_err-write_at-clause-left
returns-in_err-write_at-clause-left g c = λ count long.
    left_pages g.D.Disk.content g.D.Disk.may_leave g.row.SLOTS c.args.first count (c.encoded_len.result * c.args.first) (length c.args.bytes.now) (ap (λ (size : ℕ). size * c.args.first) c.encoded_len.ensures) long
    c.args.disk.now c.write_at.new.self c.write_at.ensures.left

pub returns-in_err-write_at-clause-moments : goal.returns-in_err-write_at-clause-moments
returns-in_err-write_at-clause-moments g c = λ count long.
    one_more (no_call g.D.Disk.may_leave (HasTornPages g.D.Disk.may_leave c.args.disk.now g.row.SLOTS c.args.first count) g.D.Disk.only_now (images_before g.D.Disk.may_leave g.row.SLOTS c.args.first count c.args.disk.now)) c.write_at.ensures.time
    (images_of_pages g.D.Disk.content g.D.Disk.may_leave g.row.SLOTS c.args.first count (c.encoded_len.result * c.args.first) (length c.args.bytes.now) (ap (λ (size : ℕ). size * c.args.first) c.encoded_len.ensures) long
    c.args.disk.now c.write_at.new.self c.write_at.ensures.left c.write_at.ensures.keeps)

pub returns-clause-pages : goal.returns-clause-pages
returns-clause-pages g c =
    pages_written g.row.SLOTS c.args.first (c.encoded_len.result * c.args.first) c.args.bytes.now (g.D.Disk.content c.args.disk.now Pages) (g.D.Disk.content c.write_at.new.self Pages)
    (ap (λ (size : ℕ). size * c.args.first) c.encoded_len.ensures) c.in_ok-write_at.ensures.bytes c.requires.reaches

pub returns-clause-torn : goal.returns-clause-torn
returns-clause-torn g c = λ count long.
    all_written g.row.SLOTS c.args.first count (c.encoded_len.result * c.args.first) c.args.bytes.now (g.D.Disk.content c.args.disk.now Pages) (g.D.Disk.content c.write_at.new.self Pages)
    (ap (λ (size : ℕ). size * c.args.first) c.encoded_len.ensures) long c.in_ok-write_at.ensures.bytes

pub returns-clause-left : goal.returns-clause-left
returns-clause-left g c = λ count long.
    left_pages g.D.Disk.content g.D.Disk.may_leave g.row.SLOTS c.args.first count (c.encoded_len.result * c.args.first) (length c.args.bytes.now) (ap (λ (size : ℕ). size * c.args.first) c.encoded_len.ensures) long
    c.args.disk.now c.write_at.new.self c.write_at.ensures.left

pub returns-clause-moments : goal.returns-clause-moments
returns-clause-moments g c = λ count long.
    one_more (no_call g.D.Disk.may_leave (HasTornPages g.D.Disk.may_leave c.args.disk.now g.row.SLOTS c.args.first count) g.D.Disk.only_now (images_before g.D.Disk.may_leave g.row.SLOTS c.args.first count c.args.disk.now)) c.write_at.ensures.time
    (images_of_pages g.D.Disk.content g.D.Disk.may_leave g.row.SLOTS c.args.first count (c.encoded_len.result * c.args.first) (length c.args.bytes.now) (ap (λ (size : ℕ). size * c.args.first) c.encoded_len.ensures) long
    c.args.disk.now c.write_at.new.self c.write_at.ensures.left c.write_at.ensures.keeps)
