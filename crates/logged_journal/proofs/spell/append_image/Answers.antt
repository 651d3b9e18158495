use Rattle.std.proofs.Common.{◌≡◌, ◌++◌, List, ℕ, length, ap, ◌∙◌, arith, Ok, Err}
use Rattle.std.specs.Prelude.{OnOk, IsOk, Result}
use Rattle.log_record.specs.declared.record.Record.TheVariants.{Image}
use Rattle.log_record.specs.Spelling.{record_bytes}
use Rattle.gate_log.specs.State.{appended}
use Rattle.logged_journal.specs.View.{image_bytes}
use Rattle.logged_journal.proofs.RecordLengths.{image-long, image-size}
use Rattle.logged_journal.proofs.spell.append_image.Given.{Over}
use Rattle.logged_journal.proofs.spell.append_image.Goals as goal
use Rattle.logged_journal.proofs.spell.append_image.Goals.{After-deref}

on-ok : {T E : Type 0} {P : Type 0} (r : Result T E) → IsOk r → OnOk r P → P
on-ok (Ok x) is h = h
on-ok (Err e) is h = absurd (cc (is))

-- how long the record of the image is
size : (g : Over) (c : After-deref g) → length (record_bytes (Image c.args.page c.args.frame.now.page)) ≡ image_bytes g.row.SLOTS
size g c = image-size c.args.page c.args.frame.now.page c.requires.count c.requires.spelled c.know_page.ensures

-- what was spelled is the image
spelled : (g : Over) (c : After-deref g) → c.deref.result.now ≡ record_bytes (Image c.args.page c.args.frame.now.page)
spelled g c =
    let image : List ℕ = record_bytes (Image c.args.page c.args.frame.now.page) in
    let long = size g c in
    let empty = ap (λ (l : List ℕ). length l) c.clear.ensures.items in
    let capacity = c.clear.ensures.capacity in
    let len = c.clear.ensures.len in
    let asked = c.requires.spelling in
    let bytes = on-ok c.write.result (c.write.ensures.succeeds (omega (arith, long, empty, capacity, len, asked))) c.write.ensures.ok ∙ ap (λ (l : List ℕ). l ++ image) c.clear.ensures.items in
    c.deref.ensures.value ∙ bytes

pub append_reserved-requires-clause-some : goal.append_reserved-requires-clause-some
append_reserved-requires-clause-some g c =
    let d = (goal.at.append_reserved-requires-clause-some g c).After-deref in
    let long = ap (λ (l : List ℕ). length l) (spelled g d) ∙ size g d in
    let more = image-long g.row.SLOTS c.requires.count in
    omega (arith, long, more)

pub append_reserved-requires-clause-room : goal.append_reserved-requires-clause-room
append_reserved-requires-clause-room g c =
    let d = (goal.at.append_reserved-requires-clause-room g c).After-deref in
    let long = ap (λ (l : List ℕ). length l) (spelled g d) ∙ size g d in
    let room = c.requires.room in
    omega (arith, long, room)

pub append_reserved-requires-clause-bounded : goal.append_reserved-requires-clause-bounded
append_reserved-requires-clause-bounded g c =
    let d = (goal.at.append_reserved-requires-clause-bounded g c).After-deref in
    let long = ap (λ (l : List ℕ). length l) (spelled g d) ∙ size g d in
    let bounded = c.requires.bounded in
    omega (arith, long, bounded)

pub returns-clause-log : goal.returns-clause-log
returns-clause-log g c =
    let bytes = spelled g (goal.at.returns-clause-log g c).After-deref in
    c.append_reserved.ensures.log ∙ ap (λ (l : List ℕ). appended c.args.log.now l) bytes

pub returns-clause-marks : goal.returns-clause-marks
returns-clause-marks g c = c.image.ensures g.row.SLOTS c.args.frame.now.page

pub returns-clause-long : goal.returns-clause-long
returns-clause-long g c = image-size c.args.page c.args.frame.now.page c.requires.count c.requires.spelled c.know_page.ensures
