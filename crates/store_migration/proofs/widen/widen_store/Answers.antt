use Rattle.std.proofs.Common.{◌≡◌, ℕ, ◌/◌, ◌*◌, ◌+◌, List, length, inl, inr, ⊎_elim, refl, sym, ap, subst, ◌∙◌, arith}
use Rattle.cell_model.specs.Cells.{Cell}
use Rattle.opened_images.specs.LogRecords.{body_of, first_records}
use Rattle.store_migration.specs.ImagedLogs.{AreImagesOf}
use Rattle.store_migration.specs.Wider.{all_wider}
use Rattle.store_migration.specs.Migrated.{narrow}
use Rattle.store_migration.proofs.Turns.{IsMade, turned_opens, opened_and_turned}
use Rattle.store_migration.proofs.widen.widen_store.Goals as goal

pub returns-in-Ok-turn_with-clause-migrated : goal.returns-in-Ok-turn_with-clause-migrated
returns-in-Ok-turn_with-clause-migrated g c =
    let n : ℕ = length c.in-Ok.found.replay.skips in
    let pages : c.last_id.result / 8 ≡ n = omega (arith, c.last_id.ensures.ids) in
    let cells : List Cell = c.in-Ok.found.replay.cells in
    let made : IsMade n cells c.first_body.result c.deref.result.now = record {
      some = c.in-Ok.ensures.few.0;
      few = c.in-Ok.ensures.few.1;
      sound = c.in-Ok.ensures.rules;
      first_is = c.first_body.ensures ∙ ap (λ (k : ℕ). body_of (first_records 14 k)) pages;
      images = subst (AreImagesOf 14 n (all_wider 8 cells)) (sym c.deref.ensures.value) c.in-Ok-wide_images.ensures.images;
    } in
    λ image reads.
    narrow cells (c.in-Ok.ensures.rules.sized ∙ omega (arith, pages)) (c.in-Ok.ensures.opens image reads)
    (turned_opens g.D.Disk.may_leave c.turn_with.new.disk n cells c.first_body.result c.deref.result.now made c.in-Ok-turn_with.ensures.images)

pub returns-in-Ok-turn_with-clause-moments : goal.returns-in-Ok-turn_with-clause-moments
returns-in-Ok-turn_with-clause-moments g c =
    let n : ℕ = length c.in-Ok.found.replay.skips in
    let pages : c.last_id.result / 8 ≡ n = omega (arith, c.last_id.ensures.ids) in
    let found : List Cell = c.in-Ok.found.replay.cells in
    let made : IsMade n found c.first_body.result c.deref.result.now = record {
      some = c.in-Ok.ensures.few.0;
      few = c.in-Ok.ensures.few.1;
      sound = c.in-Ok.ensures.rules;
      first_is = c.first_body.ensures ∙ ap (λ (k : ℕ). body_of (first_records 14 k)) pages;
      images = subst (AreImagesOf 14 n (all_wider 8 found)) (sym c.deref.ensures.value) c.in-Ok-wide_images.ensures.images;
    } in
    let begun = c.in-Ok.ensures.begun in
    λ image cells reads opened.
    opened_and_turned g.D.Disk.may_leave c.args.disk.now c.open_store.new.disk c.turn_with.new.disk image cells found n begun.0 c.in-Ok.found.marks c.first_body.result c.deref.result.now opened
    (c.in-Ok.ensures.opens image reads) (c.open_store.ensures.moments image found reads (c.in-Ok.ensures.opens image reads)) made begun.2
    (c.turn_with.ensures.moments begun.0 begun.1 c.in-Ok.ensures.bounded) c.turn_with.ensures.in_place

pub returns-in-Ok-turn_with-clause-only_looks : goal.returns-in-Ok-turn_with-clause-only_looks
returns-in-Ok-turn_with-clause-only_looks g c = λ image reads none. absurd (none c.in-Ok.found.replay.cells (c.in-Ok.ensures.opens image reads))

pub returns-clause-moments : goal.returns-clause-moments
returns-clause-moments g c =
    let n : ℕ = length c.in-Ok.found.replay.skips in
    let pages : c.last_id.result / 8 ≡ n = omega (arith, c.last_id.ensures.ids) in
    let found : List Cell = c.in-Ok.found.replay.cells in
    let made : IsMade n found c.first_body.result c.deref.result.now = record {
      some = c.in-Ok.ensures.few.0;
      few = c.in-Ok.ensures.few.1;
      sound = c.in-Ok.ensures.rules;
      first_is = c.first_body.ensures ∙ ap (λ (k : ℕ). body_of (first_records 14 k)) pages;
      images = subst (AreImagesOf 14 n (all_wider 8 found)) (sym c.deref.ensures.value) c.in-Ok-wide_images.ensures.images;
    } in
    let begun = c.in-Ok.ensures.begun in
    λ image cells reads opened.
    opened_and_turned g.D.Disk.may_leave c.args.disk.now c.open_store.new.disk c.turn_with.new.disk image cells found n begun.0 c.in-Ok.found.marks c.first_body.result c.deref.result.now opened
    (c.in-Ok.ensures.opens image reads) (c.open_store.ensures.moments image found reads (c.in-Ok.ensures.opens image reads)) made begun.2
    (c.turn_with.ensures.moments begun.0 begun.1 c.in-Ok.ensures.bounded) c.turn_with.ensures.in_place

pub returns-clause-only_looks : goal.returns-clause-only_looks
returns-clause-only_looks g c = λ image reads none. absurd (none c.in-Ok.found.replay.cells (c.in-Ok.ensures.opens image reads))

pub returns-in-Err-wide_images-clause-moments : goal.returns-in-Err-wide_images-clause-moments
returns-in-Err-wide_images-clause-moments g c = λ image cells reads opened.
    let m = c.open_store.ensures.moments image cells reads opened in
    record {
      later = m.later;
      each = λ other left. ⊎_elim (λ was. inl was) (λ is. inr (inl is)) (m.each other left);
      earlier = λ t other low left. ⊎_elim (λ was. inl was) (λ is. inr (⊎_elim (λ was. inl was) (λ o. inr (inl o)) is)) (m.earlier t other low left);
    }
