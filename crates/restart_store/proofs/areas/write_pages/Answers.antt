use Rattle.std.proofs.Common.{◌≡◌, inl, inr, rules, ℕ, ◌<◌, ◌≤◌, ◌*◌, length, arith}
use Rattle.cell_page.specs.Format.{IsSlotCount, page_size}
use Rattle.disk_model.specs.declared.area.Area.TheVariants.{Pages}
use Rattle.restart_store.specs.Fresh.{pages_of}
use Rattle.restart_store.proofs.PageBytes.{so_long}
use Rattle.restart_store.proofs.Written.{first_bytes, one_written}
use Rattle.restart_store.proofs.areas.write_pages.Goals as goal

-- a store has at most fourteen slots
at_most : (slots : ℕ) → IsSlotCount slots → slots ≤ 14
at_most slots (inl six) = omega (arith, six)
at_most slots (inr fourteen) = omega (arith, fourteen)

-- below this number
below : (n m k : ℕ) → n < m → m ≡ k → n < k
below n m k low is = omega (arith, low, is)

pub write_page-requires : goal.write_page-requires
write_page-requires g c =
    let few : g.row.SLOTS ≤ 14 = at_most g.row.SLOTS c.requires.count in
    let place = so_long (page_size g.row.SLOTS * c.loop-number.number) (first_bytes (pages_of c.args.pages) c.loop-number.number)
    (g.D.Disk.content c.args.disk.now Pages) (g.D.Disk.content c.loop-number.disk Pages) c.loop-number.invariant.long c.loop-number.invariant.so_far in
    (search rules, (search rules, (c.requires.count, (few, (c.page_at.ensures.rules, place)))))

pub loop-number-preserved : goal.loop-number-preserved
loop-number-preserved g c =
    one_written (pages_of c.args.pages) c.page_at.result c.loop-number.number c.requires.count c.loop-number.invariant (below c.loop-number.number c.count-number-end.result (length (pages_of c.args.pages)) c.loop-number-test.true c.count-number-end.ensures.count) c.page_at.ensures.page c.page_at.ensures.rules c.page_at.ensures.typed
    c.in_ok-write_page.ensures.bytes c.write_page.ensures.keeps c.write_page.ensures.time c.in_ok-write_page.ensures.cause.kept
