use Rattle.std.proofs.Common.{◌≡◌, ◌≤◌, true, false, length, map, ⊎_elim, rules, arith}
use Rattle.cell_page.specs.Stored.{cell_of}
use Rattle.auditor.specs.Recount.{live_in, zero_in, ids_of}
use Rattle.par_audit.proofs.PieceLaws.{both}
use Rattle.par_audit.proofs.TableLaws.{counted-of, small-of}
use Rattle.par_audit.proofs.recounting.report_by_pieces.Goals as goal

pub report_on-requires : goal.report_on-requires
report_on-requires g c =
    let small : g.row.SLOTS ≤ 14 = ⊎_elim (λ six. omega arith) (λ fourteen. omega arith) c.requires.size in
    let tables = c.in_ok-tables.ensures in
    let cells = c.args.cells.now in
    let few : length cells ≤ 8193 = (let f = c.requires.few in let i = c.requires.ids in omega (arith, f, i)) in
    let zeros = counted-of cells false _ (tables false) in
    let ones = counted-of cells true _ (tables true) in
    let bounds = small-of cells c.in_ok-tables.tables few tables in
    (search rules, (search rules, (c.requires.size, (rw (c.as_slice.ensures.value) zeros, (rw (c.as_slice-2.ensures.value) ones, (rw (c.as_slice.ensures.value, c.as_slice-2.ensures.value) bounds, (c.requires.few, (c.requires.ids, c.requires.pages))))))))

pub returns : goal.returns
returns g c =
    let stored = map cell_of c.args.cells.now in
    let ids = ids_of (length c.args.frames.now) in
    both c.report_on.result _ _ _
    (both c.report_on.result _ _ (λ r. (r.live ≡ live_in stored) × (r.zero ≡ zero_in stored ids)) c.report_on.ensures.live c.report_on.ensures.zero (λ r live zero. (live, zero)))
    c.report_on.ensures.differences (λ r counts differences. record { live = counts.0; zero = counts.1; differences = differences })
