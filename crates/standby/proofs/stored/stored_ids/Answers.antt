use Rattle.std.proofs.Common.{ℕ, ◌+◌, ◌<◌, List, ◌++◌, length, sym, ap, ◌∙◌, arith}
use Rattle.cell_model.specs.Cells.{cell_at}
use Rattle.standby.specs.Stored.{live_id}
use Rattle.standby.proofs.StoredLaws.{live_more}
use Rattle.standby.proofs.stored.stored_ids.Goals as goal

pub loop-i-preserved : goal.loop-i-preserved
loop-i-preserved g c =
    let cells = c.args.replay.now.cells in
    let id : ℕ = c.loop-i.i + 1 in
    let within : id < length cells = omega (arith, c.loop-i-test.true, c.last_id-i-end.ensures.sized) in
    c.in_ok-push_if_live.ensures ∙ ap (λ (l : List ℕ). l ++ live_id id (cell_at cells id)) c.loop-i.invariant ∙ sym (live_more cells id within)
