use Rattle.std.proofs.Common.{Some, true, false, rules, ◌≡◌, ℕ, ◌<◌, ◌≤◌, List, sym, ap, ◌∙◌, subst}
use Rattle.cell_page.specs.declared.cell.Cell.{Cell}
use Rattle.cell_page.specs.Format.{IsCell, page_of_id}
use Rattle.cell_model.specs.Cells.{Cell as StoredCell, edit, blank_cell}
use Rattle.red_walk.specs.Walk.{removed}
use Rattle.green_walk.specs.declared.sweep.Found.TheVariants.{Made}
use Rattle.green_walk.specs.Sweeping.{found}
use Rattle.log_record.specs.declared.cell_record.CellRecord.TheVariants as logs
use Rattle.core_store.specs.declared.act.Act.TheVariants as act
use Rattle.core_store.specs.declared.round_at.RoundAt.TheVariants as at
use Rattle.core_store.specs.Frames.{Agree, is_held}
use Rattle.core_store.specs.RoundView.{Rounds, Sweeping, IsInStep}
use Rattle.core_store.specs.Collecting.{Collected}
use Rattle.core_store.specs.Views.{view_of}
use Rattle.core_store.proofs.AskedLaws.{asked-free}
use Rattle.core_store.proofs.EndQueue.{not-free}
use Rattle.core_store.proofs.NextLaws.{one-live}
use Rattle.core_store.proofs.PlanLaws.{live-id}
use Rattle.core_store.proofs.FreeRound.{free-collected}
use Rattle.core_store.proofs.ReadyRound.{can-there, can-pages, can-small}
use Rattle.core_store.proofs.tables.Tables.free_dead.Goals as goal

pub insert-requires-clause-within : goal.insert-requires-clause-within
insert-requires-clause-within g c =
    let r = c.requires.ready in
    let t = c.args.self.now in
    let id = c.args.id in
    let of_store = one-live r.stands id (live-id r.stands id (can-there (view_of t) r (at.Free id) c.requires.at)) in
    (of_store.0, subst (λ n. id ≤ n) (sym t.free_sized) of_store.1)

pub insert-requires-clause-stored : goal.insert-requires-clause-stored
insert-requires-clause-stored g c =
    let r = c.requires.ready in
    let v = view_of c.args.self.now in
    not-free g.row.SLOTS v r.core r.stands c.args.id (can-there v r (at.Free c.args.id) c.requires.at)

pub put_cell-requires : goal.put_cell-requires
put_cell-requires g c =
    let r = c.requires.ready in
    let v = view_of c.args.self.now in
    let id : c.free.result.id ≡ c.args.id = ap (λ (x : Cell g.row.SLOTS). x.id) c.free.ensures.exact in (
      search rules,
      (
        search rules,
        (
          subst (λ x. (0 < x) × (x < 65536)) (sym id) (can-small v r c.args.id (can-there v r (at.Free c.args.id) c.requires.at)),
          (subst (λ x. is_held c.args.held.now (page_of_id x) ≡ true) (sym id) (can-pages v r (at.Free c.args.id) c.requires.at).0, ((r.core.cells, r.agree), subst (λ x. IsCell x c.free.result) (sym id) c.free.ensures.rules)),
        ),
      ),
    )

pub invariant_of-self : goal.invariant_of-self
invariant_of-self g c =
    let t = c.args.self.now in
    let w = asked-free t.round.view c.args.id c.requires.at in
    record { free_sized = c.insert.ensures.limit ∙ t.free_sized; owes = t.owes; queue_sized = t.queue_sized; named_sized = t.named_sized; round_sized = ap (λ (r : Rounds). r.limit) (c.freed.ensures.freed w.0 w.1 w.2 w.3 w.4) ∙ t.round_sized }

pub returns-clause-collects : goal.returns-clause-collects
returns-clause-collects g c d h agree ready =
    let v = view_of c.args.self.now in
    let id = c.args.id in
    let w = asked-free v.round id c.requires.at in
    let is = c.freed.ensures.freed w.0 w.1 w.2 w.3 w.4 in
    let step = subst (λ (r : Rounds). IsInStep g.row.SLOTS r.limit r.view) is c.freed.ensures.sound in
    let step_of = subst (λ (n : ℕ). IsInStep g.row.SLOTS n (Sweeping (removed w.0 id) (found w.1 (Made id)) w.2 w.3)) c.args.self.now.round_sized step in
    subst (λ (r : Rounds). Collected g.row.SLOTS v (record v { free = c.insert.new.self.ids; round = r.view }) d c.args.held.now c.put_cell.new.self act.Change (Some (logs.Free id))) (sym is)
    (free-collected g.row.SLOTS v d h w.0 w.1 w.2 w.3 id w.4 w.5 c.insert.new.self.ids c.insert.ensures.frees step_of
    c.args.held.now c.put_cell.new.self (can-pages v c.requires.ready (at.Free id) c.requires.at).0 (freed d.cells agree))
  where
    freed : (cells : List StoredCell) → Agree cells c.args.held.now → Agree (edit cells c.args.id (λ _. blank_cell false g.row.SLOTS)) c.put_cell.new.self
    freed cells agree =
        let id : c.free.result.id ≡ c.args.id = ap (λ (x : Cell g.row.SLOTS). x.id) c.free.ensures.exact in
        subst (λ x. Agree (edit cells x (λ _. blank_cell false g.row.SLOTS)) c.put_cell.new.self) id
        (subst (λ (x : StoredCell). Agree (edit cells c.free.result.id (λ _. x)) c.put_cell.new.self) c.free.ensures.model (c.put_cell.ensures.stored cells agree))
