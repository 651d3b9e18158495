use Rattle.std.proofs.Common.{◌≡◌, ℕ, ◌<◌, List, Some, refl, sym, ap, ◌∙◌, subst, rules, true}
use Rattle.core_store.specs.Views.{view_of}
use Rattle.core_store.proofs.PlanActive.{running-alive}
use Rattle.core_store.proofs.MapLaws.{owed-loaded, on_err}
use Rattle.core_store.proofs.HandlerLaws.{small-make, nobody-free, does-make}
use Rattle.cell_page.specs.declared.cell.Cell.{Cell}
use Rattle.cell_model.specs.Cells.{Cell as StoredCell, edit, blank_cell}
use Rattle.core_store.specs.Frames.{Agree, is_held}
use Rattle.cell_page.specs.Format.{IsCell, page_of_id}
use Rattle.strict_locks.specs.Locks.{Table as Locks}
use Rattle.core_store.specs.Tables.{TablesView}
use Rattle.ref_tables.specs.Refs.{entries_of}
use Rattle.core_store.specs.References.{targets_of}
use Rattle.core_store.proofs.NameLaws.{named_more, named_more-same}
use Rattle.core_store.proofs.RoomLaws.{room-taken}
use Rattle.core_store.proofs.tables.Tables.make.Goals as goal

pub own-requires : goal.own-requires
own-requires g c = nobody-free (view_of c.args.self.now) c.args.held.now c.args.pass c.args.id c.args.into c.requires.ready

pub returns-in_err-reserve-clause-err : goal.returns-in_err-reserve-clause-err
returns-in_err-reserve-clause-err g c = on_err c.from_residual.result _ (room-taken c.args.self.now c.reserve.new.self c.reserve.ensures.same, refl)

pub returns-in_err-own-clause-err : goal.returns-in_err-own-clause-err
returns-in_err-own-clause-err g c =
    on_err c.from_residual-in_err-own.result _ (
      ap (λ (ls : Locks). let w : TablesView = record (view_of c.args.self.now) { locks = ls; references = λ p. targets_of (entries_of c.reserve.new.self p) } in w) c.in_err-own.ensures.err
          ∙ room-taken c.args.self.now c.reserve.new.self c.reserve.ensures.same,
      refl,
    )

pub put_cell-requires : goal.put_cell-requires
put_cell-requires g c =
    let r = c.requires.ready in
    let id : c.new_object.result.id ≡ c.args.id = ap (λ (x : Cell g.row.SLOTS). x.id) c.new_object.ensures.exact in (
      search rules,
      (
        search rules,
        (
          subst (λ x. (0 < x) × (x < 65536)) (sym id) (small-make (view_of c.args.self.now) c.args.held.now c.args.pass c.args.id c.args.into r),
          (subst (λ x. is_held c.args.held.now (page_of_id x) ≡ true) (sym id) r.pages.0, ((r.standing.core.cells, r.standing.agree), subst (λ x. IsCell x c.new_object.result) (sym id) c.new_object.ensures.rules)),
        ),
      ),
    )

pub invariant_of-self-2-clause-owes : goal.invariant_of-self-2-clause-owes
invariant_of-self-2-clause-owes g c =
    let k = running-alive _ c.requires.ready.granted.1 in
    let e = owed-loaded c.args.pass c.args.into (Some c.args.id) k.0 c.args.self.now.transactions.entries k.1 in
    rw c.load.ensures (c.args.self.now.owes ∙ sym e)

pub returns-clause-ok : goal.returns-clause-ok
returns-clause-ok g c =
    let v = view_of c.args.self.now in
    let id = c.args.id in
    rw c.load.ensures
    (does-make v c.args.held.now c.args.pass c.put_cell.new.self c.own.new.locks c.remove.new.self.ids (λ p. targets_of (entries_of c.note.new.references p)) id c.args.into c.in_ok-own.ensures.ok
    (nobody-free v c.args.held.now c.args.pass id c.args.into c.requires.ready)
    c.remove.ensures.takes noted c.requires.ready.pages.0
    (λ cells agree. made cells agree))
  where
    noted : (p : ℕ) → targets_of (entries_of c.note.new.references p) ≡ named_more (view_of c.args.self.now).references c.args.pass c.args.id p
    noted p = c.note.ensures.noted p ∙ named_more-same (λ q. targets_of (entries_of c.reserve.new.self q)) (view_of c.args.self.now).references c.args.pass c.args.id p (ap targets_of (c.reserve.ensures.same p))

    made : (cells : List StoredCell) → Agree cells c.args.held.now → Agree (edit cells c.args.id (λ _. blank_cell true g.row.SLOTS)) c.put_cell.new.self
    made cells agree =
        let id : c.new_object.result.id ≡ c.args.id = ap (λ (x : Cell g.row.SLOTS). x.id) c.new_object.ensures.exact in
        subst (λ x. Agree (edit cells x (λ _. blank_cell true g.row.SLOTS)) c.put_cell.new.self) id
        (subst (λ (x : StoredCell). Agree (edit cells c.new_object.result.id (λ _. x)) c.put_cell.new.self) c.new_object.ensures.model (c.put_cell.ensures.stored cells agree))
