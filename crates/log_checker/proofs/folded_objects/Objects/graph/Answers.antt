use Rattle.std.proofs.Common.{◌<◌, ◌≤◌, List, ◌++◌, length, take, rules, sym, ap, subst, ◌∙◌, arith, ⊎_elim}
use Rattle.std.specs.Prelude.{All}
use Rattle.std.proofs.lemmas.List.{length-map}
use Rattle.plain_model.specs.declared.object.Object.{Object}
use Rattle.cell_model.specs.Cells.{Cell}
use Rattle.cell_model.specs.Graph.{graph_of}
use Rattle.cell_page.specs.Stored.{cell_of}
use Rattle.log_checker.specs.FoldedObjects.{objects_in}
use Rattle.log_checker.proofs.GraphParts.{cell_got, objects_more, all_below}
use Rattle.log_checker.proofs.folded_objects.Objects.graph.Goals as goal

pub push_object-requires : goal.push_object-requires
push_object-requires g c =
    let small : g.row.SLOTS ≤ 14 = ⊎_elim (λ six. omega arith) (λ fourteen. omega arith) c.requires.slots in
    let id = c.loop-id.id in
    let within : id < length c.args.self.now = omega (arith, c.loop-id-test.true, c.len-id-end.ensures, ap length c.self.view_is, length-map c.self.inside.cells.items cell_of) in
    (search rules, subst (λ (l : List Object). All (λ o. o.id < id) l) (sym c.loop-id.invariant) (all_below c.args.self.now id within))

pub loop-id-preserved : goal.loop-id-preserved
loop-id-preserved g c =
    let id = c.loop-id.id in
    let cells = c.args.self.now in
    let within : id < length cells = omega (arith, c.loop-id-test.true, c.len-id-end.ensures, ap length c.self.view_is, length-map c.self.inside.cells.items cell_of) in
    c.in_ok-push_object.ensures
    ∙ ap (λ (l : List Object). l ++ objects_in id (cell_of c.index.result.now)) c.loop-id.invariant
    ∙ ap (λ (x : Cell). graph_of (take id cells) ++ objects_in id x) (cell_got c.self.inside.cells.items cells id c.index.result.now c.self.view_is c.index.ensures within)
    ∙ sym (objects_more cells id within)
