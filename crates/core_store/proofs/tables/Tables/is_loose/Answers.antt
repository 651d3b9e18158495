use Rattle.std.proofs.Common.{◌≡◌, true, false, not, get_or, sym, ap, ◌∙◌}
use Rattle.std.specs.Prelude.{◌&&◌}
use Rattle.std.proofs.lemmas.List.{get_or_default}
use Rattle.core_store.proofs.QueueLaws.{names-agree}
use Rattle.core_store.proofs.tables.Tables.is_loose.Goals as goal

pub returns-then-index : goal.returns-then-index
returns-then-index g c = λ named are.
    let id = c.args.id in
    let t = c.args.self.now in
    let n = names-agree t.references named are id c.names.result c.names.ensures.yes c.names.ensures.no in
    let zero : get_or t.zeros.items id false ≡ true = get_or_default t.zeros.items id false c.index.result.now c.requires ∙ sym c.index.ensures ∙ c.if-index.true in
    ap not n ∙ ap (λ z. z && not (named id)) (sym zero)

pub returns-else-index : goal.returns-else-index
returns-else-index g c = λ named are.
    let id = c.args.id in
    let t = c.args.self.now in
    let zero : get_or t.zeros.items id false ≡ false = get_or_default t.zeros.items id false c.index.result.now c.requires ∙ sym c.index.ensures ∙ c.if-index.false in
    c.if-index.false ∙ ap (λ z. z && not (named id)) (sym zero)
