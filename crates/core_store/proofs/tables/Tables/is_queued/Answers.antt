use Rattle.std.proofs.Common.{◌≡◌, true, false, not, get_or, nat_cmp, sym, ap, ◌∙◌, ne_eqb}
use Rattle.std.specs.Prelude.{◌==◌}
use Rattle.std.specs.List.{list_any}
use Rattle.std.specs.BTreeMap.{is_at}
use Rattle.std.proofs.lemmas.List.{get_or_default}
use Rattle.ref_tables.specs.Queue.{has}
use Rattle.core_store.specs.RoundView.{ids_in}
use Rattle.core_store.proofs.QueueLaws.{names-agree, queued-tests}
use Rattle.core_store.proofs.tables.Tables.is_queued.Goals as goal

pub returns : goal.returns
returns g c = λ named are.
    let id = c.args.id in
    let t = c.args.self.now in
    let n = names-agree t.references named are id c.names.result c.names.ensures.yes c.names.ensures.no in
    let zero : get_or t.zeros.items id false ≡ true = get_or_default t.zeros.items id false c.index.result.now c.requires ∙ sym c.index.ensures ∙ c.if-not-index.false in
    let free : list_any (is_at (nat_cmp id)) t.free.ids ≡ false = sym c.contains.ensures ∙ c.if-contains.false in
    let inside : has (ids_in t.round.view) id ≡ false = sym c.holds.ensures.holds ∙ c.if-holds.false in
    ap not n ∙ queued-tests (get_or t.zeros.items id false) (id == 1) (list_any (is_at (nat_cmp id)) t.free.ids) (has (ids_in t.round.view) id) (named id) zero (ne_eqb id 1 c.if-id-eq-ROOT.false) free inside
