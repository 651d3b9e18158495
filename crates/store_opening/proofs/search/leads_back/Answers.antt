use Rattle.std.proofs.Common.{sym, ◌∙◌, ap, rules, true, false, ◌≡◌, List, Bool, length, arith}
use Rattle.std.proofs.lemmas.List.{get_or_default, length-replicate}
use Rattle.store_opening.proofs.MarkLaws.{search-start, search-end}
use Rattle.store_opening.proofs.search.leads_back.Goals as goal

pub run-requires : goal.run-requires
run-requires g c =
    let sized = c.last_id.ensures.sized in
    let items = c.in_ok-vec.ensures.items_if_clones_equal (λ y e. e) in
    let long = ap (λ (ms : List Bool). length ms) items ∙ length-replicate _ _ in
    (search rules, (c.requires.size, (c.requires.named, search-start c.args.replay.now.cells c.args.id _ _ _ _ _ items (omega (arith, long, sized)) c.new.ensures.items c.in_ok-spread.ensures.spreads c.in_ok-spread.ensures.marked)))

pub returns-clause-none : goal.returns-clause-none
returns-clause-none g c =
    λ e w.
    let k = c.in_ok-run.ensures in
    let m = search-end c.args.replay.now.cells c.args.id c.args.id _ k w in
    let len = k.len in
    let within = c.requires.within in
    let same = get_or_default _ c.args.id false c.index.result.now (omega (arith, len, within)) in
    let no : true ≡ false = sym m ∙ (same ∙ (sym c.index.ensures ∙ e)) in
    cc
