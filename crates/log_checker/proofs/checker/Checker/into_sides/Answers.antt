use Rattle.std.proofs.Common.{sym, subst, ◌∙◌, ⊎_elim}
use Rattle.standby.proofs.BaseLaws.{none_of, all_there, some_there, skips_none}
use Rattle.log_checker.specs.Checking.{Checking}
use Rattle.log_checker.specs.Feeds.{Follows, IsFedWith}
use Rattle.log_checker.proofs.SideLaws.{fed, same_len, leads_both, replay_made, tally_made, lacks}
use Rattle.log_checker.proofs.checker.Checker.into_sides.Goals as goal

pub returns-in-Some-clause-base : goal.returns-in-Some-clause-base
returns-in-Some-clause-base g c =
    let i = c.self.inside in
    let none = none_of i.refused c.is_some.result c.is_some.ensures c.if-is_some.false in
    λ bytes len f is.
    let f : IsFedWith bytes i.feed i.gathered = fed bytes i.feed i.gathered i.refused none (subst (λ (s : Checking g.row.SLOTS). Follows bytes s) (sym c.self.view_is) f) in
    let told = some_there {slots = g.row.SLOTS} i.feed c.len_without_base.result c.in-Some.len c.in-Some.is c.len_without_base.ensures f.0 bytes f.1.read.taken in
    lacks f.0 bytes i.feed i.gathered len f.1 told.0 (sym (same_len c.in-Some.len len is) ∙ told.1)

pub unreachable-requires : goal.unreachable-requires
unreachable-requires g c =
    let i = c.self.inside in
    let none = none_of i.refused c.is_some.result c.is_some.ensures c.if-is_some.false in
    let known = c.self.invariant in
    let f : IsFedWith known.1.0 i.feed i.gathered = fed known.1.0 i.feed i.gathered i.refused none known.1.1 in
    let all = all_there {slots = g.row.SLOTS} i.feed c.len_without_base.result c.in_default.is c.len_without_base.ensures f.0 known.1.0 f.1.read.taken in
    ⊎_elim (replay_made f.0 known.1.0 i.feed i.gathered f.1 all) (tally_made f.0 known.1.0 i.feed i.gathered f.1 all) c.in-None.ensures.none

pub returns-clause-leads : goal.returns-clause-leads
returns-clause-leads g c =
    let i = c.self.inside in
    let none = none_of i.refused c.is_some.result c.is_some.ensures c.if-is_some.false in
    λ bytes f.
    let f : IsFedWith bytes i.feed i.gathered = fed bytes i.feed i.gathered i.refused none (subst (λ (s : Checking g.row.SLOTS). Follows bytes s) (sym c.self.view_is) f) in
    let all = all_there {slots = g.row.SLOTS} i.feed c.len_without_base.result c.in_default.is c.len_without_base.ensures f.0 bytes f.1.read.taken in
    leads_both f.0 bytes i.feed i.gathered c.in-Some-into_sides.sides.replay c.in-Some-into_sides.sides.tally f.1 all c.in-Some-into_sides.ensures.replay c.in-Some-into_sides.ensures.tally

pub returns-clause-skips : goal.returns-clause-skips
returns-clause-skips g c =
    let i = c.self.inside in
    let none = none_of i.refused c.is_some.result c.is_some.ensures c.if-is_some.false in
    let known = c.self.invariant in
    let f : IsFedWith known.1.0 i.feed i.gathered = fed known.1.0 i.feed i.gathered i.refused none known.1.1 in
    let all = all_there {slots = g.row.SLOTS} i.feed c.len_without_base.result c.in_default.is c.len_without_base.ensures f.0 known.1.0 f.1.read.taken in
    let l = leads_both f.0 known.1.0 i.feed i.gathered c.in-Some-into_sides.sides.replay c.in-Some-into_sides.sides.tally f.1 all c.in-Some-into_sides.ensures.replay c.in-Some-into_sides.ensures.tally in
    skips_none known.1.0 l.batches c.in-Some-into_sides.sides.replay l.leads
