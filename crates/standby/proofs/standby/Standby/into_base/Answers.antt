use Rattle.std.proofs.Common.{sym, subst, ◌∙◌}
use Rattle.standby.specs.Following.{Following}
use Rattle.standby.specs.Feeds.{Follows, IsFedWith}
use Rattle.standby.specs.Promoted.{LeadsTo}
use Rattle.standby.proofs.BaseLaws.{fed, none_of, all_there, some_there, same_len, leads, made, lacks, skips_none}
use Rattle.standby.proofs.standby.Standby.into_base.Goals as goal

pub returns-in-Some-clause-base : goal.returns-in-Some-clause-base
returns-in-Some-clause-base g c =
    let i = c.self.inside in
    let none = none_of i.refused c.is_some.result c.is_some.ensures c.if-is_some.false in
    λ bytes len f is.
    let f : IsFedWith bytes i.feed i.gathered = fed bytes i.feed i.gathered i.refused none (subst (λ (s : Following g.row.SLOTS). Follows bytes s) (sym c.self.view_is) f) in
    let told = some_there {slots = g.row.SLOTS} i.feed c.len_without_base.result c.in-Some.len c.in-Some.is c.len_without_base.ensures f.0 bytes f.1.read.taken in
    lacks f.0 bytes i.feed i.gathered len f.1 told.0 (sym (same_len c.in-Some.len len is) ∙ told.1)

pub unreachable-requires : goal.unreachable-requires
unreachable-requires g c =
    let i = c.self.inside in
    let none = none_of i.refused c.is_some.result c.is_some.ensures c.if-is_some.false in
    let known = c.self.invariant in
    let f : IsFedWith known.1.0 i.feed i.gathered = fed known.1.0 i.feed i.gathered i.refused none known.1.1 in
    let all = all_there {slots = g.row.SLOTS} i.feed c.len_without_base.result c.in_default.is c.len_without_base.ensures f.0 known.1.0 f.1.read.taken in
    made f.0 i.gathered f.1.read.has all (sym c.into_replay.ensures ∙ c.in_default-into_replay.is)

pub returns-clause-leads : goal.returns-clause-leads
returns-clause-leads g c =
    let i = c.self.inside in
    let none = none_of i.refused c.is_some.result c.is_some.ensures c.if-is_some.false in
    λ bytes f.
    let f : IsFedWith bytes i.feed i.gathered = fed bytes i.feed i.gathered i.refused none (subst (λ (s : Following g.row.SLOTS). Follows bytes s) (sym c.self.view_is) f) in
    let all = all_there {slots = g.row.SLOTS} i.feed c.len_without_base.result c.in_default.is c.len_without_base.ensures f.0 bytes f.1.read.taken in
    subst (λ (s : Following g.row.SLOTS). LeadsTo g.row.SLOTS bytes s.gathered.batches c.in-Some-into_replay.replay) c.self.view_is
    (leads f.0 bytes i.feed i.gathered c.in-Some-into_replay.replay f.1 all (sym c.into_replay.ensures ∙ c.in-Some-into_replay.is))

pub returns-clause-skips : goal.returns-clause-skips
returns-clause-skips g c =
    let i = c.self.inside in
    let none = none_of i.refused c.is_some.result c.is_some.ensures c.if-is_some.false in
    let known = c.self.invariant in
    let f : IsFedWith known.1.0 i.feed i.gathered = fed known.1.0 i.feed i.gathered i.refused none known.1.1 in
    let all = all_there {slots = g.row.SLOTS} i.feed c.len_without_base.result c.in_default.is c.len_without_base.ensures f.0 known.1.0 f.1.read.taken in
    skips_none known.1.0 i.gathered.batches c.in-Some-into_replay.replay (leads f.0 known.1.0 i.feed i.gathered c.in-Some-into_replay.replay f.1 all (sym c.into_replay.ensures ∙ c.in-Some-into_replay.is))
