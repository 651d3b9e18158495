use Rattle.std.proofs.Common.{rules, ◌≡◌, ◌<◌, Some, sym, arith}
use Rattle.core_store.specs.SlotLooks.{slot_at}
use Rattle.core_store.specs.RoundView.{none}
use Rattle.core_store.proofs.NullLaws.{null-there}
use Rattle.core_store.proofs.tables.Tables.next_look.Goals as goal

pub returns-in_default-clause-passes : goal.returns-in_default-clause-passes
returns-in_default-clause-passes g c core h agree = none

pub page_of-requires-clause-above : goal.page_of-requires-clause-above
page_of-requires-clause-above g c =
    let is : slot_at c.at-at.result ≡ Some (c.in-Some.id, c.in-Some.slot) = search rules in
    (null-there c.requires.standing.stands c.at-at.result c.in-Some.id c.in-Some.slot (sym c.at-at.ensures.next) is).0

pub page_of-requires-clause-few : goal.page_of-requires-clause-few
page_of-requires-clause-few g c =
    let is : slot_at c.at-at.result ≡ Some (c.in-Some.id, c.in-Some.slot) = search rules in
    let below : c.in-Some.id < 65536 = (null-there c.requires.standing.stands c.at-at.result c.in-Some.id c.in-Some.slot (sym c.at-at.ensures.next) is).1 in
    omega (arith, below)

pub returns-then-not-holds-clause-passes : goal.returns-then-not-holds-clause-passes
returns-then-not-holds-clause-passes g c core h agree = none
