use Rattle.std.proofs.Common.{◌<◌, ◌^◌, sym, subst}
use Rattle.map_calls.specs.declared.failure.Failure.{Failure}
use Rattle.object_map.specs.Clients.{seen}
use Rattle.stored_map.specs.Graphs.{pairs_in}
use Rattle.stored_map.specs.Steps.{Refuses}
use Rattle.stored_map.proofs.ListLaws.{comes_first, comes_none, comes_more, comes_last, nearer}
use Rattle.stored_map.proofs.LookLaws.{looks_first, looks_more, looks_refused, looks_starved, map_seen}
use Rattle.stored_map.proofs.listing.all_pairs.Goals as goal

pub pairs-init : goal.pairs-init
pairs-init g c = record {
  so_far = comes_first (seen c.args.client.now).graph (pairs_in (seen c.args.client.now).graph) c.new-pairs.result.items c.requires.map c.new-pairs.ensures.items;
  looks = looks_first c.args.client.now c.requires.rooted c.requires.running;
}

pub next-requires-clause-rooted : goal.next-requires-clause-rooted
next-requires-clause-rooted g c κs within = c.pairs.invariant.looks.rooted

pub next-requires-clause-map : goal.next-requires-clause-map
next-requires-clause-map g c κs within = (pairs_in (seen c.args.client.now).graph, map_seen c.args.client.now c.pairs.client c.pairs.invariant.looks c.requires.map)

-- ---- no pair comes next

pub returns-in-Ok-None-clause-pairs : goal.returns-in-Ok-None-clause-pairs
returns-in-Ok-None-clause-pairs g c =
    comes_none c.pairs_between_are_next_pairs.ensures.none c.pairs.pairs.items (pairs_in (seen c.args.client.now).graph) c.pairs.key c.in-Ok-None.field-0 c.pairs.invariant.so_far
    (c.in-Ok-None.ensures.pair (pairs_in (seen c.args.client.now).graph) (map_seen c.args.client.now c.pairs.client c.pairs.invariant.looks c.requires.map)) c.in-Ok-None.field-0-is

pub returns-in-Ok-None-clause-looks : goal.returns-in-Ok-None-clause-looks
returns-in-Ok-None-clause-looks g c = looks_more 726 c.args.client.now c.pairs.client c.next.new.client c.pairs.invariant.looks c.in-Ok-None.ensures.asks c.next.ensures.rooted c.in-Ok-None.ensures.kept

-- ---- one more

pub pairs-preserved : goal.pairs-preserved
pairs-preserved g c = record {
  so_far = comes_more c.map_is_one.ensures.ascends c.pairs_between_are_next_pairs.ensures.next (seen c.args.client.now).graph c.pairs.pairs.items (pairs_in (seen c.args.client.now).graph) c.push.new.self.items c.pairs.key c.in-Ok-Some.pair c.in-Ok-Some.field-0 c.requires.map c.pairs.invariant.so_far
      (c.in-Ok-Some.ensures.pair (pairs_in (seen c.args.client.now).graph) (map_seen c.args.client.now c.pairs.client c.pairs.invariant.looks c.requires.map)) c.in-Ok-Some.field-0-is c.in-Ok.ensures.items c.in-Some.next c.in-Some.ensures.1;
  looks = looks_more 726 c.args.client.now c.pairs.client c.next.new.client c.pairs.invariant.looks c.in-Ok-Some.ensures.asks c.next.ensures.rooted c.in-Ok-Some.ensures.kept;
}

pub pairs-smaller : goal.pairs-smaller
pairs-smaller g c =
    nearer c.map_is_one.ensures.ascends c.pairs_between_are_next_pairs.ensures.next (seen c.args.client.now).graph c.pairs.pairs.items (pairs_in (seen c.args.client.now).graph) c.push.new.self.items c.pairs.key c.in-Ok-Some.pair c.in-Ok-Some.field-0 c.requires.map c.pairs.invariant.so_far
    (c.in-Ok-Some.ensures.pair (pairs_in (seen c.args.client.now).graph) (map_seen c.args.client.now c.pairs.client c.pairs.invariant.looks c.requires.map)) c.in-Ok-Some.field-0-is c.in-Ok.ensures.items c.in-Some.next c.in-Some.ensures.1 (subst (λ n. n < 2 ^ 64) (sym c.in-Some.ensures.1) c.in-Some.ensures.0)

-- ---- the greatest key

pub returns-in-None-clause-pairs : goal.returns-in-None-clause-pairs
returns-in-None-clause-pairs g c =
    comes_last c.map_is_one.ensures.ascends c.pairs_between_are_next_pairs.ensures.next (seen c.args.client.now).graph c.pairs.pairs.items (pairs_in (seen c.args.client.now).graph) c.push.new.self.items c.pairs.key c.in-Ok-Some.pair c.in-Ok-Some.field-0 c.requires.map c.pairs.invariant.so_far
    (c.in-Ok-Some.ensures.pair (pairs_in (seen c.args.client.now).graph) (map_seen c.args.client.now c.pairs.client c.pairs.invariant.looks c.requires.map)) c.in-Ok-Some.field-0-is c.in-Ok.ensures.items c.in-None.ensures

pub returns-in-None-clause-looks : goal.returns-in-None-clause-looks
returns-in-None-clause-looks g c = looks_more 726 c.args.client.now c.pairs.client c.next.new.client c.pairs.invariant.looks c.in-Ok-Some.ensures.asks c.next.ensures.rooted c.in-Ok-Some.ensures.kept

-- ---- a refusal

pub returns-in-Err-clause-refused : goal.returns-in-Err-clause-refused
returns-in-Err-clause-refused g c =
    subst (λ (f : Failure). Refuses f c.args.client.now.store c.next.new.client.store) (sym c.failure_in.ensures)
    (looks_refused c.in-Err.refusal c.args.client.now c.pairs.client c.next.new.client c.pairs.invariant.looks c.requires.unmarked c.in-Err.ensures.refused c.in-Err.ensures.never_full)

pub returns-in-Err-push-clause-refused : goal.returns-in-Err-push-clause-refused
returns-in-Err-push-clause-refused g c = looks_starved c.args.client.now c.next.new.client (looks_more 726 c.args.client.now c.pairs.client c.next.new.client c.pairs.invariant.looks c.in-Ok-Some.ensures.asks c.next.ensures.rooted c.in-Ok-Some.ensures.kept) c.requires.unmarked
