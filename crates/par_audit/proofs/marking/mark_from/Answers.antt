use Rattle.std.proofs.Common.{◌≤◌, ◌≡◌, ℕ, List, length, map, ap, ◌∙◌, arith}
use Rattle.std.proofs.lemmas.List.{length-append}
use Rattle.cell_page.specs.Stored.{cell_of}
use Rattle.par_audit.proofs.LevelLaws.{marking-begins, marking-goes_on, marking-over, objects-all, objects-kept}
use Rattle.par_audit.proofs.marking.mark_from.Goals as goal

pub loop-from-init : goal.loop-from-init
loop-from-init g c =
    let first = rw (c.new-found.ensures.items) at c.in_ok-visit.ensures in
    let len = c.requires.len in
    let stored = map cell_of c.args.cells.now in
    record {
      len = first.len ∙ len;
      within = omega arith;
      objects = objects-kept stored _ c.args.unreached.now c.visit.new.unreached _ _ (objects-all stored c.args.unreached.now c.requires.objects) first;
      marking = marking-begins stored c.args.unreached.now c.visit.new.unreached c.visit.new.found.items c.requires.objects first;
    }

pub loop-from-preserved : goal.loop-from-preserved
loop-from-preserved g c =
    let is = c.loop-from.invariant in
    let step = c.in_ok-follow_level.ensures in
    let xs = c.loop-from.found.items in
    let place : c.len-level.result ≡ length xs = (let e = c.len-level.ensures in omega (arith, e)) in
    let long = ap (λ (l : List ℕ). length l) step.appended in
    let whole = length-append xs step.found in
    record {
      len = step.len ∙ is.len;
      within = omega (arith, place, long, whole);
      objects = objects-kept (map cell_of c.args.cells.now) _ c.loop-from.unreached c.follow_level.new.unreached _ _ is.objects step;
      marking = rw place (marking-goes_on c.args.cells.now c.loop-from.unreached c.follow_level.new.unreached xs c.follow_level.new.found.items c.loop-from.«from» is.objects is.marking step);
    }

pub returns : goal.returns
returns g c =
    let past : length c.loop-from.found.items ≤ c.loop-from.«from» = (let t = c.loop-from-test.false in let e = c.len.ensures in omega (arith, t, e)) in
    marking-over (map cell_of c.args.cells.now) c.loop-from.unreached c.loop-from.found.items c.loop-from.«from» past c.loop-from.invariant.objects c.loop-from.invariant.marking
