use Rattle.std.proofs.Common.{rules, true, false, sym, ap, ◌∙◌, refl}
use Rattle.std.proofs.lemmas.List.{get_or_default}
use Rattle.core_store.specs.declared.round_at.RoundAt.TheVariants as at
use Rattle.core_store.specs.Changes.{has_no_strong}
use Rattle.cell_model.specs.Cells.{cell_at}
use Rattle.core_store.specs.RoundView.{Rounds}
use Rattle.core_store.specs.Views.{view_of}
use Rattle.core_store.proofs.CollectedLaws.{mark-of_live}
use Rattle.core_store.proofs.SeenLaws.{green-of, marked, there-at, seed-strong, seed-testable, seed-passed}
use Rattle.core_store.proofs.tables.Tables.see_seed.Goals as goal

pub invariant_of-self : goal.invariant_of-self
invariant_of-self g c =
    let t = c.args.self.now in
    let x = green-of t.round.view (at.Seed c.args.id) tt c.requires.at in
    record { free_sized = t.free_sized; owes = t.owes; queue_sized = t.queue_sized; named_sized = t.named_sized; round_sized = ap (λ (r : Rounds). r.limit) (c.found.ensures.found x.walk x.swept x.slot x.of x.is) ∙ t.round_sized }

pub index-requires : goal.index-requires
index-requires g c = let h = c.requires.standing.1 in let l = marked h c.args.id (there-at h (at.Seed c.args.id) c.requires.at) in search (rules, l)

pub begin_test-requires : goal.begin_test-requires
begin_test-requires g c =
    let x = green-of c.args.self.now.round.view (at.Seed c.args.id) tt c.requires.at in
    (search rules, seed-testable c.args.id x (sym (c.waits.ensures x.walk x.swept x.slot x.of x.is) ∙ c.if-not-waits.false))

pub invariant_of-self-then-index : goal.invariant_of-self-then-index
invariant_of-self-then-index g c =
    let t = c.args.self.now in
    let x = green-of t.round.view (at.Seed c.args.id) tt c.requires.at in
    record { free_sized = t.free_sized; owes = t.owes; queue_sized = t.queue_sized; named_sized = t.named_sized; round_sized = ap (λ (r : Rounds). r.limit) (c.begin_test.ensures.begun x.walk x.swept x.slot x.of x.is) ∙ t.round_sized }

pub found-requires-else-index : goal.found-requires-else-index
found-requires-else-index g c =
    let x = green-of c.args.self.now.round.view (at.Seed c.args.id) tt c.requires.at in
    (search rules, seed-strong c.args.id x (sym (c.waits.ensures x.walk x.swept x.slot x.of x.is) ∙ c.if-not-waits.false))

pub invariant_of-self-else-index : goal.invariant_of-self-else-index
invariant_of-self-else-index g c =
    let t = c.args.self.now in
    let x = green-of t.round.view (at.Seed c.args.id) tt c.requires.at in
    record { free_sized = t.free_sized; owes = t.owes; queue_sized = t.queue_sized; named_sized = t.named_sized; round_sized = ap (λ (r : Rounds). r.limit) (c.found-else-index.ensures.found x.walk x.swept x.slot x.of x.is) ∙ t.round_sized }

pub returns-then-not-waits : goal.returns-then-not-waits
returns-then-not-waits g c = record {
  seen = λ core h.
      (let x = green-of c.args.self.now.round.view (at.Seed c.args.id) tt c.requires.at in
      seed-passed h c.args.id x c.found.new.self.view false (has_no_strong (cell_at core.cells c.args.id)) c.requires.at (sym (c.waits.ensures x.walk x.swept x.slot x.of x.is) ∙ c.if-not-waits.true) refl
      (ap (λ (r : Rounds). r.view) (c.found.ensures.found x.walk x.swept x.slot x.of x.is)));
}

pub returns-then-index : goal.returns-then-index
returns-then-index g c = record {
  seen = λ core h.
      (let x = green-of c.args.self.now.round.view (at.Seed c.args.id) tt c.requires.at in
      let zero = sym (mark-of_live g.row.SLOTS (view_of c.args.self.now) core h c.args.id (there-at h (at.Seed c.args.id) c.requires.at)) ∙ (get_or_default c.args.self.now.zeros.items c.args.id false c.index.result.now (marked h c.args.id (there-at h (at.Seed c.args.id) c.requires.at)) ∙ (sym c.index.ensures ∙ c.if-index.true)) in
      seed-passed h c.args.id x c.begin_test.new.self.view true true c.requires.at (sym (c.waits.ensures x.walk x.swept x.slot x.of x.is) ∙ c.if-not-waits.false) zero
      (ap (λ (r : Rounds). r.view) (c.begin_test.ensures.begun x.walk x.swept x.slot x.of x.is)));
}

pub returns-else-index : goal.returns-else-index
returns-else-index g c = record {
  seen = λ core h.
      (let x = green-of c.args.self.now.round.view (at.Seed c.args.id) tt c.requires.at in
      let zero = sym (mark-of_live g.row.SLOTS (view_of c.args.self.now) core h c.args.id (there-at h (at.Seed c.args.id) c.requires.at)) ∙ (get_or_default c.args.self.now.zeros.items c.args.id false c.index.result.now (marked h c.args.id (there-at h (at.Seed c.args.id) c.requires.at)) ∙ (sym c.index.ensures ∙ c.if-index.false)) in
      seed-passed h c.args.id x c.found-else-index.new.self.view true false c.requires.at (sym (c.waits.ensures x.walk x.swept x.slot x.of x.is) ∙ c.if-not-waits.false) zero
      (ap (λ (r : Rounds). r.view) (c.found-else-index.ensures.found x.walk x.swept x.slot x.of x.is)));
}
