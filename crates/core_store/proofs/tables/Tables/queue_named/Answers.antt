use Rattle.std.proofs.Common.{◌≡◌, ℕ, ◌<◌, ◌≤◌, List, length, get_or, cond, refl, ap, ◌∙◌, subst, eq-eqb, ne_eqb, []}
use Rattle.red_walk.specs.Ids.{Ids}
use Rattle.ref_tables.specs.declared.kind.TempRef.{TempRef}
use Rattle.ref_tables.specs.Refs.{entries_of}
use Rattle.core_store.specs.References.{targets_of}
use Rattle.core_store.specs.Queued.{each_once}
use Rattle.core_store.specs.Views.{view_of}
use Rattle.core_store.proofs.QueueLaws.{have_joined-more, names-nothing}
use Rattle.core_store.proofs.tables.Tables.queue_named.Goals as goal

pub loop-place-preserved : goal.loop-place-preserved
loop-place-preserved g c =
    let place = c.loop-place.place in
    let ids = c.collect_targets.new.targets.ids in
    let listed : c.ids.result.now ≡ ids = c.ids.ensures.ids ∙ ap (λ (t : Ids). t.ids) c.loop-place.invariant.named in
    let within : place < length ids = subst (λ (xs : List ℕ). place < length xs) c.ids-place-end.ensures.ids c.loop-place-test.true in
    record {
      queue = have_joined-more _ (view_of {slots = g.row.SLOTS} c.loop-place.self) (view_of {slots = g.row.SLOTS} c.join_queue.new.self) ids place (get_or c.ids.result.now place 0) within (ap (λ (xs : List ℕ). get_or xs place 0) listed) c.loop-place.invariant.queue c.join_queue.ensures.joins;
      named = c.join_queue.ensures.named ∙ c.loop-place.invariant.named;
    }

pub returns-clause-unnamed : goal.returns-clause-unnamed
returns-clause-unnamed g c =
    let place = c.loop-place.place in
    let ids = c.collect_targets.new.targets.ids in
    let t = c.args.self.now in
    let pass = c.args.pass in
    let past : length ids ≤ place = subst (λ (xs : List ℕ). length xs ≤ place) c.ids-place-end.ensures.ids c.loop-place-test.false in
    let is : ids ≡ each_once (targets_of (entries_of t.references pass)) = ap (λ (l : Ids). l.ids) c.collect_targets.ensures ∙ ap (λ (es : List TempRef). each_once (targets_of es)) c.entries.ensures in
    names-nothing (view_of {slots = g.row.SLOTS} t) (view_of {slots = g.row.SLOTS} c.loop-place.self) (λ p. targets_of (entries_of c.end.new.self p)) pass ids place past is
    (ap targets_of (c.end.ensures.ends pass ∙ ap (λ b. cond b [] (entries_of t.references pass)) (eq-eqb pass pass refl))) (λ q d. ap targets_of (c.end.ensures.ends q ∙ ap (λ b. cond b [] (entries_of t.references q)) (ne_eqb q pass d)))
    c.loop-place.invariant.queue
