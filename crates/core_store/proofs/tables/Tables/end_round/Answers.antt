use Rattle.std.proofs.Common.{◌≡◌, ◌<◌, ◌≤◌, length, get_or, sym, ap, ◌∙◌, subst, None}
use Rattle.std.specs.Prelude.{filter}
use Rattle.ref_tables.specs.Queue.{has}
use Rattle.core_store.specs.RoundView.{RoundView, Rounds, Closed, asked}
use Rattle.core_store.specs.declared.act.Act.TheVariants as act
use Rattle.core_store.specs.Collecting.{Collected}
use Rattle.core_store.specs.Tables.{TablesView}
use Rattle.core_store.specs.Views.{view_of}
use Rattle.core_store.proofs.AskedLaws.{asked-end}
use Rattle.core_store.proofs.EndRoundLaws.{HaveRequeued, walk_list, have_requeued-more, requeued, end-collected}
use Rattle.core_store.proofs.tables.Tables.end_round.Goals as goal

pub loop-place-preserved : goal.loop-place-preserved
loop-place-preserved g c =
    let view = c.args.self.now.round.view in
    let e = asked-end view c.requires.at in
    let listed = ap walk_list e.4 in
    let same = ap (λ (x : TablesView). x.round) c.loop-place.invariant.same in
    let here = c.list.ensures.walk e.0 e.1 e.2 e.3 (same ∙ e.4) ∙ sym listed in
    let within : c.loop-place.place < length (walk_list view) = subst (λ xs. c.loop-place.place < length xs) (c.list-place-end.ensures.walk e.0 e.1 e.2 e.3 e.4 ∙ sym listed) c.loop-place-test.true in
    have_requeued-more (view_of c.args.self.now) (view_of {slots = g.row.SLOTS} c.loop-place.self) (view_of {slots = g.row.SLOTS} c.requeue.new.self) (walk_list view) c.loop-place.place (get_or c.list.result.now c.loop-place.place 0) within (ap (λ xs. get_or xs c.loop-place.place 0) here) c.loop-place.invariant c.requeue.ensures.joins

pub returns-clause-collects : goal.returns-clause-collects
returns-clause-collects g c = λ held core h agree ready.
    let old = c.args.self.now in
    let v = view_of old in
    let x = view_of {slots = g.row.SLOTS} c.loop-place.self in
    let e = asked-end old.round.view c.requires.at in
    let ended = c.list-place-end.ensures.walk e.0 e.1 e.2 e.3 e.4 in
    let left : filter (has e.0.left) e.0.list ≡ e.0.left = subst (λ xs. filter (has e.0.left) xs ≡ e.0.left) ended (c.list-place-end.ensures.left e.0 e.1 e.2 e.3 e.4) in
    let past : length e.0.list ≤ c.loop-place.place = subst (λ xs. length xs ≤ c.loop-place.place) ended c.loop-place-test.false in
    let have = subst (λ xs. HaveRequeued v x xs c.loop-place.place) (ap walk_list e.4) c.loop-place.invariant in
    let queue = requeued g.row.SLOTS v core e.0 e.1 e.2 e.3 h e.4 e.5 x c.loop-place.place past left have in
    let closed : c.close.new.self.view ≡ Closed = ap (λ (r : Rounds). r.view) c.close.ensures in
    subst (λ (w : TablesView). Collected g.row.SLOTS v (record w { round = c.close.new.self.view }) core held held act.End None) (sym have.same)
    (subst (λ (r : RoundView). Collected g.row.SLOTS v (record v { queue = x.queue; round = r }) core held held act.End None) (sym closed)
    (end-collected g.row.SLOTS v core e.0 e.1 e.2 e.3 h e.4 e.5 x.queue agree (sym (ap asked e.4) ∙ c.requires.at) queue))
