use Rattle.std.proofs.Common.{rules, ◌≡◌, ◌<◌, ◌≤◌, [], Some, None, map, sym, ap, subst, ◌∙◌, arith}
use Rattle.std.specs.Prelude.{Option, IfSome, slice_get}
use Rattle.std.specs.Option.{option_map_or}
use Rattle.cell_page.specs.Format.{page_of_id}
use Rattle.core_store.specs.declared.want.Work.{Work}
use Rattle.core_store.specs.Work.{objects_of, IsWork, AreFew}
use Rattle.core_store.specs.Collecting.{work_at}
use Rattle.core_store.specs.RoundView.{asked}
use Rattle.core_store.specs.Views.{view_of}
use Rattle.core_store.proofs.ReadyRound.{asked-work, asked-few}
use Rattle.core_store.proofs.FirstObject.{first-within, first-page}
use Rattle.core_store.proofs.tables.Tables.page_to_collect.Given.{Over}
use Rattle.core_store.proofs.tables.Tables.page_to_collect.Goals as goal

works : (g : Over) (c : goal.In-Some g) → work_at (asked (view_of {slots = g.row.SLOTS} c.args.self.now).round) ≡ Some c.in-Some.work
works g c = search rules

is-work : (g : Over) (c : goal.In-Some g) → IsWork g.row.SLOTS c.in-Some.work
is-work g c = subst (λ (o : Option Work). IfSome o (IsWork g.row.SLOTS)) (works g c) (asked-work c.requires.standing.1)

still : (g : Over) (c : goal.After-page_of g) → work_at (asked (view_of {slots = g.row.SLOTS} c.args.self.now).round) ≡ Some c.in-Some.work
still g c = search rules

is-within : (g : Over) (c : goal.After-page_of g) → (0 < c.in-Some.work.id) × (c.in-Some.work.id ≤ c.args.self.now.ids)
is-within g c =
    first-within c.args.self.now.ids c.requires.standing.0.cells c.in-Some.work.id c.in-Some.work.change
    (subst (λ (o : Option Work). AreFew c.args.self.now.ids (option_map_or (objects_of c.requires.standing.0.cells) o [])) (still g c) (asked-few c.requires.standing.1))

pub page_of-requires-clause-above : goal.page_of-requires-clause-above
page_of-requires-clause-above g c = (is-work g c).above

pub page_of-requires-clause-few : goal.page_of-requires-clause-few
page_of-requires-clause-few g c = let s = (is-work g c).small in omega (arith, s)

pub returns-in-Some-clause-there : goal.returns-in-Some-clause-there
returns-in-Some-clause-there g c = let first = c.page_of.ensures.there.0 in let w = (is-within g c).1 in omega (arith, first, w)

pub returns-in-Some-clause-first : goal.returns-in-Some-clause-first
returns-in-Some-clause-first g c d h =
    ap Some c.page_of.ensures.page
    ∙ (sym (first-page d.cells c.in-Some.work.id c.in-Some.work.change)
    ∙ ap (λ (o : Option Work). slice_get (map page_of_id (option_map_or (objects_of d.cells) o [])) 0) (sym (still g c)))

pub returns-in-None-clause-first : goal.returns-in-None-clause-first
returns-in-None-clause-first g c d h =
    let none : work_at (asked (view_of {slots = g.row.SLOTS} c.args.self.now).round) ≡ None = search rules in
    ap (λ (o : Option Work). slice_get (map page_of_id (option_map_or (objects_of d.cells) o [])) 0) (sym none)
