use Rattle.std.proofs.Common.{◌≤◌, [], ap, ◌∙◌, rules, sym, subst}
use Rattle.framed_journal.proofs.HoldLaws.{slots-few}
use Rattle.latch_table.specs.Views.{log_dropped}
use Rattle.shared_store.specs.Chronicles.View.{marks_of}
use Rattle.shared_store.specs.Holding.{with_pages}
use Rattle.shared_store.proofs.Finishes.{is-told, told-hand}
use Rattle.logged_journal.specs.View.{LoggedView}
use Rattle.shared_store.specs.Chronicles.Since.{OpensSince}
use Rattle.shared_store.proofs.store.Store.finish.Goals as goal

pub drop_held-requires-after_bounds : goal.drop_held-requires-after_bounds
drop_held-requires-after_bounds g c κs within =
    let small : g.row.SLOTS ≤ 14 = slots-few g.row.SLOTS c.self.invariant.size in
    let d = c.requires.drop in
    let are = (c.know_frames.ensures.held c.args.held.now d.frames.within).0 d.frames.agree in
    let t = is-told g.row.SLOTS c.args.self.now.pages c.args.hold.now.view c.tell_if-seen.new.hold.view c.args.journal c.args.held.now c.args.entered d c.tell_if-seen.ensures.told c.tell_if-seen.ensures.same are in
    (search rules, (search rules, (search rules, (search rules, (search rules, (c.tell_if-seen.ensures.of, ((t.pages, t.idle), d.once)))))))

pub drop_log-requires-clause-log : goal.drop_log-requires-clause-log
drop_log-requires-clause-log g c =
    let d = c.requires.drop in
    let are = (c.know_frames.ensures.held c.args.held.now d.frames.within).0 d.frames.agree in
    let t = is-told g.row.SLOTS c.args.self.now.pages c.args.hold.now.view c.tell_if-seen.new.hold.view c.args.journal c.args.held.now c.args.entered d c.tell_if-seen.ensures.told c.tell_if-seen.ensures.same are in
    told-hand g.row.SLOTS c.tell_if-seen.new.hold.view c.drop_held.new.hold.view c.args.journal t.in_hand c.drop_held.ensures.view

pub returns-clause-told : goal.returns-clause-told
returns-clause-told g c = λ e.
    let t = c.tell_if-seen.ensures.told e in
    (t.0, t.1, c.drop_log.ensures.view ∙ ap (λ v. log_dropped v (marks_of c.args.journal)) (c.drop_held.ensures.view ∙ ap (λ v. with_pages v []) t.2))

pub returns-clause-same : goal.returns-clause-same
returns-clause-same g c = λ e. c.drop_log.ensures.view ∙ ap (λ v. log_dropped v (marks_of c.args.journal)) (c.drop_held.ensures.view ∙ ap (λ v. with_pages v []) (c.tell_if-seen.ensures.same e))

pub drop_log-requires-clause-on : goal.drop_log-requires-clause-on
drop_log-requires-clause-on g c = subst (λ (v : LoggedView g.row.D.Denot). OpensSince g.D.Disk.moment g.D.Disk.left_since g.row.SLOTS v c.args.journal) (sym (ap (λ z. z.began) c.self.view_is)) c.requires.since
