use Rattle.std.proofs.Common.{ℕ, length, ap, ◌∙◌}
use Rattle.restart_store.specs.Fresh.{pages_of, first_body_of}
use Rattle.disk_model.specs.declared.area.Area.TheVariants.{LogA, LogB, Super}
use Rattle.disk_model.specs.Areas.{in_area}
use Rattle.disk_model.proofs.Moments.{weaken}
use Rattle.restart_store.proofs.Made.{keeps_both, log_made, areas_made}
use Rattle.restart_store.proofs.Runs.{super_stays}
use Rattle.restart_store.proofs.areas.make_areas.Goals as goal

pub returns-in_err-make_pages-clause-moments : goal.returns-in_err-make_pages-clause-moments
returns-in_err-make_pages-clause-moments g c =
    weaken (λ image. g.D.Disk.may_leave c.args.disk.now Super (in_area image Super)) (λ image is. is.others Super (λ e. absurd (cc e))) c.make_pages.ensures.moments

pub returns-in_err-make_anew-clause-moments : goal.returns-in_err-make_anew-clause-moments
returns-in_err-make_anew-clause-moments g c =
    let pages = weaken (λ image. g.D.Disk.may_leave c.args.disk.now Super (in_area image Super)) (λ image is. is.others Super (λ e. absurd (cc e))) c.make_pages.ensures.moments in
    super_stays LogA (λ e. absurd (cc e)) pages (c.make_pages.ensures.keeps Super (λ e. absurd (cc e))) c.make_anew.ensures.moments

pub returns-in_err-make_anew-2-clause-moments : goal.returns-in_err-make_anew-2-clause-moments
returns-in_err-make_anew-2-clause-moments g c =
    let pages = weaken (λ image. g.D.Disk.may_leave c.args.disk.now Super (in_area image Super)) (λ image is. is.others Super (λ e. absurd (cc e))) c.make_pages.ensures.moments in
    let kept = c.make_pages.ensures.keeps Super (λ e. absurd (cc e)) in
    let log_a = super_stays LogA (λ e. absurd (cc e)) pages kept c.make_anew.ensures.moments in
    super_stays LogB (λ e. absurd (cc e)) log_a (keeps_both kept (c.make_anew.ensures.keeps Super (λ e. absurd (cc e)))) c.make_anew-2.ensures.moments

pub returns-clause-moments : goal.returns-clause-moments
returns-clause-moments g c =
    let pages = weaken (λ image. g.D.Disk.may_leave c.args.disk.now Super (in_area image Super)) (λ image is. is.others Super (λ e. absurd (cc e))) c.make_pages.ensures.moments in
    let kept = c.make_pages.ensures.keeps Super (λ e. absurd (cc e)) in
    let log_a = super_stays LogA (λ e. absurd (cc e)) pages kept c.make_anew.ensures.moments in
    super_stays LogB (λ e. absurd (cc e)) log_a (keeps_both kept (c.make_anew.ensures.keeps Super (λ e. absurd (cc e)))) c.make_anew-2.ensures.moments

pub returns-clause-made : goal.returns-clause-made
returns-clause-made g c =
    let few = c.count.ensures.count in
    areas_made (pages_of c.args.pages) c.in_ok-make_pages.ensures.made c.make_pages.ensures.keeps
    (log_made g.row.SLOTS LogA (length (pages_of c.args.pages)) c.first_body-first.result (c.first_body-first.ensures ∙ ap (λ (n : ℕ). first_body_of g.row.SLOTS n) few) c.in_ok-make_anew.ensures.reads c.in_ok-make_anew.ensures.settled) c.make_anew.ensures.keeps
    (log_made g.row.SLOTS LogB (length (pages_of c.args.pages)) c.first_body-first.result (c.first_body-first.ensures ∙ ap (λ (n : ℕ). first_body_of g.row.SLOTS n) few) c.in_ok-make_anew-2.ensures.reads c.in_ok-make_anew-2.ensures.settled) c.make_anew-2.ensures.keeps
