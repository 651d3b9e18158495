use Rattle.std.proofs.Common.{◌≡◌, [], None, sym, ap, subst, ◌∙◌, rules}
use Rattle.logged_journal.specs.View.{LoggedView}
use Rattle.framed_journal.specs.Holding.{AreFramesOf}
use Rattle.journal_opening.specs.Openings.{OpensMeanwhile}
use Rattle.brahma_shell.proofs.LoneLemmas.{refuses-memory, memory-fault}
use Rattle.brahma_shell.proofs.store.Store.open.Goals as goal
use Rattle.script_lines.specs.Numbers.{object_slots}

pub new-requires-after_bounds : goal.new-requires-after_bounds
new-requires-after_bounds g c κs within =
    let same = c.into_parts-logged.ensures.logged in
    let opened = c.in_ok-opened.ensures.opened in
    let running : c.into_parts-logged.result.0.failed ≡ None = ap (λ (v : LoggedView g.row.D.Denot). v.failed) same ∙ opened.running in
    let notes : c.into_parts-logged.result.0.journal.notes ≡ [] = ap (λ (v : LoggedView g.row.D.Denot). v.journal.notes) same ∙ opened.notes.0 in
    let frames = subst (λ (v : LoggedView g.row.D.Denot). AreFramesOf v.journal c.into_parts-logged.result.1.items) (sym same) c.into_parts-logged.ensures.frames in
    (search rules, (search rules, (search rules, (frames.size.1, (running, (notes, ((frames.some, frames.few), (frames.pages, frames.agree))))))))

pub returns-clause-refused : goal.returns-clause-refused
returns-clause-refused g c =
    refuses-memory g.D.Disk.content g.D.Disk.may_leave g.D.Disk.moment g.D.Disk.left_since g.D.Disk.faults c.args.disk (record { trace = 1048576; log = 1071644672 }) c.in_ok-opened.opened c.in_ok-opened.ensures.opened c.into_disk.result

pub returns-clause-meanwhile : goal.returns-clause-meanwhile
returns-clause-meanwhile g c =
    let same : c.into_disk.result ≡ c.in_ok-opened.opened.disk = c.into_disk.ensures.disk ∙ ap (λ (v : LoggedView g.row.D.Denot). v.disk) (c.in-Err.ensures.back.0 ∙ c.into_parts-logged.ensures.logged) in
    subst (λ (d : g.row.D.Denot). OpensMeanwhile g.D.Disk.content g.D.Disk.may_leave g.D.Disk.moment g.D.Disk.left_since object_slots c.args.disk d) (sym same) c.in_ok-opened.ensures.opens_meanwhile

pub returns-clause-fault : goal.returns-clause-fault
returns-clause-fault g c =
    let same : c.into_disk.result ≡ c.in_ok-opened.opened.disk = c.into_disk.ensures.disk ∙ ap (λ (v : LoggedView g.row.D.Denot). v.disk) (c.in-Err.ensures.back.0 ∙ c.into_parts-logged.ensures.logged) in
    memory-fault g.D.Disk.content g.D.Disk.may_leave g.D.Disk.moment g.D.Disk.left_since g.D.Disk.faults c.args.disk (record { trace = 1048576; log = 1071644672 }) c.in_ok-opened.opened c.in_ok-opened.ensures.opened c.into_disk.result same

pub returns-in-Ok-clause-opens_meanwhile : goal.returns-in-Ok-clause-opens_meanwhile
returns-in-Ok-clause-opens_meanwhile g c =
    let same = c.in-Ok.ensures.ok ∙ c.into_parts-logged.ensures.logged in
    subst (λ (v : LoggedView g.row.D.Denot). OpensMeanwhile g.D.Disk.content g.D.Disk.may_leave g.D.Disk.moment g.D.Disk.left_since object_slots c.args.disk v.disk) (sym same) c.in_ok-opened.ensures.opens_meanwhile
