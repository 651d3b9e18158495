use Rattle.std.proofs.Common.{◌≡◌, [], None, sym, ap, subst, ◌∙◌, rules}
use Rattle.logged_journal.specs.View.{LoggedView}
use Rattle.framed_journal.specs.Holding.{AreFramesOf}
use Rattle.journal_opening.specs.Openings.{OpensAs, OpensMeanwhile}
use Rattle.object_map.specs.Clients.{object_slots}
use Rattle.stored_map.proofs.OpenLaws.{refuses_memory, memory_fault}
use Rattle.stored_map.proofs.opening.open_store.Goals as goal

pub new-requires-after_bounds : goal.new-requires-after_bounds
new-requires-after_bounds g c κs within =
    let same = c.into_parts-logged.ensures.logged in
    let opened = c.in-Ok.ensures.opened in
    let running : c.into_parts-logged.result.0.failed ≡ None = ap (λ (v : LoggedView _). v.failed) same ∙ opened.running in
    let notes : c.into_parts-logged.result.0.journal.notes ≡ [] = ap (λ (v : LoggedView _). v.journal.notes) same ∙ opened.notes.0 in
    let frames = subst (λ (v : LoggedView _). AreFramesOf v.journal c.into_parts-logged.result.1.items) (sym same) c.into_parts-logged.ensures.frames in
    (search rules, (search rules, (search rules, (frames.size.1, (running, (notes, ((frames.some, frames.few), (frames.pages, frames.agree))))))))

pub returns-in-Ok-new-clause-opened : goal.returns-in-Ok-new-clause-opened
returns-in-Ok-new-clause-opened g c =
    let same = c.in-Ok-new.ensures.ok ∙ c.into_parts-logged.ensures.logged in
    subst (λ (v : LoggedView _). OpensAs g.D.Disk.content g.D.Disk.faults object_slots c.args.disk (record { trace = 1048576; log = 1071644672 }) v) (sym same) c.in-Ok.ensures.opened

pub returns-in-Ok-new-clause-opens_meanwhile : goal.returns-in-Ok-new-clause-opens_meanwhile
returns-in-Ok-new-clause-opens_meanwhile g c =
    let same = c.in-Ok-new.ensures.ok ∙ c.into_parts-logged.ensures.logged in
    subst (λ (v : LoggedView _). OpensMeanwhile g.D.Disk.content g.D.Disk.may_leave g.D.Disk.moment g.D.Disk.left_since object_slots c.args.disk v.disk) (sym same) c.in-Ok.ensures.meanwhile

pub returns-clause-refused : goal.returns-clause-refused
returns-clause-refused g c = refuses_memory g.D.Disk.content g.D.Disk.may_leave g.D.Disk.moment g.D.Disk.left_since g.D.Disk.faults c.args.disk c.in-Ok.framed c.in-Ok.ensures.opened c.into_disk.result

pub returns-clause-meanwhile : goal.returns-clause-meanwhile
returns-clause-meanwhile g c =
    let same : c.into_disk.result ≡ c.in-Ok.framed.disk = c.into_disk.ensures.disk ∙ ap (λ (v : LoggedView _). v.disk) (c.in-Err-new.ensures.back.0 ∙ c.into_parts-logged.ensures.logged) in
    subst (λ (d : _). OpensMeanwhile g.D.Disk.content g.D.Disk.may_leave g.D.Disk.moment g.D.Disk.left_since object_slots c.args.disk d) (sym same) c.in-Ok.ensures.meanwhile

pub returns-clause-fault : goal.returns-clause-fault
returns-clause-fault g c =
    let same : c.into_disk.result ≡ c.in-Ok.framed.disk = c.into_disk.ensures.disk ∙ ap (λ (v : LoggedView _). v.disk) (c.in-Err-new.ensures.back.0 ∙ c.into_parts-logged.ensures.logged) in
    memory_fault g.D.Disk.content g.D.Disk.may_leave g.D.Disk.moment g.D.Disk.left_since g.D.Disk.faults c.args.disk c.in-Ok.framed c.in-Ok.ensures.opened c.into_disk.result same
