use Rattle.std.proofs.Common.{ℕ, ◌*◌, ◌≤◌, List, [], refl, length, map, sym, ap, subst, ◌∙◌, arith}
use Rattle.disk_model.specs.declared.area.Area.TheVariants.{Pages}
use Rattle.disk_model.specs.Told.{Leaves}
use Rattle.cell_page.specs.Format.{page_size}
use Rattle.gate_log.specs.OnDisk.{IsOn}
use Rattle.core_store.specs.declared.note.Note.{Note}
use Rattle.logged_journal.specs.Records.{OpenedWith}
use Rattle.logged_journal.proofs.BegunLogs.{kept-begun}
use Rattle.logged_journal.proofs.logged.LoggedJournal.begin.Goals as goal

pub invariant_of-logged : goal.invariant_of-logged
invariant_of-logged g c =
    let history = c.history.ensures in
    let capacity = c.in_default.ensures.ok in
    let len = c.image_len.ensures in
    let none = c.len-durable.ensures ∙ ap (λ (l : List Note). length l) (history.notes ∙ c.requires.notes) in
    record {
      size = c.requires.size;
      own = c.requires.slots;
      spelling = omega (arith, capacity, len);
      counted = (subst (λ (d : g.row.D.Denot). c.faults-opened.result ≤ g.D.Disk.faults d) (sym c.in-Ok.ensures.ok) (subst (λ n. n ≤ g.D.Disk.faults c.args.disk) (sym c.faults-opened.ensures) (omega (arith))), tt, λ none. ap g.D.Disk.faults c.in-Ok.ensures.ok ∙ sym c.faults-opened.ensures);
      kept = kept-begun g.D.Disk.may_leave g.row.SLOTS c.args.journal c.args.log c.in-Ok.disk.value c.args.marks c.requires.begun.0 _ _ _ c.requires.ids
          (history.consistent [] c.args.journal.notes refl) c.requires.notes
          (ap (λ (l : List Note). map (λ n. n.entry) l) (sym history.notes) ∙ history.entries) history.safe
          c.requires.standing.0 c.requires.standing.1 c.requires.standing.2
          (subst (λ (d : g.row.D.Denot). IsOn g.D.Disk.may_leave c.args.log d c.requires.begun.0) (sym c.in-Ok.ensures.ok) c.requires.begun.1)
          (subst (λ (d : g.row.D.Denot). Leaves g.D.Disk.may_leave d Pages (λ area. OpenedWith c.args.journal area c.requires.begun.0 c.args.marks)) (sym c.in-Ok.ensures.ok) c.requires.begun.2)
          (subst (λ (d : g.row.D.Denot). Leaves g.D.Disk.may_leave d Pages (λ area. page_size c.args.journal.history.slots * length c.args.marks ≤ length area)) (sym c.in-Ok.ensures.ok)
          (subst (λ (s : ℕ). Leaves g.D.Disk.may_leave c.args.disk Pages (λ area. page_size s * length c.args.marks ≤ length area)) (sym c.requires.slots) c.requires.long))
          none c.used-peak.ensures;
    }
