use Rattle.std.proofs.Common.{ℕ, [], Err, ⊎_elim, refl, sym, ap, subst, ◌∙◌}
use Rattle.store_opening.specs.declared.open_refusal.OpenRefusal.{OpenRefusal}
use Rattle.store_opening.specs.declared.open_refusal.OpenRefusal.TheVariants as refusal
use Rattle.stream_writing.specs.declared.ship_refusal.ShipRefusal.TheVariants.{Unread}
use Rattle.script_lines.specs.Output.{EndsWith, open_refusal_line}
use Rattle.brahma_shell.specs.declared.ended.Ended.TheVariants.{Shut}
use Rattle.brahma_shell.specs.Top.{outside}
use Rattle.brahma_shell.specs.Shipped.{Shipped}
use Rattle.brahma_shell.proofs.ShippedLemmas.{behind-text, ships-unread}
use Rattle.brahma_shell.proofs.shipping.ship_log.Goals as goal

pub returns-in-Err-Unread-clause-shipped : goal.returns-in-Err-Unread-clause-shipped
returns-in-Err-Unread-clause-shipped g c left reads =
    let e = c.in-Err-Unread.refusal in
    let at = c.in-Err-Unread.ensures in
    let told = ap Err c.in-Err-Unread.field-0-is in
    let old = g.W.Sink.written c.args.out.now in
    let mid = g.W.Sink.written c.ship.new.out in
    let new = g.W.Sink.written c.refuse.new.out in
    let n = g.W.Sink.faults c.refuse.new.out in
    let kept = at.cause.sink_kept (λ w. absurd (cc (sym told ∙ w))) in
    subst (λ (status : ℕ). Shipped g.D.Disk.content g.D.Disk.may_leave g.D.Disk.moment g.D.Disk.left_since c.args.disk (outside left reads old (g.W.Sink.faults c.args.out.now) (g.D.Disk.faults c.args.disk))
    (outside left reads new n (g.D.Disk.faults c.ship.new.disk)) status (Shut c.ship.new.disk)) (sym c.refuse.ensures.status)
    (ships-unread g.D.Disk.content g.D.Disk.may_leave g.D.Disk.moment g.D.Disk.left_since c.args.disk (outside left reads old (g.W.Sink.faults c.args.out.now) (g.D.Disk.faults c.args.disk))
    (outside left reads new n (g.D.Disk.faults c.ship.new.disk)) (Shut c.ship.new.disk) refl at.looks e (at.of_log e told) (at.refused e told)
    (λ disk. at.cause.disk_failed (told ∙ ap (λ (x : OpenRefusal). Err (Unread x)) disk))
    (λ disk.
    let cut = at.cut (told ∙ ap (λ (x : OpenRefusal). Err (Unread x)) disk) in (
      cut.0,
      behind-text old mid new (g.W.Sink.faults c.args.out.now) (g.W.Sink.faults c.ship.new.out) n cut.0 (open_refusal_line refusal.Disk) cut.1 kept
          (subst (λ (x : OpenRefusal). EndsWith mid new (g.W.Sink.faults c.ship.new.out) n [] (open_refusal_line x)) disk c.refuse.ensures.last),
      cut.2,
    ))
    (λ other.
    behind-text old mid new (g.W.Sink.faults c.args.out.now) (g.W.Sink.faults c.ship.new.out) n [] (open_refusal_line e)
    (⊎_elim (λ disk. absurd (other disk)) (λ none. none) (at.unwritten e told)) kept c.refuse.ensures.last))
