use Rattle.std.proofs.Common.{◌∙◌, refl, sym, subst}
use Rattle.strict_locks.specs.Clients.{AreListed}
use Rattle.strict_locks.proofs.IndexLaws.{AreListed-note, AreListed-again, AreListed-undo}
use Rattle.strict_locks.proofs.LockLaws.{AddsHolder-share}
use Rattle.strict_locks.proofs.lock_table.LockTable.share.Goals as goal

pub invariant_of-self-in-Held : goal.invariant_of-self-in-Held
invariant_of-self-in-Held c =
    let adds = AddsHolder-share _ _ c.args.pass c.args.id c.in_ok-share-in-Held.ensures.adds in
    record {
      held = c.in_ok-share-in-Held.ensures.held c.self.invariant.held;
      listed = AreListed-again _ _ _ c.args.pass c.args.id adds c.in-Held.ensures.1 c.self.invariant.listed;
    }

pub invariant_of-self-in-Ok : goal.invariant_of-self-in-Ok
invariant_of-self-in-Ok c =
    let lists = c.self.inside.lists.items in
    let adds = AddsHolder-share _ _ c.args.pass c.args.id c.in-Ok.ensures.adds in
    record {
      held = c.share-2.ensures.held c.self.invariant.held;
      listed = AreListed-note _ _ lists lists _ c.args.pass c.args.id adds (λ p. refl) c.in_ok-add.ensures.ok c.self.invariant.listed;
    }

pub invariant_of-self-in-Err : goal.invariant_of-self-in-Err
invariant_of-self-in-Err c =
    let absent = c.self.invariant.listed c.args.id c.args.pass ∙ c.in-Free.ensures.1 in
    record {
      held = c.share-2.ensures.held c.self.invariant.held;
      listed = subst (λ t. AreListed t c.take_out.new.lists.items) (sym c.in-Err.ensures.err) (AreListed-undo _ c.self.inside.lists.items _ _ c.args.pass c.args.id c.in_ok-add.ensures.ok c.take_out.ensures absent c.self.invariant.listed);
    }
