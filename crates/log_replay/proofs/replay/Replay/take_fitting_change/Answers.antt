use Rattle.std.proofs.Common.{◌*◌, ℕ, List, length, sym, subst}
use Rattle.restart_laws.specs.Unended.{Unended}
use Rattle.log_record.specs.Changes.{change_record}
use Rattle.log_replay.specs.Placed.{AreStoreEntries}
use Rattle.log_replay.specs.Replays.{Replaying, IsWithin}
use Rattle.log_replay.proofs.PlacedLaws.{placed_after}
use Rattle.log_replay.proofs.replay.Replay.take_fitting_change.Goals as goal

pub invariant_of-self : goal.invariant_of-self
invariant_of-self g c =
    let i = c.self.invariant in
    let ids = 8 * length c.self.inside.skip.items in
    let within = subst (λ (v : Replaying). IsWithin (8 * length v.skips) (change_record c.args.change)) (sym c.self.view_is) c.requires.within in
    record {
      slot_count = i.slot_count;
      sized = i.sized;
      some = i.some;
      most = i.most;
      placed = subst (λ (us : List (ℕ × Unended)). AreStoreEntries g.row.SLOTS ids us) (sym c.in-Ok.ensures.ok)
          (placed_after g.row.SLOTS ids c.self.inside.unended.entries (change_record c.args.change) c.requires.spelled within i.placed);
    }
