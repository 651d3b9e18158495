use Rattle.std.proofs.Common.{◌≡◌, true, sym, subst}
use Rattle.disk_model.specs.Time.{LeavesOnlyImages}
use Rattle.plain_model.specs.declared.calls.Call.TheVariants as call
use Rattle.logged_journal.specs.Opens.{OpensDuring}
use Rattle.object_store.specs.Seen.{object_slots, client}
use Rattle.object_store.specs.Handles.{StoreView, store_at, is_live}
use Rattle.object_store.proofs.KeptLaws.{live_open}
use Rattle.object_store.proofs.StartLaws.{CommitTold, commit_told, kept_committed}
use Rattle.object_store.proofs.store.Store.commit.Goals as goal

pub invariant_of-self : goal.invariant_of-self
invariant_of-self g c = kept_committed g.D.Disk.faults c.self.inside.framed c.commit.new.below c.self.inside.table c.commit.result c.commit.ensures.done c.commit.ensures.failed

pub returns : goal.returns
returns g c =
    let l = live_open c.self.inside.framed c.self.inside.table c.self.invariant (subst (λ (s : StoreView g.row.D.Denot). is_live s ≡ true) (sym c.self.view_is) c.requires.live) in
    let told = commit_told {n = c.self.inside.tending} g.D.Disk.faults c.self.inside.framed c.commit.new.below c.self.inside.table c.commit.result l.running c.commit.ensures.done c.commit.ensures.failed in
    let t = subst (λ (s : StoreView g.row.D.Denot). CommitTold g.D.Disk.faults c.commit.result s (store_at c.self.inside.tending c.commit.new.below c.self.inside.table)) c.self.view_is told in
    record {
      done = t.done;
      failed = t.failed;
      opens = subst (λ (s : StoreView g.row.D.Denot). LeavesOnlyImages g.D.Disk.moment g.D.Disk.left_since s.below.disk c.commit.new.below.disk (OpensDuring object_slots s.below client call.Commit)) c.self.view_is c.commit.ensures.opens;
    }
