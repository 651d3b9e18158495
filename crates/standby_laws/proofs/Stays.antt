-- What is after a front of the commits stays so while the store goes on.
use Rattle.std.proofs.Common.{◌≡◌, ℕ, zero, suc, ◌≤◌, List, [], ◌∷◌, ◌++◌, refl, sym, ap, ap₂, ◌∙◌, subst, arith, length, length-append, append-nil}
use Rattle.std.specs.Prelude.{true, false, slice_index_or}
use Rattle.std.proofs.Math.ListN.{get_or-append}
use Rattle.plain_model.specs.declared.object.Object.{Object}
use Rattle.plain_model.specs.declared.calls.Call.{Call as TransactionCall}
use Rattle.plain_model.specs.declared.calls.Call.TheVariants.{Begin, Read, Make, Store, GetPay, SetPay, Commit, Abort}
use Rattle.plain_model.specs.declared.calls.Reply.{Reply}
use Rattle.plain_model.specs.declared.calls.Reply.TheVariants.{Done, DiskFault}
use Rattle.plain_model.specs.declared.calls.Entry.{Entry}
use Rattle.plain_model.specs.declared.calls.Entry.TheVariants.{Call, Delete, Hidden, Undo, TurnBusy, Crash}
use Rattle.plain_model.specs.History.{Moment, CommitPoint, next, moment_after, SameReachable, graph_after, IsCrashConsistent}
use Rattle.plain_laws.specs.Sound.{is_crash}
use Rattle.standby_laws.specs.Fronts.{IsAfterFront, AreWithoutCrash, StaysLaw}

stays-by : (m n : Moment) (g : List Object) (more : List CommitPoint) → n.opened ≡ m.opened → n.commits ≡ m.commits ++ more → IsAfterFront m g → IsAfterFront n g
stays-by m n g more o c h =
    let w = h.within in
    let len = ap (λ (l : List CommitPoint). length l) c ∙ length-append m.commits more in
    record {
      prefix = h.prefix;
      within = omega (arith, w, len);
      reachable = subst (λ x. SameReachable g x) (sym (before h.prefix w)) h.reachable;
    }
  where
    before : (k : ℕ) → k ≤ length m.commits → graph_after n k ≡ graph_after m k
    before zero w = o
    before (suc k) w =
        let d : CommitPoint = record { graph = m.opened; acknowledged = true } in
        ap₂ (λ g (cs : List CommitPoint). (slice_index_or cs k (record { graph = g; acknowledged = true })).graph) o c ∙ ap (λ (c : CommitPoint). c.graph) (get_or-append m.commits more d k (omega (arith, w)))

stays-call : (m : Moment) (pass : ℕ) (g : List Object) (call : TransactionCall) (reply : Reply) → IsAfterFront m g → IsAfterFront (next m (Call pass call reply)) g
stays-call m pass g Commit Done h =
    let n = next m (Call pass Commit Done) in
    stays-by m n g (record { graph = n.state.committed; acknowledged = true } ∷ []) refl refl h
stays-call m pass g Commit DiskFault h =
    let n = next m (Call pass Commit DiskFault) in
    stays-by m n g (record { graph = n.state.committed; acknowledged = false } ∷ []) refl refl h
stays-call m pass g call reply h = stays-by m (next m (Call pass call reply)) g [] refl (sym (append-nil m.commits)) h

stays-next : (m : Moment) (g : List Object) (e : Entry) → is_crash e ≡ false → IsAfterFront m g → IsAfterFront (next m e) g
stays-next m g (Call pass call reply) going h = stays-call m pass g call reply h
stays-next m g (Delete id) going h = stays-by m (next m (Delete id)) g [] refl (sym (append-nil m.commits)) h
stays-next m g Hidden going h = h
stays-next m g (Undo pass) going h = stays-by m (next m (Undo pass)) g [] refl (sym (append-nil m.commits)) h
stays-next m g (TurnBusy pass) going h = h
stays-next m g (Crash cells) going h = cc

stays-all : (m : Moment) (es : List Entry) (g : List Object) → AreWithoutCrash es → IsAfterFront m g → IsAfterFront (moment_after m es) g
stays-all m [] g going h = h
stays-all m (e ∷ es) g going h = stays-all (next m e) es g going.1 (stays-next m g e going.0 h)

pub front-stays : StaysLaw
front-stays m es g going h = stays-all m es g going (record { prefix = h.prefix; within = h.within; reachable = h.reachable })
