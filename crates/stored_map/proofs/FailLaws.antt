-- The refusal that every id is stored.
use Rattle.std.proofs.Common.{◌≡◌, true, false, refl, ap, subst}
use Rattle.plain_model.specs.declared.calls.Reply.{Reply}
use Rattle.plain_model.specs.declared.calls.Reply.TheVariants as reply
use Rattle.object_map.specs.declared.refusal.MapRefusal.{MapRefusal}
use Rattle.object_map.specs.declared.refusal.MapRefusal.TheVariants as refusal
use Rattle.object_map.specs.Clients.{no_id}
use Rattle.stored_map.specs.Steps.{is_full}

full_reply : (r : Reply) → is_full (refusal.Store r) ≡ true → r ≡ reply.Full
full_reply reply.Done h = absurd (cc (h))
full_reply (reply.Id id) h = absurd (cc (h))
full_reply (reply.Pay payload) h = absurd (cc (h))
full_reply reply.NoTxn h = absurd (cc (h))
full_reply reply.HasTxn h = absurd (cc (h))
full_reply reply.Aborting h = absurd (cc (h))
full_reply (reply.EmptyRegister reg) h = absurd (cc (h))
full_reply reply.NotShared h = absurd (cc (h))
full_reply (reply.Busy pass) h = absurd (cc (h))
full_reply reply.Full h = refl
full_reply reply.Memory h = absurd (cc (h))
full_reply reply.TraceFull h = absurd (cc (h))
full_reply reply.LogFull h = absurd (cc (h))
full_reply reply.DiskFault h = absurd (cc (h))
full_reply (reply.Again word seat) h = absurd (cc (h))
full_reply (reply.Stopped faults) h = absurd (cc (h))

pub is_no_id : (why : MapRefusal) → is_full why ≡ true → why ≡ no_id
is_no_id refusal.Memory h = absurd (cc (h))
is_no_id (refusal.NotMap id) h = absurd (cc (h))
is_no_id (refusal.Store r) h = ap (λ (x : Reply). refusal.Store x) (full_reply r h)

pub not_no_id : (why : MapRefusal) → is_full why ≡ false → why ≡ no_id → ⊥
not_no_id why h e = (let f : is_full no_id ≡ false = subst (λ (w : MapRefusal). is_full w ≡ false) e h in absurd (cc (f)))
