use Rattle.std.proofs.Common.{sym, subst, IfErr, OnOk, IsSome, []}
use Rattle.std.specs.Prelude.{IfSome, ◌∷◌}
use Rattle.std.specs.Option.{option_map_or}
use Rattle.plain_model.specs.declared.calls.Call.TheVariants as call
use Rattle.plain_model.specs.declared.write.Place.TheVariants.{Slot}
use Rattle.object_map.specs.Seen.{held, held_id, Writes}
use Rattle.object_map.specs.Clients.{ClientView, client_at, seen, Asks, Falls}
use Rattle.object_map.proofs.AskLaws.{out}
use Rattle.object_map.proofs.ClientLaws.{WriteDone, store_done, client_same}
use Rattle.object_map.proofs.client.Client.store.Goals as goal

-- the store refused the call
pub invariant_of-self : goal.invariant_of-self
invariant_of-self g c = client_same c.self.inside.store c.ask.new.store c.self.inside.number c.self.invariant c.in_err-reply.ensures.running c.in_err-reply.ensures.same

pub returns-in_err-reply-clause-refused : goal.returns-in_err-reply-clause-refused
returns-in_err-reply-clause-refused g c = out c.from_residual.result _ c.from_residual.ensures.1 (subst (λ (v : ClientView g.row.D.Denot). Falls 0 c.in_err-reply.field-0.0 v (client_at c.ask.new.store c.self.inside.number)) c.self.view_is c.in_err-reply.ensures.refused)

pub invariant_of-self-2 : goal.invariant_of-self-2
invariant_of-self-2 g c =
    let R : WriteDone (call.Store c.args.r c.args.slot c.args.from) (held_id (seen (client_at c.self.inside.store c.self.inside.number)) c.args.r) (Slot c.args.slot) (option_map_or (held_id (seen (client_at c.self.inside.store c.self.inside.number))) c.args.from 0) c.self.inside.store c.ask.new.store c.self.inside.number c.in_ok-reply.reply = store_done c.args.r c.args.slot c.args.from c.self.inside.store c.ask.new.store c.self.inside.number c.in_ok-reply.reply c.self.invariant (subst (λ (v : ClientView g.row.D.Denot). IsSome (held (seen v) c.args.r)) (sym c.self.view_is) c.requires.full) (subst (λ (v : ClientView g.row.D.Denot). IfSome c.args.from (λ f. IsSome (held (seen v) f))) (sym c.self.view_is) c.requires.source_full) c.in_ok-reply.ensures.step c.in_ok-reply.ensures.asked c.ask.ensures.running in
    R.client

pub returns-clause-ok : goal.returns-clause-ok
returns-clause-ok g c =
    let R : WriteDone (call.Store c.args.r c.args.slot c.args.from) (held_id (seen (client_at c.self.inside.store c.self.inside.number)) c.args.r) (Slot c.args.slot) (option_map_or (held_id (seen (client_at c.self.inside.store c.self.inside.number))) c.args.from 0) c.self.inside.store c.ask.new.store c.self.inside.number c.in_ok-reply.reply = store_done c.args.r c.args.slot c.args.from c.self.inside.store c.ask.new.store c.self.inside.number c.in_ok-reply.reply c.self.invariant (subst (λ (v : ClientView g.row.D.Denot). IsSome (held (seen v) c.args.r)) (sym c.self.view_is) c.requires.full) (subst (λ (v : ClientView g.row.D.Denot). IfSome c.args.from (λ f. IsSome (held (seen v) f))) (sym c.self.view_is) c.requires.source_full) c.in_ok-reply.ensures.step c.in_ok-reply.ensures.asked c.ask.ensures.running in
    subst (λ q. OnOk q (Writes (held_id (seen c.args.self.now) c.args.r) (Slot c.args.slot) (option_map_or (held_id (seen c.args.self.now)) c.args.from 0) (seen c.args.self.now) (seen (client_at c.ask.new.store c.self.inside.number)))) (sym (c.done_in.ensures R.told)) (subst (λ (v : ClientView g.row.D.Denot). Writes (held_id (seen v) c.args.r) (Slot c.args.slot) (option_map_or (held_id (seen v)) c.args.from 0) (seen v) (seen (client_at c.ask.new.store c.self.inside.number))) c.self.view_is R.writes)

pub returns-clause-asks : goal.returns-clause-asks
returns-clause-asks g c =
    let R : WriteDone (call.Store c.args.r c.args.slot c.args.from) (held_id (seen (client_at c.self.inside.store c.self.inside.number)) c.args.r) (Slot c.args.slot) (option_map_or (held_id (seen (client_at c.self.inside.store c.self.inside.number))) c.args.from 0) c.self.inside.store c.ask.new.store c.self.inside.number c.in_ok-reply.reply = store_done c.args.r c.args.slot c.args.from c.self.inside.store c.ask.new.store c.self.inside.number c.in_ok-reply.reply c.self.invariant (subst (λ (v : ClientView g.row.D.Denot). IsSome (held (seen v) c.args.r)) (sym c.self.view_is) c.requires.full) (subst (λ (v : ClientView g.row.D.Denot). IfSome c.args.from (λ f. IsSome (held (seen v) f))) (sym c.self.view_is) c.requires.source_full) c.in_ok-reply.ensures.step c.in_ok-reply.ensures.asked c.ask.ensures.running in
    subst (λ q. OnOk q (Asks 0 (call.Store c.args.r c.args.slot c.args.from ∷ []) c.args.self.now (client_at c.ask.new.store c.self.inside.number))) (sym (c.done_in.ensures R.told)) (subst (λ (v : ClientView g.row.D.Denot). Asks 0 (call.Store c.args.r c.args.slot c.args.from ∷ []) v (client_at c.ask.new.store c.self.inside.number)) c.self.view_is R.asks)

pub returns-clause-refused : goal.returns-clause-refused
returns-clause-refused g c =
    let R : WriteDone (call.Store c.args.r c.args.slot c.args.from) (held_id (seen (client_at c.self.inside.store c.self.inside.number)) c.args.r) (Slot c.args.slot) (option_map_or (held_id (seen (client_at c.self.inside.store c.self.inside.number))) c.args.from 0) c.self.inside.store c.ask.new.store c.self.inside.number c.in_ok-reply.reply = store_done c.args.r c.args.slot c.args.from c.self.inside.store c.ask.new.store c.self.inside.number c.in_ok-reply.reply c.self.invariant (subst (λ (v : ClientView g.row.D.Denot). IsSome (held (seen v) c.args.r)) (sym c.self.view_is) c.requires.full) (subst (λ (v : ClientView g.row.D.Denot). IfSome c.args.from (λ f. IsSome (held (seen v) f))) (sym c.self.view_is) c.requires.source_full) c.in_ok-reply.ensures.step c.in_ok-reply.ensures.asked c.ask.ensures.running in
    subst (λ q. IfErr q (λ why. Falls 0 why c.args.self.now (client_at c.ask.new.store c.self.inside.number))) (sym (c.done_in.ensures R.told)) tt
