use Rattle.std.proofs.Common.{◌≡◌, sym, ap, ◌∙◌, subst, IfOk, IfErr, OnOk, IsSome, []}
use Rattle.object_map.specs.Maps.{payload_of}
use Rattle.object_map.specs.Seen.{at, held, held_id}
use Rattle.object_map.specs.Clients.{ClientView, client_at, seen, Asks, Falls}
use Rattle.object_map.proofs.AskLaws.{out}
use Rattle.object_map.proofs.ClientLaws.{PayDone, pay_done, client_same}
use Rattle.object_map.proofs.client.Client.get_pay.Goals as goal

-- the store refused the call
pub invariant_of-self : goal.invariant_of-self
invariant_of-self g c = client_same c.self.inside.store c.ask.new.store c.self.inside.number c.self.invariant c.in_err-reply.ensures.running c.in_err-reply.ensures.same

pub returns-in_err-reply-clause-refused : goal.returns-in_err-reply-clause-refused
returns-in_err-reply-clause-refused g c = out c.from_residual.result _ c.from_residual.ensures.1 (subst (λ (v : ClientView g.row.D.Denot). Falls 0 c.in_err-reply.field-0.0 v (client_at c.ask.new.store c.self.inside.number)) c.self.view_is c.in_err-reply.ensures.refused)

pub invariant_of-self-2 : goal.invariant_of-self-2
invariant_of-self-2 g c =
    let R : PayDone c.args.r c.self.inside.store c.ask.new.store c.self.inside.number c.in_ok-reply.reply = pay_done c.args.r c.self.inside.store c.ask.new.store c.self.inside.number c.in_ok-reply.reply c.self.invariant (subst (λ (v : ClientView g.row.D.Denot). IsSome (held (seen v) c.args.r)) (sym c.self.view_is) c.requires.full) c.in_ok-reply.ensures.step c.in_ok-reply.ensures.asked c.ask.ensures.running in
    R.client

pub returns-clause-ok : goal.returns-clause-ok
returns-clause-ok g c =
    let R : PayDone c.args.r c.self.inside.store c.ask.new.store c.self.inside.number c.in_ok-reply.reply = pay_done c.args.r c.self.inside.store c.ask.new.store c.self.inside.number c.in_ok-reply.reply c.self.invariant (subst (λ (v : ClientView g.row.D.Denot). IsSome (held (seen v) c.args.r)) (sym c.self.view_is) c.requires.full) c.in_ok-reply.ensures.step c.in_ok-reply.ensures.asked c.ask.ensures.running in
    subst (λ q. IfOk q (λ value. value ≡ payload_of (at (seen c.args.self.now) (held_id (seen c.args.self.now) c.args.r)))) (sym (c.payload_in.ensures (payload_of (at (seen (client_at c.self.inside.store c.self.inside.number)) (held_id (seen (client_at c.self.inside.store c.self.inside.number)) c.args.r))) R.told)) (ap (λ (v : ClientView g.row.D.Denot). payload_of (at (seen v) (held_id (seen v) c.args.r))) c.self.view_is)

pub returns-clause-same : goal.returns-clause-same
returns-clause-same g c =
    let R : PayDone c.args.r c.self.inside.store c.ask.new.store c.self.inside.number c.in_ok-reply.reply = pay_done c.args.r c.self.inside.store c.ask.new.store c.self.inside.number c.in_ok-reply.reply c.self.invariant (subst (λ (v : ClientView g.row.D.Denot). IsSome (held (seen v) c.args.r)) (sym c.self.view_is) c.requires.full) c.in_ok-reply.ensures.step c.in_ok-reply.ensures.asked c.ask.ensures.running in
    subst (λ q. OnOk q (seen (client_at c.ask.new.store c.self.inside.number) ≡ seen c.args.self.now)) (sym (c.payload_in.ensures (payload_of (at (seen (client_at c.self.inside.store c.self.inside.number)) (held_id (seen (client_at c.self.inside.store c.self.inside.number)) c.args.r))) R.told)) (R.same ∙ ap (λ (v : ClientView g.row.D.Denot). seen v) c.self.view_is)

pub returns-clause-asks : goal.returns-clause-asks
returns-clause-asks g c =
    let R : PayDone c.args.r c.self.inside.store c.ask.new.store c.self.inside.number c.in_ok-reply.reply = pay_done c.args.r c.self.inside.store c.ask.new.store c.self.inside.number c.in_ok-reply.reply c.self.invariant (subst (λ (v : ClientView g.row.D.Denot). IsSome (held (seen v) c.args.r)) (sym c.self.view_is) c.requires.full) c.in_ok-reply.ensures.step c.in_ok-reply.ensures.asked c.ask.ensures.running in
    subst (λ q. OnOk q (Asks 1 [] c.args.self.now (client_at c.ask.new.store c.self.inside.number))) (sym (c.payload_in.ensures (payload_of (at (seen (client_at c.self.inside.store c.self.inside.number)) (held_id (seen (client_at c.self.inside.store c.self.inside.number)) c.args.r))) R.told)) (subst (λ (v : ClientView g.row.D.Denot). Asks 1 [] v (client_at c.ask.new.store c.self.inside.number)) c.self.view_is R.asks)

pub returns-clause-refused : goal.returns-clause-refused
returns-clause-refused g c =
    let R : PayDone c.args.r c.self.inside.store c.ask.new.store c.self.inside.number c.in_ok-reply.reply = pay_done c.args.r c.self.inside.store c.ask.new.store c.self.inside.number c.in_ok-reply.reply c.self.invariant (subst (λ (v : ClientView g.row.D.Denot). IsSome (held (seen v) c.args.r)) (sym c.self.view_is) c.requires.full) c.in_ok-reply.ensures.step c.in_ok-reply.ensures.asked c.ask.ensures.running in
    subst (λ q. IfErr q (λ why. Falls 0 why c.args.self.now (client_at c.ask.new.store c.self.inside.number))) (sym (c.payload_in.ensures (payload_of (at (seen (client_at c.self.inside.store c.self.inside.number)) (held_id (seen (client_at c.self.inside.store c.self.inside.number)) c.args.r))) R.told)) tt
