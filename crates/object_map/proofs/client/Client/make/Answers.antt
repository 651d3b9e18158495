use Rattle.std.proofs.Common.{sym, subst, IfOk, IfErr, OnOk, ⊎_elim, []}
use Rattle.std.specs.Prelude.{◌∷◌}
use Rattle.plain_model.specs.declared.calls.Call.TheVariants as call
use Rattle.object_map.specs.Seen.{Makes}
use Rattle.object_map.specs.Clients.{ClientView, client_at, seen, Asks, Falls}
use Rattle.object_map.specs.declared.refusal.MapRefusal.TheVariants as refusal
use Rattle.object_map.proofs.AskLaws.{out, falls_within, more}
use Rattle.object_map.proofs.ClientLaws.{full_refusal, MakeDone, MakeFull, make_done, client_same}
use Rattle.object_map.proofs.client.Client.make.Goals as goal

-- the store refused the call
pub invariant_of-self : goal.invariant_of-self
invariant_of-self g c = client_same c.self.inside.store c.ask.new.store c.self.inside.number c.self.invariant c.in_err-reply.ensures.running c.in_err-reply.ensures.same

pub returns-in_err-reply-clause-refused : goal.returns-in_err-reply-clause-refused
returns-in_err-reply-clause-refused g c = out c.from_residual.result _ c.from_residual.ensures.1 (falls_within (more 1) (subst (λ (v : ClientView g.row.D.Denot). Falls 0 c.in_err-reply.field-0.0 v (client_at c.ask.new.store c.self.inside.number)) c.self.view_is c.in_err-reply.ensures.refused))

pub invariant_of-self-2 : goal.invariant_of-self-2
invariant_of-self-2 g c = ⊎_elim (λ (n : MakeFull c.self.inside.store c.ask.new.store c.self.inside.number c.in_ok-reply.reply). n.client) (λ (m : MakeDone c.args.into c.self.inside.store c.ask.new.store c.self.inside.number c.in_ok-reply.reply). m.client)
    (make_done c.args.into c.self.inside.store c.ask.new.store c.self.inside.number c.in_ok-reply.reply c.self.invariant c.requires.target c.requires.rooted c.in_ok-reply.ensures.step c.in_ok-reply.ensures.asked c.ask.ensures.running)

pub returns-clause-ok : goal.returns-clause-ok
returns-clause-ok g c = ⊎_elim
    (λ (n : MakeFull c.self.inside.store c.ask.new.store c.self.inside.number c.in_ok-reply.reply). subst (λ q. IfOk q (λ id. Makes c.args.into id (seen c.args.self.now) (seen (client_at c.ask.new.store c.self.inside.number)))) (sym (c.id_in.ensures.full n.told)) tt)
    (λ (m : MakeDone c.args.into c.self.inside.store c.ask.new.store c.self.inside.number c.in_ok-reply.reply). subst (λ q. IfOk q (λ id. Makes c.args.into id (seen c.args.self.now) (seen (client_at c.ask.new.store c.self.inside.number)))) (sym (c.id_in.ensures.id m.id m.told)) (subst (λ (v : ClientView g.row.D.Denot). Makes c.args.into m.id (seen v) (seen (client_at c.ask.new.store c.self.inside.number))) c.self.view_is m.makes_it))
    (make_done c.args.into c.self.inside.store c.ask.new.store c.self.inside.number c.in_ok-reply.reply c.self.invariant c.requires.target c.requires.rooted c.in_ok-reply.ensures.step c.in_ok-reply.ensures.asked c.ask.ensures.running)

pub returns-clause-asks : goal.returns-clause-asks
returns-clause-asks g c = ⊎_elim
    (λ (n : MakeFull c.self.inside.store c.ask.new.store c.self.inside.number c.in_ok-reply.reply). subst (λ q. OnOk q (Asks 0 (call.Make c.args.into ∷ []) c.args.self.now (client_at c.ask.new.store c.self.inside.number))) (sym (c.id_in.ensures.full n.told)) tt)
    (λ (m : MakeDone c.args.into c.self.inside.store c.ask.new.store c.self.inside.number c.in_ok-reply.reply). subst (λ q. OnOk q (Asks 0 (call.Make c.args.into ∷ []) c.args.self.now (client_at c.ask.new.store c.self.inside.number))) (sym (c.id_in.ensures.id m.id m.told)) (subst (λ (v : ClientView g.row.D.Denot). Asks 0 (call.Make c.args.into ∷ []) v (client_at c.ask.new.store c.self.inside.number)) c.self.view_is m.asks))
    (make_done c.args.into c.self.inside.store c.ask.new.store c.self.inside.number c.in_ok-reply.reply c.self.invariant c.requires.target c.requires.rooted c.in_ok-reply.ensures.step c.in_ok-reply.ensures.asked c.ask.ensures.running)

pub returns-clause-refused : goal.returns-clause-refused
returns-clause-refused g c = ⊎_elim
    (λ (n : MakeFull c.self.inside.store c.ask.new.store c.self.inside.number c.in_ok-reply.reply). subst (λ q. IfErr q (λ why. Falls 1 why c.args.self.now (client_at c.ask.new.store c.self.inside.number))) (sym (c.id_in.ensures.full n.told)) (subst (λ (v : ClientView g.row.D.Denot). Falls 1 (refusal.Store c.in_ok-reply.reply) v (client_at c.ask.new.store c.self.inside.number)) c.self.view_is (subst (λ y. Falls 1 y (client_at c.self.inside.store c.self.inside.number) (client_at c.ask.new.store c.self.inside.number)) (full_refusal c.in_ok-reply.reply n.told) n.falls)))
    (λ (m : MakeDone c.args.into c.self.inside.store c.ask.new.store c.self.inside.number c.in_ok-reply.reply). subst (λ q. IfErr q (λ why. Falls 1 why c.args.self.now (client_at c.ask.new.store c.self.inside.number))) (sym (c.id_in.ensures.id m.id m.told)) tt)
    (make_done c.args.into c.self.inside.store c.ask.new.store c.self.inside.number c.in_ok-reply.reply c.self.invariant c.requires.target c.requires.rooted c.in_ok-reply.ensures.step c.in_ok-reply.ensures.asked c.ask.ensures.running)
