use Rattle.std.proofs.Common.{refl}
use Rattle.std.proofs.lemmas.Result.{IfOk-weaker, IfErr-weaker}
use Rattle.stored_map.proofs.LookLaws.{stays_then}
use Rattle.stored_map.proofs.FindLaws.{unread_before}
use Rattle.stored_map.proofs.finding.look.Goals as goal

pub begin-requires-clause-quiet : goal.begin-requires-clause-quiet
begin-requires-clause-quiet g c κs within = c.requires.quiet

pub look_at-requires-clause-begun : goal.look_at-requires-clause-begun
look_at-requires-clause-begun g c κs within = c.in-Ok.ensures.begun

pub returns-in-Ok-clause-stays : goal.returns-in-Ok-clause-stays
returns-in-Ok-clause-stays g c = IfOk-weaker c.look_at.result _ _ (λ s h. stays_then c.args.store c.begin.new.store s c.in-Ok.ensures.stays h) c.look_at.ensures.stays

pub returns-in-Ok-clause-refused : goal.returns-in-Ok-clause-refused
returns-in-Ok-clause-refused g c = IfErr-weaker c.look_at.result _ _ (λ e h. unread_before c.args.store c.begin.new.store e.0 e.1 c.in-Ok.ensures.stays h) c.look_at.ensures.refused

pub returns-in-Err-clause-refused : goal.returns-in-Err-clause-refused
returns-in-Err-clause-refused g c = (c.begin.new.store, refl, c.in-Err.ensures.refused)
