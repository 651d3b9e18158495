use Rattle.std.proofs.Common.{[], None, subst}
use Rattle.plain_model.specs.Graphs.{root}
use Rattle.object_map.specs.Clients.{seen}
use Rattle.object_map.specs.Maps.{slot_of}
use Rattle.object_map.specs.Seen.{at}
use Rattle.object_map.specs.Telling.{Tells}
use Rattle.object_map.specs.Walking.{IsReached}
use Rattle.object_map.proofs.AskLaws.{out}
use Rattle.object_map.proofs.GrowLaws.{moved, moved_on}
use Rattle.object_map.proofs.WalkLaws.{looks_then, refuses_after}
use Rattle.object_map.proofs.TellLaws.{mixed_wrong, parted_right}
use Rattle.object_map.proofs.SpanLaws.{not_true, not_false}
use Rattle.object_map.proofs.blaming.has_wrong_key.Goals as goal

pub tell-requires-2-clause-way : goal.tell-requires-2-clause-way
tell-requires-2-clause-way g c κs within = λ n.
    moved_on (seen c.args.client.now) (seen c.tell.new.client) (λ f. IsReached f c.args.fork.turned c.args.fork.bit (slot_of (f root) 13) c.args.fork.high) c.in_ok-low.ensures.looks.graph c.requires.fork.high_way

pub returns-in_err-high-clause-refused : goal.returns-in_err-high-clause-refused
returns-in_err-high-clause-refused g c = out c.from_residual-in_err-high.result _ c.from_residual-in_err-high.ensures.1 (refuses_after c.in_ok-low.ensures.looks (λ (n : ⊥). n) c.in_err-high.ensures.refused)

pub returns-clause-yes : goal.returns-clause-yes
returns-clause-yes g c = λ e.
    let a : Tells (at (seen c.args.client.now)) c.args.fork.bit c.args.fork.low [] c.tell.new.told.keys None c.in_ok-low.low = subst (λ ks. Tells (at (seen c.args.client.now)) c.args.fork.bit c.args.fork.low ks c.tell.new.told.keys None c.in_ok-low.low) c.new-met.ensures.empty c.in_ok-low.ensures.tells in
    let b : Tells (at (seen c.args.client.now)) c.args.fork.bit c.args.fork.high [] c.tell-2.new.told.keys None c.in_ok-high.high = subst (λ ks. Tells (at (seen c.args.client.now)) c.args.fork.bit c.args.fork.high ks c.tell-2.new.told.keys None c.in_ok-high.high) c.new-others.ensures.empty
    (moved (seen c.args.client.now) (seen c.tell.new.client) (λ f. Tells f c.args.fork.bit c.args.fork.high c.new-others.result.keys c.tell-2.new.told.keys None c.in_ok-high.high) c.in_ok-low.ensures.looks.graph c.in_ok-high.ensures.tells) in
    mixed_wrong (at (seen c.args.client.now)) (slot_of (at (seen c.args.client.now) root) 13) c.args.fork c.tell.new.told.keys c.tell-2.new.told.keys c.in_ok-low.low c.in_ok-high.high c.requires.fork a b (c.do_spans_part-part.ensures.no (not_true _ e))

pub returns-clause-no : goal.returns-clause-no
returns-clause-no g c = λ e.
    let a : Tells (at (seen c.args.client.now)) c.args.fork.bit c.args.fork.low [] c.tell.new.told.keys None c.in_ok-low.low = subst (λ ks. Tells (at (seen c.args.client.now)) c.args.fork.bit c.args.fork.low ks c.tell.new.told.keys None c.in_ok-low.low) c.new-met.ensures.empty c.in_ok-low.ensures.tells in
    let b : Tells (at (seen c.args.client.now)) c.args.fork.bit c.args.fork.high [] c.tell-2.new.told.keys None c.in_ok-high.high = subst (λ ks. Tells (at (seen c.args.client.now)) c.args.fork.bit c.args.fork.high ks c.tell-2.new.told.keys None c.in_ok-high.high) c.new-others.ensures.empty
    (moved (seen c.args.client.now) (seen c.tell.new.client) (λ f. Tells f c.args.fork.bit c.args.fork.high c.new-others.result.keys c.tell-2.new.told.keys None c.in_ok-high.high) c.in_ok-low.ensures.looks.graph c.in_ok-high.ensures.tells) in
    parted_right (at (seen c.args.client.now)) (slot_of (at (seen c.args.client.now) root) 13) c.args.fork c.tell.new.told.keys c.tell-2.new.told.keys c.in_ok-low.low c.in_ok-high.high c.requires.fork a b (c.do_spans_part-part.ensures.yes (not_false _ e))

pub returns-clause-looks : goal.returns-clause-looks
returns-clause-looks g c = looks_then c.in_ok-low.ensures.looks c.in_ok-high.ensures.looks
