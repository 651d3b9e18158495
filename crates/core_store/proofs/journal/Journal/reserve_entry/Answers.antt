use Rattle.std.proofs.Common.{◌≡◌, false, sym, ◌∙◌, arith}
use Rattle.core_store.specs.Limited.{is_past_limit}
use Rattle.core_store.proofs.AskLaws.{sound-marked}
use Rattle.core_store.proofs.ReplyLaws.{on_ok}
use Rattle.core_store.proofs.UpkeepLaws.{HasTaken, reserved-sound, reserved-seen}
use Rattle.core_store.proofs.journal.Journal.reserve_entry.Given.{Over}
use Rattle.core_store.proofs.journal.Journal.reserve_entry.Goals as goal

pub invariant_of-self : goal.invariant_of-self
invariant_of-self g c = sound-marked c.self.inside c.mark_full.new.self c.args.self.now 1 c.self.invariant c.self.view_is c.mark_full.ensures (sym c.is_past_limit.ensures ∙ c.if-is_past_limit.true) (omega arith)

within : (g : Over) (c : goal.After-reserve g) → is_past_limit c.args.self.now 1 ≡ false
within g c = sym c.is_past_limit.ensures ∙ c.if-is_past_limit.false

taken : (g : Over) (c : goal.After-reserve g) → HasTaken c.self.inside c.take_room.new.self c.reserve.new.self
taken g c = record {
  notes = c.take_room.ensures.notes;
  limits = c.take_room.ensures.rest.0;
  marks = c.take_room.ensures.rest.1;
  room = (let room = on_ok c.take_room.result c.is_err.result c.is_err.ensures.value c.if-is_err.false c.take_room.ensures.room in let owed = c.owed.ensures in omega (arith, room, owed));
  kept = c.reserve.ensures;
}

pub invariant_of-self-2 : goal.invariant_of-self-2
invariant_of-self-2 g c = reserved-sound c.self.inside c.take_room.new.self c.reserve.new.self c.args.self.now c.self.invariant c.self.view_is (within g c) (taken g c)

pub returns-clause-reserved : goal.returns-clause-reserved
returns-clause-reserved g c = reserved-seen c.self.inside c.take_room.new.self c.reserve.new.self c.args.self.now c.self.invariant c.self.view_is (within g c) (taken g c)
