use Rattle.std.proofs.Common.{[], ◌∷◌, ◌++◌, ap, ◌∙◌, refl, None, arith}
use Rattle.core_store.specs.JournalView.{JournalView}
use Rattle.core_store.specs.Notes.{entry_of_plain}
use Rattle.core_store.proofs.HappensLaws.{client_note}
use Rattle.core_store.proofs.JournalSteps.{Grows}
use Rattle.core_store.proofs.UpkeepLaws.{traced, upkeep-sound, upkeep-entered, upkeep-same}
use Rattle.core_store.proofs.journal.Journal.enter_upkeep.Given.{Over}
use Rattle.core_store.proofs.journal.Journal.enter_upkeep.Goals as goal

pub add-requires : goal.add-requires
add-requires g c = let room = (c.self.invariant.reserved (ap (λ (j : JournalView). j.reserved) c.self.view_is ∙ c.requires.reserved)).0 in omega (arith, room)

grows : (g : Over) (c : goal.After-add g) → Grows c.self.inside (traced c.self.inside c.add.new.self) (client_note (entry_of_plain c.args.event) None c.left.result)
grows g c = record { opening = refl; limits = c.add.ensures.rest.0; marks = c.add.ensures.rest.1; reserved = c.add.ensures.reserved; trace = c.add.ensures.items ∙ (λ i. c.self.inside.trace.notes.list ++ client_note (entry_of_plain c.args.event) (c.requires.none i) c.left.result ∷ []); left = c.left.ensures }

pub invariant_of-self : goal.invariant_of-self
invariant_of-self g c = upkeep-sound c.self.inside c.add.new.self c.args.self.now (entry_of_plain c.args.event) c.left.result c.self.invariant c.self.view_is c.requires.reserved c.requires.upkeep (grows g c) c.add.ensures.len c.add.ensures.room

pub returns-clause-entered : goal.returns-clause-entered
returns-clause-entered g c = upkeep-entered c.self.inside c.add.new.self c.args.self.now (entry_of_plain c.args.event) c.left.result c.self.invariant c.self.view_is c.requires.reserved c.requires.upkeep (grows g c)

pub returns-clause-same : goal.returns-clause-same
returns-clause-same g c = upkeep-same c.self.inside c.add.new.self c.args.self.now (entry_of_plain c.args.event) c.left.result c.self.invariant c.self.view_is c.requires.reserved c.requires.upkeep (grows g c)
