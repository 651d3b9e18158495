use Rattle.std.proofs.Common.{◌≡◌, ℕ, Some, sym, ap, ◌∙◌, subst}
use Rattle.plain_model.specs.Graphs.{root}
use Rattle.logged_journal.specs.View.{LoggedView}
use Rattle.object_map.specs.declared.refusal.MapRefusal.TheVariants as refusal
use Rattle.object_map.specs.Broken.{IsFirstBroken}
use Rattle.object_map.specs.Clients.{ClientView, seen}
use Rattle.object_map.specs.Seen.{at, held}
use Rattle.stored_map.proofs.KeptLaws.{only_of}
use Rattle.stored_map.proofs.FindLaws.{look_stays, look_finds, look_finds_none, look_starves, look_falls}
use Rattle.stored_map.proofs.finding.look_at.Goals as goal

pub new-client-requires-clause-running : goal.new-client-requires-clause-running
new-client-requires-clause-running g c κs within = c.requires.begun.client.running

pub new-client-requires-clause-alone : goal.new-client-requires-clause-alone
new-client-requires-clause-alone g c κs within = only_of c.args.store 1 c.requires.begun.client

pub attach-requires-clause-rooted : goal.attach-requires-clause-rooted
attach-requires-clause-rooted g c κs within = subst (λ (x : ClientView _). held (seen x) 0 ≡ Some root) (sym c.new-client.ensures) c.requires.begun.rooted

-- ---- it keeps a map

pub returns-in-Ok-clause-looking : goal.returns-in-Ok-clause-looking
returns-in-Ok-clause-looking g c =
    look_finds c.args.store c.into_store.result c.attach.new.client c.requires.begun c.attach.ensures.rooted (rw c.new-client.ensures at c.in-Ok.ensures.looks) (rw c.new-client.ensures at c.in-Ok.ensures.map) c.into_store.ensures.client c.into_store.ensures.store

pub returns-in-Ok-clause-stays : goal.returns-in-Ok-clause-stays
returns-in-Ok-clause-stays g c = look_stays c.args.store c.into_store.result c.attach.new.client c.requires.begun c.attach.ensures.rooted (rw c.new-client.ensures at c.in-Ok.ensures.looks) c.into_store.ensures.store

-- ---- it keeps none

pub returns-in-Err-NotMap-clause-refused : goal.returns-in-Err-NotMap-clause-refused
returns-in-Err-NotMap-clause-refused g c =
    let broken = subst (λ (x : ClientView _). (d : ℕ) → c.in-Err-NotMap.field-0 ≡ refusal.NotMap d → IsFirstBroken 13 (at (seen x)) d) c.new-client.ensures c.in-Err-NotMap.ensures.first in
    look_finds_none c.args.store c.into_store-in-Err-NotMap.result c.attach.new.client c.in-Err-NotMap.field-0 c.in-Err-NotMap.id c.into_disk.result c.requires.begun c.attach.ensures.rooted (rw c.new-client.ensures at c.in-Err-NotMap.ensures.refused) broken c.in-Err-NotMap.field-0-is c.into_store-in-Err-NotMap.ensures.store
    (c.into_disk.ensures.disk ∙ ap (λ (x : LoggedView _). x.disk) c.into_logged.ensures)

-- ---- a look was refused

pub returns-in-Err-Memory-clause-refused : goal.returns-in-Err-Memory-clause-refused
returns-in-Err-Memory-clause-refused g c =
    look_starves c.args.store c.into_store-in-Err-Memory.result c.attach.new.client c.in-Err-Memory.field-0 _ c.requires.begun c.attach.ensures.rooted (rw c.new-client.ensures at c.in-Err-Memory.ensures.refused) c.in-Err-Memory.ensures.never_full c.in-Err-Memory.field-0-is c.into_store-in-Err-Memory.ensures.store

pub returns-in-Err-Store-clause-refused : goal.returns-in-Err-Store-clause-refused
returns-in-Err-Store-clause-refused g c =
    look_falls c.args.store c.into_store-in-Err-Store.result c.attach.new.client c.in-Err-Store.field-0 c.in-Err-Store.reply c.failure_of.result _ c.requires.begun c.attach.ensures.rooted (rw c.new-client.ensures at c.in-Err-Store.ensures.refused) c.in-Err-Store.ensures.never_full c.in-Err-Store.field-0-is c.failure_of.ensures c.into_store-in-Err-Store.ensures.store
