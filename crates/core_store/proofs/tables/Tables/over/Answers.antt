use Rattle.std.proofs.Common.{ap, refl, rules}
use Rattle.ref_tables.specs.Queue.{Queue}
use Rattle.ref_tables.specs.Refs.{Table, entries_of}
use Rattle.core_store.specs.References.{targets_of}
use Rattle.core_store.proofs.tables.Tables.over.Goals as goal

pub returns : goal.returns
returns g c = record {
  same_ids = refl;
  free = c.in_ok-over.ensures.free;
  zeros = c.in_ok-zeros.ensures;
  locks = c.new.ensures;
  transactions = c.new-2.ensures.empty;
  owed = refl;
  references = λ pass. ap (λ (t : Table). targets_of (entries_of t pass)) c.new-3.ensures;
  queue = ap (λ (q : Queue). q.ids) c.in_ok-queue.ensures;
  round = search rules;
}
