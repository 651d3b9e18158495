-- What the relation to the reference machine sees of the tables.
use Rattle.std.specs.Prelude.{ℕ}
use Rattle.ref_tables.specs.Refs.{entries_of}
use Rattle.core_store.specs.declared.tables.Tables.{Tables}
use Rattle.core_store.specs.References.{targets_of}
use Rattle.core_store.specs.Tables.{TablesView}

abbrev pub view_of : {slots : ℕ} → Tables slots → TablesView
view_of a =
    record {
      ids = a.ids;
      free = a.free.ids;
      zeros = a.zeros.items;
      locks = a.locks;
      transactions = a.transactions.entries;
      owed = a.owed;
      references = λ pass. targets_of (entries_of a.references pass);
      queue = a.queue.ids;
      round = a.round.view;
    }
