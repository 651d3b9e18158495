use Rattle.std.proofs.Common.{sym, ◌∙◌}
use Rattle.core_store.specs.Views.{view_of}
use Rattle.core_store.proofs.ActiveCount.{least-first}
use Rattle.core_store.proofs.tables.Tables.least_active.Goals as goal

pub returns : goal.returns
returns g c = λ core stands. c.least.ensures.first ∙ sym (least-first g.row.SLOTS (view_of c.args.self.now) core stands c.least.ensures.ordered)
