use Rattle.std.proofs.Common.{rules}
use Rattle.brahma_shell.proofs.store.Store.active.Goals as goal

pub logged-requires-after_bounds : goal.logged-requires-after_bounds
logged-requires-after_bounds g c κs within = (search rules, search rules)
