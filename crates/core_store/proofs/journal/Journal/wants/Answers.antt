use Rattle.std.proofs.Common.{ℕ, List, ap, ◌∙◌}
use Rattle.core_store.specs.Frames.{pages_held}
use Rattle.core_store.specs.Logged.{want_of}
use Rattle.core_store.proofs.journal.Journal.wants.Goals as goal

pub returns-clause-exact : goal.returns-clause-exact
returns-clause-exact g c = c.wants_for.ensures.exact ∙ ap (λ (pages : List ℕ). want_of pages (pages_held c.args.held.now)) c.work.ensures.pages
