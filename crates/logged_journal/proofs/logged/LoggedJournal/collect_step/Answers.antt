use Rattle.std.proofs.Common.{rules, ◌≡◌, ◌⊎◌, IfSome, sym, ◌∙◌, ap, subst, true, [], None}
use Rattle.std.specs.Prelude.{◌↔◌}
use Rattle.core_store.specs.declared.round_at.RoundAt.{RoundAt}
use Rattle.core_store.specs.Limited.{is_past_limit}
use Rattle.core_store.specs.RoundView.{Closed, asked}
use Rattle.logged_journal.specs.View.{LoggedView}
use Rattle.logged_journal.proofs.logged.LoggedJournal.collect_step.Goals as goal

pub collect_at-requires-after_bounds : goal.collect_at-requires-after_bounds
collect_at-requires-after_bounds g c κs within = (
  search rules,
  (
    search rules,
    (
      c.requires.agree,
      (
        c.requires.ready,
        (
          ap (λ (w : LoggedView g.row.D.Denot). w.failed) (sym c.self.view_is) ∙ c.in_default.is,
          (
            subst (λ (w : LoggedView g.row.D.Denot). (c.next_event-at.result ≡ None) ↔ (is_past_limit w.journal 1 ≡ true) ⊎ ((w.journal.queue ≡ []) × (w.journal.round ≡ Closed))) c.self.view_is c.next_event-at.ensures.none,
            subst (λ (w : LoggedView g.row.D.Denot). IfSome c.next_event-at.result (λ (a : RoundAt). a ≡ asked w.journal.round)) c.self.view_is c.next_event-at.ensures.at,
          ),
        ),
      ),
    ),
  ),
)
