-- A journal where no object waits for the collector and no transaction is active.
use Rattle.std.proofs.Common.{◌≡◌, ℕ, ◌+◌, List, [], ◌∷◌, length, true, refl, sym, ◌∙◌, arith}
use Rattle.std.specs.Prelude.{◌↔◌}
use Rattle.std.specs.Option.{option_map_or}
use Rattle.plain_model.specs.Graphs.{root}
use Rattle.cell_model.specs.Cells.{is_live}
use Rattle.plain_model.specs.History.{end_of}
use Rattle.plain_model.specs.Machine.{is_stored}
use Rattle.plain_model.specs.Reachable.{Reachable}
use Rattle.store_model.specs.Core.{Round}
use Rattle.store_model.specs.RestLaws.{IsAtRest, IsLed}
use Rattle.store_model.proofs.AtRest.{at_rest, rest_led}
use Rattle.core_store.specs.JournalView.{JournalView, cells_of, core_of}
use Rattle.core_store.specs.Journal.{Keeps}
use Rattle.core_store.specs.RoundView.{RoundView, Closed, Walking, Sweeping, round_of, ids_in}
use Rattle.core_store.specs.Tables.{TablesView}

-- the objects of a round are those of the laws' round
ids-listed : (r : RoundView) → ids_in r ≡ option_map_or (λ (x : Round). x.list) (round_of r) []
ids-listed Closed = refl
ids-listed (Walking w) = refl
ids-listed (Sweeping w s slot g) = refl

no-ids : (xs : List ℕ) → length xs ≡ 0 → xs ≡ []
no-ids [] e = refl
no-ids (x ∷ xs) e = absurd (omega (arith, e))

is-at_rest : (j : JournalView) → length j.queue + length (ids_in j.round) ≡ 0 → (end_of j.history).state.active ≡ [] → IsAtRest (core_of j)
is-at_rest j none idle = record {
  none_active = idle;
  none_queued = no-ids j.queue (omega (arith, none));
  none_open = sym (ids-listed j.round) ∙ no-ids (ids_in j.round) (omega (arith, none));
}

-- strong pointers lead from the root to each live cell
pub rest-led : (j : JournalView) (v : TablesView) → Keeps j v → length j.queue + length (ids_in j.round) ≡ 0 → (end_of j.history).state.active ≡ []
    → (id : ℕ) → is_live (cells_of j) id ≡ true → IsLed (cells_of j) id
rest-led j v keeps none idle = rest_led (core_of j) keeps.stands.sound (is-at_rest j none idle)

-- just the objects are stored that are reachable from the root
pub rest-exact : (j : JournalView) (v : TablesView) → Keeps j v → length j.queue + length (ids_in j.round) ≡ 0 → (end_of j.history).state.active ≡ []
    → (id : ℕ) → (is_stored (end_of j.history).state.stored id ≡ true) ↔ Reachable (end_of j.history).state.committed (root ∷ []) id
rest-exact j v keeps none idle =
    at_rest (core_of j) keeps.stands.sound (is-at_rest j none idle)
