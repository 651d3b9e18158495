use Rattle.std.proofs.Common.{◌≡◌, ℕ, ◌+◌, [], ◌∷◌, length, true, sym, subst, arith}
use Rattle.std.specs.Prelude.{◌↔◌}
use Rattle.plain_model.specs.Graphs.{root}
use Rattle.plain_model.specs.History.{end_of}
use Rattle.plain_model.specs.Machine.{is_stored}
use Rattle.plain_model.specs.Reachable.{Reachable}
use Rattle.cell_model.specs.Cells.{is_live}
use Rattle.store_model.specs.RestLaws.{IsLed}
use Rattle.core_store.specs.Journal.{view_of}
use Rattle.core_store.specs.JournalView.{JournalView, cells_of}
use Rattle.core_store.specs.RoundView.{ids_in}
use Rattle.core_store.specs.Views.{view_of as tables_of}
use Rattle.core_store.proofs.JournalAtRest.{rest-exact, rest-led}
use Rattle.core_store.proofs.journal.Journal.queue_len.Goals as goal

pub overflow_add-result : goal.overflow_add-result
overflow_add-result g c =
    let t = c.self.inside.tables in
    let few = c.self.invariant.keeps.stands.few in
    let queued = c.len.ensures.few in
    let walked = c.len-2.ensures.few in
    grind (arith, few, queued, walked, t.queue_sized, t.round_sized)

pub returns-clause-rest : goal.returns-clause-rest
returns-clause-rest g c = λ none idle.
    let t = c.self.inside.tables in
    let waiting : length t.queue.ids + length (ids_in t.round.view) ≡ 0 = omega (arith, none, c.len.ensures.length, c.len-2.ensures.length) in
    subst (λ (j : JournalView). (id : ℕ) → (is_stored (end_of j.history).state.stored id ≡ true) ↔ Reachable (end_of j.history).state.committed (root ∷ []) id) c.self.view_is
    (rest-exact (view_of c.self.inside) (tables_of t) c.self.invariant.keeps waiting (subst (λ (j : JournalView). (end_of j.history).state.active ≡ []) (sym c.self.view_is) idle))

pub returns-clause-led : goal.returns-clause-led
returns-clause-led g c = λ none idle.
    let t = c.self.inside.tables in
    let waiting : length t.queue.ids + length (ids_in t.round.view) ≡ 0 = omega (arith, none, c.len.ensures.length, c.len-2.ensures.length) in
    subst (λ (j : JournalView). (id : ℕ) → is_live (cells_of j) id ≡ true → IsLed (cells_of j) id) c.self.view_is
    (rest-led (view_of c.self.inside) (tables_of t) c.self.invariant.keeps waiting (subst (λ (j : JournalView). (end_of j.history).state.active ≡ []) (sym c.self.view_is) idle))
