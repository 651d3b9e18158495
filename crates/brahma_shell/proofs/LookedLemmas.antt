-- What holds of a journal whose collector has only looked.
use Rattle.std.proofs.Common.{◌≡◌, ℕ, ◌<◌, [], sym, ap, subst, ◌∙◌}
use Rattle.plain_model.specs.History.{Moment}
use Rattle.store_model.specs.Core.{Core}
use Rattle.core_store.specs.JournalView.{JournalView, core_of, opening_of, last_left}
use Rattle.core_store.specs.Leads.{AreLed}
use Rattle.core_store.specs.RoundView.{IsInStep}
use Rattle.core_store.specs.Steppings.{OnlyLooks}
use Rattle.quiet_rounds.specs.JournalSteps.{IsSoundJournal}
use Rattle.quiet_rounds.proofs.JournalEvents.{journal-looks}
use Rattle.brahma_shell.specs.Points.{point_of, entries_in}
use Rattle.brahma_shell.proofs.PointLemmas.{moment_of_point}
use Rattle.script_lines.specs.Numbers.{object_slots}

-- its notes lead to what it has
pub looked-led : (i j : JournalView) → OnlyLooks object_slots i j → AreLed object_slots (opening_of i) i.notes (core_of i) → AreLed object_slots (opening_of j) j.notes (core_of j)
looked-led i j l led = subst (λ (x : JournalView). AreLed object_slots (opening_of x) x.notes (core_of j)) (sym l.same) (subst (λ (c : Core). AreLed object_slots (opening_of i) i.notes c) (sym l.core) led)

pub looked-lower : (i j : JournalView) (left : ℕ) → OnlyLooks object_slots i j → left < last_left i.notes → left < last_left j.notes
looked-lower i j left l less = subst (λ (x : JournalView). left < last_left x.notes) (sym l.same) less

pub looked-opening : (i j k : JournalView) → OnlyLooks object_slots i j → k.opening ≡ i.opening → k.opening ≡ j.opening
looked-opening i j k l e = e ∙ sym (ap (λ (x : JournalView). x.opening) l.same)

pub looked-limits : (i j k : JournalView) → OnlyLooks object_slots i j → k.limits ≡ i.limits → k.limits ≡ j.limits
looked-limits i j k l e = e ∙ sym (ap (λ (x : JournalView). x.limits) l.same)

-- beside no active transaction its round is in step
pub looked-in_step : (i j : JournalView) → OnlyLooks object_slots i j → IsSoundJournal object_slots i → entries_in i.notes ≡ i.history.entries → (point_of i).moment.state.active ≡ [] → IsInStep object_slots j.history.ids j.round
looked-in_step i j l s entries idle =
    (journal-looks object_slots i j s (ap (λ (m : Moment). m.state.active) (sym (moment_of_point i entries)) ∙ idle) l).journal.in_step
