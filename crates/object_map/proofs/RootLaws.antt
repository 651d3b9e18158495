-- The root, as a client alone sees it.
use Rattle.std.proofs.Common.{◌≡◌, ℕ, ◌<◌, [], Some, None, refl, sym, ap, ◌∙◌, subst, arith, ⊎_elim, length}
use Rattle.std.specs.Prelude.{Contains, IsSome, slice_index_or}
use Rattle.std.proofs.lemmas.List.{length-map}
use Rattle.std.proofs.lemmas.List.Elements.{Contains-get_or}
use Rattle.plain_model.specs.Graphs.{root, object_at}
use Rattle.plain_model.specs.ActiveTransaction.{ActiveTransaction}
use Rattle.plain_model.specs.Machine.{State, own_graph}
use Rattle.plain_model.specs.History.{end_of}
use Rattle.plain_model.proofs.StepLaws.{end_of-slots}
use Rattle.plain_laws.specs.Sound.{IsSoundState}
use Rattle.cell_model.specs.Cells.{Cell, cell_at, object_of}
use Rattle.store_model.specs.Core.{Core}
use Rattle.store_model.specs.Steps.{IsOnlyWriter}
use Rattle.store_model.specs.Sound.{IsSound, IsCurrentCell, IsKept}
use Rattle.store_model.specs.Sound.Kept.{start}
use Rattle.store_model.specs.Sound.IsHeld.{as_root, by_pass}
use Rattle.store_model.specs.Sound.Has.{in_register}
use Rattle.store_model.proofs.Lists.{Contains-here}
use Rattle.store_model.proofs.StepLaws.{Contains-cons}
use Rattle.store_model.proofs.MomentLaws.{seen-current}
use Rattle.core_store.specs.JournalView.{JournalView, core_of, cells_of}
use Rattle.logged_journal.specs.View.{LoggedView}
use Rattle.object_map.specs.Maps.{room_of}
use Rattle.object_map.specs.Seen.{Seen, HasOnly, IsAlone, seen_of, at, held, held_id}
use Rattle.object_map.proofs.AloneLaws.{its_transaction, its_register, eight, seen_is}

-- no other client writes, where none is active
only_writer : (s : State) (pass : ℕ) (a : IsAlone s pass) (id : ℕ) → IsOnlyWriter s pass id
only_writer s pass a id e here n = ⊎_elim
    (λ (same : (pass, a.transaction) ≡ e). absurd (n (ap (λ (x : ℕ × ActiveTransaction). x.0) (sym same))))
    (λ (none : Contains [] e). absurd (omega (arith, none.1)))
    (Contains-cons (pass, a.transaction) [] e (subst (λ es. Contains es e) a.active here))

-- an object that is kept has as many slots as each object of the store
kept_room : (j : JournalView) (pass id : ℕ) → IsSound (core_of j) → IsAlone (end_of j.history).state pass → IsKept (core_of j) id → room_of (at (seen_of (end_of j.history).state pass) id) ≡ j.history.slots
kept_room j pass id sound a k =
    let m = end_of j.history in
    let c : Core = core_of j in
    let t = a.transaction in
    let cell : Cell = cell_at (cells_of j) id in
    let kept : IsCurrentCell c.cells m id = sound.kept id k in
    let active : Contains m.state.active (pass, t) = subst (λ es. Contains es (pass, t)) (sym a.active) (Contains-here (pass, t) []) in
    let fresh : m.undone pass ≡ 0 = sound.none_undone (pass, t) active a.running in
    let same : object_at (own_graph m.state t) id ≡ Some (object_of id cell) = seen-current m a.sound pass t (its_transaction m.state pass a) fresh id (only_writer m.state pass a id) ∙ kept.contents in
    ap (λ (v : Seen). room_of (at v id)) (seen_is m.state pass t (its_transaction m.state pass a))
    ∙ ap room_of same
    ∙ length-map cell.pointers (λ p. p.target)
    ∙ sound.consistent.slotted id kept.live
    ∙ end_of-slots j.history

-- so have the root, ...
pub root_room : (j : JournalView) (pass : ℕ) → IsSound (core_of j) → IsAlone (end_of j.history).state pass → room_of (at (seen_of (end_of j.history).state pass) root) ≡ j.history.slots
root_room j pass sound a = kept_room j pass root sound a (start root (as_root refl))

-- ... and an object that a register of the client holds
pub held_room : (j : JournalView) (pass r : ℕ) → IsSound (core_of j) → IsAlone (end_of j.history).state pass → r < 8 → IsSome (held (seen_of (end_of j.history).state pass) r) → room_of (at (seen_of (end_of j.history).state pass) (held_id (seen_of (end_of j.history).state pass) r)) ≡ j.history.slots
held_room j pass r sound a fits full =
    let s = (end_of j.history).state in
    let t = a.transaction in
    let id = held_id (seen_of s pass) r in
    let active : Contains s.active (pass, t) = subst (λ es. Contains es (pass, t)) (sym a.active) (Contains-here (pass, t) []) in
    let short : r < length t.registers = subst (λ n. r < n) (sym (eight s pass a)) fits in
    let its : slice_index_or t.registers r None ≡ Some id = its_register s pass r a full in
    let there : Contains t.registers (Some id) = subst (λ o. Contains t.registers o) its (Contains-get_or t.registers r None short) in
    kept_room j pass id sound a (start id (by_pass (pass, t) active (in_register there)))

-- each object has as many slots as the store says
pub seen_slots : (j : JournalView) (pass : ℕ) → IsAlone (end_of j.history).state pass → (seen_of (end_of j.history).state pass).slots ≡ j.history.slots
seen_slots j pass a = ap (λ (v : Seen). v.slots) (seen_is (end_of j.history).state pass a.transaction (its_transaction (end_of j.history).state pass a)) ∙ end_of-slots j.history

-- who is the only client of a sound store is alone
pub client_new : {D : Type 0} (v : LoggedView D) (pass : ℕ) → IsSoundState (end_of v.journal.history).state → HasOnly (end_of v.journal.history).state pass → IsAlone (end_of v.journal.history).state pass
client_new v pass sound h = record { transaction = h.transaction; active = h.active; running = h.running; sound = sound }
