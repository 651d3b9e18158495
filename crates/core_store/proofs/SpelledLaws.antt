-- The records that a journal logs have a spelling.
use Rattle.std.proofs.Common.{◌≡◌, ◌≢◌, ℕ, ◌<◌, ◌≤◌, Bool, true, false, not, ⊎_elim, inl, inr, refl, ap, subst, Option, Some, None, arith, List}
use Rattle.std.specs.Prelude.{◌==◌, ◌&&◌, if◌then◌else◌, IfSome}
use Rattle.std.specs.Option.{option_map_or}
use Rattle.std.proofs.lemmas.Bool.{cases_eq, eqb-true, eqb-false}
use Rattle.plain_model.specs.declared.write.Place.{Place}
use Rattle.plain_model.specs.declared.write.Place.TheVariants.{Slot, Payload, Whole}
use Rattle.plain_model.specs.declared.calls.Call.{Call as TransactionCall}
use Rattle.plain_model.specs.declared.calls.Call.TheVariants.{Begin as BeginCall, Read, Make as MakeCall, Store as StoreCall, GetPay, Release, SetPay, Commit as CommitCall, Abort}
use Rattle.plain_model.specs.declared.calls.Reply.{Reply}
use Rattle.plain_model.specs.ActiveTransaction.{ActiveTransaction}
use Rattle.plain_model.specs.Machine.{State, transaction_of, refusal_of, register_id}
use Rattle.cell_model.specs.Cells.{Cell, Pointer, null, cell_at, pointer_at, is_live, same, relinked}
use Rattle.cell_model.specs.Records.{Undo, UndoPay, HasPointer, Fits}
use Rattle.cell_model.specs.Consistent.{AreConsistent}
use Rattle.cell_model.proofs.EditLaws.{live-there, live-within}
use Rattle.strength_counts.specs.Changes.{takes_strong}
use Rattle.store_model.specs.Core.{Core, Round}
use Rattle.log_record.specs.declared.cell_record.CellRecord.{CellRecord}
use Rattle.log_record.specs.declared.cell_record.CellRecord.TheVariants as logs
use Rattle.log_record.specs.Records.{payload_place, FitsCells}
use Rattle.log_record.specs.Spelling.{IsPass, IsOfTarget, HasCellSpelling}
use Rattle.core_store.specs.declared.act.Act.{Act}
use Rattle.core_store.specs.declared.act.Act.TheVariants as act
use Rattle.core_store.specs.Changes.{is_counted_strong, is_laid_strong}
use Rattle.core_store.specs.Collects.{Collects}
use Rattle.core_store.specs.Logged.{logged_by, logged_by_undo, record_in, stored_target}
use Rattle.core_store.specs.Spelled.{IsOfIds}
use Rattle.core_store.specs.Stands.{CanLay}

-- ---- what the cells don't tell of a record: its client's number, and that null is not strong

abbrev pub IsOfClient : CellRecord → Type 0
IsOfClient (logs.Begin pass) = IsPass pass
IsOfClient (logs.Make pass id) = IsPass pass
IsOfClient (logs.Store pass id slot old_target old_strong new_target new_bit new_strong) = IsPass pass × IsOfTarget old_target old_strong × IsOfTarget new_target new_strong
IsOfClient (logs.Pay pass id old_value new_value) = IsPass pass
IsOfClient (logs.Commit pass) = IsPass pass
IsOfClient (logs.Undo pass place from_strong to_bit id «from» to) =
    IsPass pass × (place ≡ payload_place → (from_strong ≡ false) × (to_bit ≡ false)) × (place ≢ payload_place → IsOfTarget «from» from_strong)
IsOfClient (logs.AbortEnd pass) = IsPass pass
IsOfClient _ = Unit {0}

-- a record that fits the cells has a spelling then, and its ids are the store's
abbrev pub IsSpelledIn : ℕ → ℕ → CellRecord → Type 0
IsSpelledIn slots ids r = HasCellSpelling slots r × IsOfIds ids r

module _ (slots ids : ℕ) (cells : List Cell) (k : AreConsistent slots ids cells) (few : ids ≤ 8192) where
  some-id : (id : ℕ) → is_live cells id ≡ true → 1 ≤ id
  some-id id l = let n = live-there cells id k.exact.none l in omega (arith, n)

  at-most : (id : ℕ) → is_live cells id ≡ true → id ≤ ids
  at-most id l =
      let within = live-within cells id l in
      let sized = k.sized in
      omega (arith, within, sized)

  target-within : (target : ℕ) → ((target ≡ 0 → ⊥) → is_live cells target ≡ true) → target ≤ ids
  target-within target live = ⊎_elim (λ (e : target ≡ 0). omega (arith, e)) (λ (n : target ≢ 0). at-most target (live n)) (cases_eq target 0)

  slot-within : (id slot to : ℕ) (strong : Bool) → HasPointer cells id slot to strong → slot < slots
  slot-within id slot to strong p = subst (λ (n : ℕ). slot < n) (k.slotted id p.live) p.within

  -- a record with an object, a slot and a target that isn't null
  pointer-spelled : (id slot target : ℕ) (strong : Bool) → HasPointer cells id slot target strong → (target ≡ 0 → ⊥) → ((1 ≤ id) × (slot < slots) × (1 ≤ target)) × ((id ≤ ids) × (target ≤ ids))
  pointer-spelled id slot target strong p n =
      ((some-id id p.live, slot-within id slot target strong p, some-id target (p.target_live n)), (at-most id p.live, at-most target (p.target_live n)))

  pub spelled : (r : CellRecord) → FitsCells cells r → IsOfClient r → IsSpelledIn slots ids r
  spelled (logs.Begin pass) f c = (c, tt)
  spelled (logs.Make pass id) f c =
      let some = f.0 in
      let within = f.1 in
      let sized = k.sized in
      ((c, omega (arith, some)), omega (arith, within, sized))
  spelled (logs.Store pass id slot old_target old_strong new_target new_bit new_strong) f c = (
    (c.0, some-id id f.0.live, slot-within id slot old_target old_strong f.0, c.1, f.1.null, c.2),
    (at-most id f.0.live, target-within old_target f.0.target_live, target-within new_target f.1.live),
  )
  spelled (logs.Pay pass id old_value new_value) f c = ((c, some-id id f.0), at-most id f.0)
  spelled (logs.Commit pass) f c = (c, tt)
  spelled (logs.Undo pass place from_strong to_bit id «from» to) f c = by (place == payload_place) refl
    where
      by : (b : Bool) → (place == payload_place) ≡ b → IsSpelledIn slots ids (logs.Undo pass place from_strong to_bit id «from» to)
      by true e =
          let is : place ≡ payload_place = eqb-true place payload_place e in
          let fits : Fits cells (UndoPay pass id «from» to) = subst (λ (b : Bool). Fits cells (if b then UndoPay pass id «from» to else Undo pass id place «from» from_strong to to_bit)) e f in (
            (c.0, some-id id fits.0, inl is, (λ _. (c.1 is).0, λ n. absurd (n is)), (λ _. (c.1 is).1, λ n. absurd (n is))),
            (at-most id fits.0, λ n. absurd (n is)),
          )
      by false e =
          let apart : place ≢ payload_place = eqb-false place payload_place e in
          let fits : Fits cells (Undo pass id place «from» from_strong to to_bit) = subst (λ (b : Bool). Fits cells (if b then UndoPay pass id «from» to else Undo pass id place «from» from_strong to to_bit)) e f in
          let from_most : «from» ≤ ids = target-within «from» fits.0.target_live in
          let to_most : to ≤ ids = target-within to fits.1.live in (
            (
              c.0,
              some-id id fits.0.live,
              inr (slot-within id place «from» from_strong fits.0),
              (λ i. absurd (apart i), λ _. (omega (arith, from_most, few), c.2 apart)),
              (λ i. absurd (apart i), λ _. (omega (arith, to_most, few), fits.1.null)),
            ),
            (at-most id fits.0.live, λ _. (from_most, to_most)),
          )
  spelled (logs.AbortEnd pass) f c = (c, tt)
  spelled (logs.Weaken id slot target) f c = pointer-spelled id slot target true f.0 f.1
  spelled (logs.Strengthen id slot target) f c = pointer-spelled id slot target false f.0 f.1
  spelled (logs.Flip id) f c = (some-id id f.0, at-most id f.0)
  spelled (logs.CutDead id slot target was_strong) f c = pointer-spelled id slot target was_strong f.0 f.1
  spelled (logs.Free id) f c = (some-id id f.0, at-most id f.0)

  pub spelled-logged : (logged : Option CellRecord) → IfSome logged (FitsCells cells) → IfSome logged IsOfClient → IfSome logged (IsSpelledIn slots ids)
  spelled-logged None f c = tt
  spelled-logged (Some r) f c = spelled r f c

-- ---- the records of clients

null-weak : (cells : List Cell) (p : Pointer) → p.target ≡ 0 → is_counted_strong cells p ≡ false
null-weak cells p e = ap (λ (n : ℕ). not (n == 0) && same (cell_at cells n).bit p.bit) e

null-laid : (cells : List Cell) (id target : ℕ) → target ≡ 0 → is_laid_strong cells id target ≡ false
null-laid cells id target e = ap (λ (n : ℕ). not (n == 0) && (not (id == n) && takes_strong (cell_at cells n))) e

-- of a call
pub call-client : (s : State) (cells : List Cell) (pass : ℕ) (call : TransactionCall) → IsPass pass → IfSome (logged_by s cells pass call) IsOfClient
call-client s cells pass call p = by (refusal_of s pass call) (transaction_of s pass)
  where
    in_transaction : (t : ActiveTransaction) (call : TransactionCall) → IfSome (record_in s cells pass t call) IsOfClient
    in_transaction t BeginCall = tt
    in_transaction t (Read r slot into) = tt
    in_transaction t (MakeCall into) = p
    in_transaction t (StoreCall r slot source) =
        let id = register_id t r in
        (p, null-weak cells (pointer_at cells id slot), null-laid (relinked cells id slot null) id (stored_target t source))
    in_transaction t (GetPay r) = tt
    in_transaction t (Release r) = tt
    in_transaction t (SetPay r value) = p
    in_transaction t CommitCall = p
    in_transaction t Abort = tt

    by : (o : Option Reply) (q : Option ActiveTransaction) → IfSome (option_map_or (λ reply. None) o (option_map_or (λ t. record_in s cells pass t call) q (Some (logs.Begin pass)))) IsOfClient
    by (Some reply) q = tt
    by None None = p
    by None (Some t) = in_transaction t call

-- of an undo of a write that can be laid again
pub undo-client : (slots : ℕ) (cells : List Cell) (pass id : ℕ) (place : Place) (value : ℕ) → slots < payload_place → IsPass pass → CanLay slots cells (record { id = id; place = place; value = value }) → IsOfClient (logged_by_undo cells pass (record { id = id; place = place; value = value }))
undo-client slots cells pass id (Slot slot) value below p can =
    let within = can.1 in
    let few = within.0 in
    (p, λ e. absurd (omega (arith, few, below, e)), λ _. null-weak cells (pointer_at cells id slot))
undo-client slots cells pass id Payload value below p can = (p, λ _. (refl, refl), λ n. absurd (n refl))
undo-client slots cells pass id Whole value below p can = absurd can.1

-- ---- the records of the collector

pub collect-client : (slots : ℕ) (c : Core) (a : Act) (logged : Option CellRecord) (queue : List ℕ) (round : Option Round) → Collects slots c a logged queue round → IfSome logged IsOfClient
collect-client slots c which logged queue round h = by which logged h
  where
    by : (a : Act) (logged : Option CellRecord) → Collects slots c a logged queue round → IfSome logged IsOfClient
    by a None h = tt
    by a (Some (logs.Weaken id slot target)) h = tt
    by a (Some (logs.Strengthen id slot target)) h = tt
    by a (Some (logs.Flip id)) h = tt
    by a (Some (logs.CutDead id slot target was_strong)) h = tt
    by a (Some (logs.Free id)) h = tt
    by (act.Skip id) (Some r) h = absurd h
    by (act.Start id) (Some r) h = absurd h
    by (act.Scan id) (Some r) h = absurd h
    by act.Judge (Some r) h = absurd h
    by act.End (Some r) h = absurd h
    by act.Other (Some r) h = absurd h
    by act.Change (Some r) h = absurd h
