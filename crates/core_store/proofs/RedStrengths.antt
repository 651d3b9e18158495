-- Which strong pointers are left by a record of a client, and by one of the red walk.
use Rattle.std.proofs.Common.{◌≡◌, ℕ, Bool, true, false, not, ◌⊎◌, inl, inr, ⊎_elim, refl, sym, ap, ◌∙◌, subst, Option, Some, None, List}
use Rattle.std.specs.Prelude.{◌==◌, ◌&&◌, if◌then◌else◌, IfSome, option_map, unwrap_or}
use Rattle.std.specs.Option.{option_map_or}
use Rattle.plain_model.specs.declared.write.Place.{Place}
use Rattle.plain_model.specs.declared.write.Place.TheVariants.{Slot, Payload, Whole}
use Rattle.plain_model.specs.declared.write.Write.{Write}
use Rattle.plain_model.specs.declared.calls.Call.{Call as TransactionCall}
use Rattle.plain_model.specs.declared.calls.Call.TheVariants.{Begin as BeginCall, Read, Make as MakeCall, Store as StoreCall, GetPay, Release, SetPay, Commit as CommitCall, Abort}
use Rattle.plain_model.specs.declared.calls.Reply.{Reply}
use Rattle.plain_model.specs.ActiveTransaction.{ActiveTransaction}
use Rattle.plain_model.specs.Machine.{State, transaction_of, refusal_of}
use Rattle.core_store.specs.Logged.{logged_by, logged_by_undo, record_in}
use Rattle.std.proofs.lemmas.Bool.{eqb-false}
use Rattle.cell_model.specs.Cells.{Cell, Pointer, cell_at, pointer_at, is_strong, same, other_strength, relinked, edit, pays}
use Rattle.cell_model.specs.Records.{Undo, UndoPay, Weaken as WeakenRecord, Fits, after_record}
use Rattle.cell_model.specs.Consistent.{AreConsistent}
use Rattle.cell_model.proofs.CountLaws.{relinked-bit, relinked-which, relinked-slot}
use Rattle.cell_model.proofs.EditLaws.{live-there, live-within}
use Rattle.log_record.specs.declared.cell_record.CellRecord.{CellRecord}
use Rattle.log_record.specs.declared.cell_record.CellRecord.TheVariants as logs
use Rattle.log_record.specs.Records.{payload_place, FitsCells, after_cell_record}
use Rattle.core_store.specs.Changes.{is_counted_strong}
use Rattle.core_store.proofs.MakeLaws.{links-made}
use Rattle.core_store.proofs.RestLaws.{counted-same, links-paid}

and-false : (b : Bool) → (b && false) ≡ false
and-false true = refl
and-false false = refl

-- a pointer that stays is as strong as before, where target bits stay
strong-same : (cells later : List Cell) (x k : ℕ) → ((t : ℕ) → (cell_at later t).bit ≡ (cell_at cells t).bit) → pointer_at later x k ≡ pointer_at cells x k → is_counted_strong later (pointer_at later x k) ≡ is_counted_strong cells (pointer_at cells x k)
strong-same cells later x k bits e =
    let p = pointer_at cells x k in
    ap (is_counted_strong later) e ∙ ap (λ (b : Bool). not (p.target == 0) && same b p.bit) (bits p.target)

-- what is laid as weak is not counted as strong
laid-weak : (cells later : List Cell) (p : Pointer) → ((t : ℕ) → (cell_at later t).bit ≡ (cell_at cells t).bit) → ((p.target ≡ 0 → ⊥) → is_strong cells p ≡ false) → is_counted_strong later p ≡ false
laid-weak cells later p bits weak = by (p.target == 0) refl
  where
    by : (b : Bool) → (p.target == 0) ≡ b → is_counted_strong later p ≡ false
    by true e = ap (λ (b : Bool). not b && same (cell_at later p.target).bit p.bit) e
    by false e =
        ap (λ (b : Bool). not (p.target == 0) && b) (ap (λ (b : Bool). same b p.bit) (bits p.target) ∙ weak (eqb-false p.target 0 e))
        ∙ and-false (not (p.target == 0))

same-not : (a b : Bool) → same a b ≡ true → same a (not b) ≡ false
same-not true true e = refl
same-not true false e = absurd (cc)
same-not false true e = absurd (cc)
same-not false false e = refl

-- the record is of a client or of an undo
abbrev pub IsByClient : CellRecord → Type 0
IsByClient (logs.Weaken id slot target) = ⊥
IsByClient (logs.Strengthen id slot target) = ⊥
IsByClient (logs.Flip id) = ⊥
IsByClient (logs.CutDead id slot target was_strong) = ⊥
IsByClient (logs.Free id) = ⊥
IsByClient _ = Unit {0}

-- of a call
pub call-by : (s : State) (cells : List Cell) (pass : ℕ) (call : TransactionCall) → IfSome (logged_by s cells pass call) IsByClient
call-by s cells pass call = by (refusal_of s pass call) (transaction_of s pass)
  where
    in_transaction : (t : ActiveTransaction) (call : TransactionCall) → IfSome (record_in s cells pass t call) IsByClient
    in_transaction t BeginCall = tt
    in_transaction t (Read r slot into) = tt
    in_transaction t (MakeCall into) = tt
    in_transaction t (StoreCall r slot source) = tt
    in_transaction t (GetPay r) = tt
    in_transaction t (Release r) = tt
    in_transaction t (SetPay r value) = tt
    in_transaction t CommitCall = tt
    in_transaction t Abort = tt

    by : (o : Option Reply) (q : Option ActiveTransaction) → IfSome (option_map_or (λ reply. None) o (option_map_or (λ t. record_in s cells pass t call) q (Some (logs.Begin pass)))) IsByClient
    by (Some reply) q = tt
    by None None = tt
    by None (Some t) = in_transaction t call

-- of an undo
pub undo-by : (cells : List Cell) (pass : ℕ) (logged : CellRecord) (undo : Option Write) → Some logged ≡ option_map (logged_by_undo cells pass) undo → IsByClient logged
undo-by cells pass logged None e = absurd (cc)
undo-by cells pass logged (Some w) e = subst IsByClient (sym (ap (λ (o : Option CellRecord). unwrap_or o logged) e)) (by w.id w.place w.value)
  where
    by : (id : ℕ) (place : Place) (value : ℕ) → IsByClient (logged_by_undo cells pass (record { id = id; place = place; value = value }))
    by id (Slot slot) value = tt
    by id Payload value = tt
    by id Whole value = tt

-- the record is a `Store` into this slot
abbrev pub Writes : CellRecord → ℕ → ℕ → Type 0
Writes (logs.Store pass id slot old_target old_strong new_target new_bit new_strong) x k = (x ≡ id) × (k ≡ slot)
Writes _ x k = ⊥

-- the slot holds a strong pointer
abbrev pub IsStrong : List Cell → ℕ → ℕ → Type 0
IsStrong cells x k = is_counted_strong cells (pointer_at cells x k) ≡ true

pub no-both : {X : Type 0} (b : Bool) → b ≡ true → b ≡ false → X
no-both true e f = absurd (cc)
no-both false e f = absurd (cc)

module _ (slots ids : ℕ) (cells : List Cell) (k : AreConsistent slots ids cells) where
  -- a slot that holds a strong pointer after a client's record held one before, or the record wrote it
  pub client-strong : (r : CellRecord) → FitsCells cells r → IsByClient r → (x slot : ℕ) → IsStrong (after_cell_record slots cells r) x slot → IsStrong cells x slot ⊎ Writes r x slot
  client-strong (logs.Begin pass) f c x slot s = inl s
  client-strong (logs.Make pass id) f c x slot s =
      inl (sym (counted-same cells (after_cell_record slots cells (logs.Make pass id)) (links-made cells id slots f.0 f.1 (k.empty id f.1 f.2)) x slot) ∙ s)
  client-strong (logs.Store pass id at old_target old_strong new_target new_bit new_strong) f c x slot s =
      let p : Pointer = record { target = new_target; bit = new_bit } in
      ⊎_elim
      (λ w. inr (w.0, w.1))
      (λ e. inl (sym (strong-same cells (relinked cells id at p) x slot (relinked-bit cells id at p) e) ∙ s))
      (relinked-which cells id at p x slot (live-there cells id k.exact.none f.0.live) (live-within cells id f.0.live) f.0.within)
  client-strong (logs.Pay pass id old_value new_value) f c x slot s = inl (sym (counted-same cells (edit cells id (pays new_value)) (links-paid cells id new_value) x slot) ∙ s)
  client-strong (logs.Commit pass) f c x slot s = inl s
  client-strong (logs.Undo pass place from_strong to_bit id «from» to) f c x slot s = by (place == payload_place) f s
    where
      by : (b : Bool) → Fits cells (if b then UndoPay pass id «from» to else Undo pass id place «from» from_strong to to_bit)
          → IsStrong (after_record slots cells (if b then UndoPay pass id «from» to else Undo pass id place «from» from_strong to to_bit)) x slot → IsStrong cells x slot ⊎ Writes (logs.Undo pass place from_strong to_bit id «from» to) x slot
      by true f s = inl (sym (counted-same cells (edit cells id (pays to)) (links-paid cells id to) x slot) ∙ s)
      by false f s =
          let p : Pointer = record { target = to; bit = to_bit } in
          let later = relinked cells id place p in
          ⊎_elim
          (λ w. no-both (is_counted_strong later p) (sym (ap (is_counted_strong later) w.2) ∙ s) (laid-weak cells later p (relinked-bit cells id place p) f.1.strength))
          (λ e. inl (sym (strong-same cells later x slot (relinked-bit cells id place p) e) ∙ s))
          (relinked-which cells id place p x slot (live-there cells id k.exact.none f.0.live) (live-within cells id f.0.live) f.0.within)
  client-strong (logs.AbortEnd pass) f c x slot s = inl s
  client-strong (logs.Weaken id at target) f c x slot s = absurd c
  client-strong (logs.Strengthen id at target) f c x slot s = absurd c
  client-strong (logs.Flip id) f c x slot s = absurd c
  client-strong (logs.CutDead id at target was_strong) f c x slot s = absurd c
  client-strong (logs.Free id) f c x slot s = absurd c

  module _ (id at target : ℕ) (f : Fits cells (WeakenRecord id at target)) where
    abbrev weakened : List Cell
    weakened = relinked cells id at (other_strength (pointer_at cells id at))

    switched-weak : is_counted_strong weakened (other_strength (pointer_at cells id at)) ≡ false
    switched-weak =
        let p = pointer_at cells id at in
        laid-weak cells weakened (other_strength p) (relinked-bit cells id at (other_strength p)) (λ n. same-not (cell_at cells p.target).bit p.bit (f.0.strength f.1))

    -- the slot that was made weak isn't strong
    pub weak-here : IsStrong weakened id at → ⊥
    weak-here s =
        let p = other_strength (pointer_at cells id at) in
        let here = relinked-slot cells id at p (live-there cells id k.exact.none f.0.live) (live-within cells id f.0.live) f.0.within in
        no-both (is_counted_strong weakened p) (sym (ap (is_counted_strong weakened) here) ∙ s) switched-weak

    -- a slot that is strong was so before
    pub weak-before : (x slot : ℕ) → IsStrong weakened x slot → IsStrong cells x slot
    weak-before x slot s =
        let p = other_strength (pointer_at cells id at) in
        ⊎_elim
        (λ w. no-both (is_counted_strong weakened p) (sym (ap (is_counted_strong weakened) w.2) ∙ s) switched-weak)
        (λ e. sym (strong-same cells weakened x slot (relinked-bit cells id at p) e) ∙ s)
        (relinked-which cells id at p x slot (live-there cells id k.exact.none f.0.live) (live-within cells id f.0.live) f.0.within)
