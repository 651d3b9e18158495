-- A store that is tended.
use Rattle.std.proofs.Common.{◌≡◌, ℕ, ◌+◌, ◌<◌, ◌≤◌, Bool, true, false, List, Result, Ok, Err, length, refl, ap₂, arith, ⊎_elim}
use Rattle.std.specs.Prelude.{◌↔◌, IfOk, IfErr, OnOk}
use Rattle.std.proofs.lemmas.Bool.{cases_lt}
use Rattle.disk_model.specs.declared.area.Area.{Area}
use Rattle.gate_log.specs.State.{used}
use Rattle.object_store.specs.declared.error.StoreError.{StoreError}
use Rattle.object_store.specs.Handles.{StoreView}
use Rattle.object_store.specs.Upkeep.{CollectsUpTo, FailsToCollect, Checkpoints, soft_limit, Readies, Tends, FailsToTend, stopped}

-- what a test of the log's length says
pub is_short : (b : Bool) (half bytes : ℕ) → (b ≡ true) ↔ (half < bytes) → b ≡ false → bytes ≤ half
is_short b half bytes told is = ⊎_elim (λ (w : half < bytes). absurd (let t : b ≡ true = told.1 w in cc)) (λ (w : bytes ≤ half). w) (cases_lt half bytes)

pub if_err : {X : Type 0} {E : Type 0} (P : Type 0) (r : Result X E) → P → IfErr r (λ _. P)
if_err P (Ok x) p = tt
if_err P (Err e) p = p

-- the log is short enough as it is
pub ready_now : {D : Type 0} (may_leave : D → Area → List ℕ → Type 0) (u : StoreView D) → used u.below.log ≤ soft_limit u → Readies may_leave u u
ready_now may_leave u short = record {
  was = λ h. refl;
  turned = λ h. absurd (omega (arith, h, short));
  room = omega (arith, short);
}

-- a checkpoint made it short
pub ready_then : {D : Type 0} (may_leave : D → Area → List ℕ → Type 0) (u m : StoreView D) → soft_limit u < used u.below.log → Checkpoints may_leave u m → Readies may_leave u m
ready_then may_leave u m long c =
    let fifteen : used m.below.log ≡ 15 = ap₂ (λ (d : ℕ) (t : List ℕ). d + 6 + length t) c.turns.turns.first c.turns.turns.does.tail in
    record {
      was = λ h. absurd (omega (arith, h, long));
      turned = λ h. c;
      room = omega (arith, fifteen);
    }

pub readies_turned : {D : Type 0} (may_leave : D → Area → List ℕ → Type 0) (u m : StoreView D) (r : Result (Unit {0}) StoreError) → soft_limit u < used u.below.log → OnOk r (Checkpoints may_leave u m) → OnOk r (Readies may_leave u m)
readies_turned may_leave u m (Ok x) long c = ready_then may_leave u m long c
readies_turned may_leave u m (Err why) long c = tt

pub record TendTold {D : Type 0} (faults : D → ℕ) (may_leave : D → Area → List ℕ → Type 0) (steps : ℕ) (r : Result ℕ StoreError) (old new : StoreView D) : Type 0 where
  pub tends : IfOk r (λ left. Tends may_leave steps left old new)
  pub failed : IfErr r (λ why. FailsToTend faults may_leave steps why old new)

pub tend_told : {D : Type 0} (faults : D → ℕ) (may_leave : D → Area → List ℕ → Type 0) (steps : ℕ) (u m w : StoreView D) (r : Result ℕ StoreError) → Readies may_leave u m → IfOk r (λ left. CollectsUpTo steps left m w) → IfErr r (λ why. FailsToCollect steps why m w)
    → TendTold faults may_leave steps r u w
tend_told faults may_leave steps u m w (Ok left) ready collects fails = record { tends = record { ready = m; readies = ready; collects = collects }; failed = tt }
tend_told faults may_leave steps u m w (Err why) ready collects fails = record { tends = tt; failed = stopped m ready fails }
