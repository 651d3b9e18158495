-- A log that was appended to.
use Rattle.std.specs.Prelude.{Option, option_map}
use Rattle.std.proofs.Common.{◌≡◌, ℕ, ◌+◌, ◌<◌, ◌≤◌, List, [], ◌∷◌, ◌++◌, length, refl, sym, ap, ◌∙◌, subst, arith}
use Rattle.disk_model.specs.declared.area.Area.{Area}
use Rattle.gate_log.specs.Batches.{most_bytes}
use Rattle.gate_log.specs.State.{LogState, used, appended, batch_length, forced_area}
use Rattle.gate_log.specs.OnDisk.{IsOn}
use Rattle.store_opening.specs.Room.{batch_size}

pub tail-is : (log new : LogState) (bytes : List ℕ) → new ≡ appended log bytes → log.tail ≡ [] → new.tail ≡ bytes
tail-is log new bytes e none = ap (λ (s : LogState). s.tail) e ∙ ap (λ (t : List ℕ). t ++ bytes) none

pub on-appended : {D : Type 0} (may_leave : D → Area → List ℕ → Type 0) (log new : LogState) (disk : D) (bytes : List ℕ) (batches : List (List ℕ)) → new ≡ appended log bytes → IsOn may_leave log disk batches → IsOn may_leave new disk batches
on-appended may_leave log new disk bytes batches e on =
    subst (λ (s : LogState). IsOn may_leave s disk batches) (sym e) (record { area = on.area; named = on.named; logs = on.logs; commit_byte = on.commit_byte })

batch-long : (bytes : List ℕ) → length bytes ≤ batch_length bytes
batch-long [] = omega arith
batch-long (byte ∷ more) = omega arith

-- where there is room for the batch, its bytes fit the log area
pub fits-appended : (log : LogState) (bytes : List ℕ) → log.tail ≡ [] → used log + batch_length bytes ≤ most_bytes → used (appended log bytes) ≤ most_bytes
fits-appended log bytes none room =
    let tail = ap (λ (t : List ℕ). length (t ++ bytes)) none in
    let empty = ap (λ (t : List ℕ). length t) none in
    let long = batch-long bytes in
    omega (arith, room, tail, empty, long)

-- and what begins a batch after it does so too
pub fits-forced : (log new : LogState) (bytes : List ℕ) → log.tail ≡ [] → used log + batch_length bytes ≤ most_bytes → new.durable ≡ log.durable + batch_length bytes → new.tail ≡ [] → used new ≤ most_bytes
fits-forced log new bytes none room is gone =
    let empty = ap (λ (t : List ℕ). length t) none in
    let left = ap (λ (t : List ℕ). length t) gone in
    omega (arith, room, empty, left, is)

pub batch-some : (bytes : List ℕ) → 0 < length bytes → batch_length bytes ≡ 5 + length bytes
batch-some [] some = absurd (omega (arith, some))
batch-some (byte ∷ more) some = refl

pub batch-none : (bytes : List ℕ) → length bytes ≡ 0 → batch_length bytes ≡ 0
batch-none [] none = refl
batch-none (byte ∷ more) none = absurd (omega (arith, none))

pub batch-sized : (bytes : List ℕ) (n : ℕ) → length bytes ≡ n → batch_length bytes ≡ batch_size n
batch-sized [] n is = ap batch_size is
batch-sized (byte ∷ more) n is = ap batch_size is

-- what is forced of a log that was appended to
pub bytes-forced : {D : Type 0} (content : D → Area → Option (List ℕ)) (log mid : LogState) (before now : D) (bytes : List ℕ) → mid.area ≡ log.area → mid.durable ≡ log.durable → mid.tail ≡ bytes
    → content now mid.area ≡ option_map (forced_area mid.durable mid.tail) (content before mid.area) → content now log.area ≡ option_map (forced_area log.durable bytes) (content before log.area)
bytes-forced content log mid before now bytes area durable tail e =
    subst (λ (a : Area). content now a ≡ option_map (forced_area log.durable bytes) (content before a)) area
    (subst (λ (n : ℕ). content now mid.area ≡ option_map (forced_area n bytes) (content before mid.area)) durable
    (subst (λ (t : List ℕ). content now mid.area ≡ option_map (forced_area mid.durable t) (content before mid.area)) tail e))
