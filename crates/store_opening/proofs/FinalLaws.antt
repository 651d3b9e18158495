-- Refusals on account of what a disk holds.
use Rattle.std.proofs.Common.{◌≡◌, ◌⊎◌, Bool, true, false, ℕ, zero, suc, ◌<◌, ◌≤◌, List, [], ◌∷◌, length, Option, ⊎_elim, refl, sym, ◌∙◌, arith}
use Rattle.std.specs.Prelude.{slice_index}
use Rattle.std.proofs.lemmas.Bool.{cases_lt}
use Rattle.disk_model.specs.declared.area.Area.{Area}
use Rattle.disk_model.specs.Areas.{Bytes, in_area}
use Rattle.disk_model.specs.Told.{KeepsAll, IsSettled}
use Rattle.gate_log.specs.declared.refusal.LogRefusal.{LogRefusal}
use Rattle.gate_log.specs.declared.refusal.LogRefusal.TheVariants.{Disk, LogFull, Damaged, Memory}
use Rattle.log_record.specs.declared.record.Record.{Record}
use Rattle.log_replay.specs.Finishes.{AreNoneAwaited}
use Rattle.log_replay.specs.Replays.{Replaying}
use Rattle.store_opening.specs.declared.open_refusal.OpenRefusal.{OpenRefusal}
use Rattle.store_opening.specs.Replayed.{IsReplayed}
use Rattle.store_opening.specs.Store.{Reads, Refuses, IsFinal}

-- where all areas are settled, and what they read is refused, the refusal is final
pub final_of : {D : Type 0} (content : D → Area → Option (List ℕ)) (may_leave : D → Area → List ℕ → Type 0) (slots : ℕ) (before now : D) (e : OpenRefusal) → KeepsAll content may_leave before now
    → ((area : Area) → IsSettled content may_leave now area) → ((image : Bytes) → Reads content before image → Refuses slots image e) → IsFinal content may_leave slots now e
final_of content may_leave slots before now e keeps settled refused =
    record { settled = settled; refuses = λ image may. refused image (λ area. sym (keeps area).same ∙ settled area (in_area image area) (may area)) }

-- a log that is read is never full
pub not_full : (r : LogRefusal) → (r ≡ Disk) ⊎ ((r ≡ Memory) ⊎ ((place : ℕ) × (r ≡ Damaged place))) → (used : ℕ) → r ≡ LogFull used → ⊥
not_full Disk of_read used e = cc (e)
not_full Memory of_read used e = cc (e)
not_full (Damaged at) of_read used e = cc (e)
not_full (LogFull u) of_read used e = ⊎_elim (λ d. cc (d)) (λ more. ⊎_elim (λ m. cc (m)) (λ d. let is = d.1 in cc (is)) more) of_read

-- past its end a list has the number 0
past_end : (xs : List ℕ) (p : ℕ) → length xs ≤ p → slice_index xs p ≡ 0
past_end [] p le = refl
past_end (x ∷ xs) zero le = absurd (omega (arith, le))
past_end (x ∷ xs) (suc p) le = past_end xs p (omega (arith, le))

-- after all records of an image no image is awaited
pub none_awaited : {slots : ℕ} (image : Bytes) (area : Area) (count : ℕ) (batches : List (List (Record slots))) (w : Replaying) → IsReplayed slots image area count batches w → AreNoneAwaited w.skips
none_awaited image area count batches w r p = ⊎_elim (λ low. r.none p low) (λ over. past_end w.skips p (let long = r.long in omega (arith, long, over))) (cases_lt p count)

-- a truth value is one of the two
pub either_way : (b : Bool) → (b ≡ true → ⊥) → (b ≡ false → ⊥) → ⊥
either_way true f g = f refl
either_way false f g = g refl
