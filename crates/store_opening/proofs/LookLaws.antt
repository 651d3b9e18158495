-- A disk that is only looked at, call by call.
use Rattle.std.proofs.Common.{◌≡◌, ℕ, List, Option, false, refl, ◌∙◌}
use Rattle.std.specs.Prelude.{Result, Ok, Err, is_err, OnOk}
use Rattle.disk_model.specs.declared.area.Area.{Area}
use Rattle.disk_model.specs.Areas.{Bytes}
use Rattle.disk_model.specs.Told.{KeepsAll, IsImage, IsSettled}
use Rattle.disk_model.specs.Time.{Elapses, LeavesOnlyImages}
use Rattle.disk_model.proofs.Moments.{no_call, same_call, same_then, keeps_all}
use Rattle.store_opening.specs.Looks.{IsLookedAt}

module _ {D : Type 0} (content : D → Area → Option (List ℕ)) {may_leave : D → Area → List ℕ → Type 0} {moment : D → ℕ} {left_since : D → ℕ → Bytes → Type 0} where
  -- no call
  pub no_look : (disk : D) → ((disk : D) (image : Bytes) → left_since disk (moment disk) image → IsImage may_leave disk image) → IsLookedAt content may_leave moment left_since disk disk
  no_look disk only_now =
      record { keeps = λ area. record { same = refl; no_more = λ c may. may }; moments = no_call may_leave (IsImage may_leave disk) only_now (λ image may. may) }

  -- one call of the disk
  pub one_look : {before now : D} → ((disk : D) (image : Bytes) → left_since disk (moment disk) image → IsImage may_leave disk image)
      → Elapses may_leave moment left_since before now → KeepsAll content may_leave before now → IsLookedAt content may_leave moment left_since before now
  one_look only_now time keeps = record { keeps = keeps; moments = same_call content only_now time keeps }

  -- a run of calls
  pub looks : {before now : D} → KeepsAll content may_leave before now → LeavesOnlyImages moment left_since before now (IsImage may_leave before) → IsLookedAt content may_leave moment left_since before now
  looks keeps moments = record { keeps = keeps; moments = moments }

  -- two of them
  pub and_look : {before mid now : D} → IsLookedAt content may_leave moment left_since before mid → IsLookedAt content may_leave moment left_since mid now
      → IsLookedAt content may_leave moment left_since before now
  and_look a b = record { keeps = keeps_all a.keeps b.keeps; moments = same_then content a.moments a.keeps b.moments }

  -- what was settled stays so
  pub settled_kept : {before now : D} → IsLookedAt content may_leave moment left_since before now → ((area : Area) → IsSettled content may_leave before area) → (area : Area) → IsSettled content may_leave now area
  settled_kept a settled area c may = (a.keeps area).same ∙ settled area c ((a.keeps area).no_more c may)

-- what holds where a call was done holds where it wasn't refused
pub was_ok : {T E : Type 0} (r : Result T E) (P : Type 0) → is_err r ≡ false → OnOk r P → P
was_ok (Ok t) P e h = h
was_ok (Err x) P e h = absurd cc
