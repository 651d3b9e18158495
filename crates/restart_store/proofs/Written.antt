-- The pages area while pages are written into it, one after another.
use Rattle.std.proofs.Common.{◌≡◌, ℕ, suc, ◌+◌, ◌*◌, ◌<◌, List, [], refl, ◌++◌, length, take, ◌∙◌, ap, sym, subst, Option, arith}
use Rattle.std.specs.Prelude.{⊤, option_map, IfSome, slice_index_or}
use Rattle.std.specs.List.{flat_map}
use Rattle.disk_model.specs.declared.area.Area.{Area}
use Rattle.disk_model.specs.declared.area.Area.TheVariants.{Pages}
use Rattle.disk_model.specs.Areas.{Bytes}
use Rattle.disk_model.specs.Told.{KeepsOthers, IsImage, IsImageBut}
use Rattle.disk_model.specs.Time.{Elapses, LeavesOnlyImages}
use Rattle.disk_model.proofs.Moments.{none_in, free_more, keeps_on}
use Rattle.cell_page.specs.declared.cell.Cell.{Cell}
use Rattle.cell_page.specs.Format.{IsSlotCount, IsPage, AreTyped, page_size, page_bytes}
use Rattle.restart_store.proofs.PageBytes.{one_page_more, long_more, none_yet, next_behind}

-- the bytes of the first pages
abbrev pub first_bytes : {slots : ℕ} → List (List (Cell slots)) → ℕ → List ℕ
first_bytes pages n = flat_map page_bytes (take n pages)

module _ {D : Type 0} (content : D → Area → Option (List ℕ)) (may_leave : D → Area → List ℕ → Type 0) (moment : D → ℕ) (left_since : D → ℕ → Bytes → Type 0) (faults : D → ℕ) where
  -- the first pages are written, and all else is as before
  pub record IsWriting {slots : ℕ} (pages : List (List (Cell slots))) (before now : D) (n : ℕ) : Type 0 where
    pub so_far : content now Pages ≡ option_map (λ _. first_bytes pages n) (content before Pages)
    pub long : length (first_bytes pages n) ≡ page_size slots * n
    pub run : LeavesOnlyImages moment left_since before now (IsImageBut may_leave before Pages (λ _. ⊤))
    pub keeps : KeepsOthers content may_leave before now Pages
    pub kept : faults now ≡ faults before

module _ {D : Type 0} {content : D → Area → Option (List ℕ)} {may_leave : D → Area → List ℕ → Type 0} {moment : D → ℕ} {left_since : D → ℕ → Bytes → Type 0} {faults : D → ℕ} where
  -- none yet
  pub none_written : {slots : ℕ} (pages : List (List (Cell slots))) (disk : D) → ((disk : D) (image : Bytes) → left_since disk (moment disk) image → IsImage may_leave disk image)
      → IfSome (content disk Pages) (λ c. c ≡ []) → IsWriting content may_leave moment left_since faults pages disk disk 0
  none_written pages disk only_now empty =
      record {
        so_far = none_yet (content disk Pages) empty;
        long = omega arith;
        run = none_in may_leave Pages (λ _. ⊤) only_now (λ image may. tt);
        keeps = λ other apart. record { same = refl; no_more = λ c may. may };
        kept = refl;
      }

  -- one more
  pub one_written : {slots : ℕ} (pages : List (List (Cell slots))) (cells : List (Cell slots)) {before mid now : D} (n : ℕ) → IsSlotCount slots
      → IsWriting content may_leave moment left_since faults pages before mid n
      → n < length pages → cells ≡ slice_index_or pages n [] → IsPage n cells → AreTyped cells
      → content now Pages ≡ option_map (λ c. c ++ page_bytes cells) (content mid Pages)
      → KeepsOthers content may_leave mid now Pages → Elapses may_leave moment left_since mid now → faults now ≡ faults mid
      → IsWriting content may_leave moment left_since faults pages before now (n + 1)
  one_written {slots} pages cells {before = before} {mid = mid} {now = now} n known was below is rules typed next keeps time kept =
      let more : suc n ≡ n + 1 = omega arith in
      let all = one_page_more pages n below ∙ ap (λ l. first_bytes pages n ++ page_bytes l) (sym is) in
      record {
        so_far = next_behind (first_bytes pages n) (page_bytes cells) (first_bytes pages (suc n)) (content before Pages) (content mid Pages) (content now Pages) all was.so_far next
            ∙ ap (λ (k : ℕ). option_map (λ _. first_bytes pages k) (content before Pages)) more;
        long = subst (λ (k : ℕ). length (first_bytes pages k) ≡ page_size slots * k) more
            (long_more pages n known below (subst (λ l. IsPage n l) is rules) (subst (λ l. AreTyped l) is typed) was.long);
        run = free_more was.run time (keeps_on was.keeps keeps);
        keeps = keeps_on was.keeps keeps;
        kept = kept ∙ was.kept;
      }
