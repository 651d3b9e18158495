-- What an opening touches, call by call.
use Rattle.std.proofs.Common.{◌≡◌, ◌≢◌, ◌⊎◌, ℕ, List, Option, Some, None, inl, inr, refl, sym, subst, ◌∙◌}
use Rattle.std.specs.Prelude.{IfSome, ⊤}
use Rattle.disk_model.specs.declared.area.Area.{Area}
use Rattle.disk_model.specs.declared.area.Area.TheVariants.{Pages, Super}
use Rattle.disk_model.specs.Areas.{Bytes, in_area}
use Rattle.disk_model.specs.Told.{Keeps, KeepsOthers, IsSettled, IsImage, IsImageBut, Leaves}
use Rattle.disk_model.specs.Time.{LeavesOnlyImages}
use Rattle.disk_model.proofs.Moments.{and_then}
use Rattle.gate_log.specs.OnDisk.{named_by, IsOn}
use Rattle.gate_log.specs.State.{LogState}
use Rattle.store_opening.specs.Looks.{IsLookedAt}
use Rattle.store_opening.specs.Store.{Reads}
use Rattle.opened_store.specs.Lengths.{Extends}
use Rattle.opened_store.specs.Touched.{IsTouched, TouchesOnly}
use Rattle.opened_store.proofs.BegunLaws.{keeps-then}
use Rattle.opened_store.proofs.OpenLaws.{pages-apart}

-- what holds of a value that is told
if-told : (o : Option (List ℕ)) (P : List ℕ → Type 0) → ((c : List ℕ) → o ≡ Some c → P c) → IfSome o P
if-told None P each = tt
if-told (Some c) P each = each c refl

module _ {D : Type 0} (content : D → Area → Option (List ℕ)) (may_leave : D → Area → List ℕ → Type 0) {moment : D → ℕ} {left_since : D → ℕ → Bytes → Type 0} where
  -- a disk that was read, and then a force of its log
  pub force-touches : ((disk : D) (area : Area) → IfSome (content disk area) (may_leave disk area)) → (before mid now : D) (log : LogState) (batches : List (List ℕ)) → IsLookedAt content may_leave moment left_since before mid → IsOn may_leave log mid batches
      → KeepsOthers content may_leave mid now log.area → LeavesOnlyImages moment left_since mid now (IsImageBut may_leave mid log.area (λ _. ⊤)) → TouchesOnly content may_leave moment left_since before now log.area
  force-touches stays before mid now log batches looks on keeps run = record {
    is_log = on.area;
    named = subst (λ (o : Option (List ℕ)). IfSome o (λ bytes. named_by bytes ≡ Some log.area)) (looks.keeps Super).same (named-left (content mid Super) (stays mid Super));
    others = λ area apart no_pages. keeps-then content may_leave before mid now area (looks.keeps area) (keeps area apart);
    pages = if-told (content before Pages) _ (λ read told bytes may. inl ((keeps-then content may_leave before mid now Pages (looks.keeps Pages) (keeps Pages (pages-apart log.area on.area))).no_more bytes may));
    moments = λ read told.
        and_then (IsTouched may_leave before log.area read)
        (λ image may. record { others = λ area apart no_pages. may area; pages = inl (may Pages) })
        (λ image but. record {
          others = λ area apart no_pages. (looks.keeps area).no_more (in_area image area) (but.others area apart);
          pages = inl ((looks.keeps Pages).no_more image.pages (but.others Pages (pages-apart log.area on.area)));
        }) looks.moments run;
  }
    where
      named-left : (o : Option (List ℕ)) → IfSome o (may_leave mid Super) → IfSome o (λ bytes. named_by bytes ≡ Some log.area)
      named-left None h = tt
      named-left (Some c) h = on.named c h

  -- and then the pages area is made longer
  pub length-touches : (before mid now : D) (log : Area) → TouchesOnly content may_leave moment left_since before mid log → Keeps content may_leave before mid Pages → IsSettled content may_leave mid Pages → KeepsOthers content may_leave mid now Pages
      → ((c : List ℕ) → IsSettled content may_leave mid Pages → content mid Pages ≡ Some c → Leaves may_leave now Pages (Extends c))
      → ((c : List ℕ) → IsSettled content may_leave mid Pages → content mid Pages ≡ Some c → LeavesOnlyImages moment left_since mid now (IsImageBut may_leave mid Pages (Extends c)))
      → TouchesOnly content may_leave moment left_since before now log
  length-touches before mid now log t same settled keeps left run = record {
    is_log = t.is_log;
    named = t.named;
    others = λ area apart no_pages. keeps-then content may_leave before mid now area (t.others area apart no_pages) (keeps area no_pages);
    pages = if-told (content before Pages) _ (λ read told bytes may. inr (left read settled (same.same ∙ told) bytes may));
    moments = λ read told.
        and_then (IsTouched may_leave before log read) (λ image was. was)
        (λ image but. record { others = λ area apart no_pages. (t.others area apart no_pages).no_more (in_area image area) (but.others area no_pages); pages = inr but.here })
        (t.moments read told) (run read.pages settled (same.same ∙ told Pages));
  }
