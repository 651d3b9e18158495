-- A store whose pages area was lengthened.
use Rattle.std.proofs.Common.{◌≡◌, ◌≢◌, ℕ, ◌≤◌, ◌⊎◌, inr, length, List, Option, Some, None, refl, sym, ◌∙◌, subst}
use Rattle.std.specs.Prelude.{IfSome, IsSome, option_map}
use Rattle.cell_model.specs.Cells.{Cell}
use Rattle.disk_model.specs.declared.area.Area.{Area}
use Rattle.disk_model.specs.declared.area.Area.TheVariants.{Pages, LogA, LogB, Super}
use Rattle.disk_model.specs.Areas.{Bytes, in_area}
use Rattle.disk_model.specs.Told.{Keeps, KeepsOthers, IsSettled, IsImage, IsImageBut, EachImage, Leaves}
use Rattle.disk_model.specs.Time.{LeavesOnlyImages}
use Rattle.disk_model.proofs.Moments.{images_but, and_then}
use Rattle.cell_page.specs.Format.{IsSlotCount}
use Rattle.opened_images.proofs.OneOutcome.{one_outcome}
use Rattle.gate_log.specs.State.{LogState}
use Rattle.gate_log.specs.OnDisk.{IsOn}
use Rattle.page_marks.specs.declared.marks.PageMark.{PageMark}
use Rattle.page_marks.specs.Marks.{IsMarkedBegun}
use Rattle.opened_images.specs.Opened.{Opened, OpensTo}
use Rattle.store_opening.specs.Store.{Reads}
use Rattle.opened_store.proofs.MomentLaws.{same-cells}
use Rattle.opened_store.specs.Lengths.{Extends, lengthened}
use Rattle.opened_store.proofs.BegunLaws.{told-image, reads-left}
use Rattle.opened_store.proofs.LongerLaws.{longer, begun-longer}
use Rattle.opened_store.proofs.OpenLaws.{pages-apart}

super-apart : Super ≢ Pages
super-apart e = cc (e)

log-a-apart : LogA ≢ Pages
log-a-apart e = cc (e)

log-b-apart : LogB ≢ Pages
log-b-apart e = cc (e)

-- what a map answers, by what it was given
was-some : (f : List ℕ → List ℕ) (o : Option (List ℕ)) (c : List ℕ) → option_map f o ≡ Some c → (b : List ℕ) × (o ≡ Some b) × (c ≡ f b)
was-some f (Some b) c e = (b, refl, cc)
was-some f None c e = absurd cc

module _ {D : Type 0} (content : D → Area → Option (List ℕ)) (may_leave : D → Area → List ℕ → Type 0) where
  -- a log that stands on a disk stands there still where the pages area alone changed
  pub on-kept : (before now : D) (log : LogState) (batches : List (List ℕ)) → KeepsOthers content may_leave before now Pages → IsOn may_leave log before batches → IsOn may_leave log now batches
  on-kept before now log batches keeps on = record {
    area = on.area;
    named = λ c may. on.named c ((keeps Super super-apart).no_more c may);
    logs = λ c may. on.logs c ((keeps log.area (λ e. pages-apart log.area on.area (sym e))).no_more c may);
    commit_byte = on.commit_byte;
  }

  -- where each image of a disk opens to the cells, so does one whose pages area goes on after what the disk reads there
  pub opens-longer : ((disk : D) (area : Area) → IfSome (content disk area) (may_leave disk area)) → (slots : ℕ) (disk : D) (c : List ℕ) (cells : List Cell) (other : Bytes) → content disk Pages ≡ Some c
      → EachImage may_leave disk (λ image. Opened slots image (OpensTo cells)) → IsImageBut may_leave disk Pages (Extends c) other → Opened slots other (OpensTo cells)
  opens-longer stays slots disk c cells other told each but =
      subst (λ (pages : List ℕ). Opened slots (record other { pages = pages }) (OpensTo cells)) (sym but.here.are) (longer slots (record other { pages = c }) but.here.rest (OpensTo cells) tt (each (record other { pages = c }) may))
    where
      may : (area : Area) → may_leave disk area (in_area (record other { pages = c }) area)
      may Pages = reads-left content may_leave stays disk Pages c told
      may LogA = but.others LogA log-a-apart
      may LogB = but.others LogB log-b-apart
      may Super = but.others Super super-apart

  -- so do all that a power loss leaves of the disk that was lengthened
  pub all-longer : ((disk : D) (area : Area) → IfSome (content disk area) (may_leave disk area)) → (slots : ℕ) (before now : D) (c : List ℕ) (cells : List Cell) → content before Pages ≡ Some c → KeepsOthers content may_leave before now Pages
      → Leaves may_leave now Pages (Extends c) → EachImage may_leave before (λ image. Opened slots image (OpensTo cells)) → EachImage may_leave now (λ image. Opened slots image (OpensTo cells))
  all-longer stays slots before now c cells told keeps left each other may =
      opens-longer stays slots before c cells other told each (images_but Pages (Extends c) keeps left other may)

  -- at each moment of an opening and then of the lengthening
  pub moments-longer : {moment : D → ℕ} {left_since : D → ℕ → Bytes → Type 0} → ((disk : D) (area : Area) → IfSome (content disk area) (may_leave disk area)) → (slots : ℕ) (before mid now : D) (image : Bytes) (cells found : List Cell) → IsSlotCount slots
      → content mid Pages ≡ Some image.pages → Opened slots image (OpensTo cells) → Opened slots image (OpensTo found) → EachImage may_leave mid (λ other. Opened slots other (OpensTo found))
      → LeavesOnlyImages moment left_since before mid (λ other. IsImage may_leave before other ⊎ Opened slots other (OpensTo cells)) → LeavesOnlyImages moment left_since mid now (IsImageBut may_leave mid Pages (Extends image.pages))
      → LeavesOnlyImages moment left_since before now (λ other. IsImage may_leave before other ⊎ Opened slots other (OpensTo cells))
  moments-longer stays slots before mid now image cells found known told opened is each run next =
      let same = same-cells found cells (one_outcome known image (OpensTo found) (OpensTo cells) is opened) in
      and_then (λ other. IsImage may_leave before other ⊎ Opened slots other (OpensTo cells)) (λ other either. either)
      (λ other but. inr (subst (λ (cs : List Cell). Opened slots other (OpensTo cs)) same (opens-longer stays slots mid image.pages found other told each but))) run next

  -- whatever a power loss leaves in the pages area, a journal goes on from it
  pub begun-left : (marks : List PageMark) → ((disk : D) (area other : Area) → IfSome (content disk area) (λ _. IsSome (content disk other))) → (slots count wanted : ℕ) (before mid now : D) (batches : List (List ℕ)) (cells : List Cell) → Keeps content may_leave before mid Pages
      → content now Pages ≡ option_map (lengthened wanted) (content mid Pages) → IsSettled content may_leave now Pages
      → ((image : Bytes) → Reads content before image → IsMarkedBegun slots count image.pages batches cells marks) → Leaves may_leave now Pages (λ area. IsMarkedBegun slots count area batches cells marks)
  begun-left marks told slots count wanted before mid now batches cells keeps bytes settled begun area may =
      let was = was-some (lengthened wanted) (content mid Pages) area (sym bytes ∙ settled area may) in
      let there = told-image content told before was.0 (sym keeps.same ∙ was.1) in
      let first = subst (λ (c : List ℕ). IsMarkedBegun slots count c batches cells marks) there.1 (begun there.0 there.2) in
      subst (λ (c : List ℕ). IsMarkedBegun slots count c batches cells marks) (sym was.2) (begun-longer slots count was.0 _ batches cells marks first)

  -- what the disk reads there has so many bytes, and that is what a power loss leaves
  pub long-left : (wanted bytes : ℕ) (now : D) → bytes ≡ wanted → IfSome (content now Pages) (λ (c : List ℕ). bytes ≤ length c) → IsSettled content may_leave now Pages
      → Leaves may_leave now Pages (λ area. wanted ≤ length area)
  long-left wanted bytes now same long settled area may =
      subst (λ (n : ℕ). n ≤ length area) same (subst (λ (o : Option (List ℕ)). IfSome o (λ (c : List ℕ). bytes ≤ length c)) (settled area may) long)
