-- Frames that are pages, one after another.
use Rattle.std.proofs.Common.{◌≡◌, ℕ, ◌+◌, ◌<◌, ◌≤◌, List, [], ◌∷◌, ◌++◌, length, get_or, sym, ap, ◌∙◌, ⊎_elim, arith, subst}
use Rattle.std.specs.Prelude.{Some, slice_get}
use Rattle.std.proofs.Math.ListN.{get_or-append}
use Rattle.std.proofs.Math.Seq.{get_or-append_seam}
use Rattle.std.proofs.lemmas.List.{length-append}
use Rattle.std.proofs.lemmas.Option.{slice_get_within, get_or_from_slice_get, slice_get-get_or}
use Rattle.std.proofs.lemmas.Bool.{cases_lt}
use Rattle.cell_page.specs.Format.{IsPage}
use Rattle.core_store.specs.declared.frame.Frame.{Frame}
use Rattle.auditor.specs.Recount.{ArePages}

-- one page more
pub pages-push : {slots : ℕ} (frames : List (Frame slots)) (f : Frame slots) (number : ℕ) → number ≡ length frames → ArePages frames → IsPage number f.page → ArePages (frames ++ f ∷ [])
pages-push {slots} frames f number at old new page frame found =
    let within = slice_get_within (frames ++ f ∷ []) page frame found in
    let size = length-append frames (f ∷ []) in
    let value = get_or_from_slice_get (frames ++ f ∷ []) page frame frame found in
    ⊎_elim
    (λ (low : page < length frames).
    old page frame (slice_get-get_or frames page frame low ∙ ap Some (sym (get_or-append frames (f ∷ []) frame page low) ∙ value)))
    (λ (high : length frames ≤ page).
    let e : page ≡ length frames = omega (arith, within, size, high) in
    let is : f ≡ frame = sym (get_or-append_seam frames f [] frame) ∙ (ap (λ (k : ℕ). get_or (frames ++ f ∷ []) k frame) (sym e) ∙ value) in
    subst (λ (k : ℕ). IsPage k frame.page) (at ∙ sym e) (subst (λ (x : Frame slots). IsPage number x.page) is new))
    (cases_lt page (length frames))
