-- Frames are put back into their places.
use Rattle.std.proofs.Common.{◌≡◌, ◌≢◌, ℕ, ◌<◌, false, List, [], ◌∷◌, ◌++◌, length, set, take, drop, refl, sym, ap, ◌∙◌, inl, inr}
use Rattle.std.specs.Prelude.{◌==◌, Some, slice_get}
use Rattle.std.proofs.Math.Seq.{take-append_seam}
use Rattle.std.proofs.lemmas.Bool.{eqb-true, eq-eqb, cases_Bool}
use Rattle.std.proofs.lemmas.List.{length-set, get_or-set_other}
use Rattle.std.proofs.lemmas.Grind.{get_or-set_at}
use Rattle.std.proofs.lemmas.Option.{slice_get-get_or, slice_get_within, get_or_from_slice_get}
use Rattle.core_store.specs.declared.frame.Frame.{Frame}
use Rattle.core_store.specs.declared.three.HeldFrame.{HeldFrame}
use Rattle.core_store.proofs.PageLaws.{is_held-put, Agree-taken}
use Rattle.framed_journal.specs.Holding.{PutsBack, FollowsChange}

pub PutsBack-none : {slots : ℕ} (frames : List (Frame slots)) (held : List (HeldFrame slots)) → PutsBack frames frames held held
PutsBack-none frames held = record {
  left_agree = λ after agree. agree;
  put_agree = λ before after fits agree elsewhere page frame got other.
      let was = fits page frame got in
      record { rules = was.rules; same = was.same ∙ sym (elsewhere page other) };
}

-- what stands in another place stays
put_other : {slots : ℕ} (frames : List (Frame slots)) (at page : ℕ) (new frame : Frame slots) → (at == page) ≡ false → slice_get (set frames at new) page ≡ Some frame → slice_get frames page ≡ Some frame
put_other {slots} frames at page new frame apart got =
    let within : page < length frames = rw (← length-set frames at new) (slice_get_within (set frames at new) page frame got) in
    let other : page ≢ at = λ e. let same = eq-eqb at page (sym e) in absurd cc in
    slice_get-get_or frames page frame within
    ∙ ap (λ (x : Frame slots). Some x) (sym (get_or-set_other frames at page new frame other) ∙ get_or_from_slice_get (set frames at new) page frame frame got)

-- the last of those that are left
pub PutsBack-more : {slots : ℕ} (old now : List (Frame slots)) (held left : List (HeldFrame slots)) (h : HeldFrame slots) → h.page < length now → PutsBack old now held (left ++ h ∷ []) → PutsBack old (set now h.page h.frame) held left
PutsBack-more old now held left h within p = record {
  left_agree = λ after agree. (Agree-taken after left h (p.left_agree after agree)).0;
  put_agree = λ before after fits agree elsewhere page frame got other.
      elim (cases_Bool (h.page == page)) [
        | inl e ↦
            let same : h.page ≡ page = eqb-true h.page page e in
            let it : frame ≡ h.frame = sym (get_or_from_slice_get (set now h.page h.frame) page frame h.frame got) ∙ get_or-set_at now h.page page h.frame h.frame (sym same) within in
            rw (← same, it) (Agree-taken after left h (p.left_agree after agree)).1
        | inr e ↦ p.put_agree before after fits agree elsewhere page frame (put_other now h.page page h.frame frame e got) (is_held-put left h page ∙ rw (other, e) refl)
      ];
}

pub FollowsChange-all : {slots : ℕ} (old now : List (Frame slots)) (held left : List (HeldFrame slots)) → left ≡ [] → PutsBack old now held left → FollowsChange old now held
FollowsChange-all old now held left none p before after fits agree elsewhere page frame got = p.put_agree before after fits agree elsewhere page frame got (rw none refl)

-- what was written through a slice of all frames is all of them
pub written : {X : Type 0} (old new : List X) (n : ℕ) → n ≡ length old → length new ≡ length old → take n (new ++ drop (length new) old) ≡ new
written old new n all same = ap (λ (m : ℕ). take m (new ++ drop (length new) old)) (all ∙ sym same) ∙ take-append_seam new (drop (length new) old)
