-- All frames are held for good, or three at most for a call.
use Rattle.std.proofs.Common.{◌≡◌, ◌≢◌, ◌⊎◌, ⊎_elim, inl, inr, ℕ, zero, suc, ◌+◌, ◌*◌, ◌<◌, ◌≤◌, true, false, List, [], ◌∷◌, ◌++◌, map, length, refl, sym, ap, subst, ◌∙◌, arith}
use Rattle.std.specs.Prelude.{Some, slice_get, nat_lt}
use Rattle.std.specs.List.{AllByRecursion}
use Rattle.std.proofs.lemmas.Bool.Decides.{nat_tests}
use Rattle.std.proofs.lemmas.List.{length-map}
use Rattle.std.proofs.lemmas.Option.{slice_get_within}
use Rattle.cell_model.specs.Cells.{Cell}
use Rattle.cell_page.specs.Format.{IsSlotCount}
use Rattle.cell_page.specs.Stored.{HoldsPage}
use Rattle.core_store.specs.declared.frame.Frame.{Frame}
use Rattle.core_store.specs.declared.three.HeldFrame.{HeldFrame}
use Rattle.core_store.specs.JournalView.{JournalView, cells_of}
use Rattle.core_store.specs.Frames.{pages_held, Agree, AllAgree, HoldsAll, IsSameElsewhere, numbered}
use Rattle.core_store.proofs.WholeLaws.{length-numbered, numbered-there}
use Rattle.framed_journal.specs.Holding.{AreFramesOf, AreFramesIn, AreHeldOf, HoldsAllOf, IsHeldFor, PutsAllBack}
use Rattle.framed_journal.proofs.HoldLaws.{IsSameSize, AreFramesOf-changed, places-within}
use Rattle.framed_journal.proofs.LookLaws.{looked-frames}
use Rattle.framed_journal.proofs.UpkeepLaws.{IsSameStore, AreFramesOf-same}

-- ---- frames with their numbers

numbered-frames : {slots : ℕ} (n : ℕ) (fs : List (Frame slots)) → map (λ h. h.frame) (numbered n fs) ≡ fs
numbered-frames n [] = refl
numbered-frames {slots} n (f ∷ fs) = ap (λ (xs : List (Frame slots)). f ∷ xs) (numbered-frames (n + 1) fs)

-- the numbers tell nothing that the frames don't
pub numbered-same : {slots : ℕ} (fs gs : List (Frame slots)) → numbered 0 fs ≡ numbered 0 gs → fs ≡ gs
numbered-same {slots} fs gs e = sym (numbered-frames 0 fs) ∙ (ap (λ (hs : List (HeldFrame slots)). map (λ h. h.frame) hs) e ∙ numbered-frames 0 gs)

-- frames of the same pages are numbered alike
renumbered : {slots : ℕ} (n : ℕ) (fs : List (Frame slots)) (hs : List (HeldFrame slots)) → pages_held hs ≡ pages_held (numbered n fs) → hs ≡ numbered n (map (λ h. h.frame) hs)
renumbered n [] [] same = refl
renumbered n [] (h ∷ hs) same = absurd cc
renumbered n (f ∷ fs) [] same = absurd cc
renumbered {slots} n (f ∷ fs) (h ∷ hs) same =
    let head : h.page ≡ n = cc in
    let tail : pages_held hs ≡ pages_held (numbered (n + 1) fs) = cc in
    ap (λ (m : ℕ). let k : HeldFrame slots = record { page = m; frame = h.frame } in k ∷ hs) head
    ∙ ap (λ (xs : List (HeldFrame slots)). let k : HeldFrame slots = record { page = n; frame = h.frame } in k ∷ xs) (renumbered (n + 1) fs hs tail)

length-same : {slots : ℕ} (hs ks : List (HeldFrame slots)) → pages_held hs ≡ pages_held ks → length hs ≡ length ks
length-same {slots} hs ks same = sym (length-map hs (λ (h : HeldFrame slots). h.page)) ∙ (ap (length {A = ℕ}) same ∙ length-map ks (λ (h : HeldFrame slots). h.page))

-- ---- they are the pages of the store

agree-each : {slots : ℕ} (cells : List Cell) (n : ℕ) (fs : List (Frame slots)) → ((k : ℕ) (f : Frame slots) → slice_get fs k ≡ Some f → HoldsPage cells (n + k) f.page) → Agree cells (numbered n fs)
agree-each cells n [] each = tt
agree-each cells n (f ∷ fs) each =
    let here : n + 0 ≡ n = omega arith in
    (subst (λ m. HoldsPage cells m f.page) here (each 0 f refl), agree-each cells (n + 1) fs (λ k g got. let at : n + suc k ≡ n + 1 + k = omega arith in subst (λ m. HoldsPage cells m g.page) at (each (suc k) g got)))

each-agree : {slots : ℕ} (cells : List Cell) (n : ℕ) (fs : List (Frame slots)) → Agree cells (numbered n fs) → (k : ℕ) (f : Frame slots) → slice_get fs k ≡ Some f → HoldsPage cells (n + k) f.page
each-agree cells n [] agree k f got = absurd cc
each-agree {slots} cells n (g ∷ fs) agree zero f got =
    let same : g ≡ f = cc in
    let at : n ≡ n + 0 = omega arith in
    subst (λ m. HoldsPage cells m f.page) at (subst (λ (x : Frame slots). HoldsPage cells n x.page) same agree.0)
each-agree cells n (g ∷ fs) agree (suc k) f got =
    let at : n + 1 + k ≡ n + suc k = omega arith in
    subst (λ m. HoldsPage cells m f.page) at (each-agree cells (n + 1) fs agree.1 k f got)

pub agree-all : {slots : ℕ} (cells : List Cell) (fs : List (Frame slots)) → AllAgree cells fs → Agree cells (numbered 0 fs)
agree-all cells fs all = agree-each cells 0 fs (λ k f got. let at : k ≡ 0 + k = omega arith in subst (λ m. HoldsPage cells m f.page) at (all k f got))

pub all-agree : {slots : ℕ} (cells : List Cell) (fs : List (Frame slots)) → Agree cells (numbered 0 fs) → AllAgree cells fs
all-agree cells fs agree k f got = let at : 0 + k ≡ k = omega arith in subst (λ m. HoldsPage cells m f.page) at (each-agree cells 0 fs agree k f got)

-- ---- all of them are held

module _ {slots : ℕ} {j : JournalView} {held : List (HeldFrame slots)} (w : HoldsAllOf j held) where
  pub whole-agree : Agree (cells_of j) held
  whole-agree = rw w.are (agree-all (cells_of j) w.frames w.all.agree)

  pub whole-length : length held ≡ length w.frames
  whole-length = ap (length {A = HeldFrame slots}) w.are ∙ length-numbered 0 w.frames

  pub whole-more : 3 < length held
  whole-more = let l = whole-length in let m = w.more in omega (arith, l, m)

  pub whole-holds : HoldsAll j.history.ids held
  whole-holds page there = let p = w.all.pages in rw w.are (numbered-there 0 w.frames page (omega arith) (omega (arith, p, there)))

  pub whole-changed : (k : JournalView) (new : List (HeldFrame slots)) → IsSameSize j k → Agree (cells_of k) new → pages_held new ≡ pages_held held → HoldsAllOf k new
  whole-changed k new size agree same =
      let fs = map (λ (h : HeldFrame slots). h.frame) new in
      let are : new ≡ numbered 0 fs = renumbered 0 w.frames new (same ∙ ap (λ (hs : List (HeldFrame slots)). pages_held hs) w.are) in
      let l = length-map new (λ (h : HeldFrame slots). h.frame) in
      let m = length-same new held same in
      let n = whole-length in
      let pages = w.all.pages in
      let ids = size.ids in
      let some = w.all.some in
      let few = w.all.few in
      let more = w.more in
      record {
        frames = fs;
        are = are;
        more = omega (arith, l, m, n, more);
        all = record {
          pages = omega (arith, l, m, n, pages, ids);
          some = omega (arith, l, m, n, some);
          few = omega (arith, l, m, n, few);
          agree = all-agree (cells_of k) fs (subst (λ (hs : List (HeldFrame slots)). Agree (cells_of k) hs) are agree);
          size = (size.slots ∙ w.all.size.0, w.all.size.1);
        };
      }

-- ---- all, or none

module _ {slots : ℕ} {j : JournalView} {frames : List (Frame slots)} {held : List (HeldFrame slots)} (in_ : AreFramesIn j frames held) where
  none-short : held ≡ [] → length held ≡ 0
  none-short e = ap (length {A = HeldFrame slots}) e

  -- more than three are held only where all are
  pub in-whole : 3 < length held → HoldsAllOf j held
  in-whole more = ⊎_elim (λ k. absurd (let z = none-short k.0 in omega (arith, z, more))) (λ w. w) in_

  pub in-few : length held ≤ 3 → (held ≡ []) × AreFramesOf j frames
  in-few few = ⊎_elim (λ k. k) (λ w. absurd (let m = whole-more w in omega (arith, m, few))) in_

  pub in-size : (j.history.slots ≡ slots) × IsSlotCount slots
  in-size = ⊎_elim (λ k. k.1.size) (λ w. w.all.size) in_

-- what is held for a call
pub held-for-whole : {slots : ℕ} {j : JournalView} {held : List (HeldFrame slots)} → HoldsAllOf j held → IsHeldFor j held held
held-for-whole w = record {
  agree = whole-agree w;
  whole = λ more. refl;
  few = λ none. absurd (let z = ap (length {A = HeldFrame _}) none in let m = whole-more w in omega (arith, z, m));
}

pub held-for-few : {slots : ℕ} {j : JournalView} {old new : List (HeldFrame slots)} → old ≡ [] → AreHeldOf j new → length new ≤ 3 → IsHeldFor j old new
held-for-few {slots} none k few = record {
  agree = k.agree;
  whole = λ more. absurd (let z = ap (length {A = HeldFrame slots}) none in omega (arith, z, more));
  few = λ e. (k.within, few);
}

module _ {slots : ℕ} {j : JournalView} {frames : List (Frame slots)} {held during : List (HeldFrame slots)} (changed : List (HeldFrame slots)) (in_ : AreFramesIn j frames held) (for_ : IsHeldFor j held during) (same : pages_held changed ≡ pages_held during) where
  -- where they are put back they have their places
  pub put-within : length changed ≤ 3 → AllByRecursion (λ h. h.page < length frames) changed
  put-within few = ⊎_elim
      (λ (k : (held ≡ []) × AreFramesOf j frames). places-within j frames during changed k.1 (record { agree = for_.agree; within = (for_.few k.0).0 }) same)
      (λ w.
      let e = ap (length {A = HeldFrame slots}) (for_.whole (whole-more w)) in
      let l = length-same changed during same in
      let m = whole-more w in
      absurd (omega (arith, e, l, m, few)))
      in_

  -- and then they are the pages after the change
  pub in-changed : (k : JournalView) (new : List (Frame slots)) (left : List (HeldFrame slots)) → IsSameSize j k → Agree (cells_of k) changed → IsSameElsewhere (cells_of j) (cells_of k) during → PutsAllBack frames new changed left → AreFramesIn k new left
  in-changed k new left size agree elsewhere put = ⊎_elim
      (λ (o : (held ≡ []) × AreFramesOf j frames).
      let few = (for_.few o.0).1 in
      let l = length-same changed during same in
      let p = put.few (omega (arith, few, l)) in
      inl (p.2, AreFramesOf-changed j k frames new during changed o.1 size agree same elsewhere p.0 p.1))
      (λ (w : HoldsAllOf j held).
      let e = for_.whole (whole-more w) in
      let n = ap (length {A = HeldFrame slots}) e in
      let l = length-same changed during same in
      let m = whole-more w in
      let p = put.whole (omega (arith, n, l, m)) in
      inr (subst (λ (hs : List (HeldFrame slots)). HoldsAllOf k hs) (sym p.0) (whole-changed w k changed size agree (same ∙ ap (λ (hs : List (HeldFrame slots)). pages_held hs) e))))
      in_

-- ---- other changes of the journal

pub in-same : {slots : ℕ} {j : JournalView} (k : JournalView) {frames : List (Frame slots)} {held : List (HeldFrame slots)} → AreFramesIn j frames held → IsSameStore j k → AreFramesIn k frames held
in-same {slots} {j} k {frames} in_ same = ⊎_elim
    (λ o. inl (o.0, AreFramesOf-same j k frames o.1 same))
    (λ w. inr (record { frames = w.frames; are = w.are; more = w.more; all = AreFramesOf-same j k w.frames w.all same }))
    in_

pub in-looked : {slots : ℕ} {j : JournalView} (k : JournalView) {frames : List (Frame slots)} {held : List (HeldFrame slots)} → k ≡ record j { round = k.round } → AreFramesIn j frames held → AreFramesIn k frames held
in-looked {slots} {j} k {frames} e in_ = ⊎_elim
    (λ o. inl (o.0, looked-frames j k frames e o.1))
    (λ w. inr (record { frames = w.frames; are = w.are; more = w.more; all = looked-frames j k w.frames e w.all }))
    in_

-- ---- the frames of all pages

pub all-whole : {slots : ℕ} (all : List (Frame slots)) (frames : List (Frame slots)) (held : List (HeldFrame slots)) → held ≡ numbered 0 all → true ≡ nat_lt 3 (length held) → (j : JournalView) → AreFramesIn j frames held → AreFramesOf j all
all-whole {slots} all frames held are more j in_ =
    let w = in-whole in_ (so (length held) more) in
    subst (λ (fs : List (Frame slots)). AreFramesOf j fs) (sym (numbered-same all w.frames (sym are ∙ w.are))) w.all
  where
    so : (n : ℕ) → true ≡ nat_lt 3 n → 3 < n
    so n e = grind (arith, nat_tests)

pub all-few : {slots : ℕ} (frames : List (Frame slots)) (held : List (HeldFrame slots)) → false ≡ nat_lt 3 (length held) → (j : JournalView) → AreFramesIn j frames held → AreFramesOf j frames
all-few {slots} frames held few j in_ = (in-few in_ (so (length held) few)).1
  where
    so : (n : ℕ) → false ≡ nat_lt 3 n → n ≤ 3
    so n e = grind (arith, nat_tests)

pub lt-more : {n : ℕ} → nat_lt 3 n ≡ true → 3 < n
lt-more {n} e = grind (arith, nat_tests)

pub lt-few : {n : ℕ} → nat_lt 3 n ≡ false → n ≤ 3
lt-few {n} e = grind (arith, nat_tests)
