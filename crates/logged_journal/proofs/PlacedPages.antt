-- Changed pages are written in place, neighbouring ones by one disk call.
use Rattle.std.proofs.Common.{◌≡◌, ◌⊎◌, inl, inr, ⊎_elim, ℕ, ◌+◌, ◌-◌, ◌*◌, ◌<◌, ◌≤◌, true, false, List, [], ◌++◌, length, take, drop, Option, Some, None, Result, Ok, Err, refl, sym, ◌∙◌, ap, subst, arith, mul-zero}
use Rattle.std.specs.Prelude.{IfSome, OnOk}
use Rattle.std.proofs.lemmas.Bool.{cases_lt}
use Rattle.std.proofs.lemmas.List.{take-append-le, drop-append-le, length-drop, length-append, take_all}
use Rattle.std.proofs.Math.Nat.{mul-le-mul_left}
use Rattle.std.proofs.Math.Seq.{drop-append_seam}
use Rattle.disk_model.specs.declared.area.Area.{Area}
use Rattle.disk_model.specs.declared.area.Area.TheVariants.{Pages, LogA, LogB, Super}
use Rattle.disk_model.specs.Areas.{Bytes, in_area}
use Rattle.disk_model.specs.Told.{KeepsOthers, Follows, Steps, Leaves, EachImage, IsImage}
use Rattle.disk_model.specs.Time.{LeavesOnlyImages}
use Rattle.disk_model.proofs.Moments.{no_call, and_then}
use Rattle.cell_page.specs.Format.{page_size, page_bytes}
use Rattle.page_area.specs.Place.{bytes_of_page}
use Rattle.page_area.specs.InPlace.{AreTorn, HasTornPages, HasCopy}
use Rattle.page_area.proofs.InPlaceLaws.{torn_others, copy_stays}
use Rattle.page_marks.specs.declared.marks.PageMark.{PageMark}
use Rattle.logged_journal.proofs.Counting.{count_with}
use Rattle.core_store.specs.declared.frame.Frame.{Frame}
use Rattle.logged_journal.specs.Checkpoints.{page_in, has_changed, changed_below, AreSameUnchanged, AreThere, OnlyPlaces}

-- ---- the other pages

pub same_unchanged : (slots : ℕ) (marks : List PageMark) (area : List ℕ) → AreSameUnchanged slots marks area area
same_unchanged slots marks area = record { no_shorter = omega arith; same = λ page low none. refl }

pub same_unchanged_then : (slots : ℕ) (marks : List PageMark) (before mid now : List ℕ) → AreSameUnchanged slots marks before mid → AreSameUnchanged slots marks mid now → AreSameUnchanged slots marks before now
same_unchanged_then slots marks before mid now one more =
    record { no_shorter = (let a = one.no_shorter in let b = more.no_shorter in omega (arith, a, b)); same = λ page low none. more.same page low none ∙ one.same page low none }

-- the page stands before the pages of a write, or after them, or is one of them
where_is : (page first count : ℕ) → (page < first) ⊎ ((first ≤ page) × (page < first + count)) ⊎ (first + count ≤ page)
where_is page first count = ⊎_elim (λ front. inl front) (λ behind. ⊎_elim (λ inside. inr (inl (behind, inside))) (λ past. inr (inr past)) (cases_lt page (first + count))) (cases_lt page first)

-- a write of changed pages that was cut off leaves the others
pub torn_unchanged : (slots : ℕ) (marks : List PageMark) (first count : ℕ) (before now : List ℕ) → ((page : ℕ) → first ≤ page → page < first + count → has_changed marks page ≡ true)
    → page_size slots * length marks ≤ length before → AreTorn slots first count before now → AreSameUnchanged slots marks before now
torn_unchanged slots marks first count before now all long torn = record {
  no_shorter = torn.no_shorter;
  same = λ page low none.
      let whole : page_size slots * (page + 1) ≤ page_size slots * length marks = mul-le-mul_left (page_size slots) (omega (arith, low)) in
      torn_others slots first count page before now torn
      (⊎_elim (λ front. inl front) (λ rest. ⊎_elim (λ inside. absurd (cc (sym (all page inside.0 inside.1) ∙ none))) (λ past. inr past) rest) (where_is page first count))
      (omega (arith, whole, long));
}

same_some : {X : Type 0} (a b : X) → Some a ≡ Some b → a ≡ b
same_some a b e = cc

-- ---- the run

-- what stands after so many bytes
drop_front : (front more : List ℕ) (n : ℕ) → length front ≡ n → drop n (front ++ more) ≡ more
drop_front front more n is = subst (λ (k : ℕ). drop k (front ++ more) ≡ more) is (drop-append_seam front more)

-- the bytes of a page of it
page_before : (slots k : ℕ) (run more : List ℕ) → page_size slots * (k + 1) ≤ length run → bytes_of_page slots k (run ++ more) ≡ bytes_of_page slots k run
page_before slots k run more low =
    let size = page_size slots in
    let sum : size * (k + 1) ≡ size * k + size = omega arith in
    let front : size * k ≤ length run = omega (arith, low, sum) in
    let long = length-drop (size * k) run in
    ap (λ (l : List ℕ). take size l) (drop-append-le (size * k) run more front) ∙ take-append-le size (drop (size * k) run) more (omega (arith, long, low, sum))

page_last : (slots k : ℕ) (run more : List ℕ) → length run ≡ page_size slots * k → length more ≡ page_size slots → bytes_of_page slots k (run ++ more) ≡ more
page_last slots k run more long size =
    ap (λ (l : List ℕ). take (page_size slots) l) (drop_front run more (page_size slots * k) long) ∙ take_all (page_size slots) more (omega (arith, size))

-- ---- the disk

module _ {D : Type 0} (content : D → Area → Option (List ℕ)) (may_leave : D → Area → List ℕ → Type 0) (moment : D → ℕ) (left_since : D → ℕ → Bytes → Type 0) (faults : D → ℕ) {slots : ℕ} (marks : List PageMark) (frames : List (Frame slots)) where
  -- The changed pages below the first one of the run stand in place, and the run has those from it on up to this page.
  pub record IsPlacing (start now : D) (first page : ℕ) (run : List ℕ) : Type 0 where
    pub only : OnlyPlaces content may_leave moment left_since faults slots marks start now
    pub there : IfSome (content now Pages) (AreThere frames marks first)
    pub order : first ≤ page
    pub all : (p : ℕ) → first ≤ p → p < page → has_changed marks p ≡ true
    pub long : length run ≡ page_size slots * (page - first)
    pub bytes : (k : ℕ) → first + k < page → bytes_of_page slots k run ≡ page_bytes (page_in frames (first + k))
    pub few : page - first ≤ length (changed_below marks page)

  pub start_placing : (only_now : (disk : D) (b : Bytes) → left_since disk (moment disk) b → IsImage may_leave disk b) (start : D) → IsPlacing start start 0 0 []
  start_placing only_now start = record {
    only = record {
      left = λ c may. (c, may, same_unchanged slots marks c);
      moments = no_call may_leave _ only_now (λ image may. record { here = (in_area image Pages, may Pages, same_unchanged slots marks (in_area image Pages)); others = λ other apart. may other });
      keeps = λ other apart. record { same = refl; no_more = λ c may. may };
      later = omega arith;
    };
    there = of_all (content start Pages);
    order = omega arith;
    all = λ p low high. absurd (omega arith);
    long = omega arith;
    bytes = λ k low. absurd (omega arith);
    few = omega arith;
  }
    where
      of_all : (o : Option (List ℕ)) → IfSome o (AreThere frames marks 0)
      of_all None = tt
      of_all (Some area) = λ page low changed. absurd (omega arith)

  -- one page more joins the run
  pub spelled_more : (start now : D) (first page : ℕ) (run more : List ℕ) → IsPlacing start now first page run → has_changed marks page ≡ true → more ≡ page_bytes (page_in frames page) → length more ≡ page_size slots
      → IsPlacing start now first (page + 1) (run ++ more)
  spelled_more start now first page run more h changed is size = record {
    only = h.only;
    there = h.there;
    order = (let o = h.order in omega (arith, o));
    all = λ p low high. ⊎_elim (λ below. h.all p low below) (λ above. let e : page ≡ p = omega arith in subst (λ (k : ℕ). has_changed marks k ≡ true) e changed) (cases_lt p page);
    long =
        let l = h.long in
        let o = h.order in
        let e : page + 1 - first ≡ page - first + 1 = omega arith in
        let sum : page_size slots * (page - first + 1) ≡ page_size slots * (page - first) + page_size slots = omega arith in
        length-append run more ∙ (let goal : length run + length more ≡ page_size slots * (page - first + 1) = omega (arith, l, size, sum) in goal) ∙ ap (λ (k : ℕ). page_size slots * k) (sym e);
    bytes = λ k low. ⊎_elim
        (λ (below : first + k < page).
        let l = h.long in
        let whole : page_size slots * (k + 1) ≤ page_size slots * (page - first) = mul-le-mul_left (page_size slots) (omega (arith, below)) in
        page_before slots k run more (omega (arith, l, whole)) ∙ h.bytes k below)
        (λ above.
        let e : page - first ≡ k = omega (arith, low, above) in
        let f : page ≡ first + k = omega (arith, low, above) in
        page_last slots k run more (h.long ∙ ap (λ (n : ℕ). page_size slots * n) e) size ∙ is ∙ ap (λ (n : ℕ). page_bytes (page_in frames n)) f)
        (cases_lt (first + k) page);
    few = (let f = h.few in let o = h.order in let more_are = count_with (has_changed marks) page changed in omega (arith, f, o, more_are));
  }

  -- ---- a run is written

  if_some : {X : Type 0} (P Q : X → Type 0) (o : Option X) → ((x : X) → P x → Q x) → IfSome o P → IfSome o Q
  if_some P Q None more has = tt
  if_some P Q (Some x) more has = more x has

  -- the area is as long as before
  pub long_now : (start now : D) (n : ℕ) → Leaves may_leave start Pages (λ area. n ≤ length area) → OnlyPlaces content may_leave moment left_since faults slots marks start now → Leaves may_leave now Pages (λ area. n ≤ length area)
  long_now start now n long only c may =
      let was = only.left c may in
      let before = long was.0 was.1 in
      let no_shorter = was.2.no_shorter in
      omega (arith, before, no_shorter)

  -- also where it is read
  pub long_read : (reads : (disk : D) (area : Area) → IfSome (content disk area) (may_leave disk area)) (start now : D) (n k : ℕ) → k ≤ n → Leaves may_leave start Pages (λ area. n ≤ length area) → OnlyPlaces content may_leave moment left_since faults slots marks start now
      → IfSome (content now Pages) (λ area. k ≤ length area)
  long_read reads start now n k few long only =
      if_some (may_leave now Pages) (λ area. k ≤ length area) (content now Pages) (λ area may. let l = long_now start now n long only area may in omega (arith, l, few)) (reads now Pages)

  -- each image has the copies that it had
  pub copies_now : (start now : D) (page : ℕ) (bytes : List ℕ) → OnlyPlaces content may_leave moment left_since faults slots marks start now → EachImage may_leave start (HasCopy slots page bytes) → EachImage may_leave now (HasCopy slots page bytes)
  copies_now start now page bytes only has image may =
      let was = only.left image.pages (may Pages) in
      let before : Bytes = record image { pages = was.0 } in
      copy_stays slots page bytes before image refl refl refl (has before (there before image refl refl refl was.1 (may LogA) (may LogB) (may Super)))
    where
      there : (before image : Bytes) → before.log_a ≡ image.log_a → before.log_b ≡ image.log_b → before.super_area ≡ image.super_area → may_leave start Pages before.pages
          → may_leave now LogA image.log_a → may_leave now LogB image.log_b → may_leave now Super image.super_area → IsImage may_leave start before
      there before image a b s pages in_a in_b in_super Pages = pages
      there before image a b s pages in_a in_b in_super LogA = (only.keeps LogA (λ e. cc (e))).no_more before.log_a (subst (λ (c : List ℕ). may_leave now LogA c) (sym a) in_a)
      there before image a b s pages in_a in_b in_super LogB = (only.keeps LogB (λ e. cc (e))).no_more before.log_b (subst (λ (c : List ℕ). may_leave now LogB c) (sym b) in_b)
      there before image a b s pages in_a in_b in_super Super = (only.keeps Super (λ e. cc (e))).no_more before.super_area (subst (λ (c : List ℕ). may_leave now Super c) (sym s) in_super)

  -- so has each the pages of the run
  pub copies_of_run : (start now : D) (first page : ℕ) (run : List ℕ) → 0 < page_size slots → IsPlacing start now first page run → page ≤ length marks
      → ((p : ℕ) → p < length marks → has_changed marks p ≡ true → EachImage may_leave start (HasCopy slots p (page_bytes (page_in frames p))))
      → (k : ℕ) → page_size slots * (k + 1) ≤ length run → EachImage may_leave now (HasCopy slots (first + k) (bytes_of_page slots k run))
  copies_of_run start now first page run some h within copied k low =
      let inside : first + k < page = ⊎_elim (λ below. below) (λ above.
      let l = h.long in
      let fewer : page_size slots * (page - first) ≤ page_size slots * k = mul-le-mul_left (page_size slots) (omega (arith, above)) in
      let sum : page_size slots * (k + 1) ≡ page_size slots * k + page_size slots = omega arith in
      absurd (omega (arith, l, low, fewer, sum, some))) (cases_lt (first + k) page) in
      subst (λ (b : List ℕ). EachImage may_leave now (HasCopy slots (first + k) b)) (sym (h.bytes k inside))
      (copies_now start now (first + k) (page_bytes (page_in frames (first + k))) h.only (copied (first + k) (omega (arith, inside, within)) (h.all (first + k) (omega arith) inside)))

  -- the other pages stay
  pub run_only : (start now after : D) (first page : ℕ) (run : List ℕ) → IsPlacing start now first page run → page ≤ length marks → Leaves may_leave start Pages (λ area. page_size slots * length marks ≤ length area)
      → Follows content may_leave (AreTorn slots first (page - first)) now after Pages → LeavesOnlyImages moment left_since now after (HasTornPages may_leave now slots first (page - first))
      → KeepsOthers content may_leave now after Pages → faults now ≤ faults after → OnlyPlaces content may_leave moment left_since faults slots marks start after
  run_only start now after first page run h within long left moments keeps later = record {
    left = λ c may. let one = left c may in step c one.0 one.1 one.2;
    moments = and_then _ (λ image has. has) (λ image torn. let one = torn.here in record {
      here = (let was = step (in_area image Pages) one.0 one.1 one.2 in (was.0, was.1, was.2));
      others = λ other apart. (h.only.keeps other apart).no_more (in_area image other) (torn.others other apart);
    }) h.only.moments moments;
    keeps = λ other apart.
        let one = h.only.keeps other apart in
        let more = keeps other apart in
        record { same = more.same ∙ one.same; no_more = λ c may. one.no_more c (more.no_more c may) };
    later = (let before = h.only.later in omega (arith, before, later));
  }
    where
      step : (c mid : List ℕ) → may_leave now Pages mid → AreTorn slots first (page - first) mid c → (was : List ℕ) × may_leave start Pages was × AreSameUnchanged slots marks was c
      step c mid may torn =
          let was = h.only.left mid may in (
            was.0,
            was.1,
            same_unchanged_then slots marks was.0 mid c was.2
                (torn_unchanged slots marks first (page - first) mid c (λ p low high. let o = h.order in h.all p low (omega (arith, high, o))) (long_now start now (page_size slots * length marks) long h.only mid may) torn),
          )

  -- and all changed pages below the end of the run stand in place
  pub run_there : (reads : (disk : D) (area : Area) → IfSome (content disk area) (may_leave disk area)) (start now after : D) (first page : ℕ) (run : List ℕ) → IsPlacing start now first page run → page ≤ length marks
      → Leaves may_leave start Pages (λ area. page_size slots * length marks ≤ length area)
      → (content now Pages ≡ None → content after Pages ≡ None) → Steps (AreTorn slots first (page - first)) (content now Pages) (content after Pages)
      → IfSome (content after Pages) (λ area. (k : ℕ) → page_size slots * (k + 1) ≤ length run → bytes_of_page slots (first + k) area ≡ bytes_of_page slots k run)
      → IfSome (content after Pages) (AreThere frames marks page)
  run_there reads start now after first page run h within long untold steps wrote =
      by (content now Pages) (content after Pages) refl refl untold steps wrote h.there (long_read reads start now (page_size slots * length marks) (page_size slots * length marks) (omega arith) long h.only)
    where
      by : (was is : Option (List ℕ)) → content now Pages ≡ was → content after Pages ≡ is → (was ≡ None → is ≡ None) → Steps (AreTorn slots first (page - first)) was is
          → IfSome is (λ area. (k : ℕ) → page_size slots * (k + 1) ≤ length run → bytes_of_page slots (first + k) area ≡ bytes_of_page slots k run)
          → IfSome was (AreThere frames marks first) → IfSome was (λ area. page_size slots * length marks ≤ length area) → IfSome is (AreThere frames marks page)
      by was None a b untold steps wrote there whole = tt
      by None (Some area) a b untold steps wrote there whole = absurd (let e = untold refl in cc (e))
      by (Some mid) (Some area) a b untold steps wrote there whole = λ p low changed. ⊎_elim
          (λ front.
          let torn : AreTorn slots first (page - first) mid area = subst (λ (l : List ℕ). AreTorn slots first (page - first) mid l) (same_some steps.0 area (sym steps.1)) steps.2 in
          let end : page_size slots * (p + 1) ≤ page_size slots * length marks = mul-le-mul_left (page_size slots) (omega (arith, low, within)) in
          torn_others slots first (page - first) p mid area torn (inl front) (omega (arith, end, whole)) ∙ there p front changed)
          (λ behind.
          let k : ℕ = p - first in
          let e : first + k ≡ p = omega (arith, behind) in
          let l = h.long in
          let o = h.order in
          let whole_run : page_size slots * (k + 1) ≤ page_size slots * (page - first) = mul-le-mul_left (page_size slots) (omega (arith, low, behind, e)) in
          ap (λ (n : ℕ). bytes_of_page slots n area) (sym e) ∙ wrote k (omega (arith, l, whole_run)) ∙ h.bytes k (omega (arith, e, low)) ∙ ap (λ (n : ℕ). page_bytes (page_in frames n)) e)
          (cases_lt p first)

  -- a new run begins after a page that didn't change
  pub begins_run : (start after : D) (page : ℕ) → OnlyPlaces content may_leave moment left_since faults slots marks start after → IfSome (content after Pages) (AreThere frames marks page) → has_changed marks page ≡ false → IsPlacing start after (page + 1) (page + 1) []
  begins_run start after page only there unchanged = record {
    only = only;
    there = if_some (AreThere frames marks page) (AreThere frames marks (page + 1)) (content after Pages) (λ area are p low changed. ⊎_elim (λ below. are p below changed)
        (λ above. let e : p ≡ page = omega (arith, low, above) in absurd (let f = ap (λ (n : ℕ). has_changed marks n) e in cc (f, changed, unchanged))) (cases_lt p page)) there;
    order = omega arith;
    all = λ p low high. absurd (omega (arith, low, high));
    long = (let e : page + 1 - (page + 1) ≡ 0 = omega arith in sym (ap (λ (k : ℕ). page_size slots * k) e ∙ mul-zero (page_size slots)));
    bytes = λ k low. absurd (omega (arith, low));
    few = omega arith;
  }

  -- the same said otherwise
  pub placing_as : (start now d : D) (first page k : ℕ) (run more : List ℕ) → d ≡ now → k ≡ first → more ≡ run → IsPlacing start now first page run → IsPlacing start d k page more
  placing_as start now d first page k run more same_disk same_first same_run h =
      subst (λ (x : D). IsPlacing start x k page more) (sym same_disk) (subst (λ (n : ℕ). IsPlacing start now n page more) (sym same_first) (subst (λ (l : List ℕ). IsPlacing start now first page l) (sym same_run) h))

-- where a call was done
pub on_ok : {T E A B C : Type 0} (r : Result T E) → (A → B → C) → OnOk r A → OnOk r B → OnOk r C
on_ok (Ok x) f a b = f a b
on_ok (Err e) f a b = tt
