-- Upkeep by the store whose one pass has all words.
use Rattle.std.proofs.Common.{◌≡◌, ◌⊎◌, inl, inr, Ok, Err, ◌≤◌, ◌<◌, ℕ, ◌+◌, ◌*◌, Bool, true, false, List, [], ◌∷◌, ◌++◌, length, Option, Some, None, refl, sym, ap, ◌∙◌, subst, arith}
use Rattle.std.specs.Prelude.{◌||◌, ◌==◌, IfSome, IfErr, is_some, nat_lt, Result}
use Rattle.std.specs.List.{AllByRecursion}
use Rattle.std.proofs.lemmas.Bool.{ne_eqb, eq-eqb, cases_lt}
use Rattle.plain_model.specs.declared.calls.Entry.{Entry}
use Rattle.cell_page.specs.Format.{IsSlotCount}
use Rattle.core_store.specs.declared.frame.Frame.{Frame}
use Rattle.core_store.specs.declared.note.Note.{Note}
use Rattle.core_store.specs.declared.three.HeldFrame.{HeldFrame}
use Rattle.core_store.specs.JournalView.{cells_of}
use Rattle.core_store.specs.Frames.{Agree, is_held, numbered}
use Rattle.core_store.proofs.PageLaws.{is_held-put}
use Rattle.core_store.proofs.WholeLaws.{length-numbered}
use Rattle.framed_journal.specs.Holding.{AreFramesOf}
use Rattle.framed_journal.proofs.WholeLaws.{all-agree, lt-few}
use Rattle.logged_journal.specs.declared.upkeep.Upkeep.{Upkeep}
use Rattle.logged_journal.specs.View.{LoggedView}
use Rattle.latch_table.specs.declared.view.Station.{Station}
use Rattle.latch_table.specs.declared.hold.Held.{Held}
use Rattle.latch_table.specs.Views.{log_of}
use Rattle.latch_table.specs.Holds.{TableView, HoldView, IsAlone, IsAnother}
use Rattle.latch_table.specs.Steps.{IsNext, told_of}
use Rattle.shared_store.specs.Chronicles.Clients.{speaker_of}
use Rattle.shared_store.specs.Chronicles.Pages.{AreShownBy}
use Rattle.shared_store.specs.Chronicles.Steps.{Flags, EntersIf, GoesOnWith, no_page}
use Rattle.shared_store.specs.Chronicles.View.{Origin, account, origin_of, notes_of, frame_after}
use Rattle.shared_store.specs.Passes.{Known}
use Rattle.shared_store.specs.Acts.{Acts, IsToDrop, Takes}
use Rattle.shared_store.specs.Holding.{with_pages, HasJournal}
use Rattle.shared_store.specs.Upkeep.{found_by_upkeep}
use Rattle.shared_store.specs.Lone.{TakesAll, IsLone}
use Rattle.shared_store.proofs.Acting.{act-station, to-drop}
use Rattle.shared_store.proofs.Finishes.{is-told}
use Rattle.shared_store.proofs.Pairs.{both-false, has-with}
use Rattle.shared_store.proofs.Lones.{entered-more, lone-none, more-entered, none-entered, taken-lone, told-station}

-- ---- upkeep, where more than three pages are held

-- they are all frames of the journal
pub lone-frames : {D : Type 0} (slots : ℕ) (store : TableView (LoggedView D)) (h : HoldView Note Origin (Frame slots)) (j : LoggedView D) (held : List (HeldFrame slots)) (fs : List (Frame slots))
    → j.journal.history.slots ≡ slots → IsLone slots store h j held → held ≡ numbered 0 fs → AreFramesOf j.journal fs
lone-frames {D} slots store h j held fs own lone are =
    let few = lone.few in
    let ids = lone.journal.ids in
    let some = lone.some in
    let count : length fs ≡ store.pages = sym (length-numbered 0 fs) ∙ (ap (length {A = HeldFrame slots}) (sym are) ∙ lone.each.count) in
    record {
      pages = omega (arith, ids, count);
      some = omega (arith, some, count);
      few = omega (arith, few, count);
      agree = all-agree (cells_of j.journal) fs (subst (λ (hs : List (HeldFrame slots)). Agree (cells_of j.journal) hs) are lone.each.frames.agree);
      size = (own, lone.size);
    }

module _ {D : Type 0} (slots : ℕ) (j k : LoggedView D) (held : List (HeldFrame slots)) where
  enters-held : (entered : Option Entry) → EntersIf slots no_page j k entered → EntersIf slots (is_held held) j k entered
  enters-held None e = e
  enters-held (Some x) e = record { note = e.note; of_entry = e.of_entry; notes = e.notes; elsewhere = λ page free. e.elsewhere page refl }

  pub goes-held : (entered : Option Entry) (marked : Flags) → GoesOnWith slots no_page j k entered marked → GoesOnWith slots (is_held held) j k entered marked
  goes-held entered marked h = record { origin = h.origin; notes = enters-held entered h.notes; marks = h.marks }

  -- no page changes its frame
  same-frame : (entered : Option Entry) (page : ℕ) → EntersIf slots no_page j k entered → frame_after slots (origin_of j) (notes_of k) page ≡ frame_after slots (origin_of j) (notes_of j) page
  same-frame None page e = ap (λ (ns : List Note). frame_after slots (origin_of j) ns page) e
  same-frame (Some x) page e = e.elsewhere page refl

  same-shown : (hs : List (HeldFrame slots)) → ((page : ℕ) → frame_after slots (origin_of k) (notes_of k) page ≡ frame_after slots (origin_of j) (notes_of j) page)
      → AreShownBy (frame_after slots (origin_of j) (notes_of j)) hs → AreShownBy (frame_after slots (origin_of k) (notes_of k)) hs
  same-shown [] same are = tt
  same-shown (x ∷ xs) same are = (are.0 ∙ sym (same x.page), same-shown xs same are.1)

  pub still-shown : (entered : Option Entry) (marked : Flags) → GoesOnWith slots no_page j k entered marked
      → AreShownBy (frame_after slots (origin_of j) (notes_of j)) held → AreShownBy (frame_after slots (origin_of k) (notes_of k)) held
  still-shown entered marked h are = same-shown held (λ page. ap (λ (x : Origin). frame_after slots x (notes_of k) page) h.origin ∙ same-frame entered page h.notes) are

  pub still-within : (entered : Option Entry) (marked : Flags) → GoesOnWith slots no_page j k entered marked
      → AllByRecursion (λ (x : HeldFrame slots). 8 * x.page < j.journal.history.ids) held → AllByRecursion (λ (x : HeldFrame slots). 8 * x.page < k.journal.history.ids) held
  still-within entered marked h within = subst (λ (m : ℕ). AllByRecursion (λ (x : HeldFrame slots). 8 * x.page < m) held) (sym (ap (λ (x : Origin). x.ids) h.origin)) within

-- ---- upkeep of few pages, whose words are given back for that long

-- the hold has the journal and no page, and no other is out
pub record HasLog {D : Type 0} (slots pages : ℕ) (v : Known slots) (j : LoggedView D) : Type 0 where
  pub journal : HasJournal slots pages v j
  pub none : v.hands.pages ≡ []
  pub alone : IsAlone v

pub few-dropped : {D : Type 0} (slots : ℕ) (store : TableView (LoggedView D)) (h : HoldView Note Origin (Frame slots)) (v : Known slots) (j : LoggedView D) (held : List (HeldFrame slots)) → IsLone slots store h j held → v ≡ with_pages h.view [] → HasLog slots store.pages v j
few-dropped slots store h v j held lone is = record {
  journal = has-with store.pages h.view v [] j lone.journal ([], is);
  none = ap (λ (z : Known slots). z.hands.pages) is;
  alone = (ap (λ (z : Known slots). z.station.main) is ∙ lone.alone.0, ap (λ (z : Known slots). z.station.others) is ∙ lone.alone.1);
}

module _ {D : Type 0} (slots pages : ℕ) (v w : Known slots) (j k : LoggedView D) (entered : Option Entry) (marked : Flags) (found : Option (ℕ × ℕ)) (n : ℕ)
    (has : HasLog slots pages v j) (acts : Acts slots v w j k [] entered marked found) (speaks : IfSome entered (λ e. (speaker_of e ≡ None) ⊎ (speaker_of e ≡ Some v.station.name))) (counted : n ≡ length (notes_of j)) where
  pub few-found : found ≡ None
  few-found = lone-none v has.alone found acts.another

  few-drop : IsToDrop slots pages w k [] (is_some entered)
  few-drop = to-drop slots pages v w j k [] marked found has.journal entered (is_some entered) acts (λ e. e, λ e. e) speaks

  pub few-next : n < length (notes_of k) → IsNext (account D slots) pages w k
  few-next more = let d = few-drop in d.next (entered-more slots (is_held acts.first) j k entered n acts.goes_on.notes counted more)

  pub few-told : (z : Known slots) → (n < length (notes_of k) → (note : Note) × (notes_of k ≡ log_of w ++ note ∷ []) × (z ≡ told_of (account D slots) w k note)) → (length (notes_of k) ≤ n → z ≡ w) → HasLog slots pages z k
  few-told z told same =
      let none : List (HeldFrame slots) = [] in
      let told_if = λ (e : is_some entered ≡ true). told (more-entered slots (is_held acts.first) j k entered n acts.goes_on.notes counted e) in
      let same_if = λ (e : is_some entered ≡ false). same (none-entered slots (is_held acts.first) j k entered n acts.goes_on.notes counted e) in
      let t = is-told slots pages w z k none (is_some entered) few-drop told_if same_if tt in
      let station : z.station ≡ v.station = told-station slots w z k (is_some entered) told_if same_if ∙ act-station slots pages v w j k none marked found has.journal entered acts in
      record {
        journal = record { ids = has.journal.ids ∙ sym (ap (λ (o : Origin). o.ids) acts.goes_on.origin); in_hand = t.in_hand; idle = t.idle };
        none = t.pages;
        alone = (ap (λ (s : Station). s.main) station ∙ has.alone.0, ap (λ (s : Station). s.others) station ∙ has.alone.1);
      }

-- ---- a page more is held

or-true : (a b : Bool) → a ≡ true → (a || b) ≡ true
or-true true b e = refl
or-true false b e = absurd (cc)

or-right : (a b : Bool) → b ≡ true → (a || b) ≡ true
or-right true b e = refl
or-right false b e = e

module _ {slots : ℕ} (hs new : List (HeldFrame slots)) (n : ℕ) (f : Frame slots) (more : new ≡ hs ++ record { page = n; frame = f } ∷ []) where
  pub put-below : ((p : ℕ) → p < n → is_held hs p ≡ true) → (p : ℕ) → p < n + 1 → is_held new p ≡ true
  put-below below p low =
      ap (λ (ks : List (HeldFrame slots)). is_held ks p) more ∙ (is_held-put hs (record { page = n; frame = f }) p
      ∙ elim (cases_lt p n) [
        | inl below_n ↦ or-true (is_held hs p) (n == p) (below p below_n)
        | inr above_n ↦ or-right (is_held hs p) (n == p) (eq-eqb n p (omega (arith, low, above_n)))
      ])

  pub put-above : ((p : ℕ) → n ≤ p → is_held hs p ≡ false) → (p : ℕ) → n + 1 ≤ p → is_held new p ≡ false
  put-above above p high =
      ap (λ (ks : List (HeldFrame slots)). is_held ks p) more ∙ (is_held-put hs (record { page = n; frame = f }) p
      ∙ both-false (is_held hs p) (n == p) (above p (omega (arith, high))) (ne_eqb n p (λ e. absurd (omega (arith, high, e)))))

-- ---- a claim of the one hold that is out

pub never-err : {X E : Type 0} {P : E → Type 0} (r : Result X E) → ((x : X) → r ≡ Ok x → ⊥) → IfErr r P → ((e : E) → P e → ⊥) → ⊥
never-err (Ok x) other err none = other x refl
never-err (Err e) other err none = none e err

pub meets-none : {slots : ℕ} (v w : Known slots) (ps : List (ℕ × Frame slots)) (seat : ℕ) → IsAlone v → Takes v w ps None → IsAnother w seat → ⊥
meets-none v w ps seat lone is other =
    other.2 (ap (λ (z : Known _). z.station.main) is.1 ∙ lone.0) (ap (λ (z : Known _). z.station.others) is.1 ∙ lone.1)

pub no-many : {slots : ℕ} {F : Type 0} (held : List (HeldFrame slots)) (o : Option F) → o ≡ None → is_some o ≡ nat_lt 3 (length held) → 3 < length held → ⊥
no-many held o none some more = let few = lt-few (sym some ∙ ap is_some none) in omega (arith, few, more)

pub found-none : (r : Result Upkeep Held) → ((u : Upkeep) → r ≡ Ok u → ⊥) → found_by_upkeep r ≡ None → ⊥
found-none (Ok u) other none = other u refl
found-none (Err h) other none = absurd (cc)

pub few-lone : {D : Type 0} (slots : ℕ) (store : TableView (LoggedView D)) (v : Known slots) (g : HoldView Note Origin (Frame slots)) (j : LoggedView D) (held : List (HeldFrame slots))
    → g.table ≡ store.table → 1 ≤ store.pages → store.pages ≤ 1024 → IsSlotCount slots → HasLog slots store.pages v j → TakesAll slots store.pages v g.view j held → IsLone slots store g j held
few-lone slots store v g j held of some few size has takes = taken-lone slots store (record { table = store.table; view = v }) g j held of has.alone some few size has.journal takes
