-- What a hold may give back after its work on the journal.
use Rattle.std.proofs.Common.{◌≡◌, ◌⊎◌, ℕ, ◌+◌, ◌*◌, Bool, true, false, List, [], ◌∷◌, Option, Some, None, refl, sym, ap, ◌∙◌, subst, inr, arith}
use Rattle.std.specs.Prelude.{◌↔◌, ◌<◌, ◌==◌, if◌then◌else◌, IfSome, IsSome}
use Rattle.std.specs.List.{AllByRecursion}
use Rattle.plain_model.specs.declared.calls.Entry.{Entry}
use Rattle.core_store.specs.declared.frame.Frame.{Frame}
use Rattle.core_store.specs.declared.three.HeldFrame.{HeldFrame}
use Rattle.core_store.specs.Frames.{AreOnce, is_held, pages_held}
use Rattle.core_store.proofs.PageLaws.{AreOnce-pages}
use Rattle.framed_journal.specs.Holding.{AreHeldOf}
use Rattle.logged_journal.specs.View.{LoggedView}
use Rattle.logged_journal.specs.Calls.{KeepsFrames}
use Rattle.latch_table.specs.declared.view.Station.{Station}
use Rattle.latch_table.specs.Views.{frame_of, story, log_claimed, with_claims}
use Rattle.latch_table.specs.Holds.{HoldView, IsAnother}
use Rattle.latch_table.specs.Rule.{IsInHand, IsLater}
use Rattle.latch_table.specs.Steps.{IsNext}
use Rattle.latch_table.proofs.Frames.{some_is}
use Rattle.core_store.specs.declared.note.Note.{Note}
use Rattle.shared_store.specs.Chronicles.Clients.{speaker_of}
use Rattle.shared_store.specs.Chronicles.Steps.{Flags, GoesOnWith, no_mark, disk_mark}
use Rattle.logged_journal.specs.declared.failed.FailedCall.{FailedCall}
use Rattle.shared_store.specs.Chronicles.View.{Origin, account, origin_of, notes_of, marks_of, sizes_of}
use Rattle.shared_store.proofs.Chronicles.Goings.{marks-same, marks-disk, stays-goes_on, stays-same}
use Rattle.shared_store.proofs.Chronicles.Tables.{in-hand, is-next}
use Rattle.shared_store.specs.declared.refused.Refused.{Refused}
use Rattle.shared_store.specs.Passes.{Known, IsPass}
use Rattle.shared_store.specs.Acts.{Acts, IsToDrop, Takes}
use Rattle.shared_store.proofs.Meetings.{met_if, as-met}
use Rattle.shared_store.specs.Holding.{pairs_onto, pairs_of, with_pages, HasJournal}
use Rattle.shared_store.proofs.Pairs.{with_none, both-false}

-- ---- the pages in hand

none-first : {F : Type 0} (b : Bool) (f : F) (o : Option F) → (if b then Some f else o) ≡ None → (o ≡ None) × (b ≡ false)
none-first true f o e = absurd (cc)
none-first false f o e = (e, refl)

onto-none : {slots : ℕ} (ps : List (ℕ × Frame slots)) (hs : List (HeldFrame slots)) (p : ℕ) → frame_of (pairs_onto ps hs) p ≡ None → (frame_of ps p ≡ None) × (is_held hs p ≡ false)
onto-none ps [] p e = (e, refl)
onto-none ps (h ∷ hs) p e =
    let rest = onto-none ((h.page, h.frame) ∷ ps) hs p e in
    let one = none-first (h.page == p) h.frame (frame_of ps p) rest.0 in
    (one.0, both-false (h.page == p) (is_held hs p) one.1 rest.1)

-- a page that isn't in hand isn't held
pairs-none : {slots : ℕ} (hs : List (HeldFrame slots)) (p : ℕ) → frame_of (pairs_of hs) p ≡ None → is_held hs p ≡ false
pairs-none hs p e = let r = onto-none [] hs p e in r.1

pub within-pages : {slots : ℕ} (ids : ℕ) (hs ks : List (HeldFrame slots)) → pages_held ks ≡ pages_held hs → AllByRecursion (λ h. 8 * h.page < ids) hs → AllByRecursion (λ h. 8 * h.page < ids) ks
within-pages ids hs [] same within = tt
within-pages ids [] (k ∷ ks) same within = absurd cc
within-pages ids (h ∷ hs) (k ∷ ks) same within =
    let e : h.page ≡ k.page = cc in
    (subst (λ (p : ℕ). 8 * p < ids) e within.0, within-pages ids hs ks (let rest : pages_held ks ≡ pages_held hs = cc in rest) within.1)

-- ---- a claim that found another

hands-met : {slots : ℕ} (v : Known slots) (place : ℕ) (found : Option (ℕ × ℕ)) → (met_if v place found).hands ≡ v.hands
hands-met v place None = refl
hands-met v place (Some f) = refl

station-met : {slots : ℕ} (v : Known slots) (place : ℕ) (found : Option (ℕ × ℕ)) → (met_if v place found).station ≡ v.station
station-met v place None = refl
station-met v place (Some f) = refl

seen-met : {slots : ℕ} (v : Known slots) (place : ℕ) (found : Option (ℕ × ℕ)) → (met_if v place found).knowledge.seen ≡ v.knowledge.seen
seen-met v place None = refl
seen-met v place (Some f) = refl

hand-met : {D : Type 0} (slots : ℕ) (v : Known slots) (place : ℕ) (found : Option (ℕ × ℕ)) (cs : List (Option ℕ × ℕ)) (ps : List (ℕ × Frame slots)) (j : LoggedView D) → IsInHand (account D slots) v j → IsInHand (account D slots) (met_if (with_pages (with_claims v cs) ps) place found) j
hand-met slots v place None cs ps j h = record { fixed = h.fixed; log = h.log }
hand-met slots v place (Some f) cs ps j h = record { fixed = h.fixed; log = h.log }

-- ---- the journal after the work

module _ {D : Type 0} (slots pages : ℕ) (v w : Known slots) (j k : LoggedView D) (held : List (HeldFrame slots)) (marked : Flags) (found : Option (ℕ × ℕ)) (has : HasJournal slots pages v j) where
  act-hand : (entered : Option Entry) → Acts slots v w j k held entered marked found → IsInHand (account D slots) w j
  act-hand entered a = let m = as-met (with_pages (with_claims v a.view.0) (pairs_of a.first)) w found a.view.1 in subst (λ (z : Known slots). IsInHand (account D slots) z j) (sym m.1) (hand-met slots v m.0 found a.view.0 (pairs_of a.first) j has.in_hand)

  act-pages : (entered : Option Entry) → (a : Acts slots v w j k held entered marked found) → w.hands.pages ≡ pairs_of a.first
  act-pages entered a = let u : Known slots = with_pages (with_claims v a.view.0) (pairs_of a.first) in let m = as-met u w found a.view.1 in ap (λ (z : Known slots). z.hands.pages) m.1 ∙ ap (λ h. h.pages) (hands-met u m.0 found)

  pub act-station : (entered : Option Entry) → Acts slots v w j k held entered marked found → w.station ≡ v.station
  act-station entered a = let u : Known slots = with_pages (with_claims v a.view.0) (pairs_of a.first) in let m = as-met u w found a.view.1 in ap (λ (z : Known slots). z.station) m.1 ∙ station-met u m.0 found

  act-next : (entered : Option Entry) → Acts slots v w j k held entered marked found → IsSome entered → IfSome entered (λ e. (speaker_of e ≡ None) ⊎ (speaker_of e ≡ Some v.station.name)) → IsNext (account D slots) pages w k
  act-next None a some speaks = absurd (cc)
  act-next (Some e) a some speaks =
      is-next slots w j k (is_held a.first) marked (act-hand (Some e) a) pages e a.goes_on
      (subst (λ (s : Station). (speaker_of e ≡ None) ⊎ (speaker_of e ≡ Some s.name)) (sym (act-station (Some e) a)) speaks)
      (λ p none. pairs-none a.first p (ap (λ ps. frame_of ps p) (sym (act-pages (Some e) a)) ∙ none))

  act-rest : (entered : Option Entry) → (a : Acts slots v w j k held entered marked found) → (IsSome entered → ⊥) → IsInHand (account D slots) w k × (held ≡ a.first)
  act-rest None a none = (in-hand slots w j k (is_held a.first) marked (act-hand None a) a.goes_on, a.rest refl)
  act-rest (Some e) a none = absurd (none refl)

  pub to-drop : (entered : Option Entry) (b : Bool) → Acts slots v w j k held entered marked found → ((b ≡ true) ↔ IsSome entered) → IfSome entered (λ e. (speaker_of e ≡ None) ⊎ (speaker_of e ≡ Some v.station.name)) → IsToDrop slots pages w k held b
  to-drop entered b a iff speaks = record {
    first = a.first;
    hands = act-pages entered a;
    idle = let u : Known slots = with_pages (with_claims v a.view.0) (pairs_of a.first) in let m = as-met u w found a.view.1 in ap (λ (z : Known slots). z.hands.moving) m.1 ∙ ap (λ h. h.moving) (hands-met u m.0 found);
    same = a.pages;
    once = a.once;
    frames = a.frames;
    next = λ t. act-next entered a (iff.0 t) speaks;
    rest = λ f. act-rest entered a (λ s. absurd (let t = iff.1 s in cc));
  }

pub acts-seen : {D : Type 0} (slots : ℕ) (v w : Known slots) (j k : LoggedView D) (held : List (HeldFrame slots)) (entered : Option Entry) (marked : Flags) (found : Option (ℕ × ℕ)) → Acts slots v w j k held entered marked found → w.knowledge.seen ≡ v.knowledge.seen
acts-seen slots v w j k held entered marked found a = let u : Known slots = with_pages (with_claims v a.view.0) (pairs_of a.first) in let m = as-met u w found a.view.1 in ap (λ (z : Known slots). z.knowledge.seen) m.1 ∙ seen-met u m.0 found

-- ---- how the work may end

-- the disk failed a call before
pub acts-stopped : {D : Type 0} (slots : ℕ) (v : Known slots) (j : LoggedView D) (held : List (HeldFrame slots)) → v.hands.pages ≡ [] → v.hands.moving ≡ None → held ≡ [] → (f : FailedCall) → j.failed ≡ Some f → Acts slots v v j j held None disk_mark None
acts-stopped slots v j held none idle empty f failed = record {
  first = [];
  view = with_none v none idle;
  another = tt;
  pages = ap pages_held empty;
  once = subst AreOnce (sym empty) tt;
  frames = subst (AreHeldOf j.journal) (sym empty) (record { agree = tt; within = tt });
  goes_on = (let no_frames : List (HeldFrame slots) = [] in stays-goes_on slots j j (is_held no_frames) disk_mark (stays-same j j refl) (marks-disk j j f failed (inr refl) refl refl));
  rest = λ e. empty;
}

-- another hold had a word
pub acts-found : {D : Type 0} (slots : ℕ) (v w : Known slots) (j : LoggedView D) (held : List (HeldFrame slots)) (word seat : ℕ) → Takes v w (pairs_of held) (Some (word, seat)) → IsAnother v seat → AreOnce held → AreHeldOf j.journal held
    → Acts slots v w j j held None no_mark (Some (word, seat))
acts-found slots v w j held word seat is other once frames = record {
  first = held;
  view = is;
  another = other;
  pages = refl;
  once = once;
  frames = frames;
  goes_on = stays-goes_on slots j j (is_held held) no_mark (stays-same j j refl) (marks-same j j refl refl refl);
  rest = λ e. refl;
}

-- the journal went on
pub acts-on : {D : Type 0} (slots : ℕ) (v w : Known slots) (j k : LoggedView D) (held new : List (HeldFrame slots)) (entered : Option Entry) (marked : Flags) (found : Option (ℕ × ℕ)) → Takes v w (pairs_of held) None → found ≡ None → AreOnce held → AreHeldOf j.journal held
    → KeepsFrames j.journal k.journal held new → GoesOnWith slots (is_held held) j k entered marked → (entered ≡ None → new ≡ held) → Acts slots v w j k new entered marked found
acts-on slots v w j k held new entered marked found is none once frames keeps goes rest = record {
  first = held;
  view = subst (λ (o : Option (ℕ × ℕ)). Takes v w (pairs_of held) o) (sym none) is;
  another = subst (λ (o : Option (ℕ × ℕ)). IfSome o (λ f. IsAnother v f.1)) (sym none) tt;
  pages = keeps.pages;
  once = AreOnce-pages held new (sym keeps.pages) once;
  frames = record {
    agree = keeps.agree;
    within = subst (λ (n : ℕ). AllByRecursion (λ h. 8 * h.page < n) new) (sym (ap (λ (x : Origin). x.ids) goes.origin)) (within-pages j.journal.history.ids held new keeps.pages frames.within);
  };
  goes_on = goes;
  rest = rest;
}

-- ---- the journal that is claimed

pub has-journal : {D : Type 0} {slots : ℕ} (h : HoldView Note Origin (Frame slots)) (main : Bool) (number : ℕ) (txn : Bool) (seen : ℕ) (refused : Refused) (left : List Bool) (pages : ℕ) (v : Known slots) (j : LoggedView D)
    → IsPass h main number txn seen refused left → h.table.slots ≡ pages + 1 → IsLater (account D slots) h.view j → v ≡ log_claimed h.view (notes_of j) (marks_of j) (sizes_of j) → HasJournal slots pages v j
has-journal {D} {slots} h main number txn seen refused left pages v j p sized later claim =
    let of = p.of_store in
    let x : of.0 ≡ origin_of j = some_is of.0 (origin_of j) (sym of.1 ∙ later.fixed) in
    let ids : of.0.ids ≡ j.journal.history.ids = ap (λ (o : Origin). o.ids) x in
    let many = of.2 in
    subst (λ (z : Known slots). HasJournal slots pages z j) (sym claim) (record {
      ids = omega (arith, ids, many, sized);
      in_hand = record { fixed = later.fixed; log = (story (notes_of j) (marks_of j) (sizes_of j), refl, refl, (λ n e. e, λ e. e, λ e. e)) };
      idle = refl;
    })
