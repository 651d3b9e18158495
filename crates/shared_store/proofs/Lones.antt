-- The store whose one pass has all words, after each call.
use Rattle.std.proofs.Common.{◌≡◌, ◌⊎◌, inl, inr, Ok, Err, ◌≤◌, ◌<◌, ℕ, ◌+◌, ◌*◌, Bool, true, false, List, [], ◌∷◌, ◌++◌, length, Option, Some, None, refl, sym, ap, ◌∙◌, subst, arith, append-nil, length-append}
use Rattle.std.specs.Option.{option_map_or, option_and_then}
use Rattle.std.specs.Prelude.{IfSome, is_some, Result}
use Rattle.std.specs.List.{AllByRecursion}
use Rattle.std.proofs.lemmas.List.{length-map}
use Rattle.plain_model.specs.declared.calls.Entry.{Entry}
use Rattle.cell_page.specs.Format.{IsSlotCount}
use Rattle.core_store.specs.declared.frame.Frame.{Frame}
use Rattle.core_store.specs.declared.note.Note.{Note}
use Rattle.core_store.specs.declared.three.HeldFrame.{HeldFrame}
use Rattle.core_store.specs.declared.abort_step.AbortStep.{AbortStep}
use Rattle.core_store.specs.declared.abort_step.AbortStep.TheVariants.{Undone, Ended}
use Rattle.core_store.specs.declared.collect.Collect.{Collect}
use Rattle.core_store.specs.declared.collect.Collect.TheVariants.{Did, Deleted, TraceFull, Idle, Memory}
use Rattle.core_store.specs.JournalView.{JournalView, cells_of}
use Rattle.core_store.specs.Frames.{Agree, AllAgree, HoldsAll, is_held, numbered, pages_held}
use Rattle.core_store.specs.Steppings.{OnlyLooks}
use Rattle.core_store.proofs.PageLaws.{AreOnce-pages, is_held-pages}
use Rattle.core_store.proofs.WholeLaws.{length-numbered, numbered-once, numbered-there}
use Rattle.framed_journal.proofs.LookLaws.{looked-held}
use Rattle.framed_journal.proofs.WholeLaws.{agree-all}
use Rattle.logged_journal.specs.declared.failed.FailedCall.{FailedCall}
use Rattle.logged_journal.specs.declared.failed.Stopped.{Stopped}
use Rattle.logged_journal.specs.declared.collect.CollectRefusal.{CollectRefusal}
use Rattle.logged_journal.specs.declared.upkeep.Upkeep.{Upkeep}
use Rattle.logged_journal.specs.declared.upkeep.Upkeep.TheVariants as upkeep
use Rattle.logged_journal.specs.View.{LoggedView}
use Rattle.latch_table.specs.declared.view.Station.{Station}
use Rattle.latch_table.specs.Views.{all_claimed, first_view, log_of, pages_onto, renamed, story}
use Rattle.latch_table.specs.Holds.{TableView, HoldView, IsAlone, IsAnother}
use Rattle.latch_table.specs.Steps.{IsNext, told_of}
use Rattle.shared_store.specs.Chronicles.Clients.{speaker_of}
use Rattle.shared_store.specs.Chronicles.Pages.{AreShownBy}
use Rattle.shared_store.specs.Chronicles.Steps.{Flags, EntersIf, GoesOnWith, entered_by_abort_step, entered_by_collect_step, entered_by_upkeep}
use Rattle.shared_store.specs.Chronicles.View.{Origin, account, failed_note, origin_of, marks_of, notes_of, sizes_of, frame_after}
use Rattle.shared_store.specs.Passes.{Known}
use Rattle.shared_store.specs.Acts.{Acts, IsToDrop, Takes}
use Rattle.shared_store.specs.Holding.{pairs_onto, pairs_of, with_pages, HasJournal}
use Rattle.shared_store.specs.Lone.{HoldsEach, TakesAll, IsLone}
use Rattle.shared_store.proofs.Acting.{to-drop, within-pages}
use Rattle.shared_store.proofs.Finishes.{is-told}
use Rattle.shared_store.proofs.Looks.{looked-journal}
use Rattle.shared_store.proofs.Pairs.{has-with}

-- it meets no other
pub lone-none : {slots : ℕ} (v : Known slots) → IsAlone v → (found : Option (ℕ × ℕ)) → IfSome found (λ f. IsAnother v f.1) → found ≡ None
lone-none v lone None other = refl
lone-none v lone (Some f) other = absurd (other.2 lone.0 lone.1)

-- what it has in hand is what it has
pub with-same : {slots : ℕ} (v : Known slots) (ps : List (ℕ × Frame slots)) → v.hands.pages ≡ ps → v.hands.moving ≡ None → Takes v v ps None
with-same v ps e f = ([], λ i. record { station = v.station; hands = record { pages = e i; log = v.hands.log; moving = f i }; knowledge = v.knowledge })

-- ---- how many notes there are

-- one more was told of where there is one more
pub entered-more : {D : Type 0} (slots : ℕ) (test : ℕ → Bool) (j k : LoggedView D) (entered : Option Entry) (n : ℕ) → EntersIf slots test j k entered → n ≡ length (notes_of j) → n < length (notes_of k) → is_some entered ≡ true
entered-more slots test j k None n enters at more = absurd (let e : length (notes_of k) ≡ length (notes_of j) = ap (length {A = Note}) enters in omega (arith, at, more, e))
entered-more slots test j k (Some e) n enters at more = refl

pub more-entered : {D : Type 0} (slots : ℕ) (test : ℕ → Bool) (j k : LoggedView D) (entered : Option Entry) (n : ℕ) → EntersIf slots test j k entered → n ≡ length (notes_of j) → is_some entered ≡ true → n < length (notes_of k)
more-entered slots test j k None n enters at some = absurd (cc)
more-entered slots test j k (Some e) n enters at some =
    let one : length (notes_of k) ≡ length (notes_of j ++ enters.note ∷ []) = ap (length {A = Note}) enters.notes in
    let two = length-append (notes_of j) (enters.note ∷ []) in
    omega (arith, at, one, two)

pub none-entered : {D : Type 0} (slots : ℕ) (test : ℕ → Bool) (j k : LoggedView D) (entered : Option Entry) (n : ℕ) → EntersIf slots test j k entered → n ≡ length (notes_of j) → is_some entered ≡ false → length (notes_of k) ≤ n
none-entered slots test j k None n enters at none = let e : length (notes_of k) ≡ length (notes_of j) = ap (length {A = Note}) enters in omega (arith, at, e)
none-entered slots test j k (Some e) n enters at none = absurd (cc)

-- ---- a change of the name, and looks

pub lone-renamed : {D : Type 0} (slots : ℕ) (store : TableView (LoggedView D)) (h g : HoldView Note Origin (Frame slots)) (j : LoggedView D) (held : List (HeldFrame slots)) (name : ℕ)
    → g.table ≡ store.table → g.view ≡ renamed h.view name → IsLone slots store h j held → IsLone slots store g j held
lone-renamed slots store h g j held name of is lone = record {
  of = of;
  alone = (ap (λ (v : Known slots). v.station.main) is ∙ lone.alone.0, ap (λ (v : Known slots). v.station.others) is ∙ lone.alone.1);
  some = lone.some;
  few = lone.few;
  size = lone.size;
  journal = subst (λ (z : Known slots). HasJournal slots store.pages z j) (sym is) (record { ids = lone.journal.ids; in_hand = record { fixed = lone.journal.in_hand.fixed; log = lone.journal.in_hand.log }; idle = lone.journal.idle });
  pages = ap (λ (v : Known slots). v.hands.pages) is ∙ lone.pages;
  each = lone.each;
}

each-looked : {D : Type 0} (slots pages : ℕ) (j k : LoggedView D) (held : List (HeldFrame slots)) → OnlyLooks slots j.journal k.journal → HoldsEach slots pages j held → HoldsEach slots pages k held
each-looked slots pages j k held looks each = record {
  frames = looked-held j.journal k.journal held looks.same each.frames;
  once = each.once;
  all = subst (λ (n : ℕ). HoldsAll n held) (sym (ap (λ (x : JournalView). x.history.ids) looks.same)) each.all;
  count = each.count;
}

pub lone-looked : {D : Type 0} (slots : ℕ) (store : TableView (LoggedView D)) (h : HoldView Note Origin (Frame slots)) (j k : LoggedView D) (held : List (HeldFrame slots))
    → OnlyLooks slots j.journal k.journal → k ≡ record j { journal = k.journal } → IsLone slots store h j held → IsLone slots store h k held
lone-looked slots store h j k held looks same lone = record {
  of = lone.of;
  alone = lone.alone;
  some = lone.some;
  few = lone.few;
  size = lone.size;
  journal = looked-journal slots j k looks same store.pages h.view lone.journal;
  pages = lone.pages;
  each = each-looked slots store.pages j k held looks lone.each;
}

-- ---- the journal went on, and what is new was told of

length-held : {slots : ℕ} (hs ks : List (HeldFrame slots)) → pages_held hs ≡ pages_held ks → length hs ≡ length ks
length-held {slots} hs ks same = sym (length-map hs (λ (h : HeldFrame slots). h.page)) ∙ (ap (length {A = ℕ}) same ∙ length-map ks (λ (h : HeldFrame slots). h.page))

pub told-station : {D : Type 0} (slots : ℕ) (w w' : Known slots) (k : LoggedView D) (b : Bool)
    → (b ≡ true → (note : Note) × (notes_of k ≡ log_of w ++ note ∷ []) × (w' ≡ told_of (account D slots) w k note)) → (b ≡ false → w' ≡ w) → w'.station ≡ w.station
told-station slots w w' k true told same = ap (λ (z : Known slots). z.station) (told refl).2
told-station slots w w' k false told same = ap (λ (z : Known slots). z.station) (same refl)

-- what a call does on the journal and the frames
pub record WentOn {D : Type 0} (slots : ℕ) (v : Known slots) (j k : LoggedView D) (held new : List (HeldFrame slots)) (entered : Option Entry) (marked : Flags) (n : ℕ) : Type 0 where
  pub goes : GoesOnWith slots (is_held held) j k entered marked
  pub pages : pages_held new ≡ pages_held held
  pub agree : Agree (cells_of k.journal) new
  pub rest : entered ≡ None → new ≡ held
  pub speaks : IfSome entered (λ e. (speaker_of e ≡ None) ⊎ (speaker_of e ≡ Some v.station.name))
  pub counted : n ≡ length (notes_of j)

module _ {D : Type 0} (slots : ℕ) (store : TableView (LoggedView D)) (h : HoldView Note Origin (Frame slots)) (j k : LoggedView D) (held new : List (HeldFrame slots)) (entered : Option Entry) (marked : Flags) (n : ℕ)
    (lone : IsLone slots store h j held) (on : WentOn slots h.view j k held new entered marked n) where
  lone-acts : Acts slots h.view h.view j k new entered marked None
  lone-acts = record {
    first = held;
    view = with-same h.view (pairs_of held) lone.pages lone.journal.idle;
    another = tt;
    pages = on.pages;
    once = AreOnce-pages held new (sym on.pages) lone.each.once;
    frames = record {
      agree = on.agree;
      within = subst (λ (m : ℕ). AllByRecursion (λ x. 8 * x.page < m) new) (sym (ap (λ (x : Origin). x.ids) on.goes.origin)) (within-pages j.journal.history.ids held new on.pages lone.each.frames.within);
    };
    goes_on = on.goes;
    rest = on.rest;
  }

  lone-drop : IsToDrop slots store.pages h.view k new (is_some entered)
  lone-drop = to-drop slots store.pages h.view h.view j k new marked None lone.journal entered (is_some entered) lone-acts (λ e. e, λ e. e) on.speaks

  pub lone-next : n < length (notes_of k) → IsNext (account D slots) store.pages h.view k
  lone-next more = let d = lone-drop in d.next (entered-more slots (is_held held) j k entered n on.goes.notes on.counted more)

  pub lone-shown : AllByRecursion (λ (x : HeldFrame slots). 8 * x.page < k.journal.history.ids) new
  lone-shown = let a = lone-acts in a.frames.within

  pub lone-after : (g : HoldView Note Origin (Frame slots)) → g.table ≡ store.table
      → (n < length (notes_of k) → (note : Note) × (notes_of k ≡ log_of h.view ++ note ∷ []) × (g.view ≡ told_of (account D slots) h.view k note)) → (length (notes_of k) ≤ n → g.view ≡ h.view)
      → AreShownBy (frame_after slots (origin_of k) (notes_of k)) new → IsLone slots store g k new
  lone-after g of told same are =
      let acts = lone-acts in
      let told_if = λ (e : is_some entered ≡ true). told (more-entered slots (is_held held) j k entered n on.goes.notes on.counted e) in
      let same_if = λ (e : is_some entered ≡ false). same (none-entered slots (is_held held) j k entered n on.goes.notes on.counted e) in
      let t = is-told slots store.pages h.view g.view k new (is_some entered) lone-drop told_if same_if are in
      let station : g.view.station ≡ h.view.station = told-station slots h.view g.view k (is_some entered) told_if same_if in
      let ids : k.journal.history.ids ≡ j.journal.history.ids = ap (λ (o : Origin). o.ids) on.goes.origin in
      record {
        of = of;
        alone = (ap (λ (s : Station). s.main) station ∙ lone.alone.0, ap (λ (s : Station). s.others) station ∙ lone.alone.1);
        some = lone.some;
        few = lone.few;
        size = lone.size;
        journal = record { ids = lone.journal.ids ∙ sym ids; in_hand = t.in_hand; idle = t.idle };
        pages = t.pages;
        each = record {
          frames = acts.frames;
          once = acts.once;
          all = λ page there. is_held-pages new held page on.pages ∙ lone.each.all page (subst (λ (m : ℕ). 8 * page < m) ids there);
          count = length-held new held on.pages ∙ lone.each.count;
        };
      }

-- ---- all pages are claimed

pub taken-lone : {D : Type 0} (slots : ℕ) (store : TableView (LoggedView D)) (h g : HoldView Note Origin (Frame slots)) (j : LoggedView D) (held : List (HeldFrame slots))
    → g.table ≡ store.table → IsAlone h.view → 1 ≤ store.pages → store.pages ≤ 1024 → IsSlotCount slots → HasJournal slots store.pages h.view j → TakesAll slots store.pages h.view g.view j held → IsLone slots store g j held
taken-lone slots store h g j held of lone some few size has takes = record {
  of = of;
  alone = (ap (λ (v : Known slots). v.station.main) takes.view.1 ∙ lone.0, ap (λ (v : Known slots). v.station.others) takes.view.1 ∙ lone.1);
  some = some;
  few = few;
  size = size;
  journal = has-with store.pages h.view g.view (pairs_of held) j has takes.view;
  pages = ap (λ (v : Known slots). v.hands.pages) takes.view.1;
  each = takes.each;
}

numbered-within : {slots : ℕ} (ids n : ℕ) (fs : List (Frame slots)) → 8 * (n + length fs) ≤ ids → AllByRecursion (λ h. 8 * h.page < ids) (numbered n fs)
numbered-within ids n [] few = tt
numbered-within ids n (f ∷ fs) few = (omega (arith, few), numbered-within ids (n + 1) fs (omega (arith, few)))

-- all frames, each with its number, are those of all pages
pub each-numbered : {D : Type 0} (slots pages : ℕ) (j : LoggedView D) (fs : List (Frame slots)) (held : List (HeldFrame slots))
    → 8 * pages ≡ j.journal.history.ids → AllAgree (cells_of j.journal) fs → length fs ≡ pages → held ≡ numbered 0 fs → HoldsEach slots pages j held
each-numbered {D} slots pages j fs held ids agree count are = subst (λ (hs : List (HeldFrame slots)). HoldsEach slots pages j hs) (sym are) (record {
  frames = record { agree = agree-all (cells_of j.journal) fs agree; within = numbered-within j.journal.history.ids 0 fs (omega (arith, ids, count)) };
  once = numbered-once 0 fs;
  all = λ page there. numbered-there 0 fs page (omega arith) (omega (arith, ids, count, there));
  count = length-numbered 0 fs ∙ count;
})

-- as a hold lists them
pub onto-numbered : {slots : ℕ} (ps : List (ℕ × Frame slots)) (p : ℕ) (fs : List (Frame slots)) → pages_onto ps p fs ≡ pairs_onto ps (numbered p fs)
onto-numbered ps p [] = refl
onto-numbered ps p (f ∷ fs) = onto-numbered ((p, f) ∷ ps) (p + 1) fs

-- ---- the first journal

pub none-noted : {D : Type 0} (v : LoggedView D) → v.failed ≡ None → v.journal.notes ≡ [] → notes_of v ≡ []
none-noted v running none =
    ap (λ (f : Option FailedCall). v.journal.notes ++ option_map_or (λ client. failed_note v.journal.notes client ∷ []) (option_and_then (λ x. x.commit) f) []) running
    ∙ append-nil v.journal.notes
    ∙ none

-- the hold has all words from the start
pub first-lone : {D : Type 0} (slots : ℕ) (store : TableView (LoggedView D)) (h : HoldView Note Origin (Frame slots)) (j : LoggedView D) (fs : List (Frame slots)) (held : List (HeldFrame slots))
    → h.table ≡ store.table → 1 ≤ store.pages → store.pages ≤ 1024 → IsSlotCount slots → 8 * store.pages ≡ j.journal.history.ids → AllAgree (cells_of j.journal) fs → length fs ≡ store.pages → held ≡ numbered 0 fs
    → h.view ≡ all_claimed (first_view (origin_of j)) fs (notes_of j) (marks_of j) (sizes_of j) → IsLone slots store h j held
first-lone slots store h j fs held of some few size ids agree count are is = record {
  of = of;
  alone = (ap (λ (z : Known slots). z.station.main) is, ap (λ (z : Known slots). z.station.others) is);
  some = some;
  few = few;
  size = size;
  journal = record {
    ids = ids;
    in_hand = record { fixed = ap (λ (z : Known slots). z.knowledge.fixed) is; log = (story (notes_of j) (marks_of j) (sizes_of j), ap (λ (z : Known slots). z.hands.log) is, refl, (λ n e. e, λ e. e, λ e. e)) };
    idle = ap (λ (z : Known slots). z.hands.moving) is;
  };
  pages = ap (λ (z : Known slots). z.hands.pages) is ∙ (onto-numbered [] 0 fs ∙ ap (λ (hs : List (HeldFrame slots)). pairs_of hs) (sym are));
  each = each-numbered slots store.pages j fs held ids agree count are;
}

-- ---- what is entered speaks for the client, or for nobody

pub own-step-speaks : (client : ℕ) (r : Result AbortStep Stopped) → IfSome (entered_by_abort_step client r) (λ e. (speaker_of e ≡ None) ⊎ (speaker_of e ≡ Some client))
own-step-speaks client (Ok Undone) = inr refl
own-step-speaks client (Ok Ended) = inr refl
own-step-speaks client (Err stopped) = tt

pub own-collect-speaks : (name : ℕ) (r : Result Collect CollectRefusal) → IfSome (entered_by_collect_step r) (λ e. (speaker_of e ≡ None) ⊎ (speaker_of e ≡ Some name))
own-collect-speaks name (Ok (Did popped left)) = inl refl
own-collect-speaks name (Ok (Deleted id left)) = inl refl
own-collect-speaks name (Ok TraceFull) = tt
own-collect-speaks name (Ok Idle) = tt
own-collect-speaks name (Ok Memory) = tt
own-collect-speaks name (Err refusal) = tt

-- under its name
pub speaks-as : (client name : ℕ) (entered : Option Entry) → name ≡ client → IfSome entered (λ e. (speaker_of e ≡ None) ⊎ (speaker_of e ≡ Some client)) → IfSome entered (λ e. (speaker_of e ≡ None) ⊎ (speaker_of e ≡ Some name))
speaks-as client name entered same speaks = subst (λ (n : ℕ). IfSome entered (λ e. (speaker_of e ≡ None) ⊎ (speaker_of e ≡ Some n))) (sym same) speaks

pub own-upkeep-speaks : (name : ℕ) (r : Upkeep) → IfSome (entered_by_upkeep r) (λ e. (speaker_of e ≡ None) ⊎ (speaker_of e ≡ Some name))
own-upkeep-speaks name upkeep.Done = inl refl
own-upkeep-speaks name (upkeep.Busy client) = inl refl
own-upkeep-speaks name (upkeep.Stopped faults) = tt
own-upkeep-speaks name upkeep.TraceFull = tt
own-upkeep-speaks name upkeep.LogFull = tt
own-upkeep-speaks name upkeep.Memory = tt
own-upkeep-speaks name upkeep.DiskFault = tt
