-- Frames are held that are wanted, and are the store's again where they were changed and put back.
use Rattle.std.proofs.Common.{◌≡◌, ◌≢◌, ⊎_elim, Some, slice_get, ℕ, ◌-◌, ◌*◌, ◌<◌, ◌≤◌, true, List, [], ◌∷◌, ◌++◌, length, get_or, refl, sym, ap, ◌∙◌, arith, length-append}
use Rattle.std.specs.List.{AllByRecursion}
use Rattle.std.proofs.lemmas.Option.{slice_get-get_or}
use Rattle.plain_model.specs.declared.calls.Entry.{Entry}
use Rattle.plain_model.specs.History.{History, with_entry}
use Rattle.cell_model.specs.Cells.{Cell}
use Rattle.cell_page.specs.Format.{IsSlotCount}
use Rattle.cell_page.specs.Stored.{HoldsPage}
use Rattle.core_store.specs.declared.frame.Frame.{Frame}
use Rattle.core_store.specs.declared.three.HeldFrame.{HeldFrame}
use Rattle.core_store.specs.declared.want.Want.{Want}
use Rattle.core_store.specs.declared.want.Want.TheVariants.{Page, LetGo, Ready}
use Rattle.core_store.specs.JournalView.{JournalView, cells_of}
use Rattle.core_store.specs.Frames.{pages_held, Agree, AllAgree, IsSameElsewhere}
use Rattle.core_store.specs.Logged.{want_of}
use Rattle.core_store.proofs.PageLaws.{Agree-put, elsewhere-pages}
use Rattle.framed_journal.specs.Holding.{AreFramesOf, AreHeldOf, FollowsChange}

-- there are fourteen slots at most, so that frames fit in memory
pub slots-few : (slots : ℕ) → IsSlotCount slots → slots ≤ 14
slots-few slots size = ⊎_elim (λ six. omega arith) (λ fourteen. omega arith) size

-- ---- frames are held

-- the frame of a page
pub AllAgree-at : {slots : ℕ} (cells : List Cell) (frames : List (Frame slots)) (page : ℕ) (d : Frame slots) → AllAgree cells frames → page < length frames → HoldsPage cells page (get_or frames page d).page
AllAgree-at cells frames page d agree within = agree page (get_or frames page d) (slice_get-get_or frames page d within)

-- a page of the store has its frame
pub page_within : {slots : ℕ} (j : JournalView) (frames : List (Frame slots)) (page : ℕ) → AreFramesOf j frames → 8 * page < j.history.ids → page < length frames
page_within j frames page all there = omega (arith, all.pages)

-- one frame more is held
pub AreHeldOf-put : {slots : ℕ} (j : JournalView) (frames : List (Frame slots)) (held new : List (HeldFrame slots)) (h : HeldFrame slots) (d : Frame slots) → AreFramesOf j frames → AreHeldOf j held → 8 * h.page < j.history.ids
    → h.frame ≡ get_or frames h.page d → new ≡ held ++ h ∷ [] → AreHeldOf j new
AreHeldOf-put j frames held new h d all some there is more = rw more (record {
  agree = Agree-put (cells_of j) held h some.agree (rw is (AllAgree-at (cells_of j) frames h.page d all.agree (page_within j frames h.page all there)));
  within = each-put (λ x. 8 * x.page < j.history.ids) held h some.within there;
})
  where
    each-put : {slots : ℕ} (P : HeldFrame slots → Type 0) (hs : List (HeldFrame slots)) (x : HeldFrame slots) → AllByRecursion P hs → P x → AllByRecursion P (hs ++ x ∷ [])
    each-put P [] x all it = (it, tt)
    each-put P (y ∷ hs) x all it = (all.0, each-put P hs x all.1 it)

-- where none is held, none is to be let go
pub AreHeldOf-none : {slots : ℕ} (j : JournalView) (held : List (HeldFrame slots)) → held ≡ [] → AreHeldOf j held
AreHeldOf-none j held e = rw e (record { agree = tt; within = tt })

pub none-let_go : {slots : ℕ} (needed : List ℕ) (held : List (HeldFrame slots)) → held ≡ [] → want_of needed (pages_held held) ≢ LetGo
none-let_go needed held e go = nothing-let_go needed (rw e at go)
  where
    nothing-let_go : (needed : List ℕ) → want_of needed [] ≡ LetGo → ⊥
    nothing-let_go [] l = absurd (cc)
    nothing-let_go (p ∷ ps) l = absurd (cc)

-- there is less room
pub less_room : {slots : ℕ} (held new : List (HeldFrame slots)) (h : HeldFrame slots) → length held < 3 → new ≡ held ++ h ∷ [] → 3 - length new < 3 - length held
less_room held new h room more = rw more (omega (arith, length-append held (h ∷ []), room))

pub short-none : {slots : ℕ} (held : List (HeldFrame slots)) → held ≡ [] → length held ≤ 3
short-none held e = rw e (omega arith)

pub short-put : {slots : ℕ} (held new : List (HeldFrame slots)) (h : HeldFrame slots) → length held < 3 → new ≡ held ++ h ∷ [] → length new ≤ 3
short-put held new h room more = rw more (omega (arith, length-append held (h ∷ []), room))

-- where no page is wanted and none is to be let go, those that are needed are held
pub wanted-ready : (wanted now : Want) → wanted ≡ now → ((page : ℕ) → wanted ≡ Page page → ⊥) → now ≢ LetGo → now ≡ Ready
wanted-ready (Page page) now is none kept = absurd (none page refl)
wanted-ready LetGo now is none kept = absurd (kept (sym is))
wanted-ready Ready now is none kept = sym is

-- ---- a call is made on held frames, which are then put back

-- the changed frames are of the same pages, and so have their places
pub places-within : {slots : ℕ} (j : JournalView) (frames : List (Frame slots)) (held changed : List (HeldFrame slots)) → AreFramesOf j frames → AreHeldOf j held → pages_held changed ≡ pages_held held → AllByRecursion (λ h. h.page < length frames) changed
places-within {slots} j frames held changed all some same = each held changed same some.within
  where
    each : (hs ks : List (HeldFrame slots)) → pages_held ks ≡ pages_held hs → AllByRecursion (λ h. 8 * h.page < j.history.ids) hs → AllByRecursion (λ h. h.page < length frames) ks
    each hs [] same within = tt
    each [] (k ∷ ks) same within = absurd cc
    each (h ∷ hs) (k ∷ ks) same within =
        let e : k.page ≡ h.page = cc in
        (rw e (page_within j frames h.page all within.0), each hs ks (let rest : pages_held ks ≡ pages_held hs = cc in rest) within.1)

-- the store has its size as before
pub record IsSameSize (j k : JournalView) : Type 0 where
  pub slots : k.history.slots ≡ j.history.slots
  pub ids : k.history.ids ≡ j.history.ids

pub size-kept : (j k : JournalView) → k ≡ j → IsSameSize j k
size-kept j k e = record { slots = ap (λ (x : JournalView). x.history.slots) e; ids = ap (λ (x : JournalView). x.history.ids) e }

pub size-marked : (j k : JournalView) → k ≡ record j { marks = record j.marks { trace = true } } → IsSameSize j k
size-marked j k e = record { slots = ap (λ (x : JournalView). x.history.slots) e; ids = ap (λ (x : JournalView). x.history.ids) e }

pub size-more : (j k : JournalView) (e : Entry) → k.history ≡ with_entry j.history e → IsSameSize j k
size-more j k e more = record { slots = ap (λ (h : History). h.slots) more; ids = ap (λ (h : History). h.ids) more }

-- the frames are the pages after the change
pub AreFramesOf-changed : {slots : ℕ} (j k : JournalView) (frames new : List (Frame slots)) (held changed : List (HeldFrame slots)) → AreFramesOf j frames → IsSameSize j k → Agree (cells_of k) changed
    → pages_held changed ≡ pages_held held → IsSameElsewhere (cells_of j) (cells_of k) held → FollowsChange frames new changed → length new ≡ length frames → AreFramesOf k new
AreFramesOf-changed j k frames new held changed all size agree same elsewhere follows count = record {
  pages = rw (count, size.ids) all.pages;
  some = rw count all.some;
  few = rw count all.few;
  agree = follows (cells_of j) (cells_of k) all.agree agree (elsewhere-pages (cells_of j) (cells_of k) held changed (sym same) elsewhere);
  size = (size.slots ∙ all.size.0, all.size.1);
}

-- where none is held, the first that is needed is wanted
pub first-wanted : (needed : List ℕ) (p : ℕ) → slice_get needed 0 ≡ Some p → want_of needed [] ≡ Page p
first-wanted [] p e = absurd (cc)
first-wanted (n ∷ ns) p e = let same : n ≡ p = cc in ap (λ (q : ℕ). Page q) same
