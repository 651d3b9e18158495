-- The collector looks, and frames are held for what it looks at.
use Rattle.std.proofs.Common.{◌≡◌, ◌≢◌, ◌⊎◌, ⊎_elim, ℕ, ◌+◌, ◌-◌, ◌*◌, ◌<◌, List, [], ◌∷◌, ◌++◌, length, refl, sym, ap, subst, ◌∙◌, arith}
use Rattle.cell_model.specs.Cells.{Cell}
use Rattle.store_model.specs.Core.{Core}
use Rattle.core_store.specs.declared.frame.Frame.{Frame}
use Rattle.core_store.specs.declared.three.HeldFrame.{HeldFrame}
use Rattle.core_store.specs.declared.want.Want.TheVariants.{LetGo}
use Rattle.core_store.specs.JournalView.{JournalView, cells_of}
use Rattle.core_store.specs.Frames.{pages_held}
use Rattle.core_store.specs.Limited.{pages_for_collector}
use Rattle.core_store.specs.Logged.{want_of}
use Rattle.core_store.specs.RoundView.{RoundView, Passes, none, more, left_of}
use Rattle.framed_journal.specs.Holding.{AreFramesOf, AreHeldOf}
use Rattle.core_store.specs.Steppings.{OnlyLooks}
use Rattle.logged_journal.specs.View.{LoggedView}
use Rattle.framed_journal.proofs.HoldLaws.{less_room}

-- what was held is held still
pub looked-held : {slots : ℕ} (j k : JournalView) (held : List (HeldFrame slots)) → k ≡ record j { round = k.round } → AreHeldOf j held → AreHeldOf k held
looked-held j k held e h = subst (λ (x : JournalView). AreHeldOf x held) (sym e) (record { agree = h.agree; within = h.within })

pub looked-frames : {slots : ℕ} (j k : JournalView) (frames : List (Frame slots)) → k ≡ record j { round = k.round } → AreFramesOf j frames → AreFramesOf k frames
looked-frames j k frames e h = subst (λ (x : JournalView). AreFramesOf x frames) (sym e) (record { pages = h.pages; some = h.some; few = h.few; agree = h.agree; size = h.size })

-- one look after another
looks-behind : (slots : ℕ) (cells : List Cell) {u v w : RoundView} → Passes slots cells u v → Passes slots cells v w → Passes slots cells u w
looks-behind slots cells p none = p
looks-behind slots cells p (more x q e) = more x (looks-behind slots cells p q) e

pub OnlyLooks-none : (slots : ℕ) (j : JournalView) → OnlyLooks slots j j
OnlyLooks-none slots j = record { passes = none; same = refl; core = refl }

pub OnlyLooks-more : (slots : ℕ) (i j k : JournalView) → OnlyLooks slots i j → OnlyLooks slots j k → OnlyLooks slots i k
OnlyLooks-more slots i j k before l = record {
  passes = looks-behind slots (cells_of i) before.passes (subst (λ (cells : List Cell). Passes slots cells j.round k.round) (ap (λ (x : Core). x.cells) before.core) l.passes);
  same = l.same ∙ ap (λ (x : JournalView). let y : JournalView = record x { round = k.round } in y) before.same;
  core = l.core ∙ before.core;
}

-- and of a journal with its log nothing but the journal changes
pub SameLog-more : {D : Type 0} (u v w : LoggedView D) → v ≡ record u { journal = v.journal } → w ≡ record v { journal = w.journal } → w ≡ record u { journal = w.journal }
SameLog-more {D} u v w before e = e ∙ ap (λ (x : LoggedView D). let y : LoggedView D = record x { journal = w.journal } in y) before

looked_nothing : (j k : JournalView) → k ≡ record j { round = k.round } → k.round ≡ j.round → k ≡ j
looked_nothing j k e same = e ∙ ap (λ (r : RoundView). let x : JournalView = record j { round = r } in x) same

-- a look leaves less of the round, and else one frame more is held
pub smaller-put : {slots : ℕ} (j k : JournalView) (held new : List (HeldFrame slots)) (h : HeldFrame slots) → (k.round ≡ j.round) ⊎ (left_of slots k.round < left_of slots j.round) → length held < 3 → new ≡ held ++ h ∷ [] → left_of slots k.round * 4 + (3 - length new) < left_of slots j.round * 4 + (3 - length held)
smaller-put {slots} j k held new h left room added =
    let less = less_room held new h room added in
    ⊎_elim
    (λ e. let same : left_of slots k.round ≡ left_of slots j.round = ap (left_of slots) e in omega (arith, same, less))
    (λ l. omega (arith, l, less))
    left

-- frames are let go only after a look
pub smaller-let_go : {slots : ℕ} (j k : JournalView) (held new : List (HeldFrame slots)) → (k.round ≡ j.round) ⊎ (left_of slots k.round < left_of slots j.round) → k ≡ record j { round = k.round } → want_of (pages_for_collector j) (pages_held held) ≢ LetGo → LetGo ≡ want_of (pages_for_collector k) (pages_held held) → left_of slots k.round * 4 + (3 - length new) < left_of slots j.round * 4 + (3 - length held)
smaller-let_go {slots} j k held new left e kept go =
    ⊎_elim
    (λ same. absurd (kept (subst (λ (x : JournalView). want_of (pages_for_collector x) (pages_held held) ≡ LetGo) (looked_nothing j k e same) (sym go))))
    (λ l. omega (arith, l))
    left
