-- An object of the round is copied.
use Rattle.std.proofs.Common.{◌≡◌, ℕ, List, [], ◌∷◌, ◌++◌, length, map, drop, None, Some, refl, sym, ap, ◌∙◌, subst}
use Rattle.std.specs.Prelude.{Contains}
use Rattle.std.proofs.lemmas.List.{take-append-drop}
use Rattle.cell_page.specs.declared.cell.Cell.{Cell as HeldCell}
use Rattle.cell_page.specs.declared.cell.Seen.{Seen}
use Rattle.cell_page.specs.Stored.{cell_of}
use Rattle.cell_model.specs.Cells.{Cell, cell_at}
use Rattle.store_model.specs.Core.{Copy, Round, Core}
use Rattle.store_model.specs.Steps.{with_copy, after_look}
use Rattle.store_model.proofs.CollectSound.{copy-sound}
use Rattle.red_walk.specs.declared.red_at.RedAt.TheVariants as red
use Rattle.red_walk.specs.Walk.{Walk, next, first_of, copied}
use Rattle.red_walk.specs.Rounds.{round_of as walked}
use Rattle.red_walk.specs.Inside.{copy_of_seen}
use Rattle.red_walk.proofs.RoundLaws.{copied-law, copy-law}
use Rattle.core_store.specs.declared.three.HeldFrame.{HeldFrame}
use Rattle.core_store.specs.declared.act.Act.TheVariants as act
use Rattle.core_store.specs.Frames.{Agree}
use Rattle.core_store.specs.RoundView.{RoundView, Walking, round_of, IsWalking, IsInStep, Proceeds, scan}
use Rattle.core_store.specs.Tables.{TablesView}
use Rattle.core_store.specs.Stands.{Stands}
use Rattle.core_store.specs.Collecting.{Collected}
use Rattle.core_store.proofs.CollectedLaws.{Stands-collected, Moves-none}

-- what is asked to be copied is the first object that wasn't
copy-rest : (xs : List ℕ) (slot : ℕ) (ys : List ℕ) (id : ℕ) → first_of xs slot ys ≡ red.Copy id → (rest : List ℕ) × (ys ≡ id ∷ rest)
copy-rest [] slot [] id e = absurd (cc)
copy-rest [] slot (y ∷ ys) id e = (ys, cc)
copy-rest (x ∷ xs) slot ys id e = absurd (cc)

module _ (slots : ℕ) (v : TablesView) (c : Core) (held : List (HeldFrame slots)) (h : Stands slots v c) (agree : Agree c.cells held) (w : Walk) (is : v.round ≡ Walking w) (id : ℕ) (at : next w ≡ red.Copy id) where
  walking : IsWalking slots v.ids w
  walking = subst (λ (r : RoundView). IsInStep slots v.ids r) is h.in_step

  there : c.round ≡ Some (walked w)
  there = sym h.round ∙ ap round_of is

  listed : Contains w.left id
  listed = subst (λ (ids : List ℕ). Contains ids id) (sym walking.whole) (copy-law w id at)

  next-is : w.left ≡ map (λ e. e.0) w.copies ++ id ∷ (copy-rest (drop w.place w.list) w.slot (drop (length w.copies) w.list) id at).0
  next-is =
      let n = length w.copies in
      let rest = copy-rest (drop w.place w.list) w.slot (drop n w.list) id at in
      walking.whole ∙ (sym (take-append-drop n w.list) ∙ (ap (λ (ids : List ℕ). ids ++ drop n w.list) (sym walking.walk.in_order) ∙ ap (λ (ids : List ℕ). map (λ (e : ℕ × Copy). e.0) w.copies ++ ids) rest.1))

  pub copy-collected : (copy : Copy) → walked (copied w id copy) ≡ with_copy (walked w) id (cell_at c.cells id) → IsInStep slots v.ids (Walking (copied w id copy))
      → Collected slots v (record v { round = Walking (copied w id copy) }) c held held (act.Scan id) None
  copy-collected copy same step =
      let r = with_copy (walked w) id (cell_at c.cells id) in
      record {
        proceeds = subst (λ (r : RoundView). Proceeds slots v.ids r (act.Scan id) None (Walking (copied w id copy))) (sym is) (scan w id copy at);
        begins = λ e. absurd (cc);
        moves = Moves-none slots c.cells held agree;
        core = after_look c c.queue (Some r);
        after = refl;
        collects = record { of = walked w; there = there; before = refl; rest = (copy-rest (drop w.place w.list) w.slot (drop (length w.copies) w.list) id at).0; next = next-is; queue_is = refl; round_is = refl };
        stands = subst (λ (q : List ℕ). Stands slots (record v { queue = q; round = Walking (copied w id copy) }) (after_look c c.queue (Some r))) (sym h.queue)
            (Stands-collected slots v c c.cells c.queue (Some r) v.zeros (Walking (copied w id copy)) h (copy-sound c h.sound (walked w) there id listed) (λ x. refl) h.zeros (ap (λ (x : Round). Some x) same) step tt tt);
      }

-- what was seen of the held cell is the copy of the store's
pub seen-copied : {slots : ℕ} (cells : List Cell) (w : Walk) (id : ℕ) (seen : Seen slots) (c : HeldCell slots) → seen ≡ record { slots = c.slots; strong = c.strong; weak = c.weak } → cell_of c ≡ cell_at cells id
    → walked (copied w id (copy_of_seen seen)) ≡ with_copy (walked w) id (cell_at cells id)
seen-copied {slots} cells w id seen c is same =
    ap (λ (s : Seen slots). walked (copied w id (copy_of_seen s))) is ∙ (copied-law slots w id c ∙ ap (with_copy (walked w) id) same)
