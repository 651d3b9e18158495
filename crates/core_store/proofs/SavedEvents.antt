-- What looks are saved by stays true over the events of the green walk, and is so at its start.
use Rattle.std.proofs.Common.{◌≡◌, ◌≢◌, ℕ, ◌+◌, ◌<◌, ◌≤◌, ◌==◌, true, false, List, [], ◌∷◌, ◌++◌, length, slice_index_or, None, refl, sym, ap, ◌∙◌, subst, arith, ◌⊎◌, inl, inr, ⊎_elim, true≢false}
use Rattle.std.specs.Prelude.{Contains, get_or}
use Rattle.std.proofs.lemmas.List.{get_or-map, length-map}
use Rattle.std.proofs.lemmas.List.Elements.{Contains-push}
use Rattle.cell_model.specs.Cells.{Cell, Pointer, null, cell_at, pointer_at, is_live, edit, flipped, IsExact}
use Rattle.cell_model.proofs.EditLaws.{edit-other, live-there}
use Rattle.store_model.specs.Core.{Copy}
use Rattle.store_model.specs.Sound.{copy_of}
use Rattle.store_model.proofs.OnceLaws.{nothing-in}
use Rattle.red_walk.specs.Walk.{Walk}
use Rattle.green_walk.specs.declared.copied_slots.CopiedSlot.{CopiedSlot}
use Rattle.green_walk.specs.declared.sweep.SweepAt.TheVariants.{End}
use Rattle.green_walk.specs.declared.sweep.Found.TheVariants.{Made}
use Rattle.green_walk.specs.Judged.{Judged}
use Rattle.green_walk.specs.Sweeping.{SweepState as Sweep, next as next_of_sweep}
use Rattle.green_walk.specs.Greening.{Greening, GreenStage, AtInto, AtOut, waits, may_lead_to, behind_first, greened, moved, found, started as green_started, copied_slots, are_none}
use Rattle.green_walk.proofs.GreenAsked.{green-done}
use Rattle.core_store.specs.Changes.{is_counted_strong, has_no_strong}
use Rattle.core_store.specs.Saved.{HasOut, IsSpent, WasPassed, AreSaved}
use Rattle.core_store.proofs.Copies.{copied-tells}
use Rattle.core_store.proofs.GreenAt.{IsAtFlip, IsAtInto, IsAtStrengthen}
use Rattle.core_store.proofs.Strengths.{counted-parts, counted-from, weak-to, flip-graph, flip-apart, switched_at, turn-which, turn-graph, turn-apart, turn-count}
use Rattle.core_store.proofs.SavedLaws.{GoesOn, saved-on, waits-less, waits-other, green-at, was-moved, out-moved}

module _ (cells : List Cell) (s : Sweep) (g : Greening) (exact : IsExact cells) (end : next_of_sweep s ≡ End) (few : g.walked ≤ length g.green) (lives : (x : ℕ) → waits g x ≡ true → is_live cells x ≡ true) where
  -- ---- an object is flipped

  module _ (id : ℕ) (a : IsAtFlip g id) (zero : (cell_at cells id).strong ≡ 0) where
    abbrev flip_later : List Cell
    flip_later = edit cells id (flipped id)

    flip-spent : (x : ℕ) → IsSpent cells g g.stage x → waits (greened g id) x ≡ true → has_no_strong (cell_at flip_later x) ≡ true → HasOut flip_later (AtInto id g.copied) x
    flip-spent x spent w none =
        let live = lives id a.waiting in
        let other = waits-other g id x w in
        let out = spent (waits-less g id x w) (ap has_no_strong (sym (edit-other cells id x (flipped id) other)) ∙ none) in
        let y = (pointer_at cells x out.slot).target in
        let parts = counted-parts cells (pointer_at cells x out.slot) out.strong in
        let apart : y ≢ id = λ e. true≢false (sym parts.1 ∙ weak-to cells exact x out.slot id (lives x (waits-less g id x w)) e (live-there cells id exact.none live) zero) in
        let same = (flip-graph cells id exact live).target x out.slot in
        record {
          slot = out.slot;
          strong = counted-from flip_later (pointer_at flip_later x out.slot) (λ e. parts.0 (sym same ∙ e)) (flip-apart cells id exact live x out.slot other apart ∙ parts.1);
          apart = λ f rest e. (let is : id ≡ f = cc in λ q. apart (sym same ∙ (q ∙ sym is)));
        }

    flip-goes : GoesOn cells flip_later g (record (greened g id) { stage = AtInto id g.copied; test = None })
    flip-goes = record {
      targets = (flip-graph cells id exact (lives id a.waiting)).target;
      current = λ e. e;
      copied = refl;
      live = refl;
      slots = refl;
      spent = λ x spent w none. flip-spent x spent w none;
      passed = λ e place slot was l small. let within : place < length g.green = omega (arith, was, few) in inl (e, subst (λ (st : GreenStage). WasPassed g.walked st place slot) (sym a.stage) was, within, green-at g id place within);
    }

    pub saved-flip : AreSaved cells s g → AreSaved flip_later s (found g (Made id))
    saved-flip k = subst (AreSaved flip_later s) (sym a.found) (saved-on cells flip_later s g (record (greened g id) { stage = AtInto id g.copied; test = None }) end flip-goes k)

  -- ---- a pointer gets its other strength

  module _ («from» k to : ℕ) (live : is_live cells «from» ≡ true) (within : k < length (cell_at cells «from»).pointers) (target : (pointer_at cells «from» k).target ≡ to) where
    abbrev turned : List Cell
    turned = switched_at cells «from» k

    -- another object's strong pointer to another one stays
    turn-strong : (x slot : ℕ) → ((x ≡ «from») → (slot ≡ k) → ⊥) → is_counted_strong cells (pointer_at cells x slot) ≡ true → is_counted_strong turned (pointer_at turned x slot) ≡ true
    turn-strong x slot other strong =
        ⊎_elim
        (λ p. absurd (other p.0 p.1))
        (λ (same : pointer_at turned x slot ≡ pointer_at cells x slot). turn-apart cells «from» k exact live within x slot same ∙ strong)
        (turn-which cells «from» k exact live within x slot)

    turn-none : (x : ℕ) → is_live cells x ≡ true → x ≢ to → has_no_strong (cell_at turned x) ≡ true → has_no_strong (cell_at cells x) ≡ true
    turn-none x l other none = ap (λ (n : ℕ). n == 0) (sym (turn-count cells «from» k exact live within x l (λ e. other (sym e ∙ target)))) ∙ none

    pub saved-into : IsAtInto g «from» k to → waits g to ≡ false → AreSaved cells s g → AreSaved turned s (found g (Made «from»))
    saved-into a green saved =
        let h : Greening = record g { stage = AtInto to (behind_first (may_lead_to g to) a.rest) } in
        subst (AreSaved turned s) (sym a.found) (saved-on cells turned s g h end (record {
          targets = (turn-graph cells «from» k exact live within).target;
          current = λ e. e;
          copied = refl;
          live = refl;
          slots = refl;
          spent = λ x spent w none. into-spent a.rest (behind_first (may_lead_to g to) a.rest) a.stage green x spent w none;
          passed = λ e place slot was l small. inl (e, subst (λ (st : GreenStage). WasPassed g.walked st place slot) (sym a.stage) was, l, refl);
        }) saved)
      where
        into-spent : (rest behind : List CopiedSlot) → g.stage ≡ AtInto to rest → waits g to ≡ false → (x : ℕ) → IsSpent cells g g.stage x → waits g x ≡ true → has_no_strong (cell_at turned x) ≡ true → HasOut turned (AtInto to behind) x
        into-spent rest behind stage green x spent w none =
            let other : x ≢ to = λ e. true≢false (sym w ∙ (ap (waits g) e ∙ green)) in
            let out = spent w (turn-none x (lives x w) other none) in
            let apart = out.apart to rest stage in
            let same = (turn-graph cells «from» k exact live within).target x out.slot in
            record {
              slot = out.slot;
              strong = turn-strong x out.slot (λ e f. apart (ap (λ (y : ℕ). (pointer_at cells y out.slot).target) e ∙ (ap (λ (y : ℕ). (pointer_at cells «from» y).target) f ∙ target))) out.strong;
              apart = λ f r e. (let is : to ≡ f = cc in λ q. apart (sym same ∙ (q ∙ sym is)));
            }

    pub saved-strengthen : IsAtStrengthen g «from» k to → waits g «from» ≡ false → AreSaved cells s g → AreSaved turned s (found g (Made to))
    saved-strengthen a green saved =
        subst (AreSaved turned s) (sym a.found) (saved-on cells turned s g (moved (greened g to) a.place k) end (record {
          targets = (turn-graph cells «from» k exact live within).target;
          current = λ e. e;
          copied = refl;
          live = refl;
          slots = refl;
          spent = λ x spent w none. out-spent a.place green x spent w none;
          passed = λ e place slot was l small.
              ⊎_elim
              (λ p. out-passed a.place a.stage a.within e place slot p)
              (λ p. inr (λ w none. absurd (true≢false (sym w ∙ (ap (waits (greened g to)) (out-target a.place a.within a.green place slot p.0 p.1) ∙ green-done (greened g to) to (Contains-push g.green to))))))
              (was-moved g.walked g.slots a.place k place slot (k + 1 == g.slots) refl small was);
        }) saved)
      where
        out-spent : (at : ℕ) → waits g «from» ≡ false → (x : ℕ) → IsSpent cells g g.stage x → waits (greened g to) x ≡ true → has_no_strong (cell_at turned x) ≡ true → HasOut turned (moved (greened g to) at k).stage x
        out-spent at green x spent w none =
            let before = waits-less g to x w in
            let out = spent before (turn-none x (lives x before) (waits-other g to x w) none) in
            out-moved turned g.slots at k x (k + 1 == g.slots) out.slot (turn-strong x out.slot (λ e f. true≢false (sym before ∙ (ap (waits g) e ∙ green))) out.strong)

        out-passed : (at : ℕ) → g.stage ≡ AtOut at k → at < length g.green → g.changed ≡ false → (place slot : ℕ) → WasPassed g.walked (AtOut at k) place slot
            → ((g.changed ≡ false) × WasPassed g.walked g.stage place slot × (place < length g.green) × (slice_index_or (g.green ++ to ∷ []) place 0 ≡ slice_index_or g.green place 0)) ⊎ IsSpent turned (moved (greened g to) at k) (moved (greened g to) at k).stage (pointer_at turned (slice_index_or (g.green ++ to ∷ []) place 0) slot).target
        out-passed at stage inside e place slot p =
            let l : place < length g.green = ⊎_elim (λ (n : place < at). omega (arith, n, inside)) (λ n. let is = n.0 in omega (arith, is, inside)) p in
            inl (e, subst (λ (st : GreenStage). WasPassed g.walked st place slot) (sym stage) p, l, green-at g to place l)

        out-target : (at : ℕ) → at < length g.green → slice_index_or g.green at 0 ≡ «from» → (place slot : ℕ) → place ≡ at → slot ≡ k → (pointer_at turned (slice_index_or (g.green ++ to ∷ []) place 0) slot).target ≡ to
        out-target at inside first place slot e f =
            ap (λ (y : ℕ). (pointer_at turned (slice_index_or (g.green ++ to ∷ []) y 0) slot).target) e
            ∙ (ap (λ (y : ℕ). (pointer_at turned (slice_index_or (g.green ++ to ∷ []) at 0) y).target) f
            ∙ (ap (λ (y : ℕ). (pointer_at turned y k).target) (green-at g to at inside ∙ first)
            ∙ ((turn-graph cells «from» k exact live within).target «from» k ∙ target)))

-- ---- the start

none-touched : (ids : List ℕ) → are_none ids ≡ true → (id : ℕ) → Contains ids id → ⊥
none-touched [] e id m = nothing-in id m
none-touched (x ∷ xs) e id m = absurd (true≢false (sym e))

-- where no object of the round was touched the copies tell what their slots name
pub saved-started : (cells : List Cell) (s : Sweep) (slots : ℕ) (j : Judged) (w : Walk) → ((id : ℕ) (copy : Copy) → Contains w.copies (id, copy) → Contains w.touched id ⊎ (copy ≡ copy_of (cell_at cells id))) → AreSaved cells s (green_started slots j w)
saved-started cells s slots j w current = record {
  current = λ e c m l. tells e c m;
  walked = λ e place slot was l small. absurd (omega (arith, was));
  early = λ e n. (refl, refl);
}
  where
    tells : are_none w.touched ≡ true → (c : CopiedSlot) → Contains (copied_slots w.copies) c → (pointer_at cells c.id c.slot).target ≡ c.target
    tells e c m =
        let told = copied-tells w.copies c m in
        ⊎_elim
        (λ (t : Contains w.touched c.id). absurd (none-touched w.touched e c.id t))
        (λ (same : told.0 ≡ copy_of (cell_at cells c.id)).
        let row = ap (λ (x : Copy). x.targets) same in
        let ps = (cell_at cells c.id).pointers in
        let long = ap length row in
        let size = length-map ps (λ (p : Pointer). p.target) in
        let within : c.slot < length ps = (let l = told.2 in omega (arith, l, long, size)) in
        sym (get_or-map (λ (p : Pointer). p.target) ps c.slot null 0 within) ∙ (ap (λ (xs : List ℕ). get_or xs c.slot 0) (sym row) ∙ told.3))
        (current c.id told.0 told.1)
