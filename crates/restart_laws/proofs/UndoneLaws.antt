-- All changes of the first active client are undone, from the last one on, and its transaction ends: the journal stays sound.
use Rattle.std.proofs.Common.{◌≡◌, ◌≢◌, ℕ, zero, suc, ◌+◌, ◌-◌, List, [], ◌∷◌, ◌++◌, true, cond, refl, sym, ap, ◌∙◌, subst, arith, take, Some, eq-eqb, ne_eqb}
use Rattle.std.specs.Prelude.{◌==◌, count_by, reverse, map}
use Rattle.std.specs.List.{AllByRecursion}
use Rattle.std.specs.Option.{option_map_or}
use Rattle.std.specs.Map.{lookup, set_value, remove_entry}
use Rattle.std.specs.Ordering.{nat_cmp, is_eq}
use Rattle.std.specs.BTreeMap.{is_at}
use Rattle.std.proofs.lemmas.Bool.{cond-true, cond-false}
use Rattle.plain_model.specs.declared.write.Place.{Place}
use Rattle.plain_model.specs.declared.write.Place.TheVariants.{Slot, Payload, Whole}
use Rattle.plain_model.specs.declared.calls.Entry.TheVariants.{Undo as UndoEntry}
use Rattle.plain_model.specs.Graphs.{applied}
use Rattle.plain_model.specs.ActiveTransaction.{ActiveTransaction}
use Rattle.plain_model.specs.Machine.{transaction_of}
use Rattle.plain_model.specs.History.{Moment, can_be_undone, with_aborting, next}
use Rattle.cell_model.specs.Records.{after_record, Fits, AllFit}
use Rattle.store_model.specs.Core.{Core}
use Rattle.store_model.specs.Sound.{IsSound}
use Rattle.store_model.specs.Steps.{undone_by, after_undo, aborted_core, references_left}
use Rattle.store_model.proofs.StepLaws.{cmp-same}
use Rattle.store_model.proofs.ReferenceLaws.{references_left-fit}
use Rattle.store_model.proofs.MomentSound.{abort_left-sound}
use Rattle.restart_laws.specs.Graph.{zeros_of}
use Rattle.restart_laws.specs.Unended.{Change}
use Rattle.restart_laws.specs.Restored.{undo_of, undo_records, after_records, CanBeUndone, CanAllBeUndone}
use Rattle.restart_laws.specs.Told.{value_in, change_of, changes_of, HasPlace}
use Rattle.restart_laws.proofs.ForgottenLaws.{forgotten, forgotten-sound, zeros-left}
use Rattle.restart_laws.proofs.ChangeLists.{HasNth, nth-undoable, take-nth, reverse-nth}
use Rattle.restart_laws.proofs.UndoSteps.{slot-undo, slot-undone, payload-undo, payload-undone}

-- ---- the first of the active clients

pub first-transaction : (pass : ℕ) (t : ActiveTransaction) (rest active : List (ℕ × ActiveTransaction)) → active ≡ (pass, t) ∷ rest → lookup (is_at (nat_cmp pass)) active ≡ Some t
first-transaction pass t rest active e = ap (lookup (is_at (nat_cmp pass))) e ∙ ap (λ o. cond (is_eq o) (Some t) (lookup (is_at (nat_cmp pass)) rest)) (cmp-same pass pass refl)

first-marked : (pass : ℕ) (t : ActiveTransaction) (rest active : List (ℕ × ActiveTransaction)) → active ≡ (pass, t) ∷ rest → with_aborting pass active ≡ (pass, undone_by t) ∷ rest
first-marked pass t rest active e =
    ap (λ o. option_map_or (λ (t : ActiveTransaction). set_value (is_at (nat_cmp pass)) active (undone_by t)) o active) (first-transaction pass t rest active e)
    ∙ (ap (λ l. set_value (is_at (nat_cmp pass)) l (undone_by t)) e
    ∙ ap (λ o. cond (is_eq o) ((pass, undone_by t) ∷ rest) ((pass, t) ∷ set_value (is_at (nat_cmp pass)) rest (undone_by t))) (cmp-same pass pass refl))

first-removed : (pass : ℕ) (t : ActiveTransaction) (rest active : List (ℕ × ActiveTransaction)) → active ≡ (pass, t) ∷ rest → remove_entry (is_at (nat_cmp pass)) active ≡ rest
first-removed pass t rest active e = ap (remove_entry (is_at (nat_cmp pass))) e ∙ ap (λ o. cond (is_eq o) rest ((pass, t) ∷ remove_entry (is_at (nat_cmp pass)) rest)) (cmp-same pass pass refl)

-- ---- one change

-- the change can be undone, its record fits, and the journal stays sound
pub record OneUndone (c : Core) (pass : ℕ) (ch : Change) : Type 0 where
  pub can : CanBeUndone c.cells ch
  pub fits : Fits c.cells (undo_of c.cells pass ch)
  pub sound : IsSound (after_undo (forgotten c) pass (after_record c.moment.state.slots c.cells (undo_of c.cells pass ch)))

pub one-undone : (c : Core) → IsSound c → (pass : ℕ) (t : ActiveTransaction) → transaction_of c.moment.state pass ≡ Some t → (n : ℕ) (h : HasNth t.writes n) → count_by can_be_undone t.writes - c.moment.undone pass ≡ n → HasPlace c.moment.state.slots h.write.place
    → OneUndone c pass (change_of (applied c.moment.state.slots c.moment.state.committed h.earlier) h.write)
one-undone c s pass t a n h e l = by h.write.id h.write.place h.write.value h.undoable h.split l
  where
    turn : count_by can_be_undone t.writes - c.moment.undone pass ≡ count_by can_be_undone h.earlier + 1
    turn = e ∙ sym h.count

    by : (id : ℕ) (p : Place) (v : ℕ) → can_be_undone (record { id = id; place = p; value = v }) ≡ true → t.writes ≡ h.earlier ++ record { id = id; place = p; value = v } ∷ h.later → HasPlace c.moment.state.slots p
        → OneUndone c pass (record { id = id; place = p; old = value_in (applied c.moment.state.slots c.moment.state.committed h.earlier) id p; new = v })
    by id (Slot slot) v u split few =
        let can = slot-undo c s pass t a h.earlier h.later id v slot (value_in (applied c.moment.state.slots c.moment.state.committed h.earlier) id (Slot slot)) split turn refl few in
        record { can = can.0; fits = can.1; sound = slot-undone c s pass t a h.earlier h.later id v slot (value_in (applied c.moment.state.slots c.moment.state.committed h.earlier) id (Slot slot)) split turn refl few }
    by id Payload v u split few =
        let can = payload-undo c s pass t a h.earlier h.later id v (value_in (applied c.moment.state.slots c.moment.state.committed h.earlier) id Payload) split turn in
        record { can = can.0; fits = can.1; sound = payload-undone c s pass t a h.earlier h.later id v (value_in (applied c.moment.state.slots c.moment.state.committed h.earlier) id Payload) split turn refl }
    by id Whole v u split few = cc

-- ---- all changes

-- the changes can be undone one after another, and then a sound journal has these cells and no transaction of the client
pub record AllUndone (c d : Core) (slots pass : ℕ) (rest : List (ℕ × ActiveTransaction)) (cs : List Change) : Type 0 where
  pub sound : IsSound d
  pub can : CanAllBeUndone slots c.cells pass cs
  pub fit : AllFit slots c.cells (map Some (undo_records slots c.cells pass cs))
  pub cells : d.cells ≡ after_records slots c.cells (undo_records slots c.cells pass cs)
  pub active : d.moment.state.active ≡ rest
  pub same_slots : d.moment.state.slots ≡ c.moment.state.slots
  pub same_ids : d.moment.state.ids ≡ c.moment.state.ids
  pub committed : d.moment.state.committed ≡ c.moment.state.committed
  pub undone : (q : ℕ) → q ≢ pass → d.moment.undone q ≡ c.moment.undone q

all-front : {X : Type 0} (P : X → Type 0) (xs ys : List X) → AllByRecursion P (xs ++ ys) → AllByRecursion P xs
all-front P [] ys h = tt
all-front P (x ∷ xs) ys h = (h.0, all-front P xs ys h.1)

pub all-last : {X : Type 0} (P : X → Type 0) (xs : List X) (y : X) → AllByRecursion P (xs ++ y ∷ []) → P y
all-last P [] y h = h.0
all-last P (x ∷ xs) y h = all-last P xs y h.1

-- what follows the first undo
abbrev Goes : Core → ℕ → List (ℕ × ActiveTransaction) → ActiveTransaction → ℕ → Type 0
Goes c pass rest t n = (d : Core) × AllUndone c d c.moment.state.slots pass rest (reverse (take n (changes_of c.moment.state.slots c.moment.state.committed t.writes)))

abbrev HaveAll : Core → ActiveTransaction → ℕ → Type 0
HaveAll c t n = AllByRecursion (λ (x : Change). HasPlace c.moment.state.slots x.place) (take n (changes_of c.moment.state.slots c.moment.state.committed t.writes))

-- one change more, the last one
undone-more : (n : ℕ) (c : Core) → IsSound c → (pass : ℕ) (t : ActiveTransaction) (rest : List (ℕ × ActiveTransaction)) → c.moment.state.active ≡ (pass, t) ∷ rest → count_by can_be_undone t.writes - c.moment.undone pass ≡ suc n → HaveAll c t (suc n)
    → HasNth t.writes (suc n)
    → ((d : Core) → IsSound d → d.moment.state.active ≡ (pass, undone_by t) ∷ rest → count_by can_be_undone t.writes - d.moment.undone pass ≡ n → HaveAll d (undone_by t) n → Goes d pass rest (undone_by t) n)
    → Goes c pass rest t (suc n)
undone-more n c s pass t rest e some few h go =
    let slots = c.moment.state.slots in
    let g = c.moment.state.committed in
    let all = changes_of slots g t.writes in
    let ch = change_of (applied slots g h.earlier) h.write in
    let a = first-transaction pass t rest c.moment.state.active e in
    let less : suc n - 1 ≡ n = omega arith in
    let front : take (suc n) all ≡ take n all ++ ch ∷ [] = take-nth slots g t.writes (suc n) h ∙ ap (λ k. take k all ++ ch ∷ []) less in
    let back : reverse (take (suc n) all) ≡ ch ∷ reverse (take n all) = reverse-nth slots g t.writes (suc n) h ∙ ap (λ k. ch ∷ reverse (take k all)) less in
    let P : Change → Type 0 = λ x. HasPlace slots x.place in
    let few2 : AllByRecursion P (take n all ++ ch ∷ []) = subst (AllByRecursion P) front few in
    let one = one-undone c s pass t a (suc n) h some (all-last P (take n all) ch few2) in
    let more : (next_moment c pass).undone pass ≡ c.moment.undone pass + 1 = cond-true (pass == pass) (c.moment.undone pass + 1) (c.moment.undone pass) (eq-eqb pass pass refl) in
    let r = go (after_undo (forgotten c) pass (after_record slots c.cells (undo_of c.cells pass ch))) one.sound (first-marked pass t rest c.moment.state.active e) (omega (arith, some, more)) (all-front P (take n all) (ch ∷ []) few2) in
    let k = r.1 in (
      r.0,
      subst (λ cs. AllUndone c r.0 slots pass rest cs) (sym back) (record {
        sound = k.sound;
        can = (one.can, k.can);
        fit = (one.fits, k.fit);
        cells = k.cells;
        active = k.active;
        same_slots = k.same_slots;
        same_ids = k.same_ids;
        committed = k.committed;
        undone = λ q m. k.undone q m ∙ cond-false (q == pass) (c.moment.undone q + 1) (c.moment.undone q) (ne_eqb q pass m);
      }),
    )
  where
    next_moment : Core → ℕ → Moment
    next_moment c pass = next c.moment (UndoEntry pass)

pub all-undone : (n : ℕ) (c : Core) → IsSound c → (pass : ℕ) (t : ActiveTransaction) (rest : List (ℕ × ActiveTransaction)) → c.moment.state.active ≡ (pass, t) ∷ rest → count_by can_be_undone t.writes - c.moment.undone pass ≡ n → HaveAll c t n → Goes c pass rest t n
all-undone zero c s pass t rest e none few =
    let left = references_left c.refs pass in
    let a = first-transaction pass t rest c.moment.state.active e in (
      aborted_core (forgotten c) pass left (zeros_of c.cells),
      record {
        sound = abort_left-sound (forgotten c) (forgotten-sound c s) pass t a left (zeros_of c.cells) (references_left-fit c.refs pass) (zeros-left (forgotten c) refl left) none;
        can = tt;
        fit = (tt, tt);
        cells = refl;
        active = first-removed pass t rest c.moment.state.active e;
        same_slots = refl;
        same_ids = refl;
        committed = refl;
        undone = λ q m. refl;
      },
    )
all-undone (suc n) c s pass t rest e some few = undone-more n c s pass t rest e some few (nth-undoable t.writes (suc n) (omega arith) (omega (arith, some))) (λ d k f m w. all-undone n d k pass (undone_by t) rest f m w)
