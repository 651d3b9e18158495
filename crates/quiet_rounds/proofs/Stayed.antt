-- What a quiet round leaves as it was: every object but those that it frees.
use Rattle.std.proofs.Common.{◌≡◌, ◌≢◌, ℕ, ◌+◌, ◌==◌, if◌then◌else◌, slice_index_or, Bool, true, false, List, refl, sym, ap, ◌∙◌, subst}
use Rattle.std.specs.Prelude.{Contains}
use Rattle.cell_model.specs.Cells.{Cell, cell_at, pointer_at, is_live, object_of, IsExact}
use Rattle.store_model.proofs.DeletionLaws.{target-map}
use Rattle.plain_model.specs.declared.object.Object.{Object}
use Rattle.red_walk.specs.Walk.{Walk}
use Rattle.green_walk.specs.declared.sweep.SweepAt.{SweepAt}
use Rattle.green_walk.specs.declared.sweep.SweepAt.TheVariants as sweep
use Rattle.green_walk.specs.declared.sweep.Found.TheVariants.{Nothing}
use Rattle.green_walk.specs.Sweeping.{SweepState as Sweep, next as next_of_sweep, found, found_at, unfreed}
use Rattle.green_walk.specs.Greening.{Greening}
use Rattle.core_store.specs.RoundView.{RoundView, Closed, Walking, Sweeping, next_slot, looked_past, passed_by_sweep, Passes, none, more}

-- ---- an object that stays

-- the id is live in both lists of cells or in none, and what it holds there is the same object
pub record IsSameAt (cells new : List Cell) (id : ℕ) : Type 0 where
  pub live : is_live new id ≡ is_live cells id
  pub object : object_of id (cell_at new id) ≡ object_of id (cell_at cells id)

pub same-at : (cells : List Cell) (id : ℕ) → IsSameAt cells cells id
same-at cells id = record { live = refl; object = refl }

pub same-then : {cells new later : List Cell} {id : ℕ} → IsSameAt cells new id → IsSameAt new later id → IsSameAt cells later id
same-then a b = record { live = b.live ∙ a.live; object = b.object ∙ a.object }

pub same-target : {cells new : List Cell} {id : ℕ} → IsSameAt cells new id → (slot : ℕ) → (pointer_at new id slot).target ≡ (pointer_at cells id slot).target
same-target {cells} {new} {id} s slot =
    sym (target-map (cell_at new id).pointers slot) ∙ ap (λ (o : Object). slot_of o slot) s.object ∙ target-map (cell_at cells id).pointers slot
  where
    slot_of : Object → ℕ → ℕ
    slot_of o slot = slice_index_or o.slots slot 0

-- ---- what is led to

-- a walk of pointers leads to the object from a live one outside of the list
pub data IsLedFrom (cells : List Cell) (list : List ℕ) : ℕ → Type 0 where
  out_of : (u slot : ℕ) → is_live cells u ≡ true → (Contains list u → ⊥) → (pointer_at cells u slot).target ≢ 0 → IsLedFrom cells list (pointer_at cells u slot).target
  onwards : (id slot : ℕ) → IsLedFrom cells list id → (pointer_at cells id slot).target ≢ 0 → IsLedFrom cells list (pointer_at cells id slot).target

-- it lives
pub led-live : (cells : List Cell) (list : List ℕ) → IsExact cells → {id : ℕ} → IsLedFrom cells list id → is_live cells id ≡ true
led-live cells list e (out_of u slot l n t) = e.closed u slot l t
led-live cells list e (onwards id slot l t) = e.closed id slot (led-live cells list e l) t

-- the same in cells with the same objects
pub led-same : (cells new : List Cell) (list : List ℕ) → ((id : ℕ) → IsSameAt cells new id) → {id : ℕ} → IsLedFrom cells list id → IsLedFrom new list id
led-same cells new list same (out_of u slot l n t) =
    let e = same-target (same u) slot in
    subst (λ x. IsLedFrom new list x) e (out_of u slot ((same u).live ∙ l) n (λ z. t (sym e ∙ z)))
led-same cells new list same (onwards id slot l t) =
    let e = same-target (same id) slot in
    subst (λ x. IsLedFrom new list x) e (onwards id slot (led-same cells new list same l) (λ z. t (sym e ∙ z)))

pub same-back : {cells new : List Cell} → ((id : ℕ) → IsSameAt cells new id) → (id : ℕ) → IsSameAt new cells id
same-back same id = record { live = sym (same id).live; object = sym (same id).object }

-- ---- at a moment of the round

-- after the verdict: the chosen objects of the list are those that nothing leads to from outside, all others are as at the
-- start, and chosen ones are live only until they are freed
pub record IsStayed (start cells : List Cell) (list chosen waiting : List ℕ) : Type 0 where
  pub chosen_are : (id : ℕ) → Contains chosen id → Contains list id × (IsLedFrom start list id → ⊥)
  pub all_chosen : (id : ℕ) → Contains list id → (IsLedFrom start list id → ⊥) → Contains chosen id
  pub spared : (id : ℕ) → (Contains chosen id → ⊥) → IsSameAt start cells id
  pub gone : (id : ℕ) → Contains chosen id → is_live cells id ≡ true → Contains waiting id
  pub fewer : (id : ℕ) → is_live cells id ≡ true → is_live start id ≡ true

-- and before it, all objects are as at the start
abbrev pub HasStayed : List Cell → List Cell → RoundView → Type 0
HasStayed start cells Closed = ⊥
HasStayed start cells (Walking w) = (id : ℕ) → IsSameAt start cells id
HasStayed start cells (Sweeping w s slot g) = IsStayed start cells w.list s.list (unfreed s)

-- ---- looks

-- the sweep goes on after a slot
pub stayed-next : (slots : ℕ) (start cells : List Cell) (w : Walk) (s : Sweep) (slot id : ℕ) (g : Greening) → next_of_sweep s ≡ sweep.Slots id → IsStayed start cells w.list s.list (unfreed s) → HasStayed start cells (next_slot slots w s slot g)
stayed-next slots start cells w s slot id g at h = by (slot + 1 == slots) behind h
  where
    behind : IsStayed start cells w.list (found s Nothing).list (unfreed (found s Nothing))
    behind =
        let same : found s Nothing ≡ record s { emptied = s.emptied + 1 } = ap (λ (n : SweepAt). found_at s n Nothing) at in
        subst (λ (x : Sweep). IsStayed start cells w.list x.list (unfreed x)) (sym same) h

    by : (b : Bool) → IsStayed start cells w.list (found s Nothing).list (unfreed (found s Nothing)) → IsStayed start cells w.list s.list (unfreed s) → HasStayed start cells (if b then Sweeping w (found s Nothing) 0 g else Sweeping w s (slot + 1) g)
    by true next here = next
    by false next here = here

look-stays : (slots : ℕ) (start cells : List Cell) (u : RoundView) → HasStayed start cells u → HasStayed start cells (looked_past slots cells u)
look-stays slots start cells Closed h = absurd h
look-stays slots start cells (Walking w) h = h
look-stays slots start cells (Sweeping w s slot g) h = at (next_of_sweep s) refl
  where
    at : (n : SweepAt) → next_of_sweep s ≡ n → HasStayed start cells (passed_by_sweep slots cells w s slot g n)
    at (sweep.Slots id) e = stayed-next slots start cells w s slot id g e h
    at (sweep.Free id) e = h
    at sweep.End e = h

pub looks-stay : (slots : ℕ) (start cells : List Cell) (u v : RoundView) → HasStayed start cells u → Passes slots cells u v → HasStayed start cells v
looks-stay slots start cells u _ h none = h
looks-stay slots start cells u _ h (more v p idle) = look-stays slots start cells v (looks-stay slots start cells u v h p)
