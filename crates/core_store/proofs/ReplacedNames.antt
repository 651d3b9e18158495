-- What a transaction replaced is what the committed graph has there, or what the transaction laid before; so the client names it.
use Rattle.std.proofs.Common.{◌≡◌, ◌≢◌, ℕ, List, [], ◌∷◌, ◌++◌, Bool, true, false, refl, sym, ap, ◌∙◌, subst, ⊎_elim, take, drop, Some, eq-eqb}
use Rattle.std.specs.Prelude.{Contains, if◌then◌else◌, ◌==◌}
use Rattle.std.proofs.lemmas.Bool.{and_from}
use Rattle.std.proofs.lemmas.List.{take-append-drop}
use Rattle.std.proofs.lemmas.List.Elements.{Contains-append_cases, Contains-append_left, Contains-append_right}
use Rattle.plain_model.specs.declared.object.Object.{Object}
use Rattle.plain_model.specs.declared.write.Place.{Place}
use Rattle.plain_model.specs.declared.write.Place.TheVariants.{Slot}
use Rattle.plain_model.specs.declared.write.Write.{Write}
use Rattle.plain_model.specs.Graphs.{applied}
use Rattle.plain_model.specs.ActiveTransaction.{ActiveTransaction}
use Rattle.plain_model.specs.Machine.{transaction_of}
use Rattle.plain_model.specs.History.{can_be_undone, holds}
use Rattle.store_model.specs.Core.{Core, IsActive, names, slot_in, new_target, has_slot, touches}
use Rattle.store_model.specs.Sound.{IsSound}
use Rattle.store_model.proofs.EndLaws.{transaction-active}
use Rattle.store_model.proofs.Lists.{Contains-here, each}
use Rattle.store_model.proofs.OnceLaws.{nothing-in}
use Rattle.store_model.proofs.SlotLaws.{after_writes-value}
use Rattle.restart_laws.specs.Told.{value_in}
use Rattle.core_store.specs.Replaced.{before_write, replaced}
use Rattle.core_store.specs.Transactions.{Running}
use Rattle.core_store.specs.Stands.{IsRunning}
use Rattle.core_store.proofs.LayLaws.{only_item}
use Rattle.core_store.proofs.ReplacedLaws.{replaced_by}
use Rattle.core_store.proofs.WrittenCells.{writes-held}

-- one of the writes replaced this, where those before it were made
pub record IsReplacedBy (slots : ℕ) (g : List Object) (ws : List Write) (x : Write) : Type 0 where
  pub earlier : List Write
  pub write : Write
  pub later : List Write
  pub split : ws ≡ earlier ++ write ∷ later
  pub is : before_write (applied slots g earlier) write ≡ x

by-one : (slots : ℕ) (g : List Object) (w : Write) (ws : List Write) (x : Write) → Contains (replaced_by g w) x → IsReplacedBy slots g (w ∷ ws) x
by-one slots g w ws x m = record { earlier = []; write = w; later = ws; split = refl; is = only (can_be_undone w) m }
  where
    only : (b : Bool) → Contains (if b then before_write g w ∷ [] else []) x → before_write g w ≡ x
    only true k = only_item (before_write g w) x k
    only false k = nothing-in x k

by-later : (slots : ℕ) (g : List Object) (w : Write) (ws : List Write) (x : Write) → IsReplacedBy slots (applied slots g (w ∷ [])) ws x → IsReplacedBy slots g (w ∷ ws) x
by-later slots g w ws x r = record { earlier = w ∷ r.earlier; write = r.write; later = r.later; split = ap (λ (vs : List Write). w ∷ vs) r.split; is = r.is }

pub is-replaced : (slots : ℕ) (g : List Object) (ws : List Write) (x : Write) → Contains (replaced slots g ws) x → IsReplacedBy slots g ws x
is-replaced slots g [] x m = nothing-in x m
is-replaced slots g (w ∷ ws) x m =
    let h = applied slots g (w ∷ []) in
    ⊎_elim
    (λ (k : Contains (replaced_by g w) x). by-one slots g w ws x k)
    (λ (k : Contains (replaced slots h ws) x). by-later slots g w ws x (is-replaced slots h ws x k))
    (Contains-append_cases (replaced_by g w) (replaced slots h ws) x m)

-- what was replaced in a slot has a property, where what the writes laid has it, and what the graph has where they went
module _ (slots : ℕ) (g : List Object) (ws : List Write) (P : ℕ → Type 0) (laid : (w : Write) → Contains ws w → new_target w ≢ 0 → P (new_target w))
    (was : (w : Write) → Contains ws w → (id slot : ℕ) → touches id slot w ≡ true → slot_in g id slot ≢ 0 → P (slot_in g id slot)) where
  slot-has : (earlier later : List Write) (w : Write) (id slot value : ℕ) → ws ≡ earlier ++ w ∷ later → w.id ≡ id → w.place ≡ Slot slot → slot_in (applied slots g earlier) id slot ≡ value → value ≢ 0 → P value
  slot-has earlier later w id slot value split same_id same_place is some =
      let among : Contains ws w = subst (λ (vs : List Write). Contains vs w) (sym split) (Contains-append_right earlier (w ∷ later) w (Contains-here w later)) in
      let before : (v : Write) → Contains earlier v → Contains ws v = λ v m. subst (λ (vs : List Write). Contains vs v) (sym split) (Contains-append_left earlier (w ∷ later) v m) in
      let touched : touches id slot w ≡ true = and_from (w.id == id) (has_slot slot w.place) (eq-eqb w.id id same_id) (ap (has_slot slot) same_place ∙ eq-eqb slot slot refl) in
      ⊎_elim
      (λ (e : slot_in g id slot ≡ value). subst P e (was w among id slot touched (λ z. some (sym e ∙ z))))
      (λ (p : P value). p)
      (after_writes-value slots g earlier id slot value (P value) (each (λ v. new_target v ≡ value → P value) earlier (λ v m e. subst P e (laid v (before v m) (λ z. some (sym e ∙ z))))) is)

  pub replaced-has : (id slot value : ℕ) → Contains (replaced slots g ws) (record { id = id; place = Slot slot; value = value }) → value ≢ 0 → P value
  replaced-has id slot value m some =
      let r = is-replaced slots g ws (record { id = id; place = Slot slot; value = value }) m in
      let same_id : r.write.id ≡ id = ap (λ (x : Write). x.id) r.is in
      let same_place : r.write.place ≡ Slot slot = ap (λ (x : Write). x.place) r.is in
      let same_value : value_in (applied slots g r.earlier) r.write.id r.write.place ≡ value = ap (λ (x : Write). x.value) r.is in
      let here : value_in (applied slots g r.earlier) id (Slot slot) ≡ value = subst (λ (p : Place). value_in (applied slots g r.earlier) id p ≡ value) same_place (subst (λ (i : ℕ). value_in (applied slots g r.earlier) i r.write.place ≡ value) same_id same_value) in
      slot-has r.earlier r.later r.write id slot value r.split same_id same_place here some

-- ---- what the tables keep of a client's transaction

among-take : (n : ℕ) (xs : List Write) (x : Write) → Contains (take n xs) x → Contains xs x
among-take n xs x m = subst (λ (ys : List Write). Contains ys x) (take-append-drop n xs) (Contains-append_left (take n xs) (drop n xs) x m)

module _ (slots : ℕ) (c : Core) (s : IsSound c) (pass : ℕ) (kept : Running) (t : ActiveTransaction) (found : transaction_of c.moment.state pass ≡ Some t) (runs : IsRunning slots c.moment.state.committed kept t (c.moment.undone pass)) where
  active : IsActive c (pass, t)
  active = transaction-active c.moment.state s.state pass t found

  among-replaced : (x : Write) → Contains kept.replaced x → Contains (replaced slots c.moment.state.committed t.writes) x
  among-replaced x m = among-take _ (replaced slots c.moment.state.committed t.writes) x (subst (λ (ys : List Write). Contains ys x) runs.replaced m)

  -- the client holds the object, and names what was in the slot
  pub replaced-held : (x : Write) → Contains kept.replaced x → holds x.id t ≡ true
  replaced-held x m =
      let r = is-replaced slots c.moment.state.committed t.writes x (among-replaced x m) in
      let among : Contains t.writes r.write = subst (λ (vs : List Write). Contains vs r.write) (sym r.split) (Contains-append_right r.earlier (r.write ∷ r.later) r.write (Contains-here r.write r.later)) in
      subst (λ (i : ℕ). holds i t ≡ true) (ap (λ (x : Write). x.id) r.is) (writes-held c s pass t found r.write among)

  pub replaced-named : (id slot value : ℕ) → Contains kept.replaced (record { id = id; place = Slot slot; value = value }) → value ≢ 0 → names c.refs pass value ≡ true
  replaced-named id slot value m some =
      replaced-has slots c.moment.state.committed t.writes (λ x. names c.refs pass x ≡ true) (λ w k. s.new_named (pass, t) active w k) (λ w k. s.old_named (pass, t) active w k) id slot value
      (among-replaced (record { id = id; place = Slot slot; value = value }) m) some
