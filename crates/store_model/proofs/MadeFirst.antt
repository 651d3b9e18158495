-- A transaction makes an object before it writes to it.
use Rattle.std.proofs.Common.{◌≡◌, ◌≢◌, List, [], ◌∷◌, ◌++◌, false, refl, sym}
use Rattle.std.specs.List.{AllByRecursion}
use Rattle.plain_model.specs.declared.write.Place.{Place}
use Rattle.plain_model.specs.declared.write.Place.TheVariants.{Slot, Payload, Whole}
use Rattle.plain_model.specs.declared.write.Write.{Write}
use Rattle.plain_model.specs.History.{can_be_undone}
use Rattle.store_model.specs.Core.{IsMadeFirst}
use Rattle.store_model.proofs.Lists.{each-append, each-more}

-- one more write, which makes no object that was written to
pub made_first-push : (ws : List Write) (w : Write) → IsMadeFirst ws → (w.place ≡ Whole → AllByRecursion (λ v. v.id ≢ w.id) ws) → IsMadeFirst (ws ++ w ∷ [])
made_first-push [] w h n = (tt, tt)
made_first-push (v ∷ vs) w h n = (
  each-append (λ x. x.place ≡ Whole → x.id ≢ v.id) vs (w ∷ []) h.0 ((λ p q. (n p).0 (sym q)), tt),
  made_first-push vs w h.1 (λ p. (n p).1),
)

-- a write that needs no undoing makes an object
pub place-whole : (p : Place) → can_be_undone (record { id = 0; place = p; value = 0 }) ≡ false → p ≡ Whole
place-whole Whole h = refl
place-whole (Slot k) h = cc
place-whole Payload h = cc

-- so after a write to an object, nothing makes it
pub made_first-later : (first : List Write) (w : Write) (later : List Write) → IsMadeFirst (first ++ w ∷ later) → AllByRecursion (λ v. can_be_undone v ≡ false → v.id ≢ w.id) later
made_first-later [] w later h = each-more (λ v. v.place ≡ Whole → v.id ≢ w.id) (λ v. can_be_undone v ≡ false → v.id ≢ w.id) (λ v f e. f (place-whole v.place e)) later h.0
made_first-later (v ∷ vs) w later h = made_first-later vs w later h.1
