-- What stands beside the map, and what names the objects of the map.
use Rattle.std.proofs.Common.{◌≡◌, ◌≢◌, ℕ, Bool, true, false, List, [], ◌∷◌, Option, refl, sym, ap, ◌∙◌, subst}
use Rattle.plain_model.specs.declared.object.Object.{Object}
use Rattle.plain_model.specs.Graphs.{root, object_at}
use Rattle.plain_model.specs.Reachable.{Reachable}
use Rattle.plain_laws.specs.Sound.{IsSoundGraph}
use Rattle.plain_map.specs.Pairs.{Pairs}
use Rattle.map_calls.specs.Maps.{IsOfMap as IsPart, IsBeside, KeepsBeside, OnlyMapNames}
use Rattle.object_map.specs.Maps.{slot_of, payload_of, IsMap}
use Rattle.object_map.specs.Changes.{IsOfMap}
use Rattle.stored_map.specs.Graphs.{is_reached, reached_in}
use Rattle.stored_map.proofs.GraphLaws.{root_reached}
use Rattle.stored_map.proofs.MapReachLaws.{map_reached}
use Rattle.stored_map.proofs.ReachLaws.{reached_is}
use Rattle.stored_map.proofs.ReachedLaws.{reached_named, reached_object, reached_has, none_reached, of_part_map, to_part_map}

-- What the root reaches beside the map it reaches in both graphs, and it is the same there. The root differs in slot 13 at most.
pub record LeavesAlone (g h : List Object) : Type 0 where
  pub stay : (x : ℕ) → Reachable g (root ∷ []) x → x ≢ root → (IsOfMap 13 (object_at g) x → ⊥) → Reachable h (root ∷ []) x × (object_at h x ≡ object_at g x)
  pub back : (x : ℕ) → Reachable h (root ∷ []) x → x ≢ root → (IsOfMap 13 (object_at h) x → ⊥) → Reachable g (root ∷ []) x × (object_at h x ≡ object_at g x)
  pub payload : payload_of (object_at h root) ≡ payload_of (object_at g root)
  pub slots : (k : ℕ) → k ≢ 13 → slot_of (object_at h root) k ≡ slot_of (object_at g root) k

pub keeps_beside : (g h : List Object) (ps qs : Pairs) → IsSoundGraph g → IsSoundGraph h → IsMap 13 g ps → IsMap 13 h qs → LeavesAlone g h → KeepsBeside (reached_in g) (reached_in h)
keeps_beside g h ps qs w v m n l =
    let here = reached_object g w root (root_reached g w.rooted) in
    let there = reached_object h v root (root_reached h v.rooted) in
    record {
      kept = λ x b. (
          let r = reached_has g w x b.there in
          let s = l.stay x r b.no_root (λ i. b.no_part (to_part_map g ps w m x i)) in
          reached_object h v x s.0 ∙ (s.1 ∙ sym (reached_object g w x r)));
      no_more = λ x b. (
          let r = reached_has h v x b.there in
          let s = l.back x r b.no_root (λ i. b.no_part (to_part_map h qs v n x i)) in
          reached_object h v x r ∙ (s.1 ∙ sym (reached_object g w x s.0)));
      payload = ap payload_of there ∙ (l.payload ∙ sym (ap payload_of here));
      slots = λ k q. ap (λ (o : Option Object). slot_of o k) there ∙ (l.slots k q ∙ sym (ap (λ (o : Option Object). slot_of o k) here));
    }

-- of what the root reaches, only the map names its objects, and the root by slot 13
abbrev pub OnlyMap : List Object → Type 0
OnlyMap g = (x k : ℕ) → Reachable g (root ∷ []) x → IsOfMap 13 (object_at g) (slot_of (object_at g x) k) → (IsOfMap 13 (object_at g) x → ⊥) → (x ≡ root) × (k ≡ 13)

module _ (g : List Object) (ps : Pairs) (w : IsSoundGraph g) (m : IsMap 13 g ps) where
  pub only_of : OnlyMapNames (reached_in g) → OnlyMap g
  only_of f x k r i n =
      let same : slot_of (object_at (reached_in g) x) k ≡ slot_of (object_at g x) k = ap (λ (o : Option Object). slot_of o k) (reached_object g w x r) in
      f x k (subst (λ y. IsPart (reached_in g) y) (sym same) (to_part_map g ps w m (slot_of (object_at g x) k) i)) (λ p. n (of_part_map g ps w m x p))

  pub only_back : OnlyMap g → OnlyMapNames (reached_in g)
  only_back f x k p n = by (is_reached g x) refl
    where
      named : IsOfMap 13 (object_at g) (slot_of (object_at (reached_in g) x) k)
      named = of_part_map g ps w m (slot_of (object_at (reached_in g) x) k) p

      none : (Reachable g (root ∷ []) x → ⊥) → ⊥
      none u =
          let zero : slot_of (object_at (reached_in g) x) k ≡ 0 = ap (λ (o : Option Object). slot_of o k) (none_reached g w x u) in
          reached_named g 0 (map_reached g w.rooted 0 (subst (λ y. IsOfMap 13 (object_at g) y) zero named)) refl

      by : (b : Bool) → is_reached g x ≡ b → (x ≡ root) × (k ≡ 13)
      by true e =
          let r = (reached_is g w x).0 e in
          let same : slot_of (object_at (reached_in g) x) k ≡ slot_of (object_at g x) k = ap (λ (o : Option Object). slot_of o k) (reached_object g w x r) in
          f x k r (subst (λ y. IsOfMap 13 (object_at g) y) same named) (λ i. n (to_part_map g ps w m x i))
      by false e = absurd (none (λ r. (let t = (reached_is g w x).1 r in absurd (cc (e, t)))))
