-- There are fewer queued objects than ids, since the root isn't among them.
use Rattle.std.proofs.Common.{◌≡◌, ℕ, suc, ◌+◌, ◌<◌, true, List, ◌∷◌, [], length, get_or, eqb, refl, sym, ◌∙◌, subst, arith, ne_eqb, ⊎_elim}
use Rattle.std.specs.Prelude.{Contains}
use Rattle.std.specs.List.{IsDistinct}
use Rattle.std.proofs.lemmas.Bool.{eqb-true}
use Rattle.std.proofs.lemmas.List.{get_or_default}
use Rattle.std.proofs.lemmas.Map.Keys.{IsDistinct-from_apart}
use Rattle.std.proofs.lemmas.Map.Steps.{length-le_from_distinct_below}
use Rattle.std.proofs.lemmas.Map.Views.{Contains-from_any}
use Rattle.plain_model.specs.Graphs.{root}
use Rattle.cell_model.specs.Cells.{is_live}
use Rattle.store_model.specs.Core.{Core}
use Rattle.store_model.specs.Sound.{IsOnce, IsSound, start, as_root}
use Rattle.cell_model.proofs.EditLaws.{live-within, live-there}
use Rattle.store_model.proofs.OnceLaws.{once-one, once-append, only-one}
use Rattle.store_model.proofs.StepLaws.{Contains-cons}

pub once-distinct : (xs : List ℕ) → IsOnce xs → IsDistinct eqb xs
once-distinct xs once = IsDistinct-from_apart eqb xs (λ i j d less l. ne_eqb (get_or xs i d) (get_or xs j d) (λ e.
    let same : i ≡ j = once i j (omega (arith, less, l)) l (get_or_default xs i 0 d (omega (arith, less, l)) ∙ e ∙ get_or_default xs j d 0 l) in
    omega (arith, same, less)))

-- an id before others
pub once-cons : (x : ℕ) (xs : List ℕ) → IsOnce xs → (Contains xs x → ⊥) → IsOnce (x ∷ xs)
once-cons x xs once none = once-append (x ∷ []) xs (once-one x) once (λ y m n. none (subst (λ z. Contains xs z) (sym (only-one x y m)) n))

-- ids that stand once in a list, each below n, are at most n
below-few : (xs : List ℕ) (n : ℕ) → IsOnce xs → ((x : ℕ) → Contains xs x → x < n) → length xs < n + 1
below-few xs n once below =
    let most = length-le_from_distinct_below xs n (once-distinct xs once) (λ q there. below q (Contains-from_any eqb-true q xs there)) in
    omega (arith, most)

module _ (c : Core) (s : IsSound c) where
  root-live : is_live c.cells root ≡ true
  root-live = (s.kept root (start root (as_root refl))).live

  within : (id : ℕ) → is_live c.cells id ≡ true → id < suc c.moment.state.ids
  within id l = let inside = live-within c.cells id l in omega (arith, inside, s.consistent.sized)

  once-all : IsOnce (0 ∷ root ∷ c.queue)
  once-all =
      once-cons 0 (root ∷ c.queue) (once-cons root c.queue s.queue_once (λ m. (s.queued root m).1 refl)) (λ m.
      ⊎_elim
      (λ (e : root ≡ 0). omega (arith, e))
      (λ (n : Contains c.queue 0). live-there c.cells 0 s.consistent.exact.none (s.queued 0 n).0 refl)
      (Contains-cons root c.queue 0 m))

  below-all : (x : ℕ) → Contains (0 ∷ root ∷ c.queue) x → x < suc c.moment.state.ids
  below-all x m =
      ⊎_elim
      (λ (e : 0 ≡ x). omega (arith, e))
      (λ (n : Contains (root ∷ c.queue) x). ⊎_elim
      (λ (e : root ≡ x). subst (λ y. y < suc c.moment.state.ids) e (within root root-live))
      (λ (q : Contains c.queue x). within x (s.queued x q).0)
      (Contains-cons root c.queue x n))
      (Contains-cons 0 (root ∷ c.queue) x m)

pub few-queued : (c : Core) → IsSound c → length c.queue < c.moment.state.ids
few-queued c s = let most = below-few (0 ∷ root ∷ c.queue) (suc c.moment.state.ids) (once-all c s) (below-all c s) in omega (arith, most)
