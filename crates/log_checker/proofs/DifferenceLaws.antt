-- The least difference of what two roots reach is that of the graphs.
use Rattle.std.proofs.Common.{◌≡◌, ℕ, List, Option, Some, None, subst}
use Rattle.std.specs.Prelude.{◌↔◌, Contains}
use Rattle.plain_model.specs.declared.object.Object.{Object}
use Rattle.log_checker.specs.Differences.{IsReached, HaveSame, AgreeAt, IsDifference, AgreeIn, IsApart}

module _ (g h : List Object) (xs ys : List ℕ) (left : (id : ℕ) → Contains xs id ↔ IsReached g id) (right : (id : ℕ) → Contains ys id ↔ IsReached h id) where
  agree : (id : ℕ) → AgreeIn (HaveSame g h) xs ys id → AgreeAt g h id
  agree id a = record {
    both = (λ r. (right id).0 (a.both.0 ((left id).1 r)), λ r. (left id).0 (a.both.1 ((right id).1 r)));
    object = λ r. a.passed ((left id).1 r);
  }

  agree_listed : (id : ℕ) → AgreeAt g h id → AgreeIn (HaveSame g h) xs ys id
  agree_listed id a = record {
    both = (λ c. (right id).1 (a.both.0 ((left id).0 c)), λ c. (left id).1 (a.both.1 ((right id).0 c)));
    passed = λ c. a.object ((left id).0 c);
  }

  pub differs : (o : Option ℕ) → IsApart (HaveSame g h) xs ys o → IsDifference g h o
  differs None a = λ id. agree id (a id)
  differs (Some d) a = record { differ = λ b. a.differ (agree_listed d b); least = λ x l. agree x (a.least x l) }

-- so it is with lists that are these
pub differs_as : (g h a b : List Object) (xs ys us vs : List ℕ) → a ≡ g → b ≡ h → us ≡ xs → vs ≡ ys
    → ((id : ℕ) → Contains xs id ↔ IsReached g id) → ((id : ℕ) → Contains ys id ↔ IsReached h id) → (o : Option ℕ) → IsApart (HaveSame a b) us vs o → IsDifference g h o
differs_as g h a b xs ys us vs one other first second left right o apart =
    differs g h xs ys left right o
    (subst (λ (l : List Object). IsApart (HaveSame l h) xs ys o) one
    (subst (λ (l : List Object). IsApart (HaveSame a l) xs ys o) other
    (subst (λ (l : List ℕ). IsApart (HaveSame a b) l ys o) first
    (subst (λ (l : List ℕ). IsApart (HaveSame a b) us l o) second apart))))
