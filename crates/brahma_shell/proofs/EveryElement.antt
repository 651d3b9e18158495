-- What holds of each of a list's elements.
use Rattle.std.proofs.Common.{List, [], ◌∷◌, ◌++◌}
use Rattle.std.specs.List.{AllByRecursion}

pub every-push : {X : Type 0} (P : X → Type 0) (xs : List X) (x : X) → AllByRecursion P xs → P x → AllByRecursion P (xs ++ x ∷ [])
every-push P [] x a p = (p, tt)
every-push P (y ∷ xs) x a p = (a.0, every-push P xs x a.1 p)

pub every-join : {X : Type 0} (P : X → Type 0) (xs : List X) (x : X) (ys : List X) → AllByRecursion P xs → P x → AllByRecursion P ys → AllByRecursion P (xs ++ x ∷ ys)
every-join P [] x ys a p b = (p, b)
every-join P (y ∷ xs) x ys a p b = (a.0, every-join P xs x ys a.1 p b)

pub every-first : {X : Type 0} (P : X → Type 0) (xs : List X) (x : X) (ys : List X) → AllByRecursion P (xs ++ x ∷ ys) → AllByRecursion P xs
every-first P [] x ys a = tt
every-first P (y ∷ xs) x ys a = (a.0, every-first P xs x ys a.1)

pub every-one : {X : Type 0} (P : X → Type 0) (xs : List X) (x : X) (ys : List X) → AllByRecursion P (xs ++ x ∷ ys) → P x
every-one P [] x ys a = a.0
every-one P (y ∷ xs) x ys a = every-one P xs x ys a.1

pub every-rest : {X : Type 0} (P : X → Type 0) (xs : List X) (x : X) (ys : List X) → AllByRecursion P (xs ++ x ∷ ys) → AllByRecursion P ys
every-rest P [] x ys a = a.1
every-rest P (y ∷ xs) x ys a = every-rest P xs x ys a.1
