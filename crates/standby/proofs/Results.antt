-- What holds of a result, carried over.
use Rattle.std.proofs.Common.{◌≡◌, sym, ap, ◌∙◌, refl}
use Rattle.std.specs.Prelude.{Option, Some, None, Result, Ok, Err, IsErrOf, IsErrAnd}

pub none_from : {X : Type 0} (o : Option X) → ((x : X) → o ≡ Some x → ⊥) → o ≡ None
none_from (Some x) h = absurd (h x refl)
none_from None h = refl

abbrev error_of : {T E : Type 0} → E → Result T E → E
error_of f (Ok t) = f
error_of f (Err e) = e

-- that is the error, whatever the value would be
pub error_is : {T E : Type 0} (e x : E) → IsErrOf {T = T} (Err e) x → e ≡ x
error_is e x is = ap (error_of e) is

pub is_error : {T E : Type 0} (e x : E) → e ≡ x → IsErrOf {T = T} (Err e) x
is_error {T} {E} e x is = ap (λ (y : E). let r : Result T E = Err y in r) is

pub same_error : {T U E : Type 0} (e x : E) → IsErrOf {T = T} (Err e) x → IsErrOf {T = U} (Err e) x
same_error e x is = is_error e x (error_is e x is)

-- the error of a call is that of the one that handed it on
pub handed : {T U E : Type 0} (r : Result T E) (f x : E) → IsErrOf r x → IsErrAnd r (λ e. e ≡ f) → IsErrOf {T = U} (Err f) x
handed (Ok t) f x is h = absurd cc
handed (Err e) f x is h = is_error f x (sym h ∙ error_is e x is)
