-- What the replies of a journal are not.
use Rattle.std.proofs.Common.{◌≡◌, ◌≢◌, ℕ, List, [], ◌∷◌, map, Bool, true, false, sym, ap, ◌∙◌}
use Rattle.std.specs.Result.{is_err}
use Rattle.std.specs.Prelude.{Result, Ok, Err, OnOk, IfOk}
use Rattle.std.specs.List.{AllByRecursion}
use Rattle.plain_model.specs.declared.calls.Call.{Call as TransactionCall}
use Rattle.plain_model.specs.declared.calls.Reply.{Reply}
use Rattle.plain_model.specs.Machine.{State, step}
use Rattle.plain_model.proofs.StepLaws.{step-plain, is_plain}

-- ---- out of memory and a full history are no replies of the machine

pub never_memory : (s : State) (pass : ℕ) (call : TransactionCall) (reply : Reply) → reply ≡ (step s pass call).0 → reply ≢ Rattle.plain_model.specs.declared.calls.Reply.TheVariants.Memory
never_memory s pass call reply e f =
    let p : is_plain reply ≡ true = ap is_plain e ∙ step-plain s pass call in
    let q : false ≡ true = sym (ap is_plain f) ∙ p in
    cc

pub never_full : (s : State) (pass : ℕ) (call : TransactionCall) (reply : Reply) → reply ≡ (step s pass call).0 → reply ≢ Rattle.plain_model.specs.declared.calls.Reply.TheVariants.TraceFull
never_full s pass call reply e f =
    let p : is_plain reply ≡ true = ap is_plain e ∙ step-plain s pass call in
    let q : false ≡ true = sym (ap is_plain f) ∙ p in
    cc

pub on_ok : {T E : Type 0} {P : Type 0} (r : Result T E) (b : Bool) → b ≡ is_err r → b ≡ false → OnOk r P → P
on_ok (Ok x) b e f h = h
on_ok (Err x) b e f h = absurd (cc)

pub if_ok : {T E : Type 0} (r : Result T E) (P Q : T → Type 0) → ((x : T) → P x → Q x) → IfOk r P → IfOk r Q
if_ok (Ok x) P Q f h = f x h
if_ok (Err e) P Q f h = h

-- what holds of all of f's values holds of all items so
pub each-map : {X Y : Type 0} (P : Y → Type 0) (f : X → Y) (xs : List X) → AllByRecursion P (map f xs) → AllByRecursion (λ x. P (f x)) xs
each-map P f [] a = tt
each-map P f (x ∷ xs) a = (a.0, each-map P f xs a.1)

pub each-unmap : {X Y : Type 0} (P : Y → Type 0) (f : X → Y) (xs : List X) → AllByRecursion (λ x. P (f x)) xs → AllByRecursion P (map f xs)
each-unmap P f [] a = tt
each-unmap P f (x ∷ xs) a = (a.0, each-unmap P f xs a.1)
