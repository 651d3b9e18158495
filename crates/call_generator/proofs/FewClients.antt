-- What is asked has at most 64 clients.
use Rattle.std.proofs.Common.{ℕ, ◌≡◌, ◌≤◌, Bool, true, false, ◌&&◌, ◌*◌, if◌then◌else◌, nat_le, nat_lt, List, Option, Some, None, refl, option_and_then, codes, arith}
use Rattle.std.specs.Prelude.{IfSome}
use Rattle.std.specs.List.{list_all}
use Rattle.std.proofs.lemmas.Bool.{ltb-true}
use Rattle.script_lines.specs.Numbers.{number_of, seed_of, clients_of, transactions_of}
use Rattle.call_generator.specs.Options.{Given, asked_by, asked_for, asked_of, asked_with, is_name, only, options_of, values_of}
use Rattle.call_generator.specs.declared.options.Asked.{Asked}

both : (a b : Bool) → (a && b) ≡ true → b ≡ true
both true b e = e
both false b e = absurd (cc (e))

within : (o : Option ℕ) → IfSome (option_and_then (λ n. if nat_le 1 n && nat_lt n 65 then Some n else None) o) (λ n. n ≤ 64)
within None = tt
within (Some n) = one (nat_le 1 n && nat_lt n 65) refl
  where
    one : (b : Bool) → (nat_le 1 n && nat_lt n 65) ≡ b → IfSome (if b then Some n else None) (λ k. k ≤ 64)
    one true e = let low = ltb-true n 65 (both (nat_le 1 n) (nat_lt n 65) e) in omega (arith, low)
    one false e = tt

clients-few : (o : Option (List ℕ)) → IfSome (option_and_then clients_of o) (λ n. n ≤ 64)
clients-few None = tt
clients-few (Some value) = within (number_of value)

if-asked : (b : Bool) (a : Asked) → a.clients ≤ 64 → IfSome (if b then Some a else None) (λ x. x.clients ≤ 64)
if-asked true a h = h
if-asked false a h = tt

with-few : (s c t : Option ℕ) → IfSome c (λ n. n ≤ 64) → IfSome (asked_with s c t) (λ a. a.clients ≤ 64)
with-few None c t h = tt
with-few (Some s) None t h = tt
with-few (Some s) (Some c) None h = tt
with-few (Some s) (Some c) (Some t) h = if-asked (nat_le (c * t) 2000) (record { seed = s; clients = c; transactions = t }) h

if-few : (b : Bool) (o : Option Asked) → IfSome o (λ a. a.clients ≤ 64) → IfSome (if b then o else None) (λ a. a.clients ≤ 64)
if-few true o h = h
if-few false o h = tt

by-few : (options : List Given) → IfSome (asked_by options) (λ a. a.clients ≤ 64)
by-few options =
    let clients = only (values_of (codes "--clients") options) in
    if-few (list_all (λ o. is_name o.0) options) (asked_for (only (values_of (codes "--seed") options)) clients (only (values_of (codes "--txns") options)))
    (with-few (option_and_then seed_of (only (values_of (codes "--seed") options))) (option_and_then clients_of clients) (option_and_then transactions_of (only (values_of (codes "--txns") options))) (clients-few clients))

pub asked-few : (words : List (List ℕ)) → IfSome (asked_of words) (λ a. a.clients ≤ 64)
asked-few words = by (options_of None words)
  where
    by : (o : Option (List Given)) → IfSome (option_and_then asked_by o) (λ a. a.clients ≤ 64)
    by None = tt
    by (Some options) = by-few options
