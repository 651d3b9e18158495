-- The three options by their names, and what they ask one after another.
use Rattle.std.proofs.Common.{◌≡◌, ap, refl, sym, subst, ℕ, ◌^◌, Bool, true, false, cond, ◌&&◌, if◌then◌else◌, nat_le, List, [], ◌∷◌, length, Option, Some, None, option_and_then, codes, bytes_eq}
use Rattle.std.specs.List.{cons_option, list_all}
use Rattle.clap.specs.Words.{Text}
use Rattle.script_lines.specs.Numbers.{is_number, number_within, seed_of, clients_of, transactions_of}
use Rattle.call_generator.specs.Options.{Given, is_name, values_of, only, asked_with, asked_for, asked_by}
use Rattle.call_generator.specs.declared.options.Asked.{Asked}

pub data Name : Type 0 where
  of_seed : Name
  of_clients : Name
  of_txns : Name

abbrev pub id_of : Name → Text
id_of of_seed = codes "seed"
id_of of_clients = codes "clients"
id_of of_txns = codes "txns"

-- the option's word
abbrev pub word_of : Name → Text
word_of of_seed = codes "--seed"
word_of of_clients = codes "--clients"
word_of of_txns = codes "--txns"

pub word-id : (n : Name) → word_of n ≡ 45 ∷ 45 ∷ id_of n
word-id of_seed = refl
word-id of_clients = refl
word-id of_txns = refl

pub named : (n : Name) → is_name (word_of n) ≡ true
named of_seed = refl
named of_clients = refl
named of_txns = refl

-- ---- the values that were read so far

abbrev pub Fields : Type 0
Fields = Name → Option Text

abbrev pub no_fields : Fields
no_fields n = None

abbrev pub put : Name → Text → Fields → Fields
put n v f m = cond (bytes_eq (id_of n) (id_of m)) (Some v) (f m)

abbrev pub are_named : List Given → Bool
are_named more = list_all (λ o. is_name o.0) more

-- the values of an option, with the one that was read
abbrev pub all_values : Fields → Name → List Given → List Text
all_values f n more = cons_option (f n) (values_of (word_of n) more)

abbrev pub ask : Fields → List Given → Option Asked
ask f more = if are_named more then asked_for (only (all_values f of_seed more)) (only (all_values f of_clients more)) (only (all_values f of_txns more)) else None

pub ask-all : (more : List Given) → ask no_fields more ≡ asked_by more
ask-all more = refl

-- ---- nothing is asked where one number is missing

lacks-1 : (x y z : Option ℕ) → x ≡ None → asked_with x y z ≡ None
lacks-1 None y z e = refl
lacks-1 (Some x) y z e = absurd (cc (e))

lacks-2 : (x y z : Option ℕ) → y ≡ None → asked_with x y z ≡ None
lacks-2 None y z e = refl
lacks-2 (Some x) None z e = refl
lacks-2 (Some x) (Some y) z e = absurd (cc (e))

lacks-3 : (x y z : Option ℕ) → z ≡ None → asked_with x y z ≡ None
lacks-3 None y z e = refl
lacks-3 (Some x) None z e = refl
lacks-3 (Some x) (Some y) None e = refl
lacks-3 (Some x) (Some y) (Some z) e = absurd (cc (e))

unless : (b : Bool) (o : Option Asked) → o ≡ None → (if b then o else None) ≡ None
unless true o e = e
unless false o e = refl

-- a value is missing, or is no number, or there are two
abbrev pub Lacks : (Text → Option ℕ) → List Text → Type 0
Lacks g values = option_and_then g (only values) ≡ None

abbrev pub reader : Name → Text → Option ℕ
reader of_seed = seed_of
reader of_clients = clients_of
reader of_txns = transactions_of

pub lacks-one : (n : Name) (f : Fields) (more : List Given) → Lacks (reader n) (all_values f n more) → ask f more ≡ None
lacks-one of_seed f more h = unless (are_named more) _ (lacks-1 _ _ _ h)
lacks-one of_clients f more h = unless (are_named more) _ (lacks-2 _ _ _ h)
lacks-one of_txns f more h = unless (are_named more) _ (lacks-3 _ _ _ h)

-- the values of the option that is next
pub next-values : (n : Name) (v : Text) (more : List Given) → values_of (word_of n) ((word_of n, v) ∷ more) ≡ v ∷ values_of (word_of n) more
next-values of_seed v more = refl
next-values of_clients v more = refl
next-values of_txns v more = refl

none-behind : (g : Text → Option ℕ) (o : Option Text) → o ≡ None → Lacks g (cons_option o [])
none-behind g None e = refl
none-behind g (Some v) e = absurd (cc (e))

pub ask-end : (n : Name) (f : Fields) → f n ≡ None → ask f [] ≡ None
ask-end n f e = lacks-one n f [] (none-behind (reader n) (f n) e)

two-values : (g : Text → Option ℕ) (o : Option Text) (u v : Text) (vs : List Text) → o ≡ Some u → Lacks g (cons_option o (v ∷ vs))
two-values g None u v vs e = absurd (cc (e))
two-values g (Some w) u v vs e = refl

pub ask-twice : (n : Name) (u v : Text) (f : Fields) (more : List Given) → f n ≡ Some u → ask f ((word_of n, v) ∷ more) ≡ None
ask-twice n u v f more e = lacks-one n f ((word_of n, v) ∷ more) (subst (λ (vs : List Text). Lacks (reader n) (cons_option (f n) vs)) (sym (next-values n v more)) (two-values (reader n) (f n) u v (values_of (word_of n) more) e))

bad-value : (g : Text → Option ℕ) (o : Option Text) (v : Text) (vs : List Text) → g v ≡ None → Lacks g (cons_option o (v ∷ vs))
bad-value g None v [] h = h
bad-value g None v (w ∷ ws) h = refl
bad-value g (Some u) v vs h = refl

-- the text is no number
abbrev pub IsBad : Text → Type 0
IsBad v = (n : Name) → reader n v ≡ None

pub ask-bad : (n : Name) (v : Text) (f : Fields) (more : List Given) → IsBad v → ask f ((word_of n, v) ∷ more) ≡ None
ask-bad n v f more bad = lacks-one n f ((word_of n, v) ∷ more) (subst (λ (vs : List Text). Lacks (reader n) (cons_option (f n) vs)) (sym (next-values n v more)) (bad-value (reader n) (f n) v (values_of (word_of n) more) (bad n)))

pub ask-unknown : (name v : Text) (f : Fields) (more : List Given) → is_name name ≡ false → ask f ((name, v) ∷ more) ≡ None
ask-unknown name v f more e = rw e refl

-- ---- an option that is read

pub values-put : (n m : Name) (v : Text) (f : Fields) (more : List Given) → f n ≡ None → all_values f m ((word_of n, v) ∷ more) ≡ all_values (put n v f) m more
values-put of_seed of_seed v f more e = rw e refl
values-put of_clients of_clients v f more e = rw e refl
values-put of_txns of_txns v f more e = rw e refl
values-put of_seed of_clients v f more e = refl
values-put of_seed of_txns v f more e = refl
values-put of_clients of_seed v f more e = refl
values-put of_clients of_txns v f more e = refl
values-put of_txns of_seed v f more e = refl
values-put of_txns of_clients v f more e = refl

pub named-more : (n : Name) (v : Text) (more : List Given) → are_named ((word_of n, v) ∷ more) ≡ are_named more
named-more n v more = ap (λ b. b && are_named more) (named n)

pub ask-put : (n : Name) (v : Text) (f : Fields) (more : List Given) → f n ≡ None → ask f ((word_of n, v) ∷ more) ≡ ask (put n v f) more
ask-put n v f more e = rw (named-more n v more, values-put n of_seed v f more e, values-put n of_clients v f more e, values-put n of_txns v f more e) refl

-- ---- a text that begins with a hyphen is no number

last-false : (b : Bool) → (b && false) ≡ false
last-false true = refl
last-false false = refl

no-number : (rest : Text) → is_number (45 ∷ rest) ≡ false
no-number rest = last-false (nat_le 1 (length (45 ∷ rest)) && nat_le (length (45 ∷ rest)) 20)

none-within : (low limit : ℕ) (rest : Text) → number_within low limit (45 ∷ rest) ≡ None
none-within low limit rest = rw (no-number rest) refl

pub hyphen-bad : (rest : Text) → IsBad (45 ∷ rest)
hyphen-bad rest of_seed = none-within 0 (2 ^ 64) rest
hyphen-bad rest of_clients = none-within 1 65 rest
hyphen-bad rest of_txns = none-within 0 1001 rest
