-- What clap holds of the three options: at most one row for each, with its value.
use Rattle.std.proofs.Common.{◌≡◌, ◌∙◌, ap, refl, Bool, true, false, cond, ◌||◌, List, [], ◌∷◌, ◌++◌, append-nil, Option, Some, None, is_some, option_map, bytes_eq, find}
use Rattle.std.specs.Option.{option_map_or}
use Rattle.clap.specs.Words.{Rule, Row, Text}
use Rattle.clap.specs.Walk.{arg_by_id, arg_by_long, at_row, has_row, more_values, reading_by, used, with_values, without}
use Rattle.clap.specs.Facts.{explicit_source}
use Rattle.clap.specs.Simple.{built, filled}
use Rattle.clap.specs.Takes.{is_given}
use Rattle.clap.specs.Faults.{use_fault}
use Rattle.clap.specs.declared.parser.matches.ValueSource.TheVariants.{CommandLine}
use Rattle.call_generator.specs.GenCommand.{gen_app, option_rule}
use Rattle.call_generator.proofs.OptionNames.{Name, of_seed, of_clients, of_txns, id_of, Fields, no_fields, put}

-- what the command makes of the option
abbrev pub rule_at : Name → Rule
rule_at n = filled (option_rule (id_of n))

abbrev pub rules : List Rule
rules = rule_at of_seed ∷ rule_at of_clients ∷ rule_at of_txns ∷ []

pub rules-are : (built gen_app).top.rules ≡ rules
rules-are = refl

pub by-id : (n : Name) → arg_by_id rules (id_of n) ≡ Some (rule_at n)
by-id of_seed = refl
by-id of_clients = refl
by-id of_txns = refl

pub by-long : (n : Name) → arg_by_long rules (id_of n) ≡ Some (rule_at n)
by-long of_seed = refl
by-long of_clients = refl
by-long of_txns = refl

-- ---- rows

abbrev pub row_at : Name → Text → Row
row_at n v = record {
  id = id_of n;
  values = v ∷ [];
  count = None;
  source = Some CommandLine;
  reading = reading_by (rule_at n);
}

abbrev pub found : Name → List Row → Option Row
found n rows = find (λ r. bytes_eq r.id (id_of n)) rows

-- the rows have what was read
abbrev pub Have : List Row → Fields → Type 0
Have rows f = (n : Name) → found n rows ≡ option_map (row_at n) (f n)

pub have-none : Have [] no_fields
have-none n = refl

split-any : (b a : Bool) (r : Row) (o : Option Row) → a ≡ is_some o → (b || a) ≡ is_some (cond b (Some r) o)
split-any true a r o e = refl
split-any false a r o e = e

has-found : (n : Name) (rows : List Row) → has_row (id_of n) rows ≡ is_some (found n rows)
has-found n [] = refl
has-found n (r ∷ rows) = split-any (bytes_eq r.id (id_of n)) (has_row (id_of n) rows) r (found n rows) (has-found n rows)

some-row : (n : Name) (o : Option Text) → is_some (option_map (row_at n) o) ≡ is_some o
some-row n None = refl
some-row n (Some v) = refl

pub has-field : (n : Name) (rows : List Row) (f : Fields) → Have rows f → has_row (id_of n) rows ≡ is_some (f n)
has-field n rows f h = has-found n rows ∙ ap is_some (h n) ∙ some-row n (f n)

given-row : (n : Name) (o : Option Text) → option_map_or (λ (r : Row). explicit_source r.source) (option_map (row_at n) o) false ≡ is_some o
given-row n None = refl
given-row n (Some v) = refl

pub given-field : (n : Name) (rows : List Row) (f : Fields) → Have rows f → is_given (id_of n) rows ≡ is_some (f n)
given-field n rows f h = ap (λ (o : Option Row). option_map_or (λ (r : Row). explicit_source r.source) o false) (h n) ∙ given-row n (f n)

-- ---- one more row

at-end : (id : Text) (change : Row → List Row) (missing : List Row) (rows : List Row) → has_row id rows ≡ false → at_row id change missing rows ≡ rows ++ missing
at-end id change missing [] e = refl
at-end id change missing (r ∷ rows) e = go (bytes_eq r.id id) refl (at-end id change missing rows)
  where
    go : (b : Bool) → bytes_eq r.id id ≡ b → (has_row id rows ≡ false → at_row id change missing rows ≡ rows ++ missing) → at_row id change missing (r ∷ rows) ≡ r ∷ (rows ++ missing)
    go true h rec = let bad : true ≡ false = rw h at e in absurd (cc (bad))
    go false h rec = let rest : has_row id rows ≡ false = rw h at e in rw (h, rec rest) refl

used-is : (n : Name) (v : Text) (rows : List Row) → has_row (id_of n) rows ≡ false → used (rule_at n) (v ∷ []) rows ≡ rows ++ row_at n v ∷ []
used-is n v rows e =
    let same : without (id_of n) rows ≡ rows = at-end (id_of n) (λ _. []) [] rows e ∙ append-nil rows in
    ap (λ (rs : List Row). with_values (id_of n) (reading_by (rule_at n)) CommandLine (v ∷ []) rs) same
    ∙ at-end (id_of n) (more_values CommandLine (v ∷ [])) (row_at n v ∷ []) rows e

abbrev first : Option Row → Option Row → Option Row
first None o = o
first (Some r) o = Some r

first-none : (o : Option Row) → first o None ≡ o
first-none None = refl
first-none (Some r) = refl

split-find : (b : Bool) (r : Row) (o p q : Option Row) → o ≡ first p q → cond b (Some r) o ≡ first (cond b (Some r) p) q
split-find true r o p q e = refl
split-find false r o p q e = e

found-more : (m : Name) (rows : List Row) (r : Row) → found m (rows ++ r ∷ []) ≡ first (found m rows) (cond (bytes_eq r.id (id_of m)) (Some r) None)
found-more m [] r = refl
found-more m (x ∷ rows) r = split-find (bytes_eq x.id (id_of m)) x (found m (rows ++ r ∷ [])) (found m rows) (cond (bytes_eq r.id (id_of m)) (Some r) None) (found-more m rows r)

put-found : (n m : Name) (v : Text) (f : Fields) → f n ≡ None → first (option_map (row_at m) (f m)) (cond (bytes_eq (id_of n) (id_of m)) (Some (row_at n v)) None) ≡ option_map (row_at m) (put n v f m)
put-found of_seed of_seed v f e = rw e refl
put-found of_clients of_clients v f e = rw e refl
put-found of_txns of_txns v f e = rw e refl
put-found of_seed of_clients v f e = first-none _
put-found of_seed of_txns v f e = first-none _
put-found of_clients of_seed v f e = first-none _
put-found of_clients of_txns v f e = first-none _
put-found of_txns of_seed v f e = first-none _
put-found of_txns of_clients v f e = first-none _

pub have-put : (n : Name) (v : Text) (rows : List Row) (f : Fields) → Have rows f → f n ≡ None → Have (used (rule_at n) (v ∷ []) rows) (put n v f)
have-put n v rows f h e m =
    ap (found m) (used-is n v rows (has-field n rows f h ∙ ap is_some e))
    ∙ found-more m rows (row_at n v)
    ∙ ap (λ (o : Option Row). first o (cond (bytes_eq (id_of n) (id_of m)) (Some (row_at n v)) None)) (h m)
    ∙ put-found n m v f e

-- ---- an option is used once

pub use-once : (n : Name) (v : Text) (rows : List Row) (f : Fields) → Have rows f → f n ≡ None → use_fault false (rule_at n) (v ∷ []) rows ≡ []
use-once n v rows f h e = let none : has_row (id_of n) rows ≡ false = has-field n rows f h ∙ ap is_some e in rw none refl

pub use-twice : (n : Name) (u v : Text) (rows : List Row) (f : Fields) → Have rows f → f n ≡ Some u → use_fault false (rule_at n) (v ∷ []) rows ≡ [] → ⊥
use-twice n u v rows f h e none = let some : has_row (id_of n) rows ≡ true = has-field n rows f h ∙ ap is_some e in absurd (cc (rw some at none))

pub no-value : (n : Name) (rows : List Row) → use_fault false (rule_at n) [] rows ≡ [] → ⊥
no-value n rows none = absurd (cc (none))
