-- What clap does after the last word: each of the three options has to be there.
use Rattle.std.proofs.Common.{◌≡◌, ◌∙◌, ap, refl, Bool, true, false, ◌||◌, not, if◌then◌else◌, List, [], ◌∷◌, None, is_some}
use Rattle.clap.specs.Words.{Row}
use Rattle.clap.specs.Walk.{finished, has_row, settled_rows, with_default}
use Rattle.clap.specs.Faults.{check_fault, default_fault, defaults_fault, settle_fault}
use Rattle.clap.specs.Kinds.{Kinds}
use Rattle.clap.specs.declared.error.kind.ErrorKind.TheVariants.{MissingRequiredArgument}
use Rattle.call_generator.proofs.OptionNames.{Name, of_seed, of_clients, of_txns, id_of, Fields}
use Rattle.call_generator.proofs.OptionRows.{Have, rule_at, rules, given-field}
use Rattle.call_generator.proofs.WordTurns.{Pending, end_fault, held, past, shape, some-fails, Fails}

either : (b : Bool) (x : List Row) → (if b then x else x) ≡ x
either true x = refl
either false x = refl

default-same : (n : Name) (rows : List Row) → with_default rows (rule_at n) ≡ rows
default-same n rows = either (has_row (id_of n) rows) rows

defaults-same : (rows : List Row) → with_default (with_default (with_default rows (rule_at of_seed)) (rule_at of_clients)) (rule_at of_txns) ≡ rows
defaults-same rows =
    default-same of_txns _ ∙ default-same of_clients _ ∙ default-same of_seed rows

pub finished-is : (rows : List Row) (pending : Pending) → finished rules (held rows pending) ≡ settled_rows rules pending rows
finished-is rows pending = defaults-same (settled_rows rules pending rows)

unless-true : (b : Bool) (k : Kinds) → (if b || true then [] else k) ≡ []
unless-true true k = refl
unless-true false k = refl

no-default : (n : Name) (rows : List Row) → default_fault rows (rule_at n) ≡ []
no-default n rows = unless-true (has_row (id_of n) rows) _

no-defaults : (rows : List Row) → defaults_fault rows rules ≡ []
unfolding defaults_fault
no-defaults rows = past _ _ (no-default of_seed rows) ∙ past _ _ (no-default of_clients (with_default rows (rule_at of_seed))) ∙ past _ [] (no-default of_txns (with_default (with_default rows (rule_at of_seed)) (rule_at of_clients)))

abbrev pub missing : Bool → Bool → Bool → Kinds
missing a b c = if not a || (not b || (not c || false)) then MissingRequiredArgument ∷ [] else []

check-is : (rows : List Row) (f : Fields) → Have rows f → check_fault shape rows false ≡ missing (is_some (f of_seed)) (is_some (f of_clients)) (is_some (f of_txns))
check-is rows f h = rw (given-field of_seed rows f h, given-field of_clients rows f h, given-field of_txns rows f h) refl

pub end-is : (rows : List Row) (pending : Pending) (f : Fields) → settle_fault rules false (held rows pending) ≡ [] → Have (settled_rows rules pending rows) f
    → end_fault (held rows pending) ≡ missing (is_some (f of_seed)) (is_some (f of_clients)) (is_some (f of_txns))
end-is rows pending f settle h =
    past _ _ settle
    ∙ past _ _ (no-defaults (settled_rows rules pending rows))
    ∙ ap (λ (rs : List Row). check_fault shape rs false) (finished-is rows pending)
    ∙ check-is (settled_rows rules pending rows) f h

pub missing-fails : (n : Name) (f : Fields) → f n ≡ None → Fails (missing (is_some (f of_seed)) (is_some (f of_clients)) (is_some (f of_txns)))
missing-fails of_seed f e = rw e (some-fails MissingRequiredArgument [])
missing-fails of_clients f e = go (is_some (f of_seed))
  where
    go : (a : Bool) → Fails (missing a (is_some (f of_clients)) (is_some (f of_txns)))
    go true = rw e (some-fails MissingRequiredArgument [])
    go false = some-fails MissingRequiredArgument []
missing-fails of_txns f e = go (is_some (f of_seed)) (is_some (f of_clients))
  where
    go : (a b : Bool) → Fails (missing a b (is_some (f of_txns)))
    go true true = rw e (some-fails MissingRequiredArgument [])
    go true false = some-fails MissingRequiredArgument []
    go false b = some-fails MissingRequiredArgument []

pub none-missing : (f : Fields) → is_some (f of_seed) ≡ true → is_some (f of_clients) ≡ true → is_some (f of_txns) ≡ true → missing (is_some (f of_seed)) (is_some (f of_clients)) (is_some (f of_txns)) ≡ []
none-missing f a b c = rw (a, b, c) refl
