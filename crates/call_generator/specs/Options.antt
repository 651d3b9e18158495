-- What the words after `gen` ask: three options, each given once with its value, as `--NAME VALUE` or `--NAME=VALUE`, in any
-- order. A last `--` may end them.
use Rattle.std.specs.Prelude.{ℕ, ◌*◌, ◌==◌, ◌||◌, Bool, nat_le, if◌then◌else◌, List, [], ◌∷◌, map, Option, Some, None, option_and_then, option_map, bytes_eq, codes}
use Rattle.std.specs.List.{list_any, list_all, filter, before_first, after_first}
use Rattle.script_lines.specs.Numbers.{seed_of, clients_of, transactions_of}
use Rattle.call_generator.specs.declared.options.Asked.{Asked}

-- ---- words

-- an option: its name and its value
abbrev pub Given : Type 0
Given = List ℕ × List ℕ

-- whether the byte is `=`
abbrev pub is_equals : ℕ → Bool
is_equals byte = byte == 61

-- a word with `=` is an option with its value after the first one
abbrev pub split : List ℕ → Given
split word = (before_first is_equals word, after_first is_equals word)

abbrev pub none_behind : List (List ℕ) → Option (List Given)
none_behind [] = Some []
none_behind (word ∷ words) = None

-- the options that the words give. A word without `=` is the name of one, and the word after it is its value, whatever that is;
-- after `--` none may stand
abbrev pub options_of : Option (List ℕ) → List (List ℕ) → Option (List Given)
options_of None [] = Some []
options_of None (word ∷ words) =
    if bytes_eq word (codes "--") then none_behind words
    else if list_any is_equals word then option_map (λ more. split word ∷ more) (options_of None words)
    else options_of (Some word) words
options_of (Some name) [] = None
options_of (Some name) (value ∷ words) = option_map (λ more. (name, value) ∷ more) (options_of None words)

-- ---- what they ask

-- whether the word is the name of one of the three options
abbrev pub is_name : List ℕ → Bool
is_name name = bytes_eq name (codes "--seed") || (bytes_eq name (codes "--clients") || bytes_eq name (codes "--txns"))

-- the values that an option is given
abbrev pub values_of : List ℕ → List Given → List (List ℕ)
values_of name options = map (λ o. o.1) (filter (λ o. bytes_eq o.0 name) options)

-- the one item of a list
abbrev pub only : List (List ℕ) → Option (List ℕ)
only [] = None
only (value ∷ []) = Some value
only (value ∷ other ∷ values) = None

-- the three numbers, where the clients have at most 2,000 transactions in all
abbrev pub asked_with : Option ℕ → Option ℕ → Option ℕ → Option Asked
asked_with (Some seed) (Some clients) (Some transactions) = if nat_le (clients * transactions) 2000 then Some (record { seed = seed; clients = clients; transactions = transactions }) else None
asked_with seed clients transactions = None

-- what three values ask
abbrev pub asked_for : Option (List ℕ) → Option (List ℕ) → Option (List ℕ) → Option Asked
asked_for seed clients transactions = asked_with (option_and_then seed_of seed) (option_and_then clients_of clients) (option_and_then transactions_of transactions)

-- each option is given once, and no other
abbrev pub asked_by : List Given → Option Asked
asked_by options = if list_all (λ o. is_name o.0) options then asked_for (only (values_of (codes "--seed") options)) (only (values_of (codes "--clients") options)) (only (values_of (codes "--txns") options)) else None

-- what the words after `gen` ask, where they ask something
abbrev pub asked_of : List (List ℕ) → Option Asked
asked_of words = option_and_then asked_by (options_of None words)
