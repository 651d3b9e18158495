-- That clap refuses the words just where they ask nothing, but for the numbers, and that it finds in them what they give.
use Rattle.std.proofs.Common.{◌≡◌, ◌∙◌, inl, inr, ap, refl, sym, true, false, List, [], ◌∷◌, Option, Some, None, option_and_then, codes, slice_get}
use Rattle.clap.specs.Words.{Row, Text, fault_of, first_of, is_simple_and_free, is_simple, matches_of}
use Rattle.clap.specs.Walk.{idle, nothing_held}
use Rattle.clap.specs.Simple.{built}
use Rattle.clap.proofs.FaultLemmas.{leaf_fault}
use Rattle.clap.proofs.OnLiterals.{clap_on_literals}
use Rattle.call_generator.specs.GenCommand.{gen_app}
use Rattle.call_generator.specs.Options.{Given, only, asked_for, asked_of, options_of}
use Rattle.call_generator.proofs.OptionNames.{Name, of_seed, of_clients, of_txns, id_of, word_of, Fields, no_fields, are_named, all_values, ask}
use Rattle.call_generator.proofs.OptionRows.{have-none, found, row_at}
use Rattle.call_generator.proofs.WordTurns.{Fails, at, end-fails, end_rows, pending-fails, total}
use Rattle.call_generator.proofs.Decided.{Decided, no-options}
use Rattle.call_generator.proofs.LastWords.{Stage, between, behind, walk_at, awaited_at, Stands, law-end}
use Rattle.call_generator.proofs.NextWords.{law-between, law-behind}

-- the words from any stage on
law : (words : List Text) (stage : Stage) (rows : List Row) (f : Fields) → Stands stage rows f → Decided (walk_at stage rows) (awaited_at stage) words f
law [] (between pending) rows f h = law-end rows pending f h
law [] (behind n) rows f h = inl (record {
  fails = end-fails (walk_at (behind n) rows) (pending-fails n rows);
  asks = no-options f (options_of (Some (word_of n)) []) refl;
})
law (word ∷ words) (between pending) rows f h = law-between words (law words) word rows pending f h
law (word ∷ words) (behind n) rows f h = law-behind words (law words) n word rows f h

-- ---- the command

pub simple_and_free : is_simple_and_free gen_app ≡ true
unfolding clap_on_literals
simple_and_free = refl

pub simple : is_simple gen_app ≡ true
unfolding clap_on_literals
simple = refl

fault-is : (words : List Text) → fault_of gen_app words ≡ total (at idle false [] None) words
fault-is words = leaf_fault (built gen_app) nothing_held words refl

matches-are : (words : List Text) → matches_of gen_app words ≡ end_rows (at idle false [] None) words
matches-are words = refl

decided : (words : List Text) → Decided (at idle false [] None) None words no_fields
decided words = law words (between None) [] no_fields (refl, have-none)

-- what clap refuses asks nothing
pub refused-asks : (words : List Text) → Fails (fault_of gen_app words) → asked_of words ≡ None
refused-asks words h = go (decided words)
  where
    none : (o : Option (List Given)) → ((more : List Given) → o ≡ Some more → ask no_fields more ≡ None) → option_and_then (ask no_fields) o ≡ None
    none None g = refl
    none (Some more) g = g more refl

    go : Decided (at idle false [] None) None words no_fields → asked_of words ≡ None
    go (inl d) = none (options_of None words) d.asks
    go (inr d) = absurd (h (fault-is words ∙ d.passes))

first-found : (n : Name) (v : Text) (rows : List Row) → found n rows ≡ Some (row_at n v) → first_of (id_of n) rows ≡ Some v
first-found n v rows e = ap (option_and_then (λ (r : Row). slice_get r.values 0)) e

asks-values : (more : List Given) (a b c : Text) → are_named more ≡ true → only (all_values no_fields of_seed more) ≡ Some a → only (all_values no_fields of_clients more) ≡ Some b → only (all_values no_fields of_txns more) ≡ Some c
    → ask no_fields more ≡ asked_for (Some a) (Some b) (Some c)
asks-values more a b c e f g h = rw (e, f, g, h) refl

pub for-same : (a b c x y z : Option Text) → x ≡ a → y ≡ b → z ≡ c → asked_for a b c ≡ asked_for x y z
for-same a b c x y z e f g = rw (e, f, g) refl

-- what clap takes asks what it found
pub taken-asks : (words : List Text) → fault_of gen_app words ≡ [] → asked_of words ≡ asked_for (first_of (codes "seed") (matches_of gen_app words)) (first_of (codes "clients") (matches_of gen_app words)) (first_of (codes "txns") (matches_of gen_app words))
taken-asks words h = go (decided words)
  where
    go : Decided (at idle false [] None) None words no_fields → asked_of words ≡ asked_for (first_of (codes "seed") (matches_of gen_app words)) (first_of (codes "clients") (matches_of gen_app words)) (first_of (codes "txns") (matches_of gen_app words))
    go (inl d) = absurd (d.fails (sym (fault-is words) ∙ h))
    go (inr d) =
        let rows = end_rows (at idle false [] None) words in
        let seed : first_of (codes "seed") rows ≡ Some (d.given of_seed) = first-found of_seed (d.given of_seed) rows (d.rows of_seed) in
        let clients : first_of (codes "clients") rows ≡ Some (d.given of_clients) = first-found of_clients (d.given of_clients) rows (d.rows of_clients) in
        let txns : first_of (codes "txns") rows ≡ Some (d.given of_txns) = first-found of_txns (d.given of_txns) rows (d.rows of_txns) in
        ap (option_and_then (ask no_fields)) d.options
        ∙ asks-values d.more (d.given of_seed) (d.given of_clients) (d.given of_txns) d.names (d.values of_seed) (d.values of_clients) (d.values of_txns)
        ∙ for-same (Some (d.given of_seed)) (Some (d.given of_clients)) (Some (d.given of_txns)) (first_of (codes "seed") rows) (first_of (codes "clients") rows) (first_of (codes "txns") rows) seed clients txns
