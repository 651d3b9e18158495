-- What a parse tells of the words, by its clauses.
use Rattle.std.proofs.Common.{◌≡◌, ◌∙◌, ap, subst, sym, inl, inr, true, List, [], None, codes}
use Rattle.clap.specs.Words.{App, HasKind, HasMatchesOf, IsAmong, Text, fault_of, first_of, first_value, found_of, is_simple, is_simple_and_free, kind_of, matches_of}
use Rattle.clap.specs.Kinds.{Kinds}
use Rattle.clap.proofs.WalkLemmas.{first_value-rows}
use Rattle.clap.specs.declared.error.Error.{Error}
use Rattle.clap.specs.declared.error.kind.ErrorKind.TheVariants.{OutOfMemory}
use Rattle.clap.specs.declared.parser.matches.ArgMatches.{ArgMatches}
use Rattle.call_generator.specs.GenCommand.{asked_in, gen_app}
use Rattle.call_generator.specs.Options.{asked_of}
use Rattle.call_generator.proofs.ParseLaw.{for-same, refused-asks, simple, simple_and_free, taken-asks}

-- the words were taken
pub taken-read : (a : App) (words : List Text) (m : ArgMatches) → a ≡ gen_app → (is_simple_and_free a ≡ true → fault_of a words ≡ []) → HasMatchesOf a words m → asked_of words ≡ asked_in m
taken-read a words m same kinds matches =
    let none : fault_of gen_app words ≡ [] = ap (λ (x : App). fault_of x words) (sym same) ∙ kinds (ap is_simple_and_free same ∙ simple_and_free) in
    let rows = (matches (ap is_simple same ∙ simple)).0 ∙ ap (λ (x : App). matches_of x words) same in
    taken-asks words none
    ∙ for-same _ _ _ (first_value (found_of m) (codes "seed")) (first_value (found_of m) (codes "clients")) (first_value (found_of m) (codes "txns"))
    (first_value-rows (found_of m) (codes "seed") ∙ ap (first_of (codes "seed")) rows)
    (first_value-rows (found_of m) (codes "clients") ∙ ap (first_of (codes "clients")) rows)
    (first_value-rows (found_of m) (codes "txns") ∙ ap (first_of (codes "txns")) rows)

-- the words were refused
pub refused-read : (a : App) (words : List Text) (e : Error) → a ≡ gen_app → (kind_of e ≡ OutOfMemory → ⊥) → (is_simple_and_free a ≡ true → HasKind (fault_of a words) e) → asked_of words ≡ None
refused-read a words e same other kinds = go (subst (λ (x : App). HasKind (fault_of x words) e) same (kinds (ap is_simple_and_free same ∙ simple_and_free)))
  where
    go : HasKind (fault_of gen_app words) e → asked_of words ≡ None
    go (inl memory) = absurd (other memory)
    go (inr among) = refused-asks words (λ none. subst (λ (k : Kinds). IsAmong (kind_of e) k) none among)
