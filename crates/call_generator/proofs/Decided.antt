-- Words that clap refuses and that ask nothing, and words that it takes: from the words after a word to all of them.
use Rattle.std.proofs.Common.{◌≡◌, ◌∙◌, ◌⊎◌, inl, inr, ap, refl, sym, subst, true, List, [], ◌∷◌, Option, Some, None, option_map, unwrap_or}
use Rattle.clap.specs.Words.{Text}
use Rattle.clap.specs.Walk.{Walk}
use Rattle.call_generator.specs.Options.{Given, only, options_of}
use Rattle.call_generator.proofs.OptionNames.{Name, word_of, named-more, Fields, put, are_named, all_values, ask, ask-put, values-put}
use Rattle.call_generator.proofs.OptionRows.{found, row_at}
use Rattle.call_generator.proofs.WordTurns.{Fails, end_rows, fails-as, total}

-- ---- what is decided

-- clap refuses the words, and they ask nothing
pub record Refuses (w : Walk) (awaited : Option Text) (words : List Text) (f : Fields) : Type 0 where
  pub fails : Fails (total w words)
  pub asks : (more : List Given) → options_of awaited words ≡ Some more → ask f more ≡ None

-- clap takes the words, which give each option once
pub record Takes (w : Walk) (awaited : Option Text) (words : List Text) (f : Fields) : Type 0 where
  pub passes : total w words ≡ []
  pub more : List Given
  pub options : options_of awaited words ≡ Some more
  pub names : are_named more ≡ true
  pub given : Name → Text
  pub values : (n : Name) → only (all_values f n more) ≡ Some (given n)
  pub rows : (n : Name) → found n (end_rows w words) ≡ Some (row_at n (given n))

abbrev pub Decided : Walk → Option Text → List Text → Fields → Type 0
Decided w awaited words f = Refuses w awaited words f ⊎ Takes w awaited words f

-- ---- from the words after to the words

pub pass-on : (w v : Walk) (a b : Option Text) (words rest : List Text) (f : Fields) → total w words ≡ total v rest → end_rows w words ≡ end_rows v rest → options_of a words ≡ options_of b rest
    → Decided v b rest f → Decided w a words f
pass-on w v a b words rest f t r o (inl d) = inl (record {
  fails = fails-as _ _ t d.fails;
  asks = λ more e. d.asks more (sym o ∙ e);
})
pass-on w v a b words rest f t r o (inr d) = inr (record {
  passes = t ∙ d.passes;
  more = d.more;
  options = o ∙ d.options;
  names = d.names;
  given = d.given;
  values = d.values;
  rows = λ n. ap (found n) r ∙ d.rows n;
})

abbrev pub with_option : Given → Option (List Given) → Option (List Given)
with_option g o = option_map (λ more. g ∷ more) o

-- where the next option asks nothing, the words ask nothing
pub asks-none : (g : Given) (f : Fields) (o p : Option (List Given)) → p ≡ with_option g o → ((more : List Given) → o ≡ Some more → ask f (g ∷ more) ≡ None) → (more : List Given) → p ≡ Some more → ask f more ≡ None
asks-none g f None p e h more is = let bad : None ≡ Some more = sym e ∙ is in absurd (cc (bad))
asks-none g f (Some rest) p e h more is =
    let same : Some (g ∷ rest) ≡ Some more = sym e ∙ is in
    let here : g ∷ rest ≡ more = ap (λ (x : Option (List Given)). unwrap_or x []) same in
    subst (λ (x : List Given). ask f x ≡ None) here (h rest refl)

pub no-options : (f : Fields) (p : Option (List Given)) → p ≡ None → (more : List Given) → p ≡ Some more → ask f more ≡ None
no-options f p e more is = let bad : None ≡ Some more = sym e ∙ is in absurd (cc (bad))

-- a name whose value is the next word
pub asks-behind : (name : Text) (words : List Text) (f : Fields) → ((value : Text) (more : List Given) → ask f ((name, value) ∷ more) ≡ None) → (more : List Given) → options_of (Some name) words ≡ Some more → ask f more ≡ None
asks-behind name [] f h = no-options f (options_of (Some name) []) refl
asks-behind name (value ∷ words) f h = asks-none (name, value) f (options_of None words) (options_of (Some name) (value ∷ words)) refl (λ more e. h value more)

-- an option that is read
pub carry : (n : Name) (v : Text) (w x : Walk) (a : Option Text) (words rest : List Text) (f : Fields) → total w words ≡ total x rest → end_rows w words ≡ end_rows x rest
    → options_of a words ≡ with_option (word_of n, v) (options_of None rest) → f n ≡ None → Decided x None rest (put n v f) → Decided w a words f
carry n v w x a words rest f t r o e (inl d) = inl (record {
  fails = fails-as _ _ t d.fails;
  asks = asks-none (word_of n, v) f (options_of None rest) (options_of a words) o (λ more is. ask-put n v f more e ∙ d.asks more is);
})
carry n v w x a words rest f t r o e (inr d) = inr (record {
  passes = t ∙ d.passes;
  more = (word_of n, v) ∷ d.more;
  options = o ∙ ap (with_option (word_of n, v)) d.options;
  names = named-more n v d.more ∙ d.names;
  given = d.given;
  values = λ m. ap only (values-put n m v f d.more e) ∙ d.values m;
  rows = λ m. ap (found m) r ∙ d.rows m;
})
