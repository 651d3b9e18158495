-- Lines with too many fields, and the lines of clients.
use Rattle.std.proofs.Common.{◌≡◌, ℕ, ◌<◌, Bool, true, false, List, [], ◌∷◌, Some, None, length, codes, refl, sym, ap, ◌∙◌, arith}
use Rattle.std.specs.Str.{bytes_eq}
use Rattle.std.proofs.lemmas.Slice.Eq.{bytes_eq-Decides}
use Rattle.script_lines.specs.Fields.{fields_of}
use Rattle.script_lines.specs.Numbers.{client_of}
use Rattle.script_lines.specs.declared.verb.Verb.{Verb}
use Rattle.script_lines.specs.declared.verb.Verb.TheVariants.{Begin, Read, Make, Store, Get, Set, Release, Commit, Abort, Undo}
use Rattle.script_lines.specs.Grammar.{request_of, is_collector, is_cleaner, is_crash, client_line, line_of_party, is_comment, verb_of, meaning_of}

-- no client's line has more than three operands
pub request_of-many : (client : ℕ) (verb : Verb) (operands : List (List ℕ)) → 3 < length operands → request_of client verb operands ≡ None
request_of-many client verb [] many = absurd (omega (arith, many))
request_of-many client verb (a ∷ []) many = absurd (omega (arith, many))
request_of-many client verb (a ∷ b ∷ []) many = absurd (omega (arith, many))
request_of-many client verb (a ∷ b ∷ d ∷ []) many = absurd (omega (arith, many))
request_of-many client Begin (a ∷ b ∷ d ∷ e ∷ es) many = refl
request_of-many client Read (a ∷ b ∷ d ∷ e ∷ es) many = refl
request_of-many client Make (a ∷ b ∷ d ∷ e ∷ es) many = refl
request_of-many client Store (a ∷ b ∷ d ∷ e ∷ es) many = refl
request_of-many client Get (a ∷ b ∷ d ∷ e ∷ es) many = refl
request_of-many client Set (a ∷ b ∷ d ∷ e ∷ es) many = refl
request_of-many client Release (a ∷ b ∷ d ∷ e ∷ es) many = refl
request_of-many client Commit (a ∷ b ∷ d ∷ e ∷ es) many = refl
request_of-many client Abort (a ∷ b ∷ d ∷ e ∷ es) many = refl
request_of-many client Undo (a ∷ b ∷ d ∷ e ∷ es) many = refl

-- a client is no name that is no client
not_named : (client : ℕ) (party name : List ℕ) → client_of party ≡ Some client → client_of name ≡ None → bytes_eq party name ≡ false
not_named client party name is other_name = other (bytes_eq party name) (bytes_eq-Decides party name).0
  where
    other : (b : Bool) → (b ≡ true → party ≡ name) → b ≡ false
    other true same = let e : Some client ≡ None = sym is ∙ ap client_of (same refl) ∙ other_name in absurd (cc e)
    other false same = refl

-- the line of a client asks nothing of the collector, the page cleaner or the power
pub line_of_client : (client : ℕ) (party word : List ℕ) (operands : List (List ℕ)) → client_of party ≡ Some client → line_of_party party (word ∷ operands) ≡ client_line party word operands
line_of_client client party word operands is =
    let gc : is_collector party ≡ false = not_named client party (codes "gc") is refl in
    let clean : is_cleaner party ≡ false = not_named client party (codes "clean") is refl in
    let crash : is_crash party ≡ false = not_named client party (codes "crash") is refl in
    rw (gc, clean, crash)

pub meaning_of_client : (client : ℕ) (v : Verb) (line party rest word behind : List ℕ) → fields_of line ≡ party ∷ fields_of rest → fields_of rest ≡ word ∷ fields_of behind → is_comment party ≡ false → client_of party ≡ Some client → verb_of word ≡ Some v → meaning_of line ≡ request_of client v (fields_of behind)
meaning_of_client client v line party rest word behind fields more plain is spells =
    rw (fields, plain, more, line_of_client client party word (fields_of behind) is, is, spells)
