-- A piece that is written in parts.
use Rattle.std.proofs.Common.{◌≡◌, ◌≢◌, ℕ, List, [], ◌∷◌, ◌++◌, Option, Some, None, take, drop, append_assoc, refl, sym, ap, ◌∙◌}
use Rattle.std.proofs.lemmas.List.{take-append-drop, append-nil}
use Rattle.std.specs.Io.KnownBytes.{Appends, Keeps}
use Rattle.script_lines.specs.Output.{AppendsUpTo, AppendsFront}

pub Appends-trans : (old mid new : Option (List ℕ)) (a b : List ℕ) → Appends old mid a → Appends mid new b → Appends old new (a ++ b)
Appends-trans None mid new a b p q = tt
Appends-trans (Some xs) None new a b p q = absurd p
Appends-trans (Some xs) (Some ys) None a b p q = absurd q
Appends-trans (Some xs) (Some ys) (Some zs) a b p q = q ∙ ap (λ (l : List ℕ). l ++ b) p ∙ append_assoc xs a b

pub Appends-none : (old : Option (List ℕ)) → Appends old old []
Appends-none None = tt
Appends-none (Some xs) = sym (append-nil xs)

pub Appends-keeps : (old mid new : Option (List ℕ)) (a : List ℕ) → Appends old mid a → Keeps mid new → Appends old new a
Appends-keeps None mid new a p k = tt
Appends-keeps (Some xs) None new a p k = absurd p
Appends-keeps (Some xs) (Some ys) None a p k = absurd k
Appends-keeps (Some xs) (Some ys) (Some zs) a p k = k ∙ p

pub AppendsUpTo-none : (old : Option (List ℕ)) (piece : List ℕ) → AppendsUpTo old old piece piece
AppendsUpTo-none old piece = ([], refl, Appends-none old)

-- n bytes more
pub AppendsUpTo-more : (old mid new : Option (List ℕ)) (piece rest : List ℕ) (n : ℕ) → AppendsUpTo old mid piece rest → Appends mid new (take n rest) → AppendsUpTo old new piece (drop n rest)
AppendsUpTo-more old mid new piece rest n h a =
    (h.0 ++ take n rest, h.1 ∙ ap (λ (l : List ℕ). h.0 ++ l) (sym (take-append-drop n rest)) ∙ sym (append_assoc h.0 (take n rest) (drop n rest)), Appends-trans old mid new h.0 (take n rest) h.2 a)

pub AppendsUpTo-keeps : (old mid new : Option (List ℕ)) (piece rest : List ℕ) → AppendsUpTo old mid piece rest → Keeps mid new → AppendsUpTo old new piece rest
AppendsUpTo-keeps old mid new piece rest h k = (h.0, h.1, Appends-keeps old mid new h.0 h.2 k)

-- nothing is left
pub AppendsUpTo-all : (old new : Option (List ℕ)) (piece rest : List ℕ) → AppendsUpTo old new piece rest → rest ≡ [] → Appends old new piece
AppendsUpTo-all old new piece rest h e = let p : piece ≡ h.0 = h.1 ∙ ap (λ (l : List ℕ). h.0 ++ l) e ∙ append-nil h.0 in rw p h.2

-- what has something in front is not empty
longer-some : (rest more : List ℕ) → rest ≢ [] → rest ++ more ≢ []
longer-some [] more some e = some refl
longer-some (x ∷ rest) more some e = cc (e)

-- a front of the text is a front of a longer one
pub AppendsFront-longer : (old new : Option (List ℕ)) (text more : List ℕ) → AppendsFront old new text → AppendsFront old new (text ++ more)
AppendsFront-longer old new text more h =
    (h.0 ++ more, (h.1.0, ap (λ (xs : List ℕ). xs ++ more) h.1.1 ∙ append_assoc h.1.0 h.0 more, h.1.2), longer-some h.0 more h.2)

-- a front of what comes after the text
pub AppendsFront-after : (old mid new : Option (List ℕ)) (text more : List ℕ) → Appends old mid text → AppendsFront mid new more → AppendsFront old new (text ++ more)
AppendsFront-after old mid new text more a h =
    (h.0, (text ++ h.1.0, ap (λ (xs : List ℕ). text ++ xs) h.1.1 ∙ sym (append_assoc text h.1.0 h.0), Appends-trans old mid new text h.1.0 a h.1.2), h.2)
