-- Fields that are printed one after another.
use Rattle.std.proofs.Common.{◌≡◌, ℕ, List, [], ◌∷◌, ◌++◌, refl, sym, ap, ◌∙◌, append_assoc}
use Rattle.std.specs.Prelude.{decimal}
use Rattle.std.proofs.lemmas.List.{append-nil}
use Rattle.plain_model.specs.Text.{numbers}

abbrev one : ℕ → List ℕ
one a = 32 ∷ decimal a

abbrev two : ℕ → ℕ → List ℕ
two a b = one a ++ one b

last_field : (a : ℕ) → one a ≡ numbers (a ∷ [])
last_field a = sym (append-nil (one a))

one_more : (a : ℕ) (rest : List ℕ) (ns : List ℕ) → rest ≡ numbers ns → one a ++ rest ≡ numbers (a ∷ ns)
one_more a rest ns is = ap (λ (l : List ℕ). one a ++ l) is

two_more : (a b : ℕ) (rest : List ℕ) (ns : List ℕ) → rest ≡ numbers ns → two a b ++ rest ≡ numbers (a ∷ b ∷ ns)
two_more a b rest ns is = ap (λ (l : List ℕ). 32 ∷ l) (append_assoc (decimal a) (one b) rest) ∙ ap (λ (l : List ℕ). one a ++ (one b ++ l)) is

-- the fields of a changed slot
pub slot_text : (start l1 l2 l3 l4 l5 : List ℕ) (pass id slot old os new nb ns : ℕ) → l1 ≡ (start ++ one pass) ++ one id → l2 ≡ l1 ++ one slot → l3 ≡ (l2 ++ one old) ++ one os → l4 ≡ (l3 ++ one new) ++ one nb
    → l5 ≡ l4 ++ one ns → l5 ≡ start ++ numbers (pass ∷ id ∷ slot ∷ old ∷ os ∷ new ∷ nb ∷ ns ∷ [])
slot_text start l1 l2 l3 l4 l5 pass id slot old os new nb ns d1 e2 d3 d4 e5 =
    let e1 : l1 ≡ start ++ two pass id = d1 ∙ append_assoc start (one pass) (one id) in
    let e3 : l3 ≡ l2 ++ two old os = d3 ∙ append_assoc l2 (one old) (one os) in
    let e4 : l4 ≡ l3 ++ two new nb = d4 ∙ append_assoc l3 (one new) (one nb) in
    let n4 = two_more new nb (one ns) (ns ∷ []) (last_field ns) in
    let n3 = two_more old os (two new nb ++ one ns) (new ∷ nb ∷ ns ∷ []) n4 in
    let n2 = one_more slot (two old os ++ (two new nb ++ one ns)) (old ∷ os ∷ new ∷ nb ∷ ns ∷ []) n3 in
    let n1 = two_more pass id (one slot ++ (two old os ++ (two new nb ++ one ns))) (slot ∷ old ∷ os ∷ new ∷ nb ∷ ns ∷ []) n2 in
    e5 ∙ ap (λ (l : List ℕ). l ++ one ns) e4 ∙ append_assoc l3 (two new nb) (one ns)
    ∙ ap (λ (l : List ℕ). l ++ (two new nb ++ one ns)) e3 ∙ append_assoc l2 (two old os) (two new nb ++ one ns)
    ∙ ap (λ (l : List ℕ). l ++ (two old os ++ (two new nb ++ one ns))) e2 ∙ append_assoc l1 (one slot) (two old os ++ (two new nb ++ one ns))
    ∙ ap (λ (l : List ℕ). l ++ (one slot ++ (two old os ++ (two new nb ++ one ns)))) e1 ∙ append_assoc start (two pass id) (one slot ++ (two old os ++ (two new nb ++ one ns)))
    ∙ ap (λ (l : List ℕ). start ++ l) n1
