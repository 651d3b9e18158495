-- The clients that have a transaction left.
use Rattle.std.proofs.Common.{◌≡◌, ℕ, zero, suc, ◌+◌, ◌<◌, ◌≤◌, Bool, true, false, List, [], ◌∷◌, ◌++◌, length, get_or, take, drop, refl, sym, ap, subst, ◌∙◌, arith}
use Rattle.std.specs.Prelude.{if◌then◌else◌, slice_index}
use Rattle.std.proofs.lemmas.List.{take_more, take_all, take-append-drop, length-take-le}
use Rattle.std.proofs.Math.Seq.{get_or-append_seam}
use Rattle.std.proofs.lemmas.List.{append_assoc}
use Rattle.call_generator.specs.declared.client.Client.{Client}
use Rattle.call_generator.specs.Generator.{has_left, waiting_from, waiting}

-- the indices in two lists, one after the other
pub waiting-append : (n : ℕ) (xs ys : List Client) → waiting_from n (xs ++ ys) ≡ waiting_from n xs ++ waiting_from (n + length xs) ys
waiting-append n [] ys = let same : n ≡ n + 0 = omega arith in ap (λ (k : ℕ). waiting_from k ys) same
waiting-append n (x ∷ xs) ys =
    let place : n + 1 + length xs ≡ n + length (x ∷ xs) = omega arith in
    let tail = waiting-append (n + 1) xs ys ∙ ap (λ (k : ℕ). waiting_from (n + 1) xs ++ waiting_from k ys) place in
    elim (has_left x) as (λ (b : Bool). (if b then n ∷ waiting_from (n + 1) (xs ++ ys) else waiting_from (n + 1) (xs ++ ys)) ≡ (if b then n ∷ waiting_from (n + 1) xs else waiting_from (n + 1) xs) ++ waiting_from (n + length (x ∷ xs)) ys) [
      | true ↦ ap (λ (zs : List ℕ). n ∷ zs) tail
      | false ↦ tail
    ]

-- one client more
pub waiting-more : (cs : List Client) (i : ℕ) (d : Client) → i < length cs → waiting (take (i + 1) cs) ≡ waiting (take i cs) ++ (if has_left (get_or cs i d) then i ∷ [] else [])
waiting-more cs i d within =
    let size : 0 + length (take i cs) ≡ i = let l = length-take-le i cs (omega arith) in omega (arith, l) in
    ap waiting (take_more cs i d within)
    ∙ waiting-append 0 (take i cs) (get_or cs i d ∷ [])
    ∙ ap (λ (k : ℕ). waiting (take i cs) ++ (if has_left (get_or cs i d) then k ∷ [] else [])) size

-- a client more that has a transaction left, or has none
pub counted-yes : (cs : List Client) (i : ℕ) (d : Client) → i < length cs → has_left (get_or cs i d) ≡ true → length (waiting (take (i + 1) cs)) ≡ length (waiting (take i cs)) + 1
counted-yes cs i d within left =
    ap (λ (zs : List ℕ). length zs) (waiting-more cs i d within ∙ ap (λ (b : Bool). waiting (take i cs) ++ (if b then i ∷ [] else [])) left) ∙ one (waiting (take i cs))
  where
    one : (zs : List ℕ) → length (zs ++ i ∷ []) ≡ length zs + 1
    one [] = refl
    one (z ∷ zs) = let h = one zs in omega (arith, h)

pub counted-no : (cs : List Client) (i : ℕ) (d : Client) → i < length cs → has_left (get_or cs i d) ≡ false → length (waiting (take (i + 1) cs)) ≡ length (waiting (take i cs))
counted-no cs i d within not =
    ap (λ (zs : List ℕ). length zs) (waiting-more cs i d within ∙ ap (λ (b : Bool). waiting (take i cs) ++ (if b then i ∷ [] else [])) not) ∙ none (waiting (take i cs))
  where
    none : (zs : List ℕ) → length (zs ++ []) ≡ length zs
    none [] = refl
    none (z ∷ zs) = let h = none zs in omega (arith, h)

-- the index that stands after those of the clients before
pub waiting-there : (cs : List Client) (i : ℕ) (d : Client) → i < length cs → has_left (get_or cs i d) ≡ true → slice_index (waiting cs) (length (waiting (take i cs))) ≡ i
waiting-there cs i d within left =
    let most : i + 1 ≤ length cs = omega arith in
    let size = length-take-le (i + 1) cs most in
    let front = waiting-more cs i d within ∙ ap (λ (b : Bool). waiting (take i cs) ++ (if b then i ∷ [] else [])) left in
    let whole = ap waiting (sym (take-append-drop (i + 1) cs)) ∙ waiting-append 0 (take (i + 1) cs) (drop (i + 1) cs) in
    let rest = waiting_from (0 + length (take (i + 1) cs)) (drop (i + 1) cs) in
    let parts : waiting cs ≡ waiting (take i cs) ++ i ∷ rest = whole ∙ ap (λ (zs : List ℕ). zs ++ rest) front ∙ append_assoc (waiting (take i cs)) (i ∷ []) rest in
    ap (λ (zs : List ℕ). slice_index zs (length (waiting (take i cs)))) parts ∙ get_or-append_seam (waiting (take i cs)) i rest 0

-- each of the indices is that of a client with a transaction left
pub record IsWaiting (n : ℕ) (cs : List Client) (d : Client) (index : ℕ) : Type 0 where
  pub place : ℕ
  pub is : index ≡ n + place
  pub within : place < length cs
  pub left : has_left (get_or cs place d) ≡ true

further : (n : ℕ) (c : Client) (cs : List Client) (d : Client) (index : ℕ) → IsWaiting (n + 1) cs d index → IsWaiting n (c ∷ cs) d index
further n c cs d index w = record { place = suc w.place; is = (let e = w.is in omega (arith, e)); within = (let l = w.within in omega (arith, l)); left = w.left }

pub waiting-each : (n : ℕ) (cs : List Client) (d : Client) (j : ℕ) → j < length (waiting_from n cs) → IsWaiting n cs d (slice_index (waiting_from n cs) j)
waiting-each n [] d j l = absurd (omega arith)
waiting-each n (c ∷ cs) d j l = by (λ k m. waiting-each (n + 1) cs d k m) (has_left c) refl j l
  where
    Goal : Bool → ℕ → Type 0
    Goal b j = (j < length (if b then n ∷ waiting_from (n + 1) cs else waiting_from (n + 1) cs)) → IsWaiting n (c ∷ cs) d (slice_index (if b then n ∷ waiting_from (n + 1) cs else waiting_from (n + 1) cs) j)

    by : ((k : ℕ) → k < length (waiting_from (n + 1) cs) → IsWaiting (n + 1) cs d (slice_index (waiting_from (n + 1) cs) k)) → (b : Bool) → has_left c ≡ b → (j : ℕ) → Goal b j
    by behind true e zero m = record { place = 0; is = omega arith; within = omega arith; left = e }
    by behind true e (suc k) m = further n c cs d _ (behind k (omega (arith, m)))
    by behind false e j m = further n c cs d _ (behind j m)
