-- What the writes of a transaction replaced, write by write.
use Rattle.std.proofs.Common.{◌≡◌, ℕ, ◌+◌, ◌-◌, ◌<◌, ◌≤◌, List, [], ◌∷◌, ◌++◌, Bool, true, false, cond, refl, sym, ap, ◌∙◌, Option, Some, None, ⊎_elim, arith, length, take, length-append, append_assoc, append-nil}
use Rattle.std.specs.Prelude.{if◌then◌else◌, count_by, Contains, slice_index}
use Rattle.std.specs.List.{last_or}
use Rattle.std.specs.Option.{option_map_or}
use Rattle.std.proofs.lemmas.Bool.{cases_lt}
use Rattle.std.proofs.lemmas.List.{take_at}
use Rattle.std.proofs.lemmas.List.Sums.{fold-append, sum_by-cons, sum_by_push}
use Rattle.plain_model.specs.declared.object.Object.{Object}
use Rattle.plain_model.specs.declared.write.Place.{Place}
use Rattle.plain_model.specs.declared.write.Place.TheVariants.{Slot, Payload, Whole}
use Rattle.plain_model.specs.declared.write.Write.{Write}
use Rattle.plain_model.specs.Graphs.{object_at, after_write, applied}
use Rattle.plain_model.specs.History.{can_be_undone}
use Rattle.store_model.proofs.Lists.{Contains-here, Contains-later}
use Rattle.restart_laws.specs.Told.{value_in}
use Rattle.core_store.specs.Replaced.{before_write, replaced}
use Rattle.core_store.proofs.ReplacedLists.{last_or-push, take-front_one}

-- what one write replaced, where it can be undone
abbrev pub replaced_by : List Object → Write → List Write
replaced_by g w = if can_be_undone w then before_write g w ∷ [] else []

-- ---- one list after another

pub replaced-append : (slots : ℕ) (g : List Object) (ws vs : List Write) → replaced slots g (ws ++ vs) ≡ replaced slots g ws ++ replaced slots (applied slots g ws) vs
replaced-append slots g [] vs = refl
replaced-append slots g (w ∷ ws) vs =
    ap (λ r. replaced_by g w ++ r) (replaced-append slots (applied slots g (w ∷ [])) ws vs)
    ∙ sym (append_assoc (replaced_by g w) (replaced slots (applied slots g (w ∷ [])) ws) (replaced slots (applied slots g (w ∷ ws)) vs))

-- one write more replaces what the graph before it has at its place, where it can be undone
pub replaced-push : (slots : ℕ) (g : List Object) (ws : List Write) (w : Write) → replaced slots g (ws ++ w ∷ []) ≡ replaced slots g ws ++ replaced_by (applied slots g ws) w
replaced-push slots g ws w = replaced-append slots g ws (w ∷ []) ∙ ap (λ r. replaced slots g ws ++ r) (append-nil (replaced_by (applied slots g ws) w))

pub replaced_by-undoable : (g : List Object) (w : Write) → can_be_undone w ≡ true → replaced_by g w ≡ before_write g w ∷ []
replaced_by-undoable g w e = ap (λ b. if b then before_write g w ∷ [] else []) e

pub replaced_by-whole : (g : List Object) (w : Write) → can_be_undone w ≡ false → replaced_by g w ≡ []
replaced_by-whole g w e = ap (λ b. if b then before_write g w ∷ [] else []) e

-- ---- how many

count-cons : (w : Write) (ws : List Write) → count_by can_be_undone (w ∷ ws) ≡ cond (can_be_undone w) 1 0 + count_by can_be_undone ws
count-cons w ws = sum_by-cons (λ (w : Write). cond (can_be_undone w) 1 0) w ws

pub count-push : (ws : List Write) (w : Write) → count_by can_be_undone (ws ++ w ∷ []) ≡ count_by can_be_undone ws + cond (can_be_undone w) 1 0
count-push ws w = sum_by_push (λ (w : Write). cond (can_be_undone w) 1 0) ws w

length-one : (g : List Object) (w : Write) → length (replaced_by g w) ≡ cond (can_be_undone w) 1 0
length-one g w = by (can_be_undone w)
  where
    by : (b : Bool) → length (if b then before_write g w ∷ [] else []) ≡ cond b 1 0
    by true = refl
    by false = refl

pub length-replaced : (slots : ℕ) (g : List Object) (ws : List Write) → length (replaced slots g ws) ≡ count_by can_be_undone ws
length-replaced slots g [] = refl
length-replaced slots g (w ∷ ws) =
    let h = applied slots g (w ∷ []) in
    let a = length-append (replaced_by g w) (replaced slots h ws) in
    let b = length-one g w in
    let c = count-cons w ws in
    let d = length-replaced slots h ws in
    a ∙ (ap (λ n. n + length (replaced slots h ws)) b ∙ (ap (λ n. cond (can_be_undone w) 1 0 + n) d ∙ sym c))

-- ---- the n-th write that can be undone

-- the n-th of the writes that can be undone, from 1 on, with those before and after it
pub record HasNth (ws : List Write) (n : ℕ) : Type 0 where
  pub earlier : List Write
  pub write : Write
  pub later : List Write
  pub split : ws ≡ earlier ++ write ∷ later
  pub undoable : can_be_undone write ≡ true
  pub count : count_by can_be_undone earlier + 1 ≡ n

-- a write more before them
nth_later : (w : Write) (ws : List Write) (m n : ℕ) → HasNth ws m → cond (can_be_undone w) 1 0 + m ≡ n → HasNth (w ∷ ws) n
nth_later w ws m n h e = record {
  earlier = w ∷ h.earlier;
  write = h.write;
  later = h.later;
  split = ap (λ r. w ∷ r) h.split;
  undoable = h.undoable;
  count = (let a = count-cons w h.earlier in let b = h.count in omega (arith, a, b, e));
}

nth_from : (w : Write) (ws : List Write) (n : ℕ) → ((m : ℕ) → 0 < m → m ≤ count_by can_be_undone ws → HasNth ws m) → (b : Bool) → can_be_undone w ≡ b → 0 < n → n ≤ count_by can_be_undone (w ∷ ws) → HasNth (w ∷ ws) n
nth_from w ws n more false e z l =
    let c = count-cons w ws in
    let one = ap (λ b. cond b 1 0 + 0) e in
    nth_later w ws n n (more n z (omega (arith, l, c, one))) (omega (arith, one))
nth_from w ws n more true e z l =
    let c = count-cons w ws in
    let one = ap (λ b. cond b 1 0 + 0) e in
    ⊎_elim
    (λ (g : 1 < n). nth_later w ws (n - 1) n (more (n - 1) (omega (arith, g)) (omega (arith, l, c, one))) (omega (arith, one, z)))
    (λ (g : n ≤ 1). record {
      earlier = [];
      write = w;
      later = ws;
      split = refl;
      undoable = e;
      count = omega (arith, g, z);
    })
    (cases_lt 1 n)

pub nth-undoable : (ws : List Write) (n : ℕ) → 0 < n → n ≤ count_by can_be_undone ws → HasNth ws n
nth-undoable [] n z l = absurd (omega (arith, z, l))
nth-undoable (w ∷ ws) n z l = nth_from w ws n (λ m a b. nth-undoable ws m a b) (can_be_undone w) refl z l

-- all that is replaced, on both sides of a write that can be undone
replaced_split : (slots : ℕ) (g : List Object) (ws earlier : List Write) (w : Write) (later : List Write) → ws ≡ earlier ++ w ∷ later → can_be_undone w ≡ true
    → replaced slots g ws ≡ replaced slots g earlier ++ (before_write (applied slots g earlier) w ∷ replaced slots (applied slots g (earlier ++ w ∷ [])) later)
replaced_split slots g ws earlier w later e u =
    let h = applied slots g earlier in
    let after = fold-append (after_write slots) g earlier (w ∷ []) in
    ap (replaced slots g) e
    ∙ (replaced-append slots g earlier (w ∷ later)
    ∙ (ap (λ r. replaced slots g earlier ++ (r ++ replaced slots (applied slots h (w ∷ [])) later)) (replaced_by-undoable h w u) ∙ ap (λ f. replaced slots g earlier ++ (before_write h w ∷ replaced slots f later)) (sym after)))

-- where the n-th of the writes that can be undone is this one, the first n of what they replaced end with what it replaced
pub take-nth : (slots : ℕ) (g : List Object) (ws : List Write) (n : ℕ) (h : HasNth ws n) → take n (replaced slots g ws) ≡ take (n - 1) (replaced slots g ws) ++ before_write (applied slots g h.earlier) h.write ∷ []
take-nth slots g ws n h =
    let front = replaced slots g h.earlier in
    let x = before_write (applied slots g h.earlier) h.write in
    let rest = replaced slots (applied slots g (h.earlier ++ h.write ∷ [])) h.later in
    let len = length-replaced slots g h.earlier in
    let c = h.count in
    let whole = replaced_split slots g ws h.earlier h.write h.later h.split h.undoable in
    let before : take (n - 1) (replaced slots g ws) ≡ front = ap (take (n - 1)) whole ∙ take_at front (x ∷ rest) (n - 1) (omega (arith, len, c)) in
    ap (take n) whole ∙ (take-front_one front x rest n (omega (arith, len, c)) ∙ ap (λ r. r ++ x ∷ []) (sym before))

-- and the last of them is what it replaced
pub last-nth : (slots : ℕ) (g : List Object) (ws : List Write) (n : ℕ) (h : HasNth ws n) → last_or None (take n (replaced slots g ws)) ≡ Some (before_write (applied slots g h.earlier) h.write)
last-nth slots g ws n h = ap (last_or None) (take-nth slots g ws n h) ∙ last_or-push None (take (n - 1) (replaced slots g ws)) (before_write (applied slots g h.earlier) h.write)

-- ---- over another graph

-- only the object of the id matters
pub value_in-same : (g h : List Object) (id : ℕ) (p : Place) → object_at h id ≡ object_at g id → value_in h id p ≡ value_in g id p
value_in-same g h id (Slot slot) e = ap (λ (o : Option Object). option_map_or (λ (o : Object). slice_index o.slots slot) o 0) e
value_in-same g h id Payload e = ap (λ (o : Option Object). option_map_or (λ (o : Object). o.payload) o 0) e
value_in-same g h id Whole e = refl

-- writes replace the same over graphs that have the same objects of theirs after any writes
pub replaced-same : (slots : ℕ) (g h : List Object) (ws : List Write) → ((w : Write) → Contains ws w → (earlier : List Write) → object_at (applied slots h earlier) w.id ≡ object_at (applied slots g earlier) w.id) → replaced slots h ws ≡ replaced slots g ws
replaced-same slots g h [] e = refl
replaced-same slots g h (w ∷ ws) e =
    let same : value_in h w.id w.place ≡ value_in g w.id w.place = value_in-same g h w.id w.place (e w (Contains-here w ws) []) in
    ap (λ (n : ℕ). (if can_be_undone w then record { id = w.id; place = w.place; value = n } ∷ [] else []) ++ replaced slots (applied slots h (w ∷ [])) ws) same
    ∙ ap (λ r. replaced_by g w ++ r) (replaced-same slots (applied slots g (w ∷ [])) (applied slots h (w ∷ [])) ws (λ v k earlier. e v (Contains-later w ws v k) (w ∷ earlier)))
