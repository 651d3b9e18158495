-- How the slots that name the same object are linked.
use Rattle.std.proofs.Common.{◌≡◌, ◌≢◌, ℕ, ◌+◌, ◌<◌, ◌≤◌, List, length, get_or, set, refl, sym, ap, ◌∙◌, subst, arith, ⊎_elim}
use Rattle.std.proofs.lemmas.Bool.{cases_eq, cases_lt}
use Rattle.std.proofs.lemmas.List.{get_or-set_same, get_or-set_other}
use Rattle.green_walk.specs.declared.copied_slots.CopiedSlot.{CopiedSlot}
use Rattle.green_walk.specs.Linked.{IsNextNaming, AreLinked, target_at}

-- after the last slot nothing is to be linked
pub linked-end : (slots : List CopiedSlot) (n limit : ℕ) (first next : List ℕ) → length slots ≤ n → AreLinked slots n limit first next
linked-end slots n limit first next l = record {
  firsts = λ k f w z s. absurd (omega arith);
  nexts = λ k f w z s. absurd (omega arith);
}

-- a slot that names the object is the first one from itself on
pub names-here : (slots : List CopiedSlot) (at : ℕ) → at < length slots → IsNextNaming slots (target_at slots at) at at
names-here slots at l = record {
  behind = λ w. omega arith;
  within = omega arith;
  names = λ w. refl;
  none = λ k f w. absurd (omega arith);
}

-- a slot that doesn't name the object is passed over
pub names-behind : (slots : List CopiedSlot) (id at place : ℕ) → target_at slots at ≢ id → IsNextNaming slots id (at + 1) place → IsNextNaming slots id at place
names-behind slots id at place other n = record {
  behind = λ w. let b = n.behind w in omega (arith, b);
  within = n.within;
  names = n.names;
  none = λ k f w.
      ⊎_elim
      (λ (e : k ≡ at). subst (λ j. target_at slots j ≢ id) (sym e) other)
      (λ (d : k ≢ at). n.none k (omega (arith, d, f)) w)
      (cases_eq k at);
}

-- one slot more is linked
pub linked-more : (slots : List CopiedSlot) (at limit next_one : ℕ) (first next : List ℕ) → at < length slots → length slots ≤ length next → target_at slots at < length first
    → AreLinked slots (at + 1) limit first next → IsNextNaming slots (target_at slots at) (at + 1) next_one → AreLinked slots at limit (set first (target_at slots at) at) (set next at next_one)
linked-more slots at limit next_one first next here room small linked found =
    let firsts_now = set first (target_at slots at) at in
    let nexts_now = set next at next_one in
    record {
      firsts = λ k f w z s.
          ⊎_elim
          (λ (e : target_at slots k ≡ target_at slots at).
          subst (λ id. IsNextNaming slots id at (get_or firsts_now id 0)) (sym e)
          (subst (λ place. IsNextNaming slots (target_at slots at) at place) (sym (get_or-set_same first (target_at slots at) at 0 small)) (names-here slots at here)))
          (λ (d : target_at slots k ≢ target_at slots at).
          let later : k ≢ at = λ e. d (ap (λ j. target_at slots j) e) in
          subst (λ place. IsNextNaming slots (target_at slots k) at place) (sym (get_or-set_other first (target_at slots at) (target_at slots k) at 0 d))
          (names-behind slots (target_at slots k) at (get_or first (target_at slots k) 0) (λ e. d (sym e)) (linked.firsts k (omega (arith, later, f)) w z s)))
          (cases_eq (target_at slots k) (target_at slots at));
      nexts = λ k f w z s.
          ⊎_elim
          (λ (e : k ≡ at).
          subst (λ j. IsNextNaming slots (target_at slots j) (j + 1) (get_or nexts_now j 0)) (sym e)
          (subst (λ place. IsNextNaming slots (target_at slots at) (at + 1) place) (sym (get_or-set_same next at next_one 0 (omega (arith, here, room)))) found))
          (λ (d : k ≢ at).
          subst (λ place. IsNextNaming slots (target_at slots k) (k + 1) place) (sym (get_or-set_other next at k next_one 0 d)) (linked.nexts k (omega (arith, d, f)) w z s))
          (cases_eq k at);
    }

-- the same, where it is told what the slot names
pub linked-with : (slots : List CopiedSlot) (at limit target next_one : ℕ) (first next : List ℕ) → target ≡ target_at slots at → at < length slots → length slots ≤ length next → target < length first
    → AreLinked slots (at + 1) limit first next → IsNextNaming slots target (at + 1) next_one → AreLinked slots at limit (set first target at) (set next at next_one)
linked-with slots at limit target next_one first next e here room small linked found =
    subst (λ t. AreLinked slots at limit (set first t at) (set next at next_one)) (sym e)
    (linked-more slots at limit next_one first next here room (subst (λ t. t < length first) e small) linked (subst (λ t. IsNextNaming slots t (at + 1) next_one) e found))

-- a null slot, and one that names no object of the store, has no link
pub linked-past : (slots : List CopiedSlot) (at limit : ℕ) (first next : List ℕ) → (target_at slots at ≢ 0 → target_at slots at ≤ limit → ⊥) → AreLinked slots (at + 1) limit first next → AreLinked slots at limit first next
linked-past slots at limit first next never linked = record {
  firsts = λ k f w z s.
      let other : target_at slots at ≢ target_at slots k = λ e. never (λ n. z (sym e ∙ n)) (subst (λ id. id ≤ limit) (sym e) s) in
      let later : k ≢ at = λ e. other (ap (λ j. target_at slots j) (sym e)) in
      names-behind slots (target_at slots k) at (get_or first (target_at slots k) 0) other (linked.firsts k (omega (arith, later, f)) w z s);
  nexts = λ k f w z s.
      let later : k ≢ at = λ e. never (λ n. z (ap (λ j. target_at slots j) e ∙ n)) (subst (λ j. target_at slots j ≤ limit) e s) in
      linked.nexts k (omega (arith, later, f)) w z s;
}

-- ---- the first slot that names an object

named-from : (slots : List CopiedSlot) («from» id k limit : ℕ) (first next : List ℕ) → AreLinked slots «from» limit first next → id ≢ 0 → id ≤ limit → «from» ≤ k → k < length slots → target_at slots k ≡ id → IsNextNaming slots id «from» (get_or first id 0)
named-from slots «from» id k limit first next linked some small f w e =
    subst (λ i. IsNextNaming slots i «from» (get_or first i 0)) e (linked.firsts k f w (λ z. some (sym e ∙ z)) (subst (λ i. i ≤ limit) (sym e) small))

-- where it has none, there is no such slot
pub none-named : (slots : List CopiedSlot) («from» id limit : ℕ) (first next : List ℕ) → AreLinked slots «from» limit first next → id ≢ 0 → id ≤ limit
    → («from» ≤ get_or first id 0 → get_or first id 0 < length slots → target_at slots (get_or first id 0) ≡ id → ⊥) → IsNextNaming slots id «from» (length slots)
none-named slots «from» id limit first next linked some small never = record {
  behind = λ w. absurd (omega (arith, w));
  within = omega arith;
  names = λ w. absurd (omega (arith, w));
  none = λ k f w e.
      let n = named-from slots «from» id k limit first next linked some small f w e in
      ⊎_elim
      (λ (l : get_or first id 0 < length slots). never (n.behind l) l (n.names l))
      (λ (l : length slots ≤ get_or first id 0). n.none k f (omega (arith, w, l)) e)
      (cases_lt (get_or first id 0) (length slots));
}
