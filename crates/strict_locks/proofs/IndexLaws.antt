-- Laws on the lists of the objects that the clients hold.
use Rattle.std.proofs.Common.{◌≡◌, ◌≢◌, ℕ, Bool, ◌==◌, ◌&&◌, ◌||◌, not, true, false, arith, List, [], ◌∷◌, ◌++◌, eqb, cond, refl, sym, ap, ◌∙◌, subst, ⊎_elim, eq-eqb, ne_eqb}
use Rattle.std.specs.List.{list_any}
use Rattle.std.specs.Ordering.{nat_cmp}
use Rattle.std.specs.BTreeMap.{is_at}
use Rattle.std.proofs.lemmas.Bool.{cases_eq, cond_both, eqb-true, eqb-false}
use Rattle.std.proofs.lemmas.Bool.Decides.{nat_tests}
use Rattle.std.proofs.lemmas.List.Folds.{list_any-append}
use Rattle.strict_locks.proofs.LockLaws.{AddsHolder}
use Rattle.strict_locks.specs.Locks.{Table, holders_of, is_holder, Holds, DropsAll, GivesBack}
use Rattle.strict_locks.specs.Clients.{Lists, ids_of, AddsId, DropsId, DropsIds, AreListed, AreSame, AreSound}

-- a fact that is known already adds nothing
absorbed : (x id p pass : ℕ) (b : Bool) → (x ≡ id → p ≡ pass → b ≡ true) → ((x == id && p == pass) || b) ≡ b
absorbed x id p pass b known = grind (arith, nat_tests)

-- one id more at the end of the list
noted_more : (x id p pass : ℕ) (found b : Bool) → (p == pass) ≡ true → found ≡ b → (found || (is_at (nat_cmp x) id || false)) ≡ ((x == id && p == pass) || b)
noted_more x id p pass found b here known = grind (arith, nat_tests)

-- without locks and lists all is sound
pub AreSound-none : AreSound [] []
AreSound-none = record { held = λ id. tt; listed = λ id p. refl }

-- the lists stay right when a client gives all back and its list names nothing any more
pub AreListed-drop : (old new : Table) (lists left : Lists) (pass : ℕ) → DropsAll old new pass → DropsIds lists left pass → AreListed old lists → AreListed new left
AreListed-drop old new lists left pass gives drops listed x p =
    let test = is_at (nat_cmp x) in
    let P : List ℕ → Type 0 = λ ids. list_any test ids ≡ is_holder (holders_of new x) p in
    let o = gives.owners x p in
    let s = gives.sharers x p in
    subst P (sym (drops p)) (cond_both (eqb p pass) [] (ids_of lists p) P
    (λ here. grind (arith, nat_tests, here, o, s))
    (λ apart. listed x p ∙ grind (arith, nat_tests, apart, o, s)))

-- the lists stay right when a client gets one lock more on an object that it holds
pub AreListed-again : (old new : Table) (lists : Lists) (pass id : ℕ) → AddsHolder old new pass id → Holds (holders_of old id) pass → AreListed old lists → AreListed new lists
AreListed-again old new lists pass id adds holds listed x p =
    let before = listed x p in
    let after = adds x p in
    let known : x ≡ id → p ≡ pass → is_holder (holders_of old x) p ≡ true = λ here self. rw (here, self) holds in
    before ∙ sym (after ∙ absorbed x id p pass _ known)

-- the lists stay right when a client's list gets the object that it now holds
pub AreListed-note : (old new : Table) (lists kept noted : Lists) (pass id : ℕ) → AddsHolder old new pass id → ((p : ℕ) → ids_of kept p ≡ ids_of lists p) → AddsId kept noted pass id → AreListed old lists → AreListed new noted
AreListed-note old new lists kept noted pass id adds same notes listed x p =
    let test = is_at (nat_cmp x) in
    let P : List ℕ → Type 0 = λ ids. list_any test ids ≡ is_holder (holders_of new x) p in
    let before : list_any test (ids_of kept p) ≡ is_holder (holders_of old x) p = ap (list_any test) (same p) ∙ listed x p in
    let after = adds x p in
    let pushed = list_any-append test (ids_of kept p) (id ∷ []) in
    subst P (sym (notes p)) (cond_both (eqb p pass) (ids_of kept p ++ id ∷ []) (ids_of kept p) P
    (λ here. pushed ∙ noted_more x id p pass _ _ here before ∙ sym after)
    (λ apart. before ∙ sym (after ∙ absorbed x id p pass _ (λ _ self. absurd (eqb-false p pass apart self)))))

-- the lists stay right when a client gives one lock back and its list names the object no more
pub AreListed-give : (old new : Table) (lists left : Lists) (pass id : ℕ) → GivesBack old new pass id → DropsId lists left pass id → AreListed old lists → AreListed new left
AreListed-give old new lists left pass id gives drops listed x p =
    let o = gives.owners p in
    let s = gives.sharers p in
    let same : x ≢ id → is_holder (holders_of new x) p ≡ is_holder (holders_of old x) p = λ n. ap (λ h. is_holder h p) (gives.others x n) in
    let was = listed x p in
    let now = drops.own x in
    ⊎_elim
    (λ (here : p ≡ pass).
    ⊎_elim
    (λ (this : x ≡ id). subst (λ q. list_any (is_at (nat_cmp x)) (ids_of left q) ≡ is_holder (holders_of new x) q) (sym here) (now ∙ (ap (λ b. not b && list_any (is_at (nat_cmp x)) (ids_of lists pass)) (eq-eqb x id this) ∙ sym (ap (λ y. is_holder (holders_of new y) pass) this ∙ gone gives))))
    (λ (other : x ≢ id). subst (λ q. list_any (is_at (nat_cmp x)) (ids_of left q) ≡ is_holder (holders_of new x) q) (sym here) (now ∙ (ap (λ b. not b && list_any (is_at (nat_cmp x)) (ids_of lists pass)) (ne_eqb x id other) ∙ (listed x pass ∙ sym (ap (λ h. is_holder h pass) (gives.others x other))))))
    (cases_eq x id))
    (λ (other : p ≢ pass).
    ap (list_any (is_at (nat_cmp x))) (drops.others p other) ∙ (was ∙
    ⊎_elim
    (λ (this : x ≡ id). sym (ap (λ y. is_holder (holders_of new y) p) this ∙ (kept gives p other ∙ ap (λ y. is_holder (holders_of old y) p) (sym this))))
    (λ (away : x ≢ id). sym (same away))
    (cases_eq x id)))
    (cases_eq p pass)
  where
    gone : GivesBack old new pass id → is_holder (holders_of new id) pass ≡ false
    gone g = let o = g.owners pass in let s = g.sharers pass in grind (arith, nat_tests, o, s)

    kept : GivesBack old new pass id → (q : ℕ) → q ≢ pass → is_holder (holders_of new id) q ≡ is_holder (holders_of old id) q
    kept g q n = let o = g.owners q in let s = g.sharers q in grind (arith, nat_tests, o, s, n)

-- the lists stay right where an id that was added is taken out again
pub AreListed-undo : (table : Table) (lists added left : Lists) (pass id : ℕ) → AddsId lists added pass id → DropsId added left pass id → list_any (is_at (nat_cmp id)) (ids_of lists pass) ≡ false → AreListed table lists → AreListed table left
AreListed-undo table lists added left pass id adds drops absent listed x p =
    ⊎_elim
    (λ (here : p ≡ pass).
    let more : ids_of added pass ≡ ids_of lists pass ++ id ∷ [] = adds pass ∙ ap (λ b. cond b (ids_of lists pass ++ id ∷ []) (ids_of lists pass)) (eq-eqb pass pass refl) in
    let now = drops.own x ∙ ap (λ ids. not (x == id) && list_any (is_at (nat_cmp x)) ids) more in
    let pushed = list_any-append (is_at (nat_cmp x)) (ids_of lists pass) (id ∷ []) in
    let none : x ≡ id → list_any (is_at (nat_cmp x)) (ids_of lists pass) ≡ false = λ e. subst (λ y. list_any (is_at (nat_cmp y)) (ids_of lists pass) ≡ false) (sym e) absent in
    subst (λ q. list_any (is_at (nat_cmp x)) (ids_of left q) ≡ is_holder (holders_of table x) q) (sym here) (now ∙ (undone x id (list_any (is_at (nat_cmp x)) (ids_of lists pass)) (list_any (is_at (nat_cmp x)) (ids_of lists pass ++ id ∷ [])) pushed none ∙ listed x pass)))
    (λ (other : p ≢ pass). ap (list_any (is_at (nat_cmp x))) (drops.others p other ∙ (adds p ∙ ap (λ b. cond b (ids_of lists p ++ id ∷ []) (ids_of lists p)) (ne_eqb p pass other))) ∙ listed x p)
    (cases_eq p pass)
  where
    undone : (x id : ℕ) (b c : Bool) → c ≡ (b || (is_at (nat_cmp x) id || false)) → (x ≡ id → b ≡ false) → (not (x == id) && c) ≡ b
    undone x id b c e none = grind (arith, nat_tests)

-- and where nothing was added
pub AreListed-same : (table : Table) (lists kept : Lists) → AreSame lists kept → AreListed table lists → AreListed table kept
AreListed-same table lists kept same listed x p = ap (list_any (is_at (nat_cmp x))) (same p) ∙ listed x p
