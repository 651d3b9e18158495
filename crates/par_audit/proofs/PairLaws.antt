-- Counts of pointers in a table of pairs.
use Rattle.std.proofs.Common.{◌≡◌, ◌≢◌, ℕ, zero, suc, ◌+◌, ◌*◌, ◌<◌, ◌≤◌, Bool, true, false, cond, List, [], ◌∷◌, ◌++◌, length, set, get_or, refl, sym, ap, ◌∙◌, ⊎_elim, get_or-set_same, get_or-set_other, eq-eqb, ne_eqb, arith, subst}
use Rattle.std.specs.Prelude.{◌==◌, ◌&&◌}
use Rattle.std.proofs.lemmas.Bool.{cases_eq}
use Rattle.std.proofs.lemmas.List.Sums.{sum_by_push}
use Rattle.cell_model.specs.Cells.{Pointer, null, same, hits}
use Rattle.cell_page.specs.Stored.{pointers_from}
use Rattle.par_audit.specs.Tables.{count_at, place_of}

-- a slot's pointer names what the slot has
pub target-named : (bits i : ℕ) (targets : List ℕ) (slot : ℕ) → (get_or (pointers_from bits i targets) slot null).target ≡ get_or targets slot 0
target-named bits i [] slot = refl
target-named bits i (t ∷ ts) zero = refl
target-named bits i (t ∷ ts) (suc slot) = target-named bits (i + 1) ts slot

-- two places are one only where both the ids and the bits are
same-id : (id target : ℕ) (bit b : Bool) → place_of target b ≡ place_of id bit → target ≡ id
same-id id target true true e = omega (arith, e)
same-id id target false false e = omega (arith, e)
same-id id target true false e = absurd (omega (arith, e))
same-id id target false true e = absurd (omega (arith, e))

same-bit : (id target : ℕ) (bit b : Bool) → place_of target b ≡ place_of id bit → same b bit ≡ true
same-bit id target true true e = refl
same-bit id target false false e = refl
same-bit id target true false e = absurd (omega (arith, e))
same-bit id target false true e = absurd (omega (arith, e))

abbrev pub one : Bool → ℕ
one b = cond b 1 0

none : (x : Bool) → one (x && false) ≡ one false
none true = refl
none false = refl

-- a pointer aims at the id and bit of its own place alone
hits-here : (id target : ℕ) (bit b : Bool) → place_of target b ≡ place_of id bit → one ((target == id) && same b bit) ≡ one true
hits-here id target bit b e =
    ap (λ (x : Bool). one (x && same b bit)) (eq-eqb target id (same-id id target bit b e)) ∙ ap one (same-bit id target bit b e)

hits-elsewhere : (id target : ℕ) (bit b : Bool) → place_of target b ≢ place_of id bit → one ((target == id) && same b bit) ≡ one false
hits-elsewhere id target true false n = none (target == id)
hits-elsewhere id target false true n = none (target == id)
hits-elsewhere id target true true n = ap (λ (x : Bool). one (x && true)) (ne_eqb target id (λ e. n (ap (λ (k : ℕ). 2 * k + 1) e)))
hits-elsewhere id target false false n = ap (λ (x : Bool). one (x && true)) (ne_eqb target id (λ e. n (ap (λ (k : ℕ). 2 * k + 0) e)))

hits-as : (id target : ℕ) (bit b : Bool) (p : Pointer) → p.target ≡ target → p.bit ≡ b → hits id bit p ≡ one ((target == id) && same b bit)
hits-as id target bit b p aim with_bit =
    ap (λ (t : ℕ). one ((t == id) && same p.bit bit)) aim ∙ ap (λ (x : Bool). one ((target == id) && same x bit)) with_bit

-- a count at the pointer's place is one of what hits the id and bit that have the place
pub pair-hit : (at id target : ℕ) (bit b : Bool) (p : Pointer) → at ≡ place_of target b → p.target ≡ target → p.bit ≡ b → one (at == place_of id bit) ≡ hits id bit p
pair-hit at id target bit b p place aim with_bit =
    let same_hits = hits-as id target bit b p aim with_bit in
    ⊎_elim
    (λ (e : at ≡ place_of id bit). ap one (eq-eqb at (place_of id bit) e) ∙ (sym (hits-here id target bit b (sym place ∙ e)) ∙ sym same_hits))
    (λ (n : at ≢ place_of id bit). ap one (ne_eqb at (place_of id bit) n) ∙ (sym (hits-elsewhere id target bit b (λ e. n (place ∙ e))) ∙ sym same_hits))
    (cases_eq at (place_of id bit))

-- a pointer whose place the table doesn't have hits none of its counts
pub pair-missed : (len at id target : ℕ) (bit b : Bool) (p : Pointer) → at ≡ place_of target b → p.target ≡ target → p.bit ≡ b → len ≤ at → place_of id bit < len → hits id bit p ≡ 0
pair-missed len at id target bit b p place aim with_bit past within =
    hits-as id target bit b p aim with_bit ∙ hits-elsewhere id target bit b (λ e. absurd (omega (arith, place, e, past, within)))

-- a byte that is raised by one
pub raised-counted : (bytes carries : List ℕ) (at was place : ℕ) → at < length bytes → was ≡ get_or bytes at 0
    → count_at (set bytes at (was + 1)) carries place ≡ count_at bytes carries place + cond (at == place) 1 0
raised-counted bytes carries at was place within is =
    ⊎_elim
    (λ (e : at ≡ place).
    let hit : one (at == place) ≡ 1 = ap one (eq-eqb at place e) in
    let here : get_or (set bytes at (was + 1)) place 0 ≡ was + 1 = subst (λ (i : ℕ). get_or (set bytes at (was + 1)) i 0 ≡ was + 1) e (get_or-set_same bytes at (was + 1) 0 within) in
    let old : was ≡ get_or bytes place 0 = is ∙ ap (λ (i : ℕ). get_or bytes i 0) e in
    omega (arith, hit, here, old))
    (λ (n : at ≢ place).
    let miss : one (at == place) ≡ 0 = ap one (ne_eqb at place n) in
    let there = get_or-set_other bytes at place (was + 1) 0 (λ e. n (sym e)) in
    omega (arith, miss, there))
    (cases_eq at place)

-- a byte of 255 that is carried over
pub carried-counted : (bytes carries : List ℕ) (at place : ℕ) → at < length bytes → get_or bytes at 0 ≡ 255
    → count_at (set bytes at 0) (carries ++ at ∷ []) place ≡ count_at bytes carries place + cond (at == place) 1 0
carried-counted bytes carries at place within full =
    let more = sum_by_push (λ (p : ℕ). cond (p == place) 1 0) carries at in
    ⊎_elim
    (λ (e : at ≡ place).
    let hit : one (at == place) ≡ 1 = ap one (eq-eqb at place e) in
    let here : get_or (set bytes at 0) place 0 ≡ 0 = subst (λ (i : ℕ). get_or (set bytes at 0) i 0 ≡ 0) e (get_or-set_same bytes at 0 0 within) in
    let old : get_or bytes place 0 ≡ 255 = ap (λ (i : ℕ). get_or bytes i 0) (sym e) ∙ full in
    omega (arith, more, hit, here, old))
    (λ (n : at ≢ place).
    let miss : one (at == place) ≡ 0 = ap one (ne_eqb at place n) in
    let there = get_or-set_other bytes at place 0 0 (λ e. n (sym e)) in
    omega (arith, more, miss, there))
    (cases_eq at place)

-- a table of pairs has both places of each id below half its length
pub place-inside : (id ids : ℕ) (bit : Bool) → id < ids → place_of id bit < 2 * ids
place-inside id ids true within = omega (arith, within)
place-inside id ids false within = omega (arith, within)
