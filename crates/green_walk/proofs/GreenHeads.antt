-- The search for the next slot that may lead to the flipped object.
use Rattle.std.proofs.Common.{◌≡◌, ℕ, zero, suc, ◌+◌, ◌-◌, ◌<◌, ◌≤◌, ◌==◌, ◌&&◌, ◌||◌, not, if◌then◌else◌, Bool, true, false, List, ◌∷◌, length, drop, get_or, refl, sym, ap, ◌∙◌, arith, ⊎_elim, true≢false}
use Rattle.std.specs.Prelude.{Some}
use Rattle.std.proofs.lemmas.Bool.{cases_lt, false_from_ne_true, eqb-true}
use Rattle.std.proofs.lemmas.Bool.Decides.{nat_tests}
use Rattle.std.proofs.lemmas.List.{drop_more, get_or_default}
use Rattle.green_walk.specs.declared.copied_slots.CopiedSlot.{CopiedSlot}
use Rattle.green_walk.specs.Greening.{Greening, waits, may_lead_to, first_with, behind_first}
use Rattle.green_walk.specs.GreenInside.{IsHead, IsFirstWaiting, IsFirstWaitingTo}
use Rattle.green_walk.specs.Linked.{IsNextNaming, target_at}

-- ---- what may lead to the flipped object

pub or-yes : (b : Bool) → (not b || true) ≡ true
or-yes true = refl
or-yes false = refl

pub both-left : (a b : Bool) → (a && b) ≡ true → a ≡ true
both-left true b e = refl
both-left false b e = e

pub both-right : (a b : Bool) → (a && b) ≡ true → b ≡ true
both-right true b e = e
both-right false b e = absurd (true≢false (sym e))

-- its object waits
pub lead-waits : (g : Greening) (flipped : ℕ) (s : CopiedSlot) → may_lead_to g flipped s ≡ true → waits g s.id ≡ true
lead-waits g flipped s e = both-left (waits g s.id) (not g.current || (s.target == flipped)) e

-- where the copies are current, it names the object
pub lead-names : (g : Greening) (flipped : ℕ) (s : CopiedSlot) → g.current ≡ true → may_lead_to g flipped s ≡ true → s.target ≡ flipped
lead-names g flipped s now e =
    let names : (not g.current || (s.target == flipped)) ≡ true = both-right (waits g s.id) (not g.current || (s.target == flipped)) e in
    eqb-true s.target flipped (sym (ap (λ c. not c || (s.target == flipped)) now) ∙ names)

-- where they aren't, any slot may whose object waits
pub leads-any : (g : Greening) (flipped : ℕ) (s : CopiedSlot) → g.current ≡ false → waits g s.id ≡ true → may_lead_to g flipped s ≡ true
leads-any g flipped s out w = ap (λ a. a && (not g.current || (s.target == flipped))) w ∙ ap (λ c. not c || (s.target == flipped)) out

pub leads-named : (g : Greening) (flipped : ℕ) (s : CopiedSlot) → s.target ≡ flipped → waits g s.id ≡ true → may_lead_to g flipped s ≡ true
leads-named g flipped s names w =
    let same : (s.target == flipped) ≡ true = grind (arith, nat_tests, names) in
    ap (λ a. a && (not g.current || (s.target == flipped))) w ∙ ap (λ t. not g.current || t) same ∙ or-yes g.current

-- ---- slots that are passed over

pub passed-over : (P : CopiedSlot → Bool) (s : CopiedSlot) (rest : List CopiedSlot) → P s ≡ false → first_with P (s ∷ rest) ≡ first_with P rest
passed-over P s rest e = ap (λ b. if b then Some s else first_with P rest) e

pub found-first : (P : CopiedSlot → Bool) (s : CopiedSlot) (rest : List CopiedSlot) → P s ≡ true → first_with P (s ∷ rest) ≡ Some s
found-first P s rest e = ap (λ b. if b then Some s else first_with P rest) e

pub passed-behind : (P : CopiedSlot → Bool) (s : CopiedSlot) (rest : List CopiedSlot) → P s ≡ false → behind_first P (s ∷ rest) ≡ behind_first P rest
passed-behind P s rest e = ap (λ b. if b then rest else behind_first P rest) e

-- what passes over each slot without the property is the same after such slots
skip-some : {X : Type 0} (P : CopiedSlot → Bool) (F : List CopiedSlot → X) → ((s : CopiedSlot) (rest : List CopiedSlot) → P s ≡ false → F (s ∷ rest) ≡ F rest)
    → (slots : List CopiedSlot) (n rest : ℕ) → rest + n ≤ length slots → ((k : ℕ) (d : CopiedSlot) → rest ≤ k → k < rest + n → P (get_or slots k d) ≡ true → ⊥) → F (drop rest slots) ≡ F (drop (rest + n) slots)
skip-some P F pass slots zero rest l none = let same : rest ≡ rest + 0 = omega arith in ap (λ m. F (drop m slots)) same
skip-some P F pass slots (suc n) rest l none =
    let d : CopiedSlot = record { id = 0; slot = 0; target = 0 } in
    let same : (rest + 1) + n ≡ rest + suc n = omega arith in
    ap F (drop_more slots rest d (omega (arith, l)))
    ∙ pass (get_or slots rest d) (drop (rest + 1) slots) (false_from_ne_true (P (get_or slots rest d)) (λ e. none rest d (omega arith) (omega arith) e))
    ∙ skip-some P F pass slots n (rest + 1) (omega (arith, l)) (λ k e b m. none k e (omega (arith, b)) (omega (arith, m)))
    ∙ ap (λ m. F (drop m slots)) same

pub skip-to : {X : Type 0} (P : CopiedSlot → Bool) (F : List CopiedSlot → X) → ((s : CopiedSlot) (rest : List CopiedSlot) → P s ≡ false → F (s ∷ rest) ≡ F rest)
    → (slots : List CopiedSlot) (rest place : ℕ) → rest ≤ place → place ≤ length slots → ((k : ℕ) (d : CopiedSlot) → rest ≤ k → k < place → P (get_or slots k d) ≡ true → ⊥) → F (drop rest slots) ≡ F (drop place slots)
skip-to P F pass slots rest place b w none =
    let same : rest + (place - rest) ≡ place = omega (arith, b) in
    skip-some P F pass slots (place - rest) rest (omega (arith, b, w)) (λ k d f l. none k d f (omega (arith, l, b))) ∙ ap (λ m. F (drop m slots)) same

-- ---- the head

-- a place before which no slot may lead to the flipped object
head-at : (g : Greening) (flipped rest place : ℕ) → rest ≤ place → place ≤ length g.copied → ((k : ℕ) (d : CopiedSlot) → rest ≤ k → k < place → may_lead_to g flipped (get_or g.copied k d) ≡ true → ⊥)
    → ((d : CopiedSlot) → place < length g.copied → may_lead_to g flipped (get_or g.copied place d) ≡ true) → IsHead g flipped rest place
head-at g flipped rest place b w none there =
    let P = may_lead_to g flipped in
    record {
      within = w;
      behind = λ l. b;
      skips = skip-to P (first_with P) (passed-over P) g.copied rest place b w none;
      rest_behind = skip-to P (behind_first P) (passed-behind P) g.copied rest place b w none;
      there = there;
    }

pub head-waiting : (g : Greening) (flipped rest place : ℕ) → g.current ≡ false → IsFirstWaiting g rest place → IsHead g flipped rest place
head-waiting g flipped rest place out f =
    head-at g flipped rest place f.behind f.within (λ k d b l m. f.skips k d b l (lead-waits g flipped (get_or g.copied k d) m))
    (λ d l. leads-any g flipped (get_or g.copied place d) out (f.there d l))

-- what stands at a place of the list has the target there
pub target-there : (slots : List CopiedSlot) (k : ℕ) (d : CopiedSlot) → k < length slots → (get_or slots k d).target ≡ target_at slots k
target-there slots k d l = ap (λ (s : CopiedSlot). s.target) (get_or_default slots k d (record { id = 0; slot = 0; target = 0 }) l)

-- a place that is the next one or the end isn't before
pub not-before : (n rest place : ℕ) → rest ≤ n → place ≤ n → (place < n → rest ≤ place) → rest ≤ place
not-before n rest place r p b = ⊎_elim b (λ (e : n ≤ place). omega (arith, e, r)) (cases_lt place n)

pub head-named : (g : Greening) (flipped rest named place : ℕ) → rest ≤ length g.copied → g.current ≡ true → IsNextNaming g.copied flipped rest named → IsFirstWaitingTo g flipped named place → IsHead g flipped rest place
head-named g flipped rest named place r now n f =
    let begun = not-before (length g.copied) rest named r n.within n.behind in
    let behind = not-before (length g.copied) named place n.within f.within f.behind in
    head-at g flipped rest place (omega (arith, begun, behind)) f.within
    (λ k d b l m.
    let within : k < length g.copied = let w = f.within in omega (arith, l, w) in
    let names = lead-names g flipped (get_or g.copied k d) now m in
    ⊎_elim
    (λ (before : k < named). n.none k b before (sym (target-there g.copied k d within) ∙ names))
    (λ (later : named ≤ k). f.skips k d later l names (lead-waits g flipped (get_or g.copied k d) m))
    (cases_lt k named))
    (λ d l. let t = f.there d l in leads-named g flipped (get_or g.copied place d) t.1 t.0)
