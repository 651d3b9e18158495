-- What breaks a rule, and what keeps it.
use Rattle.std.proofs.Common.{◌≡◌, ◌≢◌, ℕ, ◌+◌, ◌<◌, ◌≤◌, List, Bool, true, false, length, refl, sym, ap, ◌∙◌, subst, arith, add-one, ⊎_elim, eq-eqb}
use Rattle.std.specs.Prelude.{not, ◌==◌}
use Rattle.std.proofs.lemmas.Bool.{cases_lt, cases_eq}
use Rattle.std.proofs.lemmas.List.{get_or_past}
use Rattle.cell_model.specs.Cells.{Cell, Pointer, null, blank_cell, cell_at, pointer_at, pointer_in, is_live, pointers_to, own_strong, IsExactAt}
use Rattle.cell_page.specs.declared.cell.Cell.{Cell as PageCell}
use Rattle.cell_page.specs.Format.{IsCell}
use Rattle.cell_page.specs.Stored.{cell_of}
use Rattle.cell_page.proofs.PointerLemmas.{pointers_from-replicate}
use Rattle.cell_model.specs.Strong.{StrongPath, one, more}
use Rattle.cell_model.proofs.EditLaws.{live-within, live-there}
use Rattle.restart_laws.specs.Rules.{BreaksRule, no_root, names_none, miscounts, in_cycle, IsFirstBroken, AreOfPages}
use Rattle.store_opening.specs.Kept.{IsKept, IsLeast, NamesLiveAt, IsFormedAt}

-- ---- who can break a rule

pub path-live : (cells : List Cell) (a b : ℕ) → StrongPath cells a b → is_live cells a ≡ true
path-live cells a b (one slot to s) = s.live
path-live cells a b (more via slot to p s) = path-live cells a via p

pub breaker-live : (cells : List Cell) (rule id : ℕ) → BreaksRule cells rule id → 1 < rule → is_live cells id ≡ true
breaker-live cells rule id (no_root d) h = absurd (omega (arith, h))
breaker-live cells rule id (names_none x slot l n d) h = l
breaker-live cells rule id (miscounts x l n) h = l
breaker-live cells rule id (in_cycle x w) h = path-live cells x x w

-- where each id of the table keeps it, no object breaks it
pub all-kept : (cells : List Cell) (rule n : ℕ) → 1 < rule → length cells ≤ n → ((x : ℕ) → x < n → BreaksRule cells rule x → ⊥) → IsKept cells rule
all-kept cells rule n h long k id b = k id (let w = live-within cells id (breaker-live cells rule id b h) in omega (arith, w, long)) b

-- 0 is no object
pub none-breaks : (cells : List Cell) (rule : ℕ) → 1 < rule → is_live cells 0 ≡ false → (x : ℕ) → x < 1 → BreaksRule cells rule x → ⊥
none-breaks cells rule h z x low b = live-there cells x z (breaker-live cells rule x b h) (omega (arith, low))

-- one id more
pub one-more : (cells : List Cell) (rule i : ℕ) → ((x : ℕ) → x < i → BreaksRule cells rule x → ⊥) → (BreaksRule cells rule i → ⊥) → (x : ℕ) → x < i + 1 → BreaksRule cells rule x → ⊥
one-more cells rule i k n x low = ⊎_elim (λ l. k x l) (λ l. let e : i ≡ x = omega (arith, l, low) in subst (λ (y : ℕ). BreaksRule cells rule y → ⊥) e n) (cases_lt x i)

-- ---- the second rule

pub names-kept : (cells : List Cell) (rule id : ℕ) → BreaksRule cells rule id → rule ≡ 2 → (is_live cells id ≡ true → (slot : ℕ) → NamesLiveAt cells id slot) → ⊥
names-kept cells rule id (no_root d) e h = absurd (omega (arith, e))
names-kept cells rule id (names_none x slot l n d) e h = let no : true ≡ false = sym (h l slot n) ∙ d in cc
names-kept cells rule id (miscounts x l n) e h = absurd (omega (arith, e))
names-kept cells rule id (in_cycle x w) e h = absurd (omega (arith, e))

-- a slot that the cell hasn't is null
pub past-null : (c : Cell) (slots slot : ℕ) → length c.pointers ≡ slots → slots ≤ slot → (pointer_in c slot).target ≡ 0
past-null c slots slot l h = ap (λ (p : Pointer). p.target) (get_or_past c.pointers slot null (omega (arith, l, h)))

pub past-names : (cells : List Cell) (slots id slot : ℕ) → IsFormedAt slots cells id → slots ≤ slot → NamesLiveAt cells id slot
past-names cells slots id slot f h n = absurd (n (past-null (cell_at cells id) slots slot f.slotted h))

pub all-names : (cells : List Cell) (slots n id : ℕ) → IsFormedAt slots cells id → slots ≤ n → ((k : ℕ) → k < n → NamesLiveAt cells id k) → (slot : ℕ) → NamesLiveAt cells id slot
all-names cells slots n id f long k slot = ⊎_elim (λ (l : slot < slots). k slot (omega (arith, l, long))) (λ (l : slots ≤ slot). past-names cells slots id slot f l) (cases_lt slot slots)

-- cells, each of which is formed, are those of pages
pub are-of-pages : (slots n ids : ℕ) (cells : List Cell) → cell_at cells 0 ≡ blank_cell false slots → length cells ≡ ids + 1 → length cells ≤ n → ((x : ℕ) → 0 < x → x < n → IsFormedAt slots cells x) → AreOfPages slots ids cells
are-of-pages slots n ids cells z size long f = record {
  none = ap (λ (c : Cell). c.live) z;
  sized = size ∙ add-one ids;
  empty = λ id low dead. ⊎_elim (λ (e : id ≡ 0). ap (λ (i : ℕ). cell_at cells i) e ∙ z) (λ (m : id ≢ 0). (f id (omega (arith, m)) (omega (arith, low, long))).empty dead) (cases_eq id 0);
  slotted = λ id live. (f id (let m = live-there cells id (ap (λ (c : Cell). c.live) z) live in omega (arith, m)) (let w = live-within cells id live in omega (arith, w, long))).slotted;
}

-- ---- the third rule

pub counts-kept : (cells : List Cell) (rule id : ℕ) → BreaksRule cells rule id → rule ≡ 3 → (is_live cells id ≡ true → IsExactAt cells id) → ⊥
counts-kept cells rule id (no_root d) e h = absurd (omega (arith, e))
counts-kept cells rule id (names_none x slot l n d) e h = absurd (omega (arith, e))
counts-kept cells rule id (miscounts x l n) e h = n (h l)
counts-kept cells rule id (in_cycle x w) e h = absurd (omega (arith, e))

-- ---- the fourth rule

pub cycle-kept : (cells : List Cell) (rule id : ℕ) → BreaksRule cells rule id → rule ≡ 4 → (StrongPath cells id id → ⊥) → ⊥
cycle-kept cells rule id (no_root d) e h = absurd (omega (arith, e))
cycle-kept cells rule id (names_none x slot l n d) e h = absurd (omega (arith, e))
cycle-kept cells rule id (miscounts x l n) e h = absurd (omega (arith, e))
cycle-kept cells rule id (in_cycle x w) e h = h w

-- ---- what the second rule gives

-- what a slot of an object names is an object
pub named-live : (cells : List Cell) (id slot : ℕ) → IsKept cells 2 → is_live cells id ≡ true → (pointer_at cells id slot).target ≢ 0 → is_live cells (pointer_at cells id slot).target ≡ true
named-live cells id slot k l n = by (is_live cells (pointer_at cells id slot).target) refl
  where
    by : (b : Bool) → is_live cells (pointer_at cells id slot).target ≡ b → is_live cells (pointer_at cells id slot).target ≡ true
    by true e = e
    by false e = absurd (k id (names_none id slot l n e))

pub named-within : (cells : List Cell) (id slot t : ℕ) → IsKept cells 2 → is_live cells id ≡ true → t ≡ (pointer_at cells id slot).target → t ≢ 0 → t < length cells
named-within cells id slot t k l e n = live-within cells t (subst (λ (x : ℕ). is_live cells x ≡ true) (sym e) (named-live cells id slot k l (λ z. n (e ∙ z))))

-- ---- all four

pub root-live : (cells : List Cell) (rule id : ℕ) → BreaksRule cells rule id → rule < 2 → is_live cells 1 ≡ true → ⊥
root-live cells rule id (no_root d) h l = let no : true ≡ false = sym l ∙ d in cc
root-live cells rule id (names_none x slot l n d) h live = absurd (omega (arith, h))
root-live cells rule id (miscounts x l n) h live = absurd (omega (arith, h))
root-live cells rule id (in_cycle x w) h live = absurd (omega (arith, h))

pub most-rules : (cells : List Cell) (rule id : ℕ) → BreaksRule cells rule id → (1 ≤ rule) × (rule ≤ 4)
most-rules cells rule id (no_root d) = (omega arith, omega arith)
most-rules cells rule id (names_none x slot l n d) = (omega arith, omega arith)
most-rules cells rule id (miscounts x l n) = (omega arith, omega arith)
most-rules cells rule id (in_cycle x w) = (omega arith, omega arith)

pub first-root : (cells : List Cell) → is_live cells 0 ≡ false → is_live cells 1 ≡ false → IsFirstBroken cells 1 1
first-root cells z d = record {
  breaks = no_root d;
  lower_kept = λ r x low b. let m = (most-rules cells r x b).0 in omega (arith, low, m);
  least = λ x low b. root-only x low 1 refl b;
}
  where
    root-only : (x : ℕ) → x < 1 → (rule : ℕ) → rule ≡ 1 → BreaksRule cells rule x → ⊥
    root-only x low rule e (no_root d) = absurd (omega (arith, low))
    root-only x low rule e (names_none y slot l n d) = absurd (omega (arith, e))
    root-only x low rule e (miscounts y l n) = absurd (omega (arith, e))
    root-only x low rule e (in_cycle y w) = absurd (omega (arith, e))

-- the rules below this number are kept
abbrev pub AreKeptBelow : List Cell → ℕ → Type 0
AreKeptBelow cells rule = (r x : ℕ) → r < rule → BreaksRule cells r x → ⊥

pub kept-below-2 : (cells : List Cell) → is_live cells 1 ≡ true → AreKeptBelow cells 2
kept-below-2 cells l r x low b = root-live cells r x b low l

pub kept-below-next : (cells : List Cell) (rule next : ℕ) → next ≡ rule + 1 → AreKeptBelow cells rule → IsKept cells rule → AreKeptBelow cells next
kept-below-next cells rule next e k h r x low = ⊎_elim (λ (l : r < rule). k r x l) (λ (l : rule ≤ r). let e : rule ≡ r = omega (arith, l, low, e) in subst (λ (q : ℕ). BreaksRule cells q x → ⊥) e (h x)) (cases_lt r rule)

pub first-of : (cells : List Cell) (rule id : ℕ) → AreKeptBelow cells rule → IsLeast cells rule id → IsFirstBroken cells rule id
first-of cells rule id k l = record { breaks = l.breaks; lower_kept = k; least = l.least }

pub all-rules : (cells : List Cell) → AreKeptBelow cells 5 → (rule id : ℕ) → BreaksRule cells rule id → ⊥
all-rules cells k rule id b = k rule id (let m = (most-rules cells rule id b).1 in omega (arith, m)) b

-- ---- a free cell

pub free-blank : {slots : ℕ} (id : ℕ) (c : PageCell slots) → IsCell id c → c.live ≡ false → cell_of c ≡ blank_cell false slots
free-blank {slots} id c r dead = ap cell_of (r.free dead) ∙ ap (λ (ps : List Pointer). blank-with ps) (pointers_from-replicate 0 slots)
  where
    blank-with : List Pointer → Cell
    blank-with ps = record { live = false; bit = false; strong = 0; weak = 0; payload = 0; pointers = ps }

-- ---- counts that aren't exact

pub wrong-strong : (cells : List Cell) (id strong count own : ℕ) (bit : Bool) → is_live cells id ≡ true → strong ≡ (cell_at cells id).strong → (cell_at cells id).bit ≡ bit → count ≡ pointers_to cells id bit → own ≡ own_strong id
    → not (strong == count + own) ≡ true → BreaksRule cells 3 id
wrong-strong cells id strong count own bit l s b k o wrong =
    miscounts id l
    (λ e.
    let k2 : count ≡ pointers_to cells id (cell_at cells id).bit = k ∙ ap (λ (b : Bool). pointers_to cells id b) (sym b) in
    let e1 = e.strong in
    let same : strong ≡ count + own = omega (arith, s, e1, k2, o) in
    let no : true ≡ false = sym wrong ∙ ap (λ (b : Bool). not b) (eq-eqb strong (count + own) same) in
    cc)

pub wrong-weak : (cells : List Cell) (id weak count : ℕ) (bit other : Bool) → is_live cells id ≡ true → weak ≡ (cell_at cells id).weak → (cell_at cells id).bit ≡ bit → not bit ≡ other → count ≡ pointers_to cells id other
    → not (weak == count) ≡ true → BreaksRule cells 3 id
wrong-weak cells id weak count bit other l s b o k wrong =
    miscounts id l
    (λ e.
    let same : weak ≡ count = s ∙ (e.weak ∙ (ap (λ (b : Bool). pointers_to cells id (not b)) b ∙ (ap (λ (b : Bool). pointers_to cells id b) o ∙ sym k))) in
    let no : true ≡ false = sym wrong ∙ ap (λ (b : Bool). not b) (eq-eqb weak count same) in
    cc)
