-- Where the walk over the words stands, and what is decided at their end.
use Rattle.std.proofs.Common.{◌≡◌, ◌∙◌, inl, inr, ap, refl, subst, ℕ, true, false, List, [], ◌∷◌, Option, Some, None, is_some, option_map, codes, unwrap_or}
use Rattle.std.specs.List.{before_first}
use Rattle.clap.specs.Words.{Row, Text}
use Rattle.clap.specs.Walk.{Waiting, Walk, idle, option, walked, settled_rows}
use Rattle.clap.specs.Faults.{settle_fault, walk_fault}
use Rattle.call_generator.specs.Options.{Given, is_equals, only}
use Rattle.call_generator.proofs.OptionNames.{Name, of_seed, of_clients, of_txns, id_of, word_of, Fields, all_values, ask, ask-end}
use Rattle.call_generator.proofs.WordViews.{IsOther, View, ends, long, short, plain, view}
use Rattle.call_generator.proofs.OptionRows.{Have, found, row_at, rules}
use Rattle.call_generator.proofs.WordTurns.{Fails, Known, known, unknown, Pending, at, end-fails, fails-as, held, known-fails, name-view, plain-fails, short-fails, total, total-fails, total-goes, trailing-fails, turn, unknown-fails}
use Rattle.call_generator.proofs.WordEnds.{end-is, finished-is, missing, missing-fails, none-missing}
use Rattle.call_generator.proofs.Decided.{Decided}

-- ---- where the walk stands

pub data Stage : Type 0 where
  between : Pending → Stage
  behind : Name → Stage

abbrev pub walk_at : Stage → List Row → Walk
walk_at (between pending) rows = at idle false rows pending
walk_at (behind n) rows = at (option (id_of n)) false rows (Some (id_of n, []))

abbrev pub awaited_at : Stage → Option Text
awaited_at (between pending) = None
awaited_at (behind n) = Some (word_of n)

-- the rows have what was read, once what is pending is used
abbrev pub Stands : Stage → List Row → Fields → Type 0
Stands (between pending) rows f = (settle_fault rules false (held rows pending) ≡ []) × Have (settled_rows rules pending rows) f
Stands (behind n) rows f = Have rows f

-- ---- the last word

given-all : (a b c : Text) → Name → Text
given-all a b c of_seed = a
given-all a b c of_clients = b
given-all a b c of_txns = c

total-end : (rows : List Row) (pending : Pending) (f : Fields) → Stands (between pending) rows f → total (walk_at (between pending) rows) [] ≡ missing (is_some (f of_seed)) (is_some (f of_clients)) (is_some (f of_txns))
unfolding walk_fault
total-end rows pending f h = end-is rows pending f h.0 h.1

one-missing : (n : Name) (rows : List Row) (pending : Pending) (f : Fields) → Stands (between pending) rows f → f n ≡ None → Decided (walk_at (between pending) rows) None [] f
one-missing n rows pending f h e = inl (record {
  fails = fails-as _ _ (total-end rows pending f h) (missing-fails n f e);
  asks = λ more is. subst (λ (x : List Given). ask f x ≡ None) (ap (λ (x : Option (List Given)). unwrap_or x []) is) (ask-end n f e);
})

values-given : (a b c : Text) (f : Fields) → f of_seed ≡ Some a → f of_clients ≡ Some b → f of_txns ≡ Some c → (n : Name) → only (all_values f n []) ≡ Some (given-all a b c n)
unfolding given-all
values-given a b c f e g h of_seed = rw e refl
values-given a b c f e g h of_clients = rw g refl
values-given a b c f e g h of_txns = rw h refl

field-given : (a b c : Text) (f : Fields) → f of_seed ≡ Some a → f of_clients ≡ Some b → f of_txns ≡ Some c → (n : Name) → f n ≡ Some (given-all a b c n)
unfolding given-all
field-given a b c f e g h of_seed = e
field-given a b c f e g h of_clients = g
field-given a b c f e g h of_txns = h

all-there : (a b c : Text) (rows : List Row) (pending : Pending) (f : Fields) → Stands (between pending) rows f → f of_seed ≡ Some a → f of_clients ≡ Some b → f of_txns ≡ Some c → Decided (walk_at (between pending) rows) None [] f
all-there a b c rows pending f h e g i = inr (record {
  passes = total-end rows pending f h ∙ none-missing f (ap is_some e) (ap is_some g) (ap is_some i);
  more = [];
  options = refl;
  names = refl;
  given = given-all a b c;
  values = values-given a b c f e g i;
  rows = λ n. ap (found n) (finished-is rows pending) ∙ h.1 n ∙ ap (option_map (row_at n)) (field-given a b c f e g i n);
})

pub law-end : (rows : List Row) (pending : Pending) (f : Fields) → Stands (between pending) rows f → Decided (walk_at (between pending) rows) None [] f
law-end rows pending f h = go (f of_seed) refl (f of_clients) refl (f of_txns) refl
  where
    go : (a : Option Text) → f of_seed ≡ a → (b : Option Text) → f of_clients ≡ b → (c : Option Text) → f of_txns ≡ c → Decided (walk_at (between pending) rows) None [] f
    go None e b g c i = one-missing of_seed rows pending f h e
    go (Some a) e None g c i = one-missing of_clients rows pending f h g
    go (Some a) e (Some b) g None i = one-missing of_txns rows pending f h i
    go (Some a) e (Some b) g (Some c) i = all-there a b c rows pending f h e g i

-- ---- where what is pending will be refused

pub trailing-after : (waiting : Waiting) (rows : List Row) (pending : Pending) (words : List Text) → Fails (settle_fault rules false (held rows pending)) → Fails (total (at waiting true rows pending) words)
trailing-after waiting rows pending [] h = end-fails (at waiting true rows pending) h
trailing-after waiting rows pending (word ∷ words) h = total-fails (at waiting true rows pending) word words (trailing-fails waiting rows pending word)

pub ends-turn : (waiting : Waiting) (rows : List Row) (pending : Pending) → turn (at waiting false rows pending) (codes "--") ≡ []
ends-turn idle rows pending = refl
ends-turn (option id) rows pending = refl
ends-turn _ rows pending = refl

pub ends-walk : (waiting : Waiting) (rows : List Row) (pending : Pending) → walked rules [] (at waiting false rows pending) (codes "--") ≡ at waiting true rows pending
unfolding walked
ends-walk idle rows pending = refl
ends-walk (option id) rows pending = refl
ends-walk _ rows pending = refl

pub ends-total : (waiting : Waiting) (rows : List Row) (pending : Pending) (words : List Text) → total (at waiting false rows pending) (codes "--" ∷ words) ≡ total (at waiting true rows pending) words
ends-total waiting rows pending words = total-goes (at waiting false rows pending) (at waiting true rows pending) (codes "--") words (ends-turn waiting rows pending) (ends-walk waiting rows pending)

pub long-fails : (waiting : Waiting) (rows : List Row) (pending : Pending) (x : ℕ) (xs : Text) → Fails (settle_fault rules false (held rows pending)) → Fails (turn (at waiting false rows pending) (45 ∷ 45 ∷ x ∷ xs))
long-fails waiting rows pending x xs h = go (name-view (before_first is_equals (x ∷ xs)))
  where
    go : Known (before_first is_equals (x ∷ xs)) → Fails (turn (at waiting false rows pending) (45 ∷ 45 ∷ x ∷ xs))
    go (known n e) = known-fails waiting rows pending x xs n e h
    go (unknown e o) = unknown-fails waiting rows pending x xs e

pub doomed : (words : List Text) (rows : List Row) (pending : Pending) → Fails (settle_fault rules false (held rows pending)) → Fails (total (at idle false rows pending) words)
doomed [] rows pending h = end-fails (at idle false rows pending) h
doomed (word ∷ words) rows pending h = go (view word)
  where
    go : View word → Fails (total (at idle false rows pending) (word ∷ words))
    go (ends e) = fails-as _ _ (ap (λ (x : Text). total (at idle false rows pending) (x ∷ words)) e ∙ ends-total idle rows pending words) (trailing-after idle rows pending words h)
    go (long x xs e) = total-fails (at idle false rows pending) word words (fails-as _ _ (ap (turn (at idle false rows pending)) e) (long-fails idle rows pending x xs h))
    go (short x xs e ne o) = total-fails (at idle false rows pending) word words (fails-as _ _ (ap (turn (at idle false rows pending)) e) (short-fails rows pending x xs ne (subst IsOther e o)))
    go (plain s o) = total-fails (at idle false rows pending) word words (plain-fails rows pending word o s)
