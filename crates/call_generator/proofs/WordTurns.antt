-- What clap makes of one word, between two options and after the name of one.
use Rattle.std.proofs.Common.{◌≡◌, ◌∙◌, ap, ap₂, refl, sym, ℕ, Bool, true, false, ◌==◌, if◌then◌else◌, List, [], ◌∷◌, length, Option, Some, None, codes, bytes_eq, slice_get, chars, fold}
use Rattle.std.proofs.lemmas.Slice.Eq.{bytes_eq-Decides}
use Rattle.std.specs.List.{before_first, after_first, list_any}
use Rattle.std.specs.Option.{option_map_or}
use Rattle.clap.specs.Words.{Rule, Row, Shape, Text}
use Rattle.clap.specs.Walk.{Held, Step, Waiting, Walk, idle, option, after_flag, after_step, arg_by_long, bundle_met, bundle_step, finished, long_met, plain, settled, settled_rows, short_or_plain, used, walked}
use Rattle.clap.specs.Lexer.{short_of}
use Rattle.clap.specs.Simple.{built}
use Rattle.clap.specs.Faults.{bundle_fault, bundle_step_fault, check_fault, defaults_fault, flags_fault, long_fault, settle_fault, step_fault, turn_fault, use_fault, walk_fault}
use Rattle.clap.specs.Kinds.{Kinds, or_else}
use Rattle.clap.specs.declared.error.kind.ErrorKind.{ErrorKind}
use Rattle.clap.specs.declared.error.kind.ErrorKind.TheVariants.{UnknownArgument}
use Rattle.call_generator.specs.GenCommand.{gen_app}
use Rattle.call_generator.specs.Options.{is_equals, is_name}
use Rattle.call_generator.proofs.OptionNames.{Name, of_seed, of_clients, of_txns, id_of}
use Rattle.call_generator.proofs.OptionRows.{rule_at, rules, by-long, no-value}
use Rattle.call_generator.proofs.WordViews.{IsOther}

abbrev pub Fails : Kinds → Type 0
Fails kinds = kinds ≡ [] → ⊥

pub some-fails : (k : ErrorKind) (ks : Kinds) → Fails (k ∷ ks)
some-fails k ks e = absurd (cc (e))

pub fails-as : (a b : Kinds) → a ≡ b → Fails b → Fails a
fails-as a b e h none = h (sym e ∙ none)

pub first-fails : (a b : Kinds) → Fails a → Fails (or_else a b)
first-fails [] b h e = h refl
first-fails (k ∷ ks) b h e = h e

pub then-fails : (a b : Kinds) → Fails b → Fails (or_else a b)
then-fails [] b h e = h e
then-fails (k ∷ ks) b h e = some-fails k ks e

pub past : (a b : Kinds) → a ≡ [] → or_else a b ≡ b
past a b e = ap (λ (k : Kinds). or_else k b) e

-- ---- the walk

abbrev pub shape : Shape
shape = (built gen_app).top

abbrev pub Pending : Type 0
Pending = Option (Text × List Text)

abbrev pub held : List Row → Pending → Held
held rows pending = record { rows = rows; pending = pending; skip = 0 }

abbrev pub at : Waiting → Bool → List Row → Pending → Walk
at waiting trailing rows pending = record {
  held = held rows pending;
  waiting = waiting;
  position = 1;
  is_trailing = trailing;
  stopped = None;
}

abbrev pub turn : Walk → Text → Kinds
turn w word = turn_fault shape [] w word

abbrev pub end_of : Walk → List Text → Held
end_of w words = (fold (walked rules []) w words).held

abbrev pub end_fault : Held → Kinds
end_fault h = or_else (settle_fault rules false h) (or_else (defaults_fault (settled rules h).rows rules) (check_fault shape (finished rules h) false))

-- the kinds that the words come to, and the rows
abbrev pub total : Walk → List Text → Kinds
total w words = or_else (walk_fault shape [] w words) (end_fault (end_of w words))

abbrev pub end_rows : Walk → List Text → List Row
end_rows w words = finished rules (end_of w words)

pub total-fails : (w : Walk) (word : Text) (words : List Text) → Fails (turn w word) → Fails (total w (word ∷ words))
unfolding walk_fault
total-fails w word words h = first-fails _ (end_fault (end_of w (word ∷ words))) (first-fails (turn w word) (walk_fault shape [] (walked rules [] w word) words) h)

pub total-goes : (w v : Walk) (word : Text) (words : List Text) → turn w word ≡ [] → walked rules [] w word ≡ v → total w (word ∷ words) ≡ total v words
unfolding walk_fault
total-goes w v word words h e =
    ap (λ (k : Kinds). or_else (or_else k (walk_fault shape [] (walked rules [] w word) words)) (end_fault (end_of w (word ∷ words)))) h
    ∙ ap (λ (x : Walk). total x words) e

pub rows-go : (w v : Walk) (word : Text) (words : List Text) → walked rules [] w word ≡ v → end_rows w (word ∷ words) ≡ end_rows v words
rows-go w v word words e = ap (λ (x : Walk). end_rows x words) e

pub end-fails : (w : Walk) → Fails (settle_fault rules false w.held) → Fails (total w [])
unfolding walk_fault
end-fails w h = first-fails (settle_fault rules false w.held) _ h

-- ---- after `--`

pub trailing-fails : (waiting : Waiting) (rows : List Row) (pending : Pending) (word : Text) → Fails (turn (at waiting true rows pending) word)
trailing-fails waiting rows pending word = some-fails UnknownArgument []

-- ---- names

pub data Known (name : Text) : Type 0 where
  known : (n : Name) → name ≡ id_of n → Known name
  unknown : arg_by_long rules name ≡ None → is_name (45 ∷ 45 ∷ name) ≡ false → Known name

flipped : (a b : Text) → bytes_eq a b ≡ false → bytes_eq b a ≡ false
flipped a b e = go (bytes_eq b a) refl
  where
    go : (t : Bool) → bytes_eq b a ≡ t → bytes_eq b a ≡ false
    go true h =
        let same : a ≡ b = sym ((bytes_eq-Decides b a).0 h) in
        let bad : bytes_eq a b ≡ true = (bytes_eq-Decides a b).1 same in
        absurd (cc (bad, e))
    go false h = h

pub name-view : (name : Text) → Known name
name-view name = go (bytes_eq (codes "seed") name) refl (bytes_eq (codes "clients") name) refl (bytes_eq (codes "txns") name) refl
  where
    go : (a : Bool) → bytes_eq (codes "seed") name ≡ a → (b : Bool) → bytes_eq (codes "clients") name ≡ b → (c : Bool) → bytes_eq (codes "txns") name ≡ c → Known name
    go true e b f c g = known of_seed (sym ((bytes_eq-Decides (codes "seed") name).0 e))
    go false e true f c g = known of_clients (sym ((bytes_eq-Decides (codes "clients") name).0 f))
    go false e false f true g = known of_txns (sym ((bytes_eq-Decides (codes "txns") name).0 g))
    go false e false f false g = unknown (rw (e, f, g) refl) (rw (flipped (codes "seed") name e, flipped (codes "clients") name f, flipped (codes "txns") name g) refl)

-- ---- an option's word

abbrev met_of : Waiting → Text → Option Rule → Option Text → Held → Held × Step
met_of waiting word o v h = after_flag rules waiting word (long_met rules o v h).0 (long_met rules o v h).1

abbrev turn_of : Waiting → Text → Option Rule → Option Text → Held → Kinds
turn_of waiting word o v h = or_else (long_fault rules false o v h) (step_fault shape 1 (met_of waiting word o v h).0 (met_of waiting word o v h).1)

abbrev walk_of : Waiting → Text → Option Rule → Option Text → List Row → Pending → Walk
walk_of waiting word o v rows pending = after_step rules word (at waiting false rows pending) (met_of waiting word o v (held rows pending)).0 (met_of waiting word o v (held rows pending)).1

abbrev value_in : Text → Option Text
value_in u = if list_any is_equals u then Some (after_first is_equals u) else None

long-turn : (waiting : Waiting) (rows : List Row) (pending : Pending) (x : ℕ) (xs : Text)
    → turn (at waiting false rows pending) (45 ∷ 45 ∷ x ∷ xs) ≡ turn_of waiting (45 ∷ 45 ∷ x ∷ xs) (arg_by_long rules (before_first is_equals (x ∷ xs))) (value_in (x ∷ xs)) (held rows pending)
long-turn idle rows pending x xs = refl
long-turn (option id) rows pending x xs = refl
long-turn _ rows pending x xs = refl

long-walk : (waiting : Waiting) (rows : List Row) (pending : Pending) (x : ℕ) (xs : Text)
    → walked rules [] (at waiting false rows pending) (45 ∷ 45 ∷ x ∷ xs) ≡ walk_of waiting (45 ∷ 45 ∷ x ∷ xs) (arg_by_long rules (before_first is_equals (x ∷ xs))) (value_in (x ∷ xs)) rows pending
unfolding walked
long-walk idle rows pending x xs = refl
long-walk (option id) rows pending x xs = refl
long-walk _ rows pending x xs = refl

rule-known : (u : Text) (n : Name) → before_first is_equals u ≡ id_of n → arg_by_long rules (before_first is_equals u) ≡ Some (rule_at n)
rule-known u n e = ap (arg_by_long rules) e ∙ by-long n

value-there : (u : Text) → list_any is_equals u ≡ true → value_in u ≡ Some (after_first is_equals u)
value-there u e = ap (λ (b : Bool). if b then Some (after_first is_equals u) else None) e

value-missing : (u : Text) → list_any is_equals u ≡ false → value_in u ≡ None
value-missing u e = ap (λ (b : Bool). if b then Some (after_first is_equals u) else None) e

pub unknown-fails : (waiting : Waiting) (rows : List Row) (pending : Pending) (x : ℕ) (xs : Text) → arg_by_long rules (before_first is_equals (x ∷ xs)) ≡ None → Fails (turn (at waiting false rows pending) (45 ∷ 45 ∷ x ∷ xs))
unknown-fails waiting rows pending x xs e =
    fails-as _ (turn_of waiting (45 ∷ 45 ∷ x ∷ xs) None (value_in (x ∷ xs)) (held rows pending))
    (long-turn waiting rows pending x xs ∙ ap (λ (o : Option Rule). turn_of waiting (45 ∷ 45 ∷ x ∷ xs) o (value_in (x ∷ xs)) (held rows pending)) e)
    (some-fails UnknownArgument _)

option-fails : (waiting : Waiting) (word : Text) (n : Name) (v : Option Text) (h : Held) → Fails (settle_fault rules false h) → Fails (turn_of waiting word (Some (rule_at n)) v h)
option-fails waiting word n (Some v) h fails = first-fails _ _ (first-fails (settle_fault rules false h) _ fails)
option-fails waiting word n None h fails = first-fails (settle_fault rules false h) _ fails

-- an option's word, where what is pending is refused
pub known-fails : (waiting : Waiting) (rows : List Row) (pending : Pending) (x : ℕ) (xs : Text) (n : Name) → before_first is_equals (x ∷ xs) ≡ id_of n
    → Fails (settle_fault rules false (held rows pending)) → Fails (turn (at waiting false rows pending) (45 ∷ 45 ∷ x ∷ xs))
known-fails waiting rows pending x xs n e h =
    fails-as _ (turn_of waiting (45 ∷ 45 ∷ x ∷ xs) (Some (rule_at n)) (value_in (x ∷ xs)) (held rows pending))
    (long-turn waiting rows pending x xs ∙ ap (λ (o : Option Rule). turn_of waiting (45 ∷ 45 ∷ x ∷ xs) o (value_in (x ∷ xs)) (held rows pending)) (rule-known (x ∷ xs) n e))
    (option-fails waiting (45 ∷ 45 ∷ x ∷ xs) n (value_in (x ∷ xs)) (held rows pending) h)

pub known-twice : (rows : List Row) (pending : Pending) (x : ℕ) (xs : Text) (n : Name) → before_first is_equals (x ∷ xs) ≡ id_of n → list_any is_equals (x ∷ xs) ≡ true
    → Fails (use_fault false (rule_at n) (after_first is_equals (x ∷ xs) ∷ []) (settled_rows rules pending rows)) → Fails (turn (at idle false rows pending) (45 ∷ 45 ∷ x ∷ xs))
known-twice rows pending x xs n e has h =
    fails-as _ (turn_of idle (45 ∷ 45 ∷ x ∷ xs) (Some (rule_at n)) (Some (after_first is_equals (x ∷ xs))) (held rows pending))
    (long-turn idle rows pending x xs ∙ ap₂ (λ (o : Option Rule) (v : Option Text). turn_of idle (45 ∷ 45 ∷ x ∷ xs) o v (held rows pending)) (rule-known (x ∷ xs) n e) (value-there (x ∷ xs) has))
    (first-fails _ _ (then-fails (settle_fault rules false (held rows pending)) _ h))

pub value-turn : (rows : List Row) (pending : Pending) (x : ℕ) (xs : Text) (n : Name) → before_first is_equals (x ∷ xs) ≡ id_of n → list_any is_equals (x ∷ xs) ≡ true
    → settle_fault rules false (held rows pending) ≡ [] → use_fault false (rule_at n) (after_first is_equals (x ∷ xs) ∷ []) (settled_rows rules pending rows) ≡ []
    → turn (at idle false rows pending) (45 ∷ 45 ∷ x ∷ xs) ≡ []
value-turn rows pending x xs n e has settle once =
    long-turn idle rows pending x xs
    ∙ ap₂ (λ (o : Option Rule) (v : Option Text). turn_of idle (45 ∷ 45 ∷ x ∷ xs) o v (held rows pending)) (rule-known (x ∷ xs) n e) (value-there (x ∷ xs) has)
    ∙ past _ [] (past _ _ settle ∙ once)

pub value-walk : (rows : List Row) (pending : Pending) (x : ℕ) (xs : Text) (n : Name) → before_first is_equals (x ∷ xs) ≡ id_of n → list_any is_equals (x ∷ xs) ≡ true
    → walked rules [] (at idle false rows pending) (45 ∷ 45 ∷ x ∷ xs) ≡ at idle false (used (rule_at n) (after_first is_equals (x ∷ xs) ∷ []) (settled_rows rules pending rows)) None
value-walk rows pending x xs n e has =
    long-walk idle rows pending x xs
    ∙ ap₂ (λ (o : Option Rule) (v : Option Text). walk_of idle (45 ∷ 45 ∷ x ∷ xs) o v rows pending) (rule-known (x ∷ xs) n e) (value-there (x ∷ xs) has)

pub name-turn : (rows : List Row) (pending : Pending) (x : ℕ) (xs : Text) (n : Name) → before_first is_equals (x ∷ xs) ≡ id_of n → list_any is_equals (x ∷ xs) ≡ false
    → settle_fault rules false (held rows pending) ≡ [] → turn (at idle false rows pending) (45 ∷ 45 ∷ x ∷ xs) ≡ []
name-turn rows pending x xs n e has settle =
    long-turn idle rows pending x xs
    ∙ ap₂ (λ (o : Option Rule) (v : Option Text). turn_of idle (45 ∷ 45 ∷ x ∷ xs) o v (held rows pending)) (rule-known (x ∷ xs) n e) (value-missing (x ∷ xs) has)
    ∙ past _ [] settle

pub name-walk : (rows : List Row) (pending : Pending) (x : ℕ) (xs : Text) (n : Name) → before_first is_equals (x ∷ xs) ≡ id_of n → list_any is_equals (x ∷ xs) ≡ false
    → walked rules [] (at idle false rows pending) (45 ∷ 45 ∷ x ∷ xs) ≡ at (option (id_of n)) false (settled_rows rules pending rows) (Some (id_of n, []))
name-walk rows pending x xs n e has =
    long-walk idle rows pending x xs
    ∙ ap₂ (λ (o : Option Rule) (v : Option Text). walk_of idle (45 ∷ 45 ∷ x ∷ xs) o v rows pending) (rule-known (x ∷ xs) n e) (value-missing (x ∷ xs) has)

-- ---- another word between two options

pub plain-fails : (rows : List Row) (pending : Pending) (word : Text) → IsOther word → short_of word ≡ None → Fails (turn (at idle false rows pending) word)
plain-fails rows pending word o s = fails-as _ (UnknownArgument ∷ []) (rw (o.no_end, o.no_long, s) refl) (some-fails UnknownArgument [])

abbrev flag_met : Waiting → Text → Text → Text → Option ℕ → Held → Held × Step
flag_met waiting word flags rest o h =
    let met = bundle_step rules o flags 0 plain h (bundle_met rules (length rest)) in
    after_flag rules waiting word met.0 met.1

abbrev flag_turn : Waiting → Text → Text → Text → Option ℕ → Held → Kinds
flag_turn waiting word flags rest o h = or_else (bundle_step_fault rules false o flags 0 h (flags_fault rules false (length rest))) (step_fault shape 1 (flag_met waiting word flags rest o h).0 (flag_met waiting word flags rest o h).1)

abbrev flag_walk : Waiting → Text → Text → Text → Option ℕ → List Row → Pending → Walk
flag_walk waiting word flags rest o rows pending = after_step rules word (at waiting false rows pending) (flag_met waiting word flags rest o (held rows pending)).0 (flag_met waiting word flags rest o (held rows pending)).1

-- the first character after the hyphen, where the text has one
abbrev pub flag_of : ℕ → Text → Option ℕ
flag_of x xs = slice_get (chars (x ∷ xs)) 0

abbrev word_turn : Waiting → Text → Option Text → Held → Kinds
word_turn waiting word s h = or_else (option_map_or (λ flags. bundle_fault rules false flags h) s []) (step_fault shape 1 (short_or_plain rules waiting word s h).0 (short_or_plain rules waiting word s h).1)

abbrev word_walk : Waiting → Text → Option Text → List Row → Pending → Walk
word_walk waiting word s rows pending = after_step rules word (at waiting false rows pending) (short_or_plain rules waiting word s (held rows pending)).0 (short_or_plain rules waiting word s (held rows pending)).1

other-turn : (waiting : Waiting) (rows : List Row) (pending : Pending) (word : Text) → IsOther word → turn (at waiting false rows pending) word ≡ word_turn waiting word (short_of word) (held rows pending)
other-turn idle rows pending word o = rw (o.no_end, o.no_long) refl
other-turn (option id) rows pending word o = rw (o.no_end, o.no_long) refl
other-turn _ rows pending word o = rw (o.no_end, o.no_long) refl

other-walk : (waiting : Waiting) (rows : List Row) (pending : Pending) (word : Text) → IsOther word → walked rules [] (at waiting false rows pending) word ≡ word_walk waiting word (short_of word) rows pending
unfolding walked
other-walk idle rows pending word o = rw (o.no_end, o.no_long) refl
other-walk (option id) rows pending word o = rw (o.no_end, o.no_long) refl
other-walk _ rows pending word o = rw (o.no_end, o.no_long) refl

short-is : (x : ℕ) (xs : Text) → (x == 45) ≡ false → short_of (45 ∷ x ∷ xs) ≡ Some (x ∷ xs)
short-is x xs e = rw e refl

flags-turn : (waiting : Waiting) (word : Text) (x : ℕ) (xs : Text) (rows : List Row) (pending : Pending) → word_turn waiting word (Some (x ∷ xs)) (held rows pending) ≡ flag_turn waiting word (x ∷ xs) xs (flag_of x xs) (held rows pending)
unfolding flags_fault bundle_met
flags-turn waiting word x xs rows pending = refl

flags-walk : (waiting : Waiting) (word : Text) (x : ℕ) (xs : Text) (rows : List Row) (pending : Pending) → word_walk waiting word (Some (x ∷ xs)) rows pending ≡ flag_walk waiting word (x ∷ xs) xs (flag_of x xs) rows pending
unfolding bundle_met
flags-walk waiting word x xs rows pending = refl

short-turn : (waiting : Waiting) (rows : List Row) (pending : Pending) (x : ℕ) (xs : Text) → (x == 45) ≡ false → IsOther (45 ∷ x ∷ xs)
    → turn (at waiting false rows pending) (45 ∷ x ∷ xs) ≡ flag_turn waiting (45 ∷ x ∷ xs) (x ∷ xs) xs (flag_of x xs) (held rows pending)
short-turn waiting rows pending x xs e o =
    other-turn waiting rows pending (45 ∷ x ∷ xs) o
    ∙ ap (λ (s : Option Text). word_turn waiting (45 ∷ x ∷ xs) s (held rows pending)) (short-is x xs e)
    ∙ flags-turn waiting (45 ∷ x ∷ xs) x xs rows pending

short-walk : (waiting : Waiting) (rows : List Row) (pending : Pending) (x : ℕ) (xs : Text) → (x == 45) ≡ false → IsOther (45 ∷ x ∷ xs)
    → walked rules [] (at waiting false rows pending) (45 ∷ x ∷ xs) ≡ flag_walk waiting (45 ∷ x ∷ xs) (x ∷ xs) xs (flag_of x xs) rows pending
short-walk waiting rows pending x xs e o =
    other-walk waiting rows pending (45 ∷ x ∷ xs) o
    ∙ ap (λ (s : Option Text). word_walk waiting (45 ∷ x ∷ xs) s rows pending) (short-is x xs e)
    ∙ flags-walk waiting (45 ∷ x ∷ xs) x xs rows pending

-- a hyphen with a character after it is no option of the command
flag-fails : (waiting : Waiting) (word flags rest : Text) (c : ℕ) (h : Held) → Fails (flag_turn waiting word flags rest (Some c) h)
flag-fails waiting word flags rest c h = some-fails UnknownArgument _

stray-fails : (word flags rest : Text) (o : Option ℕ) (h : Held) → Fails (flag_turn idle word flags rest o h)
stray-fails word flags rest None h = some-fails UnknownArgument []
stray-fails word flags rest (Some c) h = flag-fails idle word flags rest c h

pub short-fails : (rows : List Row) (pending : Pending) (x : ℕ) (xs : Text) → (x == 45) ≡ false → IsOther (45 ∷ x ∷ xs) → Fails (turn (at idle false rows pending) (45 ∷ x ∷ xs))
short-fails rows pending x xs e o = fails-as _ _ (short-turn idle rows pending x xs e o) (stray-fails (45 ∷ x ∷ xs) (x ∷ xs) xs (flag_of x xs) (held rows pending))

pub flag-word-fails : (waiting : Waiting) (rows : List Row) (pending : Pending) (x : ℕ) (xs : Text) (c : ℕ) → (x == 45) ≡ false → IsOther (45 ∷ x ∷ xs) → flag_of x xs ≡ Some c → Fails (turn (at waiting false rows pending) (45 ∷ x ∷ xs))
flag-word-fails waiting rows pending x xs c e other f =
    fails-as _ (flag_turn waiting (45 ∷ x ∷ xs) (x ∷ xs) xs (Some c) (held rows pending))
    (short-turn waiting rows pending x xs e other ∙ ap (λ (o : Option ℕ). flag_turn waiting (45 ∷ x ∷ xs) (x ∷ xs) xs o (held rows pending)) f)
    (flag-fails waiting (45 ∷ x ∷ xs) (x ∷ xs) xs c (held rows pending))

-- ---- the value after an option's name

pub pending-fails : (n : Name) (rows : List Row) → Fails (settle_fault rules false (held rows (Some (id_of n, []))))
pending-fails of_seed rows = no-value of_seed rows
pending-fails of_clients rows = no-value of_clients rows
pending-fails of_txns rows = no-value of_txns rows

pub pending-settles : (n : Name) (v : Text) (rows : List Row) → settle_fault rules false (held rows (Some (id_of n, v ∷ []))) ≡ use_fault false (rule_at n) (v ∷ []) rows
pending-settles of_seed v rows = refl
pending-settles of_clients v rows = refl
pending-settles of_txns v rows = refl

pub pending-used : (n : Name) (v : Text) (rows : List Row) → settled_rows rules (Some (id_of n, v ∷ [])) rows ≡ used (rule_at n) (v ∷ []) rows
pending-used of_seed v rows = refl
pending-used of_clients v rows = refl
pending-used of_txns v rows = refl

pub plain-turn : (n : Name) (rows : List Row) (word : Text) → IsOther word → short_of word ≡ None → turn (at (option (id_of n)) false rows (Some (id_of n, []))) word ≡ []
plain-turn n rows word o s = rw (o.no_end, o.no_long, s) refl

pub plain-walk : (n : Name) (rows : List Row) (word : Text) → IsOther word → short_of word ≡ None
    → walked rules [] (at (option (id_of n)) false rows (Some (id_of n, []))) word ≡ at idle false rows (Some (id_of n, word ∷ []))
unfolding walked
plain-walk of_seed rows word o s = rw (o.no_end, o.no_long, s) refl
plain-walk of_clients rows word o s = rw (o.no_end, o.no_long, s) refl
plain-walk of_txns rows word o s = rw (o.no_end, o.no_long, s) refl

pub short-plain-turn : (n : Name) (rows : List Row) (x : ℕ) (xs : Text) → (x == 45) ≡ false → IsOther (45 ∷ x ∷ xs) → flag_of x xs ≡ None → turn (at (option (id_of n)) false rows (Some (id_of n, []))) (45 ∷ x ∷ xs) ≡ []
short-plain-turn n rows x xs e other f =
    short-turn (option (id_of n)) rows (Some (id_of n, [])) x xs e other
    ∙ ap (λ (o : Option ℕ). flag_turn (option (id_of n)) (45 ∷ x ∷ xs) (x ∷ xs) xs o (held rows (Some (id_of n, [])))) f

pub short-plain-walk : (n : Name) (rows : List Row) (x : ℕ) (xs : Text) → (x == 45) ≡ false → IsOther (45 ∷ x ∷ xs) → flag_of x xs ≡ None
    → walked rules [] (at (option (id_of n)) false rows (Some (id_of n, []))) (45 ∷ x ∷ xs) ≡ at idle false rows (Some (id_of n, (45 ∷ x ∷ xs) ∷ []))
short-plain-walk of_seed rows x xs e other f = short-walk (option (id_of of_seed)) rows (Some (id_of of_seed, [])) x xs e other ∙ ap (λ (o : Option ℕ). flag_walk (option (id_of of_seed)) (45 ∷ x ∷ xs) (x ∷ xs) xs o rows (Some (id_of of_seed, []))) f
short-plain-walk of_clients rows x xs e other f = short-walk (option (id_of of_clients)) rows (Some (id_of of_clients, [])) x xs e other ∙ ap (λ (o : Option ℕ). flag_walk (option (id_of of_clients)) (45 ∷ x ∷ xs) (x ∷ xs) xs o rows (Some (id_of of_clients, []))) f
short-plain-walk of_txns rows x xs e other f = short-walk (option (id_of of_txns)) rows (Some (id_of of_txns, [])) x xs e other ∙ ap (λ (o : Option ℕ). flag_walk (option (id_of of_txns)) (45 ∷ x ∷ xs) (x ∷ xs) xs o rows (Some (id_of of_txns, []))) f
