-- What is decided by the next word, where it is decided for the words after it.
use Rattle.std.proofs.Common.{◌≡◌, ◌∙◌, inl, ap, refl, sym, subst, ℕ, Bool, true, false, ◌==◌, List, [], ◌∷◌, Option, Some, None, codes}
use Rattle.std.specs.List.{before_first, after_first, list_any}
use Rattle.clap.specs.Words.{Row, Text}
use Rattle.clap.specs.Walk.{Waiting, idle, option, walked, settled_rows, used}
use Rattle.clap.specs.Faults.{walk_fault}
use Rattle.call_generator.specs.Options.{Given, is_equals, is_name, options_of, split}
use Rattle.call_generator.proofs.OptionNames.{Name, id_of, word_of, word-id, Fields, put, ask, ask-twice, ask-bad, ask-unknown, hyphen-bad, IsBad}
use Rattle.call_generator.proofs.WordViews.{IsOther, View, ends, long, short, plain, view, split-long, all-before}
use Rattle.call_generator.proofs.OptionRows.{Have, have-put, rule_at, rules, use-once, use-twice}
use Rattle.call_generator.proofs.WordTurns.{Fails, Known, known, unknown, Pending, at, fails-as, flag-word-fails, flag_of, known-twice, name-turn, name-view, name-walk, pending-fails, pending-settles, pending-used, plain-fails, plain-turn, plain-walk, rows-go, short-fails, short-plain-turn, short-plain-walk, total, total-fails, total-goes, trailing-fails, turn, unknown-fails, value-turn, value-walk}
use Rattle.call_generator.proofs.Decided.{Decided, pass-on, with_option, asks-none, no-options, asks-behind, carry}
use Rattle.call_generator.proofs.LastWords.{Stage, between, behind, walk_at, awaited_at, Stands, law-end, trailing-after, ends-walk, ends-total, long-fails, doomed}

-- ---- a word between two options

other-asks : (word : Text) (words : List Text) (f : Fields) → IsOther word → (more : List Given) → options_of None (word ∷ words) ≡ Some more → ask f more ≡ None
other-asks word words f o = go (list_any is_equals word) refl
  where
    go : (b : Bool) → list_any is_equals word ≡ b → (more : List Given) → options_of None (word ∷ words) ≡ Some more → ask f more ≡ None
    go true e = asks-none (split word) f (options_of None words) (options_of None (word ∷ words)) (rw (o.no_end, e) refl) (λ more is. ask-unknown (before_first is_equals word) (after_first is_equals word) f more o.no_front)
    go false e = λ more is. asks-behind word words f (λ value rest. ask-unknown word value f rest o.no_name) more (let same : options_of None (word ∷ words) ≡ options_of (Some word) words = rw (o.no_end, e) refl in sym same ∙ is)

-- `--NAME=VALUE`
value-options : (x : ℕ) (xs : Text) (words : List Text) → list_any is_equals (x ∷ xs) ≡ true
    → options_of None ((45 ∷ 45 ∷ x ∷ xs) ∷ words) ≡ with_option (45 ∷ 45 ∷ before_first is_equals (x ∷ xs), after_first is_equals (x ∷ xs)) (options_of None words)
value-options x xs words e = rw e (ap (λ (g : Given). with_option g (options_of None words)) (split-long (x ∷ xs)))

-- `--NAME`
name-options : (x : ℕ) (xs : Text) (words : List Text) → list_any is_equals (x ∷ xs) ≡ false → options_of None ((45 ∷ 45 ∷ x ∷ xs) ∷ words) ≡ options_of (Some (45 ∷ 45 ∷ x ∷ xs)) words
name-options x xs words e = rw e refl

hyphens : (n : Name) (u : Text) → u ≡ id_of n → 45 ∷ 45 ∷ u ≡ word_of n
hyphens n u e = ap (λ (t : Text). 45 ∷ 45 ∷ t) e ∙ sym (word-id n)

-- `--`
trailing-end : (waiting : Waiting) (rows : List Row) (pending : Pending) → total (at waiting true rows pending) [] ≡ total (at waiting false rows pending) []
unfolding walk_fault
trailing-end waiting rows pending = refl

ends-next : (words : List Text) (rows : List Row) (pending : Pending) (f : Fields) → Stands (between pending) rows f → Decided (walk_at (between pending) rows) None (codes "--" ∷ words) f
ends-next [] rows pending f h =
    pass-on (at idle false rows pending) (at idle false rows pending) None None (codes "--" ∷ []) [] f (ends-total idle rows pending [] ∙ trailing-end idle rows pending)
    (rows-go (at idle false rows pending) (at idle true rows pending) (codes "--") [] (ends-walk idle rows pending))
    refl (law-end rows pending f h)
ends-next (word ∷ words) rows pending f h = inl (record {
  fails = fails-as _ _ (ends-total idle rows pending (word ∷ words)) (total-fails (at idle true rows pending) word words (trailing-fails idle rows pending word));
  asks = no-options f (options_of None (codes "--" ∷ word ∷ words)) refl;
})

module _ (words : List Text) (rec : (stage : Stage) (rows : List Row) (f : Fields) → Stands stage rows f → Decided (walk_at stage rows) (awaited_at stage) words f) where
  value-next : (n : Name) (x : ℕ) (xs : Text) (rows : List Row) (pending : Pending) (f : Fields) → Stands (between pending) rows f → before_first is_equals (x ∷ xs) ≡ id_of n → list_any is_equals (x ∷ xs) ≡ true → (o : Option Text) → f n ≡ o
      → Decided (walk_at (between pending) rows) None ((45 ∷ 45 ∷ x ∷ xs) ∷ words) f
  value-next n x xs rows pending f h e has None none =
      let v = after_first is_equals (x ∷ xs) in
      let w = at idle false rows pending in
      let after = at idle false (used (rule_at n) (v ∷ []) (settled_rows rules pending rows)) None in
      let walks = value-walk rows pending x xs n e has in
      let turns = value-turn rows pending x xs n e has h.0 (use-once n v (settled_rows rules pending rows) f h.1 none) in
      carry n v w after None ((45 ∷ 45 ∷ x ∷ xs) ∷ words) words f (total-goes w after (45 ∷ 45 ∷ x ∷ xs) words turns walks) (rows-go w after (45 ∷ 45 ∷ x ∷ xs) words walks)
      (value-options x xs words has ∙ ap (λ (name : Text). with_option (name, v) (options_of None words)) (hyphens n (before_first is_equals (x ∷ xs)) e))
      none
      (rec (between None) (used (rule_at n) (v ∷ []) (settled_rows rules pending rows)) (put n v f) (refl, have-put n v (settled_rows rules pending rows) f h.1 none))
  value-next n x xs rows pending f h e has (Some u) some =
      let v = after_first is_equals (x ∷ xs) in
      let w = at idle false rows pending in
      inl (record {
        fails = total-fails w (45 ∷ 45 ∷ x ∷ xs) words (known-twice rows pending x xs n e has (use-twice n u v (settled_rows rules pending rows) f h.1 some));
        asks = asks-none (word_of n, v) f (options_of None words) (options_of None ((45 ∷ 45 ∷ x ∷ xs) ∷ words))
            (value-options x xs words has ∙ ap (λ (name : Text). with_option (name, v) (options_of None words)) (hyphens n (before_first is_equals (x ∷ xs)) e))
            (λ more is. ask-twice n u v f more some);
      })

  name-next : (n : Name) (x : ℕ) (xs : Text) (rows : List Row) (pending : Pending) (f : Fields) → Stands (between pending) rows f → before_first is_equals (x ∷ xs) ≡ id_of n → list_any is_equals (x ∷ xs) ≡ false
      → Decided (walk_at (between pending) rows) None ((45 ∷ 45 ∷ x ∷ xs) ∷ words) f
  name-next n x xs rows pending f h e has =
      let w = at idle false rows pending in
      let after = at (option (id_of n)) false (settled_rows rules pending rows) (Some (id_of n, [])) in
      let walks = name-walk rows pending x xs n e has in
      let turns = name-turn rows pending x xs n e has h.0 in
      let whole : 45 ∷ 45 ∷ x ∷ xs ≡ word_of n = hyphens n (x ∷ xs) (sym (all-before (x ∷ xs) has) ∙ e) in
      pass-on w after None (Some (word_of n)) ((45 ∷ 45 ∷ x ∷ xs) ∷ words) words f (total-goes w after (45 ∷ 45 ∷ x ∷ xs) words turns walks) (rows-go w after (45 ∷ 45 ∷ x ∷ xs) words walks)
      (name-options x xs words has ∙ ap (λ (name : Text). options_of (Some name) words) whole)
      (rec (behind n) (settled_rows rules pending rows) f h.1)

  unknown-next : (x : ℕ) (xs : Text) (rows : List Row) (pending : Pending) (f : Fields) → Fails (turn (at idle false rows pending) (45 ∷ 45 ∷ x ∷ xs)) → is_name (45 ∷ 45 ∷ before_first is_equals (x ∷ xs)) ≡ false → (b : Bool) → list_any is_equals (x ∷ xs) ≡ b
      → Decided (walk_at (between pending) rows) None ((45 ∷ 45 ∷ x ∷ xs) ∷ words) f
  unknown-next x xs rows pending f fails o true has = inl (record {
    fails = total-fails (at idle false rows pending) (45 ∷ 45 ∷ x ∷ xs) words fails;
    asks = asks-none (45 ∷ 45 ∷ before_first is_equals (x ∷ xs), after_first is_equals (x ∷ xs)) f (options_of None words) (options_of None ((45 ∷ 45 ∷ x ∷ xs) ∷ words)) (value-options x xs words has) (λ more is. ask-unknown (45 ∷ 45 ∷ before_first is_equals (x ∷ xs)) (after_first is_equals (x ∷ xs)) f more o);
  })
  unknown-next x xs rows pending f fails o false has = inl (record {
    fails = total-fails (at idle false rows pending) (45 ∷ 45 ∷ x ∷ xs) words fails;
    asks = λ more is. asks-behind (45 ∷ 45 ∷ x ∷ xs) words f (λ value rest. ask-unknown (45 ∷ 45 ∷ x ∷ xs) value f rest (subst (λ (u : Text). is_name (45 ∷ 45 ∷ u) ≡ false) (all-before (x ∷ xs) has) o)) more (sym (name-options x xs words has) ∙ is);
  })

  long-next : (x : ℕ) (xs : Text) (rows : List Row) (pending : Pending) (f : Fields) → Stands (between pending) rows f → Decided (walk_at (between pending) rows) None ((45 ∷ 45 ∷ x ∷ xs) ∷ words) f
  long-next x xs rows pending f h = go (name-view (before_first is_equals (x ∷ xs))) (list_any is_equals (x ∷ xs)) refl
    where
      go : Known (before_first is_equals (x ∷ xs)) → (b : Bool) → list_any is_equals (x ∷ xs) ≡ b → Decided (walk_at (between pending) rows) None ((45 ∷ 45 ∷ x ∷ xs) ∷ words) f
      go (known n e) true has = value-next n x xs rows pending f h e has (f n) refl
      go (known n e) false has = name-next n x xs rows pending f h e has
      go (unknown e o) b has = unknown-next x xs rows pending f (unknown-fails idle rows pending x xs e) o b has

  other-next : (word : Text) (rows : List Row) (pending : Pending) (f : Fields) → IsOther word → Fails (turn (at idle false rows pending) word) → Decided (walk_at (between pending) rows) None (word ∷ words) f
  other-next word rows pending f o fails = inl (record { fails = total-fails (at idle false rows pending) word words fails; asks = other-asks word words f o })

  -- ---- a word after an option's name

  value-asks : (n : Name) (value : Text) (f : Fields) → ((more : List Given) → ask f ((word_of n, value) ∷ more) ≡ None) → (more : List Given) → options_of (Some (word_of n)) (value ∷ words) ≡ Some more → ask f more ≡ None
  value-asks n value f h = asks-none (word_of n, value) f (options_of None words) (options_of (Some (word_of n)) (value ∷ words)) refl (λ more e. h more)

  bad-next : (n : Name) (value : Text) (rows : List Row) (f : Fields) → IsBad value → Fails (total (walk_at (behind n) rows) (value ∷ words)) → Decided (walk_at (behind n) rows) (Some (word_of n)) (value ∷ words) f
  bad-next n value rows f bad fails = inl (record { fails = fails; asks = value-asks n value f (λ more. ask-bad n value f more bad) })

  plain-next : (n : Name) (value : Text) (rows : List Row) (f : Fields) → Have rows f → turn (walk_at (behind n) rows) value ≡ [] → walked rules [] (walk_at (behind n) rows) value ≡ at idle false rows (Some (id_of n, value ∷ []))
      → (o : Option Text) → f n ≡ o → Decided (walk_at (behind n) rows) (Some (word_of n)) (value ∷ words) f
  plain-next n value rows f h turns walks None none =
      let w = walk_at (behind n) rows in
      let after = at idle false rows (Some (id_of n, value ∷ [])) in
      carry n value w after (Some (word_of n)) (value ∷ words) words f (total-goes w after value words turns walks) (rows-go w after value words walks) refl none
      (rec (between (Some (id_of n, value ∷ []))) rows (put n value f) (pending-settles n value rows ∙ use-once n value rows f h none, subst (λ (rs : List Row). Have rs (put n value f)) (sym (pending-used n value rows)) (have-put n value rows f h none)))
  plain-next n value rows f h turns walks (Some u) some =
      let w = walk_at (behind n) rows in
      let after = at idle false rows (Some (id_of n, value ∷ [])) in
      inl (record {
        fails = fails-as _ _ (total-goes w after value words turns walks) (doomed words rows (Some (id_of n, value ∷ [])) (fails-as _ _ (pending-settles n value rows) (use-twice n u value rows f h some)));
        asks = value-asks n value f (λ more. ask-twice n u value f more some);
      })

  short-next : (n : Name) (x : ℕ) (xs : Text) (rows : List Row) (f : Fields) → Have rows f → (x == 45) ≡ false → IsOther (45 ∷ x ∷ xs) → (o : Option ℕ) → flag_of x xs ≡ o
      → Decided (walk_at (behind n) rows) (Some (word_of n)) ((45 ∷ x ∷ xs) ∷ words) f
  short-next n x xs rows f h ne o (Some c) flag = bad-next n (45 ∷ x ∷ xs) rows f (hyphen-bad (x ∷ xs)) (total-fails (walk_at (behind n) rows) (45 ∷ x ∷ xs) words (flag-word-fails (option (id_of n)) rows (Some (id_of n, [])) x xs c ne o flag))
  short-next n x xs rows f h ne o None flag = plain-next n (45 ∷ x ∷ xs) rows f h (short-plain-turn n rows x xs ne o flag) (short-plain-walk n rows x xs ne o flag) (f n) refl

  pub law-between : (word : Text) (rows : List Row) (pending : Pending) (f : Fields) → Stands (between pending) rows f → Decided (walk_at (between pending) rows) None (word ∷ words) f
  law-between word rows pending f h = go (view word)
    where
      go : View word → Decided (walk_at (between pending) rows) None (word ∷ words) f
      go (long x xs e) = subst (λ (t : Text). Decided (walk_at (between pending) rows) None (t ∷ words) f) (sym e) (long-next x xs rows pending f h)
      go (short x xs e ne o) = other-next word rows pending f o (fails-as _ _ (ap (turn (at idle false rows pending)) e) (short-fails rows pending x xs ne (subst IsOther e o)))
      go (plain s o) = other-next word rows pending f o (plain-fails rows pending word o s)
      go (ends e) = subst (λ (t : Text). Decided (walk_at (between pending) rows) None (t ∷ words) f) (sym e) (ends-next words rows pending f h)

  pub law-behind : (n : Name) (value : Text) (rows : List Row) (f : Fields) → Have rows f → Decided (walk_at (behind n) rows) (Some (word_of n)) (value ∷ words) f
  law-behind n value rows f h = go (view value)
    where
      go : View value → Decided (walk_at (behind n) rows) (Some (word_of n)) (value ∷ words) f
      go (long x xs e) = subst (λ (t : Text). Decided (walk_at (behind n) rows) (Some (word_of n)) (t ∷ words) f) (sym e) (bad-next n (45 ∷ 45 ∷ x ∷ xs) rows f (hyphen-bad (45 ∷ x ∷ xs)) (total-fails (walk_at (behind n) rows) (45 ∷ 45 ∷ x ∷ xs) words (long-fails (option (id_of n)) rows (Some (id_of n, [])) x xs (pending-fails n rows))))
      go (short x xs e ne o) = subst (λ (t : Text). Decided (walk_at (behind n) rows) (Some (word_of n)) (t ∷ words) f) (sym e) (short-next n x xs rows f h ne (subst IsOther e o) (flag_of x xs) refl)
      go (plain s o) = plain-next n value rows f h (plain-turn n rows value o s) (plain-walk n rows value o s) (f n) refl
      go (ends e) = subst (λ (t : Text). Decided (walk_at (behind n) rows) (Some (word_of n)) (t ∷ words) f) (sym e) (bad-next n (codes "--") rows f (hyphen-bad (45 ∷ [])) (fails-as _ _ (ends-total (option (id_of n)) rows (Some (id_of n, [])) words) (trailing-after (option (id_of n)) rows (Some (id_of n, [])) words (pending-fails n rows))))
