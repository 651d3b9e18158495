-- The marking of what is reachable by levels: how it begins, goes on, and ends.
use Rattle.std.proofs.Common.{◌≡◌, ◌≢◌, ℕ, zero, suc, ◌+◌, ◌≤◌, Bool, true, false, not, cond, List, [], ◌∷◌, length, map, refl, sym, ap, ◌∙◌, arith, ◌⊎◌, inl, inr, ⊎_elim, Some, None, eq-eqb, eqb-true, ne_eqb, drop, subst}
use Rattle.std.specs.Prelude.{◌↔◌, ◌&&◌, ◌||◌, ◌==◌, Contains}
use Rattle.std.specs.List.{list_any}
use Rattle.plain_model.specs.declared.object.Object.{Object}
use Rattle.plain_model.specs.Graphs.{object_at, root}
use Rattle.plain_model.specs.Reachable.{Reachable, IsClosed}
use Rattle.plain_model.proofs.ReachableLaws.{Reachable-least}
use Rattle.cell_model.specs.Cells.{Cell, cell_at, is_live, object_of}
use Rattle.cell_model.specs.Graph.{graph_of}
use Rattle.cell_page.specs.declared.cell.Cell.{Cell as PageCell}
use Rattle.cell_page.specs.Stored.{cell_of, pointers_from}
use Rattle.std.proofs.Math.Seq.{drop-append_seam}
use Rattle.restart_laws.proofs.GraphLaws.{graph-object, graph-live}
use Rattle.par_audit.proofs.FollowLaws.{live-past}
use Rattle.par_audit.specs.Marks.{is_marked, is_object, is_reached, is_in, is_named, slots_at, AreObjects, Follows}
use Rattle.par_audit.specs.Garbage.{IsUnreached}

-- an object of the level names this object of the graph in a slot
pub record IsNamedBy (g : List Object) (level : List ℕ) (y : ℕ) : Type 0 where
  pub namer : ℕ
  pub object : Object
  pub held : Contains level namer
  pub is : object_at g namer ≡ Some object
  pub named : Contains object.slots y
  pub nonzero : y ≢ 0
  pub target : Object
  pub there : object_at g y ≡ Some target

-- what is marked is reachable, and what a marked object names is marked or the object is in the level that is next
pub record IsMarking (g : List Object) (starts : List ℕ) (is_marked : ℕ → Bool) (level : List ℕ) : Type 0 where
  pub begun : (x : ℕ) (o : Object) → Contains starts x → object_at g x ≡ Some o → is_marked x ≡ true
  pub sound : (x : ℕ) → is_marked x ≡ true → Reachable g starts x
  pub closed : (x y : ℕ) (o p : Object) → is_marked x ≡ true → object_at g x ≡ Some o → Contains o.slots y → y ≢ 0 → object_at g y ≡ Some p → Contains level x ⊎ (is_marked y ≡ true)
  pub held : (x : ℕ) → Contains level x → is_marked x ≡ true

-- from these marks and this level to the marks and the level after it
pub record IsNextLevel (g : List Object) (is_marked : ℕ → Bool) (level : List ℕ) (is_marked_after : ℕ → Bool) (next : List ℕ) : Type 0 where
  pub kept : (x : ℕ) → is_marked x ≡ true → is_marked_after x ≡ true
  -- all that the level names is marked
  pub all : (y : ℕ) → IsNamedBy g level y → is_marked_after y ≡ true
  -- and nothing else; what is newly marked is the next level
  pub new : (y : ℕ) → is_marked y ≡ false → is_marked_after y ≡ true → IsNamedBy g level y × Contains next y
  -- the next level holds only objects that no earlier level held
  pub fresh : (y : ℕ) → Contains next y → (is_marked y ≡ false) × (is_marked_after y ≡ true)

either : (b : Bool) → (b ≡ true) ⊎ (b ≡ false)
either true = inl refl
either false = inr refl

-- a level more
pub marking-step : (g : List Object) (starts : List ℕ) (m n : ℕ → Bool) (level next : List ℕ) → IsMarking g starts m level → IsNextLevel g m level n next → IsMarking g starts n next
marking-step g starts m n level next is step = record {
  begun = λ x o start there. step.kept x (is.begun x o start there);
  sound = λ x marked.
      ⊎_elim (λ (before : m x ≡ true). is.sound x before)
      (λ (before : m x ≡ false).
      let by = (step.new x before marked).0 in
      Reachable.step by.namer x by.object by.target (is.sound by.namer (is.held by.namer by.held)) by.is by.named by.nonzero by.there)
      (either (m x));
  closed = λ x y o p marked there named nonzero target.
      ⊎_elim (λ (before : m x ≡ true).
      ⊎_elim (λ (inside : Contains level x). inr (step.all y (record { namer = x; object = o; held = inside; is = there; named = named; nonzero = nonzero; target = p; there = target })))
      (λ (known : m y ≡ true). inr (step.kept y known))
      (is.closed x y o p before there named nonzero target))
      (λ (before : m x ≡ false). inl (step.new x before marked).1)
      (either (m x));
  held = λ x inside. (step.fresh x inside).1;
}

none : {P : Type 0} (y : ℕ) → Contains [] y → P
none y (k, lt, at) = absurd (omega (arith, lt))

-- an empty level: what is marked is what is reachable
pub marking-end : (g : List Object) (starts : List ℕ) (m : ℕ → Bool) → IsMarking g starts m [] → (x : ℕ) → (m x ≡ true) ↔ Reachable g starts x
marking-end g starts m is x = (is.sound x, λ r. Reachable-least g starts (λ y. m y ≡ true) closed r)
  where
    closed : IsClosed g starts (λ y. m y ≡ true)
    closed = record {
      starts = λ y o start there. is.begun y o start there;
      steps = λ y z o p marked there named nonzero target. ⊎_elim (λ (inside : Contains [] y). none y inside) (λ (known : m z ≡ true). known) (is.closed y z o p marked there named nonzero target);
    }

-- ---- what cells and names say of the graph

or-right : (x y : Bool) → y ≡ true → (x || y) ≡ true
or-right true y e = refl
or-right false y e = e

or-left : (x y : Bool) → x ≡ true → (x || y) ≡ true
or-left true y e = refl
or-left false y e = absurd (cc)

or-second : (x y : Bool) → (x || y) ≡ true → x ≡ false → y ≡ true
or-second true y e f = absurd (cc)
or-second false y e f = e

and-split : (x y : Bool) → (x && y) ≡ true → (x ≡ true) × (y ≡ true)
and-split true y e = (refl, e)
and-split false y e = absurd (cc)

any-true : {X : Type 0} (p : X → Bool) (xs : List X) → list_any p xs ≡ true → (x : X) × Contains xs x × (p x ≡ true)
any-true p [] e = absurd (cc)
any-true {X} p (x ∷ xs) e =
    ⊎_elim (λ (h : p x ≡ true). (x, (zero, omega arith, refl), h))
    (λ (h : p x ≡ false). let r = any-true p xs (sym (ap (λ (b : Bool). b || list_any p xs) h) ∙ e) in (r.0, next r.0 r.1, r.2))
    (either (p x))
  where
    next : (y : X) → Contains xs y → Contains (x ∷ xs) y
    next y (k, lt, at) = (suc k, omega (arith, lt), at)

any-held : {X : Type 0} (p : X → Bool) (xs : List X) (x : X) → Contains xs x → p x ≡ true → list_any p xs ≡ true
any-held p [] x (k, lt, at) e = absurd (omega (arith, lt))
any-held p (y ∷ ys) x (zero, lt, at) e = or-left (p y) (list_any p ys) (ap p at ∙ e)
any-held p (y ∷ ys) x (suc k, lt, at) e = or-right (p y) (list_any p ys) (any-held p ys x (k, omega (arith, lt), at) e)

in-held : (ids : List ℕ) (id : ℕ) → is_in ids id ≡ true → Contains ids id
in-held ids id e =
    let r = any-true (λ x. x == id) ids e in
    subst (λ (y : ℕ). Contains ids y) (eqb-true r.0 id r.2) r.1

held-in : (ids : List ℕ) (id : ℕ) → Contains ids id → is_in ids id ≡ true
held-in ids id h = any-held (λ x. x == id) ids id h (eq-eqb id id refl)

targets_of : (bits i : ℕ) (targets : List ℕ) → map (λ p. p.target) (pointers_from bits i targets) ≡ targets
targets_of bits i [] = refl
targets_of bits i (t ∷ ts) = ap (λ (l : List ℕ). t ∷ l) (targets_of bits (i + 1) ts)

slots-named : {slots : ℕ} (cells : List (PageCell slots)) (x : ℕ) → map (λ p. p.target) (cell_at (map cell_of cells) x).pointers ≡ slots_at cells x
slots-named [] x = refl
slots-named (c ∷ cells) zero = targets_of c.bits 0 c.slots
slots-named (c ∷ cells) (suc x) = slots-named cells x

some-of : {X : Type 0} (b : Bool) (x y : X) → cond b (Some x) None ≡ Some y → (b ≡ true) × (x ≡ y)
some-of true x y e = (refl, cc)
some-of false x y e = absurd (cc)

graph-held : (cells : List Cell) (x : ℕ) (o : Object) → object_at (graph_of cells) x ≡ Some o → (is_live cells x ≡ true) × (object_of x (cell_at cells x) ≡ o)
graph-held cells x o e = some-of (is_live cells x) (object_of x (cell_at cells x)) o (sym (graph-object cells x) ∙ e)

reached-live : (cells : List Cell) (starts : List ℕ) (x : ℕ) → Reachable (graph_of cells) starts x → is_live cells x ≡ true
reached-live cells starts x r = Reachable-least (graph_of cells) starts (λ y. is_live cells y ≡ true) closed r
  where
    closed : IsClosed (graph_of cells) starts (λ y. is_live cells y ≡ true)
    closed = record {
      starts = λ y o start there. (graph-held cells y o there).0;
      steps = λ y z o p live there named nonzero target. (graph-held cells z p target).0;
    }

-- past the last cell there is no object
pub object-past : {slots : ℕ} (cells : List (PageCell slots)) (id : ℕ) → length cells ≤ id → is_object (map cell_of cells) id ≡ false
object-past cells id past = off (not (id == 0)) (is_live (map cell_of cells) id) (live-past cells id past)
  where
    off : (b c : Bool) → c ≡ false → (b && c) ≡ false
    off true c e = e
    off false c e = refl

object-of : (cells : List Cell) (y : ℕ) → y ≢ 0 → is_live cells y ≡ true → is_object cells y ≡ true
object-of cells y n e = ap (λ (b : Bool). not b && is_live cells y) (ne_eqb y 0 n) ∙ e

object-live : (cells : List Cell) (y : ℕ) → is_object cells y ≡ true → (y ≢ 0) × (is_live cells y ≡ true)
object-live cells y e =
    let r = and-split (not (y == 0)) (is_live cells y) e in
    (λ z. absurd (not-not (y == 0) (eq-eqb y 0 z) r.0), r.1)
  where
    not-not : (b : Bool) → b ≡ true → not b ≡ true → ⊥
    not-not true e f = absurd (cc)
    not-not false e f = absurd (cc)

-- ---- the levels of the code

-- from what is reached to what is reached after objects with these names were followed; what is newly reached is found
pub record Reaches (cells : List Cell) (has_name m n : ℕ → Bool) (found : List ℕ) : Type 0 where
  pub marked : (id : ℕ) → n id ≡ (m id || (has_name id && is_object cells id))
  pub new : (id : ℕ) → Contains found id ↔ ((m id ≡ false) × (n id ≡ true))

reached-after : (o a f : Bool) → (o && not (a && not f)) ≡ ((o && not a) || (f && o))
reached-after true true true = refl
reached-after true true false = refl
reached-after true false true = refl
reached-after true false false = refl
reached-after false a true = refl
reached-after false a false = refl

not-reached : (o a : Bool) → a ≡ true → (o && not a) ≡ false
not-reached true true e = refl
not-reached true false e = absurd (cc)
not-reached false a e = refl

is-reached : (o a : Bool) → o ≡ true → a ≡ false → (o && not a) ≡ true
is-reached true false e f = refl
is-reached true true e f = absurd (cc)
is-reached false a e f = absurd (cc)

was-unreached : (o a : Bool) → o ≡ true → (o && not a) ≡ false → a ≡ true
was-unreached true true e f = refl
was-unreached true false e f = absurd (cc)
was-unreached false a e f = absurd (cc)

of-not : (a : Bool) → not a ≡ true → a ≡ false
of-not true e = absurd (cc)
of-not false e = refl

-- who follows names reaches what they name
reaches : (cells : List Cell) (f : ℕ → Bool) (a b : List ℕ) (xs ys : List ℕ) → AreObjects cells a → (s : Follows f a b xs ys) → Reaches cells f (is_reached cells a) (is_reached cells b) s.found
reaches cells f a b xs ys objects s = record {
  marked = λ id. ap (λ (m : Bool). is_object cells id && not m) (s.kept id) ∙ reached-after (is_object cells id) (is_marked a id) (f id);
  new = λ id. (
    λ h.
        let was = (s.new id).0 h in
        (not-reached (is_object cells id) (is_marked a id) was.0, is-reached (is_object cells id) (is_marked b id) (objects id was.0) was.1),
    λ h.
        let now = and-split (is_object cells id) (not (is_marked b id)) h.1 in
        (s.new id).1 (was-unreached (is_object cells id) (is_marked a id) now.0 h.0, of-not (is_marked b id) now.1),
  );
}

-- what is unreached stays of objects
pub objects-kept : (cells : List Cell) (f : ℕ → Bool) (a b : List ℕ) (xs ys : List ℕ) → AreObjects cells a → Follows f a b xs ys → AreObjects cells b
objects-kept cells f a b xs ys objects s = λ id still. objects id (and-split (is_marked a id) (not (f id)) (sym (s.kept id) ∙ still)).0

-- who follows a level of reached objects goes to the next level
pub next-level : {slots : ℕ} (cells : List (PageCell slots)) (m n : ℕ → Bool) (level found : List ℕ) → ((x : ℕ) → Contains level x → is_live (map cell_of cells) x ≡ true)
    → (f : Reaches (map cell_of cells) (is_named cells level) m n found) → IsNextLevel (graph_of (map cell_of cells)) m level n found
next-level cells m n level found live f = record {
  kept = λ x e. f.marked x ∙ or-left (m x) _ e;
  all = λ y n.
      let held = graph-held stored n.namer n.object n.is in
      let slots : n.object.slots ≡ slots_at cells n.namer = sym (ap (λ (o : Object). o.slots) held.1) ∙ slots-named cells n.namer in
      let inside = held-in (slots_at cells n.namer) y (subst (λ (l : List ℕ). Contains l y) slots n.named) in
      let named = any-held (λ x. is_in (slots_at cells x) y) level n.namer n.held inside in
      let object = object-of stored y n.nonzero (graph-held stored y n.target n.there).0 in
      f.marked y ∙ or-right (m y) _ (ap (λ (c : Bool). c && is_object stored y) named ∙ object);
  new = λ y was now.
      let split = and-split (is_named cells level y) (is_object stored y) (or-second (m y) _ (sym (f.marked y) ∙ now) was) in
      let namer = any-true (λ x. is_in (slots_at cells x) y) level split.0 in
      let there = object-live stored y split.1 in (
        record {
          namer = namer.0;
          object = object_of namer.0 (cell_at stored namer.0);
          held = namer.1;
          is = graph-live stored namer.0 (live namer.0 namer.1);
          named = subst (λ (l : List ℕ). Contains l y) (sym (slots-named cells namer.0)) (in-held (slots_at cells namer.0) y namer.2);
          nonzero = there.0;
          target = object_of y (cell_at stored y);
          there = graph-live stored y there.1;
        },
        (f.new y).1 (was, now),
      );
  fresh = λ y h. (f.new y).0 h;
}
  where
    stored : List Cell
    stored = map cell_of cells

unreached-all : (o a : Bool) → a ≡ o → (o && not a) ≡ false
unreached-all true true e = refl
unreached-all true false e = absurd (cc)
unreached-all false a e = refl

-- all objects are unreached
pub objects-all : (cells : List Cell) (table : List ℕ) → ((id : ℕ) → is_marked table id ≡ is_object cells id) → AreObjects cells table
objects-all cells table all = λ id e. sym (all id) ∙ e

-- the root alone, where it is live
pub marking-begins : (cells : List Cell) (a b : List ℕ) (ys : List ℕ) → ((id : ℕ) → is_marked a id ≡ is_object cells id) → Follows (λ x. root == x) a b [] ys
    → IsMarking (graph_of cells) (root ∷ []) (is_reached cells b) (drop 0 ys)
marking-begins cells a b ys all s = subst (λ (l : List ℕ). IsMarking (graph_of cells) (root ∷ []) (is_reached cells b) l) (sym s.appended) (record {
  begun = λ x o start there.
      let e = single x start in
      let live = (graph-held cells x o there).0 in
      f.marked x ∙ or-right (is_reached cells a x) _ (ap (λ (c : Bool). c && is_object cells x) (eq-eqb root x e) ∙ object-of cells x (λ z. absurd (omega (arith, e, z))) live);
  sound = λ x m.
      let split = and-split (root == x) (is_object cells x) (or-second (is_reached cells a x) _ (sym (f.marked x) ∙ m) (blank x)) in
      let e = eqb-true root x split.0 in
      Reachable.start x (object_of x (cell_at cells x)) (zero, omega arith, e) (graph-live cells x (object-live cells x split.1).1);
  closed = λ x y o p m there named nonzero target. inl ((f.new x).1 (blank x, m));
  held = λ x h. ((f.new x).0 h).1;
})
  where
    f : Reaches cells (λ x. root == x) (is_reached cells a) (is_reached cells b) s.found
    f = reaches cells (λ x. root == x) a b [] ys (objects-all cells a all) s

    blank : (x : ℕ) → is_reached cells a x ≡ false
    blank x = unreached-all (is_object cells x) (is_marked a x) (all x)

    single : (x : ℕ) → Contains (root ∷ []) x → root ≡ x
    single x (zero, lt, at) = at
    single x (suc k, lt, at) = absurd (omega (arith, lt))

-- a level more, where the list has the level from one place on and the next level after it
pub marking-goes_on : {slots : ℕ} (cells : List (PageCell slots)) (a b : List ℕ) (xs ys : List ℕ) («from» : ℕ) → AreObjects (map cell_of cells) a
    → IsMarking (graph_of (map cell_of cells)) (root ∷ []) (is_reached (map cell_of cells) a) (drop «from» xs) → Follows (is_named cells (drop «from» xs)) a b xs ys
    → IsMarking (graph_of (map cell_of cells)) (root ∷ []) (is_reached (map cell_of cells) b) (drop (length xs) ys)
marking-goes_on cells a b xs ys «from» objects is s =
    let stored = map cell_of cells in
    let f = reaches stored (is_named cells (drop «from» xs)) a b xs ys objects s in
    let next = next-level cells (is_reached stored a) (is_reached stored b) (drop «from» xs) s.found (λ x h. reached-live stored (root ∷ []) x (is.sound x (is.held x h))) f in
    let behind : drop (length xs) ys ≡ s.found = ap (λ (l : List ℕ). drop (length xs) l) s.appended ∙ drop-append_seam xs s.found in
    subst (λ (l : List ℕ). IsMarking (graph_of stored) (root ∷ []) (is_reached stored b) l) (sym behind) (marking-step _ _ _ _ _ _ is next)

drop-past : {X : Type 0} (n : ℕ) (xs : List X) → length xs ≤ n → drop n xs ≡ []
drop-past zero [] past = refl
drop-past zero (x ∷ xs) past = absurd (omega (arith, past))
drop-past (suc n) [] past = refl
drop-past (suc n) (x ∷ xs) past = drop-past n xs (omega (arith, past))

-- no level is left
pub marking-over : (cells : List Cell) (table : List ℕ) (xs : List ℕ) («from» : ℕ) → length xs ≤ «from» → AreObjects cells table
    → IsMarking (graph_of cells) (root ∷ []) (is_reached cells table) (drop «from» xs) → IsUnreached cells table
marking-over cells table xs «from» past objects is = record {
  objects = objects;
  reach = marking-end (graph_of cells) (root ∷ []) (is_reached cells table) (subst (λ (l : List ℕ). IsMarking (graph_of cells) (root ∷ []) (is_reached cells table) l) (drop-past «from» xs past) is);
}
