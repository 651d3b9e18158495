-- The cell of an object after a write to it, and after the undo of one.
use Rattle.std.proofs.Common.{◌≡◌, ◌≢◌, ℕ, ◌<◌, List, Bool, true, false, cond, refl, sym, ap, ◌∙◌, subst, length, Option, Some, None, ⊎_elim, eq-eqb, ne_eqb}
use Rattle.std.specs.Prelude.{◌==◌, is_some, option_map}
use Rattle.std.specs.Option.{option_map_or}
use Rattle.std.proofs.lemmas.Bool.{cases_eq, cond-true, cond-false}
use Rattle.plain_model.specs.declared.object.Object.{Object}
use Rattle.plain_model.specs.declared.write.Place.TheVariants.{Payload}
use Rattle.plain_model.specs.Graphs.{object_at, has_object, set_place}
use Rattle.plain_model.specs.History.{Moment}
use Rattle.cell_model.specs.Cells.{Cell, cell_at, is_live, object_of, edit, pays}
use Rattle.store_model.specs.Core.{current}
use Rattle.store_model.specs.Sound.{IsCurrentCell}
use Rattle.cell_model.proofs.EditLaws.{edit-here, edit-other}

pub pays-object : (cells : List Cell) (y value : ℕ) → y ≢ 0 → y < length cells → object_of y (cell_at (edit cells y (pays value)) y) ≡ set_place Payload value (object_of y (cell_at cells y))
pays-object cells y value n l = ap (object_of y) (edit-here cells y (pays value) n l)

pub pays-object_other : (cells : List Cell) (y value x : ℕ) → x ≢ y → object_of x (cell_at (edit cells y (pays value)) x) ≡ object_of x (cell_at cells x)
pays-object_other cells y value x n = ap (object_of x) (edit-other cells y x (pays value) n)

-- a payload before it was written over
pub undo-paid : (o : Option Object) (b : Object) (v to : ℕ) → option_map (set_place Payload v) o ≡ Some b → to ≡ option_map_or (λ (o : Object). o.payload) o 0 → o ≡ Some (set_place Payload to b)
undo-paid None b v to e q = cc
undo-paid (Some o) b v to e q =
    let is : set_place Payload v o ≡ b = ap (λ x. option_map_or (λ (o : Object). o) x o) e in
    ap (λ n. Some (paid o n)) (sym q) ∙ ap (λ x. Some (set_place Payload to x)) is
  where
    paid : Object → ℕ → Object
    paid o n = record { id = o.id; slots = o.slots; payload = n }

-- the object of y is written, and its cell with it: what was current is
pub written-cell : (cells after : List Cell) (m n : Moment) (y : ℕ) (f : Object → Object) → ((x : ℕ) → object_at (current n) x ≡ cond (y == x) (option_map f (object_at (current m) x)) (object_at (current m) x))
    → ((x : ℕ) → is_live after x ≡ is_live cells x) → object_of y (cell_at after y) ≡ f (object_of y (cell_at cells y)) → ((x : ℕ) → x ≢ y → object_of x (cell_at after x) ≡ object_of x (cell_at cells x))
    → (x : ℕ) → IsCurrentCell cells m x → IsCurrentCell after n x
written-cell cells after m n y f is live own others x c =
    let B = object_at (current m) x in
    ⊎_elim
    (λ (q : y ≡ x).
    let now : object_at (current n) x ≡ option_map f B = is x ∙ cond-true (y == x) (option_map f B) B (eq-eqb y x q) in
    record { live = live x ∙ c.live; contents = now ∙ (ap (option_map f) c.contents ∙ ap Some (sym (subst (λ z. object_of z (cell_at after z) ≡ f (object_of z (cell_at cells z))) q own))) })
    (λ d.
    let now : object_at (current n) x ≡ B = is x ∙ cond-false (y == x) (option_map f B) B (ne_eqb y x d) in
    record { live = live x ∙ c.live; contents = now ∙ (c.contents ∙ ap Some (sym (others x (λ q. d (sym q))))) })
    (cases_eq y x)

-- a write to the object of y is undone, and with it its cell: what was current is
pub undone-cell : (cells after : List Cell) (m n : Moment) (y : ℕ) (f g : Object → Object) → ((x : ℕ) → object_at (current m) x ≡ cond (y == x) (option_map f (object_at (current n) x)) (object_at (current n) x))
    → ((b : Object) → option_map f (object_at (current n) y) ≡ Some b → object_at (current n) y ≡ Some (g b))
    → ((x : ℕ) → is_live after x ≡ is_live cells x) → object_of y (cell_at after y) ≡ g (object_of y (cell_at cells y)) → ((x : ℕ) → x ≢ y → object_of x (cell_at after x) ≡ object_of x (cell_at cells x))
    → (x : ℕ) → IsCurrentCell cells m x → IsCurrentCell after n x
undone-cell cells after m n y f g is back live own others x c =
    let N = object_at (current n) x in
    ⊎_elim
    (λ (q : y ≡ x).
    let had : object_at (current m) x ≡ option_map f N = is x ∙ cond-true (y == x) (option_map f N) N (eq-eqb y x q) in
    let now = subst (λ z. (b : Object) → option_map f (object_at (current n) z) ≡ Some b → object_at (current n) z ≡ Some (g b)) q back (object_of x (cell_at cells x)) (sym had ∙ c.contents) in
    record { live = live x ∙ c.live; contents = now ∙ ap Some (sym (subst (λ z. object_of z (cell_at after z) ≡ g (object_of z (cell_at cells z))) q own)) })
    (λ d.
    let had : object_at (current m) x ≡ N = is x ∙ cond-false (y == x) (option_map f N) N (ne_eqb y x d) in
    record { live = live x ∙ c.live; contents = sym had ∙ (c.contents ∙ ap Some (sym (others x (λ q. d (sym q))))) })
    (cases_eq y x)
