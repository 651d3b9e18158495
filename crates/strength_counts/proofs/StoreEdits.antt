-- Edits of a store, one after another.
use Rattle.std.proofs.Common.{◌≡◌, ◌≢◌, ℕ, ◌-◌, Bool, true, false, List, set, cond, refl, sym, ap, ◌∙◌, inl, inr, ⊎_elim}
use Rattle.std.specs.Prelude.{◌==◌}
use Rattle.std.proofs.lemmas.Bool.{cases_eq}
use Rattle.std.proofs.lemmas.List.{set-set, set_comm}
use Rattle.cell_model.specs.Cells.{Pointer, Cell, cell_at, same, edit, relink, loses}
use Rattle.cell_model.proofs.EditLaws.{edit-set, edit-none, edit-here, edit-other, there}

pub edit-same : (cells : List Cell) (u : ℕ) (f g : Cell → Cell) → f (cell_at cells u) ≡ g (cell_at cells u) → edit cells u f ≡ edit cells u g
edit-same cells u f g e = ap (λ (c : Cell). cond (u == 0) cells (set cells u c)) e

pub edit-edit : (cells : List Cell) (u : ℕ) (f g : Cell → Cell) → edit (edit cells u f) u g ≡ edit cells u (λ c. g (f c))
edit-edit cells u f g =
    ⊎_elim
    (λ t.
    let here = edit-here cells u f t.0 t.1 in
    edit-set (edit cells u f) u g t.0
    ∙ ap (λ (c : Cell). set (edit cells u f) u (g c)) here
    ∙ ap (λ (cs : List Cell). set cs u (g (f (cell_at cells u)))) (edit-set cells u f t.0)
    ∙ set-set cells u (f (cell_at cells u)) (g (f (cell_at cells u)))
    ∙ sym (edit-set cells u (λ c. g (f c)) t.0))
    (λ t. ap (λ (cs : List Cell). edit cs u g) (edit-none cells u f t) ∙ edit-none cells u g t ∙ sym (edit-none cells u (λ c. g (f c)) t))
    (there cells u)

pub edit-apart : (cells : List Cell) (u v : ℕ) (f g : Cell → Cell) → u ≢ v → edit (edit cells u f) v g ≡ edit (edit cells v g) u f
edit-apart cells u v f g n =
    ⊎_elim
    (λ e. ap (λ (cs : List Cell). edit cs v g) (edit-none cells u f (inl e)) ∙ sym (edit-none (edit cells v g) u f (inl e)))
    (λ m. ⊎_elim
    (λ e. edit-none (edit cells u f) v g (inl e) ∙ sym (ap (λ (cs : List Cell). edit cs u f) (edit-none cells v g (inl e))))
    (λ k.
    let x = f (cell_at cells u) in
    let y = g (cell_at cells v) in
    let left = edit-set (edit cells u f) v g k
    ∙ ap (λ (c : Cell). set (edit cells u f) v (g c)) (edit-other cells u v f (λ e. n (sym e)))
    ∙ ap (λ (cs : List Cell). set cs v y) (edit-set cells u f m) in
    let right = edit-set (edit cells v g) u f m
    ∙ ap (λ (c : Cell). set (edit cells v g) u (f c)) (edit-other cells v u g n)
    ∙ ap (λ (cs : List Cell). set cs u x) (edit-set cells v g k) in
    left ∙ (set_comm cells u v x y n ∙ sym right))
    (cases_eq v 0))
    (cases_eq u 0)

pub relink-loses : (slot : ℕ) (p : Pointer) (bit : Bool) (c : Cell) → relink slot p (loses bit c) ≡ loses bit (relink slot p c)
relink-loses slot p bit c = elim (same c.bit bit) as (λ (b : Bool). relink slot p (cond b (record c { strong = c.strong - 1 }) (record c { weak = c.weak - 1 })) ≡ (let d : Cell = relink slot p c in cond b (record d { strong = d.strong - 1 }) (record d { weak = d.weak - 1 }))) [ true ↦ refl | false ↦ refl ]

-- a bit that gives a strength
pub same-same : (bit strong : Bool) → same bit (same bit strong) ≡ strong
same-same true true = refl
same-same true false = refl
same-same false true = refl
same-same false false = refl
