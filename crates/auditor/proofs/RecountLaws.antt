-- A recount depends on no count.
use Rattle.std.proofs.Common.{◌≡◌, ℕ, ◌+◌, Bool, not, cond, List, [], ◌∷◌, length, map, refl, sym, ap, ◌∙◌}
use Rattle.std.specs.Prelude.{◌==◌, ◌&&◌, count_by}
use Rattle.std.specs.List.{flat_map}
use Rattle.std.proofs.Math.Path.{fun_ext}
use Rattle.std.proofs.lemmas.List.Sums.{sum_by-cons}
use Rattle.cell_model.specs.Cells.{Cell, cell_at, is_live, aims_in, pointers_to, own_strong}
use Rattle.core_store.specs.declared.frame.Frame.{Frame}
use Rattle.auditor.specs.declared.difference.Difference.{Difference}
use Rattle.auditor.specs.Replay.{uncounted, SameButCounts}
use Rattle.auditor.specs.Recount.{joined, strong_found, weak_found, found_at, kept_at, ids_of, difference_between, differences_of, live_in, is_zero, zero_in}
use Rattle.auditor.proofs.EditSame.{same-at}

pointers_to-uncounted : (cells : List Cell) (id : ℕ) (bit : Bool) → pointers_to (map uncounted cells) id bit ≡ pointers_to cells id bit
pointers_to-uncounted [] id bit = refl
pointers_to-uncounted (c ∷ cells) id bit =
    sum_by-cons (aims_in id bit) (uncounted c) (map uncounted cells) ∙ (ap (λ (n : ℕ). aims_in id bit c + n) (pointers_to-uncounted cells id bit) ∙ sym (sum_by-cons (aims_in id bit) c cells))

pub pointers-same : (cells others : List Cell) (id : ℕ) (bit : Bool) → SameButCounts cells others → pointers_to cells id bit ≡ pointers_to others id bit
pointers-same cells others id bit e = sym (pointers_to-uncounted cells id bit) ∙ (ap (λ (cs : List Cell). pointers_to cs id bit) e ∙ pointers_to-uncounted others id bit)

live-uncounted : (cells : List Cell) → live_in (map uncounted cells) ≡ live_in cells
live-uncounted [] = refl
live-uncounted (c ∷ cells) =
    sum_by-cons (λ (d : Cell). cond d.live 1 0) (uncounted c) (map uncounted cells) ∙ (ap (λ (n : ℕ). cond c.live 1 0 + n) (live-uncounted cells) ∙ sym (sum_by-cons (λ (d : Cell). cond d.live 1 0) c cells))

pub live-same : (cells others : List Cell) → SameButCounts cells others → live_in cells ≡ live_in others
live-same cells others e = sym (live-uncounted cells) ∙ (ap (λ (cs : List Cell). live_in cs) e ∙ live-uncounted others)

bit-same : (cells others : List Cell) (id : ℕ) → SameButCounts cells others → (cell_at cells id).bit ≡ (cell_at others id).bit
bit-same cells others id e = ap (λ (c : Cell). c.bit) (same-at cells others id e)

pub strong-same : (cells others : List Cell) (id : ℕ) → SameButCounts cells others → strong_found cells id ≡ strong_found others id
strong-same cells others id e =
    ap (λ (b : Bool). pointers_to cells id b + own_strong id) (bit-same cells others id e) ∙ ap (λ (n : ℕ). n + own_strong id) (pointers-same cells others id (cell_at others id).bit e)

pub weak-same : (cells others : List Cell) (id : ℕ) → SameButCounts cells others → weak_found cells id ≡ weak_found others id
weak-same cells others id e =
    ap (λ (b : Bool). pointers_to cells id (not b)) (bit-same cells others id e) ∙ pointers-same cells others id (not (cell_at others id).bit) e

found-same : (cells others : List Cell) (id : ℕ) → SameButCounts cells others → found_at cells id ≡ found_at others id
found-same cells others id e =
    ap (λ (n : ℕ). joined n (weak_found cells id)) (strong-same cells others id e) ∙ ap (λ (n : ℕ). joined (strong_found others id) n) (weak-same cells others id e)

is_zero-same : (cells others : List Cell) (id : ℕ) → SameButCounts cells others → is_zero cells id ≡ is_zero others id
is_zero-same cells others id e =
    ap (λ (b : Bool). b && (strong_found cells id == 0)) (ap (λ (c : Cell). c.live) (same-at cells others id e))
    ∙ ap (λ (n : ℕ). is_live others id && (n == 0)) (strong-same cells others id e)

pub zero-same : (cells others : List Cell) (ids : List ℕ) → SameButCounts cells others → zero_in cells ids ≡ zero_in others ids
zero-same cells others ids e = ap (λ (p : ℕ → Bool). count_by p ids) (fun_ext (λ id. is_zero-same cells others id e))

pub differences-same : {slots : ℕ} (cells others : List Cell) (frames : List (Frame slots)) → SameButCounts cells others → differences_of cells frames ≡ differences_of others frames
differences-same cells others frames e =
    ap (λ (f : ℕ → List Difference). flat_map f (ids_of (length frames)))
    (fun_ext (λ id. ap (λ (n : ℕ). difference_between id (kept_at frames id) n) (found-same cells others id e)))
