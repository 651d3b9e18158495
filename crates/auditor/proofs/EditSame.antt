-- Edits of cells whose counts are of no account.
use Rattle.std.proofs.Common.{◌≡◌, ℕ, zero, suc, ◌+◌, ◌-◌, ◌<◌, Bool, true, false, cond, List, [], ◌∷◌, length, map, set, refl, sym, ap, ◌∙◌, subst, inl, ⊎_elim}
use Rattle.std.proofs.lemmas.Bool.{cases_eq}
use Rattle.std.proofs.lemmas.List.{map-set, length-map}
use Rattle.cell_model.specs.Cells.{Pointer, Cell, cell_at, pointer_in, pointer_at, edit, relink, gains, loses, pays, flipped, other_strength, relinked, same}
use Rattle.cell_model.proofs.EditLaws.{edit-set, edit-none, there}
use Rattle.auditor.specs.Replay.{uncounted, SameButCounts, switched_over}

-- the cell at an id, without its counts
uncounted-at : (cells : List Cell) (id : ℕ) → uncounted (cell_at cells id) ≡ cell_at (map uncounted cells) id
uncounted-at [] id = refl
uncounted-at (c ∷ cells) zero = refl
uncounted-at (c ∷ cells) (suc id) = uncounted-at cells id

pub same-at : (cells others : List Cell) (id : ℕ) → SameButCounts cells others → uncounted (cell_at cells id) ≡ uncounted (cell_at others id)
same-at cells others id e = uncounted-at cells id ∙ (ap (λ (cs : List Cell). cell_at cs id) e ∙ sym (uncounted-at others id))

pub same-length : (cells others : List Cell) → SameButCounts cells others → length cells ≡ length others
same-length cells others e = sym (length-map cells uncounted) ∙ (ap (λ (cs : List Cell). length cs) e ∙ length-map others uncounted)

-- an edit, where counts are left out
pub uncounted-edit : (cells : List Cell) (id : ℕ) (f : Cell → Cell) → map uncounted (edit cells id f) ≡ edit (map uncounted cells) id (λ _. uncounted (f (cell_at cells id)))
uncounted-edit cells id f =
    ⊎_elim
    (λ e. ap (λ (cs : List Cell). map uncounted cs) (edit-none cells id f (inl e)) ∙ sym (edit-none (map uncounted cells) id (λ _. uncounted (f (cell_at cells id))) (inl e)))
    (λ n. ap (λ (cs : List Cell). map uncounted cs) (edit-set cells id f n) ∙ (map-set uncounted cells id (f (cell_at cells id)) ∙ sym (edit-set (map uncounted cells) id (λ _. uncounted (f (cell_at cells id))) n)))
    (cases_eq id 0)

-- edits that make of the two cells the same but for counts
pub same-edits : (cells others : List Cell) (id : ℕ) (f g : Cell → Cell) → SameButCounts cells others → uncounted (f (cell_at cells id)) ≡ uncounted (g (cell_at others id)) → SameButCounts (edit cells id f) (edit others id g)
same-edits cells others id f g e same =
    uncounted-edit cells id f ∙ (ap (λ (cs : List Cell). edit cs id (λ _. uncounted (f (cell_at cells id)))) e
    ∙ (ap (λ (c : Cell). edit (map uncounted others) id (λ _. c)) same ∙ sym (uncounted-edit others id g)))

set-at_same : (cells : List Cell) (id : ℕ) → set cells id (cell_at cells id) ≡ cells
set-at_same [] id = refl
set-at_same (c ∷ cells) zero = refl
set-at_same (c ∷ cells) (suc id) = ap (λ (cs : List Cell). c ∷ cs) (set-at_same cells id)

edit-keep : (cells : List Cell) (id : ℕ) → edit cells id (λ c. c) ≡ cells
edit-keep cells id = ⊎_elim (λ e. edit-none cells id (λ c. c) (inl e)) (λ n. edit-set cells id (λ c. c) n ∙ set-at_same cells id) (cases_eq id 0)

-- an edit of counts alone
pub edit-counts : (cells : List Cell) (id : ℕ) (f : Cell → Cell) → ((c : Cell) → uncounted (f c) ≡ uncounted c) → SameButCounts (edit cells id f) cells
edit-counts cells id f keeps = same-edits cells cells id f (λ c. c) refl (keeps (cell_at cells id)) ∙ ap (λ (cs : List Cell). map uncounted cs) (edit-keep cells id)

pub gains-uncounted : (bit : Bool) (c : Cell) → uncounted (gains bit c) ≡ uncounted c
gains-uncounted bit c = elim (same c.bit bit) as (λ b. uncounted (cond b (record c { strong = c.strong + 1 }) (record c { weak = c.weak + 1 })) ≡ uncounted c) [ true ↦ refl | false ↦ refl ]

pub loses-uncounted : (bit : Bool) (c : Cell) → uncounted (loses bit c) ≡ uncounted c
loses-uncounted bit c = elim (same c.bit bit) as (λ b. uncounted (cond b (record c { strong = c.strong - 1 }) (record c { weak = c.weak - 1 })) ≡ uncounted c) [ true ↦ refl | false ↦ refl ]

-- a change of a slot with all counts is one of the cell alone, but for counts
pub relinked-same : (cells others : List Cell) (id slot : ℕ) (p : Pointer) → SameButCounts cells others → SameButCounts (edit cells id (relink slot p)) (relinked others id slot p)
relinked-same cells others id slot p e =
    let old = pointer_at others id slot in
    let first = edit others id (relink slot p) in
    let second = edit first old.target (loses old.bit) in
    let cell = same-edits cells others id (relink slot p) (relink slot p) e (ap (relink slot p) (same-at cells others id e)) in
    cell ∙ (sym (edit-counts first old.target (loses old.bit) (loses-uncounted old.bit)) ∙ sym (edit-counts second p.target (gains p.bit) (gains-uncounted p.bit)))

-- the pointer in a slot is the same
pub same-pointer : (cells others : List Cell) (id slot : ℕ) → SameButCounts cells others → pointer_at cells id slot ≡ pointer_at others id slot
same-pointer cells others id slot e = ap (λ (c : Cell). pointer_in c slot) (same-at cells others id e)

pub switched-same : (cells others : List Cell) (id slot : ℕ) → SameButCounts cells others
    → SameButCounts (edit cells id (relink slot (other_strength (pointer_at cells id slot)))) (relinked others id slot (other_strength (pointer_at others id slot)))
switched-same cells others id slot e =
    subst (λ (p : Pointer). SameButCounts (edit cells id (relink slot (other_strength p))) (relinked others id slot (other_strength (pointer_at others id slot))))
    (sym (same-pointer cells others id slot e)) (relinked-same cells others id slot (other_strength (pointer_at others id slot)) e)

pub pays-same : (cells others : List Cell) (id value : ℕ) → SameButCounts cells others → SameButCounts (edit cells id (pays value)) (edit others id (pays value))
pays-same cells others id value e = same-edits cells others id (pays value) (pays value) e (ap (pays value) (same-at cells others id e))

pub flip-same : (cells others : List Cell) (id : ℕ) → SameButCounts cells others → SameButCounts (edit cells id (switched_over id)) (edit others id (flipped id))
flip-same cells others id e = same-edits cells others id (switched_over id) (flipped id) e (ap (switched_over id) (same-at cells others id e))

pub blank-same : (cells others : List Cell) (id : ℕ) (c : Cell) → SameButCounts cells others → SameButCounts (edit cells id (λ _. c)) (edit others id (λ _. c))
blank-same cells others id c e = same-edits cells others id (λ _. c) (λ _. c) e refl

-- ---- an edit by a cell that was made beforehand

pub edit-as : (cells : List Cell) (id : ℕ) (f : Cell → Cell) (c : Cell) → (id < length cells → c ≡ f (cell_at cells id)) → edit cells id (λ _. c) ≡ edit cells id f
edit-as cells id f c made =
    ⊎_elim
    (λ t. edit-set cells id (λ _. c) t.0 ∙ (ap (λ (d : Cell). set cells id d) (made t.1) ∙ sym (edit-set cells id f t.0)))
    (λ t. edit-none cells id (λ _. c) t ∙ sym (edit-none cells id f t))
    (there cells id)
