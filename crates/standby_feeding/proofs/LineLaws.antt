-- The line of a standby, written in pieces.
use Rattle.std.proofs.Common.{◌≡◌, ℕ, ◌+◌, ◌<◌, List, [], ◌∷◌, ◌++◌, length, take, drop, get_or, Option, sym, ap, subst, ◌∙◌, take-append-drop}
use Rattle.std.specs.Prelude.{decimal}
use Rattle.std.specs.Io.KnownBytes.{Appends}
use Rattle.std.proofs.lemmas.List.{drop_more}
use Rattle.std.proofs.lemmas.Grind.{flat_map-append}
use Rattle.plain_model.specs.Text.{numbers, newline}
use Rattle.script_lines.specs.Output.{AppendsFront}
use Rattle.script_lines.proofs.OutputLemmas.{Appends-trans, AppendsFront-longer, AppendsFront-after}
use Rattle.standby.specs.declared.promoted.Promoted.{Promoted}
use Rattle.standby_feeding.specs.Line.{promoted_head, promoted_line}

-- the texts of the ids are those of the first, of the next one, and of the others
numbers_split : (ids : List ℕ) (at : ℕ) → at < length ids → numbers ids ≡ numbers (take at ids) ++ ((32 ∷ decimal (get_or ids at 0)) ++ numbers (drop (at + 1) ids))
numbers_split ids at low =
    ap numbers (sym (take-append-drop at ids)) ∙ flat_map-append (λ n. 32 ∷ decimal n) (take at ids) (drop at ids)
    ∙ ap (λ (l : List ℕ). numbers (take at ids) ++ numbers l) (drop_more ids at 0 low)

-- a front of the next one was written after those of the first
pub ids_cut : (old mid new : Option (List ℕ)) (ids : List ℕ) (at : ℕ) → at < length ids → Appends old mid (numbers (take at ids)) → AppendsFront mid new (32 ∷ decimal (get_or ids at 0)) → AppendsFront old new (numbers ids)
ids_cut old mid new ids at low whole cut =
    subst (λ (l : List ℕ). AppendsFront old new l) (sym (numbers_split ids at low))
    (AppendsFront-after old mid new (numbers (take at ids)) ((32 ∷ decimal (get_or ids at 0)) ++ numbers (drop (at + 1) ids)) whole
    (AppendsFront-longer mid new (32 ∷ decimal (get_or ids at 0)) (numbers (drop (at + 1) ids)) cut))

-- a front of the words was written
pub head_cut : (old new : Option (List ℕ)) (p : Promoted) → AppendsFront old new (promoted_head p.batches) → AppendsFront old new (promoted_line p)
head_cut old new p cut =
    AppendsFront-longer old new (promoted_head p.batches ++ numbers p.stored) (newline ∷ []) (AppendsFront-longer old new (promoted_head p.batches) (numbers p.stored) cut)

-- the words were written, and a front of the ids
pub numbers_cut : (old mid new : Option (List ℕ)) (p : Promoted) → Appends old mid (promoted_head p.batches) → AppendsFront mid new (numbers p.stored) → AppendsFront old new (promoted_line p)
numbers_cut old mid new p head cut =
    AppendsFront-longer old new (promoted_head p.batches ++ numbers p.stored) (newline ∷ []) (AppendsFront-after old mid new (promoted_head p.batches) (numbers p.stored) head cut)

-- all was written but for the end
pub end_cut : (old mid late new : Option (List ℕ)) (p : Promoted) → Appends old mid (promoted_head p.batches) → Appends mid late (numbers p.stored) → AppendsFront late new (newline ∷ []) → AppendsFront old new (promoted_line p)
end_cut old mid late new p head ids cut =
    AppendsFront-after old late new (promoted_head p.batches ++ numbers p.stored) (newline ∷ []) (Appends-trans old mid late (promoted_head p.batches) (numbers p.stored) head ids) cut

-- all was written
pub all_written : (old mid late new : Option (List ℕ)) (p : Promoted) → Appends old mid (promoted_head p.batches) → Appends mid late (numbers p.stored) → Appends late new (newline ∷ []) → Appends old new (promoted_line p)
all_written old mid late new p head ids end =
    Appends-trans old late new (promoted_head p.batches ++ numbers p.stored) (newline ∷ []) (Appends-trans old mid late (promoted_head p.batches) (numbers p.stored) head ids) end
