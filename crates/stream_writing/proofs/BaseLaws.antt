-- Bytes that are written one piece after another, of which the whole is known.
use Rattle.std.proofs.Common.{◌≡◌, ℕ, List, [], ◌∷◌, ◌++◌, take, drop, map, Option, refl, sym, ap, ◌∙◌, append_assoc, take-append-drop}
use Rattle.std.specs.List.{flat_map}
use Rattle.std.specs.Io.KnownBytes.{Appends}
use Rattle.std.proofs.lemmas.Grind.{flat_map-append}
use Rattle.cell_page.specs.declared.cell.Cell.{Cell}
use Rattle.cell_page.specs.Format.{page_bytes}
use Rattle.core_store.specs.declared.frame.Frame.{Frame}
use Rattle.script_lines.specs.Output.{AppendsFront}
use Rattle.script_lines.proofs.OutputLemmas.{Appends-trans}
use Rattle.stream_writing.specs.Base.{pages_in}

-- a front of the first piece was written
pub front_of : (before after : Option (List ℕ)) (piece later : List ℕ) → AppendsFront before after piece → AppendsFront before after (piece ++ later)
front_of before after piece later cut =
    let rest : List ℕ = cut.0 in
    let up = cut.1 in (
      rest ++ later,
      (up.0, ap (λ (l : List ℕ). l ++ later) up.1 ∙ append_assoc up.0 rest later, up.2),
      λ none. cut.2 (empty rest later none),
    )
  where
    empty : (a b : List ℕ) → a ++ b ≡ [] → a ≡ []
    empty [] b e = refl
    empty (x ∷ a) b e = absurd (cc e)

-- a piece was written and then a front of what is left
pub front_behind : (before mid after : Option (List ℕ)) (piece later : List ℕ) → Appends before mid piece → AppendsFront mid after later → AppendsFront before after (piece ++ later)
front_behind before mid after piece later whole cut =
    let rest : List ℕ = cut.0 in
    let up = cut.1 in (
      rest,
      (piece ++ up.0, ap (λ (l : List ℕ). piece ++ l) up.1 ∙ sym (append_assoc piece up.0 rest), Appends-trans before mid after piece up.0 whole up.2),
      cut.2,
    )

-- the bytes of the first pages, so many
abbrev pub first_bytes : {slots : ℕ} → List (Frame slots) → ℕ → List ℕ
first_bytes frames count = flat_map page_bytes (pages_in (take count frames))

pub map_both : {X Y : Type 0} (f : X → Y) (xs ys : List X) → map f (xs ++ ys) ≡ map f xs ++ map f ys
map_both f [] ys = refl
map_both f (x ∷ xs) ys = ap (λ l. f x ∷ l) (map_both f xs ys)

-- all of them are the first and the others
pub bytes_split : {slots : ℕ} (frames : List (Frame slots)) (count : ℕ) → flat_map page_bytes (pages_in frames) ≡ first_bytes frames count ++ flat_map page_bytes (pages_in (drop count frames))
bytes_split {slots} frames count =
    ap (λ (l : List (Frame slots)). flat_map page_bytes (pages_in l)) (sym (take-append-drop count frames))
    ∙ ap (λ (l : List (List (Cell slots))). flat_map page_bytes l) (map_both (λ (f : Frame slots). f.page) (take count frames) (drop count frames))
    ∙ flat_map-append page_bytes (pages_in (take count frames)) (pages_in (drop count frames))

-- the bytes of the others begin with the next page
pub next_bytes : {slots : ℕ} (frames : List (Frame slots)) (count : ℕ) (f : Frame slots) (rest : List (Frame slots)) → drop count frames ≡ f ∷ rest
    → flat_map page_bytes (pages_in (drop count frames)) ≡ page_bytes f.page ++ flat_map page_bytes (pages_in rest)
next_bytes {slots} frames count f rest is = ap (λ (l : List (Frame slots)). flat_map page_bytes (pages_in l)) is
