-- The bytes of the current log that were copied.
use Rattle.std.proofs.Common.{◌≡◌, inr, ℕ, ◌≤◌, List, ◌++◌, take, drop, Option, Some, refl, sym, ap, subst, ◌∙◌, take-append-drop}
use Rattle.std.specs.Prelude.{IfSome}
use Rattle.std.specs.Io.KnownBytes.{Appends}
use Rattle.std.proofs.lemmas.List.{take-take}
use Rattle.disk_model.specs.declared.area.Area.{Area}
use Rattle.disk_model.specs.Areas.{Bytes, in_area}
use Rattle.script_lines.specs.Output.{AppendsFront}
use Rattle.current_log.specs.Current.{HasCurrentLog}
use Rattle.stream_writing.specs.Copied.{HasCopied}
use Rattle.stream_writing.specs.Shipped.{AreLogBytes, IsLogFront}

-- what is told of an area, of what it reads
told : (o : Option (List ℕ)) (bytes : List ℕ) (P : List ℕ → Type 0) → o ≡ Some bytes → IfSome o P → P bytes
told o bytes P is told_it = subst (λ (x : Option (List ℕ)). IfSome x P) is told_it

module _ (slots : ℕ) (image : Bytes) (area : Area) (pages len : ℕ) (log : HasCurrentLog slots image area pages len) (o : Option (List ℕ)) (is : o ≡ Some (in_area image area)) (before after : Option (List ℕ)) where
  -- all of them
  pub all_written : HasCopied o len before after → (bytes : List ℕ) × AreLogBytes slots image bytes × Appends before after bytes
  all_written copied = (
    copied.bytes,
    record { area = area; pages = pages; len = len; log = log; are = told o (in_area image area) (λ c. copied.bytes ≡ take len c) is copied.are },
    copied.written,
  )

  -- a front of them, where the sink failed
  pub part_written : IfSome o (λ c. AppendsFront before after (take len c)) → (bytes : List ℕ) × AreLogBytes slots image bytes × AppendsFront before after bytes
  part_written part = (
    take len (in_area image area),
    record { area = area; pages = pages; len = len; log = log; are = refl },
    told o (in_area image area) (λ c. AppendsFront before after (take len c)) is part,
  )

  -- a front of them, where the disk failed
  pub front_written : (count : ℕ) → count ≤ len → (copied : HasCopied o count before after) → IsLogFront slots image copied.bytes
  front_written count few copied =
      let here : copied.bytes ≡ take count (in_area image area) = told o (in_area image area) (λ c. copied.bytes ≡ take count c) is copied.are in
      let whole : List ℕ = take len (in_area image area) in
      let both : copied.bytes ++ drop count whole ≡ whole =
      ap (λ (l : List ℕ). l ++ drop count whole) (here ∙ sym (take-take count len (in_area image area) few)) ∙ take-append-drop count whole in
      inr (drop count whole, record { area = area; pages = pages; len = len; log = log; are = both })
