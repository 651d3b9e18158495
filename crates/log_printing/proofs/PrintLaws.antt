-- The text of the current log that was printed.
use Rattle.std.proofs.Common.{◌≡◌, inr, ℕ, ◌+◌, List, [], ◌∷◌, ◌++◌, length, take, Option, Some, refl, sym, ap, subst, ◌∙◌, arith, append_assoc, length-append}
use Rattle.std.specs.Prelude.{IfSome, Result, Ok, Err, IfOk}
use Rattle.std.specs.Io.KnownBytes.{Appends}
use Rattle.std.proofs.lemmas.List.{take_at}
use Rattle.disk_model.specs.declared.area.Area.{Area}
use Rattle.disk_model.specs.Areas.{Bytes, in_area}
use Rattle.log_record.specs.declared.record.Record.{Record}
use Rattle.opened_images.specs.LogRecords.{log_bytes, IsRecordLog}
use Rattle.script_lines.specs.Output.{AppendsFront}
use Rattle.current_log.specs.Current.{HasCurrentLog}
use Rattle.log_printing.specs.Text.{text_of}
use Rattle.log_printing.specs.Lines.{GivesText}
use Rattle.log_printing.proofs.LineLaws.{first_place as gives_first}
use Rattle.log_printing.specs.Walks.{first_place, PrintsFront, PrintsAll, IsNoPlace}
use Rattle.log_printing.specs.Printed.{IsLogText, IsTextFront}

-- what holds of a value holds of more
pub ok_more : {T E : Type 0} (r : Result T E) (P Q : T → Type 0) → ((t : T) → P t → Q t) → IfOk r P → IfOk r Q
ok_more (Ok t) P Q more is = more t is
ok_more (Err e) P Q more is = is

-- ---- what was written

-- only nothing has nothing after it
empty : (a b : List ℕ) → a ++ b ≡ [] → a ≡ []
empty [] b e = refl
empty (x ∷ a) b e = absurd (cc e)

-- a front of a piece is a front of more
pub front_of_more : (old new : Option (List ℕ)) (piece more whole : List ℕ) → whole ≡ piece ++ more → AppendsFront old new piece → AppendsFront old new whole
front_of_more old new piece more whole is cut =
    let up = cut.1 in (
      cut.0 ++ more,
      (up.0, is ∙ ap (λ (l : List ℕ). l ++ more) up.1 ∙ append_assoc up.0 cut.0 more, up.2),
      λ none. cut.2 (empty cut.0 more none),
    )

-- after what was written
pub front_behind : (old mid new : Option (List ℕ)) (text piece : List ℕ) → ((a b : List ℕ) → Appends old mid a → Appends mid new b → Appends old new (a ++ b)) → Appends old mid text
    → AppendsFront mid new piece → AppendsFront old new (text ++ piece)
front_behind old mid new text piece both first cut =
    let up = cut.1 in
    (cut.0, (text ++ up.0, ap (λ (l : List ℕ). text ++ l) up.1 ∙ sym (append_assoc text up.0 cut.0), both text up.0 first up.2), cut.2)

-- ---- the log up to and with its closed commit byte

-- the first bytes of a log area are a log too
front_log : {slots : ℕ} (pages len : ℕ) (batches : List (List (Record slots))) (area : List ℕ) → len ≡ length (log_bytes pages batches) + 1 → IsRecordLog pages batches area
    → IsRecordLog pages batches (take len area)
front_log {slots} pages len batches area all l =
    let bytes : List ℕ = log_bytes pages batches in
    let split : area ≡ (bytes ++ l.log.commit_byte ∷ []) ++ l.log.rest = l.log.are ∙ sym (append_assoc bytes (l.log.commit_byte ∷ []) l.log.rest) in
    let long : length (bytes ++ l.log.commit_byte ∷ []) ≡ len = omega (arith, length-append bytes (l.log.commit_byte ∷ []), all) in
    let are : take len area ≡ bytes ++ l.log.commit_byte ∷ [] = ap (λ (x : List ℕ). take len x) split ∙ take_at (bytes ++ l.log.commit_byte ∷ []) l.log.rest len long in
    record {
      batches_are = l.batches_are;
      log = record {
        bodies = l.log.bodies;
        commit_byte = l.log.commit_byte;
        closed = l.log.closed;
        rest = [];
        are = are;
        short = omega (arith, l.log.short, ap length are, long, ap length split, length-append (bytes ++ l.log.commit_byte ∷ []) l.log.rest);
      };
    }

module _ (slots : ℕ) (image : Bytes) (area : Area) (pages len : ℕ) (log : HasCurrentLog slots image area pages len) (o : Option (List ℕ)) (is : o ≡ Some (in_area image area)) (before after : Option (List ℕ)) where
  gives : GivesText slots (take len (in_area image area)) (text_of pages log.batches) first_place
  gives = gives_first slots (take len (in_area image area)) first_place pages log.batches refl refl (front_log pages len log.batches (in_area image area) log.all log.read.log)

  told : (P : List ℕ → Type 0) → IfSome o P → P (in_area image area)
  told P told_it = subst (λ (x : Option (List ℕ)). IfSome x P) is told_it

  text_is : (text : List ℕ) → text ≡ text_of pages log.batches → IsLogText slots image text
  text_is text are = record { area = area; pages = pages; batches = log.batches; read = log.read; are = are }

  -- all of it
  pub all_printed : (printed : (text : List ℕ) × Appends before after text × IfSome o (λ c. PrintsAll slots (take len c) first_place text))
      → (text : List ℕ) × IsLogText slots image text × Appends before after text
  all_printed printed = (printed.0, text_is printed.0 (sym (told (λ c. PrintsAll slots (take len c) first_place printed.0) printed.2 (text_of pages log.batches) gives)), printed.1)

  -- a front of it, where the sink failed
  pub part_printed : (printed : (text : List ℕ) × AppendsFront before after text × IfSome o (λ c. PrintsFront slots (take len c) first_place text))
      → (text : List ℕ) × IsLogText slots image text × AppendsFront before after text
  part_printed printed =
      let more = told (λ c. PrintsFront slots (take len c) first_place printed.0) printed.2 (text_of pages log.batches) gives in
      (text_of pages log.batches, text_is (text_of pages log.batches) refl, front_of_more before after printed.0 more.0 (text_of pages log.batches) more.1 printed.1)

  -- a front of it, where the disk failed
  pub front_printed : (text : List ℕ) → IfSome o (λ c. PrintsFront slots (take len c) first_place text) → IsTextFront slots image text
  front_printed text printed =
      let more = told (λ c. PrintsFront slots (take len c) first_place text) printed (text_of pages log.batches) gives in
      inr (more.0, text_is (text ++ more.0) (sym more.1))

  -- the log that was found stands there
  pub none_changed : IfSome o (λ c. IsNoPlace slots (take len c) first_place) → ⊥
  none_changed none = told (λ c. IsNoPlace slots (take len c) first_place) none (text_of pages log.batches) gives
