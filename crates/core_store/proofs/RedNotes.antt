-- The red walk of one note more.
use Rattle.std.proofs.Common.{◌≡◌, List, [], ◌∷◌, ◌++◌, true, refl, sym, ap, ◌∙◌, subst, Option, Some, None}
use Rattle.std.specs.Prelude.{ℕ, option_map}
use Rattle.std.specs.Option.{option_map_or}
use Rattle.cell_model.specs.Cells.{Cell}
use Rattle.cell_model.specs.Records.{after_record, cells_after}
use Rattle.log_record.specs.declared.cell_record.CellRecord.{CellRecord}
use Rattle.log_record.specs.Records.{record_of}
use Rattle.core_store.specs.declared.note.Note.{Note}
use Rattle.core_store.specs.JournalView.{cells_after_notes, logged_in}
use Rattle.core_store.specs.Logged.{after_logged}
use Rattle.core_store.specs.RedWalks.{RedWalk, walk_after, walk_of, IsOver, is_first_copy, AreWalked}

-- the cells after a note, in both words
one-after : (slots : ℕ) (cells : List Cell) (logged : Option CellRecord) → option_map_or (after_record slots cells) (option_map record_of logged) cells ≡ after_logged slots cells logged
one-after slots cells None = refl
one-after slots cells (Some r) = refl

notes-after : (slots : ℕ) (cells : List Cell) (m : Note) (ms : List Note) → cells_after_notes slots (after_logged slots cells m.logged) ms ≡ cells_after_notes slots cells (m ∷ ms)
notes-after slots cells m ms = ap (λ (cs : List Cell). cells_after slots cs (logged_in ms)) (sym (one-after slots cells m.logged))

pub walk-push : (slots : ℕ) (cells : List Cell) (w : RedWalk) (notes : List Note) (n : Note) → walk_of slots cells w (notes ++ n ∷ []) ≡ walk_after (after_logged slots (cells_after_notes slots cells notes) n.logged) (walk_of slots cells w notes) n
walk-push slots cells w [] n = refl
walk-push slots cells w (m ∷ ms) n =
    let here = after_logged slots cells m.logged in
    let v = walk_after here w m in
    walk-push slots here v ms n ∙ ap (λ (cs : List Cell). walk_after (after_logged slots cs n.logged) (walk_of slots here v ms) n) (notes-after slots cells m ms)

pub AreWalked-push : (slots : ℕ) (cells : List Cell) (w : RedWalk) (notes : List Note) (n : Note) → AreWalked slots cells w notes → (is_first_copy (walk_of slots cells w notes) n.act ≡ true → IsOver (cells_after_notes slots cells notes) (walk_of slots cells w notes))
    → AreWalked slots cells w (notes ++ n ∷ [])
AreWalked-push slots cells w [] n all one = (one, tt)
AreWalked-push slots cells w (m ∷ ms) n all one =
    let here = after_logged slots cells m.logged in
    let v = walk_after here w m in
    (all.0, AreWalked-push slots here v ms n all.1 (λ e. subst (λ (cs : List Cell). IsOver cs (walk_of slots here v ms)) (sym (notes-after slots cells m ms)) (one e)))
