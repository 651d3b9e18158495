-- What each record does to cells whose counts are of no account.
use Rattle.std.proofs.Common.{◌≡◌, ◌≢◌, ℕ, ◌<◌, ◌≤◌, Bool, true, false, List, [], ◌∷◌, length, map, Option, Some, None, refl, sym, ap, subst, ◌∙◌, ⊎_elim, arith}
use Rattle.std.specs.Prelude.{◌==◌, if◌then◌else◌, option_map}
use Rattle.std.proofs.lemmas.Bool.{eqb-true, eqb-false, cases_eq}
use Rattle.cell_model.specs.Cells.{Cell, edit, relink, pays}
use Rattle.cell_model.specs.Records.{Undo as UndoRecord, UndoPay as UndoPayRecord, Fits, IsPointer, AllFit, after_record, cells_after}
use Rattle.cell_model.proofs.EditLaws.{live-within}
use Rattle.log_record.specs.declared.cell_record.CellRecord.{CellRecord}
use Rattle.log_record.specs.Records.{record_of, after_cell_record}
use Rattle.core_store.specs.declared.note.Note.{Note}
use Rattle.core_store.specs.JournalView.{logged_in, cells_after_notes}
use Rattle.log_record.specs.declared.cell_record.CellRecord.TheVariants.{Undo}
use Rattle.auditor.specs.Replay.{uncounted, SameButCounts, Replays, ReplaysNote, IsReplayed}
use Rattle.auditor.proofs.EditSame.{same-length, pays-same, relinked-same}

-- a pointer that fits leads to a cell of the store, or nowhere
small : (stored : List Cell) (to : ℕ) (bit strong : Bool) → IsPointer stored to bit strong → length stored ≤ 8193 → to < 8193
small stored to bit strong p few =
    ⊎_elim
    (λ (z : to ≡ 0). omega (arith, z))
    (λ (n : to ≢ 0). let within = live-within stored to (p.live n) in omega (arith, within, few))
    (cases_eq to 0)

module _ (slots : ℕ) (before after : List Cell) (pass id place «from» : ℕ) (strong : Bool) (to : ℕ) (bit : Bool) (few : length before ≤ 8193)
    (pay : place ≡ 255 → after ≡ edit before id (pays to)) (slot : place ≢ 255 → to < 8193 → after ≡ edit before id (relink place (record { target = to; bit = bit }))) where
  by : (stored : List Cell) → SameButCounts before stored → (b : Bool) → (place == 255) ≡ b → Fits stored (if b then UndoPayRecord pass id «from» to else UndoRecord pass id place «from» strong to bit)
      → SameButCounts after (after_record slots stored (if b then UndoPayRecord pass id «from» to else UndoRecord pass id place «from» strong to bit))
  by stored e true y h = subst (λ (cs : List Cell). SameButCounts cs (edit stored id (pays to))) (sym (pay (eqb-true place 255 y))) (pays-same before stored id to e)
  by stored e false y h =
      let long = same-length before stored e in
      let low = small stored to bit false h.1 (omega (arith, long, few)) in
      subst (λ (cs : List Cell). SameButCounts cs (after_record slots stored (UndoRecord pass id place «from» strong to bit))) (sym (slot (eqb-false place 255 y) low)) (relinked-same before stored id place (record { target = to; bit = bit }) e)

  pub undo-replays : Replays slots before (Undo pass place strong bit id «from» to) after
  undo-replays stored e fits = by stored e (place == 255) refl fits

-- ---- one note after another

step : (slots : ℕ) (first : List Cell) (trace rest : List Note) (before after stored : List Cell) (logged : Option CellRecord)
    → ReplaysNote slots before logged after → SameButCounts before stored
    → AllFit slots stored (option_map record_of logged ∷ logged_in rest)
    → cells_after slots stored (option_map record_of logged ∷ logged_in rest) ≡ cells_after_notes slots first trace
    → IsReplayed slots first trace rest after
step slots first trace rest before after stored None replays e fits ends = record { stored = stored; same = ap (λ (cs : List Cell). map uncounted cs) replays ∙ e; fits = fits; ends = ends }
step slots first trace rest before after stored (Some r) replays e fits ends =
    record { stored = after_cell_record slots stored r; same = replays stored e fits.0; fits = fits.1; ends = ends }

pub note-replayed : (slots : ℕ) (first : List Cell) (trace left rest : List Note) (note : Note) (before after : List Cell) → left ≡ note ∷ rest → ReplaysNote slots before note.logged after → IsReplayed slots first trace left before → IsReplayed slots first trace rest after
note-replayed slots first trace left rest note before after is replays was =
    let now : IsReplayed slots first trace (note ∷ rest) before = subst (λ (notes : List Note). IsReplayed slots first trace notes before) is was in
    step slots first trace rest before after now.stored note.logged replays now.same now.fits now.ends

pub all-replayed : (slots : ℕ) (first : List Cell) (trace left : List Note) (cells : List Cell) → left ≡ [] → IsReplayed slots first trace left cells → SameButCounts cells (cells_after_notes slots first trace)
all-replayed slots first trace left cells is was =
    let none : IsReplayed slots first trace [] cells = subst (λ (notes : List Note). IsReplayed slots first trace notes cells) is was in
    none.same ∙ ap (λ (cs : List Cell). map uncounted cs) none.ends
