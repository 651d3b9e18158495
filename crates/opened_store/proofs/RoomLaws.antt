-- How many bytes the records of an undo have.
use Rattle.std.proofs.Common.{◌≡◌, ℕ, ◌+◌, ◌*◌, ◌<◌, List, [], ◌∷◌, Bool, true, false, length, refl, sym, ap, ◌∙◌, arith, inl, inr, ◌⊎◌}
use Rattle.std.proofs.lemmas.List.{length-append}
use Rattle.plain_model.specs.declared.write.Place.{Place}
use Rattle.plain_model.specs.declared.write.Place.TheVariants.{Slot, Payload, Whole}
use Rattle.cell_model.specs.Cells.{Cell}
use Rattle.cell_model.specs.Records.{Record as StoredRecord, Undo as UndoRecord, UndoPay as UndoPayRecord, AbortEnd as AbortEndRecord}
use Rattle.log_record.specs.declared.cell_record.CellRecord.{CellRecord}
use Rattle.log_record.specs.declared.cell_record.CellRecord.TheVariants.{Begin, Make, Store, Pay, Commit, Undo, AbortEnd, Weaken, Strengthen, Flip, CutDead, Free}
use Rattle.log_record.specs.declared.record.Record.{Record}
use Rattle.std.specs.Prelude.{◌==◌, if◌then◌else◌}
use Rattle.log_record.specs.Records.{record_of, payload_place}
use Rattle.log_record.specs.Spelling.{cell_record_bytes, record_bytes}
use Rattle.log_replay.specs.Replays.{Replaying}
use Rattle.opened_images.specs.LogRecords.{body_of}
use Rattle.restart_laws.specs.Unended.{Change, without_change}
use Rattle.restart_laws.specs.Restored.{undo_of}
use Rattle.store_opening.specs.Room.{undo_size}
use Rattle.store_opening.specs.Undone.{Finishes}
use Rattle.store_opening.proofs.UndoLaws.{EndsFirst, UndoesFirst, first-of, Step, step-of}
use Rattle.restart_laws.specs.Unended.{Unended}

-- the bytes of a record of an undo
abbrev size_of : StoredRecord → ℕ
size_of (UndoRecord pass id slot «from» from_strong to to_bit) = 25
size_of (UndoPayRecord pass id «from» to) = 25
size_of (AbortEndRecord pass) = 2
size_of _ = 0

undo-sized : (cells : List Cell) (pass : ℕ) (c : Change) → size_of (undo_of cells pass c) ≡ 25
undo-sized cells pass c = by c.place
  where
    by : (p : Place) → size_of (undo_of cells pass (record { id = c.id; place = p; old = c.old; new = c.new })) ≡ 25
    by (Slot slot) = refl
    by Payload = refl
    by Whole = refl

place-sized : (b : Bool) (pass id place «from» to : ℕ) (from_strong to_bit : Bool) → size_of (if b then UndoPayRecord pass id «from» to else UndoRecord pass id place «from» from_strong to to_bit) ≡ 25
place-sized true pass id place «from» to from_strong to_bit = refl
place-sized false pass id place «from» to from_strong to_bit = refl

bytes-sized : (r : CellRecord) → 0 < size_of (record_of r) → length (cell_record_bytes r) ≡ size_of (record_of r)
unfolding cell_record_bytes
bytes-sized (Begin pass) some = absurd (omega (arith, some))
bytes-sized (Make pass id) some = absurd (omega (arith, some))
bytes-sized (Store pass id slot old_target old_strong new_target new_bit new_strong) some = absurd (omega (arith, some))
bytes-sized (Pay pass id old_value new_value) some = absurd (omega (arith, some))
bytes-sized (Commit pass) some = absurd (omega (arith, some))
bytes-sized (Undo pass place from_strong to_bit id «from» to) some = sym (place-sized (place == payload_place) pass id place «from» to from_strong to_bit)
bytes-sized (AbortEnd pass) some = refl
bytes-sized (Weaken id slot target) some = absurd (omega (arith, some))
bytes-sized (Strengthen id slot target) some = absurd (omega (arith, some))
bytes-sized (Flip id) some = absurd (omega (arith, some))
bytes-sized (CutDead id slot target was_strong) some = absurd (omega (arith, some))
bytes-sized (Free id) some = absurd (omega (arith, some))

-- one record, and what is left then
step-sized : {slots : ℕ} (v w : Replaying) (r : Record slots) → Step v r w → length (record_bytes r) + undo_size w.unended ≡ undo_size v.unended
step-sized {slots} v w r s = by (first-of v.cells v.unended (record_of s.cell) s.next)
  where
    bytes : 0 < size_of (record_of s.cell) → length (record_bytes r) ≡ size_of (record_of s.cell)
    bytes some = ap (λ (q : Record slots). length (record_bytes q)) s.is ∙ bytes-sized s.cell some

    by : EndsFirst v.cells v.unended (record_of s.cell) ⊎ UndoesFirst v.cells v.unended (record_of s.cell) → length (record_bytes r) + undo_size w.unended ≡ undo_size v.unended
    by (inl f) =
        let two : size_of (record_of s.cell) ≡ 2 = ap size_of f.is in
        let len = bytes (omega (arith, two)) in
        let now : undo_size w.unended ≡ undo_size f.rest = ap undo_size (s.unended ∙ f.after) in
        let was : undo_size v.unended ≡ 2 + 25 * length f.entry.1.changes + undo_size f.rest = ap undo_size f.split in
        let none : length f.entry.1.changes ≡ 0 = ap (λ (cs : List Change). length cs) f.none in
        omega (arith, two, len, now, was, none)
    by (inr f) =
        let size : size_of (record_of s.cell) ≡ 25 = ap size_of f.is ∙ undo-sized v.cells f.entry.0 f.last in
        let len = bytes (omega (arith, size)) in
        let now : undo_size w.unended ≡ 2 + 25 * length (without_change f.entry.1).changes + undo_size f.rest = ap undo_size (s.unended ∙ f.after) in
        let was : undo_size v.unended ≡ 2 + 25 * length f.entry.1.changes + undo_size f.rest = ap undo_size f.split in
        let less = ap (λ (cs : List Change). length cs) f.less in
        let more = ap (λ (cs : List Change). length cs) f.changes ∙ length-append f.front (f.last ∷ []) in
        omega (arith, size, len, now, was, less, more)

all-sized : {slots : ℕ} (v w : Replaying) (rs : List (Record slots)) → Finishes v rs w → length (body_of rs) + undo_size w.unended ≡ undo_size v.unended
all-sized v w [] e = let same = ap (λ (x : Replaying). undo_size x.unended) e in omega (arith, same)
all-sized v w (r ∷ rs) f =
    let one = step-sized v f.0 r (step-of v f.0 r f.2) in
    let rest = all-sized f.0 w rs f.4 in
    let both = length-append (record_bytes r) (body_of rs) in
    omega (arith, one, rest, both)

pub undo-sized-all : {slots : ℕ} (v w : Replaying) (rs : List (Record slots)) (bytes : List ℕ) → Finishes v rs w → w.unended ≡ [] → bytes ≡ body_of rs → length bytes ≡ undo_size v.unended
undo-sized-all v w rs bytes f none are =
    let all = all-sized v w rs f in
    let zero : undo_size w.unended ≡ 0 = ap undo_size none in
    let len = ap (λ (bs : List ℕ). length bs) are in
    omega (arith, all, zero, len)
