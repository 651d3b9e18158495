-- A reader that waits for more of a stream: how many bytes came, and whether the end is among them.
use Rattle.std.proofs.Common.{◌≡◌, ℕ, ◌+◌, ◌<◌, List, [], ◌∷◌, ◌++◌, length, refl, sym, ap, subst, ◌∙◌, arith, length-append}
use Rattle.cell_page.specs.Format.{IsSlotCount}
use Rattle.ship_stream.specs.declared.stage.Stage.{Stage}
use Rattle.ship_stream.specs.declared.stage.Stage.TheVariants.{Number, Base, FirstBatch, InBatch, Ended, Damaged}
use Rattle.ship_stream.specs.Reading.{Reading, Nothing, InBase, InLog, bytes_of}
use Rattle.ship_stream.specs.Faults.{Breaks}
use Rattle.ship_stream.specs.Feeding.{Feeding, Stands, HasTaken, IsWaiting}
use Rattle.ship_stream.specs.Laws.{IsRead}
use Rattle.standby_feeding.specs.Streams.{AreBytes, IsEnded, HasEnd, longest}
use Rattle.standby_feeding.proofs.ShortLaws.{short}

-- ---- how many bytes came, as far as the reader tells

abbrev pub came : Stage → Feeding → ℕ
came Number v = length v.held
came Base v = v.at + length v.held
came FirstBatch v = v.at
came InBatch v = v.at + 1 + length v.held
came Ended v = 0
came (Damaged at) v = 0

came_as : {slots : ℕ} (s : Stage) (r : Reading slots) (bytes rest : List ℕ) (v : Feeding) → Stands s r rest v → v.at ≡ length (bytes_of r) → bytes ≡ bytes_of r ++ rest → (s ≡ Ended → ⊥)
    → ((at : ℕ) → Breaks r rest at → ⊥) → came s v ≡ length bytes
came_as Number Nothing bytes rest v stands place split no_end no_fault = omega (arith, ap length stands, ap length split)
came_as Number (InBase count pages) bytes rest v stands place split no_end no_fault = absurd stands
came_as Number (InLog pages batches) bytes rest v stands place split no_end no_fault = absurd stands
came_as Base Nothing bytes rest v stands place split no_end no_fault = absurd stands
came_as Base (InBase count pages) bytes rest v stands place split no_end no_fault = omega (arith, place, ap length stands.0, ap length split, length-append (bytes_of (InBase count pages)) rest)
came_as Base (InLog pages batches) bytes rest v stands place split no_end no_fault = absurd stands
came_as FirstBatch Nothing bytes rest v stands place split no_end no_fault = absurd stands
came_as FirstBatch (InBase count pages) bytes rest v stands place split no_end no_fault = absurd stands
came_as FirstBatch (InLog pages batches) bytes rest v stands place split no_end no_fault = omega (arith, place, ap length stands.1, ap length split, length-append (bytes_of (InLog pages batches)) rest)
came_as InBatch Nothing bytes rest v stands place split no_end no_fault = absurd stands
came_as InBatch (InBase count pages) bytes rest v stands place split no_end no_fault = absurd stands
came_as InBatch (InLog pages batches) bytes rest v stands place split no_end no_fault = omega (arith, place, ap length stands.0, ap length split, length-append (bytes_of (InLog pages batches)) rest)
came_as Ended r bytes rest v stands place split no_end no_fault = absurd (no_end refl)
came_as (Damaged at) r bytes rest v stands place split no_end no_fault = absurd (no_fault at stands)

-- ---- whether the end came, as far as the reader tells

ended_as : {slots : ℕ} (s : Stage) (r : Reading slots) (rest : List ℕ) (v : Feeding) → Stands s r rest v → s ≡ Ended → IsEnded r rest
ended_as {slots} s r rest v stands is = by r (subst (λ (x : Stage). Stands x r rest v) is stands)
  where
    by : (r : Reading slots) → Stands Ended r rest v → IsEnded r rest
    by Nothing stands = absurd stands
    by (InBase count pages) stands = absurd stands
    by (InLog pages batches) stands = stands

pub cons_head : (x y : ℕ) (xs ys : List ℕ) → x ∷ xs ≡ y ∷ ys → x ≡ y
cons_head x y xs ys e = cc e

open_as : {slots : ℕ} (s : Stage) (r : Reading slots) (rest : List ℕ) (v : Feeding) → Stands s r rest v → (s ≡ Ended → ⊥) → ((at : ℕ) → Breaks r rest at → ⊥) → IsEnded r rest → ⊥
open_as s Nothing rest v stands no_end no_fault ended = ended
open_as s (InBase count pages) rest v stands no_end no_fault ended = ended
open_as Number (InLog pages batches) rest v stands no_end no_fault ended = stands
open_as Base (InLog pages batches) rest v stands no_end no_fault ended = stands
open_as FirstBatch (InLog pages batches) rest v stands no_end no_fault ended = omega (arith, ap length stands.0, ended.4)
open_as InBatch (InLog pages batches) rest v stands no_end no_fault ended = ended.3 (cons_head ended.0 1 ended.1 v.held (sym ended.2 ∙ stands.0))
open_as Ended (InLog pages batches) rest v stands no_end no_fault ended = no_end refl
open_as (Damaged at) (InLog pages batches) rest v stands no_end no_fault ended = no_fault at stands

-- ---- a reader that was fed with these bytes and waits

is_read : {slots : ℕ} (r : Reading slots) (bytes : List ℕ) (v : Feeding) (t : HasTaken r bytes v) → IsWaiting r t.rest → IsRead bytes r t.rest
is_read r bytes v t waits = record { reading = t.reading; split = t.split; waits = waits }

-- so many bytes came
pub came_is : {slots : ℕ} (r : Reading slots) (bytes : List ℕ) (v : Feeding) (t : HasTaken r bytes v) → IsWaiting r t.rest → (v.stage ≡ Ended → ⊥) → came v.stage v ≡ length bytes
came_is r bytes v t waits no_end = came_as v.stage r bytes t.rest v t.stands t.place t.split no_end waits.no_fault

-- and they are few
pub came_few : {slots : ℕ} (r : Reading slots) (bytes : List ℕ) (v : Feeding) (t : HasTaken r bytes v) → IsWaiting r t.rest → IsSlotCount slots → AreBytes bytes → (v.stage ≡ Ended → ⊥) → length bytes < longest slots
came_few {slots} r bytes v t waits known typed no_end = short slots bytes t.rest r known typed (is_read r bytes v t waits) (open_as v.stage r t.rest v t.stands no_end waits.no_fault)

-- the end came
pub has_end : {slots : ℕ} (r : Reading slots) (bytes : List ℕ) (v : Feeding) (t : HasTaken r bytes v) → IsWaiting r t.rest → v.stage ≡ Ended → HasEnd slots bytes
has_end r bytes v t waits is = (r, t.rest, is_read r bytes v t waits, ended_as v.stage r t.rest v t.stands is)

-- nothing has no end
pub nothing_open : (slots : ℕ) → HasEnd slots [] → ⊥
nothing_open slots has = none_in has.0 has.1 has.2.split has.3
  where
    none_in : (r : Reading slots) (rest : List ℕ) → [] ≡ bytes_of r ++ rest → IsEnded r rest → ⊥
    none_in Nothing rest split ended = ended
    none_in (InBase count pages) rest split ended = ended
    none_in (InLog pages batches) rest split ended = omega (arith, ap length split, length-append (bytes_of (InLog pages batches)) rest, ap length ended.2)
