-- From one place of a log to another one.
use Rattle.std.proofs.Common.{◌≡◌, ◌≢◌, ⊎_elim, ℕ, ◌+◌, ◌-◌, ◌*◌, ◌^◌, ◌<◌, ◌≤◌, List, [], ◌∷◌, ◌++◌, length, take, drop, refl, sym, ap, subst, ◌∙◌, arith, append_assoc, length-append, length-take, length-drop, take-append-drop, lit≤}
use Rattle.std.specs.Prelude.{slice_index}
use Rattle.std.specs.Int.{w16, w32, to_be_bytes}
use Rattle.std.proofs.lemmas.List.{take-take, take_at, append-nil}
use Rattle.cell_page.specs.Format.{IsSlotCount, cell_size, page_bytes}
use Rattle.cell_page.proofs.Pages.{length-page_bytes}
use Rattle.log_record.specs.declared.cell_record.CellRecord.{CellRecord}
use Rattle.log_record.specs.declared.cell_record.CellRecord.TheVariants.{Begin, Make, Store, Pay, Commit, Undo, AbortEnd, Weaken, Strengthen, Flip, CutDead, Free}
use Rattle.log_record.specs.declared.record.Record.{Record}
use Rattle.log_record.specs.declared.record.Record.TheVariants.{OfCells, Image, Turn}
use Rattle.log_record.specs.Spelling.{cell_record_bytes, record_bytes, HasSpelling, IsTypedRecord, BeginsWith}
use Rattle.log_record.proofs.ReadLaws.{some_bytes}
use Rattle.gate_log.specs.Batches.{batch_bytes, batches_bytes}
use Rattle.gate_log.proofs.Logs.{length-sized}
use Rattle.opened_images.specs.LogRecords.{body_of, bodies_of}
use Rattle.log_printing.specs.Text.{lines_of, line_at}
use Rattle.log_printing.specs.Lines.{Place}
use Rattle.log_printing.proofs.LineLaws.{left_within, ends_there, batch_left, entered, head, line_next}
use Rattle.log_printing.specs.Walks.{PrintsTo, PrintsFront, PrintsAll, IsNoPlace}

-- ---- how long a record is

cell_longest : (r : CellRecord) → length (cell_record_bytes r) ≤ 25
unfolding cell_record_bytes
cell_longest (Begin pass) = lit≤ tt
cell_longest (Make pass id) = lit≤ tt
cell_longest (Store pass id slot old_target old_strong new_target new_bit new_strong) = lit≤ tt
cell_longest (Pay pass id old_value new_value) = lit≤ tt
cell_longest (Commit pass) = lit≤ tt
cell_longest (Undo pass place from_strong to_bit id «from» to) = lit≤ tt
cell_longest (AbortEnd pass) = lit≤ tt
cell_longest (Weaken id slot target) = lit≤ tt
cell_longest (Strengthen id slot target) = lit≤ tt
cell_longest (Flip id) = lit≤ tt
cell_longest (CutDead id slot target was_strong) = lit≤ tt
cell_longest (Free id) = lit≤ tt

page_longest : (slots : ℕ) → IsSlotCount slots → 8 * cell_size slots ≤ 1024
page_longest slots known =
    ⊎_elim (λ (six : slots ≡ 6). subst (λ (n : ℕ). 8 * cell_size n ≤ 1024) (sym six) (lit≤ tt)) (λ (fourteen : slots ≡ 14). subst (λ (n : ℕ). 8 * cell_size n ≤ 1024) (sym fourteen) (lit≤ tt)) known

pub longest : {slots : ℕ} → IsSlotCount slots → (r : Record slots) → HasSpelling r → IsTypedRecord r → length (record_bytes r) ≤ 1027
longest known (OfCells r) rules typed = let short = cell_longest r in omega (arith, short)
longest {slots} known (Image page cells) rules typed =
    let long : length (page_bytes cells) ≡ 8 * cell_size slots =
    length-page_bytes cells known (λ place d below. (typed.1 place d below).slot_count) ∙ ap (λ (n : ℕ). n * cell_size slots) rules.eight in
    let most = page_longest slots known in
    omega (arith, long, most, length-append (to_be_bytes w16 page) (page_bytes cells))
longest known (Turn version pages) rules typed = lit≤ tt

-- ---- a record in front of bytes of which only a front is held

pub longer : {slots : ℕ} (bytes : List ℕ) (size all : ℕ) (r : Record slots) (len : ℕ) → size ≤ all → BeginsWith (take size bytes) r len → BeginsWith (take all bytes) r len
longer bytes size all r len fits b =
    let more : List ℕ = drop size (take all bytes) in
    record {
      rules = b.rules;
      typed = b.typed;
      rest = b.rest ++ more;
      are = sym (take-append-drop size (take all bytes)) ∙ ap (λ (l : List ℕ). l ++ more) (take-take size all bytes fits ∙ b.are) ∙ append_assoc (record_bytes r) b.rest more;
      takes = b.takes;
    }

pub shorter : {slots : ℕ} (bytes : List ℕ) (size all : ℕ) (r : Record slots) → length (record_bytes r) ≤ size → size ≤ all → BeginsWith (take all bytes) r (length (record_bytes r))
    → BeginsWith (take size bytes) r (length (record_bytes r))
shorter bytes size all r fits small b =
    let n : ℕ = length (record_bytes r) in
    let front : take n (take size bytes) ≡ record_bytes r =
    take-take n size bytes fits ∙ sym (take-take n all bytes (omega (arith, fits, small))) ∙ ap (λ (l : List ℕ). take n l) b.are ∙ take_at (record_bytes r) b.rest n refl in
    record {
      rules = b.rules;
      typed = b.typed;
      rest = drop n (take size bytes);
      are = sym (take-append-drop n (take size bytes)) ∙ ap (λ (l : List ℕ). l ++ drop n (take size bytes)) front;
      takes = b.takes;
    }

-- ---- one step

within_length : {slots : ℕ} (bytes : List ℕ) (r : Record slots) (len : ℕ) → BeginsWith bytes r len → length (record_bytes r) ≤ length bytes
within_length bytes r len b = omega (arith, ap length b.are, length-append (record_bytes r) b.rest)

-- a record has some bytes, and they are within those that it begins
pub first_within : {slots : ℕ} (bytes : List ℕ) (r : Record slots) (len : ℕ) → BeginsWith bytes r len → (1 ≤ len) × (len ≤ length bytes)
first_within {slots} bytes r len b =
    let own : BeginsWith (record_bytes r) r (length (record_bytes r)) = record { rules = b.rules; typed = b.typed; rest = []; are = sym (append-nil (record_bytes r)); takes = refl } in
    let some = some_bytes (record_bytes r) r (length (record_bytes r)) own in
    (omega (arith, some, b.takes), omega (arith, ap length b.are, length-append (record_bytes r) b.rest, b.takes))

-- the record's line
pub prints_line : {slots : ℕ} → IsSlotCount slots → (log : List ℕ) (p : Place) (size len : ℕ) (r : Record slots) (line : List ℕ) → p.at < p.end → size ≤ p.end - p.at
    → BeginsWith (take size (drop p.at log)) r len → line ≡ line_at p.at r → PrintsTo slots log p (record { at = p.at + len; end = p.end }) line
prints_line known log p size len r line some fits b line_is whole gives =
    line_next known log whole p (record { at = p.at + len; end = p.end }) r len line some (longer (drop p.at log) size (p.end - p.at) r len fits b) refl refl line_is gives

-- where no record is, no log stands
pub no_record_there : {slots : ℕ} → IsSlotCount slots → (log : List ℕ) (p : Place) (size : ℕ) → p.at < p.end → size ≤ p.end - p.at → ((n : ℕ) → n ≤ p.end - p.at → n ≤ 1027 → n ≤ size)
    → ((r : Record slots) (len : ℕ) → BeginsWith (take size (drop p.at log)) r len → ⊥) → IsNoPlace slots log p
no_record_there {slots} known log p size some fits most none whole gives =
    let h = head log gives.0 p some gives.1 in
    let n : ℕ = length (record_bytes h.r) in
    let low = within_length (take (p.end - p.at) (drop p.at log)) h.r n h.begins in
    let short : length (take (p.end - p.at) (drop p.at log)) ≤ p.end - p.at = taken (p.end - p.at) (drop p.at log) in
    let inside : n ≤ size = most n (omega (arith, low, short)) (longest known h.r h.begins.rules h.begins.typed) in
    none h.r n (shorter (drop p.at log) size (p.end - p.at) h.r inside fits h.begins)
  where
    taken : (k : ℕ) (l : List ℕ) → length (take k l) ≤ k
    taken k l = omega (arith, length-take k l)

-- a closed commit byte ends the log
pub at_end : (slots : ℕ) (log : List ℕ) (at : ℕ) → slice_index log at ≢ 1 → PrintsAll slots log (record { at = at; end = at }) []
at_end slots log at shut whole gives = gives.2 ∙ ap (λ (l : List (ℕ × Record slots)). lines_of l) (ends_there log gives.0 (record { at = at; end = at }) refl shut gives.1)

-- a batch after an open one
pub into_batch : (slots : ℕ) (log : List ℕ) (at size : ℕ) → slice_index log at ≡ 1 → size < 2 ^ 32 → to_be_bytes w32 size ≡ take 4 (drop (at + 1) log)
    → PrintsTo slots log (record { at = at; end = at }) (record { at = at + 5; end = at + 5 + size }) []
into_batch slots log at size opened typed spelled whole gives = (
  whole,
  refl,
  (gives.0, (entered log gives.0 (record { at = at; end = at }) (record { at = at + 5; end = at + 5 + size }) size refl opened typed spelled refl refl gives.1).0, gives.2),
)

-- the log is longer than that
pub no_room : (slots : ℕ) (log : List ℕ) (at len : ℕ) → length log ≤ len → slice_index log at ≡ 1 → len ≤ at + 5 → IsNoPlace slots log (record { at = at; end = at })
no_room slots log at len long opened short whole gives =
    let b = batch_left log gives.0 (record { at = at; end = at }) refl opened gives.1 in
    let within = left_within log gives.0 (record { at = at; end = at }) gives.1 in
    let some : 1 ≤ length (body_of b.batch) = b.whole.some in
    let more : List ℕ = batches_bytes (bodies_of b.later) ++ b.commit_byte ∷ b.rest in
    omega (arith, ap length b.are, length-append (batch_bytes (body_of b.batch)) more, length-sized (body_of b.batch), length-drop at log, long, short, some, within.1)

pub no_body : (slots : ℕ) (log : List ℕ) (at size len : ℕ) → length log ≤ len → slice_index log at ≡ 1 → size < 2 ^ 32 → to_be_bytes w32 size ≡ take 4 (drop (at + 1) log) → len ≤ at + 5 + size
    → IsNoPlace slots log (record { at = at; end = at })
no_body slots log at size len long opened typed spelled short whole gives =
    let q : Place = record { at = at + 5; end = at + 5 + size } in
    let into = entered log gives.0 (record { at = at; end = at }) q size refl opened typed spelled refl refl gives.1 in
    let within = left_within log gives.0 q into.0 in
    omega (arith, within.1, long, short)

-- an area of no byte is no log
pub no_log : (slots len : ℕ) (area : List ℕ) (p : Place) → len ≡ 0 → IsNoPlace slots (take len area) p
no_log slots len area p none whole gives = let within = left_within (take len area) gives.0 p gives.1 in omega (arith, within.1, length-take len area, none)

-- ---- steps one after another

pub goes_nowhere : (slots : ℕ) (log : List ℕ) (p : Place) → PrintsTo slots log p p []
goes_nowhere slots log p whole gives = (whole, refl, gives)

pub prints_both : (slots : ℕ) (log : List ℕ) (p q r : Place) (a b : List ℕ) → PrintsTo slots log p q a → PrintsTo slots log q r b → PrintsTo slots log p r (a ++ b)
prints_both slots log p q r a b one two whole gives =
    let x = one whole gives in
    let y = two x.0 x.2 in
    (y.0, x.1 ∙ ap (λ (l : List ℕ). a ++ l) y.1 ∙ sym (append_assoc a b y.0), y.2)

pub prints_front : (slots : ℕ) (log : List ℕ) (p q : Place) (a : List ℕ) → PrintsTo slots log p q a → PrintsFront slots log p a
prints_front slots log p q a one whole gives = let x = one whole gives in (x.0, x.1)

pub prints_front_behind : (slots : ℕ) (log : List ℕ) (p q : Place) (a b : List ℕ) → PrintsTo slots log p q a → PrintsFront slots log q b → PrintsFront slots log p (a ++ b)
prints_front_behind slots log p q a b one two whole gives =
    let x = one whole gives in
    let y = two x.0 x.2 in
    (y.0, x.1 ∙ ap (λ (l : List ℕ). a ++ l) y.1 ∙ sym (append_assoc a b y.0))

pub prints_rest : (slots : ℕ) (log : List ℕ) (p q : Place) (a b : List ℕ) → PrintsTo slots log p q a → PrintsAll slots log q b → PrintsAll slots log p (a ++ b)
prints_rest slots log p q a b one two whole gives = let x = one whole gives in x.1 ∙ ap (λ (l : List ℕ). a ++ l) (two x.0 x.2)

pub no_place_behind : (slots : ℕ) (log : List ℕ) (p q : Place) (a : List ℕ) → PrintsTo slots log p q a → IsNoPlace slots log q → IsNoPlace slots log p
no_place_behind slots log p q a one none whole gives = let x = one whole gives in none x.0 x.2
