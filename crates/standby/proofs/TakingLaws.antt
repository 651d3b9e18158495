-- A part of the stream more, or the rest of a piece.
use Rattle.std.proofs.Common.{◌≡◌, inl, inr, ℕ, ◌≤◌, List, [], ◌∷◌, ◌++◌, length, take, drop, Option, Some, None, refl, sym, ap, subst, ◌∙◌, arith, append_assoc, length-append}
use Rattle.std.proofs.lemmas.List.{take-append-drop}
use Rattle.gate_log.specs.Batches.{batch_bytes}
use Rattle.log_record.specs.declared.record.Record.{Record}
use Rattle.opened_images.specs.LogRecords.{body_of}
use Rattle.ship_stream.specs.declared.stage.Stage.{Stage}
use Rattle.ship_stream.specs.declared.stage.Stage.TheVariants.{Number, Base, FirstBatch, InBatch, Ended, Damaged}
use Rattle.ship_stream.specs.declared.part.Part.{Part}
use Rattle.ship_stream.specs.Reading.{Reading, Nothing, InBase, InLog, bytes_of, IsReading}
use Rattle.ship_stream.specs.Faults.{BreaksLog, no_batch, no_body, no_record, no_end}
use Rattle.ship_stream.specs.Feeding.{Feeding, HasTaken, Stands, Adds, Takes, FindsDamage, IsWaiting}
use Rattle.standby.specs.Following.{Gathering, Has, IsReadInto}
use Rattle.standby.specs.Taking.{Awaits, StopsIn}
use Rattle.standby.specs.Damage.{IsDamagedAt}
use Rattle.standby.specs.Feeds.{HasRead}
use Rattle.standby.proofs.GatherLaws.{fits_base}

-- what a call took, where the part is known
pub takes_part : {slots : ℕ} (v w : Feeding) (piece : List ℕ) (n : ℕ) (o : Option (Part slots)) (part : Part slots) → o ≡ Some part → Takes v w piece (n, o) → Takes v w piece (n, Some part)
takes_part v w piece n o part is takes = subst (λ x. Takes v w piece (n, x)) is takes

pub takes_none : {slots : ℕ} (v w : Feeding) (piece : List ℕ) (n : ℕ) (o : Option (Part slots)) → o ≡ None → Takes v w piece (n, o) → Takes {slots = slots} v w piece (n, None)
takes_none v w piece n o is takes = subst (λ x. Takes v w piece (n, x)) is takes

-- the part that comes is the one that may
pub awaited : {slots : ℕ} (r : Reading slots) (bytes piece : List ℕ) (v w : Feeding) (g : Gathering slots) (n : ℕ) (part : Part slots) → Takes v w piece (n, Some part) → IsReadInto r bytes v g → Awaits g part
awaited r bytes piece v w g n part takes i =
    let t = takes r bytes i.taken in
    record { r = r; next = t.0; has = i.has; adds = t.1; reading = t.2.reading }

-- the part came, and that is made of it
pub one_part : {slots : ℕ} (piece : List ℕ) (v w : Feeding) (g h : Gathering slots) (n : ℕ) (part : Part slots) → Takes v w piece (n, Some part)
    → ((r next : Reading slots) → Has r g → Adds part r next → IsReading next → Has next h)
    → (r : Reading slots) (bytes : List ℕ) → IsReadInto r bytes v g → (next : Reading slots) × IsReadInto next (bytes ++ take n piece) w h
one_part piece v w g h n part takes took r bytes i =
    let t = takes r bytes i.taken in
    (t.0, record { taken = t.2; has = took r t.0 i.has t.1 t.2.reading })

-- no part came, and the piece was taken
pub all_taken : {slots : ℕ} (piece : List ℕ) (v w : Feeding) (g : Gathering slots) (n : ℕ) → Takes {slots = slots} v w piece (n, None)
    → ((r : Reading slots) (bytes : List ℕ) (t : HasTaken r bytes w) → IsWaiting r t.rest)
    → (r : Reading slots) (bytes : List ℕ) → IsReadInto r bytes v g → HasRead r (bytes ++ piece) w g
all_taken piece v w g n takes waits r bytes i =
    let t = takes r bytes i.taken in
    record { read = record { taken = t.1; has = i.has }; waits = waits r (bytes ++ piece) t.1 }

-- the reader found damage
pub found_damage : {slots : ℕ} (piece : List ℕ) (v w : Feeding) (g : Gathering slots) (at : ℕ) → FindsDamage slots v w piece at
    → (r : Reading slots) (bytes : List ℕ) → IsReadInto r bytes v g → IsDamagedAt slots (bytes ++ piece) at
found_damage piece v w g at found r bytes i =
    let t = found.shown r bytes i.taken in
    inl (record { r = r; rest = t.rest; reading = t.reading; split = t.split; fit = fits_base r g i.has; breaks = subst (λ s. Stands s r t.rest w) found.stage t.stands })

-- ---- a record that doesn't fit

-- a fault after batches is one of bytes that came
pub log_bytes_broke : {slots : ℕ} (pages : ℕ) (batches : List (List (Record slots))) (rest : List ℕ) (at : ℕ) → BreaksLog pages batches rest at → 1 ≤ length rest
log_bytes_broke pages batches rest at (no_batch commit_byte more first are closed is) = omega (arith, ap length are)
log_bytes_broke pages batches rest at (no_body size more are typed wrong within is) = omega (arith, ap length are)
log_bytes_broke pages batches rest at (no_record rs left commit_byte more are size within stops is) =
    omega (arith, ap length are, length-append (batch_bytes (body_of rs ++ left)) (commit_byte ∷ more))
log_bytes_broke pages batches rest at (no_end more are full over is) = omega (arith, ap length are)

-- after a batch its commit byte came
byte_behind : {slots : ℕ} (stage : Stage) (r : Reading slots) (rest : List ℕ) (v : Feeding) → (pages : _) (front : List (List (Record slots))) (rs : List (Record slots)) → r ≡ InLog pages (front ++ rs ∷ []) → Stands stage r rest v
    → 1 ≤ length rest
byte_behind stage r rest v pages front rs is stands = by stage (subst (λ x. Stands stage x rest v) is stands)
  where
    by : (s : Stage) → Stands s (InLog pages (front ++ rs ∷ [])) rest v → 1 ≤ length rest
    by Number st = absurd st
    by Base st = absurd st
    by FirstBatch st = absurd (omega (arith, ap length st.0, length-append front (rs ∷ [])))
    by InBatch st = omega (arith, ap length st.0)
    by Ended st = omega (arith, ap length st.2)
    by (Damaged at) st = log_bytes_broke (length pages) (front ++ rs ∷ []) rest st.0 st.1

pub found_unfit : {slots : ℕ} (piece : List ℕ) (v w : Feeding) (g : Gathering slots) (n at : ℕ) (part : Part slots) → Takes v w piece (n, Some part)
    → ((r next : Reading slots) → Has r g → Adds part r next → IsReading next → StopsIn r next at)
    → (r : Reading slots) (bytes : List ℕ) → IsReadInto r bytes v g → IsDamagedAt slots (bytes ++ piece) at
found_unfit {slots} piece v w g n at part takes stops r bytes i =
    let t = takes r bytes i.taken in
    by r t.0 t.2 (stops r t.0 i.has t.1 t.2.reading)
  where
    by : (r next : Reading slots) → HasTaken next (bytes ++ take n piece) w → StopsIn r next at → IsDamagedAt slots (bytes ++ piece) at
    by Nothing next t s = absurd s
    by (InBase count pages) next t s = absurd s
    by (InLog pages batches) next t s =
        let rest = t.rest ++ drop n piece in
        let behind = byte_behind w.stage next t.rest w pages batches s.0 s.1 t.stands in
        inr (record {
          pages = pages;
          front = batches;
          rs = s.0;
          rest = rest;
          reading = subst (λ x. IsReading x) s.1 t.reading;
          split = ap (λ (l : List ℕ). bytes ++ l) (sym (take-append-drop n piece)) ∙ sym (append_assoc bytes (take n piece) (drop n piece))
              ∙ ap (λ (l : List ℕ). l ++ drop n piece) t.split ∙ append_assoc (bytes_of next) t.rest (drop n piece) ∙ ap (λ x. bytes_of x ++ rest) s.1;
          behind = omega (arith, behind, length-append t.rest (drop n piece));
          fit = s.2;
          stops = s.3;
        })

-- ---- a piece

-- These bytes are a front of all, of which this came whole, and those are left.
pub record IsPartly {slots : ℕ} (all : List ℕ) (v : Feeding) (g : Gathering slots) (left : List ℕ) : Type 0 where
  pub r : Reading slots
  pub front : List ℕ
  pub read : IsReadInto r front v g
  pub split : all ≡ front ++ left

pub partly_first : {slots : ℕ} (r : Reading slots) (bytes piece : List ℕ) (v : Feeding) (g : Gathering slots) → IsReadInto r bytes v g → IsPartly (bytes ++ piece) v g piece
partly_first r bytes piece v g i = record { r = r; front = bytes; read = i; split = refl }

pub partly_next : {slots : ℕ} (all left later : List ℕ) (v w : Feeding) (g h : Gathering slots) (n : ℕ) → later ≡ drop n left
    → ((r : Reading slots) (bytes : List ℕ) → IsReadInto r bytes v g → (next : Reading slots) × IsReadInto next (bytes ++ take n left) w h)
    → IsPartly all v g left → IsPartly all w h later
partly_next all left later v w g h n is more p =
    let next = more p.r p.front p.read in
    record {
      r = next.0;
      front = p.front ++ take n left;
      read = next.1;
      split = p.split ∙ ap (λ (l : List ℕ). p.front ++ l) (sym (take-append-drop n left)) ∙ sym (append_assoc p.front (take n left) (drop n left)) ∙ ap (λ (l : List ℕ). (p.front ++ take n left) ++ l) (sym is);
    }

pub partly_all : {slots : ℕ} (all left : List ℕ) (v w : Feeding) (g h : Gathering slots)
    → ((r : Reading slots) (bytes : List ℕ) → IsReadInto r bytes v g → HasRead r (bytes ++ left) w h)
    → IsPartly all v g left → (r : Reading slots) × HasRead r all w h
partly_all all left v w g h last p = (p.r, subst (λ (l : List ℕ). HasRead p.r l w h) (sym p.split) (last p.r p.front p.read))

pub partly_damaged : {slots : ℕ} (all left : List ℕ) (v : Feeding) (g : Gathering slots) (at : ℕ)
    → ((r : Reading slots) (bytes : List ℕ) → IsReadInto r bytes v g → IsDamagedAt slots (bytes ++ left) at)
    → IsPartly all v g left → IsDamagedAt slots all at
partly_damaged {slots} all left v g at found p = subst (λ (l : List ℕ). IsDamagedAt slots l at) (sym p.split) (found p.r p.front p.read)
