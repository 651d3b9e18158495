-- A part of the stream more, or the rest of a piece.
use Rattle.std.proofs.Common.{◌≡◌, ℕ, List, ◌++◌, length, take, drop, Option, Some, None, refl, sym, ap, subst, ◌∙◌, append_assoc}
use Rattle.std.proofs.lemmas.List.{take-append-drop}
use Rattle.ship_stream.specs.declared.part.Part.{Part}
use Rattle.ship_stream.specs.Reading.{Reading, IsReading}
use Rattle.ship_stream.specs.Feeding.{Feeding, HasTaken, Adds, Takes, FindsDamage, IsWaiting}
use Rattle.standby.specs.Following.{Has, IsReadInto as IsFollowed}
use Rattle.standby.specs.Taking.{StopsIn}
use Rattle.standby.specs.Damage.{IsDamagedAt}
use Rattle.standby.proofs.TakingLaws.{found_damage, found_unfit}
use Rattle.log_checker.specs.Checking.{Checked, HasBoth, IsReadInto}
use Rattle.log_checker.specs.Feeds.{HasRead}
use Rattle.log_checker.specs.Taking.{Awaits}

-- without the fold, it is what a standby has
followed : {slots : ℕ} (r : Reading slots) (bytes : List ℕ) (v : Feeding) (c : Checked slots) → IsReadInto r bytes v c → IsFollowed r bytes v c.gathered
followed r bytes v c i = record { taken = i.taken; has = i.has.0 }

-- the part that comes is the one that may
pub awaited : {slots : ℕ} (r : Reading slots) (bytes piece : List ℕ) (v w : Feeding) (c : Checked slots) (n : ℕ) (part : Part slots) → Takes v w piece (n, Some part) → IsReadInto r bytes v c → Awaits c part
awaited r bytes piece v w c n part takes i =
    let t = takes r bytes i.taken in
    record { r = r; next = t.0; has = i.has; adds = t.1; reading = t.2.reading }

-- the part came, and that is made of it
pub one_part : {slots : ℕ} (piece : List ℕ) (v w : Feeding) (c d : Checked slots) (n : ℕ) (part : Part slots) → Takes v w piece (n, Some part)
    → ((r next : Reading slots) → HasBoth r c → Adds part r next → IsReading next → HasBoth next d)
    → (r : Reading slots) (bytes : List ℕ) → IsReadInto r bytes v c → (next : Reading slots) × IsReadInto next (bytes ++ take n piece) w d
one_part piece v w c d n part takes took r bytes i =
    let t = takes r bytes i.taken in
    (t.0, record { taken = t.2; has = took r t.0 i.has t.1 t.2.reading })

-- no part came, and the piece was taken
pub all_taken : {slots : ℕ} (piece : List ℕ) (v w : Feeding) (c : Checked slots) (n : ℕ) → Takes {slots = slots} v w piece (n, None)
    → ((r : Reading slots) (bytes : List ℕ) (t : HasTaken r bytes w) → IsWaiting r t.rest)
    → (r : Reading slots) (bytes : List ℕ) → IsReadInto r bytes v c → HasRead r (bytes ++ piece) w c
all_taken piece v w c n takes waits r bytes i =
    let t = takes r bytes i.taken in
    record { read = record { taken = t.1; has = i.has }; waits = waits r (bytes ++ piece) t.1 }

-- the reader found damage
pub damage_found : {slots : ℕ} (piece : List ℕ) (v w : Feeding) (c : Checked slots) (at : ℕ) → FindsDamage slots v w piece at
    → (r : Reading slots) (bytes : List ℕ) → IsReadInto r bytes v c → IsDamagedAt slots (bytes ++ piece) at
damage_found piece v w c at found r bytes i = found_damage piece v w c.gathered at found r bytes (followed r bytes v c i)

-- a record didn't fit
pub unfit_found : {slots : ℕ} (piece : List ℕ) (v w : Feeding) (c : Checked slots) (n at : ℕ) (part : Part slots) → Takes v w piece (n, Some part)
    → ((r next : Reading slots) → Has r c.gathered → Adds part r next → IsReading next → StopsIn r next at)
    → (r : Reading slots) (bytes : List ℕ) → IsReadInto r bytes v c → IsDamagedAt slots (bytes ++ piece) at
unfit_found piece v w c n at part takes stops r bytes i = found_unfit piece v w c.gathered n at part takes stops r bytes (followed r bytes v c i)

-- ---- a piece

-- These bytes are a front of all, of which this came whole, and those are left.
pub record IsPartly {slots : ℕ} (all : List ℕ) (v : Feeding) (c : Checked slots) (left : List ℕ) : Type 0 where
  pub r : Reading slots
  pub front : List ℕ
  pub read : IsReadInto r front v c
  pub split : all ≡ front ++ left

pub partly_first : {slots : ℕ} (r : Reading slots) (bytes piece : List ℕ) (v : Feeding) (c : Checked slots) → IsReadInto r bytes v c → IsPartly (bytes ++ piece) v c piece
partly_first r bytes piece v c i = record { r = r; front = bytes; read = i; split = refl }

pub partly_next : {slots : ℕ} (all left later : List ℕ) (v w : Feeding) (c d : Checked slots) (n : ℕ) → later ≡ drop n left
    → ((r : Reading slots) (bytes : List ℕ) → IsReadInto r bytes v c → (next : Reading slots) × IsReadInto next (bytes ++ take n left) w d)
    → IsPartly all v c left → IsPartly all w d later
partly_next all left later v w c d n is more p =
    let next = more p.r p.front p.read in
    record {
      r = next.0;
      front = p.front ++ take n left;
      read = next.1;
      split = p.split ∙ ap (λ (l : List ℕ). p.front ++ l) (sym (take-append-drop n left)) ∙ sym (append_assoc p.front (take n left) (drop n left)) ∙ ap (λ (l : List ℕ). (p.front ++ take n left) ++ l) (sym is);
    }

pub partly_all : {slots : ℕ} (all left : List ℕ) (v w : Feeding) (c d : Checked slots)
    → ((r : Reading slots) (bytes : List ℕ) → IsReadInto r bytes v c → HasRead r (bytes ++ left) w d)
    → IsPartly all v c left → (r : Reading slots) × HasRead r all w d
partly_all all left v w c d last p = (p.r, subst (λ (l : List ℕ). HasRead p.r l w d) (sym p.split) (last p.r p.front p.read))

pub partly_damaged : {slots : ℕ} (all left : List ℕ) (v : Feeding) (c : Checked slots) (at : ℕ)
    → ((r : Reading slots) (bytes : List ℕ) → IsReadInto r bytes v c → IsDamagedAt slots (bytes ++ left) at)
    → IsPartly all v c left → IsDamagedAt slots all at
partly_damaged {slots} all left v c at found p = subst (λ (l : List ℕ). IsDamagedAt slots l at) (sym p.split) (found p.r p.front p.read)
