-- Keys that were told below an object.
use Rattle.std.specs.Prelude.{◌≡◌, ◌≢◌, ℕ, ◌<◌, ◌≤◌, List, Option, Some, None, ◌⊎◌}
use Rattle.std.specs.Int.{bit_at}
use Rattle.plain_model.specs.declared.object.Object.{Object}
use Rattle.object_map.specs.declared.telling.Span.{Span}
use Rattle.object_map.specs.Trees.{above}
use Rattle.object_map.specs.Maps.{slot_of, payload_of}
use Rattle.object_map.specs.Broken.{CanTell, IsMet}

-- the key is neither below the span's low one nor above its high one
abbrev pub IsWithin : Option Span → ℕ → Type 0
IsWithin None key = ⊥
IsWithin (Some s) key = (s.low ≤ key) × (key ≤ s.high)

-- the key is the span's low one or its high one
abbrev pub IsEnd : Option Span → ℕ → Type 0
IsEnd None key = ⊥
IsEnd (Some s) key = (key ≡ s.low) ⊎ (key ≡ s.high)

-- each key that can be told below an inner object that was met, with a number below the bit, is within the span
abbrev pub AreTold : (ℕ → Option Object) → ℕ → List ℕ → Option Span → Type 0
AreTold at bit met span = (id : ℕ) → IsMet met id → slot_of (at id) 2 ≡ 0 → payload_of (at id) < bit → (key : ℕ) → CanTell at bit id key → IsWithin span key

-- The keys that can be told below object x joined the span, and the inner objects there those that were met.
pub record Tells (at : ℕ → Option Object) (bit x : ℕ) (old new : List ℕ) (before after : Option Span) : Type 0 where
  pub all : (key : ℕ) → CanTell at bit x key → IsWithin after key
  pub kept : (key : ℕ) → IsWithin before key → IsWithin after key
  pub ends : (key : ℕ) → IsEnd after key → IsEnd before key ⊎ CanTell at bit x key
  pub told : AreTold at bit new after
  pub more : (id : ℕ) → IsMet new id → IsMet old id ⊎ (payload_of (at id) < bit)

-- a key of the low span, whose side is 0, or of the high one, whose side is 1
abbrev pub OfSide : (Option Span → ℕ → Type 0) → Option Span → Option Span → ℕ → ℕ → Type 0
OfSide Is low high side key = ((side ≡ 0) × Is low key) ⊎ ((side ≡ 1) × Is high key)

-- the keys of two spans part at the bit: each has its side's digit there, and above it all are the same
pub record DoSpansPart (low high : Option Span) (bit : ℕ) : Type 0 where
  pub digit : (side key : ℕ) → OfSide IsWithin low high side key → bit_at key bit ≡ side
  pub prefix : (side key other more : ℕ) → OfSide IsWithin low high side key → OfSide IsWithin low high other more → above bit key ≡ above bit more

-- ends of the spans show that they don't
pub data AreMixed (low high : Option Span) (bit : ℕ) : Type 0 where
  by_digit : (side key : ℕ) → OfSide IsEnd low high side key → bit_at key bit ≢ side → AreMixed low high bit
  by_prefix : (side key other more : ℕ) → OfSide IsEnd low high side key → OfSide IsEnd low high other more → above bit key ≢ above bit more → AreMixed low high bit

-- an end of the span has another digit than this one at the bit, or its ends differ above it
pub data AreStray (span : Option Span) (bit side : ℕ) : Type 0 where
  off : (key : ℕ) → IsEnd span key → bit_at key bit ≢ side → AreStray span bit side
  split : (key more : ℕ) → IsEnd span key → IsEnd span more → above bit key ≢ above bit more → AreStray span bit side
