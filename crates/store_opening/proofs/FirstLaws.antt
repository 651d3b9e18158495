-- The first batch of a log.
use Rattle.std.proofs.Common.{◌≡◌, ℕ, ◌<◌, List, ◌∷◌, ◌++◌, length, Result, Ok, Err, refl, sym, ap, subst, ◌∙◌, arith, length-append}
use Rattle.std.specs.Prelude.{IfOk}
use Rattle.cell_page.specs.Format.{IsSlotCount}
use Rattle.log_record.specs.declared.record.Record.{Record}
use Rattle.log_record.specs.declared.record.Record.TheVariants.{Turn}
use Rattle.log_record.specs.Spelling.{record_bytes, known_version, BeginsWith}
use Rattle.log_record.proofs.Apart.{one_record}
use Rattle.opened_images.specs.LogRecords.{BeginsWithBody, IsOfVersion, IsDamagedLog, no_turn as no_turn_there, not_alone}
use Rattle.opened_images.proofs.Ways.{first_same}
use Rattle.store_opening.specs.Firsts.{IsUnknownTurn, IsDamagedFirst, no_turn, more}

-- of what a call returned, more
pub ok_more : {T E : Type 0} (r : Result T E) (P Q : T → Type 0) → ((x : T) → P x → Q x) → IfOk r P → IfOk r Q
ok_more (Ok x) P Q go is = go x is
ok_more (Err e) P Q go is = is

-- more stands after the `Turn`
pub turn_more : (slots version pages len at : ℕ) (body : List ℕ) → BeginsWith {slots = slots} body (Turn version pages) len → len < length body → at ≡ 9 → IsDamagedFirst slots at body
turn_more slots version pages len at body b low is =
    more pages b.rest (refl, b.rules.1, b.rules.2)
    (omega (arith, low, b.takes, ap length b.are, length-append (record_bytes {slots = slots} (Turn version pages)) b.rest))
    (b.are ∙ ap (λ (v : ℕ). record_bytes {slots = slots} (Turn v pages) ++ b.rest) b.rules.0) is

-- another record begins the bytes than a `Turn`
pub other_first : {slots : ℕ} → IsSlotCount slots → (body : List ℕ) (r : Record slots) (len : ℕ) → BeginsWith body r len → ((pages : ℕ) → r ≡ Turn (known_version slots) pages → ⊥)
    → (pages n : ℕ) → BeginsWith {slots = slots} body (Turn (known_version slots) pages) n → ⊥
other_first {slots} known body r len b other pages n turn = other pages (one_record body r (Turn (known_version slots) pages) len n known b turn).0

-- ---- what is told of the area

pub of_version : (slots number : ℕ) (body area : List ℕ) → IsUnknownTurn slots number body → BeginsWithBody body area → IsOfVersion slots number area
of_version slots number body area turn begins =
    record { pages = turn.pages; two = turn.two; first = subst (λ (l : List ℕ). BeginsWithBody l area) turn.are begins; unknown = turn.unknown }

-- a batch has one body
one_body : (a b area : List ℕ) → BeginsWithBody a area → BeginsWithBody b area → a ≡ b
one_body a b area begins other = (first_same a b begins.rest other.rest begins.whole other.whole (sym begins.are ∙ other.are)).0

pub damaged_first : (slots at : ℕ) (body area : List ℕ) → IsDamagedFirst slots at body → BeginsWithBody body area → IsDamagedLog slots area at
damaged_first slots at body area (no_turn known none is) begins =
    no_turn_there body begins
    (λ number of. known number (record { pages = of.pages; two = of.two; unknown = of.unknown; are = one_body body (14 ∷ number ∷ of.pages) area begins of.first })) none is
damaged_first slots at body area (more pages left rules some are is) begins =
    not_alone pages left rules some (subst (λ (l : List ℕ). BeginsWithBody l area) are begins) is
