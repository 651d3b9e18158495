-- A body has one list of records.
use Rattle.std.proofs.Common.{◌≡◌, ℕ, ◌≤◌, List, [], ◌∷◌, ◌++◌, length, refl, sym, ap, ◌∙◌, arith}
use Rattle.std.proofs.lemmas.List.{append_cancel_left}
use Rattle.cell_page.specs.Format.{IsSlotCount}
use Rattle.log_record.specs.declared.record.Record.{Record}
use Rattle.log_record.specs.declared.record.Record.TheVariants.{Turn}
use Rattle.log_record.specs.Spelling.{record_bytes, HasSpelling, IsTypedRecord, BeginsWith}
use Rattle.log_record.proofs.ReadLaws.{some_bytes}
use Rattle.log_record.proofs.Apart.{one_record}
use Rattle.opened_images.specs.LogRecords.{body_of, HaveSpellings, first_records}

pub begins : {slots : ℕ} (r : Record slots) (rest bytes : List ℕ) → HasSpelling r → IsTypedRecord r → bytes ≡ record_bytes r ++ rest → BeginsWith bytes r (length (record_bytes r))
begins r rest bytes rules typed are = record { rules = rules; typed = typed; rest = rest; are = are; takes = refl }

pub cons_same : {X : Type 0} (x y : X) (xs ys : List X) → x ≡ y → xs ≡ ys → x ∷ xs ≡ y ∷ ys
cons_same x y xs ys e es = cc

pub none_begins : {slots : ℕ} (r : Record slots) (len : ℕ) → BeginsWith [] r len → ⊥
none_begins r len b = absurd (none (some_bytes [] r len b))
  where
    none : 1 ≤ 0 → ⊥
    none e = omega arith

pub same_records : {slots : ℕ} → IsSlotCount slots → (rs ss : List (Record slots)) → HaveSpellings rs → HaveSpellings ss → body_of rs ≡ body_of ss → rs ≡ ss
same_records known [] [] a b e = refl
same_records known [] (s ∷ ss) a b e = absurd (none_begins s _ (begins s (body_of ss) [] b.0 b.1 e))
same_records known (r ∷ rs) [] a b e = absurd (none_begins r _ (begins r (body_of rs) [] a.0 a.1 (sym e)))
same_records known (r ∷ rs) (s ∷ ss) a b e =
    let first = begins r (body_of rs) (body_of (r ∷ rs)) a.0 a.1 refl in
    let second = begins s (body_of ss) (body_of (r ∷ rs)) b.0 b.1 e in
    let same = (one_record (body_of (r ∷ rs)) r s _ _ known first second).0 in
    let rest : record_bytes r ++ body_of rs ≡ record_bytes r ++ body_of ss = e ∙ ap (λ t. record_bytes t ++ body_of ss) (sym same) in
    cons_same r s rs ss same (same_records known rs ss a.2 b.2 (append_cancel_left (record_bytes r) (body_of rs) (body_of ss) rest))

-- ---- records of some batches

pub spelled_front : {slots : ℕ} (rs ss : List (Record slots)) → HaveSpellings (rs ++ ss) → HaveSpellings rs
spelled_front [] ss a = tt
spelled_front (r ∷ rs) ss a = (a.0, a.1, spelled_front rs ss a.2)

pub spelled_back : {slots : ℕ} (rs ss : List (Record slots)) → HaveSpellings (rs ++ ss) → HaveSpellings ss
spelled_back [] ss a = a
spelled_back (r ∷ rs) ss a = spelled_back rs ss a.2

pub turn_spelled : (slots n : ℕ) → 1 ≤ n → n ≤ 1024 → HaveSpellings (first_records slots n)
turn_spelled slots n some few = ((refl, some, few), omega arith, tt)

pub turn_pages : {slots : ℕ} (version n k : ℕ) → ◌≡◌ {A = List (Record slots)} (Turn version n ∷ []) (Turn version k ∷ []) → n ≡ k
turn_pages version n k e = cc
