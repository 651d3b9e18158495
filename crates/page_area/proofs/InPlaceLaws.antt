-- A write of whole pages leaves all other pages, and what it wrote is read.
use Rattle.std.proofs.Common.{◌≡◌, ◌⊎◌, ⊎_elim, ℕ, ◌+◌, ◌-◌, ◌*◌, ◌<◌, ◌≤◌, Bool, true, false, List, [], ◌∷◌, ◌++◌, map, length, take, drop, Option, Some, None, sym, ap, subst, ◌∙◌, arith, length-take, length-drop, length-append, add-zero, mul-zero, take_all}
use Rattle.std.specs.Prelude.{slice_index, option_map, Result, Ok, Err, IfSome, OnOk, ◌%◌, ◌==◌, if◌then◌else◌}
use Rattle.std.proofs.lemmas.Bool.{cases_lt}
use Rattle.std.proofs.Math.Nat.{mul-le-mul_left}
use Rattle.std.proofs.Math.ListN.{get_or-append}
use Rattle.std.proofs.lemmas.List.{ext_get_or, get_or-take, get_or-drop, get_or-append_right}
use Rattle.disk_model.specs.declared.area.Area.{Area}
use Rattle.disk_model.specs.declared.area.Area.TheVariants.{Pages, LogA, LogB, Super}
use Rattle.disk_model.specs.Areas.{Bytes, in_area}
use Rattle.disk_model.specs.Changes.{Torn, written}
use Rattle.disk_model.specs.Told.{KeepsOthers, Follows, Steps, EachImage}
use Rattle.disk_model.proofs.Images.{torn_written, torn_not}
use Rattle.disk_model.proofs.Torn.{written_inside}
use Rattle.cell_page.specs.declared.cell.Cell.{Cell}
use Rattle.cell_page.specs.Format.{IsSlotCount, IsPage, AreTyped, Spells, cell_size, page_size, page_bytes}
use Rattle.cell_page.proofs.Pages.{length-page_bytes, same_page}
use Rattle.page_area.specs.Place.{bytes_of_page}
use Rattle.gate_log.specs.Batches.{IsLog, most_bytes}
use Rattle.gate_log.specs.OnDisk.{named_by}
use Rattle.page_area.specs.InPlace.{AreTorn, HasTornPages, HasCopy, bytes_of_records}

-- ---- so many bytes from an offset on

-- a part of a list that it has whole
part_length : (size at : ℕ) (l : List ℕ) → at + size ≤ length l → length (take size (drop at l)) ≡ size
part_length size at l within = omega (arith, within, length-take size (drop at l), length-drop at l)

-- one of its bytes
part_byte : (size at : ℕ) (l : List ℕ) (i : ℕ) → i < size → slice_index (take size (drop at l)) i ≡ slice_index l (at + i)
part_byte size at l i low = get_or-take size (drop at l) i 0 low ∙ get_or-drop at l i 0

-- parts of two lists that have the same bytes there
same_part : (size at from : ℕ) (l m : List ℕ) → at + size ≤ length l → from + size ≤ length m → ((i : ℕ) → i < size → slice_index l (at + i) ≡ slice_index m (from + i))
    → take size (drop at l) ≡ take size (drop from m)
same_part size at from l m within there same =
    let here = part_length size at l within in
    let back = part_length size from m there in
    ext_get_or 0 (take size (drop at l)) (take size (drop from m)) (here ∙ sym back)
    (λ i low.
    let few : i < size = omega (arith, low, here) in
    part_byte size at l i few ∙ same i few ∙ sym (part_byte size from m i few))

-- the page after another one
behind : (size page : ℕ) → size * (page + 1) ≡ size * page + size
behind size page = omega arith

-- ---- a write that was cut off

-- it leaves the pages in which it was not
pub torn_others : (slots first count page : ℕ) (before now : List ℕ) → AreTorn slots first count before now → (page < first) ⊎ (first + count ≤ page) → page_size slots * (page + 1) ≤ length before
    → bytes_of_page slots page now ≡ bytes_of_page slots page before
torn_others slots first count page before now torn apart whole =
    let size = page_size slots in
    let end : size * page + size ≤ length before = subst (λ (k : ℕ). k ≤ length before) (behind size page) whole in
    let short = torn.no_shorter in
    same_part size (size * page) (size * page) now before (omega (arith, end, short)) end
    (λ i low. ⊎_elim
    (λ (front : page < first).
    let more : size * (page + 1) ≤ size * first = mul-le-mul_left size (omega (arith, front)) in
    let b = behind size page in
    torn.below (size * page + i) (omega (arith, low, end)) (omega (arith, low, more, b)))
    (λ (back : first + count ≤ page).
    let more : size * (first + count) ≤ size * page = mul-le-mul_left size back in
    let sum : size * (first + count) ≡ size * first + size * count = omega arith in
    torn.above (size * page + i) (omega (arith, low, end)) (omega (arith, more, sum)))
    apart)

-- by the offset and the number of bytes
torn_pages : (slots first count at n : ℕ) (before now : List ℕ) → at ≡ page_size slots * first → n ≡ page_size slots * count → Torn at n before now → AreTorn slots first count before now
torn_pages slots first count at n before now from long torn = subst (λ (k : ℕ). Torn k (page_size slots * count) before now) from (subst (λ (k : ℕ). Torn at k before now) long torn)

-- ---- a write

-- a byte of what was written
written_byte : (at : ℕ) (bytes area : List ℕ) (i : ℕ) → at ≤ length area → i < length bytes → slice_index (written at bytes area) (at + i) ≡ slice_index bytes i
written_byte at bytes area i inside low =
    let front : length (take at area) ≡ at = omega (arith, inside, length-take at area) in
    let both : length (take at area ++ bytes) ≡ at + length bytes = length-append (take at area) bytes ∙ ap (λ (n : ℕ). n + length bytes) front in
    let off : at + i - at ≡ i = omega arith in
    ap (λ (l : List ℕ). slice_index l (at + i)) (written_inside at bytes area inside)
    ∙ get_or-append (take at area ++ bytes) (drop (at + length bytes) area) 0 (at + i) (omega (arith, low, both))
    ∙ get_or-append_right (take at area) bytes at (at + i) 0 front (omega arith)
    ∙ ap (λ (k : ℕ). slice_index bytes k) off

-- a page of what was written
pub written_page : (slots first k : ℕ) (bytes area : List ℕ) → page_size slots * first ≤ length area → page_size slots * (k + 1) ≤ length bytes
    → bytes_of_page slots (first + k) (written (page_size slots * first) bytes area) ≡ bytes_of_page slots k bytes
written_page slots first k bytes area inside whole =
    let size = page_size slots in
    let at : ℕ = size * first in
    let sum : size * (first + k) ≡ at + size * k = omega arith in
    let end : size * k + size ≤ length bytes = subst (λ (n : ℕ). n ≤ length bytes) (behind size k) whole in
    let torn = torn_written at bytes area in
    let long : at + length bytes ≤ length (written at bytes area) = written_reaches at bytes area inside in
    same_part size (size * (first + k)) (size * k) (written at bytes area) bytes (omega (arith, end, sum, long)) end
    (λ i low.
    let here : size * (first + k) + i ≡ at + (size * k + i) = omega (arith, sum) in
    ap (λ (n : ℕ). slice_index (written at bytes area) n) here ∙ written_byte at bytes area (size * k + i) inside (omega (arith, low, end)))
  where
    written_reaches : (at : ℕ) (bytes area : List ℕ) → at ≤ length area → at + length bytes ≤ length (written at bytes area)
    written_reaches at bytes area inside =
        let front : length (take at area) ≡ at = omega (arith, inside, length-take at area) in
        let both = length-append (take at area) bytes in
        let all = length-append (take at area ++ bytes) (drop (at + length bytes) area) in
        let is = ap (λ (l : List ℕ). length l) (written_inside at bytes area inside) in
        omega (arith, front, both, all, is)

-- the bytes of a page are as many as a page has
pub page_length : {slots : ℕ} (page : ℕ) (cells : List (Cell slots)) → IsSlotCount slots → IsPage page cells → AreTyped cells → length (page_bytes cells) ≡ page_size slots
page_length {slots} page cells known rules typed =
    length-page_bytes cells known (λ place d below. (typed place d below).slot_count) ∙ ap (λ (n : ℕ). n * cell_size slots) rules.eight

-- a page as it was written
pub written_there : {slots : ℕ} (page : ℕ) (cells : List (Cell slots)) (area : List ℕ) → IsSlotCount slots → IsPage page cells → AreTyped cells → page_size slots * page ≤ length area
    → bytes_of_page slots page (written (page_size slots * page) (page_bytes cells) area) ≡ page_bytes cells
written_there {slots} page cells area known rules typed inside =
    let size = page_length page cells known rules typed in
    let whole : page_size slots * (0 + 1) ≤ length (page_bytes cells) = omega (arith, size) in
    let all : take (page_size slots) (drop (page_size slots * 0) (page_bytes cells)) ≡ page_bytes cells = from_front (page_size slots) (page_bytes cells) (omega (arith, size)) in
    ap (λ (p : ℕ). bytes_of_page slots p (written (page_size slots * page) (page_bytes cells) area)) (sym (add-zero page))
    ∙ written_page slots page 0 (page_bytes cells) area inside whole ∙ all
  where
    from_front : (size : ℕ) (l : List ℕ) → length l ≤ size → take size (drop (size * 0) l) ≡ l
    from_front size l few = ap (λ (n : ℕ). take size (drop n l)) (mul-zero size) ∙ take_all size l few

-- what is read there is that page
pub read_back : (slots page : ℕ) (wrote read : List (Cell slots)) (area : List ℕ) → IsSlotCount slots → IsPage page wrote → AreTyped wrote → AreTyped read
    → page_size slots * page ≤ length area → Spells page read (bytes_of_page slots page (written (page_size slots * page) (page_bytes wrote) area)) → read ≡ wrote
read_back slots page wrote read area known rules typed typed_read inside spells =
    (same_page page page read wrote (bytes_of_page slots page (written (page_size slots * page) (page_bytes wrote) area)) known typed_read typed spells
    (record { rules = rules; spelled = written_there page wrote area known rules typed inside })).1

-- ---- the disk

module _ {D : Type 0} (content : D → Area → Option (List ℕ)) (may_leave : D → Area → List ℕ → Type 0) (slots first count at n : ℕ) (from : at ≡ page_size slots * first) (long : n ≡ page_size slots * count) where
  -- what a power loss leaves
  pub left_pages : (before now : D) → Follows content may_leave (Torn at n) before now Pages → Follows content may_leave (AreTorn slots first count) before now Pages
  left_pages before now follows c may = let was = follows c may in (was.0, was.1, torn_pages slots first count at n was.0 c from long was.2)

  -- each image, as it may be while they are written
  pub images_of_pages : (before now : D) → Follows content may_leave (Torn at n) before now Pages → KeepsOthers content may_leave before now Pages
      → EachImage may_leave now (HasTornPages may_leave before slots first count)
  images_of_pages before now follows keeps image may = record {
    here = left_pages before now follows (in_area image Pages) (may Pages);
    others = λ other apart. (keeps other apart).no_more (in_area image other) (may other);
  }

-- and before
pub images_before : {D : Type 0} (may_leave : D → Area → List ℕ → Type 0) (slots first count : ℕ) (disk : D) → EachImage may_leave disk (HasTornPages may_leave disk slots first count)
images_before may_leave slots first count disk image may = record {
  here = (in_area image Pages, may Pages, torn_not (page_size slots * first) (page_size slots * count) (in_area image Pages));
  others = λ other apart. may other;
}

-- what is read, where a part was written
pub partly_written : (slots first count at n : ℕ) (was is : Option (List ℕ)) → at ≡ page_size slots * first → n ≡ page_size slots * count → Steps (Torn at n) was is → Steps (AreTorn slots first count) was is
partly_written slots first count at n None is from long steps = tt
partly_written slots first count at n (Some area) is from long steps = (steps.0, steps.1, torn_pages slots first count at n area steps.0 from long steps.2)

-- and where all was
pub all_written : (slots first count at : ℕ) (bytes : List ℕ) (was is : Option (List ℕ)) → at ≡ page_size slots * first → length bytes ≡ page_size slots * count → is ≡ option_map (written at bytes) was
    → Steps (AreTorn slots first count) was is
all_written slots first count at bytes None is from long e = tt
all_written slots first count at bytes (Some area) is from long e =
    (written at bytes area, e, torn_pages slots first count at (length bytes) area (written at bytes area) from long (torn_written at bytes area))

-- the pages that are read then
pub pages_written : (slots first at : ℕ) (bytes : List ℕ) (was is : Option (List ℕ)) → at ≡ page_size slots * first → is ≡ option_map (written at bytes) was → IfSome was (λ area. page_size slots * first ≤ length area)
    → IfSome is (λ area. (k : ℕ) → page_size slots * (k + 1) ≤ length bytes → bytes_of_page slots (first + k) area ≡ bytes_of_page slots k bytes)
pages_written slots first at bytes was is from e inside = by was e inside
  where
    Has : List ℕ → Type 0
    Has area = (k : ℕ) → page_size slots * (k + 1) ≤ length bytes → bytes_of_page slots (first + k) area ≡ bytes_of_page slots k bytes

    by : (o : Option (List ℕ)) → is ≡ option_map (written at bytes) o → IfSome o (λ area. page_size slots * first ≤ length area) → IfSome is Has
    by None e inside = subst (λ (o : Option (List ℕ)). IfSome o Has) (sym e) tt
    by (Some area) e inside =
        subst (λ (o : Option (List ℕ)). IfSome o Has) (sym e)
        (λ k whole. ap (λ (n : ℕ). bytes_of_page slots (first + k) (written n bytes area)) from ∙ written_page slots first k bytes area inside whole)

-- one page
pub page_written : {slots : ℕ} (page : ℕ) (cells : List (Cell slots)) (was is : Option (List ℕ)) → IsSlotCount slots → IsPage page cells → AreTyped cells
    → is ≡ option_map (written (page_size slots * page) (page_bytes cells)) was → IfSome was (λ area. page_size slots * page ≤ length area)
    → IfSome is (λ area. Spells page cells (bytes_of_page slots page area))
page_written {slots} page cells was is known rules typed e inside = by was e inside
  where
    by : (o : Option (List ℕ)) → is ≡ option_map (written (page_size slots * page) (page_bytes cells)) o → IfSome o (λ area. page_size slots * page ≤ length area) → IfSome is (λ area. Spells page cells (bytes_of_page slots page area))
    by None e inside = subst (λ (o : Option (List ℕ)). IfSome o (λ area. Spells page cells (bytes_of_page slots page area))) (sym e) tt
    by (Some area) e inside =
        subst (λ (o : Option (List ℕ)). IfSome o (λ area. Spells page cells (bytes_of_page slots page area))) (sym e)
        (record { rules = rules; spelled = written_there page cells area known rules typed inside })

-- where the call was done
pub page_written-on_ok : {slots : ℕ} {T E : Type 0} (page : ℕ) (cells : List (Cell slots)) (bytes : List ℕ) (was is : Option (List ℕ)) (result : Result T E) → IsSlotCount slots → IsPage page cells → AreTyped cells
    → bytes ≡ page_bytes cells → OnOk result (is ≡ option_map (written (page_size slots * page) bytes) was) → IfSome was (λ area. page_size slots * page ≤ length area)
    → OnOk result (IfSome is (λ area. Spells page cells (bytes_of_page slots page area)))
page_written-on_ok {slots} page cells bytes was is (Ok x) known rules typed e wrote inside =
    page_written page cells was is known rules typed (wrote ∙ ap (λ (b : List ℕ). option_map (written (page_size slots * page) b) was) e) inside
page_written-on_ok page cells bytes was is (Err x) known rules typed e wrote inside = tt

-- one page has the bytes of one
pub one_page : {slots : ℕ} (page : ℕ) (cells : List (Cell slots)) (bytes : List ℕ) → IsSlotCount slots → IsPage page cells → AreTyped cells → bytes ≡ page_bytes cells → length bytes ≡ page_size slots * 1
one_page page cells bytes known rules typed e = omega (arith, ap (λ (b : List ℕ). length b) e, page_length page cells known rules typed)

page_some : (slots : ℕ) → IsSlotCount slots → 0 < page_size slots
page_some slots known = ⊎_elim (λ six. subst (λ (n : ℕ). 0 < page_size n) (sym six) (omega arith)) (λ fourteen. subst (λ (n : ℕ). 0 < page_size n) (sym fourteen) (omega arith)) known

only_first : (size k long : ℕ) → 0 < size → long ≡ size * 1 → size * (k + 1) ≤ long → k ≡ 0
only_first size k long some is low =
    ⊎_elim (λ (more : 0 < k). let twice : size * 2 ≤ size * (k + 1) = mul-le-mul_left size (omega (arith, more)) in absurd (omega (arith, twice, low, is, some))) (λ (none : k ≤ 0). omega (arith, none)) (cases_lt 0 k)

-- what holds of the page holds of each page that they have
pub of_one_page : {slots : ℕ} (page k : ℕ) (cells : List (Cell slots)) (bytes : List ℕ) (P : ℕ → List ℕ → Type 0) → IsSlotCount slots → IsPage page cells → AreTyped cells → bytes ≡ page_bytes cells
    → page_size slots * (k + 1) ≤ length bytes → P page (page_bytes cells) → P (page + k) (bytes_of_page slots k bytes)
of_one_page {slots} page k cells bytes P known rules typed e low has =
    let size = page_size slots in
    let long = one_page page cells bytes known rules typed e in
    let none = only_first size k (length bytes) (page_some slots known) long low in
    let front : size * k ≡ 0 = ap (λ (n : ℕ). size * n) none ∙ mul-zero size in
    let here : bytes_of_page slots k bytes ≡ page_bytes cells = ap (λ (n : ℕ). take size (drop n bytes)) front ∙ take_all size bytes (omega (arith, long)) ∙ e in
    subst (λ (b : List ℕ). P (page + k) b) (sym here) (subst (λ (n : ℕ). P n (page_bytes cells)) (sym (ap (λ (n : ℕ). page + n) none ∙ add-zero page)) has)

-- ---- copies

-- a named area is one of the two
log_there : (super_area : List ℕ) (area : Area) (before now : Bytes) → named_by super_area ≡ Some area → before.log_a ≡ now.log_a → before.log_b ≡ now.log_b → in_area before area ≡ in_area now area
log_there [] area before now named a b = absurd (cc)
log_there (byte ∷ rest) LogA before now named a b = a
log_there (byte ∷ rest) LogB before now named a b = b
log_there (byte ∷ rest) Pages before now named a b = absurd (not_pages (byte % 2 == 0) named)
  where
    not_pages : (b : Bool) → Some (if b then LogA else LogB) ≡ Some Pages → ⊥
    not_pages true e = cc
    not_pages false e = cc
log_there (byte ∷ rest) Super before now named a b = absurd (not_super (byte % 2 == 0) named)
  where
    not_super : (b : Bool) → Some (if b then LogA else LogB) ≡ Some Super → ⊥
    not_super true e = cc
    not_super false e = cc

-- a copy hangs on the super area and the log areas alone
pub copy_stays : (slots page : ℕ) (bytes : List ℕ) (before now : Bytes) → before.log_a ≡ now.log_a → before.log_b ≡ now.log_b → before.super_area ≡ now.super_area → HasCopy slots page bytes before → HasCopy slots page bytes now
copy_stays slots page bytes before now a b s copy = record {
  area = copy.area;
  named = subst (λ (c : List ℕ). named_by c ≡ Some copy.area) s copy.named;
  batches = copy.batches;
  log = subst (λ (c : List ℕ). IsLog most_bytes (map bytes_of_records copy.batches) c) (log_there before.super_area copy.area before now copy.named a b) copy.log;
  spelled = copy.spelled;
  front = copy.front;
  held = copy.held;
  back = copy.back;
  there = copy.there;
  last = copy.last;
  are = copy.are;
}
