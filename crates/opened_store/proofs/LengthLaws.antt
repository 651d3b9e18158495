-- A write at the end of an area leaves what stood there.
use Rattle.std.proofs.Common.{◌≡◌, ℕ, suc, ◌<◌, ◌≤◌, List, [], ◌∷◌, ◌++◌, length, get_or, Option, Some, refl, sym, ap, ◌∙◌, subst, arith}
use Rattle.std.specs.Prelude.{unwrap_or, IfSome}
use Rattle.std.proofs.lemmas.List.{append-nil}
use Rattle.disk_model.specs.declared.area.Area.{Area}
use Rattle.disk_model.specs.declared.area.Area.TheVariants.{Pages}
use Rattle.disk_model.specs.Areas.{Bytes, in_area}
use Rattle.disk_model.specs.Changes.{Torn}
use Rattle.disk_model.specs.Told.{KeepsAll, KeepsOthers, Follows, IsSettled, Leaves, IsImageBut, EachImage}
use Rattle.opened_store.specs.Lengths.{Extends}

pub prefix : (xs ys : List ℕ) → length xs ≤ length ys → ((i : ℕ) → i < length xs → get_or ys i 0 ≡ get_or xs i 0) → Extends xs ys
prefix [] ys l h = record { rest = ys; are = refl }
prefix (x ∷ xs) [] l h = absurd (omega (arith, l))
prefix (x ∷ xs) (y ∷ ys) l h =
    let more = prefix xs ys (omega (arith, l)) (λ i low. h (suc i) (omega (arith, low))) in
    let first : y ≡ x = h 0 (omega arith) in
    record { rest = more.rest; are = cons-same y x ys (xs ++ more.rest) first more.are }
  where
    cons-same : (a b : ℕ) (l m : List ℕ) → a ≡ b → l ≡ m → a ∷ l ≡ b ∷ m
    cons-same a b l m e f = cc

pub torn-extends : (at n : ℕ) (before now : List ℕ) → at ≡ length before → Torn at n before now → Extends before now
torn-extends at n before now e t = prefix before now t.no_shorter (λ i low. t.below i low (omega (arith, e, low)))

pub itself : (bytes c : List ℕ) → c ≡ bytes → Extends bytes c
itself bytes c e = record { rest = []; are = e ∙ sym (append-nil bytes) }

module _ {D : Type 0} (content : D → Area → Option (List ℕ)) (may_leave : D → Area → List ℕ → Type 0) where
  -- whatever a power loss leaves of a settled area is what it reads
  pub left-settled : (disk : D) (bytes : List ℕ) → IsSettled content may_leave disk Pages → content disk Pages ≡ Some bytes → Leaves may_leave disk Pages (Extends bytes)
  left-settled disk bytes settled told c may = itself bytes c (ap (λ (o : Option (List ℕ)). unwrap_or o []) (sym (settled c may) ∙ told))

  -- and after a write at its end
  pub left-written : (before disk : D) (bytes : List ℕ) (at n : ℕ) → IsSettled content may_leave before Pages → content before Pages ≡ Some bytes → at ≡ length bytes → Follows content may_leave (Torn at n) before disk Pages → Leaves may_leave disk Pages (Extends bytes)
  left-written before disk bytes at n settled told e f c may =
      let d = f c may in
      let is : d.0 ≡ bytes = ap (λ (o : Option (List ℕ)). unwrap_or o []) (sym (settled d.0 d.1) ∙ told) in
      subst (λ (b : List ℕ). Extends b c) is (torn-extends at n d.0 c (e ∙ ap (λ (b : List ℕ). length b) (sym is)) d.2)

  pub images-but : (before disk : D) (P : List ℕ → Type 0) → KeepsOthers content may_leave before disk Pages → Leaves may_leave disk Pages P → EachImage may_leave disk (IsImageBut may_leave before Pages P)
  images-but before disk P keeps left image may = record { here = left (in_area image Pages) (may Pages); others = λ other apart. (keeps other apart).no_more (in_area image other) (may other) }

  pub left-kept : (before disk : D) (P : List ℕ → Type 0) → KeepsAll content may_leave before disk → Leaves may_leave before Pages P → Leaves may_leave disk Pages P
  left-kept before disk P keeps left c may = left c ((keeps Pages).no_more c may)

  pub settled-kept : (before disk : D) → KeepsAll content may_leave before disk → IsSettled content may_leave before Pages → IsSettled content may_leave disk Pages
  settled-kept before disk keeps settled c may = (keeps Pages).same ∙ settled c ((keeps Pages).no_more c may)

  pub others-of-all : (before disk : D) → KeepsAll content may_leave before disk → KeepsOthers content may_leave before disk Pages
  others-of-all before disk keeps other apart = keeps other

  pub told-len : (o : Option (List ℕ)) (len : ℕ) (bytes : List ℕ) → IfSome o (λ b. len ≡ length b) → o ≡ Some bytes → len ≡ length bytes
  told-len o len bytes h told = subst (λ (q : Option (List ℕ)). IfSome q (λ b. len ≡ length b)) told h

  pub but-before : (before mid : D) (P : List ℕ → Type 0) → KeepsAll content may_leave before mid → (image : Bytes) → IsImageBut may_leave mid Pages P image → IsImageBut may_leave before Pages P image
  but-before before mid P keeps image is = record { here = is.here; others = λ other apart. (keeps other).no_more (in_area image other) (is.others other apart) }
