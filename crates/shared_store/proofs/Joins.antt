-- What a pass keeps that took in another.
use Rattle.std.proofs.Common.{◌≡◌, ◌⊎◌, ⊎_elim, inl, inr, ℕ, zero, suc, ◌*◌, ◌<◌, Bool, true, false, List, ◌∷◌, length, get_or, set, refl, sym, ap, ◌∙◌, subst, arith}
use Rattle.std.specs.Prelude.{◌||◌, if◌then◌else◌, max, Option, Some, None, IsSome}
use Rattle.std.specs.Option.{option_or}
use Rattle.std.proofs.lemmas.List.{get_or-set_same, get_or-set_other}
use mathlib.Core.Logic.{dite}
use native.Mathlib.Decide.{ℕ_discrete}
use Rattle.atomic_table.specs.Seated.{TableId}
use Rattle.core_store.specs.declared.frame.Frame.{Frame}
use Rattle.core_store.specs.declared.note.Note.{Note}
use Rattle.latch_table.specs.declared.view.Station.{Station}
use Rattle.latch_table.specs.Account.{Marks}
use Rattle.latch_table.specs.Views.{joined, joined_marks, main_of, truth_of}
use Rattle.latch_table.specs.Holds.{HoldView}
use Rattle.latch_table.proofs.Frames.{if_same, if_other}
use Rattle.shared_store.specs.Chronicles.View.{Origin}
use Rattle.shared_store.specs.declared.refused.Refused.{Refused}
use Rattle.shared_store.specs.Passes.{Known, IsPass, AreMarked, both, joined_refusals}
use Rattle.shared_store.proofs.Goings.{or-left, or-right, some-left}

-- ---- counts of both are marked by both

some-of : (a b : ℕ) → 0 < both a b → (0 < a) ⊎ (0 < b)
some-of zero b p = inr (omega arith)
some-of (suc a) b p = inl (omega arith)

marked-by : (a b : ℕ) (x y : Bool) → (0 < a → x ≡ true) → (0 < b → y ≡ true) → 0 < both a b → (x || y) ≡ true
marked-by a b x y f g p = ⊎_elim (λ l. or-left x y (f l)) (λ r. or-right x y (g r)) (some-of a b p)

some-right : (x y : Option ℕ) → IsSome y → IsSome (option_or x y)
some-right (Some n) y s = refl
some-right None y s = s

disk-by : (a b : ℕ) (x y : Option ℕ) → (0 < a → IsSome x) → (0 < b → IsSome y) → 0 < both a b → IsSome (option_or x y)
disk-by a b x y f g p = ⊎_elim (λ l. some-left x y (f l)) (λ r. some-right x y (g r)) (some-of a b p)

marked-both : (r q : Refused) (m n : Marks) → AreMarked r m → AreMarked q n → AreMarked (joined_refusals r q) (joined_marks m n)
marked-both r q m n h k = record { disk = disk-by r.disk q.disk m.0 n.0 h.disk k.disk; trace = marked-by r.trace q.trace m.1 n.1 h.trace k.trace; log = marked-by r.log q.log m.2 n.2 h.log k.log }

-- ---- whether a client that left has a transaction

left-more : (left : List Bool) (number : ℕ) (txn : Bool) (truths : List (ℕ × Bool)) (name : ℕ) → length left ≡ 256 → name < 256 → get_or left name false ≡ truth_of truths name → get_or (set left number txn) name false ≡ truth_of ((number, txn) ∷ truths) name
left-more left number txn truths name long low before = dite (ℕ_discrete number name)
    (λ e. ap (λ (i : ℕ). get_or (set left number txn) i false) (sym e) ∙ (get_or-set_same left number txn false (omega arith) ∙ sym (if_same number name txn (truth_of truths name) e)))
    (λ ne. get_or-set_other left number name txn false (λ h. ne (sym h)) ∙ (before ∙ sym (if_other number name txn (truth_of truths name) ne)))

-- what the main one of both keeps
left-of : (s t : Station) (main : Bool) (left left2 kept : List Bool) (name : ℕ) → main ≡ s.main → (main ≡ true → kept ≡ left) → (main ≡ false → kept ≡ left2) → (main ≡ true → get_or left name false ≡ truth_of s.truths name)
    → (main ≡ false → get_or left2 name false ≡ truth_of t.truths name) → get_or kept name false ≡ truth_of (main_of s t).truths name
left-of s t true left left2 kept name is mine others has had =
    ap (λ (xs : List Bool). get_or xs name false) (mine refl) ∙ (has refl ∙ ap (λ (b : Bool). truth_of (if b then s else t).truths name) is)
left-of s t false left left2 kept name is mine others has had =
    ap (λ (xs : List Bool). get_or xs name false) (others refl) ∙ (had refl ∙ ap (λ (b : Bool). truth_of (if b then s else t).truths name) is)

main-other : (s t : Station) (main main2 : Bool) → main ≡ s.main → main2 ≡ t.main → (s.main ≡ true) ⊎ ((t.main ≡ true) × (t.others ≡ 1)) → main ≡ false → main2 ≡ true
main-other s t main main2 is is2 one none = ⊎_elim (λ (a : s.main ≡ true). absurd (cc)) (λ (b : (t.main ≡ true) × (t.others ≡ 1)). is2 ∙ b.0) one

module _ {slots : ℕ} (h k h' : HoldView Note Origin (Frame slots)) (main main2 : Bool) (number number2 place : ℕ) (txn txn2 : Bool) (seen seen2 : ℕ) (refused refused2 : Refused) (left left2 kept : List Bool) where
  pub joined-pass : IsPass h main number txn seen refused left → IsPass k main2 number2 txn2 seen2 refused2 left2 → h'.table ≡ h.table → h'.view ≡ joined h.view k.view
      → (h.view.station.main ≡ true) ⊎ ((k.view.station.main ≡ true) × (k.view.station.others ≡ 1)) → (main ≡ true → kept ≡ left) → (main ≡ false → kept ≡ left2) → length kept ≡ 256 → place ≡ number2
      → IsPass h' true number txn (max seen seen2) (joined_refusals refused refused2) (set kept place txn2)
  joined-pass p q table is one mine others long at =
      let of = p.of_store in
      let s = h.view.station in
      let t = k.view.station in
      record {
        none = (ap (λ (v : Known slots). v.hands.pages) is ∙ p.none.0, ap (λ (v : Known slots). v.hands.log) is ∙ p.none.1);
        main_is = sym (ap (λ (v : Known slots). v.station.main) is);
        number_is = p.number_is ∙ sym (ap (λ (v : Known slots). v.station.name) is);
        txn_is = p.txn_is ∙ sym (ap (λ (v : Known slots). v.knowledge.truth) is);
        seen_is = ap (λ (n : ℕ). max n seen2) p.seen_is ∙ (ap (λ (n : ℕ). max h.view.knowledge.seen n) q.seen_is ∙ sym (ap (λ (v : Known slots). v.knowledge.seen) is));
        marked = subst (λ (v : Known slots). AreMarked (joined_refusals refused refused2) v.knowledge.marks) (sym is) (marked-both refused refused2 h.view.knowledge.marks k.view.knowledge.marks p.marked q.marked);
        left_is = λ name low m.
            left-more kept place txn2 (main_of s t).truths name long low
            (left-of s t main left left2 kept name p.main_is mine others (λ e. p.left_is name low e) (λ e. q.left_is name low (main-other s t main main2 p.main_is q.main_is one e)))
            ∙ (ap (λ (n : ℕ). truth_of ((n, txn2) ∷ (main_of s t).truths) name) (at ∙ q.number_is)
            ∙ (ap (λ (b : Bool). truth_of ((t.name, b) ∷ (main_of s t).truths) name) q.txn_is
            ∙ sym (ap (λ (v : Known slots). truth_of v.station.truths name) is)));
        size = p.size;
        of_store = (of.0, ap (λ (v : Known slots). v.knowledge.fixed) is ∙ of.1, of.2 ∙ ap (λ (d : TableId). 8 * d.slots) (sym table));
      }

pub pass-by : {slots : ℕ} (h0 h1 : HoldView Note Origin (Frame slots)) (main0 main1 : Bool) (number0 number1 : ℕ) (txn0 txn1 : Bool) (seen0 seen1 : ℕ) (refused0 refused1 : Refused) (left0 left1 : List Bool)
    → h1 ≡ h0 → main1 ≡ main0 → number1 ≡ number0 → txn1 ≡ txn0 → seen1 ≡ seen0 → refused1 ≡ refused0 → left1 ≡ left0 → IsPass h0 main0 number0 txn0 seen0 refused0 left0 → IsPass h1 main1 number1 txn1 seen1 refused1 left1
pass-by h0 h1 main0 main1 number0 number1 txn0 txn1 seen0 seen1 refused0 refused1 left0 left1 a b c d e f i p = rw (a, b, c, d, e, f, i) p
