-- Which objects are seeds.
use Rattle.std.proofs.Common.{◌≡◌, ℕ, ◌+◌, ◌-◌, ◌<◌, Bool, false, List, [], length, map, get_or, sym, ap, ◌∙◌, arith, true≢false}
use Rattle.std.proofs.lemmas.List.{get_or_default, take_all, length-map}
use Rattle.store_model.specs.Core.{Copy}
use Rattle.store_model.specs.Verdict.{copied_names}
use Rattle.ref_tables.specs.Refs.{Table, entries_of, Names}
use Rattle.ref_tables.specs.Queue.{has}
use Rattle.red_walk.specs.declared.red_at.RedAt.TheVariants.{Verdict}
use Rattle.red_walk.specs.Walk.{Walk, IsWalk, next}
use Rattle.red_walk.proofs.RoundLaws.{verdict-law}
use Rattle.red_walk.proofs.Members.{has-Contains}
use Rattle.green_walk.specs.Judged.{pointers_of, IsSeed, was_touched, is_locked, has_name, has_other}
use Rattle.green_walk.proofs.ReachLaws.{copy-at, copy-only}

-- where as many objects were copied as there are, all were
pub all-copied : (slots : ℕ) (w : Walk) → IsWalk slots w → length w.list ≡ length w.copies → map (λ e. e.0) w.copies ≡ w.list
all-copied slots w k e = k.in_order ∙ take_all (length w.copies) w.list (omega (arith, e))

-- at the verdict they were
pub whole-copied : (slots : ℕ) (w : Walk) → IsWalk slots w → next w ≡ Verdict → length w.list ≡ length w.copies
whole-copied slots w k e = sym (sym (length-map w.copies (λ (e : ℕ × Copy). e.0)) ∙ ap length (verdict-law slots w k e))

-- a pointer that no copied slot shows
pub seed-other : (slots : ℕ) (w : Walk) (locks : List Bool) (refs : Table) (place other : ℕ) → IsWalk slots w → length w.list ≡ length w.copies → place < length w.list
    → ((d : ℕ × Copy) → other ≡ pointers_of (get_or w.copies place d) - copied_names w.copies (get_or w.list place 0)) → 0 < other → IsSeed w locks refs (get_or w.list place 0)
seed-other slots w locks refs place other k e l h more =
    let d : ℕ × Copy = (0, record { targets = []; strong = 0; weak = 0 }) in
    let copy : Copy = (get_or w.copies place d).1 in
    let pair = copy-at w (all-copied slots w k e) place d l in
    let count = h d in
    has_other copy (place, omega (arith, l, e), get_or_default w.copies place (get_or w.list place 0, copy) d (omega (arith, l, e)) ∙ pair) (omega (arith, count, more))

-- an object that nothing holds
pub seed-none : (slots : ℕ) (w : Walk) (locks : List Bool) (refs : Table) (place other : ℕ) → IsWalk slots w → length w.list ≡ length w.copies → place < length w.list
    → ((d : ℕ × Copy) → other ≡ pointers_of (get_or w.copies place d) - copied_names w.copies (get_or w.list place 0))
    → has w.touched (get_or w.list place 0) ≡ false → get_or locks place false ≡ false → ((pass : ℕ) → ¬ Names (entries_of refs pass) (get_or w.list place 0)) → other ≡ 0 → IsSeed w locks refs (get_or w.list place 0) → ⊥
seed-none slots w locks refs place other k e l h untouched free unnamed none (was_touched m) = true≢false (sym (has-Contains w.touched (get_or w.list place 0) m) ∙ untouched)
seed-none slots w locks refs place other k e l h untouched free unnamed none (is_locked at i same held) =
    true≢false (sym held ∙ ap (λ j. get_or locks j false) (k.ids.once at place i l same) ∙ free)
seed-none slots w locks refs place other k e l h untouched free unnamed none (has_name pass n) = unnamed pass n
seed-none slots w locks refs place other k e l h untouched free unnamed none (has_other copy m more) =
    let d : ℕ × Copy = (0, record { targets = []; strong = 0; weak = 0 }) in
    let own = copy-only w (all-copied slots w k e) k.ids.once place copy d l m in
    let count : other ≡ copy.strong + copy.weak - copied_names w.copies (get_or w.list place 0) = h d ∙ ap (λ p. pointers_of p - copied_names w.copies (get_or w.list place 0)) own in
    omega (arith, count, none, more)
