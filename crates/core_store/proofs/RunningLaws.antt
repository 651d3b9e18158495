-- A transaction with one write more that can be undone.
use Rattle.std.proofs.Common.{◌≡◌, ℕ, ◌+◌, List, [], ◌∷◌, ◌++◌, true, cond, sym, ap, ◌∙◌, subst, inl, inr, ◌⊎◌, arith, length}
use Rattle.std.specs.Prelude.{count_by, Contains}
use Rattle.std.proofs.lemmas.List.{length_push, take_all}
use Rattle.std.proofs.lemmas.List.Elements.{Contains-append_cases}
use Rattle.plain_model.specs.declared.object.Object.{Object}
use Rattle.plain_model.specs.declared.write.Write.{Write}
use Rattle.plain_model.specs.ActiveTransaction.{ActiveTransaction}
use Rattle.plain_model.specs.Graphs.{applied}
use Rattle.plain_model.specs.History.{can_be_undone}
use Rattle.cell_model.specs.Cells.{Cell, is_live}
use Rattle.core_store.specs.Replaced.{replaced, before_write}
use Rattle.core_store.specs.Transactions.{Running, writing}
use Rattle.core_store.specs.Stands.{IsRunning, CanLay}
use Rattle.core_store.proofs.LayLaws.{CanLay-later, only_item}
use Rattle.core_store.proofs.ReplacedLaws.{replaced-push, replaced_by-undoable, length-replaced, count-push}

-- a transaction of which nothing is undone, with one write more that can be undone, and what that replaced
pub runs-writing : (slots : ℕ) (g : List Object) (kept : Running) (t u : ActiveTransaction) (undone : ℕ) (w x : Write) → IsRunning slots g kept t undone → undone ≡ 0 → can_be_undone w ≡ true → x ≡ before_write (applied slots g t.writes) w
    → u.registers ≡ t.registers → u.aborting ≡ t.aborting → u.writes ≡ t.writes ++ w ∷ [] → IsRunning slots g (writing x kept) u undone
runs-writing slots g kept t u undone w x runs none can is registers aborting writes =
    let more = count-push t.writes w ∙ ap (λ b. count_by can_be_undone t.writes + cond b 1 0) can in
    let old = runs.left in
    let len = length_push kept.replaced x in
    let count = ap (count_by can_be_undone) writes ∙ more in
    let whole : kept.replaced ≡ replaced slots g t.writes =
    runs.replaced ∙ (let l = length-replaced slots g t.writes in take_all (length kept.replaced) (replaced slots g t.writes) (omega (arith, l, old, none))) in
    let next : kept.replaced ++ x ∷ [] ≡ replaced slots g u.writes =
    ap (λ xs. xs ++ x ∷ []) whole ∙ (ap (λ (y : Write). replaced slots g t.writes ++ y ∷ []) is ∙ (ap (λ ys. replaced slots g t.writes ++ ys) (sym (replaced_by-undoable (applied slots g t.writes) w can)) ∙ (sym (replaced-push slots g t.writes w) ∙ ap (replaced slots g) (sym writes)))) in
    record {
      registers = runs.registers ∙ sym registers;
      aborting = runs.aborting ∙ sym aborting;
      left = omega (arith, len, old, count);
      replaced = next ∙ sym (let l = length-replaced slots g u.writes in take_all (length (kept.replaced ++ x ∷ [])) (replaced slots g u.writes) (omega (arith, l, len, old, count, none)));
    }

-- what was replaced before can still be laid again, and so can what is replaced now
pub lays-push : (slots : ℕ) (cells later : List Cell) (kept : Running) (x : Write) → ((y : ℕ) → is_live cells y ≡ true → is_live later y ≡ true) → ((w : Write) → Contains kept.replaced w → CanLay slots cells w) → CanLay slots cells x
    → (w : Write) → Contains (kept.replaced ++ x ∷ []) w → CanLay slots later w
lays-push slots cells later kept x alive old now w k = CanLay-later slots cells later alive w (by (Contains-append_cases kept.replaced (x ∷ []) w k))
  where
    by : Contains kept.replaced w ⊎ Contains (x ∷ []) w → CanLay slots cells w
    by (inl c) = old w c
    by (inr c) = subst (λ y. CanLay slots cells y) (only_item x w c) now
