-- What an undo step lays again, in the words of the tables.
use Rattle.std.proofs.Common.{◌≡◌, ℕ, ◌<◌, ◌≤◌, List, [], refl, sym, ◌∙◌, ap, Option, Some, None, ⊎_elim, arith, map}
use Rattle.std.specs.Prelude.{take}
use Rattle.std.specs.List.{last_or, AllByRecursion}
use Rattle.std.specs.Option.{option_map_or}
use Rattle.plain_model.specs.declared.write.Place.{Place}
use Rattle.plain_model.specs.declared.write.Place.TheVariants.{Slot, Payload, Whole}
use Rattle.plain_model.specs.declared.write.Write.{Write}
use Rattle.plain_model.specs.ActiveTransaction.{ActiveTransaction}
use Rattle.plain_model.specs.Graphs.{FitsPlace}
use Rattle.plain_model.specs.History.{left_to_undo}
use Rattle.plain_laws.proofs.Entries.{same_or_apart}
use Rattle.cell_model.specs.Cells.{Cell}
use Rattle.store_model.specs.Core.{Core}
use Rattle.cell_page.specs.Format.{page_of_id}
use Rattle.core_store.specs.Logged.{objects_of_undo, pages_for_undo}
use Rattle.core_store.specs.Replaced.{replaced, next_to_restore}
use Rattle.core_store.specs.Transactions.{Running, running_at}
use Rattle.core_store.specs.Work.{work_of_undo, objects_of, IsWork, pages_of_work}
use Rattle.core_store.specs.Tables.{TablesView}
use Rattle.core_store.specs.Stands.{CanLay, Stands}
use Rattle.core_store.proofs.PlanActive.{active-of, inactive-of}
use Rattle.core_store.proofs.PlanLaws.{live-id}
use Rattle.core_store.proofs.NextLaws.{few-undo}
use Rattle.core_store.proofs.ReplacedLists.{last-contained}
use Rattle.core_store.proofs.UndoneLaws.{next-kept}

-- the pages of an undo step are those of its work
pub pages-undo : (cells : List Cell) (w : Write) → pages_for_undo cells (Some w) ≡ pages_of_work cells (Some (work_of_undo w))
pages-undo cells w = same w.id w.place w.value
  where
    same : (id : ℕ) (p : Place) (value : ℕ) → map page_of_id (objects_of_undo cells (record { id = id; place = p; value = value })) ≡ map page_of_id (objects_of cells (work_of_undo (record { id = id; place = p; value = value })))
    same id (Slot slot) value = refl
    same id Payload value = refl
    same id Whole value = refl

-- the last write that the tables have of a client
abbrev pub last_noted : TablesView → ℕ → Option Write
last_noted v pass = option_map_or (λ t. last_or None t.replaced) (running_at v.transactions pass) None

module _ {slots : ℕ} {v : TablesView} {core : Core} (h : Stands slots v core) where
  -- it is the one that is laid again next
  pub next-noted : (pass : ℕ) → next_to_restore core.moment pass ≡ last_noted v pass
  next-noted pass = by (running_at v.transactions pass) refl
    where
      by : (o : Option Running) → running_at v.transactions pass ≡ o → next_to_restore core.moment pass ≡ option_map_or (λ t. last_or None t.replaced) o None
      by None e = ap (λ (o : Option ActiveTransaction). last_or None (option_map_or (λ t. take (left_to_undo core.moment pass) (replaced core.moment.state.slots core.moment.state.committed t.writes)) o [])) (inactive-of h pass e)
      by (Some kept) e = let a = active-of h pass kept e in next-kept slots core.moment pass kept a.transaction h.slots_are a.found a.runs

  pub can-lay : (pass : ℕ) (w : Write) → last_noted v pass ≡ Some w → CanLay slots core.cells w
  can-lay pass w e = by (running_at v.transactions pass) refl e
    where
      by : (o : Option Running) → running_at v.transactions pass ≡ o → option_map_or (λ t. last_or None t.replaced) o None ≡ Some w → CanLay slots core.cells w
      by None n k = absurd (cc)
      by (Some kept) n k = h.restorable pass kept n w (last-contained kept.replaced w k)

  -- what the next undo step works on is of the store
  pub undo-within : (pass : ℕ) → AllByRecursion (λ id. (0 < id) × (id ≤ v.ids)) (option_map_or (objects_of_undo core.cells) (next_to_restore core.moment pass) [])
  undo-within pass = by (next_to_restore core.moment pass) refl
    where
      by : (o : Option Write) → next_to_restore core.moment pass ≡ o → AllByRecursion (λ id. (0 < id) × (id ≤ v.ids)) (option_map_or (objects_of_undo core.cells) o [])
      by None e = tt
      by (Some w) e = (few-undo h w (can-lay pass w (sym (next-noted pass) ∙ e))).within

  lay-work : (id : ℕ) (p : Place) (value : ℕ) → CanLay slots core.cells (record { id = id; place = p; value = value }) → IsWork slots (work_of_undo (record { id = id; place = p; value = value })) × FitsPlace p value
  lay-work id (Slot slot) value c =
      let l = live-id h id c.0 in
      let few = l.few in
      let small : value < 65536 = ⊎_elim (λ (z : value ≡ 0). omega (arith, z)) (λ n. (let k = (live-id h value (c.1.1 n)).few in omega (arith, k))) (same_or_apart value 0) in
      (record { above = l.above; small = omega (arith, few); change = (c.1.0, small) }, omega (arith, small))
  lay-work id Payload value c = let l = live-id h id c.0 in let few = l.few in (record { above = l.above; small = omega (arith, few); change = tt }, tt)
  lay-work id Whole value c = absurd c.1

  -- its work is in range
  pub undo-work : (pass : ℕ) (w : Write) → last_noted v pass ≡ Some w → IsWork slots (work_of_undo w) × FitsPlace w.place w.value
  undo-work pass w e = lay-work w.id w.place w.value (can-lay pass w e)
