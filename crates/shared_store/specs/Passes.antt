-- A pass as contracts see it, and what its fields keep.
use Rattle.std.specs.Prelude.{◌≡◌, ℕ, ◌+◌, ◌*◌, ◌<◌, ◌≤◌, Bool, true, false, List, slice_index_or, Some, IsSome, min}
use Rattle.atomic_table.specs.Seated.{TableId}
use Rattle.cell_page.specs.Format.{IsSlotCount}
use Rattle.core_store.specs.declared.note.Note.{Note}
use Rattle.core_store.specs.declared.frame.Frame.{Frame}
use Rattle.latch_table.specs.declared.view.View.{View}
use Rattle.latch_table.specs.Account.{Marks}
use Rattle.latch_table.specs.Views.{truth_of}
use Rattle.latch_table.specs.Holds.{HoldView, HasNone}
use Rattle.shared_store.specs.Chronicles.View.{Origin}
use Rattle.shared_store.specs.declared.refused.Refused.{Refused}

-- what a pass knows of the store's words, journal and pages
abbrev pub Known : ℕ → Type 0
Known slots = View Note Origin (Frame slots)

-- A pass is seen as the store that it is of, what it knows, and how often it was refused
pub record PassView (slots : ℕ) : Type 0 where
  pub table : TableId
  pub view : Known slots
  pub refused : Refused

-- one more, up to the type's end
abbrev pub one_more : ℕ → ℕ
one_more n = min (n + 1) 18446744073709551615

abbrev pub both : ℕ → ℕ → ℕ
both m n = min (m + n) 18446744073709551615

abbrev pub no_refusals : Refused
no_refusals = record { disk = 0; trace = 0; log = 0 }

-- the counts of both
abbrev pub joined_refusals : Refused → Refused → Refused
joined_refusals a b = record { disk = both a.disk b.disk; trace = both a.trace b.trace; log = both a.log b.log }

-- each count above 0 has its mark
pub record AreMarked (r : Refused) (m : Marks) : Type 0 where
  pub disk : 0 < r.disk → IsSome m.0
  pub trace : 0 < r.trace → m.1 ≡ true
  pub log : 0 < r.log → m.2 ≡ true

-- a client's number, or nothing is true of it
abbrev pub IsClient : ℕ → Type 0
IsClient number = (1 ≤ number) × (number ≤ 64)

-- what the fields of a pass keep between two calls
pub record IsPass {slots : ℕ} (hold : HoldView Note Origin (Frame slots)) (main : Bool) (number : ℕ) (has_txn : Bool) (seen : ℕ) (refused : Refused) (left : List Bool) : Type 0 where
  pub none : HasNone hold.view
  pub main_is : main ≡ hold.view.station.main
  pub number_is : number ≡ hold.view.station.name
  pub txn_is : has_txn ≡ hold.view.knowledge.truth
  pub seen_is : seen ≡ hold.view.knowledge.seen
  pub marked : AreMarked refused hold.view.knowledge.marks
  pub left_is : (name : ℕ) → name < 256 → main ≡ true → slice_index_or left name false ≡ truth_of hold.view.station.truths name
  pub size : IsSlotCount slots
  pub of_store : (x : Origin) × (hold.view.knowledge.fixed ≡ Some x) × (x.ids + 8 ≡ 8 * hold.table.slots)
