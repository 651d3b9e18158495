-- One note more leads one step further.
use Rattle.std.proofs.Common.{◌≡◌, ℕ, List, [], ◌∷◌, ◌++◌, map, Option, Some, None, refl, sym, ap, ◌∙◌, subst, arith}
use Rattle.std.specs.Prelude.{◌↔◌}
use Rattle.std.specs.List.{last_or}
use Rattle.std.specs.Option.{option_map_or}
use Rattle.store_model.specs.Core.{Core, Round}
use Rattle.log_record.specs.declared.cell_record.CellRecord.{CellRecord}
use Rattle.core_store.specs.declared.note.Note.{Note}
use Rattle.core_store.specs.declared.act.Act.{Act}
use Rattle.core_store.specs.declared.act.Act.TheVariants as act
use Rattle.plain_model.specs.History.{Moment, next, moment_after}
use Rattle.store_model.specs.Core.{Ref}
use Rattle.core_store.specs.References.{references_by, references_from}
use Rattle.core_store.specs.Leads.{Turns, Leads, AreLed}
use Rattle.core_store.specs.Collects.{Collects, entry_of}
use Rattle.core_store.specs.JournalView.{last_left}
use Rattle.core_store.specs.RoundView.{RoundView, Closed, Walking, Sweeping, round_of, left_of}

pub AreLed-push : (slots : ℕ) (c d e : Core) (notes : List Note) (n : Note) → AreLed slots c notes d → Leads slots d e n → AreLed slots c (notes ++ n ∷ []) e
AreLed-push slots c d e [] n l one = (e, subst (λ x. Leads slots x e n) (sym l) one, refl)
AreLed-push slots c d e (m ∷ ms) n l one = (l.0, l.1, AreLed-push slots l.0 d e ms n l.2 one)

-- what the notes name
pub references-from_push : (m : Moment) (refs : List Ref) (notes : List Note) (n : Note) → references_from m refs (notes ++ n ∷ []) ≡ references_by (moment_after m (map (λ x. x.entry) notes)).state (references_from m refs notes) n.entry n.logged
references-from_push m refs [] n = refl
references-from_push m refs (x ∷ xs) n = references-from_push (next m x.entry) (references_by m.state refs x.entry x.logged) xs n

-- the last note
pub last_or-push : (o : Option Note) (notes : List Note) (n : Note) → last_or o (notes ++ n ∷ []) ≡ Some n
last_or-push o [] n = refl
last_or-push o (m ∷ ms) n = last_or-push (Some m) ms n

pub last_left-push : (notes : List Note) (n : Note) → last_left (notes ++ n ∷ []) ≡ n.left
last_left-push notes n = ap (λ (o : Option Note). option_map_or (λ x. x.left) o 0) (last_or-push None notes n)

-- no work is left exactly where no round is open
pub left-none : (slots : ℕ) (r : RoundView) → (left_of slots r ≡ 0) ↔ (round_of r ≡ None)
left-none slots Closed = (λ e. refl, λ e. refl)
left-none slots (Walking w) = (λ e. absurd (omega (arith, e)), λ e. absurd (cc))
left-none slots (Sweeping w s slot g) = (λ e. absurd (omega (arith, e)), λ e. absurd (cc))

pub left-told : (slots left : ℕ) (r : RoundView) (round : Option Round) → left ≡ left_of slots r → round_of r ≡ round → (left ≡ 0) ↔ (round ≡ None)
left-told slots left r round e f = let l = left-none slots r in (λ z. sym f ∙ l.0 (sym e ∙ z), λ z. e ∙ l.1 (f ∙ z))

-- ---- what a note of the collector makes of the queue and the round

pub turns-collector : (slots : ℕ) (c : Core) (a : Act) (logged : Option CellRecord) (left : ℕ) (queue : List ℕ) (round : Option Round) → Collects slots c a logged queue round → Turns slots c (record { entry = entry_of logged; logged = logged; left = left; act = a }) queue round
turns-collector slots c (act.Skip id) logged left queue round h = (refl, h)
turns-collector slots c (act.Start id) logged left queue round h = (refl, h)
turns-collector slots c (act.Scan id) logged left queue round h = (refl, h)
turns-collector slots c act.Judge logged left queue round h = (refl, h)
turns-collector slots c act.End logged left queue round h = (refl, h)
turns-collector slots c act.Change logged left queue round h = (refl, h)
turns-collector slots c act.Other logged left queue round h = absurd h
