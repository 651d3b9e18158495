-- The changes that records tell of are of places of the store.
use Rattle.std.proofs.Common.{◌≡◌, ◌≤◌, ℕ, List, [], ◌∷◌, ◌++◌, Bool, true, false, cond, refl, ap, subst, Fits, w32, take, zero, suc, length, Option, Some, None, Less, Equal, Greater, Ordering, arith}
use Rattle.std.specs.Prelude.{◌-◌, ◌==◌, if◌then◌else◌, slice_get, IfSome, IfNone}
use Rattle.std.specs.List.{AllByRecursion, last_or}
use Rattle.cell_model.specs.Records.{Undo as UndoRecord, UndoPay as UndoPayRecord}
use Rattle.std.specs.Option.{option_map_or}
use Rattle.std.specs.Map.{lookup, set_value, remove_entry}
use Rattle.std.specs.Ordering.{nat_cmp, is_eq, match_ordering}
use Rattle.std.specs.BTreeMap.{is_at, insert_entry}
use Rattle.plain_model.specs.declared.write.Place.{Place}
use Rattle.plain_model.specs.declared.write.Place.TheVariants.{Slot, Payload}
use Rattle.log_record.specs.declared.cell_record.CellRecord.{CellRecord}
use Rattle.log_record.specs.declared.cell_record.CellRecord.TheVariants.{Begin, Make, Store, Pay, Commit, Undo, AbortEnd, Weaken, Strengthen, Flip, CutDead, Free}
use Rattle.log_record.specs.Spelling.{HasCellSpelling, IsPass}
use Rattle.log_record.specs.Records.{record_of, payload_place}
use Rattle.restart_laws.specs.Unended.{Change, Unended, just_begun, unended_at, changed_at, with_change, without_change, unended_after}
use Rattle.log_replay.specs.Placed.{IsStorePlace, IsStoreChange, IsStoreEntry, AreStoreEntries}
use Rattle.log_replay.specs.Steps.{IsFirst, change_by}
use Rattle.log_replay.specs.declared.transaction.Write.{Write}
use Rattle.log_replay.specs.Replays.{IsWithin}

-- the changes of one transaction
abbrev Has : ℕ → ℕ → Unended → Type 0
Has slots ids u = AllByRecursion (IsStoreChange slots ids) u.changes

all-take : {X : Type 0} (P : X → Type 0) (n : ℕ) (xs : List X) → AllByRecursion P xs → AllByRecursion P (take n xs)
all-take P zero xs h = tt
all-take P (suc n) [] h = tt
all-take P (suc n) (x ∷ xs) h = (h.0, all-take P n xs h.1)

all-push : {X : Type 0} (P : X → Type 0) (xs : List X) (x : X) → AllByRecursion P xs → P x → AllByRecursion P (xs ++ x ∷ [])
all-push P [] x h p = (p, tt)
all-push P (y ∷ ys) x h p = (h.0, all-push P ys x h.1 p)

pub inserted : (slots ids : ℕ) (us : List (ℕ × Unended)) (p : ℕ) (u : Unended) → IsPass p → Has slots ids u → AreStoreEntries slots ids us → AreStoreEntries slots ids (insert_entry nat_cmp us p u)
inserted slots ids [] p u c q h = (record { client = c; changes = q }, tt)
inserted slots ids (e ∷ es) p u c q h = by (nat_cmp p e.0) (inserted slots ids es p u c q h.1)
  where
    by : (o : Ordering) → AreStoreEntries slots ids (insert_entry nat_cmp es p u) → AreStoreEntries slots ids (match_ordering o ((p, u) ∷ e ∷ es) ((e.0, u) ∷ es) (e ∷ insert_entry nat_cmp es p u))
    by Less r = (record { client = c; changes = q }, h)
    by Equal r = (record { client = h.0.client; changes = q }, h.1)
    by Greater r = (h.0, r)

set : (slots ids : ℕ) (us : List (ℕ × Unended)) (p : ℕ) (u : Unended) → Has slots ids u → AreStoreEntries slots ids us → AreStoreEntries slots ids (set_value (is_at (nat_cmp p)) us u)
set slots ids [] p u q h = tt
set slots ids (e ∷ es) p u q h = by (is_eq (nat_cmp p e.0)) (set slots ids es p u q h.1)
  where
    by : (b : Bool) → AreStoreEntries slots ids (set_value (is_at (nat_cmp p)) es u) → AreStoreEntries slots ids (cond b ((e.0, u) ∷ es) (e ∷ set_value (is_at (nat_cmp p)) es u))
    by true r = (record { client = h.0.client; changes = q }, h.1)
    by false r = (h.0, r)

removed : (slots ids : ℕ) (us : List (ℕ × Unended)) (p : ℕ) → AreStoreEntries slots ids us → AreStoreEntries slots ids (remove_entry (is_at (nat_cmp p)) us)
removed slots ids [] p h = tt
removed slots ids (e ∷ es) p h = by (is_eq (nat_cmp p e.0)) (removed slots ids es p h.1)
  where
    by : (b : Bool) → AreStoreEntries slots ids (remove_entry (is_at (nat_cmp p)) es) → AreStoreEntries slots ids (cond b es (e ∷ remove_entry (is_at (nat_cmp p)) es))
    by true r = h.1
    by false r = (h.0, r)

found : (slots ids : ℕ) (us : List (ℕ × Unended)) (p : ℕ) (u : Unended) → unended_at us p ≡ Some u → AreStoreEntries slots ids us → Has slots ids u
found slots ids [] p u e h = cc
found slots ids (d ∷ ds) p u e h = by (is_eq (nat_cmp p d.0)) e (λ q. found slots ids ds p u q h.1)
  where
    by : (b : Bool) → cond b (Some d.1) (lookup (is_at (nat_cmp p)) ds) ≡ Some u → (unended_at ds p ≡ Some u → Has slots ids u) → Has slots ids u
    by true q r = let same : d.1 ≡ u = cc in subst (Has slots ids) same h.0.changes
    by false q r = r q

changed : (slots ids : ℕ) (us : List (ℕ × Unended)) (p : ℕ) (f : Unended → Unended) → ((u : Unended) → Has slots ids u → Has slots ids (f u)) → AreStoreEntries slots ids us → AreStoreEntries slots ids (changed_at us p f)
changed slots ids us p f g h = by (unended_at us p) refl
  where
    by : (o : Option Unended) → unended_at us p ≡ o → AreStoreEntries slots ids (option_map_or (λ u. set_value (is_at (nat_cmp p)) us (f u)) o us)
    by None e = h
    by (Some u) e = set slots ids us p (f u) (g u (found slots ids us p u e h)) h

undone : (slots ids : ℕ) (us : List (ℕ × Unended)) (p : ℕ) → AreStoreEntries slots ids us → AreStoreEntries slots ids (changed_at us p without_change)
undone slots ids us p h = changed slots ids us p without_change (λ u q. all-take (IsStoreChange slots ids) (length u.changes - 1) u.changes q) h

noted : (slots ids : ℕ) (us : List (ℕ × Unended)) (p : ℕ) (c : Change) → IsStoreChange slots ids c → AreStoreEntries slots ids us → AreStoreEntries slots ids (changed_at us p (with_change c))
noted slots ids us p c k h = changed slots ids us p (with_change c) (λ u q. all-push (IsStoreChange slots ids) u.changes c q k) h

-- a record with a spelling, whose ids are the store's, keeps it
pub placed_after : (slots ids : ℕ) (us : List (ℕ × Unended)) (r : CellRecord) → HasCellSpelling slots r → IsWithin ids r → AreStoreEntries slots ids us → AreStoreEntries slots ids (unended_after us (record_of r))
placed_after slots ids us (Begin pass) s w h = inserted slots ids us pass just_begun s tt h
placed_after slots ids us (Make pass id) s w h = h
placed_after slots ids us (Store pass id slot old_target old_strong new_target new_bit new_strong) s w h =
    noted slots ids us pass (record { id = id; place = Slot slot; old = old_target; new = new_target }) (record { above = s.1; within = w.0; place = (s.2, w.1, w.2) }) h
placed_after slots ids us (Pay pass id old_value new_value) s w h =
    noted slots ids us pass (record { id = id; place = Payload; old = old_value; new = new_value }) (record { above = s.1; within = w; place = tt }) h
placed_after slots ids us (Commit pass) s w h = removed slots ids us pass h
placed_after slots ids us (Undo pass place from_strong to_bit id «from» to) s w h = by (place == payload_place)
  where
    by : (b : Bool) → AreStoreEntries slots ids (unended_after us (if b then UndoPayRecord pass id «from» to else UndoRecord pass id place «from» from_strong to to_bit))
    by true = undone slots ids us pass h
    by false = undone slots ids us pass h
placed_after slots ids us (AbortEnd pass) s w h = removed slots ids us pass h
placed_after slots ids us (Weaken id slot target) s w h = h
placed_after slots ids us (Strengthen id slot target) s w h = h
placed_after slots ids us (Flip id) s w h = h
placed_after slots ids us (CutDead id slot target was_strong) s w h = h
placed_after slots ids us (Free id) s w h = h

-- the first of them
pub placed-first : (slots ids : ℕ) (e : ℕ × Unended) (es : List (ℕ × Unended)) → AreStoreEntries slots ids (e ∷ es) → IsStoreEntry slots ids e
placed-first slots ids e es h = h.0

pub placed-last : (slots ids : ℕ) (c : Change) (cs : List Change) (o : Option Change) → AllByRecursion (IsStoreChange slots ids) cs → last_or o cs ≡ Some c → (o ≡ Some c → IsStoreChange slots ids c) → IsStoreChange slots ids c
placed-last slots ids c [] o h e k = k e
placed-last slots ids c (d ∷ ds) o h e k = placed-last slots ids c ds (Some d) h.1 e (λ (q : Some d ≡ Some c). let same : d ≡ c = cc in subst (IsStoreChange slots ids) same h.0)

-- the values of a slot are ids, and so small
pub values_fit : (slots ids : ℕ) (place : Place) (old new slot : ℕ) → IsStorePlace slots ids place old new → place ≡ Slot slot → ids ≤ 8192 → (Fits w32 old) × (Fits w32 new)
values_fit slots ids place old new slot p e few =
    let q = subst (λ (at : Place). IsStorePlace slots ids at old new) e p in
    let a = q.1 in
    let b = q.2 in
    (omega (arith, a, few), omega (arith, b, few))

-- ---- the first transaction

pub first_is : (us : List (ℕ × Unended)) (p : ℕ) (u : Unended) (o : Option Write) → slice_get us 0 ≡ Some (p, u) → IfSome o (λ w. last_or None u.changes ≡ Some (change_by w)) → IfNone o (u.changes ≡ []) → IsFirst us p o
first_is [] p u o h s n = absurd (cc)
first_is (e ∷ es) p u o h s n = let same : e ≡ (p, u) = cc in record { entry = (p, u); rest = es; split = ap (λ (d : ℕ × Unended). d ∷ es) same; client = refl; some = s; none = n }

pub first_last : (us : List (ℕ × Unended)) (pass : ℕ) (last : Option Write) (w : Write) → (f : IsFirst us pass last) → last ≡ Some w → last_or None f.entry.1.changes ≡ Some (change_by w)
first_last us pass last w f e = subst (λ (o : Option Write). IfSome o (λ v. last_or None f.entry.1.changes ≡ Some (change_by v))) e f.some

pub first_entry : (slots ids : ℕ) (us : List (ℕ × Unended)) (pass : ℕ) (last : Option Write) → (f : IsFirst us pass last) → AreStoreEntries slots ids us → IsStoreEntry slots ids f.entry
first_entry slots ids us pass last f h = placed-first slots ids f.entry f.rest (subst (λ (es : List (ℕ × Unended)). AreStoreEntries slots ids es) f.split h)

pub first_client : (slots ids : ℕ) (us : List (ℕ × Unended)) (pass : ℕ) (last : Option Write) → IsFirst us pass last → AreStoreEntries slots ids us → IsPass pass
first_client slots ids us pass last f h = subst IsPass f.client (first_entry slots ids us pass last f h).client

pub first_placed : (slots ids : ℕ) (us : List (ℕ × Unended)) (pass : ℕ) (last : Option Write) (w : Write) → IsFirst us pass last → last ≡ Some w → AreStoreEntries slots ids us → IsStoreChange slots ids (change_by w)
first_placed slots ids us pass last w f e h =
    placed-last slots ids (change_by w) f.entry.1.changes None (first_entry slots ids us pass last f h).changes (first_last us pass last w f e) (λ (n : None ≡ Some (change_by w)). absurd (cc))
