-- The cells that an image opens to are consistent: those after the log, and those after the undo.
use Rattle.std.proofs.Common.{◌≡◌, ◌≢◌, ℕ, zero, suc, ◌*◌, ◌<◌, ◌≤◌, Bool, true, false, cond, List, [], ◌∷◌, length, take, reverse, Option, Some, None, Less, Equal, Greater, Ordering, refl, sym, ap, subst, ◌∙◌}
use Rattle.std.specs.Prelude.{◌-◌, ◌&&◌, ◌==◌, not, if◌then◌else◌}
use Rattle.std.specs.List.{AllByRecursion}
use Rattle.std.specs.Option.{option_map_or}
use Rattle.std.specs.Map.{set_value, remove_entry}
use Rattle.std.specs.Ordering.{nat_cmp, is_eq, match_ordering}
use Rattle.std.specs.BTreeMap.{is_at, insert_entry}
use Rattle.std.proofs.lemmas.Bool.{ne_eqb}
use Rattle.std.proofs.lemmas.List.{reverse-append}
use Rattle.plain_model.specs.declared.write.Place.{Place}
use Rattle.plain_model.specs.declared.write.Place.TheVariants.{Slot, Payload, Whole}
use Rattle.cell_model.specs.Cells.{Cell, cell_at, pointer_at, is_live, is_strong, same}
use Rattle.cell_model.specs.Records.{after_record, HasPointer, IsPointer, Undo, UndoPay}
use Rattle.cell_model.specs.Consistent.{AreConsistent}
use Rattle.cell_model.proofs.ConsistentLaws.{consistent-kept}
use Rattle.store_model.proofs.Lists.{each-append}
use Rattle.disk_model.specs.Areas.{Bytes}
use Rattle.log_record.specs.declared.cell_record.CellRecord.{CellRecord}
use Rattle.log_record.specs.declared.cell_record.CellRecord.TheVariants.{Begin as BeginRecord, Make as MakeRecord, Store as StoreRecord, Pay as PayRecord, Commit as CommitRecord, Undo as UndoRecord, AbortEnd as AbortEndRecord, Weaken as WeakenRecord, Strengthen as StrengthenRecord, Flip as FlipRecord, CutDead as CutDeadRecord, Free as FreeRecord}
use Rattle.log_record.specs.declared.record.Record.{Record}
use Rattle.log_record.specs.declared.record.Record.TheVariants.{OfCells, Image, Turn}
use Rattle.log_record.specs.Records.{payload_place, record_of}
use Rattle.log_record.specs.Spelling.{HasCellSpelling}
use Rattle.restart_laws.specs.Unended.{Change, Unended, just_begun, unended_at, changed_at, with_change, without_change, unended_after}
use Rattle.restart_laws.specs.Restored.{weak_bit, is_counted_strong, undo_of, undo_records, after_records, restart_records, restored, CanBeUndone, CanAllBeUndone, CanRestart}
use Rattle.restart_laws.specs.Told.{HasPlace, HavePlaces}
use Rattle.restart_laws.specs.Rules.{AreOfPages}
use Rattle.restart_laws.proofs.PlaceLaws.{places-found}
use Rattle.restart_laws.proofs.RestartSteps.{after_records-append}
use Rattle.restart_laws.proofs.RuleLaws.{rules-consistent}
use Rattle.opened_images.specs.LogRecords.{HaveSpellings, unended_by_all, unended_behind, all_of}
use Rattle.opened_images.specs.Opened.{Outcome, OpensTo, Opened, no_store, damaged_log, unknown_version, damaged_page, unfit, unsound, stuck, opens}
use Rattle.opened_images.proofs.AfterLog.{of_pages}

-- ---- the places of the changes

abbrev Has : ℕ → List Change → Type 0
Has slots cs = AllByRecursion (λ c. HasPlace slots c.place) cs

all_take : (slots n : ℕ) (cs : List Change) → Has slots cs → Has slots (take n cs)
all_take slots zero cs h = tt
all_take slots (suc n) [] h = tt
all_take slots (suc n) (c ∷ cs) h = (h.0, all_take slots n cs h.1)

all_reverse : (slots : ℕ) (cs : List Change) → Has slots cs → Has slots (reverse cs)
all_reverse slots [] h = tt
all_reverse slots (c ∷ cs) h =
    subst (λ (l : List Change). Has slots l) (sym (reverse-append (c ∷ []) cs)) (each-append (λ (d : Change). HasPlace slots d.place) (reverse cs) (c ∷ []) (all_reverse slots cs h.1) (h.0, tt))

inserted : (slots : ℕ) (us : List (ℕ × Unended)) (p : ℕ) (u : Unended) → Has slots u.changes → HavePlaces slots us → HavePlaces slots (insert_entry nat_cmp us p u)
inserted slots [] p u q h = (q, tt)
inserted slots (e ∷ es) p u q h = by (nat_cmp p e.0) (inserted slots es p u q h.1)
  where
    by : (o : Ordering) → HavePlaces slots (insert_entry nat_cmp es p u) → HavePlaces slots (match_ordering o ((p, u) ∷ e ∷ es) ((e.0, u) ∷ es) (e ∷ insert_entry nat_cmp es p u))
    by Less r = (q, h)
    by Equal r = (q, h.1)
    by Greater r = (h.0, r)

set_there : (slots : ℕ) (us : List (ℕ × Unended)) (p : ℕ) (u : Unended) → Has slots u.changes → HavePlaces slots us → HavePlaces slots (set_value (is_at (nat_cmp p)) us u)
set_there slots [] p u q h = tt
set_there slots (e ∷ es) p u q h = by (is_eq (nat_cmp p e.0)) (set_there slots es p u q h.1)
  where
    by : (b : Bool) → HavePlaces slots (set_value (is_at (nat_cmp p)) es u) → HavePlaces slots (cond b ((e.0, u) ∷ es) (e ∷ set_value (is_at (nat_cmp p)) es u))
    by true r = (q, h.1)
    by false r = (h.0, r)

removed : (slots : ℕ) (us : List (ℕ × Unended)) (p : ℕ) → HavePlaces slots us → HavePlaces slots (remove_entry (is_at (nat_cmp p)) us)
removed slots [] p h = tt
removed slots (e ∷ es) p h = by (is_eq (nat_cmp p e.0)) (removed slots es p h.1)
  where
    by : (b : Bool) → HavePlaces slots (remove_entry (is_at (nat_cmp p)) es) → HavePlaces slots (cond b es (e ∷ remove_entry (is_at (nat_cmp p)) es))
    by true r = h.1
    by false r = (h.0, r)

changed : (slots : ℕ) (us : List (ℕ × Unended)) (p : ℕ) (f : Unended → Unended) → ((u : Unended) → Has slots u.changes → Has slots (f u).changes) → HavePlaces slots us → HavePlaces slots (changed_at us p f)
changed slots us p f g h = by (unended_at us p) refl
  where
    by : (o : Option Unended) → unended_at us p ≡ o → HavePlaces slots (option_map_or (λ u. set_value (is_at (nat_cmp p)) us (f u)) o us)
    by None e = h
    by (Some u) e = set_there slots us p (f u) (g u (places-found slots us p u e h)) h

one_more : (slots : ℕ) (us : List (ℕ × Unended)) (pass : ℕ) (c : Change) → HasPlace slots c.place → HavePlaces slots us → HavePlaces slots (changed_at us pass (with_change c))
one_more slots us pass c has h = changed slots us pass (with_change c) (λ u q. each-append (λ (d : Change). HasPlace slots d.place) u.changes (c ∷ []) q (has, tt)) h

one_less : (slots : ℕ) (us : List (ℕ × Unended)) (pass : ℕ) → HavePlaces slots us → HavePlaces slots (changed_at us pass without_change)
one_less slots us pass h = changed slots us pass without_change (λ u q. all_take slots (length u.changes - 1) u.changes q) h

places_after : (slots : ℕ) (us : List (ℕ × Unended)) (r : CellRecord) → HasCellSpelling slots r → HavePlaces slots us → HavePlaces slots (unended_after us (record_of r))
places_after slots us (BeginRecord pass) rules h = inserted slots us pass just_begun tt h
places_after slots us (MakeRecord pass id) rules h = h
places_after slots us (StoreRecord pass id slot old old_strong new bit strong) rules h = one_more slots us pass (record { id = id; place = Slot slot; old = old; new = new }) rules.2 h
places_after slots us (PayRecord pass id old new) rules h = one_more slots us pass (record { id = id; place = Payload; old = old; new = new }) tt h
places_after slots us (CommitRecord pass) rules h = removed slots us pass h
places_after slots us (UndoRecord pass place old_strong bit id old new) rules h = by (place == payload_place)
  where
    by : (b : Bool) → HavePlaces slots (unended_after us (if b then UndoPay pass id old new else Undo pass id place old old_strong new bit))
    by true = one_less slots us pass h
    by false = one_less slots us pass h
places_after slots us (AbortEndRecord pass) rules h = removed slots us pass h
places_after slots us (WeakenRecord id slot target) rules h = h
places_after slots us (StrengthenRecord id slot target) rules h = h
places_after slots us (FlipRecord id) rules h = h
places_after slots us (CutDeadRecord id slot target was_strong) rules h = h
places_after slots us (FreeRecord id) rules h = h

places_after_all : {slots : ℕ} (us : List (ℕ × Unended)) (rs : List (Record slots)) → HaveSpellings rs → HavePlaces slots us → HavePlaces slots (unended_by_all us rs)
places_after_all us [] spelled h = h
places_after_all {slots} us (OfCells r ∷ rs) spelled h = places_after_all (unended_after us (record_of r)) rs spelled.2 (places_after slots us r spelled.0 h)
places_after_all us (Image page held ∷ rs) spelled h = places_after_all us rs spelled.2 h
places_after_all us (Turn version pages ∷ rs) spelled h = places_after_all us rs spelled.2 h

-- ---- the undo of a change

weak_weak : (held : List Cell) (target : ℕ) → target ≢ 0 → is_strong held (record { target = target; bit = weak_bit held target }) ≡ false
weak_weak held target some = by (target == 0) (ne_eqb target 0 some) (cell_at held target).bit
  where
    by : (zero_is : Bool) → zero_is ≡ false → (b : Bool) → same b (if zero_is then false else not b) ≡ false
    by true e b = absurd (cc)
    by false e true = refl
    by false e false = refl

counted : (held : List Cell) (id slot new : ℕ) → (pointer_at held id slot).target ≡ new → new ≢ 0 → is_strong held (pointer_at held id slot) ≡ is_counted_strong held (pointer_at held id slot)
counted held id slot new e some = by (is_strong held (pointer_at held id slot)) ((pointer_at held id slot).target == 0) (ne_eqb (pointer_at held id slot).target 0 (λ zero_is. some (sym e ∙ zero_is)))
  where
    by : (s zero_is : Bool) → zero_is ≡ false → s ≡ not zero_is && s
    by s true e = absurd (cc)
    by s false e = refl

undone : (slots ids : ℕ) (held : List Cell) → AreConsistent slots ids held → (pass id : ℕ) (place : Place) (old new : ℕ) → HasPlace slots place → CanBeUndone held (record { id = id; place = place; old = old; new = new })
    → AreConsistent slots ids (after_record slots held (undo_of held pass (record { id = id; place = place; old = old; new = new })))
undone slots ids held k pass id (Slot slot) old new few can =
    let pointer : HasPointer held id slot new (is_counted_strong held (pointer_at held id slot)) = record {
      live = can.live;
      within = subst (λ (n : ℕ). slot < n) (sym (k.slotted id can.live)) few;
      target = can.left;
      target_live = λ some. subst (λ (t : ℕ). is_live held t ≡ true) can.left (k.exact.closed id slot can.live (λ zero_is. some (sym can.left ∙ zero_is)));
      strength = counted held id slot new can.left;
    } in
    let back : IsPointer held old (weak_bit held old) false = record { live = can.old; strength = weak_weak held old; null = λ e. ap (weak_bit held) e } in
    consistent-kept slots ids held (Undo pass id slot new (is_counted_strong held (pointer_at held id slot)) old (weak_bit held old)) (pointer, back) tt k
undone slots ids held k pass id Payload old new few can = consistent-kept slots ids held (UndoPay pass id new old) (can.live, can.left) tt k
undone slots ids held k pass id Whole old new few can = absurd few

all_undone : (slots ids : ℕ) (held : List Cell) → AreConsistent slots ids held → (pass : ℕ) (cs : List Change) → Has slots cs → CanAllBeUndone slots held pass cs → AreConsistent slots ids (after_records slots held (undo_records slots held pass cs))
all_undone slots ids held k pass [] has can = k
all_undone slots ids held k pass (c ∷ cs) has can =
    all_undone slots ids (after_record slots held (undo_of held pass c)) (undone slots ids held k pass c.id c.place c.old c.new has.0 can.0) pass cs has.1 can.1

restarted : (slots ids : ℕ) (held : List Cell) → AreConsistent slots ids held → (us : List (ℕ × Unended)) → HavePlaces slots us → CanRestart slots held us → AreConsistent slots ids (restored slots held us)
restarted slots ids held k [] has can = k
restarted slots ids held k (e ∷ es) has can =
    let rs = undo_records slots held e.0 (reverse e.1.changes) in
    let on = all_undone slots ids held k e.0 (reverse e.1.changes) (all_reverse slots e.1.changes has.0) can.0 in
    subst (λ (cs : List Cell). AreConsistent slots ids cs) (sym (after_records-append slots held rs (restart_records slots (after_records slots held rs) es))) (restarted slots ids (after_records slots held rs) on es has.1 can.1)

-- ---- what an image opens to

cells_same : (those held : List Cell) → OpensTo those ≡ OpensTo held → those ≡ held
cells_same those held e = cc

pub opens_consistent : (slots : ℕ) (image : Bytes) (o : Outcome) (held : List Cell) → Opened slots image o → o ≡ OpensTo held → (pages : ℕ) × ((1 ≤ pages) × (pages ≤ 1024) × AreConsistent slots (8 * pages) held)
opens_consistent slots image o held (no_store named) e = absurd (cc)
opens_consistent slots image o held (damaged_log area at named d) e = absurd (cc)
opens_consistent slots image o held (unknown_version area byte named v) e = absurd (cc)
opens_consistent slots image o held (damaged_page area pages batches page at read low d least) e = absurd (cc)
opens_consistent slots image o held (unfit area pages front before r after back read fit denied) e = absurd (cc)
opens_consistent slots image o held (unsound area pages batches those rule id read broken) e = absurd (cc)
opens_consistent slots image o held (stuck area pages batches those id read kept is) e = absurd (cc)
opens_consistent slots image o held (opens area pages batches those read kept can) e =
    let log = read.pages_read.read.log.batches_are in
    let formed = of_pages pages image.pages (all_of batches) read.pages_read.whole log.spelled read.fit in
    let sound = rules-consistent slots (8 * pages) those (subst (λ (cs : List Cell). AreOfPages slots (8 * pages) cs) (sym read.are) formed) kept in
    let after = restarted slots (8 * pages) those sound (unended_behind batches) (places_after_all [] (all_of batches) log.spelled tt) can in
    (pages, (log.some, log.few, subst (λ (cs : List Cell). AreConsistent slots (8 * pages) cs) (cells_same (restored slots those (unended_behind batches)) held e) after))
