-- The walk of the tables keeps up with the red walk of the notes.
use Rattle.std.proofs.Common.{◌≡◌, ◌≢◌, ℕ, ◌+◌, ◌<◌, ◌≤◌, List, [], ◌∷◌, ◌++◌, length, Bool, true, false, ◌⊎◌, inl, inr, ⊎_elim, refl, sym, ap, ◌∙◌, subst, Option, Some, None, arith}
use Rattle.std.specs.Prelude.{◌==◌, ◌&&◌, ◌||◌, if◌then◌else◌, fold, slice_index, Contains, filter}
use Rattle.std.proofs.lemmas.Bool.{cases_eq, cases_lt, eqb-true}
use Rattle.std.proofs.lemmas.List.{get_or_default, get_or_append_left, get_or_past}
use Rattle.cell_model.specs.Cells.{Cell, null, cell_at, pointer_at, is_live}
use Rattle.cell_model.specs.Consistent.{AreConsistent}
use Rattle.store_model.proofs.Lists.{Contains-here, Contains-later}
use Rattle.red_walk.specs.declared.red_at.RedAt.{RedAt}
use Rattle.red_walk.specs.declared.red_at.RedAt.TheVariants as red
use Rattle.red_walk.specs.Walk.{Walk, next, moved, joined_by, is_open}
use Rattle.red_walk.proofs.Members.{has-Contains}
use Rattle.red_walk.proofs.WalkLaws.{look-at}
use Rattle.ref_tables.specs.Queue.{has}
use Rattle.green_walk.specs.Sweeping.{next as next_of_sweep, found}
use Rattle.green_walk.specs.declared.sweep.SweepAt.{SweepAt}
use Rattle.green_walk.specs.declared.sweep.SweepAt.TheVariants as sweep
use Rattle.green_walk.specs.declared.sweep.Found.TheVariants.{Nothing}
use Rattle.log_record.specs.declared.cell_record.CellRecord.{CellRecord}
use Rattle.log_record.specs.declared.cell_record.CellRecord.TheVariants as logs
use Rattle.log_record.specs.Records.{FitsCells, after_cell_record}
use Rattle.core_store.specs.Changes.{is_counted_strong}
use Rattle.core_store.specs.RedWalks.{RedWalk, with_record}
use Rattle.core_store.specs.RedCursor.{IsBehind, IsRedWalk}
use Rattle.core_store.specs.RoundView.{RoundView, Closed, Walking, Sweeping, asked, asked_by_walk, is_event, looked_past, passed_by_sweep, touched_in, Passes, none, more}
use Rattle.core_store.proofs.LeftLaws.{look-asked}
use Rattle.core_store.proofs.ReadyRound.{look-slot}
use Rattle.core_store.proofs.RedStrengths.{IsByClient, Writes, IsStrong, no-both, client-strong}

-- ---- the next slot

-- a slot that is after the next one is after this one, or is this one, or isn't there
behind-moved : (slots : ℕ) (w : Walk) (place k : ℕ) → IsBehind (moved slots w) place k → IsBehind w place k ⊎ ((place ≡ w.place) × ((k ≡ w.slot) ⊎ (slots ≤ k)))
behind-moved slots w place k b = by (w.slot + 1 == slots) refl b
  where
    by : (last : Bool) → (w.slot + 1 == slots) ≡ last → IsBehind (if last then record w { place = w.place + 1; slot = 0 } else record w { slot = w.slot + 1 }) place k → IsBehind w place k ⊎ ((place ≡ w.place) × ((k ≡ w.slot) ⊎ (slots ≤ k)))
    by true e (inl l) =
        let all = eqb-true (w.slot + 1) slots e in
        ⊎_elim
        (λ (here : place ≡ w.place). ⊎_elim
        (λ (early : k < w.slot). inl (inr (here, early)))
        (λ (late : w.slot ≤ k). inr (here, ⊎_elim (λ (at : k ≡ w.slot). inl at) (λ (n : k ≢ w.slot). inr (omega (arith, all, late, n))) (cases_eq k w.slot)))
        (cases_lt k w.slot))
        (λ (n : place ≢ w.place). inl (inl (omega (arith, l, n))))
        (cases_eq place w.place)
    by true e (inr p) = absurd (let l = p.1 in omega (arith, l))
    by false e (inl l) = inl (inl l)
    by false e (inr p) =
        let l = p.1 in
        ⊎_elim (λ (at : k ≡ w.slot). inr (p.0, inl at)) (λ (n : k ≢ w.slot). inl (inr (p.0, omega (arith, l, n)))) (cases_eq k w.slot)

behind-joined : (slots : ℕ) (w : Walk) (joins : Option ℕ) (place k : ℕ) → IsBehind (joined_by (moved slots w) joins) place k → IsBehind (moved slots w) place k
behind-joined slots w None place k b = b
behind-joined slots w (Some id) place k b = b

moved-list : (slots : ℕ) (w : Walk) → (moved slots w).list ≡ w.list
moved-list slots w = by (w.slot + 1 == slots)
  where
    by : (last : Bool) → (if last then record w { place = w.place + 1; slot = 0 } else record w { slot = w.slot + 1 }).list ≡ w.list
    by true = refl
    by false = refl

-- who joins stands after the others
joined-front : (slots : ℕ) (w : Walk) (joins : Option ℕ) (place : ℕ) → place < length w.list → slice_index (joined_by (moved slots w) joins).list place ≡ slice_index w.list place
joined-front slots w None place l = ap (λ (xs : List ℕ). slice_index xs place) (moved-list slots w)
joined-front slots w (Some id) place l =
    ap (λ (xs : List ℕ). slice_index (xs ++ id ∷ []) place) (moved-list slots w) ∙ get_or_append_left w.list (id ∷ []) 0 place l

-- where the slot in hand isn't strong, and slots that aren't there are not, all that is strong after the next one was after
-- this one
pub behind-next : (slots : ℕ) (cells : List Cell) (w : Walk) (joins : Option ℕ) (id slot : ℕ) (written : List (ℕ × ℕ)) → next w ≡ red.Look id slot → (IsStrong cells id slot → ⊥) → ((k : ℕ) → slots ≤ k → IsStrong cells id k → ⊥)
    → ((place k : ℕ) → place < length w.list → IsBehind w place k → IsStrong cells (slice_index w.list place) k → Contains written (slice_index w.list place, k))
    → (place k : ℕ) → IsBehind (joined_by (moved slots w) joins) place k → IsStrong cells (slice_index (joined_by (moved slots w) joins).list place) k → Contains written (slice_index (joined_by (moved slots w) joins).list place, k)
behind-next slots cells w joins id slot written look weak past before place k b s =
    let at = look-at w id slot look in
    let same : w.slot ≡ slot = look-slot _ w.slot _ id slot look in
    let within : place < length w.list = ⊎_elim
    (λ (old : IsBehind w place k). ⊎_elim (λ (l : place < w.place). let far = at.0 in omega (arith, l, far)) (λ (p : (place ≡ w.place) × (k < w.slot)). let here = p.0 in let far = at.0 in omega (arith, here, far)) old)
    (λ (new : (place ≡ w.place) × ((k ≡ w.slot) ⊎ (slots ≤ k))). let here = new.0 in let far = at.0 in omega (arith, here, far))
    (behind-moved slots w place k (behind-joined slots w joins place k b)) in
    let front : slice_index (joined_by (moved slots w) joins).list place ≡ slice_index w.list place = joined-front slots w joins place within in
    let strong : IsStrong cells (slice_index w.list place) k = subst (λ (x : ℕ). IsStrong cells x k) front s in
    subst (λ (x : ℕ). Contains written (x, k)) (sym front)
    (⊎_elim
    (λ (old : IsBehind w place k). before place k within old strong)
    (λ (new : (place ≡ w.place) × ((k ≡ w.slot) ⊎ (slots ≤ k))).
    let here : slice_index w.list place ≡ id = ap (slice_index w.list) new.0 ∙ at.1 in
    let at_id : IsStrong cells id k = subst (λ (x : ℕ). IsStrong cells x k) here strong in
    absurd (⊎_elim (λ (e : k ≡ w.slot). weak (subst (λ (n : ℕ). IsStrong cells id n) (e ∙ same) at_id)) (λ (l : slots ≤ k). past k l at_id) new.1))
    (behind-moved slots w place k (behind-joined slots w joins place k b)))

-- a slot that isn't there holds no strong pointer
pub none-past : (slots : ℕ) (cells : List Cell) (id : ℕ) → length (cell_at cells id).pointers ≡ slots → (k : ℕ) → slots ≤ k → IsStrong cells id k → ⊥
none-past slots cells id long k l s =
    let gone : pointer_at cells id k ≡ null = get_or_past (cell_at cells id).pointers k null (omega (arith, long, l)) in
    no-both (is_counted_strong cells (pointer_at cells id k)) s (ap (is_counted_strong cells) gone)

-- ---- looks

module _ (slots ids : ℕ) (cells : List Cell) (k : AreConsistent slots ids cells) (r : RedWalk) (live : r.going ≡ true → (id : ℕ) → Contains r.list id → is_live cells id ≡ true) where
  red-looked : (v : RoundView) → IsRedWalk cells r v → is_event cells (asked v) ≡ false → IsRedWalk cells r (looked_past slots cells v)
  red-looked Closed h e = h
  red-looked (Walking w) h e = λ go.
      let at = h go in
      let look = look-asked cells (next w) e in
      let id = look.0 in
      let slot = look.1 in
      let there = look-at w id slot look.2 in
      let listed : Contains r.list id = subst (λ (xs : List ℕ). Contains xs id) (sym at.0) (w.place, there.0, get_or_default w.list w.place id 0 there.0 ∙ there.1) in
      let weak : is_counted_strong cells (pointer_at cells id slot) ≡ false = subst (λ (a : RedAt). is_event cells (asked_by_walk a) ≡ false) look.2 e in (
        at.0 ∙ sym (moved-list slots w),
        λ place n l b s. behind-next slots cells w None id slot r.written look.2 (λ s. no-both (is_counted_strong cells (pointer_at cells id slot)) s weak) (none-past slots cells id (k.slotted id (live go id listed))) at.1 place n b s,
      )
  red-looked (Sweeping w s slot g) h e = by (next_of_sweep s)
    where
      by : (a : SweepAt) → IsRedWalk cells r (passed_by_sweep slots cells w s slot g a)
      by (sweep.Slots id) = last (slot + 1 == slots)
        where
          last : (b : Bool) → IsRedWalk cells r (if b then Sweeping w (found s Nothing) 0 g else Sweeping w s (slot + 1) g)
          last true = h
          last false = h
      by (sweep.Free id) = h
      by sweep.End = h

  pub red-passes : (u v : RoundView) → IsRedWalk cells r u → Passes slots cells u v → IsRedWalk cells r v
  red-passes u _ h none = h
  red-passes u _ h (more v p e) = red-looked v (red-passes u v h p) e

-- ---- events of clients

-- touches leave it
pub red-touched : (cells : List Cell) (r : RedWalk) (ids : List ℕ) (v : RoundView) → IsRedWalk cells r v → IsRedWalk cells r (fold touched_in v ids)
red-touched cells r [] v h = h
red-touched cells r (id ∷ ids) v h = red-touched cells r ids (touched_in v id) (one v h)
  where
    one : (v : RoundView) → IsRedWalk cells r v → IsRedWalk cells r (touched_in v id)
    one Closed h = h
    one (Walking w) h = by (is_open w && has w.left id)
      where
        by : (b : Bool) → IsRedWalk cells r (Walking (if b then record w { touched = filter (λ x. (x == id) || has w.touched x) w.list } else w))
        by true = h
        by false = h
    one (Sweeping w s slot g) h = h

-- what a client's record leaves of the walk of the notes
record Stays (r new : RedWalk) : Type 0 where
  going : new.going ≡ r.going
  list : new.list ≡ r.list
  written : (e : ℕ × ℕ) → Contains r.written e → Contains new.written e

same-walk : (r : RedWalk) → Stays r r
same-walk r = record { going = refl; list = refl; written = λ e m. m }

client-stays : (later : List Cell) (r : RedWalk) (c : CellRecord) → IsByClient c → Stays r (with_record later r (Some c))
client-stays later r (logs.Begin pass) b = same-walk r
client-stays later r (logs.Make pass id) b = same-walk r
client-stays later r (logs.Store pass id slot ot os nt nb ns) b = by (has r.list id)
  where
    by : (h : Bool) → Stays r (if h then record r { written = (id, slot) ∷ r.written } else r)
    by true = record { going = refl; list = refl; written = λ e m. Contains-later (id, slot) r.written e m }
    by false = same-walk r
client-stays later r (logs.Pay pass id ov nv) b = same-walk r
client-stays later r (logs.Commit pass) b = same-walk r
client-stays later r (logs.Undo pass place fs tb id f to) b = same-walk r
client-stays later r (logs.AbortEnd pass) b = same-walk r
client-stays later r (logs.Weaken id slot target) b = absurd b
client-stays later r (logs.Strengthen id slot target) b = absurd b
client-stays later r (logs.Flip id) b = absurd b
client-stays later r (logs.CutDead id slot target was_strong) b = absurd b
client-stays later r (logs.Free id) b = absurd b

-- a slot of a listed object that the record writes is noted
client-writes : (later : List Cell) (r : RedWalk) (c : CellRecord) (x k : ℕ) → Writes c x k → Contains r.list x → Contains (with_record later r (Some c)).written (x, k)
client-writes later r (logs.Store pass id slot ot os nt nb ns) x k w m =
    let listed : has r.list id ≡ true = has-Contains r.list id (subst (λ (y : ℕ). Contains r.list y) w.0 m) in
    let here : Contains (with_record later r (Some (logs.Store pass id slot ot os nt nb ns))).written (id, slot)
    = subst (λ (b : Bool). Contains (if b then record r { written = (id, slot) ∷ r.written } else r).written (id, slot)) (sym listed) (Contains-here (id, slot) r.written) in
    subst (λ (y : ℕ). Contains (with_record later r (Some (logs.Store pass id slot ot os nt nb ns))).written (y, k)) (sym w.0)
    (subst (λ (n : ℕ). Contains (with_record later r (Some (logs.Store pass id slot ot os nt nb ns))).written (id, n)) (sym w.1) here)
client-writes later r (logs.Begin pass) x k w m = absurd w
client-writes later r (logs.Make pass id) x k w m = absurd w
client-writes later r (logs.Pay pass id ov nv) x k w m = absurd w
client-writes later r (logs.Commit pass) x k w m = absurd w
client-writes later r (logs.Undo pass place fs tb id f to) x k w m = absurd w
client-writes later r (logs.AbortEnd pass) x k w m = absurd w
client-writes later r (logs.Weaken id slot target) x k w m = absurd w
client-writes later r (logs.Strengthen id slot target) x k w m = absurd w
client-writes later r (logs.Flip id) x k w m = absurd w
client-writes later r (logs.CutDead id slot target was_strong) x k w m = absurd w
client-writes later r (logs.Free id) x k w m = absurd w

module _ (slots ids : ℕ) (cells : List Cell) (k : AreConsistent slots ids cells) (r : RedWalk) where
  pub red-recorded : (c : CellRecord) → FitsCells cells c → IsByClient c → (v : RoundView) → IsRedWalk cells r v → IsRedWalk (after_cell_record slots cells c) (with_record (after_cell_record slots cells c) r (Some c)) v
  red-recorded c f b Closed h = (client-stays (after_cell_record slots cells c) r c b).going ∙ h
  red-recorded c f b (Sweeping w s slot g) h = (client-stays (after_cell_record slots cells c) r c b).going ∙ h
  red-recorded c f b (Walking w) h = λ go.
      let later = after_cell_record slots cells c in
      let stays = client-stays later r c b in
      let at = h (sym stays.going ∙ go) in (
        stays.list ∙ at.0,
        λ place n l i s.
            let x = slice_index w.list place in
            ⊎_elim
            (λ (old : IsStrong cells x n). stays.written (x, n) (at.1 place n l i old))
            (λ (wrote : Writes c x n). client-writes later r c x n wrote (subst (λ (xs : List ℕ). Contains xs x) (sym at.0) (place, l, get_or_default w.list place x 0 l)))
            (client-strong slots ids cells k c f b x n s),
      )
