-- What the calls of a disk in memory do to what it reads and to what a power loss may leave.
use Rattle.std.proofs.Common.{◌≡◌, ◌≢◌, ◌≤◌, ◌<◌, ℕ, ◌+◌, ◌-◌, List, [], ◌∷◌, ◌++◌, Bool, true, false, cond, refl, sym, ◌∙◌, ap, subst, arith, inl, inr, ⊎_elim, max, length, take, drop, replicate, length-append, length-take, length-drop, Some}
use Rattle.std.specs.Prelude.{slice_index, not}
use Rattle.std.proofs.lemmas.List.{length-replicate, get_or-append_right, get_or-take, get_or-drop}
use Rattle.std.proofs.Math.ListN.{get_or-append}
use Rattle.disk_model.specs.declared.area.Area.{Area}
use Rattle.disk_model.specs.Areas.{Bytes, in_area, with_area, is_same}
use Rattle.disk_model.specs.Changes.{written, Torn, PartlyCut}
use Rattle.disk_model.specs.Pending.{Step, Change, Wrote, CutTo, changed, after_step, replayed, elsewhere, picked, Held, reads, after_change, after_sync, after_power_loss, settled, AreLeft, IsTornChange, MayLeaveIn}
use Rattle.disk_model.specs.Memory.{DiskState, content_of, left_of}
use Rattle.disk_model.specs.Told.{KeepsAll, KeepsOthers, Follows, IsSettled, LeavesOne}
use Rattle.disk_model.specs.Stays.{reads_left, all_left}
use Rattle.disk_model.proofs.Areas.{in_put, in_apart, same_is, is_same_sym}
use Rattle.disk_model.proofs.Steps.{replayed-append, same_after_sync}
use Rattle.disk_model.proofs.Left.{LeftWith, as_before, whole, partly, left_with, picked_left}

-- ---- nothing held changed
pub keeps_all : (s t : DiskState) → t.held ≡ s.held → KeepsAll content_of left_of s t
keeps_all s t e area = record { same = ap (λ h. Some (reads h area)) e; no_more = λ c h. let P : Held → Type 0 = λ k. MayLeaveIn k area c in subst P e h }

-- ---- a write and a cut, whole or in part
pub front_length : (at : ℕ) (bytes old : List ℕ) → at ≤ length old → length (take at old ++ replicate (at - length old) 0 ++ bytes) ≡ at + length bytes
front_length at bytes old h =
    length-append (take at old ++ replicate (at - length old) 0) bytes
    ∙ omega (arith, length-append (take at old) (replicate (at - length old) 0), length-take at old, length-replicate {A = ℕ} (at - length old) 0)

pub written_length : (at : ℕ) (bytes old : List ℕ) → length (written at bytes old) ≡ max (length old) (at + length bytes)
written_length at bytes old =
    length-append (take at old ++ replicate (at - length old) 0 ++ bytes) (drop (at + length bytes) old)
    ∙ omega (
      arith,
      length-append (take at old ++ replicate (at - length old) 0) bytes,
      length-append (take at old) (replicate (at - length old) 0),
      length-take at old,
      length-replicate {A = ℕ} (at - length old) 0,
      length-drop (at + length bytes) old,
    )

written_below : (at : ℕ) (bytes old : List ℕ) (i : ℕ) → i < length old → i < at → slice_index (written at bytes old) i ≡ slice_index old i
written_below at bytes old i inside below =
    let long : i < length (take at old) = omega (arith, length-take at old) in
    let long2 : i < length (take at old ++ replicate (at - length old) 0) = omega (arith, long, length-append (take at old) (replicate (at - length old) 0)) in
    let long3 : i < length (take at old ++ replicate (at - length old) 0 ++ bytes) = omega (arith, long2, length-append (take at old ++ replicate (at - length old) 0) bytes) in
    get_or-append (take at old ++ replicate (at - length old) 0 ++ bytes) (drop (at + length bytes) old) 0 i long3
    ∙ (get_or-append (take at old ++ replicate (at - length old) 0) bytes 0 i long2
    ∙ (get_or-append (take at old) (replicate (at - length old) 0) 0 i long ∙ get_or-take at old i 0 below))

written_above : (at : ℕ) (bytes old : List ℕ) (i : ℕ) → i < length old → at + length bytes ≤ i → slice_index (written at bytes old) i ≡ slice_index old i
written_above at bytes old i inside above =
    let front = front_length at bytes old (omega arith) in
    let e : at + length bytes + (i - (at + length bytes)) ≡ i = omega arith in
    get_or-append_right (take at old ++ replicate (at - length old) 0 ++ bytes) (drop (at + length bytes) old) (at + length bytes) i 0 front above
    ∙ (get_or-drop (at + length bytes) old (i - (at + length bytes)) 0 ∙ ap (λ k. slice_index old k) e)

pub torn_written : (at : ℕ) (bytes old : List ℕ) → Torn at (length bytes) old (written at bytes old)
torn_written at bytes old =
    record {
      no_shorter = omega (arith, written_length at bytes old);
      no_longer = omega (arith, written_length at bytes old);
      below = written_below at bytes old;
      above = written_above at bytes old;
    }

pub torn_not : (at n : ℕ) (old : List ℕ) → Torn at n old old
torn_not at n old = record { no_shorter = omega arith; no_longer = omega arith; below = λ i a b. refl; above = λ i a b. refl }

pub cut_whole : (len : ℕ) (old : List ℕ) → PartlyCut len old (take len old)
cut_whole len old =
    record {
      no_shorter = omega (arith, length-take len old);
      no_longer = omega (arith, length-take len old);
      same = λ i h. get_or-take len old i 0 (omega (arith, h, length-take len old));
    }

pub cut_not : (len : ℕ) (old : List ℕ) → PartlyCut len old old
cut_not len old = record { no_shorter = omega arith; no_longer = omega arith; same = λ i a. refl }

-- ---- one change more
-- what an area holds after all that is pending and these steps
after_more : (h : Held) (more : List Step) (area : Area) → in_area (replayed h.synced (h.pending ++ more)) area ≡ in_area (replayed (replayed h.synced h.pending) more) area
after_more h more area = ap (λ b. in_area b area) (replayed-append h.synced h.pending more)

after_one : (h : Held) (area : Area) (change : Change) → in_area (replayed h.synced (h.pending ++ record { area = area; change = change } ∷ [])) area ≡ changed change (reads h area)
after_one h area change =
    after_more h (record { area = area; change = change } ∷ []) area
    ∙ in_put (replayed h.synced h.pending) area (changed change (reads h area))

after_one_apart : (h : Held) (area other : Area) (change : Change) → is_same other area ≡ false → in_area (replayed h.synced (h.pending ++ record { area = area; change = change } ∷ [])) other ≡ reads h other
after_one_apart h area other change ne =
    after_more h (record { area = area; change = change } ∷ []) other
    ∙ in_apart (replayed h.synced h.pending) area other (changed change (reads h area)) ne

still : (h : Held) (area : Area) (left : List Step) (c : List ℕ) → AreLeft h.pending left → c ≡ in_area (replayed h.synced left) area → MayLeaveIn h area c
still h area left c a e = record { all = replayed h.synced left; may = record { left = left; are_left = a; are = refl }; there = e }

change_left : (step : List ℕ → List ℕ → Type 0) (h : Held) (area : Area) (change : Change)
    → ((c : List ℕ) → step c c)
    → step (reads h area) (changed change (reads h area))
    → ((torn : List Step) (c : List ℕ) → IsTornChange area change torn
    → c ≡ in_area (replayed (replayed h.synced h.pending) torn) area → step (reads h area) c)
    → (c : List ℕ) → MayLeaveIn (after_change h area change) area c
    → (d : List ℕ) × MayLeaveIn h area d × step d c
change_left step h area change same all partial c m =
    by (left_with h.pending (record { area = area; change = change }) m.may.left m.may.are_left)
    (m.there ∙ ap (λ b. in_area b area) m.may.are) where
      by : {left : List Step} → LeftWith h.pending (record { area = area; change = change }) left
          → c ≡ in_area (replayed h.synced left) area
          → (d : List ℕ) × MayLeaveIn h area d × step d c
      by {left = left} (as_before a) e = (c, still h area left c a e, same c)
      by (whole w) e =
          let P : List ℕ → Type 0 = step (reads h area) in
          (reads h area, reads_left h area, subst P (sym (e ∙ (ap (λ l. in_area (replayed h.synced l) area) w ∙ after_one h area change))) all)
      by (partly torn t w) e =
          (reads h area, reads_left h area, partial torn c t (e ∙ (ap (λ l. in_area (replayed h.synced l) area) w ∙ after_more h torn area)))

torn_write : (h : Held) (area : Area) (at : ℕ) (bytes : List ℕ) (torn : List Step) (c : List ℕ)
    → IsTornChange area (Wrote at bytes) torn
    → c ≡ in_area (replayed (replayed h.synced h.pending) torn) area → Torn at (length bytes) (reads h area) c
torn_write h area at bytes torn c (any, long, is) e =
    let now : c ≡ written at any (reads h area) =
    e ∙ (ap (λ l. in_area (replayed (replayed h.synced h.pending) l) area) is ∙ in_put (replayed h.synced h.pending) area (written at any (reads h area))) in
    let P : ℕ → Type 0 = λ n. Torn at n (reads h area) c in
    let Q : List ℕ → Type 0 = λ x. Torn at (length any) (reads h area) x in
    subst P long (subst Q (sym now) (torn_written at any (reads h area)))

write_left : (h : Held) (area : Area) (at : ℕ) (bytes c : List ℕ) → MayLeaveIn (after_change h area (Wrote at bytes)) area c
    → (d : List ℕ) × MayLeaveIn h area d × Torn at (length bytes) d c
write_left h area at bytes c m =
    change_left (Torn at (length bytes)) h area (Wrote at bytes) (torn_not at (length bytes)) (torn_written at bytes (reads h area))
    (torn_write h area at bytes) c m

cut_left : (h : Held) (area : Area) (len : ℕ) (c : List ℕ) → MayLeaveIn (after_change h area (CutTo len)) area c
    → (d : List ℕ) × MayLeaveIn h area d × PartlyCut len d c
cut_left h area len c m =
    change_left (PartlyCut len) h area (CutTo len) (cut_not len) (cut_whole len (reads h area)) (λ torn c' t e. absurd t) c m

-- ---- the other areas
pub apart_false : (a c : Area) → a ≢ c → is_same a c ≡ false
apart_false a c ne = by (is_same a c) refl where
  by : (t : Bool) → is_same a c ≡ t → is_same a c ≡ false
  by true e = absurd (ne (same_is a c e))
  by false e = e

torn_elsewhere : (b : Bytes) (area other : Area) (change : Change) (torn : List Step) → is_same other area ≡ false → IsTornChange area change torn
    → in_area (replayed b torn) other ≡ in_area b other
torn_elsewhere b area other (Wrote at bytes) torn ne (any, long, is) =
    ap (λ l. in_area (replayed b l) other) is ∙ in_apart b area other (written at any (in_area b area)) ne
torn_elsewhere b area other (CutTo len) torn ne t = absurd t

change_elsewhere : (h : Held) (area other : Area) (change : Change) (c : List ℕ) → is_same other area ≡ false
    → MayLeaveIn (after_change h area change) other c → MayLeaveIn h other c
change_elsewhere h area other change c ne m =
    by (left_with h.pending (record { area = area; change = change }) m.may.left m.may.are_left)
    (m.there ∙ ap (λ b. in_area b other) m.may.are) where
      by : {left : List Step} → LeftWith h.pending (record { area = area; change = change }) left
          → c ≡ in_area (replayed h.synced left) other → MayLeaveIn h other c
      by {left = left} (as_before a) e = still h other left c a e
      by (whole w) e =
          still h other h.pending c (all_left h.pending)
          (e ∙ (ap (λ l. in_area (replayed h.synced l) other) w ∙ after_one_apart h area other change ne))
      by (partly torn t w) e =
          still h other h.pending c (all_left h.pending)
          (e ∙ (ap (λ l. in_area (replayed h.synced l) other) w
          ∙ (after_more h torn other ∙ torn_elsewhere (replayed h.synced h.pending) area other change torn ne t)))

-- ---- a sync
-- what is left of the other areas' steps doesn't touch this area
untouched : (b : Bytes) (area : Area) (steps left : List Step) → AreLeft (elsewhere area steps) left → in_area (replayed b left) area ≡ in_area b area
untouched b area [] left e = ap (λ l. in_area (replayed b l) area) e
untouched b area (step ∷ later) left a =
    by (is_same step.area area) refl (λ b' l. untouched b' area later l) a where
      area_of : (t : Bool) → is_same step.area area ≡ t → is_same area step.area ≡ t
      area_of t e = is_same_sym step.area area ∙ e

      by : (t : Bool) → is_same step.area area ≡ t
          → ((b' : Bytes) (l : List Step) → AreLeft (elsewhere area later) l → in_area (replayed b' l) area ≡ in_area b' area)
          → AreLeft (elsewhere area (step ∷ later)) left → in_area (replayed b left) area ≡ in_area b area
      by true e rest x =
          let P : Bool → Type 0 = λ t. AreLeft (cond (not t) (step ∷ elsewhere area later) (elsewhere area later)) left in
          rest b left (subst P e x)
      by false e rest x =
          let P : Bool → Type 0 = λ t. AreLeft (cond (not t) (step ∷ elsewhere area later) (elsewhere area later)) left in
          ⊎_elim (λ none. ap (λ l. in_area (replayed b l) area) none)
          (⊎_elim (λ t. torn_elsewhere b step.area area step.change left (area_of false e) t)
          (λ (more, is, deeper).
          ap (λ l. in_area (replayed b l) area) is
          ∙ (rest (after_step b step) more deeper ∙ in_apart b step.area area (changed step.change (in_area b step.area)) (area_of false e))))
          (subst P e x)

sync_left : (h : Held) (area : Area) (c : List ℕ) → MayLeaveIn (after_sync h area) area c → c ≡ reads h area
sync_left h area c m =
    m.there ∙ (ap (λ b. in_area b area) m.may.are
    ∙ (untouched (with_area h.synced area (reads h area)) area h.pending m.may.left m.may.are_left ∙ in_put h.synced area (reads h area)))

-- the same steps give this area the same bytes, from the same bytes
step_in : (b b' : Bytes) (step : Step) (o : Area) → in_area b o ≡ in_area b' o → in_area (after_step b step) o ≡ in_area (after_step b' step) o
step_in b b' step o e = by (is_same o step.area) refl where
  by : (t : Bool) → is_same o step.area ≡ t → in_area (after_step b step) o ≡ in_area (after_step b' step) o
  by true s =
      let P : Area → Type 0 = λ a. in_area (with_area b a (changed step.change (in_area b a))) o ≡ in_area (with_area b' a (changed step.change (in_area b' a))) o in
      subst P (same_is o step.area s)
      (in_put b o (changed step.change (in_area b o)) ∙ (ap (λ x. changed step.change x) e ∙ sym (in_put b' o (changed step.change (in_area b' o)))))
  by false s =
      in_apart b step.area o (changed step.change (in_area b step.area)) s
      ∙ (e ∙ sym (in_apart b' step.area o (changed step.change (in_area b' step.area)) s))

replayed_in : (steps : List Step) (b b' : Bytes) (o : Area) → in_area b o ≡ in_area b' o → in_area (replayed b steps) o ≡ in_area (replayed b' steps) o
replayed_in [] b b' o e = e
replayed_in (step ∷ later) b b' o e = replayed_in later (after_step b step) (after_step b' step) o (step_in b b' step o e)

-- what is left of the other areas' steps, with the steps of this area put back
pub record PutBack (o : Area) (steps left : List Step) : Type 0 where
  pub back : List Step
  pub are_left : AreLeft steps back
  pub agree : (b b' : Bytes) → in_area b o ≡ in_area b' o → in_area (replayed b left) o ≡ in_area (replayed b' back) o

put_step_back : (o : Area) (step : Step) (later left : List Step) → is_same o step.area ≡ false → PutBack o later left → PutBack o (step ∷ later) left
put_step_back o step later left ne p =
    record {
      back = step ∷ p.back;
      are_left = inr (inr (p.back, refl, p.are_left));
      agree = λ b b' e. p.agree b (after_step b' step) (e ∙ sym (in_apart b' step.area o (changed step.change (in_area b' step.area)) ne));
    }

put_back : (area o : Area) (steps left : List Step) → is_same o area ≡ false → AreLeft (elsewhere area steps) left → PutBack o steps left
put_back area o [] left ne e = record { back = []; are_left = refl; agree = λ b b' s. ap (λ l. in_area (replayed b l) o) e ∙ s }
put_back area o (step ∷ later) left ne a =
    by (is_same step.area area) refl (λ l x. put_back area o later l ne x) a where
      by : (t : Bool) → is_same step.area area ≡ t
          → ((l : List Step) → AreLeft (elsewhere area later) l → PutBack o later l)
          → AreLeft (elsewhere area (step ∷ later)) left → PutBack o (step ∷ later) left
      by true e rest x =
          let P : Bool → Type 0 = λ t. AreLeft (cond (not t) (step ∷ elsewhere area later) (elsewhere area later)) left in
          let Q : Area → Type 0 = λ s. is_same o s ≡ false in
          put_step_back o step later left (subst Q (sym (same_is step.area area e)) ne) (rest left (subst P e x))
      by false e rest x =
          let P : Bool → Type 0 = λ t. AreLeft (cond (not t) (step ∷ elsewhere area later) (elsewhere area later)) left in
          ⊎_elim (λ none. record { back = []; are_left = inl refl; agree = λ b b' s. ap (λ l. in_area (replayed b l) o) none ∙ s })
          (⊎_elim (λ t. record { back = left; are_left = inr (inl t); agree = λ b b' s. replayed_in left b b' o s })
          (λ (more, is, deeper).
          let p = rest more deeper in
          record {
            back = step ∷ p.back;
            are_left = inr (inr (p.back, refl, p.are_left));
            agree = λ b b' s. ap (λ l. in_area (replayed b l) o) is ∙ p.agree (after_step b step) (after_step b' step) (step_in b b' step o s);
          }))
          (subst P e x)

sync_elsewhere : (h : Held) (area o : Area) (c : List ℕ) → is_same o area ≡ false → MayLeaveIn (after_sync h area) o c → MayLeaveIn h o c
sync_elsewhere h area o c ne m =
    let p = put_back area o h.pending m.may.left ne m.may.are_left in
    still h o p.back c p.are_left
    (m.there ∙ (ap (λ b. in_area b o) m.may.are
    ∙ p.agree (with_area h.synced area (reads h area)) h.synced (in_apart h.synced area o (reads h area) ne)))

sync_no_more : (h : Held) (area o : Area) (c : List ℕ) → MayLeaveIn (after_sync h area) o c → MayLeaveIn h o c
sync_no_more h area o c m = by (is_same o area) refl where
  by : (t : Bool) → is_same o area ≡ t → MayLeaveIn h o c
  by true e =
      let P : Area → Type 0 = λ a. MayLeaveIn (after_sync h a) o c in
      let Q : List ℕ → Type 0 = λ x. MayLeaveIn h o x in
      subst Q (sym (sync_left h o c (subst P (sym (same_is o area e)) m))) (reads_left h o)
  by false e = sync_elsewhere h area o c e m

-- what is read stays
sync_reads : (h : Held) (area o : Area) → reads (after_sync h area) o ≡ reads h o
sync_reads h area o =
    ap (λ b. in_area b o) (sym (same_after_sync h.synced (replayed h.synced h.pending) area h.pending refl))

-- ---- a power loss
settled_left : (b : Bytes) (area : Area) (c : List ℕ) → MayLeaveIn (settled b) area c → c ≡ in_area b area
settled_left b area c m =
    m.there ∙ (ap (λ x. in_area x area) m.may.are ∙ ap (λ l. in_area (replayed b l) area) m.may.are_left)

power_left : (h : Held) (pick : ℕ) (area : Area) → MayLeaveIn h area (reads (after_power_loss h pick) area)
power_left h pick area = still h area (picked pick h.pending) (reads (after_power_loss h pick) area) (picked_left pick h.pending) refl

-- ---- the same for the disk, by what it holds afterwards
pub write_bytes : (s t : DiskState) (area : Area) (at : ℕ) (bytes : List ℕ) → t.held ≡ after_change s.held area (Wrote at bytes) → content_of t area ≡ Some (written at bytes (reads s.held area))
write_bytes s t area at bytes e = ap (λ h. Some (reads h area)) e ∙ ap (λ x. Some x) (after_one s.held area (Wrote at bytes))

pub cut_bytes : (s t : DiskState) (area : Area) (len : ℕ) → t.held ≡ after_change s.held area (CutTo len) → content_of t area ≡ Some (take len (reads s.held area))
cut_bytes s t area len e = ap (λ h. Some (reads h area)) e ∙ ap (λ x. Some x) (after_one s.held area (CutTo len))

pub write_follows : (s t : DiskState) (area : Area) (at : ℕ) (bytes : List ℕ) → t.held ≡ after_change s.held area (Wrote at bytes) → Follows content_of left_of (Torn at (length bytes)) s t area
write_follows s t area at bytes e c m = let P : Held → Type 0 = λ h. MayLeaveIn h area c in write_left s.held area at bytes c (subst P e m)

pub cut_follows : (s t : DiskState) (area : Area) (len : ℕ) → t.held ≡ after_change s.held area (CutTo len) → Follows content_of left_of (PartlyCut len) s t area
cut_follows s t area len e c m = let P : Held → Type 0 = λ h. MayLeaveIn h area c in cut_left s.held area len c (subst P e m)

pub write_not : (s t : DiskState) (area : Area) (at n : ℕ) → t.held ≡ s.held → Follows content_of left_of (Torn at n) s t area
write_not s t area at n e c m = let P : Held → Type 0 = λ h. MayLeaveIn h area c in (c, subst P e m, torn_not at n c)

pub cut_not_done : (s t : DiskState) (area : Area) (len : ℕ) → t.held ≡ s.held → Follows content_of left_of (PartlyCut len) s t area
cut_not_done s t area len e c m = let P : Held → Type 0 = λ h. MayLeaveIn h area c in (c, subst P e m, cut_not len c)

pub change_keeps : (s t : DiskState) (area : Area) (change : Change) → t.held ≡ after_change s.held area change → KeepsOthers content_of left_of s t area
change_keeps s t area change e other ne =
    let apart = apart_false other area ne in
    record {
      same = ap (λ h. Some (reads h other)) e ∙ ap (λ x. Some x) (after_one_apart s.held area other change apart);
      no_more = λ c m. let P : Held → Type 0 = λ h. MayLeaveIn h other c in change_elsewhere s.held area other change c apart (subst P e m);
    }

pub sync_lasts : (s t : DiskState) (area : Area) → t.held ≡ after_sync s.held area → IsSettled content_of left_of t area
sync_lasts s t area e c m =
    let P : Held → Type 0 = λ h. MayLeaveIn h area c in
    ap (λ h. Some (reads h area)) e ∙ ap (λ x. Some x) (sync_reads s.held area area ∙ sym (sync_left s.held area c (subst P e m)))

pub sync_keeps : (s t : DiskState) (area : Area) → t.held ≡ after_sync s.held area → KeepsAll content_of left_of s t
sync_keeps s t area e other =
    record {
      same = ap (λ h. Some (reads h other)) e ∙ ap (λ x. Some x) (sync_reads s.held area other);
      no_more = λ c m. let P : Held → Type 0 = λ h. MayLeaveIn h other c in sync_no_more s.held area other c (subst P e m);
    }

pub power_leaves : (s t : DiskState) (pick : ℕ) → t.held ≡ after_power_loss s.held pick → LeavesOne content_of left_of s t
power_leaves s t pick e area = (
  reads (after_power_loss s.held pick) area,
  ap (λ h. Some (reads h area)) e,
  power_left s.held pick area,
  λ d m. let P : Held → Type 0 = λ h. MayLeaveIn h area d in settled_left (replayed s.held.synced (picked pick s.held.pending)) area d (subst P e m),
)
