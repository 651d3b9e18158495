-- One undo after another, and where that ends.
use Rattle.std.proofs.Common.{◌≡◌, ℕ, suc, ◌+◌, ◌-◌, ◌*◌, ◌<◌, List, [], ◌∷◌, ◌++◌, refl, sym, ap, ◌∙◌, subst, arith, take, length, Option, Some, None, inl, inr, ◌⊎◌}
use Rattle.std.specs.Prelude.{reverse, unwrap_or, IfSome}
use Rattle.std.specs.List.{last_or}
use Rattle.std.specs.Option.{option_map_or}
use Rattle.std.proofs.lemmas.List.{append-nil, reverse-append, length-append}
use Rattle.std.proofs.lemmas.Grind.{flat_map-append}
use Rattle.cell_model.specs.Cells.{Cell}
use Rattle.cell_model.specs.Records.{Record as StoredRecord, AbortEnd, after_record}
use Rattle.cell_model.specs.Consistent.{AreConsistent}
use Rattle.log_record.specs.declared.cell_record.CellRecord.{CellRecord}
use Rattle.log_record.specs.declared.record.Record.{Record}
use Rattle.log_record.specs.declared.record.Record.TheVariants.{OfCells, Image, Turn}
use Rattle.log_record.specs.Records.{record_of}
use Rattle.log_record.specs.Spelling.{record_bytes, HasSpelling, IsTypedRecord}
use Rattle.log_replay.specs.Replays.{Replaying, FitsReplay}
use Rattle.log_replay.specs.Finishes.{FinishesBy, CanUndoNext, change_to_undo}
use Rattle.opened_images.specs.LogRecords.{body_of, HaveSpellings, FitsLog, unended_by, AllFitLog}
use Rattle.opened_images.specs.Opened.{IsStuckAt, RestartsStuckAt}
use Rattle.restart_laws.specs.Unended.{Change, Unended, without_change, unended_after}
use Rattle.restart_laws.specs.Restored.{undo_of, undo_records, after_records, restored, next_undo, CanBeUndone, CanAllBeUndone, CanRestart}
use Rattle.restart_laws.proofs.EntryLists.{changed-split, remove-split}
use Rattle.restart_laws.proofs.ReopenLaws.{undo-ends, last-push, shorter}
use Rattle.restart_laws.proofs.NextLaws.{next-some}
use Rattle.page_marks.specs.declared.marks.PageMark.{PageMark}
use Rattle.page_marks.proofs.MarkLaws.{one-record, both-marks}
use Rattle.store_opening.specs.Undone.{to_undo, UndoesOne, Finishes, IsUndoing, IsUndone, IsUndoneWithMarks, IsStuck}

-- ---- a list and its last item

record HasLast (xs : List Change) : Type 0 where
  front : List Change
  last : Change
  split : xs ≡ front ++ last ∷ []

ends : (xs : List Change) → (xs ≡ []) ⊎ HasLast xs
ends [] = inl refl
ends (x ∷ xs) = inr (by (ends xs))
  where
    by : (xs ≡ []) ⊎ HasLast xs → HasLast (x ∷ xs)
    by (inl e) = record { front = []; last = x; split = ap (λ r. x ∷ r) e }
    by (inr h) = record { front = x ∷ h.front; last = h.last; split = ap (λ r. x ∷ r) h.split }

some-same : (r s : StoredRecord) → Some r ≡ Some s → r ≡ s
some-same r s e = ap (λ o. unwrap_or o r) e

-- ---- the first transaction, with or without a change

-- It ends: all its changes are undone.
pub record EndsFirst (cells : List Cell) (us : List (ℕ × Unended)) (r : StoredRecord) : Type 0 where
  pub entry : ℕ × Unended
  pub rest : List (ℕ × Unended)
  pub split : us ≡ entry ∷ rest
  pub none : entry.1.changes ≡ []
  pub is : r ≡ AbortEnd entry.0
  pub after : unended_after us r ≡ rest

-- Its last change is undone.
pub record UndoesFirst (cells : List Cell) (us : List (ℕ × Unended)) (r : StoredRecord) : Type 0 where
  pub entry : ℕ × Unended
  pub rest : List (ℕ × Unended)
  pub split : us ≡ entry ∷ rest
  pub front : List Change
  pub last : Change
  pub changes : entry.1.changes ≡ front ++ last ∷ []
  pub is : r ≡ undo_of cells entry.0 last
  pub less : (without_change entry.1).changes ≡ front
  pub after : unended_after us r ≡ (entry.0, without_change entry.1) ∷ rest
  pub next : change_to_undo us ≡ Some last

pub first-of : (cells : List Cell) (us : List (ℕ × Unended)) (r : StoredRecord) → next_undo cells us ≡ Some r → EndsFirst cells us r ⊎ UndoesFirst cells us r
first-of cells [] r e = absurd cc
first-of cells (u ∷ us) r e = by (ends u.1.changes)
  where
    by : (u.1.changes ≡ []) ⊎ HasLast u.1.changes → EndsFirst cells (u ∷ us) r ⊎ UndoesFirst cells (u ∷ us) r
    by (inl none) =
        let is : AbortEnd u.0 ≡ r = some-same (AbortEnd u.0) r (ap (λ cs. Some (option_map_or (undo_of cells u.0) (last_or None cs) (AbortEnd u.0))) (sym none) ∙ e) in
        inl (record { entry = u; rest = us; split = refl; none = none; is = sym is; after = ap (λ q. unended_after (u ∷ us) q) (sym is) ∙ remove-split [] us u.0 u.1 tt })
    by (inr h) =
        let c = h.last in
        let q = undo_of cells u.0 c in
        let found : last_or None u.1.changes ≡ Some c = ap (last_or None) h.split ∙ last-push None h.front c in
        let is : q ≡ r = some-same q r (ap (λ o. Some (option_map_or (undo_of cells u.0) o (AbortEnd u.0))) (sym found) ∙ e) in
        inr (record {
          entry = u;
          rest = us;
          split = refl;
          front = h.front;
          last = c;
          changes = h.split;
          is = sym is;
          less = ap (λ l. take (length l - 1) l) h.split ∙ shorter h.front c;
          after = ap (λ s. unended_after (u ∷ us) s) (sym is) ∙ (undo-ends (u ∷ us) cells u.0 c ∙ changed-split [] us u.0 u.1 without_change tt);
          next = found;
        })

-- ---- one undo

-- less is left to be undone
pub to_undo-less : (cells : List Cell) (us : List (ℕ × Unended)) (r : StoredRecord) → next_undo cells us ≡ Some r → to_undo (unended_after us r) < to_undo us
to_undo-less cells us r e = by (first-of cells us r e)
  where
    by : EndsFirst cells us r ⊎ UndoesFirst cells us r → to_undo (unended_after us r) < to_undo us
    by (inl f) =
        let now : to_undo (unended_after us r) ≡ to_undo f.rest = ap to_undo f.after in
        let was : to_undo us ≡ suc (length f.entry.1.changes) + to_undo f.rest = ap to_undo f.split in
        omega (arith, now, was)
    by (inr f) =
        let now : to_undo (unended_after us r) ≡ suc (length (without_change f.entry.1).changes) + to_undo f.rest = ap to_undo f.after in
        let was : to_undo us ≡ suc (length f.entry.1.changes) + to_undo f.rest = ap to_undo f.split in
        let less = ap (λ (cs : List Change). length cs) f.less in
        let more = ap (λ (cs : List Change). length cs) f.changes ∙ length-append f.front (f.last ∷ []) in
        omega (arith, now, was, less, more)

-- the rest of the first transaction's changes
back-of : (e : ℕ × Unended) (front : List Change) (last : Change) → e.1.changes ≡ front ++ last ∷ [] → reverse e.1.changes ≡ last ∷ reverse front
back-of e front last s = ap reverse s ∙ reverse-append front (last ∷ [])

-- the first transaction, of which these changes are left, can be undone, and so can the others after it
abbrev CanFrom : ℕ → List Cell → ℕ → List Change → List (ℕ × Unended) → Type 0
CanFrom slots cells pass back es = CanAllBeUndone slots cells pass back × CanRestart slots (after_records slots cells (undo_records slots cells pass back)) es

can-none : (slots : ℕ) (cells : List Cell) (pass : ℕ) (back : List Change) (es : List (ℕ × Unended)) → back ≡ [] → CanRestart slots cells es → CanFrom slots cells pass back es
can-none slots cells pass back es b h = subst (λ (cs : List Change). CanFrom slots cells pass cs es) (sym b) (tt, h)

can-one : (slots : ℕ) (cells : List Cell) (pass : ℕ) (back less : List Change) (c : Change) (es : List (ℕ × Unended)) → back ≡ c ∷ less → CanBeUndone cells c → CanFrom slots (after_record slots cells (undo_of cells pass c)) pass less es → CanFrom slots cells pass back es
can-one slots cells pass back less c es b here h = subst (λ (cs : List Change). CanFrom slots cells pass cs es) (sym b) ((here, h.0), h.1)

-- all can be undone where the next change can, and the others can after it
pub can-more : (slots : ℕ) (cells : List Cell) (us : List (ℕ × Unended)) (r : StoredRecord) → next_undo cells us ≡ Some r → IfSome (change_to_undo us) (CanBeUndone cells)
    → CanRestart slots (after_record slots cells r) (unended_after us r) → CanRestart slots cells us
can-more slots cells us r e can rest = by (first-of cells us r e)
  where
    by : EndsFirst cells us r ⊎ UndoesFirst cells us r → CanRestart slots cells us
    by (inl f) =
        let behind : CanRestart slots (after_record slots cells r) f.rest = subst (λ (vs : List (ℕ × Unended)). CanRestart slots (after_record slots cells r) vs) f.after rest in
        let there : CanRestart slots cells f.rest = subst (λ (q : StoredRecord). CanRestart slots (after_record slots cells q) f.rest) f.is behind in
        subst (λ (vs : List (ℕ × Unended)). CanRestart slots cells vs) (sym f.split) (can-none slots cells f.entry.0 (reverse f.entry.1.changes) f.rest (ap reverse f.none) there)
    by (inr f) =
        let q = undo_of cells f.entry.0 f.last in
        let here : CanBeUndone cells f.last = subst (λ (o : Option Change). IfSome o (CanBeUndone cells)) f.next can in
        let behind : CanRestart slots (after_record slots cells r) ((f.entry.0, without_change f.entry.1) ∷ f.rest) = subst (λ (vs : List (ℕ × Unended)). CanRestart slots (after_record slots cells r) vs) f.after rest in
        let there : CanRestart slots (after_record slots cells q) ((f.entry.0, without_change f.entry.1) ∷ f.rest) =
        subst (λ (s : StoredRecord). CanRestart slots (after_record slots cells s) ((f.entry.0, without_change f.entry.1) ∷ f.rest)) f.is behind in
        subst (λ (vs : List (ℕ × Unended)). CanRestart slots cells vs) (sym f.split)
        (can-one slots cells f.entry.0 (reverse f.entry.1.changes) (reverse (without_change f.entry.1).changes) f.last f.rest
        (back-of f.entry f.front f.last f.changes ∙ ap (λ (cs : List Change). f.last ∷ reverse cs) (sym f.less)) here there)

-- the first transaction, of which these changes are left, can't be undone, or the others after it can't
abbrev StuckFrom : ℕ → List Cell → ℕ → List Change → List (ℕ × Unended) → ℕ → Type 0
StuckFrom slots cells pass back es id = IsStuckAt slots cells pass back id ⊎ (CanAllBeUndone slots cells pass back × RestartsStuckAt slots (after_records slots cells (undo_records slots cells pass back)) es id)

stuck-none : (slots : ℕ) (cells : List Cell) (pass : ℕ) (back : List Change) (es : List (ℕ × Unended)) (id : ℕ) → back ≡ [] → RestartsStuckAt slots cells es id → StuckFrom slots cells pass back es id
stuck-none slots cells pass back es id b h = subst (λ (cs : List Change). StuckFrom slots cells pass cs es id) (sym b) (inr (tt, h))

stuck-one : (slots : ℕ) (cells : List Cell) (pass : ℕ) (less : List Change) (c : Change) (es : List (ℕ × Unended)) (id : ℕ) → CanBeUndone cells c → StuckFrom slots (after_record slots cells (undo_of cells pass c)) pass less es id → StuckFrom slots cells pass (c ∷ less) es id
stuck-one slots cells pass less c es id here (inl s) = inl (inr (here, s))
stuck-one slots cells pass less c es id here (inr h) = inr ((here, h.0), h.1)

pub stuck-more : (slots : ℕ) (cells : List Cell) (us : List (ℕ × Unended)) (r : StoredRecord) (id : ℕ) → next_undo cells us ≡ Some r → IfSome (change_to_undo us) (CanBeUndone cells)
    → RestartsStuckAt slots (after_record slots cells r) (unended_after us r) id → RestartsStuckAt slots cells us id
stuck-more slots cells us r id e can rest = by (first-of cells us r e)
  where
    by : EndsFirst cells us r ⊎ UndoesFirst cells us r → RestartsStuckAt slots cells us id
    by (inl f) =
        let behind : RestartsStuckAt slots (after_record slots cells r) f.rest id = subst (λ (vs : List (ℕ × Unended)). RestartsStuckAt slots (after_record slots cells r) vs id) f.after rest in
        let there : RestartsStuckAt slots cells f.rest id = subst (λ (q : StoredRecord). RestartsStuckAt slots (after_record slots cells q) f.rest id) f.is behind in
        subst (λ (vs : List (ℕ × Unended)). RestartsStuckAt slots cells vs id) (sym f.split) (stuck-none slots cells f.entry.0 (reverse f.entry.1.changes) f.rest id (ap reverse f.none) there)
    by (inr f) =
        let q = undo_of cells f.entry.0 f.last in
        let here : CanBeUndone cells f.last = subst (λ (o : Option Change). IfSome o (CanBeUndone cells)) f.next can in
        let behind : RestartsStuckAt slots (after_record slots cells r) ((f.entry.0, without_change f.entry.1) ∷ f.rest) id = subst (λ (vs : List (ℕ × Unended)). RestartsStuckAt slots (after_record slots cells r) vs id) f.after rest in
        let there : RestartsStuckAt slots (after_record slots cells q) ((f.entry.0, without_change f.entry.1) ∷ f.rest) id =
        subst (λ (s : StoredRecord). RestartsStuckAt slots (after_record slots cells s) ((f.entry.0, without_change f.entry.1) ∷ f.rest) id) f.is behind in
        let back = back-of f.entry f.front f.last f.changes ∙ ap (λ (cs : List Change). f.last ∷ reverse cs) (sym f.less) in
        subst (λ (vs : List (ℕ × Unended)). RestartsStuckAt slots cells vs id) (sym f.split)
        (subst (λ (cs : List Change). StuckFrom slots cells f.entry.0 cs f.rest id) (sym back)
        (stuck-one slots cells f.entry.0 (reverse (without_change f.entry.1).changes) f.last f.rest id here there))

-- the next change can't be undone
pub stuck-here : (slots : ℕ) (cells : List Cell) (us : List (ℕ × Unended)) (id : ℕ) (c : Change) → change_to_undo us ≡ Some c → c.id ≡ id → (CanBeUndone cells c → ⊥) → RestartsStuckAt slots cells us id
stuck-here slots cells [] id c e is fails = absurd cc
stuck-here slots cells (u ∷ us) id c e is fails = by (ends u.1.changes)
  where
    same-change : (a b : Change) → Some a ≡ Some b → a ≡ b
    same-change a b q = ap (λ o. unwrap_or o a) q

    by : (u.1.changes ≡ []) ⊎ HasLast u.1.changes → RestartsStuckAt slots cells (u ∷ us) id
    by (inl none) = let found : None ≡ Some c = ap (λ (cs : List Change). last_or None cs) (sym none) ∙ e in absurd cc
    by (inr h) =
        let found : h.last ≡ c = same-change h.last c (sym (ap (last_or None) h.split ∙ last-push None h.front h.last) ∙ e) in
        let back = back-of u h.front h.last h.split in
        subst (λ (cs : List Change). StuckFrom slots cells u.0 cs us id) (sym back) (inl (inl (subst (λ (d : Change). CanBeUndone cells d → ⊥) (sym found) fails, sym is ∙ ap (λ (d : Change). d.id) (sym found))))

-- the cells that it all leads to
pub restored-more : (slots : ℕ) (cells : List Cell) (us : List (ℕ × Unended)) (r : StoredRecord) → next_undo cells us ≡ Some r → restored slots cells us ≡ restored slots (after_record slots cells r) (unended_after us r)
restored-more slots cells us r e = ap (λ (rs : List StoredRecord). after_records slots cells rs) (next-some slots cells us r e)

-- ---- what one undo is

pub record Step {slots : ℕ} (v : Replaying) (r : Record slots) (w : Replaying) : Type 0 where
  pub cell : CellRecord
  pub is : r ≡ OfCells cell
  pub next : next_undo v.cells v.unended ≡ Some (record_of cell)
  pub can : CanUndoNext v
  pub spelled : HasSpelling r
  pub fits : FitsReplay {slots = slots} v (OfCells cell)
  pub cells : w.cells ≡ after_record slots v.cells (record_of cell)
  pub unended : w.unended ≡ unended_after v.unended (record_of cell)
  pub skips : w.skips ≡ v.skips

pub step-of : {slots : ℕ} (v w : Replaying) (r : Record slots) → FinishesBy {slots = slots} v (Some r) w → Step v r w
step-of v w (OfCells r) f = record {
  cell = r;
  is = refl;
  next = f.0;
  can = f.1;
  spelled = f.2;
  fits = f.3;
  cells = f.5;
  unended = ap (λ (u : Replaying). u.unended) f.4;
  skips = ap (λ (u : Replaying). u.skips) f.4;
}
step-of v w (Image page cells) f = absurd f
step-of v w (Turn version pages) f = absurd f

pub step-less : {slots : ℕ} (v w : Replaying) (r : Record slots) → FinishesBy {slots = slots} v (Some r) w → to_undo w.unended < to_undo v.unended
step-less v w r f =
    let s = step-of v w r f in
    let less = to_undo-less v.cells v.unended (record_of s.cell) s.next in
    subst (λ (us : List (ℕ × Unended)). to_undo us < to_undo v.unended) (sym s.unended) less

-- ---- one after another

pub finishes-more : {slots : ℕ} (v u w : Replaying) (rs : List (Record slots)) (r : Record slots) → Finishes v rs u → AreConsistent slots (8 * length u.skips) u.cells → FinishesBy {slots = slots} u (Some r) w → IsTypedRecord r → Finishes v (rs ++ r ∷ []) w
finishes-more {slots} v u w [] r e k f t =
    (w, subst (λ (x : Replaying). AreConsistent slots (8 * length x.skips) x.cells) e k, subst (λ (x : Replaying). FinishesBy {slots = slots} x (Some r) w) e f, t, refl)
finishes-more v u w (s ∷ ss) r h k f t = (h.0, h.1, h.2, h.3, finishes-more h.0 u w ss r h.4 k f t)

pub body-more : {slots : ℕ} (rs : List (Record slots)) (r : Record slots) → body_of (rs ++ r ∷ []) ≡ body_of rs ++ record_bytes r
body-more rs r = flat_map-append record_bytes rs (r ∷ []) ∙ ap (λ (bs : List ℕ). body_of rs ++ bs) (append-nil (record_bytes r))

pub undoing-more : (slots : ℕ) (v u w : Replaying) (bytes new_bytes : List ℕ) (before mid now : List PageMark) → IsUndoing slots v bytes u before mid → AreConsistent slots (8 * length u.skips) u.cells
    → UndoesOne slots u bytes mid w new_bytes now → IsUndoing slots v new_bytes w before now
undoing-more slots v u w bytes new_bytes before mid now i k o = record {
  records = i.records ++ o.r ∷ [];
  finishes = finishes-more v u w i.records o.r i.finishes k o.finishes o.typed;
  are = o.appended ∙ (ap (λ (bs : List ℕ). bs ++ record_bytes o.r) i.are ∙ sym (body-more i.records o.r));
  marked = both-marks i.records (o.r ∷ []) before mid now i.marked (one-record o.r mid now o.marked);
}

pub all-stuck : {slots : ℕ} (v w : Replaying) (rs : List (Record slots)) (id : ℕ) → Finishes v rs w → RestartsStuckAt slots w.cells w.unended id → RestartsStuckAt slots v.cells v.unended id
all-stuck {slots} v w [] id e h = subst (λ (x : Replaying). RestartsStuckAt slots x.cells x.unended id) e h
all-stuck {slots} v w (r ∷ rs) id f h =
    let u = f.0 in
    let s = step-of v u r f.2 in
    let later : RestartsStuckAt slots u.cells u.unended id = all-stuck u w rs id f.4 h in
    let there = subst (λ (us : List (ℕ × Unended)). RestartsStuckAt slots (after_record slots v.cells (record_of s.cell)) us id) s.unended (subst (λ (cs : List Cell). RestartsStuckAt slots cs u.unended id) s.cells later) in
    stuck-more slots v.cells v.unended (record_of s.cell) id s.next s.can there

pub all-can : {slots : ℕ} (v w : Replaying) (rs : List (Record slots)) → Finishes v rs w → CanRestart slots w.cells w.unended → CanRestart slots v.cells v.unended
all-can {slots} v w [] e h = subst (λ (x : Replaying). CanRestart slots x.cells x.unended) e h
all-can {slots} v w (r ∷ rs) f h =
    let u = f.0 in
    let s = step-of v u r f.2 in
    let later : CanRestart slots u.cells u.unended = all-can u w rs f.4 h in
    let there = subst (λ (us : List (ℕ × Unended)). CanRestart slots (after_record slots v.cells (record_of s.cell)) us) s.unended (subst (λ (cs : List Cell). CanRestart slots cs u.unended) s.cells later) in
    can-more slots v.cells v.unended (record_of s.cell) s.next s.can there

pub all-restored : {slots : ℕ} (v w : Replaying) (rs : List (Record slots)) → Finishes v rs w → restored slots w.cells w.unended ≡ restored slots v.cells v.unended
all-restored {slots} v w [] e = ap (λ (x : Replaying). restored slots x.cells x.unended) e
all-restored {slots} v w (r ∷ rs) f =
    let u = f.0 in
    let s = step-of v u r f.2 in
    all-restored u w rs f.4
    ∙ (ap (λ (cs : List Cell). restored slots cs u.unended) s.cells ∙ (ap (λ (us : List (ℕ × Unended)). restored slots (after_record slots v.cells (record_of s.cell)) us) s.unended ∙ sym (restored-more slots v.cells v.unended (record_of s.cell) s.next)))

pub all-skips : {slots : ℕ} (v w : Replaying) (rs : List (Record slots)) → Finishes v rs w → w.skips ≡ v.skips
all-skips v w [] e = ap (λ (x : Replaying). x.skips) e
all-skips v w (r ∷ rs) f = all-skips f.0 w rs f.4 ∙ (step-of v f.0 r f.2).skips

pub all-spelled : {slots : ℕ} (v w : Replaying) (rs : List (Record slots)) → Finishes v rs w → HaveSpellings rs
all-spelled v w [] e = tt
all-spelled v w (r ∷ rs) f = ((step-of v f.0 r f.2).spelled, f.3, all-spelled f.0 w rs f.4)

pub all-fit : {slots : ℕ} (v w : Replaying) (rs : List (Record slots)) (pages : ℕ) → pages ≡ length v.skips → Finishes v rs w → AllFitLog pages v.unended rs
all-fit v w [] pages p e = tt
all-fit {slots} v w (r ∷ rs) pages p f =
    let u = f.0 in
    let s = step-of v u r f.2 in
    let here : FitsLog {slots = slots} (length v.skips) v.unended (OfCells s.cell) = (s.fits.0, s.fits.1) in
    let there : AllFitLog pages u.unended rs = all-fit u w rs pages (p ∙ ap (λ (xs : List ℕ). length xs) (sym s.skips)) f.4 in (
      subst (λ (n : ℕ). FitsLog n v.unended r) (sym p) (subst (λ (q : Record slots). FitsLog (length v.skips) v.unended q) (sym s.is) here),
      subst (λ (us : List (ℕ × Unended)). AllFitLog pages us rs) (s.unended ∙ ap (λ (q : Record slots). unended_by v.unended q) (sym s.is)) there,
    )

-- nothing is left
pub all-undone : (slots : ℕ) (v w u : Replaying) (bytes new_bytes : List ℕ) (before mid now : List PageMark) → IsUndoing slots v bytes w before mid → AreConsistent slots (8 * length w.skips) w.cells
    → w.unended ≡ [] → u ≡ w → new_bytes ≡ bytes → now ≡ mid → IsUndoneWithMarks slots v new_bytes u before now
all-undone slots v w u bytes new_bytes before mid now i k none same same_bytes same_marks =
    subst (λ (ms : List PageMark). IsUndoneWithMarks slots v new_bytes u before ms) (sym same_marks)
    (subst (λ (bs : List ℕ). IsUndoneWithMarks slots v bs u before mid) (sym same_bytes)
    (subst (λ (x : Replaying). IsUndoneWithMarks slots v bytes x before mid) (sym same) (done, i.marked)))
  where
    done : IsUndone slots v bytes w
    done = record {
      records = i.records;
      finishes = i.finishes;
      are = i.are;
      spelled = all-spelled v w i.records i.finishes;
      fit = all-fit v w i.records (length v.skips) refl i.finishes;
      can = all-can v w i.records i.finishes (subst (λ (us : List (ℕ × Unended)). CanRestart slots w.cells us) (sym none) tt);
      cells = ap (λ (us : List (ℕ × Unended)). restored slots w.cells us) (sym none) ∙ all-restored v w i.records i.finishes;
      none = none;
      skips = all-skips v w i.records i.finishes;
      consistent = k;
    }

pub undoing-stuck : (slots : ℕ) (v w : Replaying) (bytes : List ℕ) (before now : List PageMark) (id : ℕ) → IsUndoing slots v bytes w before now → IsStuck w id → RestartsStuckAt slots v.cells v.unended id
undoing-stuck slots v w bytes before now id i s = all-stuck v w i.records id i.finishes (stuck-here slots w.cells w.unended id s.0 s.1 s.2 s.3)

pub step-skips : {slots : ℕ} (v w : Replaying) (r : Record slots) → FinishesBy {slots = slots} v (Some r) w → w.skips ≡ v.skips
step-skips v w r f = (step-of v w r f).skips
