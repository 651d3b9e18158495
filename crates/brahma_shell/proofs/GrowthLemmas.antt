-- A journal grows by one note after another.
use Rattle.std.proofs.Common.{◌≡◌, List, [], ◌∷◌, ◌++◌, append_assoc, refl, sym, ap, subst, ◌∙◌}
use Rattle.std.proofs.lemmas.List.{append-nil, map-append}
use Rattle.std.proofs.lemmas.List.Sums.{fold_push}
use Rattle.plain_model.specs.declared.calls.Entry.{Entry}
use Rattle.plain_model.specs.History.{History, start_of, end_of, next, moment_after, with_entry}
use Rattle.cell_model.specs.Cells.{Cell}
use Rattle.core_store.specs.declared.note.Note.{Note}
use Rattle.core_store.specs.JournalView.{JournalView}
use Rattle.brahma_shell.specs.Points.{Point, after_notes, start_with, start_point, point_of, entries_in}
use Rattle.brahma_shell.specs.Growth.{IsSameStart, Grows, GrowsBy}
use Rattle.brahma_shell.proofs.PointLemmas.{after_notes-append}

pub entries_in-append : (xs ys : List Note) → entries_in (xs ++ ys) ≡ entries_in xs ++ entries_in ys
entries_in-append xs ys = map-append (λ n. n.entry) xs ys

-- ---- nothing more, and more and more

pub Grows-none : (j : JournalView) → Grows j j []
Grows-none j = record {
  notes = sym (append-nil j.notes);
  history = ap (λ (es : List Entry). let r : History = record j.history { entries = es } in r) (sym (append-nil j.history.entries));
  opening = refl;
  limits = refl;
}

pub GrowsBy-none : (j : JournalView) → GrowsBy j j []
GrowsBy-none j = record { more = []; entries = refl; grows = Grows-none j; unmarked = refl }

pub Grows-trans : (a b c : JournalView) (xs ys : List Note) → Grows a b xs → Grows b c ys → Grows a c (xs ++ ys)
Grows-trans a b c xs ys g h = record {
  notes = h.notes ∙ ap (λ (ns : List Note). ns ++ ys) g.notes ∙ append_assoc a.notes xs ys;
  history =
      let entries : a.history.entries ++ entries_in xs ++ entries_in ys ≡ a.history.entries ++ entries_in (xs ++ ys) = append_assoc a.history.entries (entries_in xs) (entries_in ys) ∙ ap (λ (es : List Entry). a.history.entries ++ es) (sym (entries_in-append xs ys)) in
      h.history
      ∙ ap (λ (x : History). let r : History = record x { entries = x.entries ++ entries_in ys } in r) g.history
      ∙ ap (λ (es : List Entry). let r : History = record a.history { entries = es } in r) entries;
  opening = h.opening ∙ g.opening;
  limits = h.limits ∙ g.limits;
}

pub GrowsBy-trans : (a b c : JournalView) (xs ys : List Entry) → GrowsBy a b xs → GrowsBy b c ys → GrowsBy a c (xs ++ ys)
GrowsBy-trans a b c xs ys g h = record {
  more = g.more ++ h.more;
  entries = entries_in-append g.more h.more ∙ rw (g.entries, h.entries) refl;
  grows = Grows-trans a b c g.more h.more g.grows h.grows;
  unmarked = h.unmarked ∙ g.unmarked;
}

-- one note more
pub GrowsBy-note : (a b : JournalView) (n : Note) (e : Entry) → n.entry ≡ e → b.notes ≡ a.notes ++ n ∷ [] → b.history ≡ with_entry a.history e → b.opening ≡ a.opening → b.limits ≡ a.limits → b.marks ≡ a.marks → GrowsBy a b (e ∷ [])
GrowsBy-note a b n e is notes history opening limits marks = record {
  more = n ∷ [];
  entries = ap (λ (x : Entry). x ∷ []) is;
  grows = record { notes = notes; history = history ∙ ap (λ (x : Entry). with_entry a.history x) (sym is); opening = opening; limits = limits };
  unmarked = marks;
}

-- without entries there are no notes
pub none_more : (ns : List Note) → entries_in ns ≡ [] → ns ≡ []
none_more [] e = refl
none_more (n ∷ ns) e = absurd (cc)

pub Grows-by_none : (a b : JournalView) → GrowsBy a b [] → Grows a b []
Grows-by_none a b g = subst (Grows a b) (none_more g.more g.entries) g.grows

pub Grows-then_none : (a b c : JournalView) (xs : List Note) → Grows a b xs → Grows b c [] → Grows a c xs
Grows-then_none a b c xs g h = subst (Grows a c) (append-nil xs) (Grows-trans a b c xs [] g h)

-- ---- what the journal is then

pub start_point-same : (a b : JournalView) (es : List Entry) → b.history ≡ record a.history { entries = es } → b.opening ≡ a.opening → start_point b ≡ start_point a
start_point-same a b es history opening =
    ap (λ (h : History). start_with h b.opening) history
    ∙ ap (λ (cells : List Cell). start_with a.history cells) opening

pub Grows-start : (a b : JournalView) (more : List Note) → Grows a b more → start_point b ≡ start_point a
Grows-start a b more g = start_point-same a b (a.history.entries ++ entries_in more) g.history g.opening

pub Grows-point : (a b : JournalView) (more : List Note) → Grows a b more → point_of b ≡ after_notes (point_of a) more
Grows-point a b more g =
    ap (λ (p : Point). after_notes p b.notes) (Grows-start a b more g)
    ∙ ap (after_notes (start_point a)) g.notes
    ∙ after_notes-append (start_point a) a.notes more

-- the end of the history, one entry on
pub GrowsBy-end : (a b : JournalView) (e : Entry) → GrowsBy a b (e ∷ []) → end_of b.history ≡ next (end_of a.history) e
GrowsBy-end a b e g =
    ap end_of g.grows.history
    ∙ ap (λ (es : List Entry). moment_after (start_of a.history) (a.history.entries ++ es)) g.entries
    ∙ fold_push next (start_of a.history) a.history.entries e

-- ---- it began as before

pub IsSameStart-none : (a : JournalView) → IsSameStart a a
IsSameStart-none a = record { history = refl; opening = refl; limits = refl }

pub IsSameStart-more : (a b c : JournalView) (more : List Note) → IsSameStart a b → Grows b c more → IsSameStart a c
IsSameStart-more a b c more s g = record {
  history =
      let after : c.history ≡ record b.history { entries = c.history.entries } = g.history ∙ ap (λ (es : List Entry). let r : History = record b.history { entries = es } in r) (sym (ap (λ (x : History). x.entries) g.history)) in
      after ∙ ap (λ (x : History). let r : History = record x { entries = c.history.entries } in r) s.history;
  opening = g.opening ∙ s.opening;
  limits = g.limits ∙ s.limits;
}
