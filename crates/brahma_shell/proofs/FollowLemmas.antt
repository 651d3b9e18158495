-- A run follows one line more.
use Rattle.std.proofs.Common.{◌≡◌, ℕ, ◌+◌, List, [], ◌∷◌, ◌++◌, length, append_assoc, refl, sym, ap, subst, ◌∙◌, arith, add-zero}
use Rattle.std.proofs.lemmas.List.{append-nil}
use Rattle.std.proofs.lemmas.List.Concat.{flat_map-append}
use Rattle.plain_model.specs.declared.calls.Entry.{Entry}
use Rattle.plain_model.specs.Text.{text_of, line_of}
use Rattle.core_store.specs.declared.note.Note.{Note}
use Rattle.core_store.specs.JournalView.{JournalView}
use Rattle.std.specs.Prelude.{Option, Some, None, IfSome}
use Rattle.std.proofs.lemmas.List.{map-append}
use Rattle.std.proofs.lemmas.List.Sums.{fold-append}
use Rattle.script_lines.specs.declared.grammar.Line.{Line}
use Rattle.script_lines.specs.declared.grammar.Line.TheVariants.{Nothing, Ask, Abort, Undo, CollectStep, CollectAll, Clean, Turn, Crash}
use Rattle.script_lines.specs.Grammar.{meaning_of}
use Rattle.brahma_shell.specs.Points.{Point, after_note, after_notes, start_point, point_of}
use Rattle.brahma_shell.specs.Runs.{Event, Noted, noted, after_event, after_events, ids_at, end_point, since_opening}
use Rattle.brahma_shell.specs.Replay.{LineNotes}
use Rattle.brahma_shell.specs.Growth.{Grows}
use Rattle.brahma_shell.specs.Follows.{Gives, GivesEvents, LineGives, Follows, FollowsLines}
use Rattle.brahma_shell.proofs.GrowthLemmas.{Grows-start}

pub text_of-append : (xs ys : List Entry) → text_of (xs ++ ys) ≡ text_of xs ++ text_of ys
text_of-append xs ys = flat_map-append line_of xs ys

-- ---- the events of notes

pub after_events-append : (p : Point) (xs ys : List Event) → after_events p (xs ++ ys) ≡ after_events (after_events p xs) ys
after_events-append p xs ys = fold-append after_event p xs ys

-- the point after them is that after the notes
pub after-noted : (p : Point) (notes : List Note) → after_events p (noted notes) ≡ after_notes p notes
after-noted p [] = refl
after-noted p (n ∷ ns) = after-noted (after_note p n) ns

pub noted-append : (xs ys : List Note) → noted (xs ++ ys) ≡ noted xs ++ noted ys
noted-append xs ys = map-append Noted xs ys

-- what a line gives as notes it gives as their events
gives-events : (p : Point) (line : Line) (notes : List Note) → Gives p line notes → GivesEvents p line (noted notes)
gives-events p Nothing notes g = (notes, refl, g)
gives-events p (Ask client c) notes g = (notes, refl, g)
gives-events p (Abort client) notes g = (notes, refl, g)
gives-events p (Undo client) notes g = (notes, refl, g)
gives-events p CollectStep notes g = (notes, refl, g)
gives-events p CollectAll notes g = (notes, refl, g)
gives-events p (Clean page) notes g = (notes, refl, g)
gives-events p Turn notes g = (notes, refl, g)
gives-events p (Crash pick) notes g = absurd g

some-more : (o : Option Line) (P Q : Line → Type 0) → ((line : Line) → P line → Q line) → IfSome o P → IfSome o Q
some-more None P Q more h = tt
some-more (Some line) P Q more h = more line h

pub LineGives-noted : (p : Point) (number : ℕ) (bytes : List ℕ) (notes : List Note) → LineNotes p number bytes notes → LineGives p number bytes (noted notes)
LineGives-noted p number bytes notes g = (g.0, some-more (meaning_of bytes) (λ line. Gives p line notes) (λ line. GivesEvents p line (noted notes)) (λ line. gives-events p line notes) g.1)

-- ---- one line more

-- the lines, and one after them
pub Follows-push : (p : Point) (number : ℕ) (lines : List (List ℕ)) (events : List Event) (line : List ℕ) (more : List Event) → Follows p number lines events → LineGives (after_events p events) (number + length lines) line more → Follows p number (lines ++ line ∷ []) (events ++ more)
Follows-push p number [] events line more h g =
    let here : LineGives p number line more = subst (λ k. LineGives p k line more) (add-zero number) (subst (λ xs. LineGives (after_events p xs) (number + 0) line more) h g) in
    (more, [], ap (λ (xs : List Event). xs ++ more) h ∙ sym (append-nil more), here, refl)
Follows-push p number (l ∷ ls) events line more h g =
    let point : after_events p events ≡ after_events (after_events p h.0) h.1 = ap (after_events p) h.2 ∙ after_events-append p h.0 h.1 in
    let count : number + length (l ∷ ls) ≡ number + 1 + length ls = omega arith in
    let there : LineGives (after_events (after_events p h.0) h.1) (number + 1 + length ls) line more = subst (λ k. LineGives (after_events (after_events p h.0) h.1) k line more) count (subst (λ n. LineGives n (number + length (l ∷ ls)) line more) point g) in
    (h.0, h.1 ++ more, ap (λ (xs : List Event). xs ++ more) h.2 ∙ append_assoc h.0 h.1 more, h.3, Follows-push (after_events p h.0) (number + 1) ls h.1 line more h.4 there)

-- the point at the end of what a journal has noted
pub end-since : (k : ℕ) (j : JournalView) → end_point (since_opening k j) ≡ point_of j
end-since k j = after-noted (start_point j) j.notes

-- how many ids the store has there
pub ids-since : (k : ℕ) (j : JournalView) → ids_at (end_point (since_opening k j)) ≡ ids_at (point_of j)
ids-since k j = ap ids_at (end-since k j)

-- the lines since an opening, and one after them
pub FollowsLines-push : (k : ℕ) (lines : List (List ℕ)) (line : List ℕ) (a b : JournalView) (more : List Note) (n : ℕ) → length lines ≡ n → FollowsLines lines (since_opening k a) → Grows a b more → LineNotes (point_of a) (k + n) line more → FollowsLines (lines ++ line ∷ []) (since_opening k b)
FollowsLines-push k lines line a b more n e f g gives =
    let here : LineGives (point_of a) (k + length lines) line (noted more) = LineGives-noted (point_of a) (k + length lines) line more (subst (λ m. LineNotes (point_of a) (k + m) line more) (sym e) gives) in
    let there : LineGives (after_events (start_point a) (noted a.notes)) (k + length lines) line (noted more) = subst (λ (p : Point). LineGives p (k + length lines) line (noted more)) (sym (after-noted (start_point a) a.notes)) here in
    let all : Follows (start_point a) k (lines ++ line ∷ []) (noted a.notes ++ noted more) = Follows-push (start_point a) k lines (noted a.notes) line (noted more) f there in
    let events : noted a.notes ++ noted more ≡ noted b.notes = sym (ap noted g.notes ∙ noted-append a.notes more) in
    subst (λ (p : Point). Follows p k (lines ++ line ∷ []) (noted b.notes)) (sym (Grows-start a b more g)) (subst (Follows (start_point a) k (lines ++ line ∷ [])) events all)
