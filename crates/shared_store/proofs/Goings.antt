-- What a pass knows after a call.
use Rattle.std.proofs.Common.{◌≡◌, ℕ, ◌*◌, Bool, true, false, List, [], ◌∷◌, ◌++◌, map, Option, Some, None, refl, sym, ap, ◌∙◌, subst}
use Rattle.std.specs.Prelude.{◌↔◌, ◌||◌, IfSome, IsSome, fold}
use Rattle.std.specs.Option.{option_or}
use Rattle.std.proofs.lemmas.List.{map-append}
use Rattle.std.proofs.lemmas.List.Sums.{fold-append}
use Rattle.atomic_table.specs.Seated.{TableId}
use Rattle.plain_model.specs.declared.calls.Entry.{Entry}
use Rattle.core_store.specs.declared.frame.Frame.{Frame}
use Rattle.core_store.specs.declared.note.Note.{Note}
use Rattle.core_store.specs.declared.three.HeldFrame.{HeldFrame}
use Rattle.logged_journal.specs.View.{LoggedView}
use Rattle.latch_table.specs.declared.view.Station.{Station}
use Rattle.latch_table.specs.Account.{Marks, Sizes}
use Rattle.latch_table.specs.Views.{KeepMarks, joined_marks, log_of, log_claimed, log_dropped, story, truth_of, with_claims}
use Rattle.latch_table.specs.Holds.{HoldView, HasNone, IsAnother}
use Rattle.latch_table.specs.Rule.{HasMet, IsLater, LieBelow}
use Rattle.latch_table.specs.Steps.{told_of}
use Rattle.shared_store.specs.Chronicles.Clients.{has_after}
use Rattle.shared_store.specs.Chronicles.Steps.{Flags}
use Rattle.shared_store.specs.Chronicles.View.{Origin, account, notes_of, marks_of, sizes_of, has_transaction}
use Rattle.shared_store.specs.declared.refused.Refused.{Refused}
use Rattle.shared_store.specs.Passes.{Known, IsPass, AreMarked}
use Rattle.shared_store.specs.Acts.{Acts}
use Rattle.shared_store.proofs.Meetings.{met_if, as-met}
use Rattle.shared_store.specs.Calls.{GoesOnAs, Keeps, KeepsNoted}
use Rattle.shared_store.specs.Holding.{pairs_of, with_pages}

pub or-left : (a b : Bool) → a ≡ true → (a || b) ≡ true
or-left true b e = refl
or-left false b e = absurd (cc)

pub or-right : (a b : Bool) → b ≡ true → (a || b) ≡ true
or-right true b e = refl
or-right false b e = e

or-first : (a b : Option ℕ) (n : ℕ) → a ≡ Some n → option_or a b ≡ Some n
or-first (Some k) b n e = e
or-first None b n e = absurd (cc)

pub some-left : (a b : Option ℕ) → IsSome a → IsSome (option_or a b)
some-left (Some k) b s = refl
some-left None b s = absurd (cc)

pub within-joined : (a m : Marks) → KeepMarks a (joined_marks a m)
within-joined a m = (λ n e. or-first a.0 m.0 n e, λ e. or-left a.1 m.1 e, λ e. or-left a.2 m.2 e)

-- counts that are marked stay so with marks more
pub marked-joined : (r : Refused) (a m : Marks) → AreMarked r a → AreMarked r (joined_marks a m)
marked-joined r a m h = record { disk = λ p. some-left a.0 m.0 (h.disk p); trace = λ p. or-left a.1 m.1 (h.trace p); log = λ p. or-left a.2 m.2 (h.log p) }

-- the last of two lists that begin alike
pub same-last : {A : Type 0} (xs : List A) (a b : A) → xs ++ a ∷ [] ≡ xs ++ b ∷ [] → a ≡ b
same-last [] a b e = cc
same-last (x ∷ xs) a b e = same-last xs a b (let r : xs ++ a ∷ [] ≡ xs ++ b ∷ [] = cc in r)

-- what a call comes to: what the pass knows, its marks, and the journal that it found
pub record Comes {D : Type 0} {slots : ℕ} (v z : Known slots) (j k : LoggedView D) (entered : Option Entry) (found : Option (ℕ × ℕ)) : Type 0 where
  pub goes : GoesOnAs v z entered found
  pub marks : z.knowledge.marks ≡ joined_marks v.knowledge.marks (marks_of k)
  -- the journal as it was found
  pub stories : z.knowledge.stories ≡ v.knowledge.stories ++ story (notes_of j) (marks_of j) (sizes_of j) ∷ []
  -- and what it noted
  pub noted : KeepsNoted v z j k entered

module _ {D : Type 0} (slots : ℕ) (v z : Known slots) (j k : LoggedView D) (cs : List (Option ℕ × ℕ)) (ps : List (ℕ × Frame slots)) where
  none-entered : (place : ℕ) (found : Option (ℕ × ℕ)) → notes_of k ≡ notes_of j → z ≡ log_dropped (with_pages (met_if (with_pages (with_claims (log_claimed v (notes_of j) (marks_of j) (sizes_of j)) cs) ps) place found) []) (marks_of k) → IfSome found (λ f. LieBelow place v.knowledge.meets) → IfSome found (λ f. IsAnother v f.1) → Comes v z j k None found
  none-entered place None still e below other = subst (λ (u : Known slots). Comes v u j k None None) (sym e) (record {
    goes = record { station = refl; none = (refl, refl); fixed = refl; peeks = refl; marks = within-joined v.knowledge.marks (marks_of k); entries = record { kept = refl; seen = refl; has = refl }; meets = refl };
    marks = refl;
    stories = refl;
    noted = still;
  })
  none-entered place (Some f) still e below other = subst (λ (u : Known slots). Comes v u j k None (Some f)) (sym e) (record {
    goes = record { station = refl; none = (refl, refl); fixed = refl; peeks = refl; marks = within-joined v.knowledge.marks (marks_of k); entries = record { kept = refl; seen = refl; has = refl }; meets = ((place, below, refl), other) };
    marks = refl;
    stories = refl;
    noted = still;
  })

  some-entered : (place : ℕ) (found : Option (ℕ × ℕ)) (note : Note) (entry : Entry) → note.entry ≡ entry → notes_of k ≡ notes_of j ++ note ∷ [] → IsLater (account D slots) v j
      → z ≡ log_dropped (with_pages (told_of (account D slots) (met_if (with_pages (with_claims (log_claimed v (notes_of j) (marks_of j) (sizes_of j)) cs) ps) place found) k note) []) (marks_of k) → IfSome found (λ f. LieBelow place v.knowledge.meets) → IfSome found (λ f. IsAnother v f.1) → Comes v z j k (Some entry) found
  some-entered place None note entry of more later e below other = subst (λ (u : Known slots). Comes v u j k (Some entry) None) (sym e) (record {
    goes = record {
      station = refl;
      none = (refl, refl);
      fixed = refl;
      peeks = refl;
      marks = within-joined v.knowledge.marks (marks_of k);
      entries = record { note = note; of_entry = of; before = notes_of j; later = later.seen; kept = refl; seen = refl; had = later.truth; has = ap (λ (ns : List Note). has_transaction ns v.station.name) more };
      meets = refl;
    };
    marks = refl;
    stories = refl;
    noted = (note, more, refl);
  })
  some-entered place (Some f) note entry of more later e below other = subst (λ (u : Known slots). Comes v u j k (Some entry) (Some f)) (sym e) (record {
    goes = record {
      station = refl;
      none = (refl, refl);
      fixed = refl;
      peeks = refl;
      marks = within-joined v.knowledge.marks (marks_of k);
      entries = record { note = note; of_entry = of; before = notes_of j; later = later.seen; kept = refl; seen = refl; had = later.truth; has = ap (λ (ns : List Note). has_transaction ns v.station.name) more };
      meets = ((place, below, refl), other);
    };
    marks = refl;
    stories = refl;
    noted = (note, more, refl);
  })

log-met : {slots : ℕ} (v : Known slots) (ns : List Note) (m : Marks) (s : Sizes) (cs : List (Option ℕ × ℕ)) (ps : List (ℕ × Frame slots)) (place : ℕ) (found : Option (ℕ × ℕ)) → log_of (met_if (with_pages (with_claims (log_claimed v ns m s) cs) ps) place found) ≡ ns
log-met v ns m s cs ps place None = refl
log-met v ns m s cs ps place (Some f) = refl

is-false : (b : Bool) → (b ≡ true → ⊥) → b ≡ false
is-false true n = absurd (n refl)
is-false false n = refl

-- the pass knows what the journal and its answer tell
pub comes : {D : Type 0} (slots : ℕ) (v v1 w z : Known slots) (j k : LoggedView D) (held : List (HeldFrame slots)) (entered : Option Entry) (marked : Flags) (found : Option (ℕ × ℕ)) (b : Bool)
    → v1 ≡ log_claimed v (notes_of j) (marks_of j) (sizes_of j) → IsLater (account D slots) v j → Acts slots v1 w j k held entered marked found → ((b ≡ true) ↔ IsSome entered)
    → (b ≡ true → (note : Note) × (notes_of k ≡ log_of w ++ note ∷ []) × (z ≡ log_dropped (with_pages (told_of (account D slots) w k note) []) (marks_of k)))
    → (b ≡ false → z ≡ log_dropped (with_pages w []) (marks_of k)) → Comes v z j k entered found
comes {D} slots v v1 w z j k held None marked found b claim later a iff told same =
    let cs : List (Option ℕ × ℕ) = a.view.0 in
    let ps = pairs_of a.first in
    let met = as-met (with_pages (with_claims v1 cs) ps) w found a.view.1 in
    let place : ℕ = met.0 in
    let is : w ≡ met_if (with_pages (with_claims (log_claimed v (notes_of j) (marks_of j) (sizes_of j)) cs) ps) place found = met.1 ∙ ap (λ (u : Known slots). met_if (with_pages (with_claims u cs) ps) place found) claim in
    let below : IfSome found (λ f. LieBelow place v.knowledge.meets) = subst (λ (u : Known slots). IfSome found (λ f. LieBelow place u.knowledge.meets)) claim met.2 in
    none-entered slots v z j k cs ps place found a.goes_on.notes
    (same (is-false b (λ t. absurd (let s = iff.0 t in cc))) ∙ ap (λ (u : Known slots). log_dropped (with_pages u []) (marks_of k)) is)
    below
    (subst (λ (u : Known slots). IfSome found (λ f. IsAnother u f.1)) claim a.another)
comes {D} slots v v1 w z j k held (Some entry) marked found b claim later a iff told same =
    let cs : List (Option ℕ × ℕ) = a.view.0 in
    let ps = pairs_of a.first in
    let met = as-met (with_pages (with_claims v1 cs) ps) w found a.view.1 in
    let place : ℕ = met.0 in
    let is : w ≡ met_if (with_pages (with_claims (log_claimed v (notes_of j) (marks_of j) (sizes_of j)) cs) ps) place found = met.1 ∙ ap (λ (u : Known slots). met_if (with_pages (with_claims u cs) ps) place found) claim in
    let below : IfSome found (λ f. LieBelow place v.knowledge.meets) = subst (λ (u : Known slots). IfSome found (λ f. LieBelow place u.knowledge.meets)) claim met.2 in
    let t = told (iff.1 refl) in
    let n = a.goes_on.notes in
    let log : log_of w ≡ notes_of j = ap (λ (u : Known slots). log_of u) is ∙ log-met v (notes_of j) (marks_of j) (sizes_of j) cs ps place found in
    let more : notes_of k ≡ notes_of j ++ t.0 ∷ [] = t.1 ∙ ap (λ (ns : List Note). ns ++ t.0 ∷ []) log in
    let same_note : n.note ≡ t.0 = same-last (notes_of j) n.note t.0 (sym n.notes ∙ more) in
    some-entered slots v z j k cs ps place found t.0 entry (ap (λ (x : Note). x.entry) (sym same_note) ∙ n.of_entry) more later
    (t.2 ∙ ap (λ (u : Known slots). log_dropped (with_pages (told_of (account D slots) u k t.0) []) (marks_of k)) is)
    below
    (subst (λ (u : Known slots). IfSome found (λ f. IsAnother u f.1)) claim a.another)

-- another hold had the log word
pub found-log : {slots : ℕ} (v z : Known slots) (word seat : ℕ) → HasNone v → HasMet v z word seat → IsAnother v seat → GoesOnAs v z None (Some (word, seat))
found-log {slots} v z word seat none e other = subst (λ (u : Known slots). GoesOnAs v u None (Some (word, seat))) (sym e.2) (record {
  station = refl;
  none = none;
  fixed = refl;
  peeks = refl;
  marks = (λ n e. e, λ e. e, λ e. e);
  entries = record { kept = refl; seen = refl; has = refl };
  meets = ((e.0, e.1, refl), other);
})

-- whether the client has a transaction by an entry more
has-more : (notes : List Note) (n : Note) (client : ℕ) → has_transaction (notes ++ n ∷ []) client ≡ has_after client (has_transaction notes client) n.entry
has-more notes n client = ap (fold (has_after client) false) (map-append (λ (x : Note). x.entry) notes (n ∷ [])) ∙ fold-append (has_after client) false (map (λ (x : Note). x.entry) notes) (n.entry ∷ [])

pub truth-some : {slots : ℕ} (v z : Known slots) (entry : Entry) → Keeps v z entry → z.knowledge.truth ≡ has_after v.station.name v.knowledge.truth entry
truth-some v z entry k =
    k.has ∙ (has-more k.before k.note v.station.name
    ∙ (ap (λ (b : Bool). has_after v.station.name b k.note.entry) (sym k.had) ∙ ap (has_after v.station.name v.knowledge.truth) k.of_entry))

-- what the fields of a pass keep
pub pass-after : {slots : ℕ} (h h' : HoldView Note Origin (Frame slots)) (main : Bool) (number : ℕ) (txn txn' : Bool) (seen seen' : ℕ) (refused refused' : Refused) (left : List Bool) (entered : Option Entry) (found : Option (ℕ × ℕ))
    → IsPass h main number txn seen refused left → h'.table ≡ h.table → GoesOnAs h.view h'.view entered found → txn' ≡ h'.view.knowledge.truth → seen' ≡ h'.view.knowledge.seen → AreMarked refused' h'.view.knowledge.marks → IsPass h' main number txn' seen' refused' left
pass-after h h' main number txn txn' seen seen' refused refused' left entered found p table goes truth length_is marked =
    let of = p.of_store in
    record {
      none = goes.none;
      main_is = p.main_is ∙ ap (λ (s : Station). s.main) (sym goes.station);
      number_is = p.number_is ∙ ap (λ (s : Station). s.name) (sym goes.station);
      txn_is = truth;
      seen_is = length_is;
      marked = marked;
      left_is = λ name low m. p.left_is name low m ∙ ap (λ (s : Station). truth_of s.truths name) (sym goes.station);
      size = p.size;
      of_store = (of.0, goes.fixed ∙ of.1, of.2 ∙ ap (λ (t : TableId). 8 * t.slots) (sym table));
    }
