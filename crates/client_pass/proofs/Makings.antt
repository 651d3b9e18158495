-- Calls of one pass that are put together.
use Rattle.std.proofs.Common.{◌≡◌, ℕ, ◌+◌, false, List, [], ◌∷◌, ◌++◌, map, length, Option, Some, None, refl, sym, ap, subst, ◌∙◌}
use Rattle.std.specs.Prelude.{fold}
use Rattle.std.proofs.lemmas.Bool.{eq-eqb}
use Rattle.std.proofs.lemmas.List.{append_assoc, append-nil, map-append}
use Rattle.std.proofs.lemmas.List.Sums.{fold-append}
use Rattle.plain_model.specs.declared.calls.Call.{Call as TransactionCall}
use Rattle.plain_model.specs.declared.calls.Reply.{Reply}
use Rattle.plain_model.specs.declared.calls.Entry.{Entry}
use Rattle.plain_model.specs.declared.calls.Entry.TheVariants as entry
use Rattle.core_store.specs.declared.note.Note.{Note}
use Rattle.latch_table.specs.Account.{Marks}
use Rattle.latch_table.specs.Views.{KeepMarks}
use Rattle.shared_store.specs.Chronicles.Clients.{speaker_of, has_after as has_after_entry}
use Rattle.shared_store.specs.Chronicles.View.{has_transaction}
use Rattle.shared_store.specs.Passes.{Known}
use Rattle.shared_store.specs.Calls.{GoesOnAs, Keeps}
use Rattle.client_pass.specs.Attempts.{Deed, Made, Undid, calls_in, has_after, AreUndos}
use Rattle.client_pass.specs.Workings.{Ascend, AreOfClient, calls_of, KeepsAll, Makes, AreNone, IsOne}
use Rattle.client_pass.proofs.Tries.{calls_in-append, has_after-append}

-- ---- lists of kept entries

ascend-append : (least middle behind : ℕ) (kept more : List (ℕ × Note)) → Ascend least kept middle → Ascend middle more behind → Ascend least (kept ++ more) behind
ascend-append least middle behind [] more a b = subst (λ (n : ℕ). Ascend n more behind) a b
ascend-append least middle behind (k ∷ kept) more a b = (a.0, ascend-append (k.0 + 1) middle behind kept more a.1 b)

own-append : (client : ℕ) (kept more : List (ℕ × Note)) → AreOfClient client kept → AreOfClient client more → AreOfClient client (kept ++ more)
own-append client [] more a b = b
own-append client (k ∷ kept) more a b = (a.0, own-append client kept more a.1 b)

pub calls_of-append : (client : ℕ) (kept more : List (ℕ × Note)) → calls_of client (kept ++ more) ≡ calls_of client kept ++ calls_of client more
calls_of-append client kept more =
    ap (calls_in client) (map-append (λ (k : ℕ × Note). k.1.entry) kept more)
    ∙ calls_in-append client (map (λ (k : ℕ × Note). k.1.entry) kept) (map (λ (k : ℕ × Note). k.1.entry) more)

within-refl : (m : Marks) → KeepMarks m m
within-refl m = (λ n e. e, λ e. e, λ e. e)

within-trans : (l m n : Marks) → KeepMarks l m → KeepMarks m n → KeepMarks l n
within-trans l m n a b = (λ k e. b.0 k (a.0 k e), λ e. b.1 (a.1 e), λ e. b.2 (a.2 e))

-- ---- one entry

-- whether the client has a transaction after one entry more
has-more : (before : List Note) (note : Note) (e : Entry) (client : ℕ) → note.entry ≡ e → has_transaction (before ++ note ∷ []) client ≡ has_after_entry client (has_transaction before client) e
has-more before note e client is =
    ap (fold (has_after_entry client) false) (map-append (λ (n : Note). n.entry) before (note ∷ []))
    ∙ (fold-append (has_after_entry client) false (map (λ (n : Note). n.entry) before) (note.entry ∷ [])
    ∙ ap (λ x. has_after_entry client (has_transaction before client) x) is)

one-call : (client : ℕ) (c : TransactionCall) (r : Reply) (k : ℕ × Note) → k.1.entry ≡ entry.Call client c r → Made c r ∷ [] ≡ calls_of client (k ∷ [])
one-call client c r k is = sym (ap (λ (e : Entry). calls_in client (e ∷ [])) is ∙ rw (eq-eqb client client refl) refl)

one-undo : (client : ℕ) (k : ℕ × Note) → k.1.entry ≡ entry.Undo client → Undid ∷ [] ≡ calls_of client (k ∷ [])
one-undo client k is = sym (ap (λ (e : Entry). calls_in client (e ∷ [])) is ∙ rw (eq-eqb client client refl) refl)

-- ---- views

module _ {slots : ℕ} where
  pub keeps-none : (v : Known slots) → KeepsAll v v []
  keeps-none v = record { station = refl; fixed = refl; peeks = refl; marks = within-refl v.knowledge.marks; entries = sym (append-nil v.knowledge.entries); places = refl }

  pub keeps-append : (u v w : Known slots) (kept more : List (ℕ × Note)) → KeepsAll u v kept → KeepsAll v w more → KeepsAll u w (kept ++ more)
  keeps-append u v w kept more a b = record {
    station = b.station ∙ a.station;
    fixed = b.fixed ∙ a.fixed;
    peeks = b.peeks ∙ a.peeks;
    marks = within-trans u.knowledge.marks v.knowledge.marks w.knowledge.marks a.marks b.marks;
    entries = b.entries ∙ (ap (λ x. x ++ more) a.entries ∙ append_assoc u.knowledge.entries kept more);
    places = ascend-append u.knowledge.seen v.knowledge.seen w.knowledge.seen kept more a.places b.places;
  }

  -- no call was made
  pub makes-none : (v : Known slots) (P : List Deed → Type 0) → P [] → Makes v v P
  makes-none v P p = record { kept = []; keeps = keeps-none v; own = tt; made = []; made_is = refl; truth = refl; such = p }

  -- what is such is so
  pub makes-map : (u v : Known slots) (P Q : List Deed → Type 0) → ((made : List Deed) → P made → Q made) → Makes u v P → Makes u v Q
  makes-map u v P Q f m = record { kept = m.kept; keeps = m.keeps; own = m.own; made = m.made; made_is = m.made_is; truth = m.truth; such = f m.made m.such }

  -- calls after calls
  pub makes-append : (u v w : Known slots) (P Q R : List Deed → Type 0) → ((made more : List Deed) → P made → Q more → R (made ++ more)) → Makes u v P → Makes v w Q → Makes u w R
  makes-append u v w P Q R f a b =
      let name : v.station.name ≡ u.station.name = ap (λ s. s.name) a.keeps.station in
      record {
        kept = a.kept ++ b.kept;
        keeps = keeps-append u v w a.kept b.kept a.keeps b.keeps;
        own = own-append u.station.name a.kept b.kept a.own (subst (λ (n : ℕ). AreOfClient n b.kept) name b.own);
        made = a.made ++ b.made;
        made_is = ap (λ x. x ++ b.made) a.made_is ∙ (ap (λ x. calls_of u.station.name a.kept ++ x) (b.made_is ∙ ap (λ n. calls_of n b.kept) name) ∙ sym (calls_of-append u.station.name a.kept b.kept));
        truth = b.truth ∙ (ap (λ t. has_after t b.made) a.truth ∙ sym (has_after-append u.knowledge.truth a.made b.made));
        such = f a.made b.made a.such b.such;
      }

  -- ---- one step

  -- it entered nothing
  pub makes-refused : (u v : Known slots) (found : Option (ℕ × ℕ)) → GoesOnAs u v None found → Makes u v AreNone
  makes-refused u v found g = record {
    kept = [];
    keeps = record { station = g.station; fixed = g.fixed; peeks = g.peeks; marks = g.marks; entries = g.entries.kept ∙ sym (append-nil u.knowledge.entries); places = g.entries.seen };
    own = tt;
    made = [];
    made_is = refl;
    truth = g.entries.has;
    such = refl;
  }

  pub keeps-one : (u v : Known slots) (e : Entry) (found : Option (ℕ × ℕ)) → (g : GoesOnAs u v (Some e) found) → (k : ℕ × Note) × (k.1.entry ≡ e) × KeepsAll u v (k ∷ [])
  keeps-one u v e found g =
      let k = g.entries in
      ((length k.before, k.note), k.of_entry, record { station = g.station; fixed = g.fixed; peeks = g.peeks; marks = g.marks; entries = k.kept; places = (k.later, k.seen) })

  pub truth-one : (u v : Known slots) (e : Entry) → Keeps u v e → v.knowledge.truth ≡ has_after_entry u.station.name u.knowledge.truth e
  truth-one u v e k = k.has ∙ (has-more k.before k.note e u.station.name k.of_entry ∙ ap (λ b. has_after_entry u.station.name b e) (sym k.had))

  -- it entered the call
  pub makes-one : (u v : Known slots) (c : TransactionCall) (r : Reply) (found : Option (ℕ × ℕ)) → GoesOnAs u v (Some (entry.Call u.station.name c r)) found → Makes u v (IsOne c r)
  makes-one u v c r found g =
      let k = keeps-one u v (entry.Call u.station.name c r) found g in
      record {
        kept = k.0 ∷ [];
        keeps = k.2;
        own = (ap speaker_of k.1, tt);
        made = Made c r ∷ [];
        made_is = one-call u.station.name c r k.0 k.1;
        truth = truth-one u v (entry.Call u.station.name c r) g.entries ∙ rw (eq-eqb u.station.name u.station.name refl) refl;
        such = refl;
      }

  -- it undid a write
  pub makes-undo : (u v : Known slots) (found : Option (ℕ × ℕ)) → GoesOnAs u v (Some (entry.Undo u.station.name)) found → Makes u v AreUndos
  makes-undo u v found g =
      let k = keeps-one u v (entry.Undo u.station.name) found g in
      record {
        kept = k.0 ∷ [];
        keeps = k.2;
        own = (ap speaker_of k.1, tt);
        made = Undid ∷ [];
        made_is = one-undo u.station.name k.0 k.1;
        truth = truth-one u v (entry.Undo u.station.name) g.entries;
        such = (refl, tt);
      }
