-- Events of the collector, and how they are put together.
use Rattle.std.proofs.Common.{◌≡◌, ◌≢◌, Bool, ℕ, ◌<◌, ◌≤◌, List, [], ◌∷◌, ◌++◌, length, Option, Some, None, Result, Ok, Err, refl, sym, ap, subst, ◌∙◌, arith}
use Rattle.std.proofs.lemmas.List.{append-nil}
use Rattle.std.specs.List.{AllByRecursion}
use Rattle.plain_model.specs.declared.calls.Entry.{Entry}
use Rattle.plain_model.specs.declared.calls.Entry.TheVariants.{Hidden, Delete}
use Rattle.core_store.specs.declared.act.Act.TheVariants.{Other}
use Rattle.core_store.specs.declared.note.Note.{Note}
use Rattle.core_store.specs.declared.collect.Collect.{Collect}
use Rattle.core_store.specs.declared.collect.Collect.TheVariants.{Idle, Did, Deleted, TraceFull, Memory}
use Rattle.latch_table.specs.Holds.{IsAlone}
use Rattle.shared_store.specs.declared.answers.CollectRefusal.{CollectRefusal}
use Rattle.shared_store.specs.declared.answers.CollectRefusal.TheVariants as refusal
use Rattle.shared_store.specs.Passes.{Known}
use Rattle.shared_store.specs.Calls.{GoesOnAs, Keeps, MakesCollect, entered_by_collecting, found_by_collecting}
use Rattle.client_pass.specs.declared.ends.WorkEnd.{WorkEnd}
use Rattle.client_pass.specs.Workings.{IsEnd, EndsCollecting, WasCollecting, end_of_collecting}
use Rattle.client_pass.specs.Runs.{Collects, IsCollected, IsOfCollector, IsNoteOfCollector}
use Rattle.client_pass.proofs.Makings.{keeps-none, keeps-append, keeps-one, truth-one}

each-append : (kept more : List (ℕ × Note)) → AllByRecursion (λ (k : ℕ × Note). IsNoteOfCollector k.1) kept → AllByRecursion (λ (k : ℕ × Note). IsNoteOfCollector k.1) more → AllByRecursion (λ (k : ℕ × Note). IsNoteOfCollector k.1) (kept ++ more)
each-append [] more a b = b
each-append (k ∷ kept) more a b = (a.0, each-append kept more a.1 b)

module _ {slots : ℕ} where
  entered-longer : (u v : Known slots) (e : Entry) → Keeps u v e → u.knowledge.seen < v.knowledge.seen
  entered-longer u v e k = let later = k.later in let seen = k.seen in omega (arith, later, seen)

  pub collects_none : (v : Known slots) → Collects v v
  collects_none v = record { kept = []; keeps = keeps-none v; each = tt; truth = refl }

  pub collects_append : (u v w : Known slots) → Collects u v → Collects v w → Collects u w
  collects_append u v w a b = record { kept = a.kept ++ b.kept; keeps = keeps-append u v w a.kept b.kept a.keeps b.keeps; each = each-append a.kept b.kept a.each b.each; truth = b.truth ∙ a.truth }

  -- ---- one step

  -- it entered nothing
  collects-nothing : (u v : Known slots) (found : Option (ℕ × ℕ)) → GoesOnAs u v None found → Collects u v
  collects-nothing u v found g = record {
    kept = [];
    keeps = record { station = g.station; fixed = g.fixed; peeks = g.peeks; marks = g.marks; entries = g.entries.kept ∙ sym (append-nil u.knowledge.entries); places = g.entries.seen };
    each = tt;
    truth = g.entries.has;
  }

  -- what it keeps besides is of an event of the collector
  abbrev pub KeepsEvent : Known slots → Known slots → Type 0
  KeepsEvent u v = (k : ℕ × Note) → v.knowledge.entries ≡ u.knowledge.entries ++ k ∷ [] → k.1.act ≢ Other

  -- it entered this, which speaks for nobody
  collects-hidden : (u v : Known slots) (found : Option (ℕ × ℕ)) → GoesOnAs u v (Some Hidden) found → KeepsEvent u v → Collects u v
  collects-hidden u v found g act =
      let k = keeps-one u v Hidden found g in
      record { kept = k.0 ∷ []; keeps = k.2; each = (record { entry = subst IsOfCollector (sym k.1) tt; act = act k.0 k.2.entries }, tt); truth = truth-one u v Hidden g.entries }

  collects-deleted : (u v : Known slots) (id : ℕ) (found : Option (ℕ × ℕ)) → GoesOnAs u v (Some (Delete id)) found → KeepsEvent u v → Collects u v
  collects-deleted u v id found g act =
      let k = keeps-one u v (Delete id) found g in
      record { kept = k.0 ∷ []; keeps = k.2; each = (record { entry = subst IsOfCollector (sym k.1) tt; act = act k.0 k.2.entries }, tt); truth = truth-one u v (Delete id) g.entries }

  -- whatever the answer
  pub collects-step : (u v : Known slots) (r : Result Collect CollectRefusal) → GoesOnAs u v (entered_by_collecting r) (found_by_collecting r) → KeepsEvent u v → Collects u v
  collects-step u v (Ok (Did popped left)) g act = collects-hidden u v None g act
  collects-step u v (Ok (Deleted id left)) g act = collects-deleted u v id None g act
  collects-step u v (Ok TraceFull) g act = collects-nothing u v None g
  collects-step u v (Ok Idle) g act = collects-nothing u v None g
  collects-step u v (Ok Memory) g act = collects-nothing u v None g
  collects-step u v (Err refusal) g act = collects-nothing u v (found_by_collecting (Err refusal)) g

  -- ---- what an answer tells

  -- an event that was made makes the history longer
  pub did-longer : (u v : Known slots) (r : Result Collect CollectRefusal) (s : Collect) (popped : Bool) (left : ℕ) → r ≡ Ok s → s ≡ Did popped left → GoesOnAs u v (entered_by_collecting r) (found_by_collecting r) → u.knowledge.seen < v.knowledge.seen
  did-longer u v r s popped left is did g = entered-longer u v Hidden (subst (λ (x : Result Collect CollectRefusal). GoesOnAs u v (entered_by_collecting x) (found_by_collecting x)) (is ∙ ap Ok did) g).entries

  pub deleted-longer : (u v : Known slots) (r : Result Collect CollectRefusal) (s : Collect) (id left : ℕ) → r ≡ Ok s → s ≡ Deleted id left → GoesOnAs u v (entered_by_collecting r) (found_by_collecting r) → u.knowledge.seen < v.knowledge.seen
  deleted-longer u v r s id left is deleted g = entered-longer u v (Delete id) (subst (λ (x : Result Collect CollectRefusal). GoesOnAs u v (entered_by_collecting x) (found_by_collecting x)) (is ∙ ap Ok deleted) g).entries

  -- nobody is in the way of a pass that is alone
  pub alone-never : (u v : Known slots) (r : Result Collect CollectRefusal) (f : CollectRefusal) (word seat : ℕ) → IsAlone u → r ≡ Err f → f ≡ refusal.Again word seat → GoesOnAs u v (entered_by_collecting r) (found_by_collecting r) → ⊥
  alone-never u v r f word seat alone is again g =
      let all : r ≡ Err (refusal.Again word seat) = is ∙ ap Err again in
      (subst (λ (x : Result Collect CollectRefusal). GoesOnAs u v (entered_by_collecting x) (found_by_collecting x)) all g).meets.1.2 alone.0 alone.1

  -- where there was nothing to do nothing is left
  pub idle-collected : (D : Type 0) (u v : Known slots) (r : Result Collect CollectRefusal) (s : Collect) → r ≡ Ok s → s ≡ Idle → GoesOnAs u v (entered_by_collecting r) (found_by_collecting r)
      → (found_by_collecting r ≡ None → MakesCollect D slots u v r) → IsCollected D slots v
  idle-collected D u v r s is idle g made =
      let all : r ≡ Ok Idle = is ∙ ap Ok idle in
      let goes : GoesOnAs u v None None = subst (λ (x : Result Collect CollectRefusal). GoesOnAs u v (entered_by_collecting x) (found_by_collecting x)) all g in
      let m : MakesCollect D slots u v (Ok Idle) = subst (MakesCollect D slots u v) all (made (ap found_by_collecting all)) in
      let left = m.made.does.idle.0 refl in
      record { before = u; station = sym goes.station; fixed = goes.fixed; kept = goes.entries; idle = m; rests = record { queue = left.1; round = left.2 } }

  -- the end that an answer means names it
  pub collecting-ends : (D : Type 0) (u v : Known slots) (r : Result Collect CollectRefusal) (e : WorkEnd) → end_of_collecting r ≡ Some e → IsEnd e → found_by_collecting r ≡ None
      → GoesOnAs u v (entered_by_collecting r) (found_by_collecting r) → (found_by_collecting r ≡ None → MakesCollect D slots u v r) → EndsCollecting D slots v e
  collecting-ends D u v r e means is found g made = (is, (r, means, record { before = u; knows = g; made = made found }))
