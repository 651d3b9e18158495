-- Counts of entries, one note after another.
use Rattle.std.proofs.Common.{◌≡◌, ℕ, ◌+◌, Bool, true, false, cond, List, [], ◌∷◌, length, ◌≤◌, Option, ap, subst, ◌∙◌, refl, arith}
use Rattle.std.specs.Prelude.{count_by}
use Rattle.std.proofs.lemmas.List.Sums.{sum_by-cons}
use Rattle.plain_model.specs.declared.calls.Entry.{Entry}
use Rattle.core_store.specs.declared.note.Note.{Note}
use Rattle.brahma_shell.specs.Points.{entries_in}
use Rattle.std.specs.Io.KnownBytes.{Appends}
use Rattle.script_lines.specs.Output.{generated_line}
use Rattle.brahma_shell.specs.declared.tally.Tally.{Tally}
use Rattle.brahma_shell.specs.Generated.{tally_text}
use Rattle.brahma_shell.specs.Tally.{one_if, tally_of, is_commit, is_abort, is_busy, is_deletion}

-- the first of the notes that are left is counted: those that are counted and those that are left come to as many as before
pub counted-on : (p : Entry → Bool) (note : Note) (left rest : List Note) (old new whole : ℕ) → left ≡ note ∷ rest → new ≡ old + one_if (p note.entry) → old + count_by p (entries_in left) ≡ whole → new + count_by p (entries_in rest) ≡ whole
counted-on p note left rest old new whole is now was = by (p note.entry) refl
  where
    same : count_by p (entries_in left) ≡ count_by p (note.entry ∷ entries_in rest)
    same = ap (λ (ns : List Note). count_by p (entries_in ns)) is

    parts : count_by p (note.entry ∷ entries_in rest) ≡ cond (p note.entry) 1 0 + count_by p (entries_in rest)
    parts = sum_by-cons (λ (e : Entry). cond (p e) 1 0) note.entry (entries_in rest)

    by : (b : Bool) → p note.entry ≡ b → new + count_by p (entries_in rest) ≡ whole
    by true e =
        let one : count_by p (entries_in left) ≡ 1 + count_by p (entries_in rest) = same ∙ (parts ∙ ap (λ (b : Bool). cond b 1 0 + count_by p (entries_in rest)) e) in
        let more : new ≡ old + 1 = now ∙ ap (λ (b : Bool). old + one_if b) e in
        omega (arith, one, more, was)
    by false e =
        let none : count_by p (entries_in left) ≡ 0 + count_by p (entries_in rest) = same ∙ (parts ∙ ap (λ (b : Bool). cond b 1 0 + count_by p (entries_in rest)) e) in
        let more : new ≡ old + 0 = now ∙ ap (λ (b : Bool). old + one_if b) e in
        omega (arith, none, more, was)

-- before the first note nothing is counted, and all are left
pub counted-none : (p : Entry → Bool) (left notes : List Note) (n : ℕ) → n ≡ 0 → left ≡ notes → n + count_by p (entries_in left) ≡ count_by p (entries_in notes)
counted-none p left notes n none all = let same = ap (λ (ns : List Note). count_by p (entries_in ns)) all in omega (arith, none, same)

pub few-none : (left notes : List Note) (n : ℕ) → n ≡ 0 → left ≡ notes → n + length left ≤ length notes
few-none left notes n none all = let same = ap (λ (ns : List Note). length ns) all in omega (arith, none, same)

-- where none is left, all are counted
pub counted-all : (p : Entry → Bool) (left : List Note) (n whole : ℕ) → left ≡ [] → n + count_by p (entries_in left) ≡ whole → n ≡ whole
counted-all p left n whole none is =
    let empty = ap (λ (ns : List Note). count_by p (entries_in ns)) none in
    omega (arith, empty, is)

-- and no more are counted than there are
pub few-more : (note : Note) (left rest : List Note) (old new whole : ℕ) (b : Bool) → left ≡ note ∷ rest → new ≡ old + one_if b → old + length left ≤ whole → new + length rest ≤ whole
few-more note left rest old new whole true is e l = let long = ap length is in omega (arith, long, e, l)
few-more note left rest old new whole false is e l = let long = ap length is in omega (arith, long, e, l)

-- what is written is the line of these entries
pub told-text : (before now : Option (List ℕ)) (piece : List ℕ) (es whole : List Entry) (t : Tally) (ids stored : List ℕ) → piece ≡ generated_line t.commits t.aborts t.busy t.deleted (length ids)
    → t.commits ≡ count_by is_commit es → t.aborts ≡ count_by is_abort es → t.busy ≡ count_by is_busy es → t.deleted ≡ count_by is_deletion es → es ≡ whole → ids ≡ stored → Appends before now piece → Appends before now (tally_text (tally_of whole) (length stored))
told-text before now piece es whole t ids stored line commits aborts busy deleted entries same written =
    let text =
    line
    ∙ ap (λ (n : ℕ). generated_line n t.aborts t.busy t.deleted (length ids)) commits
    ∙ ap (λ (n : ℕ). generated_line (count_by is_commit es) n t.busy t.deleted (length ids)) aborts
    ∙ ap (λ (n : ℕ). generated_line (count_by is_commit es) (count_by is_abort es) n t.deleted (length ids)) busy
    ∙ ap (λ (n : ℕ). generated_line (count_by is_commit es) (count_by is_abort es) (count_by is_busy es) n (length ids)) deleted
    ∙ ap (λ (xs : List ℕ). tally_text (tally_of es) (length xs)) same
    ∙ ap (λ (xs : List Entry). tally_text (tally_of xs) (length stored)) entries
    in
    subst (λ (x : List ℕ). Appends before now x) text written
