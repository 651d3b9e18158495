-- How the program ends, by how its replay ended.
use Rattle.std.proofs.Common.{◌≡◌, ◌⊎◌, ◌≤◌, ◌↔◌, ◌+◌, ℕ, true, false, List, [], length, Option, Some, None, refl, sym, ap, subst, ◌∙◌, ⊎_elim, inl, inr, arith}
use Rattle.std.specs.Prelude.{IfSome}
use Rattle.std.proofs.lemmas.Bool.{false≢true}
use Rattle.std.proofs.lemmas.List.{append-nil}
use Rattle.std.specs.Io.KnownBytes.{Appends}
use Rattle.core_store.specs.declared.marks.Marks.{Marks}
use Rattle.core_store.specs.JournalView.{JournalView}
use Rattle.script_lines.specs.Lines.{lines_of}
use Rattle.script_lines.specs.Grammar.{IsRefused}
use Rattle.script_lines.specs.Output.{EndsWith}
use Rattle.brahma_shell.specs.Runs.{ids_at, Stretch, end_point}
use Rattle.brahma_shell.specs.Follows.{FollowsAll, FollowsUpTo, FollowsPart}
use Rattle.brahma_shell.specs.Top.{HasOnlyLines}
use Rattle.script_lines.proofs.OutputLemmas.{Appends-trans}

-- ---- what is written

-- the text was written before the last line
pub EndsWith-after : (old mid new : Option (List ℕ)) («first» before now : ℕ) (text last : List ℕ) → «first» ≤ before → Appends old mid text → EndsWith mid new before now [] last → EndsWith old new «first» now text last
EndsWith-after old mid new first before now text last le a e =
    ⊎_elim
    (λ h. inl (Appends-trans old mid new text last a h))
    (λ h. inr (h.0, h.1, h.2, Appends-trans old mid new text h.0 a h.3, omega (arith, h.4)))
    e

-- ---- what the journal follows

pub FollowsPart-all : (start left : Option (List ℕ)) (s : Stretch) → FollowsAll start left s → FollowsPart start s
FollowsPart-all None left s f = tt
FollowsPart-all (Some bytes) None s f = absurd f
FollowsPart-all (Some bytes) (Some ys) s f = record {
  before = lines_of bytes;
  behind = [];
  parts = sym (append-nil (lines_of bytes));
  done = s.events;
  part = [];
  events = sym (append-nil s.events);
  follows = f.0;
  next = refl;
}

-- what holds of the replay's journal holds of the one that is handed back
pub of_journal : (P : JournalView → Type 0) (o : Option JournalView) (store : JournalView) → IfSome o (λ j. j ≡ store) → P store → IfSome o P
of_journal P None store is p = tt
of_journal P (Some j) store is p = subst P (sym is) p

-- ---- the mark

-- a journal that isn't marked ends with another status
pub unmarked : (j k : JournalView) (status : ℕ) → j.marks.trace ≡ false → k.marks ≡ j.marks → (status ≡ 9 → ⊥) → (k.marks.trace ≡ true) ↔ (status ≡ 9)
unmarked j k status e same other =
    let off : k.marks.trace ≡ false = ap (λ (m : Marks). m.trace) same ∙ e in
    (λ on. absurd (false≢true (sym off ∙ on)), λ is. absurd (other is))

-- one of the statuses of the end of a script
pub end-status : (status : ℕ) → (status ≡ 0) ⊎ ((status ≡ 5) ⊎ (status ≡ 8)) → status ≡ 9 → ⊥
end-status status is e = ⊎_elim (λ h. omega (arith, h, e)) (λ h. ⊎_elim (λ i. omega (arith, i, e)) (λ i. omega (arith, i, e)) h) is

-- a journal is handed back at this status
pub handed-at : (n : ℕ) → (n ≡ 8 → ⊥) → (true ≡ false → n ≡ 8) × (n ≡ 8 → true ≡ false)
handed-at n a = (λ e. absurd (cc), λ s. absurd (a s))

-- a script that has only lines has none that is refused
pub none-refused : (left : Option (List ℕ)) (number : ℕ) (s : Stretch) → s.number ≡ 1 → FollowsUpTo left number s → HasOnlyLines (ids_at (end_point s)) left → ⊥
none-refused None number s one f only = only
none-refused (Some bytes) number s one f only =
    let place : number ≡ length f.before + 1 = omega (arith, one, f.place) in
    only f.before f.behind f.line f.parts (subst (λ n. IsRefused (ids_at (end_point s)) n f.line) place f.refused)
