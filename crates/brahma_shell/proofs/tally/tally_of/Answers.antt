use Rattle.std.proofs.Common.{◌≡◌, List, ◌∷◌, length, ap, ◌∙◌, arith}
use Rattle.core_store.specs.declared.note.Note.{Note}
use Rattle.brahma_shell.specs.declared.tally.Tally.{Tally}
use Rattle.brahma_shell.specs.Tally.{is_commit, is_abort, is_busy, is_deletion}
use Rattle.brahma_shell.proofs.TallyLemmas.{counted-none, counted-on, counted-all, few-none, few-more}
use Rattle.brahma_shell.proofs.tally.tally_of.Goals as goal

pub loop-note-init : goal.loop-note-init
loop-note-init c =
    let left = c.into_iter-note-iterator.result in
    let notes = c.args.notes.now.list in
    let all : left ≡ notes = c.into_iter-note-iterator.ensures.into_iter_gives ∙ c.iter-note-items.ensures in
    let commits = ap (λ (t : Tally). t.commits) c.new-tally.ensures in
    let aborts = ap (λ (t : Tally). t.aborts) c.new-tally.ensures in
    let busy = ap (λ (t : Tally). t.busy) c.new-tally.ensures in
    let deleted = ap (λ (t : Tally). t.deleted) c.new-tally.ensures in
    record {
      commits = counted-none is_commit left notes _ commits all;
      aborts = counted-none is_abort left notes _ aborts all;
      busy = counted-none is_busy left notes _ busy all;
      deleted = counted-none is_deletion left notes _ deleted all;
      few_commits = few-none left notes _ commits all;
      few_aborts = few-none left notes _ aborts all;
      few_busy = few-none left notes _ busy all;
      few_deleted = few-none left notes _ deleted all;
    }

pub loop-note-preserved : goal.loop-note-preserved
loop-note-preserved c =
    let left = c.loop-note.note-iterator in
    let rest = c.next.new.self in
    let note = c.in-Some.note in
    let is : left ≡ note ∷ rest = c.in-Some.ensures.steps in
    let was = c.loop-note.invariant in
    let now = c.with-tally.ensures in
    record {
      commits = counted-on is_commit note left rest _ _ _ is now.commits was.commits;
      aborts = counted-on is_abort note left rest _ _ _ is now.aborts was.aborts;
      busy = counted-on is_busy note left rest _ _ _ is now.busy was.busy;
      deleted = counted-on is_deletion note left rest _ _ _ is now.deleted was.deleted;
      few_commits = few-more note left rest _ _ _ (is_commit note.entry) is now.commits was.few_commits;
      few_aborts = few-more note left rest _ _ _ (is_abort note.entry) is now.aborts was.few_aborts;
      few_busy = few-more note left rest _ _ _ (is_busy note.entry) is now.busy was.few_busy;
      few_deleted = few-more note left rest _ _ _ (is_deletion note.entry) is now.deleted was.few_deleted;
    }

pub with-tally-requires : goal.with-tally-requires
with-tally-requires c =
    let is = ap (λ (ns : List Note). length ns) c.in-Some.ensures.steps in
    let few = c.loop-note.invariant in
    let commits = few.few_commits in
    let aborts = few.few_aborts in
    let busy = few.few_busy in
    let deleted = few.few_deleted in
    record { commits = omega (arith, is, commits); aborts = omega (arith, is, aborts); busy = omega (arith, is, busy); deleted = omega (arith, is, deleted) }

pub returns-clause-commits : goal.returns-clause-commits
returns-clause-commits c = counted-all is_commit c.loop-note.note-iterator _ _ c.in-None.ensures.steps.0 c.loop-note.invariant.commits

pub returns-clause-aborts : goal.returns-clause-aborts
returns-clause-aborts c = counted-all is_abort c.loop-note.note-iterator _ _ c.in-None.ensures.steps.0 c.loop-note.invariant.aborts

pub returns-clause-busy : goal.returns-clause-busy
returns-clause-busy c = counted-all is_busy c.loop-note.note-iterator _ _ c.in-None.ensures.steps.0 c.loop-note.invariant.busy

pub returns-clause-deleted : goal.returns-clause-deleted
returns-clause-deleted c = counted-all is_deletion c.loop-note.note-iterator _ _ c.in-None.ensures.steps.0 c.loop-note.invariant.deleted
