use Rattle.std.proofs.Common.{◌≤◌, ℕ, List, length, ◌*◌, ◌∙◌, Result, Ok, Err, ⊎_elim, sym, ap, subst, arith, rules}
use Rattle.std.specs.Prelude.{IfOk}
use Rattle.plain_model.specs.History.{History}
use Rattle.cell_model.specs.Cells.{Cell}
use Rattle.page_marks.specs.Marks.{IsMarkedBegun}
use Rattle.core_store.specs.JournalView.{JournalView, cells_of}
use Rattle.core_store.specs.Frames.{AllAgree}
use Rattle.logged_journal.proofs.logged.LoggedJournal.resume.Goals as goal

-- what follows of a value where there is one
when-ok : {T E : Type 0} (r : Result T E) (P Q : T → Type 0) → IfOk r P → ((x : T) → P x → Q x) → IfOk r Q
when-ok (Ok x) P Q has follows = follows x has
when-ok (Err e) P Q has follows = has

pub begin-requires-after_bounds : goal.begin-requires-after_bounds
begin-requires-after_bounds g c κs within =
    let j = c.in-Ok.journal in
    let made = c.in-Ok.ensures in
    let ids = ap (λ (h : History). h.ids) made.history in
    let own = ap (λ (h : History). h.slots) made.history in
    let small : g.row.SLOTS ≤ 14 = ⊎_elim (λ six. omega arith) (λ fourteen. omega arith) c.requires.size in
    let begun = c.requires.begun in (
      search rules,
      (
        search rules,
        (
          c.requires.size,
          (
            own,
            (
              ids ∙ ap (λ (n : ℕ). 8 * n) (sym c.requires.marked),
              (
                made.notes,
                (
                  c.requires.standing,
                  (
                    (
                      begun.0,
                      begun.1,
                      (λ area may. (
                        length c.args.frames.now,
                        ids,
                        subst (λ (s : ℕ). IsMarkedBegun s (length c.args.frames.now) area begun.0 j.opening c.args.marks) (sym own)
                            (subst (λ (cells : List Cell). IsMarkedBegun g.row.SLOTS (length c.args.frames.now) area begun.0 cells c.args.marks) (sym made.opening) (begun.2 area may)),
                      )),
                    ),
                    c.requires.long,
                  ),
                ),
              ),
            ),
          ),
        ),
      ),
    )

-- the journal is the one that opened
pub returns-in-Ok-clause-agree : goal.returns-in-Ok-clause-agree
returns-in-Ok-clause-agree g c =
    when-ok c.begin.result _ _ c.begin.ensures.journal (λ r is. subst (λ (j : JournalView). AllAgree (cells_of j) c.args.frames.now) (sym is.0) c.in-Ok.ensures.agree)
