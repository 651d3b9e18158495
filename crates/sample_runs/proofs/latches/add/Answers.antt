use Rattle.std.proofs.Common.{◌≡◌, ◌≢◌, ℕ, List, [], ◌∷◌, ◌++◌, fold, Some, None, inl, refl, sym, ap, ◌∙◌}
use Rattle.std.proofs.lemmas.List.Sums.{fold-append}
use Rattle.std.specs.Prelude.{◌==◌, if◌then◌else◌}
use Rattle.latch_table.specs.Views.{frame_of, reframed, log_of, story, no_marks, entries_in}
use Rattle.latch_table.proofs.Frames.{if_same, if_other, none_some}
use Rattle.sample_runs.proofs.latches.add.Goals as goal

abbrev last_of : ℕ → List (ℕ × ℕ) → ℕ
last_of p es = fold (λ (old : ℕ) (e : ℕ × ℕ). if e.0 == p then e.1 else old) 0 es

written : (es : List (ℕ × ℕ)) (page value : ℕ) → last_of page (es ++ (page, value) ∷ []) ≡ value
written es page value = fold-append (λ (old : ℕ) (e : ℕ × ℕ). if e.0 == page then e.1 else old) 0 es ((page, value) ∷ []) ∙ if_same page page value (last_of page es) refl

unwritten : (es : List (ℕ × ℕ)) (page value p : ℕ) → page ≢ p → last_of p (es ++ (page, value) ∷ []) ≡ last_of p es
unwritten es page value p ne = fold-append (λ (old : ℕ) (e : ℕ × ℕ). if e.0 == p then e.1 else old) 0 es ((page, value) ∷ []) ∙ if_other page p value (last_of p es) ne

pub append-requires-clause-next : goal.append-requires-clause-next
append-requires-clause-next c =
    let has = c.requires.log in
    let known : log_of c.args.hold.now.view ≡ c.args.pairs.pairs.items = ap entries_in has in
    record {
      entry = (c.args.page, c.args.value);
      fixed = c.requires.of.1;
      entries = c.in_ok-push.ensures.items ∙ ap (λ es. es ++ (c.args.page, c.args.value) ∷ []) (sym known);
      log = (story c.args.pairs.pairs.items no_marks (0, 0), has, ((λ k e. e), (λ e. e), (λ e. e)));
      speaks = inl refl;
      others_same = λ k low none. unwritten (log_of c.args.hold.now.view) c.args.page c.args.value k
          (λ e. none_some c.requires.page.0 (sym none ∙ ap (λ ps. frame_of ps k) c.requires.page.1 ∙ ap (frame_of ((c.args.page, c.requires.page.0) ∷ [])) (sym e) ∙ if_same c.args.page c.args.page (Some c.requires.page.0) None refl));
    }

pub drop_log-requires-clause-log : goal.drop_log-requires-clause-log
drop_log-requires-clause-log c =
    let told = c.append.ensures.view in
    record {
      fixed = ap (λ v. v.knowledge.fixed) told.2 ∙ c.requires.of.1;
      log = (story (log_of c.args.hold.now.view ++ told.0 ∷ []) no_marks (0, 0), ap (λ v. v.hands.log) told.2, sym told.1, ((λ k e. e), (λ e. e), (λ e. e)));
    }

pub returns-clause-written : goal.returns-clause-written
returns-clause-written c =
    let told = c.append.ensures.view in
    let now : last_of c.args.page c.push.new.self.items ≡ c.args.value = ap (last_of c.args.page) c.in_ok-push.ensures.items ∙ written c.args.pairs.pairs.items c.args.page c.args.value in
    ap (λ v. v.hands.pages) c.drop_log.ensures.view ∙ ap (λ v. v.hands.pages) told.2
    ∙ ap (reframed (λ p. last_of p c.push.new.self.items)) c.requires.page.1
    ∙ ap (λ (x : ℕ). (c.args.page, x) ∷ []) now
