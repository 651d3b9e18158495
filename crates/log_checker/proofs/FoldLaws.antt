-- The fold of a log, one record more.
use Rattle.std.proofs.Common.{◌≡◌, ℕ, ◌+◌, List, [], ◌∷◌, ◌++◌, sym, ap, ◌∙◌, append_assoc}
use Rattle.std.specs.Prelude.{count_by, cond}
use Rattle.std.proofs.lemmas.List.{append-nil}
use Rattle.std.proofs.lemmas.List.Sums.{fold-append, sum_by-append}
use Rattle.plain_model.specs.declared.object.Object.{Object}
use Rattle.plain_model.specs.declared.write.Write.{Write}
use Rattle.plain_model.specs.Graphs.{after_write, applied}
use Rattle.log_record.specs.declared.record.Record.{Record}
use Rattle.log_checker.specs.Commits.{open_after, open_writes, committed_by, committed_behind, folded, is_commit, commit_count}

pub open_more : {slots : ℕ} (pass : ℕ) (rs : List (Record slots)) (r : Record slots) → open_writes pass (rs ++ r ∷ []) ≡ open_after pass (open_writes pass rs) r
open_more {slots} pass rs r = fold-append (open_after {slots = slots} pass) [] rs (r ∷ [])

committed_more : {slots : ℕ} (before rs : List (Record slots)) (r : Record slots) → committed_behind before (rs ++ r ∷ []) ≡ committed_behind before rs ++ committed_by (before ++ rs) r
committed_more {slots} before [] r = append-nil (committed_by before r) ∙ ap (λ (l : List (Record slots)). committed_by l r) (sym (append-nil before))
committed_more {slots} before (x ∷ rs) r =
    ap (λ (l : List Write). committed_by before x ++ l) (committed_more (before ++ x ∷ []) rs r)
    ∙ sym (append_assoc (committed_by before x) (committed_behind (before ++ x ∷ []) rs) (committed_by ((before ++ x ∷ []) ++ rs) r))
    ∙ ap (λ (l : List (Record slots)). (committed_by before x ++ committed_behind (before ++ x ∷ []) rs) ++ committed_by l r) (append_assoc before (x ∷ []) rs)

pub folded_more : {slots : ℕ} (g : List Object) (rs : List (Record slots)) (r : Record slots) → folded g (rs ++ r ∷ []) ≡ applied slots (folded g rs) (committed_by rs r)
folded_more {slots} g rs r =
    ap (λ (l : List Write). applied slots g l) (committed_more [] rs r)
    ∙ fold-append (after_write slots) g (committed_behind [] rs) (committed_by rs r)

pub count_more : {slots : ℕ} (rs : List (Record slots)) (r : Record slots) → commit_count (rs ++ r ∷ []) ≡ commit_count rs + count_by is_commit (r ∷ [])
count_more {slots} rs r = sum_by-append (λ (x : Record slots). cond (is_commit x) 1 0) rs (r ∷ [])
