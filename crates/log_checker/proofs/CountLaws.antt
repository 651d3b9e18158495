-- The commits of a log are fewer than its bytes.
use Rattle.std.proofs.Common.{◌≡◌, ℕ, ◌+◌, ◌≤◌, List, [], ◌∷◌, ◌++◌, length, refl, arith, length-append}
use Rattle.std.specs.Prelude.{cond, count_by}
use Rattle.std.specs.Int.{w32, to_be_bytes}
use Rattle.std.proofs.lemmas.List.Sums.{sum_by-append}
use Rattle.gate_log.specs.Batches.{batch_bytes}
use Rattle.log_record.specs.declared.cell_record.CellRecord.TheVariants.{Begin, Make, Store, Pay, Commit, Undo, AbortEnd, Weaken, Strengthen, Flip, CutDead, Free}
use Rattle.log_record.specs.declared.record.Record.{Record}
use Rattle.log_record.specs.declared.record.Record.TheVariants.{OfCells, Image, Turn}
use Rattle.log_record.specs.Spelling.{cell_record_bytes, record_bytes}
use Rattle.opened_images.specs.LogRecords.{body_of, all_of}
use Rattle.ship_stream.specs.Reading.{shipped_bytes}
use Rattle.log_checker.specs.Commits.{is_commit, commit_count}

commit_bytes : (pass : ℕ) → length (cell_record_bytes (Commit pass)) ≡ 2
unfolding cell_record_bytes
commit_bytes pass = refl

one_commit : {slots : ℕ} (r : Record slots) → cond (is_commit r) 1 0 ≤ length (record_bytes r)
one_commit (OfCells (Begin pass)) = omega arith
one_commit (OfCells (Make pass id)) = omega arith
one_commit (OfCells (Store pass id slot old_target old_strong new_target new_bit new_strong)) = omega arith
one_commit (OfCells (Pay pass id old_value new_value)) = omega arith
one_commit (OfCells (Commit pass)) = omega (arith, commit_bytes pass)
one_commit (OfCells (Undo pass place from_strong to_bit id «from» to)) = omega arith
one_commit (OfCells (AbortEnd pass)) = omega arith
one_commit (OfCells (Weaken id slot target)) = omega arith
one_commit (OfCells (Strengthen id slot target)) = omega arith
one_commit (OfCells (Flip id)) = omega arith
one_commit (OfCells (CutDead id slot target was_strong)) = omega arith
one_commit (OfCells (Free id)) = omega arith
one_commit (Image page cells) = omega arith
one_commit (Turn version pages) = omega arith

body_commits : {slots : ℕ} (rs : List (Record slots)) → commit_count rs ≤ length (body_of rs)
body_commits [] = omega arith
body_commits {slots} (r ∷ rs) =
    let count : commit_count (r ∷ rs) ≡ commit_count (r ∷ []) + commit_count rs = sum_by-append (λ (x : Record slots). cond (is_commit x) 1 0) (r ∷ []) rs in
    let one : commit_count (r ∷ []) ≡ 0 + cond (is_commit r) 1 0 = refl in
    let bytes : length (body_of (r ∷ rs)) ≡ length (record_bytes r) + length (body_of rs) = length-append (record_bytes r) (body_of rs) in
    omega (arith, count, one, bytes, one_commit r, body_commits rs)

batch_longer : (body : List ℕ) → length body ≤ length (batch_bytes body)
batch_longer body = omega (arith, length-append (to_be_bytes w32 (length body)) body)

pub few_commits : {slots : ℕ} (batches : List (List (Record slots))) → commit_count (all_of batches) ≤ length (shipped_bytes batches)
few_commits [] = omega arith
few_commits {slots} (rs ∷ batches) =
    let count : commit_count (all_of (rs ∷ batches)) ≡ commit_count rs + commit_count (all_of batches) = sum_by-append (λ (x : Record slots). cond (is_commit x) 1 0) rs (all_of batches) in
    let bytes : length (shipped_bytes (rs ∷ batches)) ≡ length (batch_bytes (body_of rs)) + length (shipped_bytes batches) = length-append (batch_bytes (body_of rs)) (shipped_bytes batches) in
    omega (arith, count, bytes, few_commits batches, body_commits rs, batch_longer (body_of rs))
