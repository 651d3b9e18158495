use Rattle.std.proofs.Common.{◌≡◌, ℕ, ◌+◌, ◌-◌, take, drop, arith, ap, ◌∙◌}
use Rattle.script_lines.proofs.ReadLemmas.{Keeps-read, grown, none_behind, one_behind}
use Rattle.script_lines.proofs.lines.read_line_feed.Goals as goal

pub loop-end-preserved : goal.loop-end-preserved
loop-end-preserved g c =
    let old = c.loop-end.buffer in
    let new = c.read_behind.new.buffer in
    let s = c.loop-end.end in
    let n = c.in_ok-count.count in
    let kept = c.in_ok-count.ensures.kept in
    let same : s + n - s ≡ n = omega arith in
    record {
      size = c.read_behind.array_long;
      within = c.in_ok-count.ensures.bound;
      none = none_behind old new _ s n kept c.loop-end.invariant.none (ap (λ (m : ℕ). take m (drop s new)) same) c.in_default.ensures;
      bytes = rw (grown old new s n kept) (Keeps-read _ _ _ _ _ c.loop-end.invariant.bytes c.in_ok-count.ensures.bytes.0);
      unfailed = c.in_ok-count.ensures.cause.kept ∙ c.loop-end.invariant.unfailed;
    }

pub returns-in-Some-clause-bytes : goal.returns-in-Some-clause-bytes
returns-in-Some-clause-bytes g c = rw (grown c.loop-end.buffer c.read_behind.new.buffer c.loop-end.end c.in_ok-count.count c.in_ok-count.ensures.kept) (Keeps-read _ _ _ _ _ c.loop-end.invariant.bytes c.in_ok-count.ensures.bytes.0)

pub returns-in-Some-clause-found : goal.returns-in-Some-clause-found
returns-in-Some-clause-found g c =
    let new = c.read_behind.new.buffer in
    let s = c.loop-end.end in
    let n = c.in_ok-count.count in
    let same : s + n - s ≡ n = omega arith in
    let h = one_behind c.loop-end.buffer new _ s n c.in-Some.i c.in_ok-count.ensures.kept c.loop-end.invariant.none (ap (λ (m : ℕ). take m (drop s new)) same) c.in-Some.ensures in
    (omega (arith, h.0), h.1, h.2)
