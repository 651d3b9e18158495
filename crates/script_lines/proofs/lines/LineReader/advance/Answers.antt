use Rattle.std.proofs.Common.{arith, ◌≡◌, ◌-◌, ◌<◌, take, length, ℕ, ap}
use Rattle.std.proofs.lemmas.List.{length-take}
use Rattle.script_lines.specs.LineReader.{pending}
use Rattle.script_lines.proofs.ReadLemmas.{TakesLine-cut, TakesLine-behind, Finds-all, BeginsWithLongLine-full}
use Rattle.script_lines.proofs.LineLemmas.{no_place, at_place}
use Rattle.script_lines.proofs.lines.LineReader.advance.Goals as goal

pub returns-in-Some-clause-found : goal.returns-in-Some-clause-found
returns-in-Some-clause-found g c =
    let p = at_place _ c.in-Some.at c.in-Some.ensures in
    rw (c.take_line.ensures.line, c.take_line.ensures.pending) (TakesLine-cut (g.R.Source.left c.args.source.now) _ c.in-Some.at p.0 p.1 p.2)

pub read_line_feed-requires-clause-none : goal.read_line_feed-requires-clause-none
read_line_feed-requires-clause-none g c = rw c.move_to_front.ensures (no_place (pending c.args.self.now) c.in_default.ensures)

pub returns-in-Some-2-clause-found : goal.returns-in-Some-2-clause-found
returns-in-Some-2-clause-found g c =
    let h = rw c.in-Some-2.is at c.in_ok-at.ensures.found in
    let k = rw c.move_to_front.ensures at c.in_ok-at.ensures.bytes in
    let end = c.read_line_feed.new.end in
    let same : end - 0 ≡ end = omega arith in
    rw (c.take_line-in-Some-2.ensures.line, c.take_line-in-Some-2.ensures.pending)
    (TakesLine-behind _ _ c.read_line_feed.new.buffer _ end c.in-Some-2.at k (ap (λ (n : ℕ). take n c.read_line_feed.new.buffer) same) h)

pub returns-in-None-clause-found : goal.returns-in-None-clause-found
returns-in-None-clause-found g c =
    let h = rw c.in-None.is at c.in_ok-at.ensures.found in
    let k = rw c.move_to_front.ensures at c.in_ok-at.ensures.bytes in
    let end = c.read_line_feed.new.end in
    let buffer = c.read_line_feed.new.buffer in
    let long : 130 < length (take end buffer) = omega (arith, length-take end buffer, c.in_ok-at.ensures.size, c.if-self-eq-BUFFER.true) in
    BeginsWithLongLine-full _ _ (take end buffer) long h k

pub returns-in-None-2-clause-found : goal.returns-in-None-2-clause-found
returns-in-None-2-clause-found g c =
    let h = rw c.in-None.is at c.in_ok-at.ensures.found in
    let k = rw c.move_to_front.ensures at c.in_ok-at.ensures.bytes in
    let e = rw c.in-None.is at c.in_ok-at.ensures.all in
    let end = c.read_line_feed.new.end in
    let buffer = c.read_line_feed.new.buffer in
    let same : end - 0 ≡ end = omega arith in
    let last = c.take_last_line.ensures in
    let below : end < 4096 = omega (arith, c.in_ok-at.ensures.within, c.if-self-eq-BUFFER.false) in
    let one = rw (ap (λ (n : ℕ). take n buffer) same) at last.one in
    let line = rw (ap (λ (n : ℕ). take n buffer) same) at last.line in
    Finds-all c.take_last_line.result _ _ (take end buffer) _ _ line one last.pending h k (e below)
