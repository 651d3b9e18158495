use Rattle.std.proofs.Common.{◌≡◌, ◌+◌, ◌-◌, ◌≤◌, length, take, drop, arith, rules}
use Rattle.store_opening.proofs.WalkLaws.{some_more}
use Rattle.current_log.proofs.WindowLaws.{part_held, front_read, told_same}
use Rattle.current_log.proofs.window.find.Goals as goal

pub returns-then-start-window-clause-bytes : goal.returns-then-start-window-clause-bytes
returns-then-start-window-clause-bytes g c =
    let w = c.args.window.now in
    let low : w.«from» ≤ c.args.at = search rules in
    let small : c.args.size ≤ w.count = search rules in
    let least : c.args.at - w.«from» ≤ w.count - c.args.size = search rules in
    some_more (g.D.Disk.content c.args.disk.now c.args.area) (λ a. take w.count w.bytes ≡ take w.count (drop w.«from» a))
    (λ a. take c.args.size (drop (c.args.at - w.«from») w.bytes) ≡ take c.args.size (drop c.args.at a))
    (λ a held. part_held w.count w.«from» c.args.at c.args.size (c.args.at - w.«from») w.bytes a held (omega (arith, low)) (omega (arith, small, least))) c.requires.window.held

pub returns-clause-bytes : goal.returns-clause-bytes
returns-clause-bytes g c =
    let count = c.min-count.result in
    let small : c.args.size ≤ count = search rules in
    some_more (g.D.Disk.content c.args.disk.now c.args.area) (λ a. take count c.read_front.new.bytes ≡ take count (drop c.args.at a))
    (λ a. take c.args.size (drop 0 c.read_front.new.bytes) ≡ take c.args.size (drop c.args.at a))
    (λ a read. front_read count c.args.at c.args.size c.read_front.new.bytes a read small) c.in_ok-read_front.ensures.bytes

pub returns-clause-window : goal.returns-clause-window
returns-clause-window g c =
    let count = c.min-count.result in
    let few : count ≤ 16384 = search rules in
    let old = g.D.Disk.content c.args.disk.now c.args.area in
    let new = g.D.Disk.content c.read_front.new.disk c.args.area in
    let same = (c.read_front.ensures.looks.keeps c.args.area).same in
    record {
      few = few;
      held = told_same old new (λ a. take count c.read_front.new.bytes ≡ take count (drop c.args.at a)) same c.in_ok-read_front.ensures.bytes;
    }
