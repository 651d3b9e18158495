use Rattle.std.proofs.Common.{rules}
use Rattle.share_bench.proofs.Fresh.{running-same, unnoted-same, frames-same, none-given}
use Rattle.share_bench.proofs.made.store_over.Goals as goal

pub new-requires-after_bounds : goal.new-requires-after_bounds
new-requires-after_bounds g c κs within =
    let w = c.into_parts-logged.result.0 in
    let v = c.args.journal in
    let same = c.into_parts-logged.ensures.logged in
    let f = frames-same w v c.into_parts-logged.result.1.items same c.into_parts-logged.ensures.frames in
    (search rules, (search rules, (search rules, (search rules, (f.size.1, (running-same w v same c.requires.0, (unnoted-same w v same c.requires.1, ((f.some, f.few), (f.pages, f.agree)))))))))

pub returns-in-Ok : goal.returns-in-Ok
returns-in-Ok g c = none-given c.in-Ok.both.0 c.in-Ok.both.1 (search rules) (search rules)
