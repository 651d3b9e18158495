use Rattle.std.proofs.Common.{◌≡◌, ℕ, ◌+◌, ◌-◌, ◌<◌, ◌≤◌, ◌++◌, List, length, take, drop, arith, rules, refl, sym, ◌∙◌, subst}
use Rattle.std.specs.Prelude.{slice_index}
use Rattle.std.proofs.lemmas.List.{length-drop, take_all}
use Rattle.gate_log.specs.Batches.{sized, IsBody}
use Rattle.gate_log.specs.CommitBytes.{no_batch}
use Rattle.log_printing.proofs.AreaLaws.{batch_of_sized, no_batch_there, batch_within}
use Rattle.log_printing.proofs.areas.body_at.Goals as goal

pub returns-in-Some-clause-batch : goal.returns-in-Some-clause-batch
returns-in-Some-clause-batch c =
    let size : length (drop (c.args.at + 1) c.args.area.now) ≤ length c.args.area.now - (c.args.at + 1) = omega (arith, length-drop (c.args.at + 1) c.args.area.now) in
    let left : take (length c.args.area.now - (c.args.at + 1)) (drop (c.args.at + 1) c.args.area.now) ≡ drop (c.args.at + 1) c.args.area.now = take_all _ _ size in
    let inside : c.args.at < length c.args.area.now = search rules in
    let is_open : slice_index c.args.area.now c.args.at ≡ 1 = search rules in
    let found = c.in-Some.ensures.some in
    batch_of_sized c.args.at c.in-Some.body.now found.1 c.args.area.now inside is_open found.0 (sym left ∙ found.2)

pub returns-in-None-clause-damaged : goal.returns-in-None-clause-damaged
returns-in-None-clause-damaged c =
    let size : length (drop (c.args.at + 1) c.args.area.now) ≤ length c.args.area.now - (c.args.at + 1) = omega (arith, length-drop (c.args.at + 1) c.args.area.now) in
    let left : take (length c.args.area.now - (c.args.at + 1)) (drop (c.args.at + 1) c.args.area.now) ≡ drop (c.args.at + 1) c.args.area.now = take_all _ _ size in
    let inside : c.args.at < length c.args.area.now = search rules in
    let is_open : slice_index c.args.area.now c.args.at ≡ 1 = search rules in
    no_batch (search rules) (record {
      inside = inside;
      is_open = is_open;
      none = no_batch_there c.args.at c.args.area.now inside (λ body rest whole are. c.in-None.ensures.none body rest whole (left ∙ are));
    }) refl
