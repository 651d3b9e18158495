use Rattle.std.proofs.Common.{◌≡◌, ap, sym, ◌∙◌}
use Rattle.std.specs.Map.{set_value}
use Rattle.std.specs.Ordering.{nat_cmp}
use Rattle.std.specs.BTreeMap.{is_at}
use Rattle.restart_laws.specs.Unended.{Unended}
use Rattle.log_replay.proofs.UnendedMaps.{more_on_err, set-own}
use Rattle.log_replay.proofs.unended.note.Goals as goal

pub returns-in-Some-clause-err : goal.returns-in-Some-clause-err
returns-in-Some-clause-err c =
    let es = c.args.unended.now.entries in
    more_on_err c.note_if_running.result _ _
    (λ (same : c.note_if_running.new.self ≡ c.in-Some.transaction.now).
    ap (λ (t : Unended). set_value (is_at (nat_cmp c.args.pass)) es t) same ∙ set-own c.args.pass c.in-Some.transaction.now es (sym c.in-Some.ensures.value))
    c.note_if_running.ensures.err
