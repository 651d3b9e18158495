use Rattle.std.proofs.Common.{◌≡◌, ◌≤◌, Err, ap, sym, ◌∙◌, rules, arith, ⊎_elim}
use Rattle.log_checker.proofs.RecordLaws.{within_cells, beside_next, took_one}
use Rattle.log_checker.proofs.feeding.take_of_any_kind.Goals as goal

pub returns-in-Ok-take-clause-took : goal.returns-in-Ok-take-clause-took
returns-in-Ok-take-clause-took g c is = record {
  taken = record {
    r = c.in-Some.rec;
    next = λ rs are. let n = c.in-Some.ensures.next rs are in (n.0, n.1, n.2);
    place = c.in-Some.ensures.place;
    fewer = c.in-Some.ensures.fewer;
    fits = c.in-Ok.ensures.unfit.0 (λ e. cc e);
    took = c.in-Ok.ensures.ok;
  };
  told = c.in-Ok-take.ensures.told;
  beside = beside_next {slots = g.row.SLOTS} c.args.replay.now c.take.new.self c.args.tally.now c.take-in-Some.new.self c.args.records.now c.next.new.self (c.in-Some.rec) c.in-Ok.ensures.ok c.take-in-Some.ensures.sized c.take-in-Some.ensures.counted
      c.in-Some.ensures.fewer c.requires.beside;
}

pub next-requires : goal.next-requires
next-requires g c =
    let small : g.row.SLOTS ≤ 14 = ⊎_elim (λ six. omega arith) (λ fourteen. omega arith) c.requires.count in
    (search rules, search rules)

pub take-requires : goal.take-requires
take-requires g c =
    let small : g.row.SLOTS ≤ 14 = ⊎_elim (λ six. omega arith) (λ fourteen. omega arith) c.requires.count in
    (search rules, (search rules, c.in-Some.ensures.spelled))

pub returns-in-Err-Unfit-clause-damaged : goal.returns-in-Err-Unfit-clause-damaged
returns-in-Err-Unfit-clause-damaged g c at is =
    let same : c.in-Some.at ≡ at = cc is in
    record {
      r = c.in-Some.rec;
      next = λ rs are. let n = c.in-Some.ensures.next rs are in (n.0, n.1, sym same ∙ n.3);
      unfit = λ fits. c.in-Err-Unfit.ensures.unfit.1 fits (ap Err c.in-Err-Unfit.field-0-is);
    }
