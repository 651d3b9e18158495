use Rattle.red_walk.proofs.Members.{Contains-has, has-Contains}
use Rattle.red_walk.proofs.RoundLaws.{copied-law, touched-law, removed-law, look-law, copy-law, verdict-law}
use Rattle.red_walk.proofs.WorkLaws.{look-work-law, copy-work-law, join-work-law, touch-work-law}
use Rattle.red_walk.proofs.KeptLaws.{moved-to-law, moved-walk-law, joined-walk-law, copied-walk-law, touched-walk-law, removed-walk-law}
use Rattle.red_walk.proofs.laws.walks_are_rounds.Goals as goal

pub returns-clause-tells : goal.returns-clause-tells
returns-clause-tells c = λ ids id. (λ h. Contains-has ids id h, λ m. has-Contains ids id m)

pub returns-clause-jumps : goal.returns-clause-jumps
returns-clause-jumps c = moved-to-law

pub returns-clause-copies : goal.returns-clause-copies
returns-clause-copies c = copied-law

pub returns-clause-touches : goal.returns-clause-touches
returns-clause-touches c = touched-law

pub returns-clause-removes : goal.returns-clause-removes
returns-clause-removes c = removed-law

pub returns-clause-looks : goal.returns-clause-looks
returns-clause-looks c = look-law

pub returns-clause-asks_for_copies : goal.returns-clause-asks_for_copies
returns-clause-asks_for_copies c = copy-law

pub returns-clause-asks_for_the_verdict : goal.returns-clause-asks_for_the_verdict
returns-clause-asks_for_the_verdict c = verdict-law

pub returns-clause-looks_are_work : goal.returns-clause-looks_are_work
returns-clause-looks_are_work c = look-work-law

pub returns-clause-copies_are_work : goal.returns-clause-copies_are_work
returns-clause-copies_are_work c = copy-work-law

pub returns-clause-joins_were_counted : goal.returns-clause-joins_were_counted
returns-clause-joins_were_counted c = join-work-law

pub returns-clause-touches_are_no_work : goal.returns-clause-touches_are_no_work
returns-clause-touches_are_no_work c = touch-work-law

pub returns-clause-moves_keep : goal.returns-clause-moves_keep
returns-clause-moves_keep c = moved-walk-law

pub returns-clause-joins_keep : goal.returns-clause-joins_keep
returns-clause-joins_keep c = joined-walk-law

pub returns-clause-copies_keep : goal.returns-clause-copies_keep
returns-clause-copies_keep c = copied-walk-law

pub returns-clause-touches_keep : goal.returns-clause-touches_keep
returns-clause-touches_keep c = touched-walk-law

pub returns-clause-removes_keep : goal.returns-clause-removes_keep
returns-clause-removes_keep c = removed-walk-law
