use Rattle.std.proofs.Common.{ap, ◌∙◌}
use Rattle.log_replay.specs.Rows.{entries_of}
use Rattle.log_replay.specs.declared.transactions.Transactions.TheInside.{Inside}
use Rattle.log_replay.proofs.RowLaws.{entries-removed, removed-past}
use Rattle.log_replay.proofs.transactions.Transactions.remove.Goals as goal
use Rattle.log_replay.proofs.transactions.Transactions.remove.Goals.{in-Some+in-Some-1, in-Some+in-None-1, in_default}

pub returns : goal.returns
returns c =
    let rows = c.self.inside.rows.items in
    let here = entries-removed rows c.args.pass in
    rw (← c.self.view_is)
    (record {
      entries =
          elim c.match-get_mut.branch [
            | in-Some+in-Some-1 w ↦ ap (λ (s : Inside). entries_of s.rows.items) w.self-inside-is ∙ here
            | in-Some+in-None-1 w ↦ ap (λ (s : Inside). entries_of s.rows.items) w.self-inside-is ∙ here
            | in_default w ↦ ap (λ (s : Inside). entries_of s.rows.items) w.self-inside-is ∙ removed-past rows c.args.pass w.in_default.ensures.item.3
          ];
    })
