use Rattle.std.proofs.Common.{refl, sym, ap, ◌∙◌, Option, Some, inr}
use Rattle.restart_laws.specs.Unended.{Unended}
use Rattle.log_replay.specs.Rows.{entries_of}
use Rattle.log_replay.proofs.RowLaws.{Entries, same-lent, found-in, missed-in, read, inside-set, entries-set, set-kept}
use Rattle.log_replay.proofs.transactions.Transactions.get_mut.Goals as goal

pub invariant_of-self-lent : goal.invariant_of-self-lent
invariant_of-self-lent c w =
    let rows = c.self.inside.rows.items in
    rw c.in-Some-Some.field-0-is (inside-set rows c.args.pass (Some w) c.self.invariant)

pub returns-in-Some-Some : goal.returns-in-Some-Some
returns-in-Some-Some c =
    let rows = c.self.inside.rows.items in
    let own = read rows rows c.args.pass c.in-Some-Some.field-0.now refl c.in-Some-Some.ensures.item.3.0 c.in-Some-Some.ensures.item.1 ∙ ap (λ (o : Option Unended). Some o) c.in-Some-Some.field-0-is in
    rw (← c.self.view_is, c.in-Some-Some.field-0-is) (
      same-lent _ _ _ (λ w. ap (λ (es : Entries). record { entries = es }) (entries-set rows c.args.pass c.in-Some-Some.transaction w own)),
      record { writes_back = tt; value = sym (found-in rows rows c.args.pass c.in-Some-Some.field-0.now refl c.in-Some-Some.ensures.item.3.0 c.in-Some-Some.ensures.item.1 ∙ c.in-Some-Some.field-0-is) },
    )

pub returns-in-Some-None : goal.returns-in-Some-None
returns-in-Some-None c =
    let rows = c.self.inside.rows.items in
    rw (← c.self.view_is) (
      (λ i. inr (record { entries = entries_of (set-kept rows c.args.pass _ c.in-Some-None.ensures.item.1 i) })),
      record { writes_back = tt; value = sym (found-in rows rows c.args.pass c.in-Some-None.field-0.now refl c.in-Some-None.ensures.item.3.0 c.in-Some-None.ensures.item.1 ∙ c.in-Some-None.field-0-is) },
    )

pub returns-in-None : goal.returns-in-None
returns-in-None c =
    let rows = c.self.inside.rows.items in
    rw (← c.self.view_is) (refl, record { writes_back = tt; value = sym (missed-in rows rows c.args.pass refl c.in-None.ensures.item.3) })
