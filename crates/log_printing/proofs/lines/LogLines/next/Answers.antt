use Rattle.std.proofs.Common.{◌≡◌, ℕ, List, [], refl, sym, ap, subst, ◌∙◌, rules, true, false}
use Rattle.log_record.specs.declared.record.Record.{Record}
use Rattle.log_printing.specs.Text.{lines_of}
use Rattle.log_printing.proofs.lines.LogLines.next.Goals as goal

pub returns-then-not-find_record-clause-next : goal.returns-then-not-find_record-clause-next
returns-then-not-find_record-clause-next g c text gives =
    let none : c.find_record.result ≡ false = search rules in
    gives.2 ∙ ap (λ (l : List (ℕ × Record g.row.SLOTS)). lines_of l) (c.find_record.ensures.none none gives.0 gives.1)

pub returns-clause-next : goal.returns-clause-next
returns-clause-next g c text gives =
    let found : c.find_record.result ≡ true = search rules in
    let goes = c.find_record.ensures.more found in
    c.take_line.ensures.next text (gives.0, goes.keeps gives.0 gives.1, gives.2)
