use Rattle.std.proofs.Common.{◌≡◌, ℕ, ◌+◌, ◌-◌, ◌<◌, ◌≤◌, List, [], length, take, drop, refl, sym, ap, subst, ◌∙◌, arith, rules, length-drop}
use Rattle.std.proofs.lemmas.List.{length-take-le}
use Rattle.log_record.specs.Spelling.{record_bytes}
use Rattle.log_printing.specs.Lines.{Place, AreLeft, GivesText}
use Rattle.log_printing.proofs.TestLaws.{first_within}
use Rattle.log_printing.proofs.LineLaws.{head, line_next}
use Rattle.log_printing.proofs.lines.LogLines.take_line.Goals as goal

pub returns-in-Ok-clause-next : goal.returns-in-Ok-clause-next
returns-in-Ok-clause-next g c text gives =
    let v : Place = record { at = c.self.inside.at; end = c.self.inside.end } in
    let q : Place = record { at = c.self.inside.at + c.in-Ok.len; end = c.self.inside.end } in
    let some : c.self.inside.at < c.self.inside.end = subst (λ (w : Place). w.at < w.end) (sym c.self.view_is) c.requires.some in
    line_next c.requires.slots c.args.area.now text v q c.in-Ok.rec c.in-Ok.len c.record_line-line.result.bytes some c.in-Ok.ensures.ok refl refl c.record_line-line.ensures
    (subst (λ (w : Place). GivesText g.row.SLOTS c.args.area.now text w) (sym c.self.view_is) gives)

pub returns-in-Ok-clause-goes_on : goal.returns-in-Ok-clause-goes_on
returns-in-Ok-clause-goes_on g c =
    let front = take (c.self.inside.end - c.self.inside.at) (drop c.self.inside.at c.args.area.now) in
    let size = first_within front c.in-Ok.rec c.in-Ok.len c.in-Ok.ensures.ok in
    let at_is = ap (λ (w : Place). w.at) c.self.view_is in
    let end_is = ap (λ (w : Place). w.end) c.self.view_is in
    let within = c.requires.within in
    let some = c.requires.some in
    let long : c.self.inside.end - c.self.inside.at ≤ length (drop c.self.inside.at c.args.area.now) = omega (arith, length-drop c.self.inside.at c.args.area.now, within, end_is) in
    let short : length front ≡ c.self.inside.end - c.self.inside.at = length-take-le (c.self.inside.end - c.self.inside.at) (drop c.self.inside.at c.args.area.now) long in (
      omega (arith, size.0, at_is),
      omega (arith, size.1, short, at_is, end_is, within, some),
    )

pub returns-in-Err-clause-next : goal.returns-in-Err-clause-next
returns-in-Err-clause-next g c text gives =
    let v : Place = record { at = c.self.inside.at; end = c.self.inside.end } in
    let some : c.self.inside.at < c.self.inside.end = subst (λ (w : Place). w.at < w.end) (sym c.self.view_is) c.requires.some in
    let h = head c.args.area.now gives.0 v some (subst (λ (w : Place). AreLeft c.args.area.now gives.0 w) (sym c.self.view_is) gives.1) in
    absurd (c.in-Err.ensures.bad h.r (length (record_bytes h.r)) h.begins)
