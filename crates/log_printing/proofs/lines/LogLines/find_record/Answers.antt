use Rattle.std.proofs.Common.{◌≡◌, ℕ, ◌<◌, ◌≤◌, List, length, refl, sym, ap, subst, ◌∙◌, arith, rules}
use Rattle.log_printing.specs.Lines.{Place, AreLeft}
use Rattle.log_printing.proofs.LineLaws.{place_within}
use Rattle.log_printing.proofs.lines.LogLines.find_record.Goals as goal
