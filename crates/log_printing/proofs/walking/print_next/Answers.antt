use Rattle.std.proofs.Common.{◌≡◌, ℕ, List, [], take, subst, rules}
use Rattle.std.specs.Prelude.{IfSome, IfOk, MatchOption}
use Rattle.std.specs.Io.KnownBytes.{Appends}
use Rattle.script_lines.proofs.OutputLemmas.{Appends-none}
use Rattle.log_printing.specs.Walks.{place_of, PrintsTo, PrintsAll, IsNoPlace}
use Rattle.log_printing.proofs.PrintLaws.{ok_more}
use Rattle.log_printing.proofs.walking.print_next.Goals as goal

pub returns-then-span-clause-printed : goal.returns-then-span-clause-printed
returns-then-span-clause-printed g c =
    let at = c.args.span.at in
    let len = c.args.log.len in
    let same : at ≡ c.args.span.end = search rules in
    let now = g.D.Disk.content c.args.disk.now c.args.log.area in
    let found = subst (λ (e : ℕ). IfOk c.enter.result (λ next. IfSome now (λ a.
    MatchOption next (PrintsAll g.row.SLOTS (take len a) (record { at = at; end = e }) []) (λ s. PrintsTo g.row.SLOTS (take len a) (record { at = at; end = e }) (place_of s) []))))
    same (c.enter.ensures.found g.row.SLOTS) in
    ok_more c.enter.result
    (λ next. IfSome now (λ a. MatchOption next (PrintsAll g.row.SLOTS (take len a) (place_of c.args.span) []) (λ s. PrintsTo g.row.SLOTS (take len a) (place_of c.args.span) (place_of s) [])))
    (λ next. (line : List ℕ) × Appends (g.W.Sink.written c.args.out.now) (g.W.Sink.written c.args.out.now) line
    × IfSome now (λ a. MatchOption next (PrintsAll g.row.SLOTS (take len a) (place_of c.args.span) line) (λ s. PrintsTo g.row.SLOTS (take len a) (place_of c.args.span) (place_of s) line)))
    (λ next is. ([], Appends-none (g.W.Sink.written c.args.out.now), is)) found

pub returns-then-span-clause-changed : goal.returns-then-span-clause-changed
returns-then-span-clause-changed g c place is =
    let at = c.args.span.at in
    let same : at ≡ c.args.span.end = search rules in
    subst (λ (e : ℕ). IfSome (g.D.Disk.content c.args.disk.now c.args.log.area) (λ a. IsNoPlace g.row.SLOTS (take c.args.log.len a) (record { at = at; end = e }))) same (c.enter.ensures.changed g.row.SLOTS place is)
