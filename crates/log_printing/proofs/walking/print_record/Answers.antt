use Rattle.std.proofs.Common.{◌≡◌, ℕ, ◌+◌, ◌-◌, ◌≤◌, List, take, drop, length-take, sym, ap, subst, ◌∙◌, arith, rules}
use Rattle.log_record.specs.Spelling.{BeginsWith}
use Rattle.store_opening.proofs.WalkLaws.{some_more}
use Rattle.log_printing.specs.Lines.{Place}
use Rattle.log_printing.specs.Walks.{PrintsTo, PrintsFront, IsNoPlace}
use Rattle.log_printing.proofs.WalkLaws.{prints_line, prints_front, no_record_there, first_within}
use Rattle.log_printing.proofs.walking.print_record.Goals as goal

pub returns-in-Ok-write_all-clause-printed : goal.returns-in-Ok-write_all-clause-printed
returns-in-Ok-write_all-clause-printed g c =
    let size = c.min-size.result in
    let fits : size ≤ c.args.span.end - c.args.span.at = search rules in
    let held : List ℕ = c.find.new.window.bytes in
    let cut : take (c.in-Ok.start + size - c.in-Ok.start) (drop c.in-Ok.start held) ≡ take size (drop c.in-Ok.start held) = ap (λ (n : ℕ). take n (drop c.in-Ok.start held)) (omega arith) in
    let p : Place = record { at = c.args.span.at; end = c.args.span.end } in (
      c.as_bytes.result.now,
      c.in-Ok-write_all.ensures.ok,
      some_more (g.D.Disk.content c.args.disk.now c.args.log.area) (λ a. take size (drop c.in-Ok.start held) ≡ take size (drop c.args.span.at (take c.args.log.len a)))
          (λ a. PrintsTo g.row.SLOTS (take c.args.log.len a) p (record { at = c.args.span.at + c.in-Ok-read.len; end = c.args.span.end }) c.as_bytes.result.now)
          (λ a same. prints_line c.requires.count (take c.args.log.len a) p size c.in-Ok-read.len c.in-Ok-read.rec c.as_bytes.result.now c.requires.some fits
          (subst (λ (l : List ℕ). BeginsWith l c.in-Ok-read.rec c.in-Ok-read.len) (cut ∙ same) c.in-Ok-read.ensures.ok) (c.as_bytes.ensures.value ∙ c.as_str.ensures.value ∙ c.record_line-line.ensures))
          c.in-Ok.ensures.bytes,
    )

pub returns-in-Ok-write_all-clause-goes_on : goal.returns-in-Ok-write_all-clause-goes_on
returns-in-Ok-write_all-clause-goes_on g c =
    let size = c.min-size.result in
    let fits : size ≤ c.args.span.end - c.args.span.at = search rules in
    let held : List ℕ = c.find.new.window.bytes in
    let f = first_within (take (c.in-Ok.start + size - c.in-Ok.start) (drop c.in-Ok.start held)) c.in-Ok-read.rec c.in-Ok-read.len c.in-Ok-read.ensures.ok in
    let short : c.in-Ok-read.len ≤ size = omega (arith, f.1, length-take (c.in-Ok.start + size - c.in-Ok.start) (drop c.in-Ok.start held)) in
    (omega (arith, f.0), omega (arith, short, fits, c.requires.some), c.requires.within)

pub returns-in-Err-write_all-clause-write : goal.returns-in-Err-write_all-clause-write
returns-in-Err-write_all-clause-write g c is =
    let size = c.min-size.result in
    let fits : size ≤ c.args.span.end - c.args.span.at = search rules in
    let held : List ℕ = c.find.new.window.bytes in
    let cut : take (c.in-Ok.start + size - c.in-Ok.start) (drop c.in-Ok.start held) ≡ take size (drop c.in-Ok.start held) = ap (λ (n : ℕ). take n (drop c.in-Ok.start held)) (omega arith) in
    let p : Place = record { at = c.args.span.at; end = c.args.span.end } in
    let q : Place = record { at = c.args.span.at + c.in-Ok-read.len; end = c.args.span.end } in (
      c.as_bytes.result.now,
      c.in-Err-write_all.ensures.front,
      some_more (g.D.Disk.content c.args.disk.now c.args.log.area) (λ a. take size (drop c.in-Ok.start held) ≡ take size (drop c.args.span.at (take c.args.log.len a)))
          (λ a. PrintsFront g.row.SLOTS (take c.args.log.len a) p c.as_bytes.result.now)
          (λ a same. prints_front g.row.SLOTS (take c.args.log.len a) p q c.as_bytes.result.now
          (prints_line c.requires.count (take c.args.log.len a) p size c.in-Ok-read.len c.in-Ok-read.rec c.as_bytes.result.now c.requires.some fits
          (subst (λ (l : List ℕ). BeginsWith l c.in-Ok-read.rec c.in-Ok-read.len) (cut ∙ same) c.in-Ok-read.ensures.ok) (c.as_bytes.ensures.value ∙ c.as_str.ensures.value ∙ c.record_line-line.ensures)))
          c.in-Ok.ensures.bytes,
    )

pub returns-in-Err-read-clause-changed : goal.returns-in-Err-read-clause-changed
returns-in-Err-read-clause-changed g c place is =
    let size = c.min-size.result in
    let fits : size ≤ c.args.span.end - c.args.span.at = search rules in
    let held : List ℕ = c.find.new.window.bytes in
    let cut : take (c.in-Ok.start + size - c.in-Ok.start) (drop c.in-Ok.start held) ≡ take size (drop c.in-Ok.start held) = ap (λ (n : ℕ). take n (drop c.in-Ok.start held)) (omega arith) in
    let p : Place = record { at = c.args.span.at; end = c.args.span.end } in
    some_more (g.D.Disk.content c.args.disk.now c.args.log.area) (λ a. take size (drop c.in-Ok.start held) ≡ take size (drop c.args.span.at (take c.args.log.len a)))
    (λ a. IsNoPlace g.row.SLOTS (take c.args.log.len a) p)
    (λ a same. no_record_there c.requires.count (take c.args.log.len a) p size c.requires.some fits (λ n low few. omega (arith, low, few, c.min-size.ensures))
    (λ r len b. c.in-Err-read.ensures.bad r len (subst (λ (l : List ℕ). BeginsWith l r len) (sym (cut ∙ same)) b)))
    c.in-Ok.ensures.bytes
