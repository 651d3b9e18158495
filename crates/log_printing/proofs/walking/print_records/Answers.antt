use Rattle.std.proofs.Common.{◌≡◌, ℕ, ◌<◌, ◌≤◌, List, [], ◌++◌, length, take, Option, Err, ⊎_elim, refl, sym, ap, subst, ◌∙◌, arith, rules}
use Rattle.std.specs.Prelude.{IfSome, MatchOption}
use Rattle.std.specs.Io.KnownBytes.{Appends}
use Rattle.script_lines.proofs.OutputLemmas.{Appends-none, Appends-trans}
use Rattle.store_opening.proofs.WalkLaws.{some_more, some_both}
use Rattle.store_opening.proofs.LookLaws.{no_look, and_look}
use Rattle.log_printing.specs.declared.walking.Span.{Span}
use Rattle.log_printing.specs.declared.walking.WalkFault.TheVariants.{Disk, Write, Changed}
use Rattle.log_printing.specs.Walks.{first_place, place_of, PrintsTo, PrintsFront, PrintsAll, IsNoPlace}
use Rattle.log_printing.proofs.WindowLaws.{told_then}
use Rattle.log_printing.proofs.WalkLaws.{no_log, goes_nowhere, prints_both, prints_front, prints_front_behind, prints_rest, no_place_behind}
use Rattle.log_printing.proofs.PrintLaws.{front_behind}
use Rattle.log_printing.proofs.walking.print_records.Goals as goal

pub returns-then-log-eq0-clause-changed : goal.returns-then-log-eq0-clause-changed
returns-then-log-eq0-clause-changed g c place is =
    let none : c.args.log.len ≡ 0 = search rules in (
      [],
      Appends-none (g.W.Sink.written c.args.out.now),
      some_more (g.D.Disk.content c.args.disk.now c.args.log.area) (λ a. c.args.log.len ≤ length a) (λ a. IsNoPlace g.row.SLOTS (take c.args.log.len a) first_place)
          (λ a h. no_log g.row.SLOTS c.args.log.len a first_place none) c.requires.there,
    )

pub records-init : goal.records-init
records-init g c =
    let some : 0 < c.args.log.len = search rules in (
      [],
      Appends-none (g.W.Sink.written c.args.out.now),
      some_more (g.D.Disk.content c.args.disk.now c.args.log.area) (λ a. c.args.log.len ≤ length a) (λ a. PrintsTo g.row.SLOTS (take c.args.log.len a) first_place first_place [])
          (λ a h. goes_nowhere g.row.SLOTS (take c.args.log.len a) first_place) c.requires.there,
      omega arith,
      some,
      c.new-window.ensures c.args.log.len (g.D.Disk.content c.args.disk.now c.args.log.area) c.requires.there,
      no_look g.D.Disk.content c.args.disk.now g.D.Disk.only_now,
      refl,
      refl,
    )

pub records-preserved : goal.records-preserved
records-preserved g c =
    let i = c.records.invariant in
    let len = c.args.log.len in
    let n = c.in-Ok-Some.next in
    let first = g.D.Disk.content c.args.disk.now c.args.log.area in
    let now = g.D.Disk.content c.records.disk c.args.log.area in
    let p = place_of c.records.span in
    let printed = subst (λ (o : Option Span). (line : List ℕ) × Appends (g.W.Sink.written c.records.out) (g.W.Sink.written c.print_next.new.out) line
    × IfSome now (λ a. MatchOption o (PrintsAll g.row.SLOTS (take len a) p line) (λ s. PrintsTo g.row.SLOTS (take len a) p (place_of s) line))) c.in-Ok-Some.field-0-is c.in-Ok-Some.ensures.printed in
    let goes = subst (λ (o : Option Span). IfSome o (λ s. (c.records.span.at < s.at) × (s.at ≤ s.end) × (s.end < len))) c.in-Ok-Some.field-0-is c.in-Ok-Some.ensures.goes_on in (
      i.0 ++ printed.0,
      Appends-trans (g.W.Sink.written c.args.out.now) (g.W.Sink.written c.records.out) (g.W.Sink.written c.print_next.new.out) i.0 printed.0 i.1 printed.1,
      some_both first (λ a. PrintsTo g.row.SLOTS (take len a) first_place p i.0) (λ a. PrintsTo g.row.SLOTS (take len a) p (place_of n) printed.0)
          (λ a. PrintsTo g.row.SLOTS (take len a) first_place (place_of n) (i.0 ++ printed.0))
          (λ a before step. prints_both g.row.SLOTS (take len a) first_place p (place_of n) i.0 printed.0 before step) i.2
          (told_then first now (λ a. PrintsTo g.row.SLOTS (take len a) p (place_of n) printed.0) (i.6.keeps c.args.log.area).same printed.2),
      goes.1,
      goes.2,
      c.print_next.ensures.window,
      and_look g.D.Disk.content i.6 c.print_next.ensures.looks,
      c.in-Ok-Some.ensures.cause.disk_kept (λ e. absurd (cc e)) ∙ i.7,
      c.in-Ok-Some.ensures.cause.sink_kept (λ e. absurd (cc e)) ∙ i.8,
    )

pub returns-in-Ok-None-clause-all : goal.returns-in-Ok-None-clause-all
returns-in-Ok-None-clause-all g c =
    let i = c.records.invariant in
    let len = c.args.log.len in
    let first = g.D.Disk.content c.args.disk.now c.args.log.area in
    let now = g.D.Disk.content c.records.disk c.args.log.area in
    let p = place_of c.records.span in
    let printed = subst (λ (o : Option Span). (line : List ℕ) × Appends (g.W.Sink.written c.records.out) (g.W.Sink.written c.print_next.new.out) line
    × IfSome now (λ a. MatchOption o (PrintsAll g.row.SLOTS (take len a) p line) (λ s. PrintsTo g.row.SLOTS (take len a) p (place_of s) line))) c.in-Ok-None.field-0-is c.in-Ok-None.ensures.printed in (
      i.0 ++ printed.0,
      Appends-trans (g.W.Sink.written c.args.out.now) (g.W.Sink.written c.records.out) (g.W.Sink.written c.print_next.new.out) i.0 printed.0 i.1 printed.1,
      some_both first (λ a. PrintsTo g.row.SLOTS (take len a) first_place p i.0) (λ a. PrintsAll g.row.SLOTS (take len a) p printed.0)
          (λ a. PrintsAll g.row.SLOTS (take len a) first_place (i.0 ++ printed.0))
          (λ a before step. prints_rest g.row.SLOTS (take len a) first_place p i.0 printed.0 before step) i.2
          (told_then first now (λ a. PrintsAll g.row.SLOTS (take len a) p printed.0) (i.6.keeps c.args.log.area).same printed.2),
    )

pub returns-in-Err-clause-write : goal.returns-in-Err-clause-write
returns-in-Err-clause-write g c is =
    let i = c.records.invariant in
    let len = c.args.log.len in
    let was : c.in-Err.fault ≡ Write = cc is in
    let first = g.D.Disk.content c.args.disk.now c.args.log.area in
    let now = g.D.Disk.content c.records.disk c.args.log.area in
    let p = place_of c.records.span in
    let old = g.W.Sink.written c.args.out.now in
    let mid = g.W.Sink.written c.records.out in
    let new = g.W.Sink.written c.print_next.new.out in
    let cut = c.in-Err.ensures.write (ap Err was) in (
      i.0 ++ cut.0,
      front_behind old mid new i.0 cut.0 (λ a b. Appends-trans old mid new a b) i.1 cut.1,
      some_both first (λ a. PrintsTo g.row.SLOTS (take len a) first_place p i.0) (λ a. PrintsFront g.row.SLOTS (take len a) p cut.0)
          (λ a. PrintsFront g.row.SLOTS (take len a) first_place (i.0 ++ cut.0))
          (λ a before step. prints_front_behind g.row.SLOTS (take len a) first_place p i.0 cut.0 before step) i.2
          (told_then first now (λ a. PrintsFront g.row.SLOTS (take len a) p cut.0) (i.6.keeps c.args.log.area).same cut.2),
    )

pub returns-in-Err-clause-disk : goal.returns-in-Err-clause-disk
returns-in-Err-clause-disk g c is =
    let i = c.records.invariant in
    let len = c.args.log.len in
    let was : c.in-Err.fault ≡ Disk = cc is in
    let first = g.D.Disk.content c.args.disk.now c.args.log.area in
    let p = place_of c.records.span in
    let old = g.W.Sink.written c.args.out.now in
    let mid = g.W.Sink.written c.records.out in
    let new = g.W.Sink.written c.print_next.new.out in
    let none : Appends mid new [] = ⊎_elim (λ w. let h : Disk ≡ Write = sym was ∙ w in absurd (cc h)) (λ none. none) c.in-Err.ensures.unwritten in (
      i.0 ++ [],
      Appends-trans old mid new i.0 [] i.1 none,
      some_more first (λ a. PrintsTo g.row.SLOTS (take len a) first_place p i.0) (λ a. PrintsFront g.row.SLOTS (take len a) first_place (i.0 ++ []))
          (λ a before. prints_front g.row.SLOTS (take len a) first_place p (i.0 ++ []) (prints_both g.row.SLOTS (take len a) first_place p p i.0 [] before (goes_nowhere g.row.SLOTS (take len a) p))) i.2,
    )

pub returns-in-Err-clause-changed : goal.returns-in-Err-clause-changed
returns-in-Err-clause-changed g c place is =
    let i = c.records.invariant in
    let len = c.args.log.len in
    let was : c.in-Err.fault ≡ Changed place = cc is in
    let first = g.D.Disk.content c.args.disk.now c.args.log.area in
    let now = g.D.Disk.content c.records.disk c.args.log.area in
    let p = place_of c.records.span in
    let old = g.W.Sink.written c.args.out.now in
    let mid = g.W.Sink.written c.records.out in
    let new = g.W.Sink.written c.print_next.new.out in
    let none : Appends mid new [] = ⊎_elim (λ w. let h : Changed place ≡ Write = sym was ∙ w in absurd (cc h)) (λ none. none) c.in-Err.ensures.unwritten in (
      i.0 ++ [],
      Appends-trans old mid new i.0 [] i.1 none,
      some_both first (λ a. PrintsTo g.row.SLOTS (take len a) first_place p i.0) (λ a. IsNoPlace g.row.SLOTS (take len a) p) (λ a. IsNoPlace g.row.SLOTS (take len a) first_place)
          (λ a before no. no_place_behind g.row.SLOTS (take len a) first_place p i.0 before no) i.2
          (told_then first now (λ a. IsNoPlace g.row.SLOTS (take len a) p) (i.6.keeps c.args.log.area).same (c.in-Err.ensures.changed place (ap Err was))),
    )
