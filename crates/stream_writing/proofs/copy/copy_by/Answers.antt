use Rattle.std.proofs.Common.{◌≡◌, ℕ, ◌+◌, ◌≤◌, List, length, take, drop, Option, Err, ap, subst, ◌∙◌, arith, length-take, length-drop, length-append, rules}
use Rattle.std.specs.Prelude.{IfSome}
use Rattle.store_opening.proofs.LookLaws.{and_look}
use Rattle.stream_writing.specs.declared.copy.CopyFault.TheVariants.{Write}
use Rattle.stream_writing.proofs.CopyLaws.{copied_more, copied_cut}
use Rattle.stream_writing.proofs.copy.copy_by.Goals as goal

pub pieces-preserved : goal.pieces-preserved
pieces-preserved g c =
    let count = c.min-count.result in
    let low : count ≤ length c.pieces.piece = search rules in
    let within : c.pieces.at + count ≤ c.args.len = search rules in
    let long : length (take count c.pieces.piece) ≡ count = omega (arith, length-take count c.pieces.piece, low) in
    let bytes = subst (λ (o : Option (List ℕ)). IfSome o (λ bytes. c.copy_piece.new.piece ≡ take count (drop c.pieces.at bytes))) (c.pieces.invariant.2.keeps c.args.area).same
    (subst (λ (n : ℕ). IfSome (g.D.Disk.content c.pieces.disk c.args.area) (λ bytes. c.copy_piece.new.piece ≡ take n (drop c.pieces.at bytes))) long c.in-Ok.ensures.bytes) in (
      copied_more (g.D.Disk.content c.args.disk.now c.args.area) c.pieces.at count (g.W.Sink.written c.args.out.now) (g.W.Sink.written c.pieces.out) (g.W.Sink.written c.copy_piece.new.out)
          c.copy_piece.new.piece c.pieces.invariant.0 c.in-Ok.ensures.copied bytes,
      within,
      and_look g.D.Disk.content c.pieces.invariant.2 c.copy_piece.ensures.looks,
      omega (arith, length-append c.copy_piece.new.piece (drop count c.pieces.piece), length-drop count c.pieces.piece, c.copy_piece.ensures.length, long, low, c.pieces.invariant.3),
      c.in-Ok.ensures.cause.disk_kept (λ e. absurd (cc e)) ∙ c.pieces.invariant.4,
      c.in-Ok.ensures.cause.sink_kept (λ e. absurd (cc e)) ∙ c.pieces.invariant.5,
    )

pub returns-in-Err-clause-write : goal.returns-in-Err-clause-write
returns-in-Err-clause-write g c is =
    let count = c.min-count.result in
    let was : c.in-Err.fault ≡ Write = cc is in
    let low : count ≤ length c.pieces.piece = search rules in
    let within : c.pieces.at + count ≤ c.args.len = search rules in
    let long : length (take count c.pieces.piece) ≡ count = omega (arith, length-take count c.pieces.piece, low) in
    let cut = c.in-Err.ensures.write (ap Err was) in
    let bytes = subst (λ (o : Option (List ℕ)). IfSome o (λ bytes. c.copy_piece.new.piece ≡ take count (drop c.pieces.at bytes))) (c.pieces.invariant.2.keeps c.args.area).same
    (subst (λ (n : ℕ). IfSome (g.D.Disk.content c.pieces.disk c.args.area) (λ bytes. c.copy_piece.new.piece ≡ take n (drop c.pieces.at bytes))) long cut.1) in
    copied_cut (g.D.Disk.content c.args.disk.now c.args.area) c.pieces.at count c.args.len (g.W.Sink.written c.args.out.now) (g.W.Sink.written c.pieces.out) (g.W.Sink.written c.copy_piece.new.out)
    c.copy_piece.new.piece within c.pieces.invariant.0 cut.0 bytes
