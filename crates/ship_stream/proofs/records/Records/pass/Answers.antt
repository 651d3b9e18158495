use Rattle.std.proofs.Common.{◌+◌, ℕ, List, drop, arith, sym, subst}
use Rattle.std.proofs.lemmas.List.{length-drop}
use Rattle.log_record.specs.Spelling.{BeginsWith}
use Rattle.ship_stream.specs.Runs.{RecordRun, IsRun}
use Rattle.ship_stream.proofs.BodyLaws.{first_within}
use Rattle.ship_stream.proofs.RunLaws.{run_behind, drop_both}
use Rattle.ship_stream.proofs.records.Records.pass.Goals as goal

pub invariant_of-self : goal.invariant_of-self
invariant_of-self g c =
    let v : RecordRun = record { at = c.self.inside.at; bytes = drop c.self.inside.next c.self.inside.bytes.items } in
    let r = c.requires.0 in
    let b : BeginsWith {slots = g.row.SLOTS} v.bytes r c.args.len = subst (λ (w : RecordRun). BeginsWith {slots = g.row.SLOTS} w.bytes r c.args.len) (sym c.self.view_is) c.requires.1 in
    let size = first_within v.bytes r c.args.len b in (
      omega (arith, size.1, c.self.invariant.0, length-drop c.self.inside.next c.self.inside.bytes.items),
      subst (λ (l : List ℕ). IsRun g.row.SLOTS (record { at = c.self.inside.at + c.args.len; bytes = l })) (sym (drop_both c.self.inside.next c.args.len c.self.inside.bytes.items))
          (run_behind v r c.args.len c.self.invariant.1 b),
    )
