use Rattle.std.proofs.Common.{◌<◌, ◌≤◌, ◌∙◌, ◌≡◌, arith, rules, None, length, subst, sym}
use Rattle.ref_tables.specs.Refs.{entries_of}
use Rattle.core_store.specs.References.{targets_of}
use Rattle.core_store.proofs.ReleaseNames.{next-register, all-registers}
use Rattle.core_store.proofs.references.note_held.Goals as goal

pub loop-r-preserved : goal.loop-r-preserved
loop-r-preserved c =
    let names = targets_of (entries_of c.args.references.now c.args.pass) in
    let after = targets_of (entries_of c.note_register.new.references c.args.pass) in
    let eight : length c.args.registers ≡ 8 = search rules in
    let more : c.loop-r.r < 8 = c.loop-r-test.true in
    record {
      room = omega (arith, c.loop-r.invariant.room, c.note_register.ensures.room);
      named = next-register c.args.registers c.loop-r.r None names after (subst (λ n. c.loop-r.r < n) (sym eight) more) (c.note_register.ensures.noted names c.loop-r.invariant.named);
      others = λ p n. c.note_register.ensures.others p n ∙ c.loop-r.invariant.others p n;
    }

pub returns : goal.returns
returns c =
    let eight : length c.args.registers ≡ 8 = search rules in
    let last : 8 ≤ c.loop-r.r = c.loop-r-test.false in
    all-registers (λ p. targets_of (entries_of c.args.references.now p)) (λ p. targets_of (entries_of c.loop-r.references p)) c.args.pass c.args.registers c.loop-r.r (subst (λ n. n ≤ c.loop-r.r) (sym eight) last) c.loop-r.invariant.named c.loop-r.invariant.others
