use Rattle.ref_tables.specs.Refs.{entries_of}
use Rattle.core_store.specs.References.{targets_of}
use Rattle.core_store.proofs.ReleaseNames.{named-push, named-stays, named-other}
use Rattle.core_store.proofs.references.note_register.Goals as goal

pub returns-in-Some-clause-noted : goal.returns-in-Some-clause-noted
returns-in-Some-clause-noted c = λ named was.
    named-push (targets_of (entries_of c.args.references.now c.args.pass)) (targets_of (entries_of c.add.new.references c.args.pass)) named c.args.pass c.in-Some.id c.args.earlier.now c.args.register (c.add.ensures.added c.args.pass) c.in-Some.ensures was

pub returns-in-Some-clause-others : goal.returns-in-Some-clause-others
returns-in-Some-clause-others c = λ p n.
    named-other (targets_of (entries_of c.args.references.now p)) (targets_of (entries_of c.add.new.references p)) p c.args.pass c.in-Some.id n (c.add.ensures.added p)

pub returns-in-None-clause-noted : goal.returns-in-None-clause-noted
returns-in-None-clause-noted c = λ named was. named-stays (targets_of (entries_of c.args.references.now c.args.pass)) named c.args.earlier.now c.args.register c.in-None.ensures was
