use Rattle.std.proofs.Common.{◌≡◌, rules, codes}
use Rattle.std.proofs.lemmas.Slice.Eq.{text_from_reads}
use Rattle.script_lines.proofs.verb.verb_of.Goals as goal

pub returns-in-begin : goal.returns-in-begin
returns-in-begin c =
    let e : c.args.field.now ≡ codes "begin" = search (rules, text_from_reads) in
    rw e

pub returns-in-read : goal.returns-in-read
returns-in-read c =
    let e : c.args.field.now ≡ codes "read" = search (rules, text_from_reads) in
    rw e

pub returns-in-make : goal.returns-in-make
returns-in-make c =
    let e : c.args.field.now ≡ codes "make" = search (rules, text_from_reads) in
    rw e

pub returns-in-store : goal.returns-in-store
returns-in-store c =
    let e : c.args.field.now ≡ codes "store" = search (rules, text_from_reads) in
    rw e

pub returns-in-release : goal.returns-in-release
returns-in-release c =
    let e : c.args.field.now ≡ codes "release" = search (rules, text_from_reads) in
    rw e

pub returns-in-commit : goal.returns-in-commit
returns-in-commit c =
    let e : c.args.field.now ≡ codes "commit" = search (rules, text_from_reads) in
    rw e

pub returns-in-abort : goal.returns-in-abort
returns-in-abort c =
    let e : c.args.field.now ≡ codes "abort" = search (rules, text_from_reads) in
    rw e

pub returns-in-undo : goal.returns-in-undo
returns-in-undo c =
    let e : c.args.field.now ≡ codes "undo" = search (rules, text_from_reads) in
    rw e
