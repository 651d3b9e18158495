use Rattle.std.proofs.Common.{◌≡◌, rules, codes}
use Rattle.std.proofs.lemmas.Slice.Eq.{text_from_reads}
use Rattle.brahma_shell.proofs.commands.command_of_word.Goals as goal

pub returns-in-replay : goal.returns-in-replay
returns-in-replay c =
    let e : c.args.word.now ≡ codes "replay" = search (rules, text_from_reads) in
    rw e

pub returns-in-migrate : goal.returns-in-migrate
returns-in-migrate c =
    let e : c.args.word.now ≡ codes "migrate" = search (rules, text_from_reads) in
    rw e

pub returns-in-backup : goal.returns-in-backup
returns-in-backup c =
    let e : c.args.word.now ≡ codes "backup" = search (rules, text_from_reads) in
    rw e

pub returns-in-ship : goal.returns-in-ship
returns-in-ship c =
    let e : c.args.word.now ≡ codes "ship" = search (rules, text_from_reads) in
    rw e

pub returns-in-log : goal.returns-in-log
returns-in-log c =
    let e : c.args.word.now ≡ codes "log" = search (rules, text_from_reads) in
    rw e

pub returns-in-standby : goal.returns-in-standby
returns-in-standby c =
    let e : c.args.word.now ≡ codes "standby" = search (rules, text_from_reads) in
    rw e

pub returns-in-check : goal.returns-in-check
returns-in-check c =
    let e : c.args.word.now ≡ codes "check" = search (rules, text_from_reads) in
    rw e

pub returns-in-map : goal.returns-in-map
returns-in-map c =
    let e : c.args.word.now ≡ codes "map" = search (rules, text_from_reads) in
    rw e
