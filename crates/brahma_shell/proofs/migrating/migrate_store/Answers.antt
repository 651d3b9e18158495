use Rattle.std.proofs.Common.{inl, inr, refl, sym, ap, ◌∙◌, rules}
use Rattle.std.specs.Prelude.{Err}
use Rattle.brahma_shell.proofs.MigrationLemmas.{meanwhile, refused-version, six-disk, not-disk}
use Rattle.brahma_shell.proofs.migrating.migrate_store.Goals as goal

pub returns-in-Err-clause-migrated : goal.returns-in-Err-clause-migrated
returns-in-Err-clause-migrated g c =
    let m = c.in-Err.ensures in
    let e = c.in-Err.refusal in
    let told = c.refuse.ensures.status in
    λ left reads. inl (record {
      refusal = e;
      refused = m.refused;
      version = λ image byte reads is. refused-version image e byte (m.refused image reads) is;
      told = told;
      printed = c.refuse.ensures.last;
      shut = refl;
      failed = λ six. m.cause.failed (ap Err (six-disk e (sym told ∙ six)));
      kept = λ other. m.cause.kept (not-disk e (λ six. other (told ∙ six)));
      unwritten = m.unwritten;
      only_looks = m.only_looks;
      moments = meanwhile g.D.Disk.content g.D.Disk.may_leave g.D.Disk.moment g.D.Disk.left_since c.args.disk c.migrate.new.disk m.narrow m.wide;
    })

pub returns-in-Ok-write_all-clause-migrated : goal.returns-in-Ok-write_all-clause-migrated
returns-in-Ok-write_all-clause-migrated g c =
    let m = c.in-Ok.ensures in
    λ left reads. inr (record {
      pages = c.in-Ok.pages;
      migrated = m.migrated;
      moments = meanwhile g.D.Disk.content g.D.Disk.may_leave g.D.Disk.moment g.D.Disk.left_since c.args.disk c.migrate.new.disk m.narrow m.wide;
      shut = refl;
      statuses = inl refl;
      done = search rules;
      write = search rules;
    })

pub returns-in-Err-write_all-clause-migrated : goal.returns-in-Err-write_all-clause-migrated
returns-in-Err-write_all-clause-migrated g c =
    let m = c.in-Ok.ensures in
    λ left reads. inr (record {
      pages = c.in-Ok.pages;
      migrated = m.migrated;
      moments = meanwhile g.D.Disk.content g.D.Disk.may_leave g.D.Disk.moment g.D.Disk.left_since c.args.disk c.migrate.new.disk m.narrow m.wide;
      shut = refl;
      statuses = inr refl;
      done = search rules;
      write = search rules;
    })
