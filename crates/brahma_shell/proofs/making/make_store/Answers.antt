use Rattle.std.proofs.Common.{◌≡◌, inl, inr, refl, rules}
use Rattle.disk_model.specs.Told.{EachImage}
use Rattle.restart_store.specs.Fresh.{fresh_store}
use Rattle.brahma_shell.proofs.MakingLemmas.{made-opens, meanwhile-opens}
use Rattle.brahma_shell.proofs.making.make_store.Goals as goal
use Rattle.script_lines.specs.Numbers.{object_slots}

pub returns-then-is_err-clause-made : goal.returns-then-is_err-clause-made
returns-then-is_err-clause-made g c = λ left reads. record {
  shut = search rules;
  statuses = inr (inr refl);
  fresh = λ no. absurd (no refl);
  opens = λ no. absurd (no refl);
  moments = c.init.ensures.moments;
  opens_meanwhile = meanwhile-opens g.D.Disk.may_leave c.args.disk c.init.new.disk c.args.pages c.requires.pages g.D.Disk.moment g.D.Disk.left_since c.init.ensures.moments;
  done = search rules;
  write = search rules;
  failed = search rules;
}

pub returns-in-Ok-clause-made : goal.returns-in-Ok-clause-made
returns-in-Ok-clause-made g c =
    let are : EachImage g.D.Disk.may_leave c.init.new.disk (λ image. image ≡ fresh_store object_slots c.args.pages 0) = search rules in
    λ left reads. record {
      shut = search rules;
      statuses = inl refl;
      fresh = λ no. are;
      opens = λ no. made-opens g.D.Disk.may_leave c.args.disk c.init.new.disk c.args.pages c.requires.pages are;
      moments = c.init.ensures.moments;
      opens_meanwhile = meanwhile-opens g.D.Disk.may_leave c.args.disk c.init.new.disk c.args.pages c.requires.pages g.D.Disk.moment g.D.Disk.left_since c.init.ensures.moments;
      done = search rules;
      write = search rules;
      failed = search rules;
    }

pub returns-in-Err-clause-made : goal.returns-in-Err-clause-made
returns-in-Err-clause-made g c =
    let are : EachImage g.D.Disk.may_leave c.init.new.disk (λ image. image ≡ fresh_store object_slots c.args.pages 0) = search rules in
    λ left reads. record {
      shut = search rules;
      statuses = inr (inl refl);
      fresh = λ no. are;
      opens = λ no. made-opens g.D.Disk.may_leave c.args.disk c.init.new.disk c.args.pages c.requires.pages are;
      moments = c.init.ensures.moments;
      opens_meanwhile = meanwhile-opens g.D.Disk.may_leave c.args.disk c.init.new.disk c.args.pages c.requires.pages g.D.Disk.moment g.D.Disk.left_since c.init.ensures.moments;
      done = search rules;
      write = search rules;
      failed = search rules;
    }
