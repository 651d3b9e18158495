-- How a check ends, by what became of its stream.
use Rattle.std.proofs.Common.{◌≡◌, ⊎_elim, inl, inr, ℕ, [], refl, arith}
use Rattle.std.specs.Prelude.{Ok, Err}
use Rattle.std.specs.Io.KnownBytes.{Appends}
use Rattle.disk_model.specs.Causes.{Rose}
use Rattle.script_lines.specs.Numbers.{object_slots}
use Rattle.script_lines.specs.Output.{AppendsFront}
use Rattle.standby_feeding.specs.StoodBy.{HasStream}
use Rattle.log_checker.specs.declared.verdict.Verdict.{Verdict}
use Rattle.log_checking.specs.declared.refusal.VerdictRefusal.{VerdictRefusal}
use Rattle.log_checking.specs.declared.refusal.VerdictRefusal.TheVariants as check
use Rattle.log_checking.specs.Checked.{HasChecked}
use Rattle.log_checking.specs.Line.{verdict_line}
use Rattle.brahma_shell.specs.Top.{Outside, Ends, IsDoneOrFull}
use Rattle.brahma_shell.specs.Checked.{Checked, status_of_check, check_refusal_line}

module _ (before after : Outside) where
  -- there is a verdict, and its line was written
  pub checked-done : (v : Verdict) → HasChecked object_slots before.left after.left (Ok v) → Appends before.written after.written (verdict_line v) → Checked before after 0
  checked-done v h written =
      record {
        statuses = inl refl;
        bytes = h.bytes;
        consumed = h.consumed;
        done = λ _. (v, h.verdict.0, h.verdict.1, written);
        write = λ five. absurd (omega (arith, five));
        refused = λ three. absurd (omega (arith, three));
        read = λ four. absurd (omega (arith, four));
        unsound = λ seven. absurd (omega (arith, seven));
        memory = λ eight. absurd (omega (arith, eight));
        taken = λ has is. ⊎_elim (λ three. omega (arith, three)) (λ seven. omega (arith, seven)) is;
      }

  -- there is one, and the sink failed
  pub checked-write : (v : Verdict) → HasChecked object_slots before.left after.left (Ok v) → Rose before.write_faults after.write_faults → AppendsFront before.written after.written (verdict_line v)
      → Checked before after 5
  checked-write v h rose written =
      record {
        statuses = inr (inr (inr (inl refl)));
        bytes = h.bytes;
        consumed = h.consumed;
        done = λ zero. absurd (omega (arith, zero));
        write = λ _. (rose, (v, h.verdict.0, h.verdict.1, written));
        refused = λ three. absurd (omega (arith, three));
        read = λ four. absurd (omega (arith, four));
        unsound = λ seven. absurd (omega (arith, seven));
        memory = λ eight. absurd (omega (arith, eight));
        taken = λ has is. ⊎_elim (λ three. omega (arith, three)) (λ seven. omega (arith, seven)) is;
      }

  -- there is none
  pub checked-refused : (e : VerdictRefusal) → HasChecked object_slots before.left after.left (Err e) → Ends before after [] (check_refusal_line e) → (e ≡ check.Read → Rose before.read_faults after.read_faults)
      → Checked before after (status_of_check e)
  checked-refused check.Read h ends read =
      record {
        statuses = inr (inr (inl refl));
        bytes = h.bytes;
        consumed = h.consumed;
        done = λ zero. absurd (omega (arith, zero));
        write = λ five. absurd (omega (arith, five));
        refused = λ three. absurd (omega (arith, three));
        read = λ _. (read refl, ends);
        unsound = λ seven. absurd (omega (arith, seven));
        memory = λ eight. absurd (omega (arith, eight));
        taken = λ has is. ⊎_elim (λ three. omega (arith, three)) (λ seven. omega (arith, seven)) is;
      }
  checked-refused (check.Damaged at) h ends read =
      record {
        statuses = inr (inl refl);
        bytes = h.bytes;
        consumed = h.consumed;
        done = λ zero. absurd (omega (arith, zero));
        write = λ five. absurd (omega (arith, five));
        refused = λ _. (at, ends, inl (h.damaged at refl));
        read = λ four. absurd (omega (arith, four));
        unsound = λ seven. absurd (omega (arith, seven));
        memory = λ eight. absurd (omega (arith, eight));
        taken = λ has is. h.taken has tt;
      }
  checked-refused (check.NoBase len) h ends read =
      record {
        statuses = inr (inl refl);
        bytes = h.bytes;
        consumed = h.consumed;
        done = λ zero. absurd (omega (arith, zero));
        write = λ five. absurd (omega (arith, five));
        refused = λ _. (len, ends, inr (h.base len refl));
        read = λ four. absurd (omega (arith, four));
        unsound = λ seven. absurd (omega (arith, seven));
        memory = λ eight. absurd (omega (arith, eight));
        taken = λ has is. h.taken has tt;
      }
  checked-refused (check.Unsound id rule) h ends read =
      record {
        statuses = inr (inr (inr (inr (inl refl))));
        bytes = h.bytes;
        consumed = h.consumed;
        done = λ zero. absurd (omega (arith, zero));
        write = λ five. absurd (omega (arith, five));
        refused = λ three. absurd (omega (arith, three));
        read = λ four. absurd (omega (arith, four));
        unsound = λ _. let u = h.unsound id rule refl in (id, rule, ends, u.0, u.1);
        memory = λ eight. absurd (omega (arith, eight));
        taken = λ has is. h.taken has tt;
      }
  checked-refused check.Memory h ends read =
      record {
        statuses = inr (inr (inr (inr (inr refl))));
        bytes = h.bytes;
        consumed = h.consumed;
        done = λ zero. absurd (omega (arith, zero));
        write = λ five. absurd (omega (arith, five));
        refused = λ three. absurd (omega (arith, three));
        read = λ four. absurd (omega (arith, four));
        unsound = λ seven. absurd (omega (arith, seven));
        memory = λ _. ends;
        taken = λ has is. ⊎_elim (λ three. omega (arith, three)) (λ seven. omega (arith, seven)) is;
      }

-- a stream whose store can be made has a verdict, which is written where neither a read nor a write fails
pub checked-complete : (before after : Outside) (status : ℕ) → Checked before after status → HasStream object_slots before.left → ¬ Rose before.read_faults after.read_faults → ¬ Rose before.write_faults after.write_faults
    → IsDoneOrFull status
checked-complete before after status c has reads writes =
    ⊎_elim (λ zero. inl zero)
    (λ is. ⊎_elim (λ three. absurd (c.taken has (inl three)))
    (λ is. ⊎_elim (λ four. absurd (reads (c.read four).0))
    (λ is. ⊎_elim (λ five. absurd (writes (c.write five).0))
    (λ is. ⊎_elim (λ seven. absurd (c.taken has (inr seven))) (λ eight. inr (inl eight)) is) is) is) is) c.statuses
