-- How a standby ends, by what became of its stream.
use Rattle.std.proofs.Common.{◌≡◌, ⊎_elim, inl, inr, ℕ, List, [], refl, arith}
use Rattle.std.specs.Prelude.{Ok, Err}
use Rattle.std.specs.Io.KnownBytes.{Appends}
use Rattle.disk_model.specs.declared.area.Area.{Area}
use Rattle.disk_model.specs.Areas.{Bytes}
use Rattle.disk_model.specs.Causes.{Rose}
use Rattle.standby.specs.declared.promoted.Promoted.{Promoted}
use Rattle.standby_feeding.specs.declared.refusal.StreamRefusal.{StreamRefusal}
use Rattle.standby_feeding.specs.declared.refusal.StreamRefusal.TheVariants as stream
use Rattle.standby_feeding.specs.Line.{promoted_line}
use Rattle.standby_feeding.specs.StoodBy.{HasStoodBy, HasStream}
use Rattle.script_lines.specs.Numbers.{object_slots}
use Rattle.script_lines.specs.Output.{AppendsFront}
use Rattle.brahma_shell.specs.declared.ended.Ended.{Ended}
use Rattle.brahma_shell.specs.declared.ended.Ended.TheVariants.{Shut}
use Rattle.brahma_shell.specs.Top.{Outside, Ends, IsDoneOrFull}
use Rattle.brahma_shell.specs.StoodBy.{StoodBy, status_of_stream, stream_refusal_line}

module _ {D : Type 0} (may_leave : D → Area → List ℕ → Type 0) (moment : D → ℕ) (left_since : D → ℕ → Bytes → Type 0) (disk later : D) (before after : Outside) where
  -- the store was made, and its line written
  pub stood-done : (p : Promoted) → HasStoodBy may_leave moment left_since object_slots before.left after.left disk later (Ok p) → Appends before.written after.written (promoted_line p)
      → StoodBy may_leave moment left_since disk before after 0 (Shut later)
  stood-done p h written =
      record {
        shut = refl;
        statuses = inl refl;
        bytes = h.bytes;
        consumed = h.consumed;
        moments = h.moments;
        done = λ _. (p, h.promoted.0, h.promoted.1, written);
        write = λ five. absurd (omega (arith, five));
        refused = λ three. absurd (omega (arith, three));
        read = λ four. absurd (omega (arith, four));
        failed = λ six. absurd (omega (arith, six));
        unsound = λ seven. absurd (omega (arith, seven));
        memory = λ eight. absurd (omega (arith, eight));
        taken = λ has is. ⊎_elim (λ three. omega (arith, three)) (λ seven. omega (arith, seven)) is;
        untouched = λ is. absurd (⊎_elim (λ h. omega (arith, h)) (λ is. ⊎_elim (λ h. omega (arith, h)) (λ is. ⊎_elim (λ h. omega (arith, h)) (λ h. omega (arith, h)) is) is) is);
      }

  -- the store was made, and the sink failed
  pub stood-write : (p : Promoted) → HasStoodBy may_leave moment left_since object_slots before.left after.left disk later (Ok p) → Rose before.write_faults after.write_faults
      → AppendsFront before.written after.written (promoted_line p) → StoodBy may_leave moment left_since disk before after 5 (Shut later)
  stood-write p h rose written =
      record {
        shut = refl;
        statuses = inr (inr (inr (inl refl)));
        bytes = h.bytes;
        consumed = h.consumed;
        moments = h.moments;
        done = λ zero. absurd (omega (arith, zero));
        write = λ _. (rose, (p, h.promoted.0, h.promoted.1, written));
        refused = λ three. absurd (omega (arith, three));
        read = λ four. absurd (omega (arith, four));
        failed = λ six. absurd (omega (arith, six));
        unsound = λ seven. absurd (omega (arith, seven));
        memory = λ eight. absurd (omega (arith, eight));
        taken = λ has is. ⊎_elim (λ three. omega (arith, three)) (λ seven. omega (arith, seven)) is;
        untouched = λ is. absurd (⊎_elim (λ h. omega (arith, h)) (λ is. ⊎_elim (λ h. omega (arith, h)) (λ is. ⊎_elim (λ h. omega (arith, h)) (λ h. omega (arith, h)) is) is) is);
      }

  -- no store was made
  pub stood-refused : (e : StreamRefusal) → HasStoodBy may_leave moment left_since object_slots before.left after.left disk later (Err e) → Ends before after [] (stream_refusal_line e)
      → (e ≡ stream.Read → Rose before.read_faults after.read_faults) → (e ≡ stream.Disk → Rose before.disk_faults after.disk_faults)
      → StoodBy may_leave moment left_since disk before after (status_of_stream e) (Shut later)
  stood-refused stream.Read h ends read failed =
      record {
        shut = refl;
        statuses = inr (inr (inl refl));
        bytes = h.bytes;
        consumed = h.consumed;
        moments = h.moments;
        done = λ zero. absurd (omega (arith, zero));
        write = λ five. absurd (omega (arith, five));
        refused = λ three. absurd (omega (arith, three));
        read = λ _. (read refl, ends);
        failed = λ six. absurd (omega (arith, six));
        unsound = λ seven. absurd (omega (arith, seven));
        memory = λ eight. absurd (omega (arith, eight));
        taken = λ has is. ⊎_elim (λ three. omega (arith, three)) (λ seven. omega (arith, seven)) is;
        untouched = λ _. h.uncalled (λ e. cc (e));
      }
  stood-refused (stream.Damaged at) h ends read failed =
      record {
        shut = refl;
        statuses = inr (inl refl);
        bytes = h.bytes;
        consumed = h.consumed;
        moments = h.moments;
        done = λ zero. absurd (omega (arith, zero));
        write = λ five. absurd (omega (arith, five));
        refused = λ _. (at, ends, inl (h.damaged at refl));
        read = λ four. absurd (omega (arith, four));
        failed = λ six. absurd (omega (arith, six));
        unsound = λ seven. absurd (omega (arith, seven));
        memory = λ eight. absurd (omega (arith, eight));
        taken = λ has is. h.taken has tt;
        untouched = λ _. h.uncalled (λ e. cc (e));
      }
  stood-refused (stream.NoBase len) h ends read failed =
      record {
        shut = refl;
        statuses = inr (inl refl);
        bytes = h.bytes;
        consumed = h.consumed;
        moments = h.moments;
        done = λ zero. absurd (omega (arith, zero));
        write = λ five. absurd (omega (arith, five));
        refused = λ _. (len, ends, inr (h.base len refl));
        read = λ four. absurd (omega (arith, four));
        failed = λ six. absurd (omega (arith, six));
        unsound = λ seven. absurd (omega (arith, seven));
        memory = λ eight. absurd (omega (arith, eight));
        taken = λ has is. h.taken has tt;
        untouched = λ _. h.uncalled (λ e. cc (e));
      }
  stood-refused (stream.Unsound id rule) h ends read failed =
      record {
        shut = refl;
        statuses = inr (inr (inr (inr (inr (inl refl)))));
        bytes = h.bytes;
        consumed = h.consumed;
        moments = h.moments;
        done = λ zero. absurd (omega (arith, zero));
        write = λ five. absurd (omega (arith, five));
        refused = λ three. absurd (omega (arith, three));
        read = λ four. absurd (omega (arith, four));
        failed = λ six. absurd (omega (arith, six));
        unsound = λ _. let u = h.unsound id rule refl in (id, rule, ends, u.0, u.1);
        memory = λ eight. absurd (omega (arith, eight));
        taken = λ has is. h.taken has tt;
        untouched = λ _. h.uncalled (λ e. cc (e));
      }
  stood-refused stream.Disk h ends read failed =
      record {
        shut = refl;
        statuses = inr (inr (inr (inr (inl refl))));
        bytes = h.bytes;
        consumed = h.consumed;
        moments = h.moments;
        done = λ zero. absurd (omega (arith, zero));
        write = λ five. absurd (omega (arith, five));
        refused = λ three. absurd (omega (arith, three));
        read = λ four. absurd (omega (arith, four));
        failed = λ _. let f = h.failed refl in (failed refl, ends, f.0, f.1);
        unsound = λ seven. absurd (omega (arith, seven));
        memory = λ eight. absurd (omega (arith, eight));
        taken = λ has is. ⊎_elim (λ three. omega (arith, three)) (λ seven. omega (arith, seven)) is;
        untouched = λ is. absurd (⊎_elim (λ h. omega (arith, h)) (λ is. ⊎_elim (λ h. omega (arith, h)) (λ is. ⊎_elim (λ h. omega (arith, h)) (λ h. omega (arith, h)) is) is) is);
      }
  stood-refused stream.Memory h ends read failed =
      record {
        shut = refl;
        statuses = inr (inr (inr (inr (inr (inr refl)))));
        bytes = h.bytes;
        consumed = h.consumed;
        moments = h.moments;
        done = λ zero. absurd (omega (arith, zero));
        write = λ five. absurd (omega (arith, five));
        refused = λ three. absurd (omega (arith, three));
        read = λ four. absurd (omega (arith, four));
        failed = λ six. absurd (omega (arith, six));
        unsound = λ seven. absurd (omega (arith, seven));
        memory = λ _. ends;
        taken = λ has is. ⊎_elim (λ three. omega (arith, three)) (λ seven. omega (arith, seven)) is;
        untouched = λ _. h.uncalled (λ e. cc (e));
      }

-- a stream whose store can be made is promoted, where neither a read nor a write nor the disk fails
pub stood-complete : {D : Type 0} (may_leave : D → Area → List ℕ → Type 0) (moment : D → ℕ) (left_since : D → ℕ → Bytes → Type 0) (disk : D) (before after : Outside) (status : ℕ) (ended : Ended D)
    → StoodBy may_leave moment left_since disk before after status ended → HasStream object_slots before.left
    → ¬ Rose before.read_faults after.read_faults → ¬ Rose before.write_faults after.write_faults → ¬ Rose before.disk_faults after.disk_faults → IsDoneOrFull status
stood-complete may_leave moment left_since disk before after status ended s has reads writes faults =
    ⊎_elim (λ zero. inl zero)
    (λ is. ⊎_elim (λ three. absurd (s.taken has (inl three)))
    (λ is. ⊎_elim (λ four. absurd (reads (s.read four).0))
    (λ is. ⊎_elim (λ five. absurd (writes (s.write five).0))
    (λ is. ⊎_elim (λ six. absurd (faults (s.failed six).0))
    (λ is. ⊎_elim (λ seven. absurd (s.taken has (inr seven))) (λ eight. inr (inl eight)) is) is) is) is) is) s.statuses
