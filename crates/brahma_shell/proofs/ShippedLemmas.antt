-- What a backup and a shipped log leave, and that each is done where it can be.
use Rattle.std.proofs.Common.{◌≡◌, ⊎_elim, inl, inr, ℕ, List, [], Option, refl, subst, arith}
use Rattle.std.specs.Prelude.{IfSome, IsSome}
use Rattle.std.specs.Io.KnownBytes.{Appends}
use Rattle.disk_model.specs.declared.area.Area.{Area}
use Rattle.disk_model.specs.declared.area.Area.TheVariants.{LogA as AreaA, LogB as AreaB}
use Rattle.disk_model.specs.Areas.{Bytes, in_area}
use Rattle.disk_model.specs.Causes.{Rose}
use Rattle.disk_model.specs.Told.{EachImage}
use Rattle.opened_images.specs.Opened.{no_store, damaged_log, unknown_version}
use Rattle.opened_store.specs.Unopened.{DoesNotOpen}
use Rattle.store_opening.specs.declared.open_refusal.OpenRefusal.{OpenRefusal}
use Rattle.store_opening.specs.declared.open_refusal.OpenRefusal.TheVariants as refusal
use Rattle.store_opening.specs.declared.open_refusal.Place.TheVariants as place
use Rattle.store_opening.specs.Looks.{IsLookedAt}
use Rattle.store_opening.specs.Store.{Reads, Refuses, IsOfStore}
use Rattle.current_log.specs.Current.{RefusesLog, IsOfLog}
use Rattle.stream_writing.specs.Shipped.{AreLogBytes, IsLogFront}
use Rattle.script_lines.specs.Output.{AppendsFront, EndsWith, open_refusal_line}
use Rattle.script_lines.proofs.OutputLemmas.{Appends-trans}
use Rattle.script_lines.specs.Numbers.{object_slots}
use Rattle.brahma_shell.specs.declared.ended.Ended.{Ended}
use Rattle.brahma_shell.specs.Ended.{disk_in, shut_in}
use Rattle.brahma_shell.specs.Migrated.{AlwaysOpensAtEither}
use Rattle.brahma_shell.specs.Top.{Tell, AlwaysOpens, IsDoneOrFull, Outside, Ends, status_of_refusal}
use Rattle.brahma_shell.specs.Shipped.{Shipped}
use Rattle.brahma_shell.specs.BackedUp.{BackedUp}
use Rattle.brahma_shell.proofs.CompleteLemmas.{refused-closed, never-closed, cells-read}
use Rattle.brahma_shell.proofs.SlotLemmas.{known-slots}

-- a log that isn't read is one of a store that isn't opened, for the same cause
pub refuses-too : (slots : ℕ) (image : Bytes) (e : OpenRefusal) → RefusesLog slots image e → Refuses slots image e
refuses-too slots image refusal.Disk r = tt
refuses-too slots image (refusal.Damaged place.LogA at) r = damaged_log AreaA at r.named r.damaged
refuses-too slots image (refusal.Damaged place.LogB at) r = damaged_log AreaB at r.named r.damaged
refuses-too slots image (refusal.Damaged (place.Page page) at) r = absurd r
refuses-too slots image refusal.NoStore r = no_store r
refuses-too slots image (refusal.UnknownVersion byte) r = unknown_version r.area byte r.named r.version
refuses-too slots image (refusal.Unsound id rule) r = absurd r
refuses-too slots image refusal.Memory r = tt
refuses-too slots image refusal.LogFull r = absurd r

-- a refusal of a log on account of what the disk holds has the status of a store that is refused
pub log-refused : (slots : ℕ) (image : Bytes) (e : OpenRefusal) → IsOfStore e → RefusesLog slots image e → status_of_refusal e ≡ 7
log-refused slots image refusal.Disk is r = absurd is
log-refused slots image (refusal.Damaged p at) is r = refl
log-refused slots image refusal.NoStore is r = refl
log-refused slots image (refusal.UnknownVersion byte) is r = refl
log-refused slots image (refusal.Unsound id rule) is r = refl
log-refused slots image refusal.Memory is r = absurd is
log-refused slots image refusal.LogFull is r = absurd r

module _ {D : Type 0} (content : D → Area → Option (List ℕ)) (may_leave : D → Area → List ℕ → Type 0) (moment : D → ℕ) (left_since : D → ℕ → Bytes → Type 0) (disk : D) (before after : Outside) (status : ℕ) (ended : Ended D)
    (s : Shipped content may_leave moment left_since disk before after status ended) where
  -- what holds of each image goes on to hold
  pub shipped-images : (P : Bytes → Type 0) → EachImage may_leave disk P → EachImage may_leave (disk_in ended) P
  shipped-images P all image is = all image (λ area. (s.looks.keeps area).no_more (in_area image area) (is area))

  -- it is refused only where what the disk reads does not open
  pub shipped-closed : status ≡ 7 → (image : Bytes) → Reads content disk image → DoesNotOpen object_slots image
  shipped-closed seven image reads =
      let r = s.refused seven in
      let told = r.3 image reads in
      refused-closed object_slots known-slots r.0 image (log-refused object_slots image r.0 r.1 told) (refuses-too object_slots image r.0 told)

  pub shipped-done : ((d : D) (area : Area) → IfSome (content d area) (may_leave d area)) → Tell content → (ids : ℕ) → AlwaysOpens may_leave ids disk
      → ¬ Rose before.write_faults after.write_faults → ¬ Rose before.disk_faults after.disk_faults → IsDoneOrFull status
  shipped-done stay tell ids opens writes faults =
      ⊎_elim (λ zero. inl zero)
      (λ is. ⊎_elim (λ five. absurd (writes (s.write five).0))
      (λ is. ⊎_elim (λ six. absurd (faults (s.failed six).0))
      (λ is. ⊎_elim (λ seven. absurd (never-closed content may_leave stay ids disk opens tell (shipped-closed seven))) (λ eight. inr (inl eight)) is) is) is) s.statuses

module _ {D : Type 0} (content : D → Area → Option (List ℕ)) (may_leave : D → Area → List ℕ → Type 0) (disk : D) (before after : Outside) (status : ℕ) (ended : Ended D)
    (b : BackedUp content may_leave disk before after status ended) where
  pub backed_up-open : ((d : D) (area : Area) → IfSome (content d area) (may_leave d area)) → Tell content → (ids : ℕ) → AlwaysOpensAtEither may_leave ids disk → AlwaysOpens may_leave ids (disk_in ended)
  backed_up-open stay tell ids opens image is =
      let o = b.exit image is in
      let many = cells-read content may_leave stay ids disk opens tell b.cells b.opened in
      (o.cells, o.opened, omega (arith, o.size, b.size, many))

  pub backed_up-done : ¬ Rose before.write_faults after.write_faults → ¬ Rose before.disk_faults after.disk_faults → IsDoneOrFull status
  backed_up-done writes faults =
      ⊎_elim (λ zero. inl zero)
      (λ is. ⊎_elim (λ five. absurd (writes (b.write five).0))
      (λ is. ⊎_elim (λ six. absurd (faults (b.failed six).0))
      (λ is. ⊎_elim (λ eight. inr (inl eight)) (λ nine. inr (inr nine)) is) is) is) b.statuses

  pub backed_up-opened : status ≡ 7 → ⊥
  backed_up-opened seven =
      ⊎_elim (λ h. omega (arith, h, seven))
      (λ is. ⊎_elim (λ h. omega (arith, h, seven))
      (λ is. ⊎_elim (λ h. omega (arith, h, seven))
      (λ is. ⊎_elim (λ h. omega (arith, h, seven)) (λ h. omega (arith, h, seven)) is) is) is) b.statuses

-- ---- the command `ship`

-- after a text that was written, the last line
pub behind-text : (old mid new : Option (List ℕ)) (before between now : ℕ) (text last : List ℕ) → Appends old mid text → between ≡ before → EndsWith mid new between now [] last → EndsWith old new before now text last
behind-text old mid new before between now text last first same ends =
    ⊎_elim (λ whole. inl (Appends-trans old mid new text last first whole))
    (λ cut. inr (cut.0, cut.1, cut.2, Appends-trans old mid new text cut.0 first cut.3, subst (λ (n : ℕ). Rose n now) same cut.4)) ends

module _ {D : Type 0} (content : D → Area → Option (List ℕ)) (may_leave : D → Area → List ℕ → Type 0) (moment : D → ℕ) (left_since : D → ℕ → Bytes → Type 0)
    (disk : D) (before after : Outside) (ended : Ended D) (shut : IsSome (shut_in ended)) (looks : IsLookedAt content may_leave moment left_since disk (disk_in ended)) where
  -- all was written
  pub ships-all : ((image : Bytes) → Reads content disk image → (bytes : List ℕ) × AreLogBytes object_slots image bytes × Appends before.written after.written bytes)
      → Shipped content may_leave moment left_since disk before after 0 ended
  ships-all done =
      record {
        shut = shut;
        statuses = inl refl;
        looks = looks;
        done = λ _. done;
        write = λ five. absurd (omega (arith, five));
        failed = λ six. absurd (omega (arith, six));
        refused = λ seven. absurd (omega (arith, seven));
        memory = λ eight. absurd (omega (arith, eight));
      }

  -- the sink failed
  pub ships-part : Rose before.write_faults after.write_faults
      → ((image : Bytes) → Reads content disk image → (bytes : List ℕ) × AreLogBytes object_slots image bytes × AppendsFront before.written after.written bytes)
      → Shipped content may_leave moment left_since disk before after 5 ended
  ships-part rose write =
      record {
        shut = shut;
        statuses = inr (inl refl);
        looks = looks;
        done = λ zero. absurd (omega (arith, zero));
        write = λ _. (rose, write);
        failed = λ six. absurd (omega (arith, six));
        refused = λ seven. absurd (omega (arith, seven));
        memory = λ eight. absurd (omega (arith, eight));
      }

  ships-none : (e : OpenRefusal) → IsOfStore e → Ends before after [] (open_refusal_line e) → ((image : Bytes) → Reads content disk image → RefusesLog object_slots image e)
      → Shipped content may_leave moment left_since disk before after 7 ended
  ships-none e is ends refused =
      record {
        shut = shut;
        statuses = inr (inr (inr (inl refl)));
        looks = looks;
        done = λ zero. absurd (omega (arith, zero));
        write = λ five. absurd (omega (arith, five));
        failed = λ six. absurd (omega (arith, six));
        refused = λ _. (e, is, ends, refused);
        memory = λ eight. absurd (omega (arith, eight));
      }

  -- the log isn't read
  pub ships-unread : (e : OpenRefusal) → IsOfLog e → ((image : Bytes) → Reads content disk image → RefusesLog object_slots image e)
      → (e ≡ refusal.Disk → Rose before.disk_faults after.disk_faults)
      → (e ≡ refusal.Disk → («front» : List ℕ) × Ends before after «front» (open_refusal_line refusal.Disk) × ((image : Bytes) → Reads content disk image → IsLogFront object_slots image «front»))
      → ((e ≡ refusal.Disk → ⊥) → Ends before after [] (open_refusal_line e))
      → Shipped content may_leave moment left_since disk before after (status_of_refusal e) ended
  ships-unread refusal.Disk is refused rose cut ends =
      record {
        shut = shut;
        statuses = inr (inr (inl refl));
        looks = looks;
        done = λ zero. absurd (omega (arith, zero));
        write = λ five. absurd (omega (arith, five));
        failed = λ _. (rose refl, cut refl);
        refused = λ seven. absurd (omega (arith, seven));
        memory = λ eight. absurd (omega (arith, eight));
      }
  ships-unread (refusal.Damaged place.LogA at) is refused rose cut ends = ships-none (refusal.Damaged place.LogA at) tt (ends (λ e. absurd (cc e))) refused
  ships-unread (refusal.Damaged place.LogB at) is refused rose cut ends = ships-none (refusal.Damaged place.LogB at) tt (ends (λ e. absurd (cc e))) refused
  ships-unread (refusal.Damaged (place.Page page) at) is refused rose cut ends = absurd is
  ships-unread refusal.NoStore is refused rose cut ends = ships-none refusal.NoStore tt (ends (λ e. absurd (cc e))) refused
  ships-unread (refusal.UnknownVersion byte) is refused rose cut ends = ships-none (refusal.UnknownVersion byte) tt (ends (λ e. absurd (cc e))) refused
  ships-unread (refusal.Unsound id rule) is refused rose cut ends = absurd is
  ships-unread refusal.LogFull is refused rose cut ends = absurd is
  ships-unread refusal.Memory is refused rose cut ends =
      record {
        shut = shut;
        statuses = inr (inr (inr (inr refl)));
        looks = looks;
        done = λ zero. absurd (omega (arith, zero));
        write = λ five. absurd (omega (arith, five));
        failed = λ six. absurd (omega (arith, six));
        refused = λ seven. absurd (omega (arith, seven));
        memory = λ _. ends (λ e. absurd (cc e));
      }
