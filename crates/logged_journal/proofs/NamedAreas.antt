-- What a checkpoint leaves of the super area.
use Rattle.std.proofs.Common.{◌≡◌, ◌∙◌, ℕ, ◌<◌, ◌≤◌, List, [], ◌∷◌, Option, option_map, refl, sym, ap, subst, arith}
use Rattle.disk_model.specs.declared.area.Area.{Area}
use Rattle.disk_model.specs.declared.area.Area.TheVariants.{Super, LogA, LogB, Pages}
use Rattle.disk_model.specs.Changes.{written, Torn}
use Rattle.disk_model.specs.Told.{Keeps, KeepsOthers, Follows}
use Rattle.gate_log.specs.State.{LogState, IsLogArea, naming_byte, other_log}
use Rattle.core_store.specs.declared.frame.Frame.{Frame}
use Rattle.logged_journal.specs.declared.upkeep.Upkeep.{Upkeep}
use Rattle.logged_journal.specs.declared.upkeep.Upkeep.TheVariants.{Done}
use Rattle.logged_journal.specs.View.{LoggedView, OnlyTakesRoom}
use Rattle.logged_journal.specs.Upkeep.{OnlyNames}
use Rattle.logged_journal.specs.Checkpoints.{LogsImages}

-- it is no log area
super-apart : (area : Area) → IsLogArea area → Super ≡ area → ⊥
super-apart Pages is e = is
super-apart LogA is e = cc (e)
super-apart LogB is e = cc (e)
super-apart Super is e = is

-- a write that left everything as it was
torn-none : (c : List ℕ) → Torn 0 1 c c
torn-none c = record { no_shorter = omega arith; no_longer = omega arith; below = λ i inside low. refl; above = λ i inside high. refl }

module _ {D : Type 0} (content : D → Area → Option (List ℕ)) (may_leave : D → Area → List ℕ → Type 0) where
  -- the disk stayed
  pub names-still : (old new : LoggedView D) (r : Upkeep) → new.disk ≡ old.disk → (r ≡ Done → ⊥) → OnlyNames content may_leave old new r
  names-still old new r same never = record {
    others = λ c may. (c, subst (λ (d : D). may_leave d Super c) same may, torn-none c);
    named = λ done. absurd (never done);
  }

  -- it was done after a reservation of room
  pub names-after : (old mid new : LoggedView D) (r : Upkeep) → OnlyTakesRoom old mid → OnlyNames content may_leave mid new r → OnlyNames content may_leave old new r
  names-after old mid new r takes on =
      let a = subst (λ (w : LoggedView D). OnlyNames content may_leave w new r) takes on in
      record { others = a.others; named = a.named }

  module _ {slots : ℕ} (frames : List (Frame slots)) (count : ℕ) (v im all : LoggedView D) (logs : LogsImages frames count v im) (area : IsLogArea im.log.area) (forced : KeepsOthers content may_leave im.disk all.disk im.log.area) where
    -- the images joined the tail, which was forced
    super-forced : Keeps content may_leave v.disk all.disk Super
    super-forced = subst (λ (d : D). Keeps content may_leave d all.disk Super) (ap (λ (w : LoggedView D). w.disk) logs.same) (forced Super (super-apart im.log.area area))

    -- the disk failed to force it
    pub names-unforced : (r : Upkeep) → (r ≡ Done → ⊥) → OnlyNames content may_leave v all r
    names-unforced r never = record { others = λ c may. (c, super-forced.no_more c may, torn-none c); named = λ done. absurd (never done) }

    module _ (placed : LoggedView D) (wrote : KeepsOthers content may_leave all.disk placed.disk Pages) where
      -- the pages were written in place
      super-placed : Keeps content may_leave v.disk placed.disk Super
      super-placed =
          let a = super-forced in
          let b = wrote Super (λ e. cc (e)) in
          record { same = b.same ∙ a.same; no_more = λ c may. a.no_more c (b.no_more c may) }

      -- the disk failed to
      pub names-unplaced : (r : Upkeep) → (r ≡ Done → ⊥) → OnlyNames content may_leave v placed r
      names-unplaced r never = record { others = λ c may. (c, super-placed.no_more c may, torn-none c); named = λ done. absurd (never done) }

      module _ (anew : LoggedView D) (follows : Follows content may_leave (Torn 0 1) placed.disk anew.disk Super) where
        super-anew : Follows content may_leave (Torn 0 1) v.disk anew.disk Super
        super-anew c may = let f = follows c may in (f.0, super-placed.no_more f.0 f.1, f.2)

        -- the disk failed to begin the log anew
        pub names-old : (r : Upkeep) → (r ≡ Done → ⊥) → OnlyNames content may_leave v anew r
        names-old r never = record { others = super-anew; named = λ done. absurd (never done) }

        -- the log began anew
        pub names-other : (now : LoggedView D) (r : Upkeep) → now.disk ≡ anew.disk → placed.log.area ≡ v.log.area
            → content anew.disk Super ≡ option_map (written 0 (naming_byte (other_log placed.log.area) ∷ [])) (content placed.disk Super) → OnlyNames content may_leave v now r
        names-other now r same there named = record {
          others = λ c may. super-anew c (subst (λ (d : D). may_leave d Super c) same may);
          named = λ done. ap (λ (d : D). content d Super) same
              ∙ subst (λ (a : Area). content anew.disk Super ≡ option_map (written 0 (naming_byte (other_log a) ∷ [])) (content placed.disk Super)) there named
              ∙ ap (λ (o : Option (List ℕ)). option_map (written 0 (naming_byte (other_log v.log.area) ∷ [])) o) super-placed.same;
        }
