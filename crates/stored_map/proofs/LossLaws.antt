-- What a loss of power leaves of a disk that tells what it reads, and of a store on it.
use Rattle.std.proofs.Common.{◌≡◌, ⊎_elim, inr, ℕ, ◌+◌, ◌≤◌, List, Option, Some, None, length, refl, sym, ◌∙◌, subst, arith}
use Rattle.std.specs.Prelude.{IsSome, IfSome}
use Rattle.plain_model.specs.declared.object.Object.{Object}
use Rattle.plain_model.specs.History.{SameReachable}
use Rattle.plain_laws.specs.Sound.{IsSoundGraph}
use Rattle.disk_model.specs.declared.area.Area.{Area}
use Rattle.disk_model.specs.declared.area.Area.TheVariants.{Pages, LogA, LogB, Super}
use Rattle.disk_model.specs.Areas.{Bytes, in_area}
use Rattle.disk_model.specs.Told.{LeavesOne as LosesPower, IsImage, EachImage}
use Rattle.cell_model.specs.Cells.{Cell}
use Rattle.cell_model.specs.Graph.{graph_of}
use Rattle.cell_page.specs.Format.{IsSlotCount}
use Rattle.opened_images.specs.Opened.{Opened, OpensTo}
use Rattle.opened_images.proofs.OneOutcome.{one_outcome}
use Rattle.store_opening.specs.declared.open_refusal.OpenRefusal.{OpenRefusal}
use Rattle.store_opening.specs.declared.open_refusal.OpenRefusal.TheVariants as refusal
use Rattle.store_opening.specs.declared.open_refusal.Place.TheVariants as place
use Rattle.store_opening.specs.Store.{Reads, Refuses}
use Rattle.journal_opening.specs.Openings.{ReadsAs, OpensMeanwhile}
use Rattle.map_calls.specs.Views.{status_of_refusal}
use Rattle.object_map.specs.Clients.{object_slots}
use Rattle.stored_map.specs.Graphs.{KeepsMap, map_of, pairs_in, free_beside, reached_in}
use Rattle.stored_map.specs.Stores.{OpensToSame, Tell}
use Rattle.stored_map.proofs.CollectLaws.{state_is}
use Rattle.stored_map.proofs.GraphLaws.{map_same, map_read}
use Rattle.stored_map.proofs.ReachLaws.{free_reach}
use Rattle.stored_map.proofs.ReachedLaws.{same_reached}

told : (o : Option (List ℕ)) (P : Type 0) → IsSome o → IfSome o (λ _. P) → P
told None P some h = absurd (cc (some))
told (Some c) P some h = h

got : (o : Option (List ℕ)) → IsSome o → (c : List ℕ) × (o ≡ Some c)
got None some = absurd (cc (some))
got (Some c) some = (c, refl)

same_some : (a b : List ℕ) → Some a ≡ Some b → a ≡ b
same_some a b e = cc (e)

same_cells : (a b : List Cell) → OpensTo a ≡ OpensTo b → a ≡ b
same_cells a b e = cc (e)

known_count : IsSlotCount object_slots
known_count = inr refl

-- the map of a graph in which the root reaches the same, in a store of as many ids
pub same_state : (ids : ℕ) (g h : List Object) → IsSoundGraph g → IsSoundGraph h → KeepsMap g → SameReachable h g → map_of ids h ≡ map_of ids g
same_state ids g h s t k r =
    let pairs : pairs_in h ≡ pairs_in g = map_read h (pairs_in g) (map_same g h (pairs_in g) s r k) in
    state_is (pairs_in h) (pairs_in g) ids ids (free_beside ids h) (free_beside ids g) (reached_in h) (reached_in g) pairs refl (free_reach ids g h s t r) (same_reached g h s t r)

module _ {D : Type 0} (content : D → Area → Option (List ℕ)) (tell : Tell content) where
  -- it reads four areas
  read_image : (disk : D) → (image : Bytes) × Reads content disk image
  read_image disk =
      let pages = got (content disk Pages) (tell disk Pages) in
      let log_a = got (content disk LogA) (tell disk LogA) in
      let log_b = got (content disk LogB) (tell disk LogB) in
      let super_area = got (content disk Super) (tell disk Super) in
      let image : Bytes = record { pages = pages.0; log_a = log_a.0; log_b = log_b.0; super_area = super_area.0 } in
      (image, all image pages.1 log_a.1 log_b.1 super_area.1)
    where
      all : (image : Bytes) → content disk Pages ≡ Some image.pages → content disk LogA ≡ Some image.log_a → content disk LogB ≡ Some image.log_b → content disk Super ≡ Some image.super_area → Reads content disk image
      all image p a b s Pages = p
      all image p a b s LogA = a
      all image p a b s LogB = b
      all image p a b s Super = s

  module _ (may_leave : D → Area → List ℕ → Type 0) (old new : D) (lost : LosesPower content may_leave old new) (ids : ℕ) (g : List Object) (opens : EachImage may_leave old (OpensToSame ids g)) where
    -- what it reads afterwards is an image of before
    read_before : (image : Bytes) → Reads content new image → IsImage may_leave old image
    read_before image reads area =
        let one = told (content old area) _ (tell old area) (lost area) in
        subst (may_leave old area) (same_some one.0 (in_area image area) (sym one.1 ∙ reads area)) one.2

    -- so what is opened there is the same as far as the root reaches, and has as many ids
    pub reopened : (cells : List Cell) → ReadsAs content object_slots new cells → SameReachable (graph_of cells) g × (length cells ≡ ids + 1)
    reopened cells holds =
        let read = read_image new in
        let after = opens read.0 (read_before read.0 read.1) in
        let same = same_cells after.cells cells (one_outcome known_count read.0 (OpensTo after.cells) (OpensTo cells) after.opened (holds read.0 read.1)) in
        (subst (λ (cs : List Cell). SameReachable (graph_of cs) g) same after.reach, subst (λ (cs : List Cell). length cs ≡ ids + 1) same after.size)

    -- and so is whatever else is left while it is opened
    pub images_after : (now : D) (moment : D → ℕ) (left_since : D → ℕ → Bytes → Type 0)
        → ((disk : D) (t : ℕ) (b : Bytes) → t ≤ moment disk → IsImage may_leave disk b → left_since disk t b)
        → OpensMeanwhile content may_leave moment left_since object_slots new now → EachImage may_leave now (OpensToSame ids g)
    images_after now moment left_since counts meanwhile image is =
        let read = read_image new in
        let after = opens read.0 (read_before read.0 read.1) in
        let leaves = meanwhile after.cells read.0 read.1 after.opened in
        ⊎_elim
        (λ (before : IsImage may_leave new image). opens image (before_loss image before))
        (λ (same : Opened object_slots image (OpensTo after.cells)). record { cells = after.cells; opened = same; size = after.size; reach = after.reach })
        (leaves.each image (counts now (moment new) image leaves.later is))
      where
        before_loss : (image : Bytes) → IsImage may_leave new image → IsImage may_leave old image
        before_loss image is area =
            let one = told (content old area) _ (tell old area) (lost area) in
            subst (may_leave old area) (sym (one.3 (in_area image area) (is area))) one.2

    -- it isn't refused as damaged
    pub never_refused : (e : OpenRefusal) → ((image : Bytes) → Reads content new image → Refuses object_slots image e) → status_of_refusal e ≡ 7 → ⊥
    never_refused e refused is =
        let read = read_image new in
        let after = opens read.0 (read_before read.0 read.1) in
        none e read.0 after.cells after.opened (refused read.0 read.1) is
      where
        none : (e : OpenRefusal) (image : Bytes) (cells : List Cell) → Opened object_slots image (OpensTo cells) → Refuses object_slots image e → status_of_refusal e ≡ 7 → ⊥
        none refusal.Disk image cells o r is = absurd (omega (arith, is))
        none (refusal.Damaged place.LogA at) image cells o r is = let e = one_outcome known_count image _ _ o r in absurd (cc (e))
        none (refusal.Damaged place.LogB at) image cells o r is = let e = one_outcome known_count image _ _ o r in absurd (cc (e))
        none (refusal.Damaged (place.Page page) at) image cells o r is = let e = one_outcome known_count image _ _ o r in absurd (cc (e))
        none refusal.NoStore image cells o r is = let e = one_outcome known_count image _ _ o r in absurd (cc (e))
        none (refusal.UnknownVersion byte) image cells o r is = let e = one_outcome known_count image _ _ o r in absurd (cc (e))
        none (refusal.Unsound id rule) image cells o r is = let e = one_outcome known_count image _ _ o r in absurd (cc (e))
        none refusal.Memory image cells o r is = absurd (omega (arith, is))
        none refusal.LogFull image cells o r is = absurd (omega (arith, is))
