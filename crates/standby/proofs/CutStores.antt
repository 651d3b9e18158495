-- A store that is made opens as before, or to none, or to what is made, at each moment.
use Rattle.std.proofs.Common.{◌≡◌, ◌⊎◌, ℕ, zero, suc, Bool, true, false, List, [], ◌∷◌, ◌++◌, length, take, Some, None, inl, inr, refl, sym, ◌∙◌, ap, subst}
use Rattle.std.specs.Prelude.{◌==◌, ◌%◌, if◌then◌else◌}
use Rattle.cell_model.specs.Cells.{Cell}
use Rattle.disk_model.specs.declared.area.Area.{Area}
use Rattle.disk_model.specs.declared.area.Area.TheVariants.{Pages, LogA, LogB, Super}
use Rattle.disk_model.specs.Areas.{Bytes, in_area, with_area}
use Rattle.gate_log.specs.OnDisk.{named_by}
use Rattle.log_record.specs.declared.record.Record.{Record}
use Rattle.restart_store.specs.Fresh.{IsMakingOf, as_before as made_before, no_store as made_none, fresh as made_new}
use Rattle.opened_images.specs.LogRecords.{IsRecordLog, IsDamagedLog, IsOfVersion}
use Rattle.opened_images.specs.Opened.{Outcome, NoStore, OpensTo, IsLogRead, ArePagesRead, AreCellsRead, Opened, no_store, damaged_log, unknown_version, damaged_page, unfit, unsound, stuck, opens}
use Rattle.standby.specs.Laws.{OpenAlike, CutStoreLaw}
use Rattle.standby.specs.Promoted.{PromotesTo, IsPromoting, as_before, no_store as opens_to_none, promoted}

-- ---- another super area

-- no bytes of the super area name itself
unnamed : (bytes : List ℕ) → named_by bytes ≡ Some Super → ⊥
unnamed [] e = absurd cc
unnamed (byte ∷ rest) e = by (byte % 2 == 0) e
  where
    by : (b : Bool) → Some (if b then LogA else LogB) ≡ Some Super → ⊥
    by true e = absurd cc
    by false e = absurd cc

module _ (image : Bytes) (a b : List ℕ) (same : named_by a ≡ named_by b) where
  -- the image with the one super area, and with the other one
  abbrev one : Bytes
  one = with_area image Super a

  abbrev other : Bytes
  other = with_area image Super b

  same-log : (area : Area) → named_by a ≡ Some area → in_area one area ≡ in_area other area
  same-log Pages e = refl
  same-log LogA e = refl
  same-log LogB e = refl
  same-log Super e = absurd (unnamed a e)

  log-read : {slots : ℕ} (area : Area) (pages : ℕ) (batches : List (List (Record slots))) → IsLogRead one area pages batches → IsLogRead other area pages batches
  log-read area pages batches r = record { named = sym same ∙ r.named; log = subst (λ (l : List ℕ). IsRecordLog pages batches l) (same-log area r.named) r.log }

  pages-read : {slots : ℕ} (area : Area) (pages : ℕ) (batches : List (List (Record slots))) → ArePagesRead one area pages batches → ArePagesRead other area pages batches
  pages-read area pages batches r = record { read = log-read area pages batches r.read; whole = r.whole }

  cells-read : {slots : ℕ} (area : Area) (pages : ℕ) (batches : List (List (Record slots))) (cells : List Cell) → AreCellsRead one area pages batches cells → AreCellsRead other area pages batches cells
  cells-read area pages batches cells r = record { pages_read = pages-read area pages batches r.pages_read; fit = r.fit; are = r.are }

  -- where both name the same log area, what the one opens to the other does
  renamed : (slots : ℕ) (o : Outcome) → Opened slots one o → Opened slots other o
  renamed slots o (no_store e) = no_store (sym same ∙ e)
  renamed slots o (damaged_log area at e d) = damaged_log area at (sym same ∙ e) (subst (λ (l : List ℕ). IsDamagedLog slots l at) (same-log area e) d)
  renamed slots o (unknown_version area byte e v) = unknown_version area byte (sym same ∙ e) (subst (λ (l : List ℕ). IsOfVersion slots byte l) (same-log area e) v)
  renamed slots o (damaged_page area pages batches page at r low d least) = damaged_page area pages batches page at (log-read area pages batches r) low d least
  renamed slots o (unfit area pages front before r after back p fits not) = unfit area pages front before r after back (pages-read area pages (front ++ (before ++ r ∷ after) ∷ back) p) fits not
  renamed slots o (unsound area pages batches cells rule id r broken) = unsound area pages batches cells rule id (cells-read area pages batches cells r) broken
  renamed slots o (stuck area pages batches cells id r kept is) = stuck area pages batches cells id (cells-read area pages batches cells r) kept is
  renamed slots o (opens area pages batches cells r kept can) = opens area pages batches cells (cells-read area pages batches cells r) kept can

pub alike : (slots : ℕ) (image : Bytes) (a b : List ℕ) → named_by a ≡ named_by b → OpenAlike slots (with_area image Super a) (with_area image Super b)
alike slots image a b same o = (renamed image a b same slots o, renamed image b a (sym same) slots o)

-- ---- a super area that lost bytes

-- they are none, or name the same log area
cut-names : (kept : ℕ) (bytes : List ℕ) → (named_by (take kept bytes) ≡ None) ⊎ (named_by bytes ≡ named_by (take kept bytes))
cut-names zero bytes = inl refl
cut-names (suc kept) [] = inl refl
cut-names (suc kept) (byte ∷ rest) = inr refl

pub cut-alike : CutStoreLaw
cut-alike slots kept image = by (cut-names kept image.super_area)
  where
    by : (named_by (take kept image.super_area) ≡ None) ⊎ (named_by image.super_area ≡ named_by (take kept image.super_area))
        → OpenAlike slots image (with_area image Super (take kept image.super_area)) ⊎ Opened slots (with_area image Super (take kept image.super_area)) NoStore
    by (inl none) = inr (no_store none)
    by (inr same) = inl (alike slots image image.super_area (take kept image.super_area) same)

-- ---- while a store is made

module _ {D : Type 0} (may_leave : D → Area → List ℕ → Type 0) (disk : D) (slots : ℕ) (bytes : List ℕ) (store : ℕ → Bytes) (batches : ℕ) (cells : List Cell) (made : PromotesTo slots bytes batches cells)
    (new : (byte : ℕ) → Opened slots (store byte) (OpensTo cells)) where
  pub making-opens : (image : Bytes) → IsMakingOf may_leave disk store image → IsPromoting may_leave slots disk bytes image
  making-opens image (made_before all may is) = by (cut-names (length image.super_area) all)
    where
      by : (named_by (take (length image.super_area) all) ≡ None) ⊎ (named_by all ≡ named_by (take (length image.super_area) all)) → IsPromoting may_leave slots disk bytes image
      by (inl none) = opens_to_none (no_store (ap named_by is ∙ none))
      by (inr same) = as_before (with_area image Super all) may (alike slots image all image.super_area (same ∙ ap named_by (sym is)))
  making-opens image (made_none none) = opens_to_none (no_store (ap named_by none))
  making-opens image (made_new byte is) = promoted batches cells made (subst (λ (i : Bytes). Opened slots i (OpensTo cells)) (sym is) (new byte))
