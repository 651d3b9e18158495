-- How many bytes records take.
use Rattle.std.proofs.Common.{◌≡◌, ℕ, ⊎_elim, ◌≤◌, ◌<◌, List, length, Option, Some, None, refl, sym, ◌∙◌, ap, subst, arith}
use Rattle.std.specs.Option.{option_map_or}
use Rattle.plain_model.specs.declared.calls.Call.{Call as TransactionCall}
use Rattle.plain_model.specs.declared.calls.Call.TheVariants as call
use Rattle.plain_model.specs.declared.calls.Reply.{Reply}
use Rattle.plain_model.specs.ActiveTransaction.{ActiveTransaction}
use Rattle.plain_model.specs.Machine.{State, transaction_of, refusal_of, refusal_in, refusal_out}
use Rattle.cell_model.specs.Cells.{Cell}
use Rattle.log_record.specs.declared.cell_record.CellRecord.{CellRecord}
use Rattle.log_record.specs.declared.cell_record.CellRecord.TheVariants as logs
use Rattle.log_record.specs.Spelling.{cell_record_bytes, record_bytes}
use Rattle.cell_page.specs.declared.cell.Cell.{Cell as PageCell}
use Rattle.cell_page.specs.Format.{IsSlotCount, IsPage, AreTyped}
use Rattle.log_record.specs.declared.record.Record.TheVariants.{Image}
use Rattle.page_area.proofs.InPlaceLaws.{page_length}
use Rattle.logged_journal.specs.View.{image_bytes}
use Rattle.core_store.specs.Logged.{logged_by, record_in}
use Rattle.core_store.specs.Owed.{bytes_logged}
use Rattle.core_store.specs.RoundView.{RoundView, asked_by_walk, asked_by_sweep, Proceeds, skip, start, weaken, scan, judge, cut, free, flip, into, strengthen, end}
use Rattle.core_store.specs.Steppings.{bytes_to_collect, bytes_at}
use Rattle.core_store.specs.declared.act.Act.{Act}

-- how many bytes a record takes
abbrev pub size : CellRecord → ℕ
size (logs.Begin pass) = 2
size (logs.Make pass id) = 6
size (logs.Store pass id slot old_target old_strong new_target new_bit new_strong) = 18
size (logs.Pay pass id old_value new_value) = 22
size (logs.Commit pass) = 2
size (logs.Undo pass place from_strong to_bit id «from» to) = 25
size (logs.AbortEnd pass) = 2
size (logs.Weaken id slot target) = 10
size (logs.Strengthen id slot target) = 10
size (logs.Flip id) = 5
size (logs.CutDead id slot target was_strong) = 11
size (logs.Free id) = 5

pub size-is : (r : CellRecord) → length (cell_record_bytes r) ≡ size r
unfolding cell_record_bytes
size-is (logs.Begin pass) = refl
size-is (logs.Make pass id) = refl
size-is (logs.Store pass id slot old_target old_strong new_target new_bit new_strong) = refl
size-is (logs.Pay pass id old_value new_value) = refl
size-is (logs.Commit pass) = refl
size-is (logs.Undo pass place from_strong to_bit id «from» to) = refl
size-is (logs.AbortEnd pass) = refl
size-is (logs.Weaken id slot target) = refl
size-is (logs.Strengthen id slot target) = refl
size-is (logs.Flip id) = refl
size-is (logs.CutDead id slot target was_strong) = refl
size-is (logs.Free id) = refl

-- a record has a byte
pub size-some : (r : CellRecord) → 0 < length (cell_record_bytes r)
size-some r = subst (λ (n : ℕ). 0 < n) (sym (size-is r)) (by r) where
  by : (r : CellRecord) → 0 < size r
  by (logs.Begin pass) = omega (arith)
  by (logs.Make pass id) = omega (arith)
  by (logs.Store pass id slot old_target old_strong new_target new_bit new_strong) = omega (arith)
  by (logs.Pay pass id old_value new_value) = omega (arith)
  by (logs.Commit pass) = omega (arith)
  by (logs.Undo pass place from_strong to_bit id «from» to) = omega (arith)
  by (logs.AbortEnd pass) = omega (arith)
  by (logs.Weaken id slot target) = omega (arith)
  by (logs.Strengthen id slot target) = omega (arith)
  by (logs.Flip id) = omega (arith)
  by (logs.CutDead id slot target was_strong) = omega (arith)
  by (logs.Free id) = omega (arith)

pub size-most : (r : CellRecord) → length (cell_record_bytes r) ≤ 25
size-most r = subst (λ (n : ℕ). n ≤ 25) (sym (size-is r)) (by r) where
  by : (r : CellRecord) → size r ≤ 25
  by (logs.Begin pass) = omega (arith)
  by (logs.Make pass id) = omega (arith)
  by (logs.Store pass id slot old_target old_strong new_target new_bit new_strong) = omega (arith)
  by (logs.Pay pass id old_value new_value) = omega (arith)
  by (logs.Commit pass) = omega (arith)
  by (logs.Undo pass place from_strong to_bit id «from» to) = omega (arith)
  by (logs.AbortEnd pass) = omega (arith)
  by (logs.Weaken id slot target) = omega (arith)
  by (logs.Strengthen id slot target) = omega (arith)
  by (logs.Flip id) = omega (arith)
  by (logs.CutDead id slot target was_strong) = omega (arith)
  by (logs.Free id) = omega (arith)

-- of what was logged, if anything was
abbrev pub logged_length : Option CellRecord → ℕ
logged_length logged = option_map_or (λ r. length (cell_record_bytes r)) logged 0

pub at-most-25 : (logged : Option CellRecord) → logged_length logged ≤ 25
at-most-25 None = omega (arith)
at-most-25 (Some r) = size-most r

-- the record of a call has at most as many bytes as told
pub call-length : (s : State) (cells : List Cell) (pass : ℕ) (c : TransactionCall) → refusal_of s pass c ≡ None → logged_length (logged_by s cells pass c) ≤ bytes_logged c
unfolding cell_record_bytes
call-length s cells pass c granted = subst (λ (o : Option CellRecord). logged_length o ≤ bytes_logged c) (sym is) (by (transaction_of s pass) refl c granted)
  where
    is : logged_by s cells pass c ≡ option_map_or (λ t. record_in s cells pass t c) (transaction_of s pass) (Some (logs.Begin pass))
    is = ap (λ (o : Option Reply). option_map_or (λ reply. None) o (option_map_or (λ t. record_in s cells pass t c) (transaction_of s pass) (Some (logs.Begin pass)))) granted

    inside : (t : ActiveTransaction) (c : TransactionCall) → logged_length (record_in s cells pass t c) ≤ bytes_logged c
    inside t call.Begin = omega (arith)
    inside t (call.Read r slot target) = omega (arith)
    inside t (call.Make target) = omega (arith)
    inside t (call.Store r slot source) = omega (arith)
    inside t (call.GetPay r) = omega (arith)
    inside t (call.Release r) = omega (arith)
    inside t (call.SetPay r value) = omega (arith)
    inside t call.Commit = omega (arith)
    inside t call.Abort = omega (arith)

    outside : (c : TransactionCall) → refusal_out c ≡ None → 2 ≤ bytes_logged c
    outside call.Begin e = omega (arith)
    outside (call.Read r slot target) e = absurd (cc (e))
    outside (call.Make target) e = absurd (cc (e))
    outside (call.Store r slot source) e = absurd (cc (e))
    outside (call.GetPay r) e = absurd (cc (e))
    outside (call.Release r) e = absurd (cc (e))
    outside (call.SetPay r value) e = absurd (cc (e))
    outside call.Commit e = absurd (cc (e))
    outside call.Abort e = absurd (cc (e))

    by : (o : Option ActiveTransaction) → transaction_of s pass ≡ o → (c : TransactionCall) → refusal_of s pass c ≡ None → logged_length (option_map_or (λ t. record_in s cells pass t c) o (Some (logs.Begin pass))) ≤ bytes_logged c
    by (Some t) f c g = inside t c
    by None f c g = outside c (sym (ap (λ (o : Option ActiveTransaction). option_map_or (λ t. refusal_in s pass t c) o (refusal_out c)) f) ∙ g)

-- so has that of the collector's next event
pub collect-length : (slots ids : ℕ) (old new : RoundView) (a : Act) (logged : Option CellRecord) → Proceeds slots ids old a logged new → logged_length logged ≤ bytes_to_collect old
unfolding cell_record_bytes
collect-length slots ids _ _ _ _ (skip id) = omega (arith)
collect-length slots ids _ _ _ _ (start id) = omega (arith)
collect-length slots ids _ _ _ _ (weaken w id slot target joins next) = subst (λ r. 10 ≤ bytes_at (asked_by_walk r)) (sym next) (omega (arith))
collect-length slots ids _ _ _ _ (scan w id copy next) = omega (arith)
collect-length slots ids _ _ _ _ (judge w j next) = omega (arith)
collect-length slots ids _ _ _ _ (cut w s slot id target strong g next) = subst (λ r. 11 ≤ bytes_at (asked_by_sweep slot g r)) (sym next) (omega (arith))
collect-length slots ids _ _ _ _ (free w s slot id g next) = subst (λ r. 5 ≤ bytes_at (asked_by_sweep slot g r)) (sym next) (omega (arith))
collect-length slots ids _ _ _ _ (flip w s slot id g next) = subst (λ r. 5 ≤ bytes_at r) (sym next) (omega (arith))
collect-length slots ids _ _ _ _ (into w s slot «from» k to g next) = subst (λ r. 10 ≤ bytes_at r) (sym next) (omega (arith))
collect-length slots ids _ _ _ _ (strengthen w s slot «from» k to g next) = subst (λ r. 10 ≤ bytes_at r) (sym next) (omega (arith))
collect-length slots ids _ _ _ _ (end w s slot g next) = omega (arith)

-- ---- images

-- no record of single cells is as long as an image
pub image-long : (slots : ℕ) → IsSlotCount slots → 25 ≤ image_bytes slots
image-long slots count = ⊎_elim (λ six. subst (λ (s : ℕ). 25 ≤ image_bytes s) (sym six) (omega (arith))) (λ fourteen. subst (λ (s : ℕ). 25 ≤ image_bytes s) (sym fourteen) (omega (arith))) count

pub image-size : {slots : ℕ} (page : ℕ) (held : List (PageCell slots)) → IsSlotCount slots → IsPage page held → AreTyped held → length (record_bytes (Image page held)) ≡ image_bytes slots
image-size page held count rules typed = let long = page_length page held count rules typed in omega (arith, long)
