use Rattle.std.proofs.Common.{◌≡◌, ℕ, List, length, Option, Some, Err, sym, ap, subst, ◌∙◌}
use Rattle.std.specs.Prelude.{IfSome}
use Rattle.disk_model.specs.declared.area.Area.{Area}
use Rattle.disk_model.specs.declared.area.Area.TheVariants.{Pages, Super}
use Rattle.disk_model.specs.Areas.{in_area}
use Rattle.gate_log.specs.State.{IsLogArea}
use Rattle.gate_log.specs.OnDisk.{named_by}
use Rattle.opened_images.specs.LogRecords.{IsOfVersion, IsDamagedLog}
use Rattle.opened_images.specs.Opened.{no_store}
use Rattle.store_opening.specs.Loaded.{AreLoaded, IsFirstDamaged}
use Rattle.store_opening.specs.Store.{Refuses}
use Rattle.store_opening.proofs.FinalLaws.{final_of}
use Rattle.store_opening.proofs.LookLaws.{and_look, settled_kept, was_ok}
use Rattle.store_opening.proofs.StoreLaws.{told_of, refuses_log, refuses_pages, opens_damaged, log_told, counts_told, store_read}
use Rattle.store_opening.proofs.store.read_store.Goals as goal

pub returns-in-Ok-load_pages-clause-looks : goal.returns-in-Ok-load_pages-clause-looks
returns-in-Ok-load_pages-clause-looks g c =
    and_look g.D.Disk.content (and_look g.D.Disk.content (and_look g.D.Disk.content c.sync_areas.ensures.looks c.named_area.ensures.looks) c.read_log.ensures.looks) c.load_pages.ensures.looks

pub returns-in-Err-load_pages-clause-looks : goal.returns-in-Err-load_pages-clause-looks
returns-in-Err-load_pages-clause-looks g c =
    and_look g.D.Disk.content (and_look g.D.Disk.content (and_look g.D.Disk.content c.sync_areas.ensures.looks c.named_area.ensures.looks) c.read_log.ensures.looks) c.load_pages.ensures.looks

pub returns-in-Ok-None-clause-refused : goal.returns-in-Ok-None-clause-refused
returns-in-Ok-None-clause-refused g c image reads =
    let named = told_of (g.D.Disk.content c.sync_areas.new.disk Super) (in_area image Super) (λ bytes. c.in-Ok-None.field-0 ≡ named_by bytes)
    ((c.sync_areas.ensures.looks.keeps Super).same ∙ reads Super) c.in-Ok-None.ensures.named in
    no_store (sym named ∙ c.in-Ok-None.field-0-is)

pub returns-in-Err-read_log-clause-refused : goal.returns-in-Err-read_log-clause-refused
returns-in-Err-read_log-clause-refused g c image reads =
    let area = c.in-Ok-Some.area in
    let named = told_of (g.D.Disk.content c.sync_areas.new.disk Super) (in_area image Super) (λ bytes. c.in-Ok-Some.field-0 ≡ named_by bytes)
    ((c.sync_areas.ensures.looks.keeps Super).same ∙ reads Super) c.in-Ok-Some.ensures.named in
    let is_log = subst (λ (o : Option Area). IfSome o IsLogArea) c.in-Ok-Some.field-0-is c.in-Ok-Some.ensures.area in
    let same : g.D.Disk.content c.named_area.new.disk area ≡ Some (in_area image area) = (c.named_area.ensures.looks.keeps area).same ∙ (c.sync_areas.ensures.looks.keeps area).same ∙ reads area in
    subst (λ r. Refuses g.row.SLOTS image r) (sym c.refusal_of_log.ensures)
    (refuses_log g.row.SLOTS image area c.in-Err-read_log.refusal is_log (sym c.in-Ok-Some.field-0-is ∙ named)
    (λ number e. told_of (g.D.Disk.content c.named_area.new.disk area) (in_area image area) (IsOfVersion g.row.SLOTS number) same (c.in-Err-read_log.ensures.version number (ap Err e)))
    (λ at e. told_of (g.D.Disk.content c.named_area.new.disk area) (in_area image area) (λ bytes. IsDamagedLog g.row.SLOTS bytes at) same (c.in-Err-read_log.ensures.damaged at (ap Err e))))

pub returns-in-Ok-load_pages-clause-read : goal.returns-in-Ok-load_pages-clause-read
returns-in-Ok-load_pages-clause-read g c image reads =
    let log = c.in-Ok.found.log in
    let named = told_of (g.D.Disk.content c.sync_areas.new.disk Super) (in_area image Super) (λ bytes. c.in-Ok-Some.field-0 ≡ named_by bytes)
    ((c.sync_areas.ensures.looks.keeps Super).same ∙ reads Super) c.in-Ok-Some.ensures.named in
    let naming : named_by image.super_area ≡ Some log.area = sym named ∙ c.in-Ok-Some.field-0-is ∙ ap (λ (a : Area). Some a) (sym c.in-Ok.ensures.stands.1) in
    let told : (area : Area) → g.D.Disk.content c.read_log.new.disk area ≡ Some (in_area image area) =
    λ area. (c.read_log.ensures.looks.keeps area).same ∙ (c.named_area.ensures.looks.keeps area).same ∙ (c.sync_areas.ensures.looks.keeps area).same ∙ reads area in
    let loaded = told_of (g.D.Disk.content c.read_log.new.disk Pages) image.pages
    (λ area. AreLoaded g.row.SLOTS c.deref.result.now (length c.deref.result.now) area c.in-Ok-load_pages.pages.items) (told Pages) c.in-Ok-load_pages.ensures.loaded in
    let of_images = subst (λ (l : List ℕ). AreLoaded g.row.SLOTS l (length l) image.pages c.in-Ok-load_pages.pages.items) c.deref.ensures.value loaded in
    let of_count = subst (λ (n : ℕ). AreLoaded g.row.SLOTS c.in-Ok.found.images.items n image.pages c.in-Ok-load_pages.pages.items) c.in-Ok.ensures.found.number of_images in
    store_read g.D.Disk.content g.D.Disk.may_leave g.row.SLOTS c.in-Ok.found.pages c.in-Ok.found.images.items log c.read_log.new.disk c.load_pages.new.disk image c.in-Ok-load_pages.pages.items
    c.requires.count c.in-Ok.ensures.found (told log.area) naming c.load_pages.ensures.looks.keeps of_count

pub returns-in-Err-load_pages-clause-refused : goal.returns-in-Err-load_pages-clause-refused
returns-in-Err-load_pages-clause-refused g c image reads =
    let log = c.in-Ok.found.log in
    let named = told_of (g.D.Disk.content c.sync_areas.new.disk Super) (in_area image Super) (λ bytes. c.in-Ok-Some.field-0 ≡ named_by bytes)
    ((c.sync_areas.ensures.looks.keeps Super).same ∙ reads Super) c.in-Ok-Some.ensures.named in
    let naming : named_by image.super_area ≡ Some log.area = sym named ∙ c.in-Ok-Some.field-0-is ∙ ap (λ (a : Area). Some a) (sym c.in-Ok.ensures.stands.1) in
    let told : (area : Area) → g.D.Disk.content c.read_log.new.disk area ≡ Some (in_area image area) =
    λ area. (c.read_log.ensures.looks.keeps area).same ∙ (c.named_area.ensures.looks.keeps area).same ∙ (c.sync_areas.ensures.looks.keeps area).same ∙ reads area in
    let found = c.in-Ok.ensures.found in
    subst (λ r. Refuses g.row.SLOTS image r) (sym c.refusal_of_pages.ensures)
    (refuses_pages g.row.SLOTS image c.in-Err-load_pages.refusal
    (λ page at e.
    let first = told_of (g.D.Disk.content c.read_log.new.disk Pages) image.pages (IsFirstDamaged g.row.SLOTS c.deref.result.now page at) (told Pages) (c.in-Err-load_pages.ensures.damaged page at (ap Err e)) in
    opens_damaged image log.area c.in-Ok.found.pages found.batches c.in-Ok.found.images.items page at
    (log_told g.D.Disk.content g.D.Disk.may_leave g.row.SLOTS c.in-Ok.found.pages c.in-Ok.found.images.items log c.read_log.new.disk image found (told log.area) naming) found.number
    (counts_told g.D.Disk.content g.D.Disk.may_leave g.row.SLOTS c.in-Ok.found.pages c.in-Ok.found.images.items log c.read_log.new.disk image found (told log.area))
    (subst (λ (l : List ℕ). IsFirstDamaged g.row.SLOTS l page at image.pages) c.deref.ensures.value first)))

pub returns-in-Ok-load_pages-clause-settled : goal.returns-in-Ok-load_pages-clause-settled
returns-in-Ok-load_pages-clause-settled g c =
    settled_kept g.D.Disk.content c.load_pages.ensures.looks (settled_kept g.D.Disk.content c.read_log.ensures.looks (settled_kept g.D.Disk.content c.named_area.ensures.looks (was_ok c.sync_areas.result _ (sym c.is_err.ensures.value ∙ c.if-is_err.false) c.sync_areas.ensures.settled)))

pub returns-in-Ok-None-clause-for_good : goal.returns-in-Ok-None-clause-for_good
returns-in-Ok-None-clause-for_good g c of_store =
    final_of g.D.Disk.content g.D.Disk.may_leave g.row.SLOTS c.args.disk.now c.named_area.new.disk _ (and_look g.D.Disk.content c.sync_areas.ensures.looks c.named_area.ensures.looks).keeps
    (settled_kept g.D.Disk.content c.named_area.ensures.looks (was_ok c.sync_areas.result _ (sym c.is_err.ensures.value ∙ c.if-is_err.false) c.sync_areas.ensures.settled))
    (returns-in-Ok-None-clause-refused g c)

pub returns-in-Err-read_log-clause-for_good : goal.returns-in-Err-read_log-clause-for_good
returns-in-Err-read_log-clause-for_good g c of_store =
    final_of g.D.Disk.content g.D.Disk.may_leave g.row.SLOTS c.args.disk.now c.read_log.new.disk _
    (and_look g.D.Disk.content (and_look g.D.Disk.content c.sync_areas.ensures.looks c.named_area.ensures.looks) c.read_log.ensures.looks).keeps
    (settled_kept g.D.Disk.content c.read_log.ensures.looks (settled_kept g.D.Disk.content c.named_area.ensures.looks (was_ok c.sync_areas.result _ (sym c.is_err.ensures.value ∙ c.if-is_err.false) c.sync_areas.ensures.settled)))
    (returns-in-Err-read_log-clause-refused g c)

pub returns-in-Err-load_pages-clause-for_good : goal.returns-in-Err-load_pages-clause-for_good
returns-in-Err-load_pages-clause-for_good g c of_store =
    final_of g.D.Disk.content g.D.Disk.may_leave g.row.SLOTS c.args.disk.now c.load_pages.new.disk _ (returns-in-Err-load_pages-clause-looks g c).keeps
    (settled_kept g.D.Disk.content c.load_pages.ensures.looks (settled_kept g.D.Disk.content c.read_log.ensures.looks (settled_kept g.D.Disk.content c.named_area.ensures.looks (was_ok c.sync_areas.result _ (sym c.is_err.ensures.value ∙ c.if-is_err.false) c.sync_areas.ensures.settled))))
    (returns-in-Err-load_pages-clause-refused g c)
