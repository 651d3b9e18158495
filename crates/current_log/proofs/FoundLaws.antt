-- The log that the super area names.
use Rattle.std.proofs.Common.{◌≡◌, ℕ, List, Option, Some, None, Result, Ok, Err, refl, subst}
use Rattle.std.specs.Prelude.{IfSome, IfOk, IfErr}
use Rattle.disk_model.specs.declared.area.Area.{Area}
use Rattle.disk_model.specs.declared.area.Area.TheVariants.{Pages, LogA as AreaA, LogB as AreaB, Super}
use Rattle.disk_model.specs.Areas.{Bytes, in_area}
use Rattle.gate_log.specs.State.{IsLogArea}
use Rattle.gate_log.specs.OnDisk.{named_by}
use Rattle.gate_log.specs.CommitBytes.{IsDamaged}
use Rattle.gate_log.specs.declared.refusal.LogRefusal.{LogRefusal}
use Rattle.gate_log.specs.declared.refusal.LogRefusal.TheVariants.{Disk as LogDisk, LogFull as LogLogFull, Damaged as LogDamaged, Memory as LogMemory}
use Rattle.opened_images.specs.LogRecords.{IsDamagedLog, no_first}
use Rattle.store_opening.specs.declared.open_refusal.OpenRefusal.{OpenRefusal}
use Rattle.store_opening.specs.declared.open_refusal.OpenRefusal.TheVariants.{Disk, Damaged, NoStore, UnknownVersion, Unsound, Memory, LogFull}
use Rattle.store_opening.specs.declared.open_refusal.Place.{Place}
use Rattle.store_opening.specs.declared.open_refusal.Place.TheVariants.{LogA, LogB, Page}
use Rattle.store_opening.specs.Store.{place_of}
use Rattle.current_log.specs.Tested.{IsTestedLog}
use Rattle.current_log.specs.Current.{HasCurrentLog, RefusesLog, RefusesLogIn, refusal_in}

-- what is told of an area, of what the disk reads
pub here : (o : Option (List ℕ)) (bytes : List ℕ) (P : List ℕ → Type 0) → o ≡ Some bytes → IfSome o P → P bytes
here o bytes P is told = subst (λ (x : Option (List ℕ)). IfSome x P) is told

-- the log that was found
pub current : (slots : ℕ) (image : Bytes) (area : Area) (pages len : ℕ) → named_by image.super_area ≡ Some area → IsTestedLog slots pages len (in_area image area) → HasCurrentLog slots image area pages len
current slots image area pages len named tested = record { batches = tested.batches; read = record { named = named; log = tested.log }; all = tested.all }

damaged_at : (slots : ℕ) (image : Bytes) (area : Area) (place : Place) (at : ℕ) → IsLogArea area → named_by image.super_area ≡ Some area → (place ≡ place_of area) × IsDamagedLog slots (in_area image area) at
    → RefusesLog slots image (Damaged place at)
damaged_at slots image AreaA LogA at is named damaged = record { named = named; damaged = damaged.1 }
damaged_at slots image AreaA LogB at is named damaged = absurd (cc damaged.0)
damaged_at slots image AreaA (Page page) at is named damaged = absurd (cc damaged.0)
damaged_at slots image AreaB LogB at is named damaged = record { named = named; damaged = damaged.1 }
damaged_at slots image AreaB LogA at is named damaged = absurd (cc damaged.0)
damaged_at slots image AreaB (Page page) at is named damaged = absurd (cc damaged.0)
damaged_at slots image Pages place at is named damaged = absurd is
damaged_at slots image Super place at is named damaged = absurd is

-- the refusal of the log in an area is that of the image that names it
pub refuses : (slots : ℕ) (image : Bytes) (area : Area) (e : OpenRefusal) → IsLogArea area → named_by image.super_area ≡ Some area → RefusesLogIn slots area e (in_area image area) → RefusesLog slots image e
refuses slots image area Disk is named refused = tt
refuses slots image area (Damaged place at) is named refused = damaged_at slots image area place at is named refused
refuses slots image area NoStore is named refused = absurd refused
refuses slots image area (UnknownVersion byte) is named refused = record { area = area; named = named; version = refused }
refuses slots image area (Unsound id rule) is named refused = absurd refused
refuses slots image area Memory is named refused = tt
refuses slots image area LogFull is named refused = absurd refused

-- a refusal of the first batch
pub refused_first : (o : Option (List ℕ)) (slots : ℕ) (area : Area) (e : LogRefusal) → ((place : ℕ) → e ≡ LogDamaged place → IfSome o (IsDamaged 0 place)) → IfSome o (RefusesLogIn slots area (refusal_in area e))
refused_first None slots area e damaged = tt
refused_first (Some bytes) slots area LogDisk damaged = tt
refused_first (Some bytes) slots area (LogDamaged at) damaged = (refl, no_first (damaged at refl))
refused_first (Some bytes) slots area (LogLogFull used) damaged = tt
refused_first (Some bytes) slots area LogMemory damaged = tt

-- a refusal of the batches after it
pub refused_later : (o : Option (List ℕ)) (slots : ℕ) (area : Area) (e : LogRefusal) → ((place : ℕ) → e ≡ LogDamaged place → IfSome o (λ c. IsDamagedLog slots c place)) → IfSome o (RefusesLogIn slots area (refusal_in area e))
refused_later None slots area e damaged = tt
refused_later (Some bytes) slots area LogDisk damaged = tt
refused_later (Some bytes) slots area (LogDamaged at) damaged = (refl, damaged at refl)
refused_later (Some bytes) slots area (LogLogFull used) damaged = tt
refused_later (Some bytes) slots area LogMemory damaged = tt

-- of what a call refused, more
pub err_more : {T E : Type 0} (r : Result T E) (P Q : E → Type 0) → ((e : E) → P e → Q e) → IfErr r P → IfErr r Q
err_more (Ok x) P Q go is = is
err_more (Err e) P Q go is = go e is

pub ok_more : {T E : Type 0} (r : Result T E) (P Q : T → Type 0) → ((x : T) → P x → Q x) → IfOk r P → IfOk r Q
ok_more (Ok x) P Q go is = go x is
ok_more (Err e) P Q go is = is
