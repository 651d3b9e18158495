-- The laws of a base and the log after it.
use Rattle.std.proofs.Common.{◌≡◌, ◌⊎◌, inl, inr, ℕ, ◌+◌, ◌*◌, ◌<◌, ◌≤◌, List, [], ◌∷◌, ◌++◌, length, drop, refl, sym, ap, subst, ◌∙◌, arith, append_assoc}
use Rattle.std.proofs.lemmas.List.{take-append-drop}
use Rattle.plain_model.specs.History.{History, end_of, IsCrashConsistent}
use Rattle.cell_model.specs.Cells.{Cell as StoredCell}
use Rattle.cell_model.specs.Graph.{graph_of}
use Rattle.cell_page.specs.declared.cell.Cell.{Cell}
use Rattle.cell_page.specs.Format.{IsSlotCount}
use Rattle.disk_model.specs.declared.area.Area.{Area}
use Rattle.disk_model.specs.Areas.{Bytes, in_area}
use Rattle.gate_log.specs.Batches.{IsLog, most_bytes}
use Rattle.log_record.specs.declared.record.Record.{Record}
use Rattle.log_replay.specs.Replays.{Replaying}
use Rattle.opened_images.specs.LogRecords.{all_of, body_of, first_records, unended_by_all, unended_behind}
use Rattle.opened_images.specs.Opened.{IsLogRead}
use Rattle.opened_images.specs.WithImages.{is_imaged}
use Rattle.opened_images.proofs.Bodies.{turn_spelled}
use Rattle.opened_images.proofs.ImagesInLog.{all_both, no_image_of_both}
use Rattle.restart_laws.specs.Restored.{restored}
use Rattle.logged_journal.specs.Opens.{OpensAfter}
use Rattle.stream_writing.specs.Shipped.{AreLogBytes}
use Rattle.ship_stream.specs.Reading.{InLog, IsReading, base_bytes, shipped_bytes}
use Rattle.ship_stream.specs.Laws.{IsRead}
use Rattle.standby.specs.Following.{over_base, after_all, base_after}
use Rattle.standby.specs.Promoted.{Restores}
use Rattle.stream_writing.specs.Backups.{IsBaseOf}
use Rattle.standby_laws.specs.Fronts.{HasGoneOn, IsOfFront, BeginLaw, LaterLaw, FrontLaw}
use Rattle.standby_laws.proofs.Bases.{same_base}
use Rattle.standby_laws.proofs.Batches.{each_spelled, front_batches}
use Rattle.standby_laws.proofs.Replays.{unended_are}
use Rattle.standby_laws.proofs.Opens.{HoldAll, promotes-opened}
use Rattle.standby_laws.proofs.Stays.{front-stays}

pub begins : BeginLaw
begins slots pages cells area image some few sized turned =
    let same : turned.pages ≡ pages = (let whole = turned.whole in omega (arith, whole, sized)) in
    record {
      area = area;
      read = record {
        named = turned.named;
        log = record {
          batches_are = record { some = some; few = few; bodies = tt; spelled = tt; fit = tt };
          log = subst (λ (n : ℕ). IsLog most_bytes (body_of (first_records slots n) ∷ []) (in_area image area)) same turned.log;
        };
      };
      before = image.pages;
      in_place = λ page low. turned.in_place page (omega (arith, low, same));
      same = λ page low none. refl;
    }

pub go-on : LaterLaw
go-on slots pages cells batches more area image later gone read same = record {
  area = area;
  read = read;
  before = gone.before;
  in_place = gone.in_place;
  same = λ page low none.
      let fewer = no_image_of_both (8 * page + 1) (all_of batches) (all_of more) (sym (ap (λ (rs : List (Record slots)). is_imaged page rs) (all_both batches more)) ∙ none) in
      same page low none ∙ gone.same page low fewer.0;
}

-- ---- what came whole

-- the cells that a front of the batches leads to
abbrev front_cells : {slots : ℕ} → List (List (Cell slots)) → List (List (Record slots)) → List StoredCell
front_cells {slots} pages front = restored slots (after_all (over_base pages) (all_of front)).cells (unended_behind front)

-- with these pages and these batches a standby has what the store opens to
of-front : {slots : ℕ} → IsSlotCount slots → (cells made : List StoredCell) (pages : List (List (Cell slots))) (image : Bytes) (area : Area) (whole : ℕ) (front later : List (List (Record slots))) → HoldAll cells pages
    → IsLogRead image area (length pages) (front ++ later) → ((whole ≡ 0) × (front ≡ [])) ⊎ (whole ≡ length front + 1) → made ≡ front_cells pages front → IsOfFront slots (length pages) cells image whole made
of-front {slots} known cells made pages image area whole front later hold read many is =
    record {
      area = area;
      front = front;
      later = later;
      read = read;
      many = many;
      opens = λ earlier opened gone o. is ∙ promotes-opened cells pages front earlier hold gone known opened o;
      graph = left;
      stays = λ earlier h es gone o going. front-stays (end_of h) es (graph_of made) going (left earlier h gone o);
    }
  where
    left : (earlier : Bytes) (h : History) → HasGoneOn cells (length pages) front earlier → OpensAfter slots h earlier → IsCrashConsistent (end_of h) (graph_of made)
    left earlier h gone o = subst (λ (cs : List StoredCell). IsCrashConsistent (end_of h) (graph_of cs)) (sym (is ∙ promotes-opened cells pages front earlier hold gone known o.cells o.opened)) o.graph

-- the cells after the whole batches
restores-front : {slots : ℕ} (pages : List (List (Cell slots))) (rs : List (Record slots)) (v : Replaying) (made : List StoredCell) → v ≡ after_all (over_base pages) rs → Restores slots v made
    → made ≡ restored slots (after_all (over_base pages) rs).cells (unended_by_all [] rs)
restores-front {slots} pages rs v made is r =
    r.are ∙ ap (λ (w : Replaying). restored slots w.cells w.unended) is ∙ ap (λ us. restored slots (after_all (over_base pages) rs).cells us) (unended_are (over_base pages) rs)

-- ---- a base of the store

-- the pages that came are those of the base
base-pages : {slots : ℕ} → IsSlotCount slots → (pages : ℕ) (cells : List StoredCell) (base front x : List ℕ) (came : List (List (Cell slots))) (log : List (List (Record slots))) → pages ≤ 1024 → (b : IsBaseOf slots (8 * pages) cells base)
    → IsRead (base ++ front) (InLog came log) x → (came ≡ b.held) × (shipped_bytes log ++ x ≡ front)
base-pages {slots} known pages cells base front x came log few b read =
    let held = b.held in
    let number : length held ≡ b.pages = b.number in
    let own : base ++ front ≡ base_bytes (length held) held ++ front = ap (λ (l : List ℕ). l ++ front) (b.are ∙ ap (λ (n : ℕ). base_bytes n held) (sym number)) in
    let split : base ++ front ≡ base_bytes (length came) came ++ (shipped_bytes log ++ x) = read.split ∙ append_assoc (base_bytes (length came) came) (shipped_bytes log) x in
    same_base known came held (shipped_bytes log ++ x) front (base ++ front) read.reading.0.1 (omega (arith, number, b.whole, few)) read.reading.1
    (λ p low. let below : p < b.pages = omega (arith, low, number) in ((b.each p below).rules, b.typed p below)) split own

-- the batches that came are the first ones of the log
log-front : {slots : ℕ} → IsSlotCount slots → (image : Bytes) (came : List (List (Cell slots))) (front rest x : List ℕ) (log : List (List (Record slots))) → (shipped : AreLogBytes slots image (front ++ rest)) → IsReading (InLog came log)
    → shipped_bytes log ++ x ≡ front → (later : List (List (Record slots))) × (first_records slots shipped.pages ∷ shipped.log.batches ≡ log ++ later)
log-front {slots} known image came front rest x log shipped reading split =
    let read = shipped.log.read.log in
    let area = in_area image shipped.area in
    let behind = rest ++ drop shipped.len area in
    let all : front ++ behind ≡ area = sym (append_assoc front rest (drop shipped.len area)) ∙ ap (λ (l : List ℕ). l ++ drop shipped.len area) shipped.are ∙ take-append-drop shipped.len area in
    let bytes : shipped_bytes log ++ (x ++ behind) ≡ shipped_bytes (first_records slots shipped.pages ∷ shipped.log.batches) ++ read.log.commit_byte ∷ read.log.rest =
    sym (append_assoc (shipped_bytes log) x behind) ∙ ap (λ (l : List ℕ). l ++ behind) split ∙ all ∙ read.log.are in
    front_batches known (length came) [] log (first_records slots shipped.pages ∷ shipped.log.batches) (x ++ behind) read.log.commit_byte read.log.rest reading.2
    (turn_spelled slots shipped.pages read.batches_are.some read.batches_are.few, each_spelled shipped.log.batches read.batches_are.spelled) read.log.bodies read.log.closed bytes

same_rest : {X : Type 0} (a b : X) (x y : List X) → a ∷ x ≡ b ∷ y → x ≡ y
same_rest a b x y e = cc

same_head : {X : Type 0} (a b : X) (x y : List X) → a ∷ x ≡ b ∷ y → a ≡ b
same_head a b x y e = cc

-- what came is a front of the log
by-batches : {slots : ℕ} → IsSlotCount slots → (cells made : List StoredCell) (came : List (List (Cell slots))) (image : Bytes) (area : Area) (whole count : ℕ) (log batches later : List (List (Record slots))) (v : Replaying)
    → HoldAll cells came → IsLogRead image area (length came) batches → whole ≡ length log → v ≡ base_after came log → Restores slots v made → first_records slots count ∷ batches ≡ log ++ later
    → IsOfFront slots (length came) cells image whole made
by-batches {slots} known cells made came image area whole count [] batches later v hold read many is r all =
    of-front known cells made came image area whole [] batches hold read (inl (many, refl)) (restores-front came [] v made is r)
by-batches {slots} known cells made came image area whole count (turn ∷ front) batches later v hold read many is r all =
    let head : turn ≡ first_records slots count = sym (same_head (first_records slots count) turn batches (front ++ later) all) in
    let tail : batches ≡ front ++ later = same_rest (first_records slots count) turn batches (front ++ later) all in
    let over : v ≡ after_all (over_base came) (all_of front) = is ∙ ap (λ (t : List (Record slots)). after_all (over_base came) (t ++ all_of front)) head in
    of-front known cells made came image area whole front later hold (subst (λ (l : List (List (Record slots))). IsLogRead image area (length came) l) tail read) (inr (omega (arith, many)))
    (restores-front came (all_of front) v made over r)

pub fronts : FrontLaw
fronts slots pages whole cells made base front rest image known b shipped same promotes =
    let v = promotes.0 in
    let leads = promotes.1 in
    let few : pages ≤ 1024 = (let most = shipped.log.read.log.batches_are.few in omega (arith, same, most)) in
    let held = b.held in
    let number : length held ≡ pages = omega (arith, b.number, b.whole) in
    let base_is = base-pages known pages cells base front leads.rest leads.pages leads.log few b leads.read in
    let long : length leads.pages ≡ pages = ap (λ (l : List (List (Cell slots))). length l) base_is.0 ∙ number in
    let hold : HoldAll cells held = λ p low. b.each p (omega (arith, low, b.number)) in
    let log_is = log-front known image leads.pages front rest leads.rest leads.log shipped leads.read.reading base_is.1 in
    subst (λ (n : ℕ). IsOfFront slots n cells image whole made) long
    (by-batches known cells made leads.pages image shipped.area whole shipped.pages leads.log shipped.log.batches log_is.0 v
    (subst (λ (l : List (List (Cell slots))). HoldAll cells l) (sym base_is.0) hold)
    (subst (λ (n : ℕ). IsLogRead image shipped.area n shipped.log.batches) (same ∙ sym long) shipped.log.read) leads.many leads.are promotes.2 log_is.1)
