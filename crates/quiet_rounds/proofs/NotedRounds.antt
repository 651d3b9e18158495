-- Notes of a journal from the start of a round to its end, beside no active client, are those of a whole round.
use Rattle.std.proofs.Common.{◌≡◌, ◌≢◌, ◌↔◌, ℕ, ◌+◌, ◌≤◌, ◌==◌, if◌then◌else◌, Bool, true, false, List, [], ◌∷◌, ◌++◌, length, Option, None, refl, sym, ap, subst, ◌∙◌, arith}
use Rattle.std.specs.Prelude.{Contains}
use Rattle.std.proofs.lemmas.List.{length-append}
use Rattle.std.proofs.lemmas.List.Elements.{Contains-append_left, Contains-append_right}
use Rattle.store_model.specs.Core.{Core}
use Rattle.store_model.proofs.Lists.{Contains-here}
use Rattle.red_walk.specs.Walk.{Walk, opened}
use Rattle.green_walk.specs.declared.sweep.Found.TheVariants.{Nothing}
use Rattle.green_walk.specs.Sweeping.{SweepState as Sweep, found}
use Rattle.green_walk.specs.Greening.{Greening}
use Rattle.log_record.specs.declared.cell_record.CellRecord.{CellRecord}
use Rattle.core_store.specs.declared.act.Act.{Act}
use Rattle.core_store.specs.declared.act.Act.TheVariants as act
use Rattle.core_store.specs.declared.collect.Collect.{Collect}
use Rattle.core_store.specs.declared.note.Note.{Note}
use Rattle.core_store.specs.Collects.{entry_of}
use Rattle.core_store.specs.JournalView.{JournalView, cells_of, core_of}
use Rattle.core_store.specs.RoundView.{RoundView, Closed, Walking, Sweeping, is_closed, next_slot, left_of, Proceeds, skip, start, weaken, scan, judge, cut, free, flip, into, strengthen, end}
use Rattle.core_store.specs.Steppings.{MakesEvent}
use Rattle.quiet_rounds.specs.Quiet.{NoneActive}
use Rattle.quiet_rounds.specs.Laws.{IsQuietEvent}
use Rattle.quiet_rounds.specs.WholeRounds.{IsWholeRound, IsDominated, most_round_events}
use Rattle.quiet_rounds.specs.Collections.{none as none_yet, round}
use Rattle.quiet_rounds.specs.JournalSteps.{IsSoundJournal, CollectorSteps, none, looks, event, note_of}
use Rattle.quiet_rounds.specs.RoundNotes.{AreOfRound, started_with, list_from, objects_of_round, NotedRoundLaw, NotedDominatedLaw, NotedDeletedLaw, NotedKeptLaw, NotedFewerLaw, NotedBoundLaw}
use Rattle.quiet_rounds.proofs.Bounds.{bound}
use Rattle.quiet_rounds.proofs.Collections.{rounds-made}
use Rattle.quiet_rounds.proofs.Deleted.{kept, deleted}
use Rattle.quiet_rounds.proofs.Dominated.{dominated}
use Rattle.quiet_rounds.proofs.JournalEvents.{is-quiet_event, is-still, steps-told, steps-quiet}
use Rattle.quiet_rounds.proofs.NotedLists.{list-scanned}
use Rattle.quiet_rounds.proofs.OpenRounds.{IsOpenRound, IsClosedWith, opens, looked-open, event-open, closes}

-- ---- lists

abbrev head_or : {X : Type 0} → X → List X → X
head_or x [] = x
head_or x (y ∷ ys) = y

abbrev tail_of : {X : Type 0} → List X → List X
tail_of [] = []
tail_of (y ∷ ys) = ys

same-head : {X : Type 0} (x y : X) (xs ys : List X) → x ∷ xs ≡ y ∷ ys → x ≡ y
same-head x y xs ys e = ap (head_or x) e

same-tail : {X : Type 0} (x y : X) (xs ys : List X) → x ∷ xs ≡ y ∷ ys → xs ≡ ys
same-tail x y xs ys e = ap tail_of e

snoc-some : {X : Type 0} (xs : List X) (x : X) → [] ≡ xs ++ x ∷ [] → ⊥
snoc-some [] x e = cc
snoc-some (y ∷ ys) x e = cc

-- lists with one element more are the same only where both parts are
pub snoc-same : {X : Type 0} (xs ys : List X) (x y : X) → xs ++ x ∷ [] ≡ ys ++ y ∷ [] → (xs ≡ ys) × (x ≡ y)
snoc-same [] [] x y e = (refl, same-head x y [] [] e)
snoc-same [] (b ∷ ys) x y e = absurd (snoc-some ys y (same-tail x b [] (ys ++ y ∷ []) e))
snoc-same (a ∷ xs) [] x y e = absurd (snoc-some xs x (sym (same-tail a y (xs ++ x ∷ []) [] e)))
snoc-same (a ∷ xs) (b ∷ ys) x y e =
    let rest = snoc-same xs ys x y (same-tail a b (xs ++ x ∷ []) (ys ++ y ∷ []) e) in
    let head = same-head a b (xs ++ x ∷ []) (ys ++ y ∷ []) e in
    (ap (λ h. h ∷ xs) head ∙ ap (λ t. b ∷ t) rest.0, rest.1)

-- ---- a start and what comes between

abbrev started_id : Act → ℕ
started_id (act.Start id) = id
started_id _ = 0

same-start : (id x : ℕ) → act.Start id ≡ act.Start x → id ≡ x
same-start id x e = ap started_id e

-- a start comes where no round is open, and opens one
pub start-of : (slots ids : ℕ) (u v : RoundView) (which : Act) (logged : Option CellRecord) (x : ℕ) → Proceeds slots ids u which logged v → which ≡ act.Start x → (u ≡ Closed) × (logged ≡ None) × (v ≡ Walking (opened ids x))
start-of slots ids _ _ _ _ x (skip id) q = absurd (cc)
start-of slots ids _ _ _ _ x (start id) q = (refl, refl, ap (λ y. Walking (opened ids y)) (same-start id x q))
start-of slots ids _ _ _ _ x (weaken w id slot target joins at) q = absurd (cc)
start-of slots ids _ _ _ _ x (scan w id copy at) q = absurd (cc)
start-of slots ids _ _ _ _ x (judge w j at) q = absurd (cc)
start-of slots ids _ _ _ _ x (cut w s slot id target strong g at) q = absurd (cc)
start-of slots ids _ _ _ _ x (free w s slot id g at) q = absurd (cc)
start-of slots ids _ _ _ _ x (flip w s slot id g at) q = absurd (cc)
start-of slots ids _ _ _ _ x (into w s slot «from» i to g at) q = absurd (cc)
start-of slots ids _ _ _ _ x (strengthen w s slot «from» i to g at) q = absurd (cc)
start-of slots ids _ _ _ _ x (end w s slot g at) q = absurd (cc)

next_slot-open : (slots : ℕ) (w : Walk) (s : Sweep) (slot : ℕ) (g : Greening) → is_closed (next_slot slots w s slot g) ≡ false
next_slot-open slots w s slot g = by (slot + 1 == slots)
  where
    by : (b : Bool) → is_closed (if b then Sweeping w (found s Nothing) 0 g else Sweeping w s (slot + 1) g) ≡ false
    by true = refl
    by false = refl

-- an open round stays so over each event but its end
pub stays-open : (slots ids : ℕ) (u v : RoundView) (which : Act) (logged : Option CellRecord) → Proceeds slots ids u which logged v → is_closed u ≡ false → which ≢ act.End → is_closed v ≡ false
stays-open slots ids _ _ _ _ (skip id) was n = was
stays-open slots ids _ _ _ _ (start id) was n = refl
stays-open slots ids _ _ _ _ (weaken w id slot target joins at) was n = refl
stays-open slots ids _ _ _ _ (scan w id copy at) was n = refl
stays-open slots ids _ _ _ _ (judge w j at) was n = refl
stays-open slots ids _ _ _ _ (cut w s slot id target strong g at) was n = next_slot-open slots w s slot g
stays-open slots ids _ _ _ _ (free w s slot id g at) was n = refl
stays-open slots ids _ _ _ _ (flip w s slot id g at) was n = refl
stays-open slots ids _ _ _ _ (into w s slot «from» i to g at) was n = refl
stays-open slots ids _ _ _ _ (strengthen w s slot «from» i to g at) was n = refl
stays-open slots ids _ _ _ _ (end w s slot g at) was n = absurd (n refl)

-- ---- steps from the start of a round

-- steps without a note leave all but the looks
idle-steps : (slots : ℕ) (i k : JournalView) (notes : List Note) → CollectorSteps slots i k notes → notes ≡ [] → core_of k ≡ core_of i
idle-steps slots i _ _ none e = refl
idle-steps slots i _ _ (looks j k notes before l) e = l.core ∙ idle-steps slots i j notes before e
idle-steps slots i _ _ (event j k notes r before m opening told) e = absurd (snoc-some notes (note_of slots j k r m) (sym e))

-- a start and steps after it, none of which ends the round
abbrev StartsWith : ℕ → JournalView → JournalView → ℕ → List Note → Type 0
StartsWith slots i k x notes = («first» : Note) (rest : List Note) → notes ≡ «first» ∷ rest → «first».act ≡ act.Start x → ((n : Note) → Contains rest n → n.act ≢ act.End) → IsOpenRound slots (core_of i) x rest (core_of k) k.round

module _ (slots : ℕ) (i : JournalView) (x : ℕ) (s : IsSoundJournal slots i) (quiet : NoneActive (core_of i)) where
  -- a round opens
  open-first : (j k : JournalView) (r : Collect) → core_of j ≡ core_of i → IsSoundJournal slots j → NoneActive (core_of j) → (m : MakesEvent slots j k r) → k.opening ≡ j.opening → IsSoundJournal slots k → m.event ≡ act.Start x → IsOpenRound slots (core_of i) x [] (core_of k) k.round
  open-first j k r same told_j q m opening told e =
      let one = is-quiet_event slots j k r told_j q m opening told in
      let is = start-of slots (core_of j).moment.state.ids j.round k.round m.event m.logged x one.proceeds e in
      let at_j : IsQuietEvent slots (core_of j) (core_of k) Closed (Walking (opened (core_of j).moment.state.ids x)) (act.Start x) None =
      subst (λ (u : RoundView). IsQuietEvent slots (core_of j) (core_of k) u (Walking (opened (core_of j).moment.state.ids x)) (act.Start x) None) is.0
      (subst (λ (v : RoundView). IsQuietEvent slots (core_of j) (core_of k) j.round v (act.Start x) None) is.2
      (subst (λ (a : Act). IsQuietEvent slots (core_of j) (core_of k) j.round k.round a None) e
      (subst (λ (l : Option CellRecord). IsQuietEvent slots (core_of j) (core_of k) j.round k.round m.event l) is.1 one))) in
      let opened_j : IsOpenRound slots (core_of j) x [] (core_of k) k.round =
      subst (λ (v : RoundView). IsOpenRound slots (core_of j) x [] (core_of k) v) (sym is.2) (opens slots (core_of j) (core_of k) x at_j) in
      subst (λ (c : Core). IsOpenRound slots c x [] (core_of k) k.round) same opened_j

  open-event : (j k : JournalView) (notes : List Note) (r : Collect) → CollectorSteps slots i j notes → StartsWith slots i j x notes → (m : MakesEvent slots j k r) → k.opening ≡ j.opening → IsSoundJournal slots k → StartsWith slots i k x (notes ++ note_of slots j k r m ∷ [])
  open-event j k [] r before ih m opening told «first» rest e starts inner =
      let n = note_of slots j k r m in
      let one = open-first j k r (idle-steps slots i j [] before refl) (steps-told slots i j [] s before) (steps-quiet slots i j [] s quiet before) m opening told (ap (λ (y : Note). y.act) (same-head n «first» [] rest e) ∙ starts) in
      subst (λ (l : List Note). IsOpenRound slots (core_of i) x l (core_of k) k.round) (same-tail n «first» [] rest e) one
  open-event j k (y ∷ ys) r before ih m opening told «first» rest e starts inner =
      let n = note_of slots j k r m in
      let are : ys ++ n ∷ [] ≡ rest = same-tail y «first» (ys ++ n ∷ []) rest e in
      let within : (z : Note) → Contains (ys ++ n ∷ []) z → z.act ≢ act.End = λ z c. inner z (subst (λ (l : List Note). Contains l z) are c) in
      let o = ih y ys refl (ap (λ (z : Note). z.act) (same-head y «first» (ys ++ n ∷ []) rest e) ∙ starts) (λ z c. within z (Contains-append_left ys (n ∷ []) z c)) in
      let one = is-quiet_event slots j k r (steps-told slots i j (y ∷ ys) s before) (steps-quiet slots i j (y ∷ ys) s quiet before) m opening told in
      let still = stays-open slots (core_of j).moment.state.ids j.round k.round m.event m.logged one.proceeds o.still_open (within n (Contains-append_right ys (n ∷ []) n (Contains-here n []))) in
      subst (λ (l : List Note). IsOpenRound slots (core_of i) x l (core_of k) k.round) are
      (event-open slots (core_of i) x ys (core_of j) (core_of k) j.round k.round (entry_of m.logged) (left_of slots k.round) m.event m.logged o one still)

  open-steps : (k : JournalView) (notes : List Note) → CollectorSteps slots i k notes → StartsWith slots i k x notes
  open-steps _ _ none «first» rest e starts inner = absurd (cc)
  open-steps _ _ (looks j k notes before l) «first» rest e starts inner =
      let o = open-steps j notes before «first» rest e starts inner in
      let still = is-still slots j (steps-told slots i j notes s before) (steps-quiet slots i j notes s quiet before) in
      subst (λ (c : Core). IsOpenRound slots (core_of i) x rest c k.round) (sym l.core) (looked-open slots (core_of i) x rest (core_of j) j.round k.round o still l.passes)
  open-steps _ _ (event j k notes r before m opening told) «first» rest e starts inner = open-event j k notes r before (open-steps j notes before) m opening told «first» rest e starts inner

-- ---- whole rounds

-- a whole round with as many events as notes, and with the list that they tell
abbrev IsWholeBy : ℕ → JournalView → JournalView → ℕ → List Note → Type 0
IsWholeBy slots i k x notes = (r : IsWholeRound slots (core_of i) (core_of k) x (length notes)) × (r.walk.list ≡ objects_of_round slots (cells_of i) notes)

-- the round that closed with the last note
whole-closed : (slots : ℕ) (c d : Core) (x : ℕ) («first» last : Note) (between : List Note) → «first».act ≡ act.Start x → IsClosedWith slots c x between d
    → (r : IsWholeRound slots c d x (length («first» ∷ between ++ last ∷ []))) × (r.walk.list ≡ objects_of_round slots c.cells («first» ∷ between ++ last ∷ []))
whole-closed slots c d x «first» last between starts h =
    let long = length-append between (last ∷ []) in
    let count : length between + 2 ≡ length («first» ∷ between ++ last ∷ []) = omega (arith, long) in
    let list : list_from slots c.cells (x ∷ []) between ≡ objects_of_round slots c.cells («first» ∷ between ++ last ∷ []) =
    sym (list-scanned slots c.cells (x ∷ []) between last h.2) ∙ ap (λ (a : Act). list_from slots c.cells (started_with a) (between ++ last ∷ [])) (sym starts) in
    subst (λ (n : ℕ). (r : IsWholeRound slots c d x n) × (r.walk.list ≡ objects_of_round slots c.cells («first» ∷ between ++ last ∷ []))) count (h.0, h.1 ∙ list)

module _ (slots : ℕ) (i : JournalView) (x : ℕ) (s : IsSoundJournal slots i) (quiet : NoneActive (core_of i)) where
  whole-steps : (k : JournalView) (notes : List Note) → CollectorSteps slots i k notes → AreOfRound x notes → IsWholeBy slots i k x notes
  whole-steps _ _ none a = absurd (none-whole a.first (a.between ++ a.last ∷ []) a.are)
    where
      none-whole : (y : Note) (ys : List Note) → [] ≡ y ∷ ys → ⊥
      none-whole y ys e = cc
  whole-steps _ _ (looks j k notes before l) a =
      subst (λ (c : Core). (r : IsWholeRound slots (core_of i) c x (length notes)) × (r.walk.list ≡ objects_of_round slots (cells_of i) notes)) (sym l.core) (whole-steps j notes before a)
  whole-steps _ _ (event j k notes r before m opening told) a =
      let n = note_of slots j k r m in
      let same = snoc-same notes (a.first ∷ a.between) n a.last a.are in
      let o = open-steps slots i x s quiet j notes before a.first a.between same.0 a.starts (λ y c. (a.inner y c).0) in
      let one = is-quiet_event slots j k r (steps-told slots i j notes s before) (steps-quiet slots i j notes s quiet before) m opening told in
      let h = closes slots (core_of i) x a.between (core_of j) (core_of k) j.round k.round m.event m.logged (ap (λ (y : Note). y.act) same.1 ∙ a.ends) o one in
      subst (λ (l : List Note). IsWholeBy slots i k x l) (sym a.are) (whole-closed slots (core_of i) (core_of k) x a.first a.last a.between a.starts h)

pub noted-round : NotedRoundLaw
noted-round slots i k x notes h = whole-steps slots i x h.journal h.quiet k notes h.steps h.round

-- ---- what such a round does

pub noted-dominated : NotedDominatedLaw
noted-dominated slots i k x notes h id =
    let r = noted-round slots i k x notes h in
    subst (λ (l : List ℕ). Contains l id ↔ IsDominated (cells_of i) x id) r.1 (dominated slots (core_of i) (core_of k) x (length notes) r.0 id)

pub noted-deleted : NotedDeletedLaw
noted-deleted slots i k x notes h id live =
    let r = noted-round slots i k x notes h in
    let is = noted-dominated slots i k x notes h id in
    let d = deleted dominated slots (core_of i) (core_of k) x (length notes) r.0 id live in
    (λ gone. let both = d.0 gone in (is.1 both.0, both.1), λ both. d.1 (is.0 both.0, both.1))

pub noted-kept : NotedKeptLaw
noted-kept slots i k x notes h = kept slots (core_of i) (core_of k) x (length notes) (noted-round slots i k x notes h).0

pub noted-fewer : NotedFewerLaw
noted-fewer slots i k x notes h ids rest a b =
    let r = (noted-round slots i k x notes h).0 in
    let one = round (core_of i) (core_of k) x (length notes) 0 0 none_yet r in
    let made = rounds-made slots (core_of i) (core_of k) 1 0 one ids rest a b in
    omega (arith, made)

pub noted-bound : NotedBoundLaw
noted-bound slots i k x notes h =
    let r = noted-round slots i k x notes h in
    subst (λ (l : List ℕ). length notes ≤ most_round_events slots (length l)) r.1 (bound slots (core_of i) (core_of k) x (length notes) r.0)
