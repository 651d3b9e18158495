-- The collector makes one step after another.
use Rattle.std.proofs.Common.{◌≡◌, ◌⊎◌, ⊎_elim, inl, inr, ℕ, ◌+◌, ◌-◌, ◌*◌, ◌≤◌, ◌<◌, Bool, true, false, cond, List, [], ◌∷◌, ◌++◌, Option, Some, None, refl, sym, ap, subst, ◌∙◌, arith}
use Rattle.std.specs.Prelude.{count_by}
use Rattle.std.specs.List.{last_or}
use Rattle.std.specs.Option.{option_map_or}
use Rattle.std.specs.Io.KnownBytes.{Appends}
use Rattle.std.proofs.lemmas.Bool.{cases_eq}
use Rattle.std.proofs.lemmas.List.{append-nil}
use Rattle.std.proofs.lemmas.List.Sums.{sum_by-append}
use Rattle.plain_model.specs.declared.calls.Entry.{Entry}
use Rattle.plain_model.specs.History.{History}
use Rattle.plain_model.specs.Text.{text_of, line_of}
use Rattle.core_store.specs.declared.note.Note.{Note}
use Rattle.core_store.specs.Collecting.{is_pop}
use Rattle.core_store.specs.JournalView.{JournalView, last_left}
use Rattle.brahma_shell.specs.declared.gc.Stepped.{Stepped}
use Rattle.script_lines.specs.declared.grammar.Line.{Line}
use Rattle.script_lines.specs.declared.grammar.Line.TheVariants.{CollectStep, CollectAll}
use Rattle.brahma_shell.specs.declared.replay.Stop.{Stop}
use Rattle.brahma_shell.specs.declared.replay.Stop.TheVariants as stop
use Rattle.brahma_shell.specs.Points.{Point, after_notes, point_of, entries_in, MayRest, IsExactAt}
use Rattle.brahma_shell.specs.Growth.{Grows, GrowsByEvent}
use Rattle.brahma_shell.specs.Follows.{IsOfCollector, AreOfCollector, GivesStep, IsNoteOfCollector}
use Rattle.script_lines.specs.Output.{AppendsFront}
use Rattle.brahma_shell.specs.Replay.{Performs, CutsOff, StepsOnce, StopsPerform}
use Rattle.brahma_shell.specs.Rest.{StaysQuiet}
use Rattle.brahma_shell.proofs.FollowLemmas.{text_of-append}
use Rattle.brahma_shell.proofs.GrowthLemmas.{Grows-none, Grows-trans, Grows-by_none, Grows-then_none, Grows-point, entries_in-append}
use Rattle.script_lines.proofs.OutputLemmas.{Appends-none, Appends-trans, AppendsFront-after}
use Rattle.brahma_shell.proofs.PointLemmas.{left_of_point, ids_of_point}
use Rattle.brahma_shell.proofs.QuietLemmas.{IsQuietSoFar, quiet-below}

-- ---- one step

-- its note is one of the collector
note-of-event : (old new : JournalView) (popped : Bool) (left : ℕ) (e : Entry) → IsOfCollector e → (g : GrowsByEvent old new popped left e) → IsNoteOfCollector g.note
note-of-event old new popped left e of g = record { entry = subst IsOfCollector (sym g.entry) of; act = g.act }

-- what a step does that was made, with its text
pub step-performs : (old new : JournalView) (popped : Bool) (left : ℕ) (e : Entry) → IsOfCollector e → GrowsByEvent old new popped left e → Performs old new CollectStep (line_of e)
step-performs old new popped left e of g = record {
  notes = g.note ∷ [];
  grows = g.grows;
  unmarked = g.unmarked;
  gives = inl (g.note, refl, note-of-event old new popped left e of g);
  printed = append-nil (line_of g.note.entry) ∙ ap line_of g.entry;
}

pub steps-performs : (s : Option Stepped) (old new : JournalView) (text : List ℕ) → StepsOnce s old new text → Performs old new CollectStep text
steps-performs None old new text h = record {
  notes = [];
  grows = Grows-by_none old new h.0;
  unmarked = h.0.unmarked;
  gives = inr (refl, h.1);
  printed = sym h.2;
}
steps-performs (Some s) old new text h = subst (Performs old new CollectStep) (sym h.3) (step-performs old new s.popped s.left h.0 h.1 h.2)

-- a step that was made, with its text
pub steps-event : (old new : JournalView) (s : Stepped) (e : Entry) (text : List ℕ) (before written : Option (List ℕ)) → IsOfCollector e → GrowsByEvent old new s.popped s.left e → text ≡ line_of e → ((point_of old).moment.state.active ≡ [] → StaysQuiet old new s.popped) → Appends before written text → (t : List ℕ) × StepsOnce (Some s) old new t × Appends before written t
steps-event old new s e text before written of g is quiet p = (text, (e, of, g, is, quiet), p)

-- its deletion isn't written as a whole
pub step-write : (s : Stop) (old new : JournalView) (left : ℕ) (e : Entry) (text : List ℕ) (before written : Option (List ℕ)) → s ≡ stop.Write → IsOfCollector e → GrowsByEvent old new false left e → text ≡ line_of e → AppendsFront before written text → StopsPerform s CollectStep old new before written
step-write s old new left e text before written is of g line p =
    subst (λ (s : Stop). StopsPerform s CollectStep old new before written) (sym is)
    (text, inl (subst (Performs old new CollectStep) (sym line) (step-performs old new false left e of g)), g.unmarked, p)

-- a call that adds no entry cuts its line off at once
pub cuts-none : (old new : JournalView) (line : Line) → Grows old new [] → CutsOff old new line []
cuts-none old new line g = record { notes = []; grows = g; cut = inl refl; printed = refl }

-- ---- notes of the collector

pub AreOfCollector-append : (xs ys : List Note) → AreOfCollector xs → AreOfCollector ys → AreOfCollector (xs ++ ys)
AreOfCollector-append [] ys p q = q
AreOfCollector-append (x ∷ xs) ys p q = (p.0, AreOfCollector-append xs ys p.1 q)

each-step : (p : Point) (notes : List Note) → GivesStep p notes → AreOfCollector notes
each-step p notes g =
    ⊎_elim
    (λ h. subst AreOfCollector (sym h.1) (h.2, tt))
    (λ h. subst AreOfCollector (sym h.0) tt)
    g

each-cut : (notes : List Note) (line : Line) → (notes ≡ []) ⊎ ((line ≡ CollectAll) × AreOfCollector notes) → AreOfCollector notes
each-cut notes line c = ⊎_elim (λ e. subst AreOfCollector (sym e) tt) (λ h. h.1) c

-- ---- many steps

-- since the start the collector made these steps, which print this text, and took so many objects out of its queue
pub record Collected (old new : JournalView) (popped : ℕ) (before written : Option (List ℕ)) : Type 0 where
  pub notes : List Note
  pub grows : Grows old new notes
  pub unmarked : new.marks ≡ old.marks
  pub each : AreOfCollector notes
  pub pops : popped ≤ count_by (λ n. is_pop n.act) notes
  pub printed : Appends before written (text_of (entries_in notes))

pub Collected-none : (j : JournalView) (written : Option (List ℕ)) → Collected j j 0 written written
Collected-none j written = record { notes = []; grows = Grows-none j; unmarked = refl; each = tt; pops = omega arith; printed = Appends-none written }

text-more : (xs ys : List Note) → text_of (entries_in (xs ++ ys)) ≡ text_of (entries_in xs) ++ text_of (entries_in ys)
text-more xs ys = ap text_of (entries_in-append xs ys) ∙ text_of-append (entries_in xs) (entries_in ys)

count-more : (xs : List Note) (n : Note) (b : Bool) (k : ℕ) → is_pop n.act ≡ b → k ≤ count_by (λ n. is_pop n.act) xs → k + cond b 1 0 ≤ count_by (λ n. is_pop n.act) (xs ++ n ∷ [])
count-more xs n b k e le =
    let one : ◌≡◌ {A = ℕ} (cond (is_pop n.act) 1 0) (cond b 1 0) = ap (λ (t : Bool). let k : ℕ = cond t 1 0 in k) e in
    let all = sum_by-append (λ (n : Note). let k : ℕ = cond (is_pop n.act) 1 0 in k) xs (n ∷ []) in
    omega (arith, one, all, le)

pub Collected-more : (a b d : JournalView) (popped : ℕ) (s : Stepped) (text : List ℕ) (w x y : Option (List ℕ)) → Collected a b popped w x → StepsOnce (Some s) b d text → Appends x y text → Collected a d (popped + cond s.popped 1 0) w y
Collected-more a b d popped s text w x y c h p =
    let g = h.2 in
    let line : text_of (entries_in (g.note ∷ [])) ≡ text = append-nil (line_of g.note.entry) ∙ ap line_of g.entry ∙ sym h.3 in
    let all : text_of (entries_in (c.notes ++ g.note ∷ [])) ≡ text_of (entries_in c.notes) ++ text = text-more c.notes (g.note ∷ []) ∙ ap (λ (t : List ℕ). text_of (entries_in c.notes) ++ t) line in
    record {
      notes = c.notes ++ g.note ∷ [];
      grows = Grows-trans a b d c.notes (g.note ∷ []) c.grows g.grows;
      unmarked = g.unmarked ∙ c.unmarked;
      each = AreOfCollector-append c.notes (g.note ∷ []) c.each (note-of-event b d s.popped s.left h.0 h.1 g, tt);
      pops = count-more c.notes g.note s.popped popped g.pop c.pops;
      printed = subst (Appends w y) (sym all) (Appends-trans w x y (text_of (entries_in c.notes)) text c.printed p);
    }

-- what is left is what the last note tells
last-more : (xs : List Note) (n : Note) (o : Option Note) → last_or o (xs ++ n ∷ []) ≡ Some n
last-more [] n o = refl
last-more (x ∷ xs) n o = last-more xs n (Some x)

pub left-more : (b d : JournalView) (s : Stepped) (text : List ℕ) → StepsOnce (Some s) b d text → last_left d.notes ≡ s.left
left-more b d s text h =
    let g = h.2 in
    ap last_left g.grows.notes
    ∙ ap (λ (o : Option Note). option_map_or (λ n. n.left) o 0) (last-more b.notes g.note None)
    ∙ g.told

-- ---- the ends of `gc all`

-- there is nothing to do
pub all-rest : (a b d : JournalView) (popped : ℕ) (text : List ℕ) (w x y : Option (List ℕ)) → Collected a b popped w x → ((point_of a).moment.state.active ≡ [] → IsQuietSoFar b popped) → StepsOnce None b d text → Appends x y text → (all : List ℕ) × Performs a d CollectAll all × Appends w y all
all-rest a b d popped text w x y c quiet h p = (
  text_of (entries_in c.notes),
  record {
    notes = c.notes;
    grows = Grows-then_none a b d c.notes c.grows (Grows-by_none b d h.0);
    unmarked = h.0.unmarked ∙ c.unmarked;
    gives =
        let points = Grows-point a b c.notes c.grows in
        let may = subst MayRest points h.1 in
        record { each = c.each; ends = inl may; rests = λ _. may; exact = λ idle. subst IsExactAt points (h.3 (quiet idle).active) };
    printed = refl;
  },
  subst (Appends w y) (append-nil (text_of (entries_in c.notes))) (Appends-trans w x y (text_of (entries_in c.notes)) [] c.printed (subst (Appends x y) h.2 p)),
)

-- no round is open, and enough objects were looked at
pub all-popped : (a d : JournalView) (popped : ℕ) (w y : Option (List ℕ)) → Collected a d popped w y → ((point_of a).moment.state.active ≡ [] → IsQuietSoFar d popped) → last_left d.notes ≡ 0 → 1 ≤ a.history.ids → a.history.ids ≤ popped → (all : List ℕ) × Performs a d CollectAll all × Appends w y all
all-popped a d popped w y c quiet closed some enough =
    let same : d.history.ids ≡ a.history.ids = ap (λ (h : History). h.ids) c.grows.history in
    let ids : (point_of a).moment.state.ids ≡ a.history.ids = ids_of_point a in
    let never : (point_of a).moment.state.active ≡ [] → ⊥ = λ idle. let below = quiet-below d popped (omega (arith, some, same)) (quiet idle) in omega (arith, below, enough, same) in
    let left : (after_notes (point_of a) c.notes).left ≡ 0 = sym (ap (λ (p : Point). p.left) (Grows-point a d c.notes c.grows)) ∙ left_of_point d ∙ closed in (
      text_of (entries_in c.notes),
      record {
        notes = c.notes;
        grows = c.grows;
        unmarked = c.unmarked;
        gives = record { each = c.each; ends = inr (left, omega (arith, enough, c.pops, ids)); rests = λ idle. absurd (never idle); exact = λ idle. absurd (never idle) };
        printed = refl;
      },
      c.printed,
    )

-- a step stops it
cut-more : (a b d : JournalView) (popped : ℕ) (w x : Option (List ℕ)) (notes : List Note) (text : List ℕ) (c : Collected a b popped w x) → Grows b d notes → AreOfCollector notes → text_of (entries_in notes) ≡ text → CutsOff a d CollectAll (text_of (entries_in c.notes) ++ text)
cut-more a b d popped w x notes text c g each printed = record {
  notes = c.notes ++ notes;
  grows = Grows-trans a b d c.notes notes c.grows g;
  cut = inr (refl, AreOfCollector-append c.notes notes c.each each);
  printed = text-more c.notes notes ∙ ap (λ (t : List ℕ). text_of (entries_in c.notes) ++ t) printed;
}

pub all-stops : (s : Stop) (a b d : JournalView) (popped : ℕ) (w x y : Option (List ℕ)) → Collected a b popped w x → StopsPerform s CollectStep b d x y → StopsPerform s CollectAll a d w y
all-stops (stop.Line k) a b d popped w x y c h = absurd h
all-stops stop.Read a b d popped w x y c h = absurd h
all-stops stop.Write a b d popped w x y c h =
    let cut : CutsOff a d CollectAll (text_of (entries_in c.notes) ++ h.0) =
    ⊎_elim
    (λ p. cut-more a b d popped w x p.notes h.0 c p.grows (each-step (point_of b) p.notes p.gives) p.printed)
    (λ p. cut-more a b d popped w x p.notes h.0 c p.grows (each-cut p.notes CollectStep p.cut) p.printed)
    h.1 in
    (text_of (entries_in c.notes) ++ h.0, inr cut, h.2 ∙ c.unmarked, AppendsFront-after w x y (text_of (entries_in c.notes)) h.0 c.printed h.3)
all-stops stop.Memory a b d popped w x y c h =
    let p = h.1 in
    (text_of (entries_in c.notes) ++ h.0, cut-more a b d popped w x p.notes h.0 c p.grows (each-cut p.notes CollectStep p.cut) p.printed, h.2 ∙ c.unmarked, Appends-trans w x y (text_of (entries_in c.notes)) h.0 c.printed h.3)
all-stops stop.Full a b d popped w x y c h =
    let p = h.1 in
    (text_of (entries_in c.notes) ++ h.0, cut-more a b d popped w x p.notes h.0 c p.grows (each-cut p.notes CollectStep p.cut) p.printed, h.2, Appends-trans w x y (text_of (entries_in c.notes)) h.0 c.printed h.3)
all-stops stop.LogFull a b d popped w x y c h =
    let p = h.1 in
    (text_of (entries_in c.notes) ++ h.0, cut-more a b d popped w x p.notes h.0 c p.grows (each-cut p.notes CollectStep p.cut) p.printed, h.2 ∙ c.unmarked, Appends-trans w x y (text_of (entries_in c.notes)) h.0 c.printed h.3)
all-stops stop.Fault a b d popped w x y c h = absurd h
all-stops stop.UpkeepFault a b d popped w x y c h = absurd h
all-stops stop.Stopped a b d popped w x y c h = absurd h

-- ---- its loop

pub counted-yes : (n k : ℕ) (b : Bool) → n ≡ k + 1 → b ≡ true → n ≡ k + cond b 1 0
counted-yes n k b e t = rw t e

pub counted-no : (n k : ℕ) (b : Bool) → n ≡ k → b ≡ false → n ≡ k + cond b 1 0
counted-no n k b e f = rw f (omega (arith, e))

-- an object is taken out of the queue only where fewer were
pop-below : (b d : JournalView) (s : Stepped) (text : List ℕ) (popped ids : ℕ) → StepsOnce (Some s) b d text → popped ≤ ids → (popped ≡ ids → 0 < last_left b.notes) → s.popped ≡ true → popped < ids
pop-below b d s text popped ids h within round p =
    let closed = h.2.opens p in
    ⊎_elim
    (λ e. let some = round e in absurd (omega (arith, closed, some)))
    (λ n. omega (arith, n, within))
    (cases_eq popped ids)

pub step-within : (b d : JournalView) (s : Stepped) (text : List ℕ) (popped now ids : ℕ) → StepsOnce (Some s) b d text → popped ≤ ids → (popped ≡ ids → 0 < last_left b.notes) → now ≡ popped + cond s.popped 1 0 → now ≤ ids
step-within b d s text popped now ids h within round e = by s.popped refl
  where
    by : (t : Bool) → s.popped ≡ t → now ≤ ids
    by true p = let below = pop-below b d s text popped ids h within round p in let more : now ≡ popped + 1 = rw p at e in omega (arith, below, more)
    by false p = let same : now ≡ popped + 0 = rw p at e in omega (arith, same, within)

-- the measure of a step that takes an object, and of one that leaves less of the round
less-pop : (k m left old : ℕ) → left < m → k * m + left < (k + 1) * m + old
less-pop k m left old l = omega (arith, l)

less-left : (k left old : ℕ) → left < old → k + left < k + old
less-left k left old l = omega (arith, l)

pub step-smaller : (b d : JournalView) (s : Stepped) (text : List ℕ) (popped now ids most : ℕ) → StepsOnce (Some s) b d text → popped ≤ ids → (popped ≡ ids → 0 < last_left b.notes) → now ≡ popped + cond s.popped 1 0 → s.left < most → (ids - now) * most + last_left d.notes < (ids - popped) * most + last_left b.notes
step-smaller b d s text popped now ids most h within round e fits =
    let last = left-more b d s text h in
    rw last (by s.popped refl)
  where
    by : (t : Bool) → s.popped ≡ t → (ids - now) * most + s.left < (ids - popped) * most + last_left b.notes
    by true p =
        let below = pop-below b d s text popped ids h within round p in
        let more : now ≡ popped + 1 = rw p at e in
        let one : ids - popped ≡ ids - now + 1 = omega (arith, below, more) in
        rw one (less-pop (ids - now) most s.left (last_left b.notes) fits)
    by false p =
        let same : now ≡ popped = omega (arith, (rw p at e)) in
        rw same (less-left ((ids - popped) * most) s.left (last_left b.notes) (h.2.lower p))
