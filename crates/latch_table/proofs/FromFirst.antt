-- What is at home goes on from the chronicle that the table began with: each step keeps that.
use Rattle.std.proofs.Common.{◌≡◌, ◌≢◌, ◌⊎◌, eqb, ℕ, zero, suc, ◌+◌, ◌<◌, ◌≤◌, ◌^◌, List, [], ◌∷◌, ◌++◌, map, length, replicate, set, Some, true, false, Option, None, refl, sym, ap, ◌∙◌, subst, ⊎_elim}
use Rattle.std.specs.Prelude.{slice_get, slice_index}
use mathlib.Core.Option.{some, none, some-injective, some-ne-none}
use mathlib.Core.Option as maybe
use prog.Atomic.{either}
use lib.ListN.{get_elem?}
use Rattle.atomic_table.specs.Table.{State, step, Act, keeps, takes, gives, chain, Valid, homes_after, carried_after, Allows, Splits, Joins, opening}
use Rattle.atomic_table.proofs.Lists.{at_set}
use Rattle.latch_table.specs.declared.content.Content.{Content}
use Rattle.latch_table.specs.declared.content.Content.TheVariants.{Page, Log, Away}
use Rattle.latch_table.specs.declared.view.Story.{Story}
use Rattle.latch_table.specs.declared.view.View.{View}
use Rattle.latch_table.specs.Account.{Account, Marks, Sizes}
use Rattle.latch_table.specs.Views.{KeepMarks, contents, first_of, first_view, frame_of, is_listed, joined, log_claimed, moving, nobody, page_claimed, split_left, split_right}
use Rattle.latch_table.specs.Holds.{IsAlone}
use Rattle.latch_table.specs.Rule.{GoesOnThere, GoOnAtHome, GoOnTaken, HasWord, IsKept, IsKeptFrom}
use Rattle.latch_table.specs.Steps.{Mine, GoesOnFrom, IsNext, appends, claims_log, claims_log_from, claims_page, drops_log, drops_page, leaves, loads, reaches, renames}
use Rattle.latch_table.proofs.Pages.{claim_page_goes, leaves_page, reaches_goes, drops_page_goes}
use Rattle.latch_table.proofs.Logs.{claim_log_goes, leaves_log, drops_log_goes}
use Rattle.latch_table.proofs.Loads.{loads_goes}
use Rattle.latch_table.proofs.Renames.{renames_goes}
use Rattle.latch_table.proofs.Appends.{appends_goes}
use Rattle.latch_table.proofs.Seats.{splits_goes, joins_goes}
use Rattle.latch_table.proofs.Opens.{opens_as, opens_held_as, row_at}

module _ {J F : Type 0} (on : J → J → Type 0) (began : J) where
  put : (homes : List (maybe.Option (Content J F))) (k : ℕ) (y : Content J F) → GoOnAtHome on began homes → GoesOnThere on began y → GoOnAtHome on began (set homes k (some y))
  put homes k y home there i z at = ⊎_elim
      (λ (t : (i ≡ k) × (some y ≡ some z)). subst (GoesOnThere on began) (some-injective y z t.1) there)
      (λ (t : (i ≢ k) × (get_elem? homes i ≡ some (some z))). home i z t.1)
      (at_set homes k i (some y) (some z) at)

  taken_out : (homes : List (maybe.Option (Content J F))) (k : ℕ) → GoOnAtHome on began homes → GoOnAtHome on began (set homes k maybe.none)
  taken_out homes k home i z at = ⊎_elim
      (λ (t : (i ≡ k) × (maybe.none ≡ some z)). absurd (some-ne-none z (sym t.1)))
      (λ (t : (i ≢ k) × (get_elem? homes i ≡ some (some z))). home i z t.1)
      (at_set homes k i maybe.none (some z) at)

  -- a step brings nothing home and takes nothing out that doesn't go on
  after : (homes : List (maybe.Option (Content J F))) (c : List (ℕ × Content J F)) (act : Act (Content J F)) → GoOnAtHome on began homes → GoOnTaken on began c → Valid homes c act
      → GoOnAtHome on began (homes_after homes c act) × GoOnTaken on began (carried_after c act)
  after homes c keeps home taken may = (home, taken)
  after homes c (takes k y) home taken may = (taken_out homes k home, (home k y may, taken))
  after homes [] gives home taken may = (home, taken)
  after homes (x ∷ xs) gives home taken may = (put homes x.0 x.1 home taken.0, taken.1)
  after homes c (chain a b) home taken may =
      let h = after homes c a home taken may.0 in
      after (homes_after homes c a) (carried_after c a) b h.0 h.1 may.1

  pub none-taken : (c : List (ℕ × Content J F)) → c ≡ [] → GoOnTaken on began c
  none-taken c e = subst (GoOnTaken on began) (sym e) tt

  pub away-taken : (c : List (ℕ × Content J F)) (k : ℕ) → c ≡ (k, Away) ∷ [] → GoOnTaken on began c
  away-taken c k e = subst (GoOnTaken on began) (sym e) (tt, tt)

  pub page-taken : (c : List (ℕ × Content J F)) (k : ℕ) (f : F) → c ≡ (k, Page f) ∷ [] → GoOnTaken on began c
  page-taken c k f e = subst (GoOnTaken on began) (sym e) (tt, tt)

  pub log-taken : (c : List (ℕ × Content J F)) (k : ℕ) (j : J) → c ≡ (k, Log j) ∷ [] → on began j → GoOnTaken on began c
  log-taken c k j e goes = subst (GoOnTaken on began) (sym e) (goes, tt)

  -- the row of a table at the start
  row : (fs : List F) → on began began → GoOnAtHome on began (map some (contents fs began))
  row [] goes zero y at = subst (GoesOnThere on began) (some-injective (Log began) y (some-injective (some (Log began)) (some y) at)) goes
  row [] goes (suc k) y at = absurd (some-ne-none (some y) (sym at))
  row (f ∷ fs) goes zero y at = subst (GoesOnThere on began) (some-injective (Page f) y (some-injective (some (Page f)) (some y) at)) tt
  row (f ∷ fs) goes (suc k) y at = row fs goes k y at

  pub row-from : (xs : List (Content J F)) (fs : List F) (j : J) → xs ≡ contents fs j → began ≡ j → on j j → GoOnAtHome on began (map some xs)
  row-from xs fs j is same goes = subst (λ (ys : List (Content J F)). GoOnAtHome on began (map some ys)) (ap (contents fs) same ∙ sym is) (row fs (subst (λ (i : J). on i i) (sym same) goes))

  pub row-away : (n : ℕ) → GoOnAtHome {F = F} on began (map some (replicate n Away))
  row-away zero k y at = absurd (some-ne-none (some y) (sym at))
  row-away (suc n) zero y at = subst (GoesOnThere on began) (some-injective Away y (some-injective (some Away) (some y) at)) tt
  row-away (suc n) (suc k) y at = row-away n k y at

-- both of these
record Both (P Q : Type 0) : Type 0 where
  told : P
  taken : Q

module _ {E X F J : Type 0} (a : Account E X F J) (on : J → J → Type 0) (key : J) where
  abbrev W : Type 0
  W = View E X F

  abbrev St : Type 0
  St = State (Content J F) W

  -- a step that keeps the rule keeps this too, and so is what the hold has then
  allows-from : (slots id i : ℕ) (me : Mine E X F J) (f : ℕ → ℕ) (tells : ℕ → Mine E X F J → Type 0) → GoOnTaken on key me.1 → Allows (IsKept a key) slots id me i f tells
      → Allows (IsKeptFrom a on key) slots id me i f (λ n m. Both (tells n m) (GoOnTaken on key m.1))
  allows-from slots id i me f tells taken goes s r wide at low =
      let d = goes s r.kept wide at low in
      let h = after on key s.homes me.1 d.1 r.home taken d.2 in
      (d.0, d.1, d.2, record { kept = d.3; home = h.0 }, record { told = d.4; taken = h.1 })

  allows : (slots id i : ℕ) (me : Mine E X F J) (f : ℕ → ℕ) (tells : ℕ → Mine E X F J → Type 0) → GoOnTaken on key me.1 → Allows (IsKept a key) slots id me i f tells
      → Allows (IsKeptFrom a on key) slots id me i f tells
  allows slots id i me f tells taken goes s r wide at low =
      let d = allows-from slots id i me f tells taken goes s r wide at low in
      (d.0, d.1, d.2, d.3, d.4.told)

  pub claim_page_from : (slots id p : ℕ) (me : Mine E X F J) → p + 1 < slots → me.0.station.alive ≡ true → me.0.hands.moving ≡ None → frame_of me.0.hands.pages p ≡ None → me.1 ≡ []
      → Allows (IsKeptFrom a on key) slots id me p (λ y. either (eqb y 0) me.0.station.number y) (claims_page a (step slots p 0 me.0.station.number none) me)
  claim_page_from slots id p me low out idle free bare =
      allows slots id p me (λ y. either (eqb y 0) me.0.station.number y) (claims_page a (step slots p 0 me.0.station.number none) me) (none-taken on key me.1 bare) (claim_page_goes a key slots id p me low out idle free)

  pub leaves_page_from : (slots pages id p : ℕ) (me : Mine E X F J) (v : W) (f : F) → slots ≡ pages + 1 → p < pages → v.station.alive ≡ true → (me.0 ≡ moving (page_claimed v p f) p) × (me.1 ≡ (p, Away) ∷ [])
      → Allows (IsKeptFrom a on key) slots id me p (λ y. y) (leaves (step slots p 0 0 none) me)
  leaves_page_from slots pages id p me v f sized low out is =
      allows slots id p me (λ y. y) (leaves (step slots p 0 0 none) me) (away-taken on key me.1 p is.1) (leaves_page a key slots pages id p me v f sized low out is)

  pub reaches_from : (slots pages id k : ℕ) (me : Mine E X F J) → slots ≡ pages + 1 → k ≤ pages → me.0.station.alive ≡ true → me.0.hands.moving ≡ None → HasWord a pages me.0 k → me.1 ≡ []
      → Allows (IsKeptFrom a on key) slots id me k (λ y. y) (reaches (step slots k 0 0 none) me)
  reaches_from slots pages id k me sized low out idle has bare =
      allows slots id k me (λ y. y) (reaches (step slots k 0 0 none) me) (none-taken on key me.1 bare) (reaches_goes a key slots pages id k me sized low out idle has)

  pub drops_page_from : (slots id p : ℕ) (me : Mine E X F J) (f : F) → p + 1 < slots → me.0.station.alive ≡ true → me.0.hands.moving ≡ Some p → frame_of me.0.hands.pages p ≡ Some f → me.1 ≡ (p, Page f) ∷ []
      → Allows (IsKeptFrom a on key) slots id me p (λ _. 0) (λ _. drops_page (step slots p 0 0 none) me 0)
  drops_page_from slots id p me f low out here has is =
      allows slots id p me (λ _. 0) (λ _. drops_page (step slots p 0 0 none) me 0) (page-taken on key me.1 p f is) (drops_page_goes a key slots id p me f low out here has is)

  -- a chronicle that is claimed goes on, as all that the hold took
  claimed : (told : Option J) (slots pages number : ℕ) (me m : Mine E X F J) (found : ℕ) → told ≡ Some key → Both (claims_log a (step slots pages 0 number none) me found m) (GoOnTaken on key m.1)
      → claims_log_from a on told (step slots pages 0 number none) me found m
  claimed told slots pages number me m found says both = (
    (λ free.
        let h = both.told.0 free in
        let taken : GoOnTaken on key ((pages, Log h.0) ∷ me.1) = subst (GoOnTaken on key) h.2 both.taken in
        (h.0, h.1, h.2, h.3, subst (λ (o : Option J). GoesOnFrom on o h.0) (sym says) taken.0)),
    both.told.1,
  )

  pub claim_log_from : (told : Option J) (slots pages id : ℕ) (me : Mine E X F J) → told ≡ Some key → slots ≡ pages + 1 → me.0.station.alive ≡ true → me.0.hands.moving ≡ None → me.0.hands.log ≡ None → me.1 ≡ []
      → Allows (IsKeptFrom a on key) slots id me pages (λ y. either (eqb y 0) me.0.station.number y) (claims_log_from a on told (step slots pages 0 me.0.station.number none) me)
  claim_log_from told slots pages id me says sized out idle free bare s r wide at low =
      let d = allows-from slots id pages me (λ y. either (eqb y 0) me.0.station.number y) (claims_log a (step slots pages 0 me.0.station.number none) me) (none-taken on key me.1 bare) (claim_log_goes a key slots pages id me sized out idle free) s r wide at low in
      (d.0, d.1, d.2, d.3, claimed told slots pages me.0.station.number me (d.0, carried_after me.1 d.1) (slice_index s.words pages) says d.4)

  pub leaves_log_from : (slots pages id : ℕ) (me : Mine E X F J) (v : W) (es : List E) (ms : Marks) (sizes : Sizes) → slots ≡ pages + 1 → v.station.alive ≡ true → (me.0 ≡ moving (log_claimed v es ms sizes) pages) × (me.1 ≡ (pages, Away) ∷ [])
      → Allows (IsKeptFrom a on key) slots id me pages (λ y. y) (leaves (step slots pages 0 0 none) me)
  leaves_log_from slots pages id me v es ms sizes sized out is =
      allows slots id pages me (λ y. y) (leaves (step slots pages 0 0 none) me) (away-taken on key me.1 pages is.1) (leaves_log a key slots pages id me v es ms sizes sized out is)

  pub drops_log_from : (slots pages id : ℕ) (me : Mine E X F J) (j : J) (st : Story E) → slots ≡ pages + 1 → me.0.station.alive ≡ true → me.0.hands.moving ≡ Some pages → me.0.hands.log ≡ Some st
      → me.0.knowledge.fixed ≡ Some (a.fixed j) → a.entries j ≡ st.entries → KeepMarks st.marks (a.marks j) → me.1 ≡ (pages, Log j) ∷ [] → on key j
      → Allows (IsKeptFrom a on key) slots id me pages (λ _. 0) (λ _. drops_log a (step slots pages 0 0 none) me 0)
  drops_log_from slots pages id me j st sized out here has fixed same marks is goes =
      allows slots id pages me (λ _. 0) (λ _. drops_log a (step slots pages 0 0 none) me 0) (log-taken on key me.1 pages j is goes) (drops_log_goes a key slots pages id me j st sized out here has fixed same marks is)

  pub loads_from : (slots pages id : ℕ) (me : Mine E X F J) → slots ≡ pages + 1 → me.0.station.alive ≡ true → me.1 ≡ []
      → Allows (IsKeptFrom a on key) slots id me (pages + 1) (λ n. n) (loads (step slots (pages + 1) 0 0 none) me)
  loads_from slots pages id me sized out bare =
      allows slots id (pages + 1) me (λ n. n) (loads (step slots (pages + 1) 0 0 none) me) (none-taken on key me.1 bare) (loads_goes a key slots pages id me sized out)

  pub renames_from : (slots pages id name : ℕ) (me : Mine E X F J) → slots ≡ pages + 1 → me.0.station.alive ≡ true → IsAlone me.0 → me.1 ≡ []
      → Allows (IsKeptFrom a on key) slots id me (pages + 1) (λ n. n) (renames name (step slots (pages + 1) 0 0 none) me)
  renames_from slots pages id name me sized out lone bare =
      allows slots id (pages + 1) me (λ n. n) (renames name (step slots (pages + 1) 0 0 none) me) (none-taken on key me.1 bare) (renames_goes a key slots pages id name me sized out lone)

  pub appends_from : (slots pages id m : ℕ) (me : Mine E X F J) (told : Option J) (j : J) → ((es : List E) (x : E) (name : ℕ) → a.speaks x ≢ Some name → a.truth (es ++ x ∷ []) name ≡ a.truth es name) → told ≡ Some j → slots ≡ pages + 1 → me.0.station.alive ≡ true → me.0.knowledge.fixed ≡ Some (a.fixed j) → IsNext a pages me.0 j → m ≡ length (a.entries j) → me.1 ≡ []
      → Allows (IsKeptFrom a on key) slots id me (pages + 1) (λ _. m) (λ _. appends a told (step slots (pages + 1) m 0 none) me m)
  appends_from slots pages id m me told j law says sized out fixed new len bare =
      allows slots id (pages + 1) me (λ _. m) (λ _. appends a told (step slots (pages + 1) m 0 none) me m) (none-taken on key me.1 bare) (appends_goes a key slots pages id m me told j law says sized out fixed new len)

  pub splits_from : (id name : ℕ) (v : W) → v.station.alive ≡ true → v.station.main ≡ true → v.station.last + 1 < 2 ^ 32 → (name ≢ v.station.name) × (is_listed v.station.names name ≡ false) → Splits (IsKeptFrom a on key) id v (split_left v name) (split_right v name)
  splits_from id name v out main room fresh s r at = record { kept = splits_goes a key id name v out main room fresh s r.kept at; home = r.home }

  pub joins_from : (id other : ℕ) (v w : W) → v.station.alive ≡ true → w.station.alive ≡ true → w.hands.pages ≡ [] → w.hands.log ≡ None → ((v.station.main ≡ true) ⊎ (w.station.main ≡ true))
      → Joins (IsKeptFrom a on key) id v other w (joined v w) nobody
  joins_from id other v w out out' no_pages no_log which s r at apart there = record { kept = joins_goes a key id other v w out out' no_pages no_log which s r.kept at apart there; home = r.home }

  pub opens_from : (j : J) (fs : List F) (ws : List ℕ) (xs : List (Content J F)) → key ≡ j → ws ≡ replicate (length fs + 2) 0 → xs ≡ contents fs j → ((name : ℕ) → a.truth [] name ≡ false) → a.entries j ≡ [] → ((k : ℕ) (f : F) → slice_get fs k ≡ Some f → f ≡ a.frame (a.fixed j) [] k) → on j j
      → IsKeptFrom a on key (opening ws xs (first_view (a.fixed key)))
  opens_from j fs ws xs is words slots quiet empty agree goes = record { kept = opens_as a key j fs ws xs is words slots quiet empty agree; home = row-from on key xs fs j slots is goes }

  pub opens_held_from : (j : J) (gs fs : List F) (ws : List ℕ) (xs : List (Content J F)) → key ≡ j → gs ≡ fs → ws ≡ set (replicate (length fs + 2) 1) (length fs + 1) 0 → xs ≡ replicate (length fs + 1) Away → ((name : ℕ) → a.truth [] name ≡ false) → a.entries j ≡ [] → ((k : ℕ) (f : F) → slice_get fs k ≡ Some f → f ≡ a.frame (a.fixed j) [] k)
      → IsKeptFrom a on key (opening ws xs (first_of a true gs key))
  opens_held_from j gs fs ws xs is same words slots quiet empty agree = record {
    kept = opens_held_as a key j gs fs ws xs is same words slots quiet empty agree;
    home = subst (λ (ys : List (Content J F)). GoOnAtHome on key (map some ys)) (sym slots) (row-away on key (length fs + 1));
  }
