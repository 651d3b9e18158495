-- Another name of the one hold that is out keeps the rule.
use Rattle.std.proofs.Common.{◌≡◌, ◌≢◌, ℕ, ◌+◌, ◌≤◌, List, ◌∷◌, map, set, ◌<◌, ◌^◌, true, Bool, ⊎_elim, refl, sym, ap, ◌∙◌, subst, arith}
use Rattle.std.specs.Prelude.{slice_index}
use Rattle.std.proofs.lemmas.List.{map-set, set-get_or}
use mathlib.Core.Logic.{dite}
use mathlib.Core.Option.{some, none, some-injective}
use native.Mathlib.Decide.{ℕ_discrete}
use lib.ListN.{get_elem?}
use Rattle.atomic_table.specs.Table.{State, step, keeps, Allows}
use Rattle.atomic_table.proofs.Lists.{at_set, set_here, set_else, at_map}
use Rattle.latch_table.specs.declared.content.Content.{Content}
use Rattle.latch_table.specs.declared.view.Station.{Station}
use Rattle.latch_table.specs.declared.view.View.{View}
use Rattle.latch_table.specs.Account.{Account}
use Rattle.latch_table.specs.Views.{renamed, truth_of}
use Rattle.latch_table.specs.Holds.{IsAlone}
use Rattle.latch_table.specs.Rule.{Facts, facts_of, AreTold, NoneHas, station_of, one_if, number_out, IsLed, AreRanked, HasItsWords, Knows, HasWord, IsKept}
use Rattle.latch_table.specs.Steps.{Mine, renames}
use Rattle.latch_table.proofs.Frames.{if_same, if_other}
use Rattle.latch_table.proofs.Kept.{at_length}
use Rattle.latch_table.proofs.Histories.{history_on}
use Rattle.latch_table.proofs.Pages.{alone}
use Rattle.latch_table.proofs.Alone.{one_out}
use Rattle.latch_table.proofs.Stations.{no_true, out_set}
use Rattle.latch_table.proofs.Told.{map_at, kept_set}

-- only the station at i is out, and it is the main one; another stands for it, with its number
ranked_rename : (ss : List Station) (i : ℕ) (s l : Station) → AreRanked ss → get_elem? ss i ≡ some s → s.alive ≡ true → s.main ≡ true → number_out ss ≡ 1
    → (l.alive ≡ s.alive) × (l.number ≡ s.number) × (l.main ≡ s.main) × (l.others ≡ s.others) × (l.last ≡ s.last) → AreRanked (set ss i l)
ranked_rename ss i s l r at out main one same =
    let rows : List Station = set ss i l in
    let here : get_elem? rows i ≡ some l = set_here ss i l (at_length ss i s at) in
    let only : (j : ℕ) (t : Station) → get_elem? rows j ≡ some t → t.alive ≡ true → (j ≡ i) × (l ≡ t) = λ j t e lives. ⊎_elim
    (λ (q : (j ≡ i) × (l ≡ t)). q)
    (λ (q : (j ≢ i) × (get_elem? ss j ≡ some t)). absurd (q.0 (alone ss j i t s q.1 at lives out one)))
    (at_set ss i j l t e) in
    let lives : (j : ℕ) (t : Station) → get_elem? rows j ≡ some t → t.main ≡ true → t.alive ≡ true = λ j t e m. ⊎_elim
    (λ (q : (j ≡ i) × (l ≡ t)). ap (λ (z : Station). z.alive) (sym q.1) ∙ same.0 ∙ out)
    (λ (q : (j ≢ i) × (get_elem? ss j ≡ some t)). r.main_out j t q.1 m)
    (at_set ss i j l t e) in
    let both : (j k : ℕ) (t u : Station) → get_elem? rows j ≡ some t → get_elem? rows k ≡ some u → t.alive ≡ true → u.alive ≡ true → j ≡ k = λ j k t u e f a b. (only j t e a).0 ∙ sym (only k u f b).0 in
    let led = r.led i s at main in
    record {
      numbered = λ j t e a. let q = only j t e a in subst (λ (n : ℕ). (0 < n) × (n < 2 ^ 32)) (sym same.1 ∙ ap (λ (z : Station). z.number) q.1) (r.numbered i s at out);
      apart = λ j k t u e f a b n. both j k t u e f a b;
      names_apart = λ j k t u e f a b n. both j k t u e f a b;
      main_one = λ j k t u e f m n. both j k t u e f (lives j t e m) (lives k u f n);
      main_out = lives;
      main = (i, l, here, same.2 ∙ main);
      led = λ j t e m.
          let q = only j t e (lives j t e m) in
          let counted : number_out rows ≡ l.others + 1 =
          let c = out_set ss i s l at in
          let d : one_if l.alive ≡ one_if s.alive = ap one_if same.0 in
          let f : number_out ss ≡ s.others + 1 = led.counted in
          let o : l.others ≡ s.others = same.3 in omega arith in
          subst (IsLed rows) q.1 (record {
            counted = counted;
            room = subst (λ (n : ℕ). n < 2 ^ 32) (sym same.4) led.room;
            names = λ k u f a minor. no_true u.main minor (ap (λ (z : Station). z.main) (sym (only k u f a).1) ∙ same.2 ∙ main);
            none_above = λ k u f a. let p = only k u f a in subst (λ (n : ℕ). n ≤ l.last) (sym same.1 ∙ ap (λ (z : Station). z.number) p.1) (subst (λ (n : ℕ). s.number ≤ n) (sym same.4) (led.none_above i s at out));
          });
    }

-- what is true of each name is known as before
told_rename : {E : Type 0} (truth : List E → ℕ → Bool) (log : List E) (fs : List (Facts E)) (i : ℕ) (f : Facts E) (l : Station) → AreTold truth log fs → get_elem? fs i ≡ some f → f.0.alive ≡ true → f.0.main ≡ true
    → ((j : ℕ) (g : Facts E) → get_elem? fs j ≡ some g → g.0.alive ≡ true → j ≡ i) → ((j : ℕ) (g : Facts E) → get_elem? fs j ≡ some g → g.0.main ≡ true → j ≡ i) → (l.alive ≡ f.0.alive) × (l.truths ≡ (f.0.name, f.1) ∷ f.0.truths)
    → AreTold truth log (set fs i (l, truth_of l.truths l.name, f.2))
told_rename {E} truth log fs i f l r at out main only leads same =
    let g : Facts E = (l, truth_of l.truths l.name, f.2) in
    let rows : List (Facts E) = set fs i g in
    -- no hold that was out has another name than that one
    let none : (name : ℕ) → f.0.name ≢ name → NoneHas fs name = λ name ne j h e lives. subst (λ (z : Facts E). z.0.name ≢ name) (some-injective f h (sym at ∙ ap (get_elem? fs) (sym (only j h e lives)) ∙ e)) ne in
    let known : (name : ℕ) → truth_of l.truths name ≡ truth log name = λ name. ap (λ (ts : List (ℕ × Bool)). truth_of ts name) same.1 ∙ dite (ℕ_discrete f.0.name name)
    (λ (q : f.0.name ≡ name). if_same f.0.name name f.1 (truth_of f.0.truths name) q ∙ r.own i f at out ∙ ap (truth log) q)
    (λ ne. if_other f.0.name name f.1 (truth_of f.0.truths name) ne ∙ r.kept i f at main name (none name ne)) in
    record {
      own = λ j h e lives. ⊎_elim
          (λ (q : (j ≡ i) × (g ≡ h)). subst (λ (z : Facts E). z.1 ≡ truth log z.0.name) q.1 (known l.name))
          (λ (q : (j ≢ i) × (get_elem? fs j ≡ some h)). absurd (q.0 (only j h q.1 lives)))
          (at_set fs i j g h e);
      kept = λ j h e m name free. ⊎_elim
          (λ (q : (j ≡ i) × (g ≡ h)). subst (λ (z : Facts E). truth_of z.0.truths name ≡ truth log name) q.1 (known name))
          (λ (q : (j ≢ i) × (get_elem? fs j ≡ some h)). absurd (q.0 (leads j h q.1 m)))
          (at_set fs i j g h e);
      once = λ p low. let a = kept_set p fs i f g at in let b = r.once p low in omega arith;
    }

module _ {E X F J : Type 0} (a : Account E X F J) (key : J) where
  abbrev W : Type 0
  W = View E X F

  -- the view of the hold id becomes one with other facts, its number, its words and what it knows of the log
  kept_rename : (s : State (Content J F) W) (r : IsKept a key s) (id i name : ℕ) (v : W) → get_elem? s.views id ≡ some v → v.station.alive ≡ true → IsAlone v
      → IsKept a key record { words = set s.words i (slice_index s.words i); homes = s.homes; views = set s.views id (renamed v name) }
  kept_rename s r id i name v at out lone =
      let w : W = renamed v name in
      let ss : List Station = map station_of s.views in
      let fs : List (Facts E) = map facts_of s.views in
      let one = one_out a key s r id v at lone in
      let stations : map station_of (set s.views id w) ≡ set ss id w.station = map-set station_of s.views id w in
      let facts : map facts_of (set s.views id w) ≡ set fs id (facts_of w) = map-set facts_of s.views id w in
      subst (λ (ws : List ℕ). IsKept a key record { words = ws; homes = s.homes; views = set s.views id w }) (sym (set-get_or s.words i 0))
      record {
        pages = r.pages;
        log = r.log;
        marks = r.marks;
        wide = r.wide;
        deep = r.deep;
        long = r.long;
        home = r.home;
        named = λ j below some_one.
            let h = r.named j below some_one in
            dite (ℕ_discrete h.0 id)
            (λ e. let is : h.1 ≡ v = some-injective h.1 v (sym h.2 ∙ ap (get_elem? s.views) e ∙ at) in
            (id, w, set_here s.views id w (at_length s.views id v at), out, ap (λ (z : W). z.station.number) (sym is) ∙ h.4, subst (λ (z : W). HasWord a r.pages (renamed z name) j) is h.5))
            (λ other. (h.0, h.1, set_else s.views id h.0 w other ∙ h.2, h.3, h.4, h.5));
        each = λ i' u e out'. ⊎_elim
            (λ (t : (i' ≡ id) × (w ≡ u)). let h = r.each id v at out in
            subst (λ (z : W). HasItsWords a (a.fixed key) r.pages r.log r.marks s.words s.homes z × Knows a (a.fixed key) r.pages r.log r.marks z.knowledge) t.1
            (record { pages_word = h.0.pages_word; pages_agree = h.0.pages_agree; pages_lie = h.0.pages_lie; log_word = h.0.log_word; log_agrees = h.0.log_agrees; log_lies = h.0.log_lies }, record { fixed = h.1.fixed; seen = h.1.seen; entries = h.1.entries; peeks = h.1.peeks; marked = h.1.marked; stories = h.1.stories }))
            (λ (t : (i' ≢ id) × (get_elem? s.views i' ≡ some u)). r.each i' u t.1 out')
            (at_set s.views id i' w u e);
        spent = λ i' u e gone. ⊎_elim
            (λ (t : (i' ≡ id) × (w ≡ u)). no_true u.station.alive gone (ap (λ (z : W). z.station.alive) (sym t.1) ∙ out))
            (λ (t : (i' ≢ id) × (get_elem? s.views i' ≡ some u)). r.spent i' u t.1 gone)
            (at_set s.views id i' w u e);
        ranked = subst AreRanked (sym stations) (ranked_rename ss id v.station w.station r.ranked (at_map station_of s.views id v at) out lone.0 one (refl, refl, refl, refl, refl));
        told = subst (AreTold a.truth r.log) (sym facts) (told_rename a.truth r.log fs id (facts_of v) w.station r.told (at_map facts_of s.views id v at) out lone.0
            (λ j g e lives. let h = map_at facts_of s.views j g e in alone ss j id h.0.station v.station (at_map station_of s.views j h.0 h.1) (at_map station_of s.views id v at) (ap (λ (z : Facts E). z.0.alive) h.2 ∙ lives) out one)
            (λ j g e m. let h = map_at facts_of s.views j g e in r.ranked.main_one j id h.0.station v.station (at_map station_of s.views j h.0 h.1) (at_map station_of s.views id v at) (ap (λ (z : Facts E). z.0.main) h.2 ∙ m) lone.0)
            (refl, refl));
        happenings = history_on r.pages (slice_index s.words) (slice_index s.words) s.views id v w at r.happenings (λ k low. refl) refl refl;
      }

  pub renames_goes : (slots pages id name : ℕ) (me : Mine E X F J) → slots ≡ pages + 1 → me.0.station.alive ≡ true → IsAlone me.0
      → Allows (IsKept a key) slots id me (pages + 1) (λ n. n) (renames name (step slots (pages + 1) 0 0 none) me)
  renames_goes slots pages id name me sized out lone s r wide at _ = (renamed me.0 name, keeps, tt, kept_rename s r id (pages + 1) name me.0 at out lone, (refl, refl))
