-- The work of several clients, put together: what the main pass keeps of it.
use Rattle.std.proofs.Common.{◌≡◌, ◌≢◌, ◌⊎◌, inl, inr, ℕ, ◌+◌, ◌-◌, ◌≤◌, ◌==◌, Bool, true, false, List, [], ◌∷◌, ◌++◌, length, refl, sym, ap, subst, ◌∙◌, arith}
use Rattle.std.specs.Prelude.{Option, Some, None}
use Rattle.std.specs.Option.{option_or}
use Rattle.std.specs.List.{AllByRecursion}
use Rattle.std.proofs.lemmas.Bool.{cases_eq, ne_eqb, cond-true, or_from, or_left}
use Rattle.std.proofs.lemmas.List.{append_assoc, append-nil}
use Rattle.disk_model.specs.declared.area.Area.{Area}
use Rattle.disk_model.specs.Areas.{Bytes}
use Rattle.core_store.specs.declared.note.Note.{Note}
use Rattle.latch_table.specs.declared.view.Station.{Station}
use Rattle.latch_table.specs.Account.{Marks}
use Rattle.latch_table.specs.Views.{KeepMarks, joined_marks, is_listed, truth_of, main_of, without_name, split_left, split_right, joined}
use Rattle.shared_store.specs.Passes.{Known, IsClient}
use Rattle.client_pass.specs.declared.ends.WorkEnd.{WorkEnd}
use Rattle.client_pass.specs.declared.ends.WorkEnd.TheVariants.{Finished}
use Rattle.client_pass.specs.declared.script.ClientScript.{ClientScript}
use Rattle.client_pass.specs.Attempts.{Deed, Attempts, Begun}
use Rattle.client_pass.specs.Scripts.{AreInRange}
use Rattle.client_pass.specs.Workings.{Ascend, calls_of, KeepsAll, DoesTransactions, EndsWork, EndsCollecting}
use Rattle.client_pass.specs.Runs.{entries_of, AreInOrder, Collects, EndsRun, IsNobody, AreApart, MayRun, DoesScript, HasComeBack, RunsScripts}
use Rattle.client_pass.proofs.Makings.{calls_of-append}
use Rattle.client_pass.proofs.Names.{back-out, truth-own, truth-other}
use Rattle.client_pass.proofs.Kept.{entries-append, none-of_collector, collected-append, collected-all, collected-own, all-own, none-other, no-calls, ascend-le}

or-first : (a b : Option ℕ) (n : ℕ) → a ≡ Some n → option_or a b ≡ Some n
or-first (Some k) b n e = e
or-first None b n e = absurd (cc)

keep-either : (l m n : Marks) → KeepMarks l m → KeepMarks l (joined_marks m n)
keep-either l m n a = (λ k e. or-first m.0 n.0 k (a.0 k e), λ e. or_left m.1 n.1 (a.1 e), λ e. or_left m.2 n.2 (a.2 e))

keep-trans : (l m n : Marks) → KeepMarks l m → KeepMarks m n → KeepMarks l n
keep-trans l m n a b = (λ k e. b.0 k (a.0 k e), λ e. b.1 (a.1 e), λ e. b.2 (a.2 e))

-- calls after which nobody of these clients made any
calls-behind : (client : ℕ) (kept more : List (ℕ × Note)) → entries_of client more ≡ [] → calls_of client (kept ++ more) ≡ calls_of client kept
calls-behind client kept more none = calls_of-append client kept more ∙ (ap (λ (xs : List Deed). calls_of client kept ++ xs) (no-calls client more none) ∙ append-nil (calls_of client kept))

-- and before which nobody made any
calls-before : (client : ℕ) (kept more : List (ℕ × Note)) → entries_of client kept ≡ [] → calls_of client (kept ++ more) ≡ calls_of client more
calls-before client kept more none = calls_of-append client kept more ∙ ap (λ (xs : List Deed). xs ++ calls_of client more) (no-calls client kept none)

entries-behind : (client : ℕ) (kept more : List (ℕ × Note)) → entries_of client more ≡ [] → entries_of client (kept ++ more) ≡ entries_of client kept
entries-behind client kept more none = entries-append client kept more ∙ (ap (λ (xs : List (ℕ × Note)). entries_of client kept ++ xs) none ∙ append-nil (entries_of client kept))

entries-before : (client : ℕ) (kept more : List (ℕ × Note)) → entries_of client kept ≡ [] → entries_of client (kept ++ more) ≡ entries_of client more
entries-before client kept more none = entries-append client kept more ∙ ap (λ (xs : List (ℕ × Note)). xs ++ entries_of client more) none

module _ {slots : ℕ} where
  -- ---- before the first script

  -- the collector alone worked
  pub runs-nobody : (v w : Known slots) (e : WorkEnd) → v.station.main ≡ true → Collects v w → RunsScripts v w [] e
  runs-nobody v w e main c =
      let same = c.keeps.station in
      let later = ascend-le v.knowledge.seen w.knowledge.seen c.kept c.keeps.places in
      record {
        station = record {
          main = ap (λ (s : Station). s.main) same ∙ main;
          alive = ap (λ (s : Station). s.alive) same;
          name = ap (λ (s : Station). s.name) same;
          number = ap (λ (s : Station). s.number) same;
          others = ap (λ (s : Station). s.others) same;
          last = let l = ap (λ (s : Station). s.last) same in omega (arith, l);
          names = λ name none. ap (λ (s : Station). is_listed s.names name) same ∙ none;
        };
        fixed = c.keeps.fixed;
        peeks = c.keeps.peeks;
        truth = c.truth;
        marks = c.keeps.marks;
        seen = later;
        kept = c.kept;
        entries = c.keeps.entries;
        scripts_done = tt;
        in_order = λ client. (v.knowledge.seen, subst (λ (ks : List (ℕ × Note)). Ascend v.knowledge.seen ks v.knowledge.seen) (sym (none-of_collector client c.kept c.each)) refl, later);
        nobody = λ client others. none-of_collector client c.kept c.each;
        collected = collected-all c.kept c.each;
        others = λ client others. ap (λ (s : Station). truth_of s.truths client) same;
      }

  -- ---- one script more

  -- the other scripts of a run may be run beside this one
  pub may-others : (v : Known slots) (s : ClientScript) (scripts : List ClientScript) → IsNobody s.pass scripts → AllByRecursion (MayRun slots v.station) scripts → AllByRecursion (MayRun slots (split_left v s.pass).station) scripts
  may-others v s [] apart may = tt
  may-others v s (t ∷ scripts) apart may = (
    record {
      client = may.0.client;
      fresh = (may.0.fresh.0, or_from (s.pass == t.pass) (is_listed v.station.names t.pass) (ne_eqb s.pass t.pass (λ e. apart.0 (sym e))) may.0.fresh.1);
      none = may.0.none;
      in_range = may.0.in_range;
    },
    may-others v s scripts apart.1 may.1,
  )

  -- what another's script did stands
  done-others : (w x : Known slots) (kept more : List (ℕ × Note)) (client : ℕ) (rest e : WorkEnd) (scripts : List ClientScript) → (e ≡ Finished → rest ≡ Finished)
      → ((other : ℕ) → client ≢ other → entries_of other more ≡ []) → ((other : ℕ) → client ≢ other → truth_of x.station.truths other ≡ truth_of w.station.truths other)
      → IsNobody client scripts → AllByRecursion (DoesScript w kept rest) scripts → AllByRecursion (DoesScript x (kept ++ more) e) scripts
  done-others w x kept more client rest e [] over none same apart done = tt
  done-others w x kept more client rest e (s ∷ scripts) over none same apart done =
      let ne : client ≢ s.pass = λ (q : client ≡ s.pass). apart.0 (sym q) in
      let is = sym (calls-behind s.pass kept more (none s.pass ne)) in (
        record {
          begun = subst (Begun (Attempts s.txns)) is done.0.begun;
          finished = λ f. let d = done.0.finished (over f) in (subst (Attempts s.txns) is d.0, same s.pass ne ∙ d.1);
        },
        done-others w x kept more client rest e scripts over none same apart.1 done.1,
      )

  main-is : (w : Known slots) (t : Station) → w.station.main ≡ true → main_of w.station t ≡ w.station
  main-is w t main = cond-true w.station.main w.station t main

  come-back : (v w q : Known slots) (client n more : ℕ) → more ≡ n + 1 → q.station ≡ (split_right v client).station → HasComeBack (split_left v client).station w.station n → HasComeBack v.station (joined w q).station more
  come-back v w q client n more m own back =
      let is = main-is w q.station back.main in
      let name : q.station.name ≡ client = ap (λ (s : Station). s.name) own in
      record {
        main = refl;
        alive = back.alive;
        name = back.name;
        number = back.number;
        others = let o = back.others in let k = ap (λ (s : Station). s.others - 1) is in omega (arith, o, k);
        last = let l = back.last in let k = ap (λ (s : Station). s.last) is in omega (arith, l, k, m);
        names = λ other none. ap (λ (s : Station). is_listed (without_name (without_name s.names q.station.name) w.station.name) other) is
            ∙ (ap (λ (k : ℕ). is_listed (without_name (without_name w.station.names k) w.station.name) other) name
            ∙ back-out v.station.names w.station.names client w.station.name back.names other none);
      }

  -- the script's client worked beside the others, and its pass was taken in
  pub runs-more : (v w q : Known slots) (s : ClientScript) (scripts : List ClientScript) (own rest e : WorkEnd)
      → IsNobody s.pass scripts → RunsScripts (split_left v s.pass) w scripts rest → DoesTransactions (split_right v s.pass) q s.txns own
      → (e ≡ Finished → (own ≡ Finished) × (rest ≡ Finished)) → RunsScripts v (joined w q) (s ∷ scripts) e
  runs-more v w q s scripts own rest e apart a b over =
      let x = joined w q in
      let name : q.station.name ≡ s.pass = ap (λ (t : Station). t.name) b.keeps.station in
      let is = main-is w q.station a.station.main in
      let before = a.nobody s.pass apart in
      let all = all-own s.pass b.kept b.own in
      let seen-own = ascend-le v.knowledge.seen q.knowledge.seen b.kept b.keeps.places in
      let behind : (other : ℕ) → s.pass ≢ other → entries_of other b.kept ≡ [] = λ other ne. none-other s.pass other b.kept ne b.own in
      let truths : (other : ℕ) → s.pass ≢ other → truth_of x.station.truths other ≡ truth_of w.station.truths other =
      λ other ne. truth-other q.station.name q.knowledge.truth (main_of w.station q.station).truths other (λ z. ne (sym name ∙ z)) ∙ ap (λ (t : Station). truth_of t.truths other) is in
      let calls = sym (calls-before s.pass a.kept b.kept before) in
      record {
        station = come-back v w q s.pass (length scripts) (length (s ∷ scripts)) (omega arith) b.keeps.station a.station;
        fixed = a.fixed;
        peeks = ap (λ xs. w.knowledge.peeks ++ xs) b.keeps.peeks ∙ (append-nil w.knowledge.peeks ∙ a.peeks);
        truth = a.truth;
        marks = keep-either v.knowledge.marks w.knowledge.marks q.knowledge.marks a.marks;
        seen = let l = a.seen in omega (arith, l);
        kept = a.kept ++ b.kept;
        entries = ap (λ xs. w.knowledge.entries ++ xs) b.keeps.entries ∙ (ap (λ xs. xs ++ b.kept) a.entries ∙ append_assoc v.knowledge.entries a.kept b.kept);
        scripts_done = (
          record {
            begun = subst (Begun (Attempts s.txns)) calls b.begun;
            finished = λ f. let d = b.finished (over f).0 in (subst (Attempts s.txns) calls d.0, ap (λ (k : ℕ). truth_of ((k, q.knowledge.truth) ∷ (main_of w.station q.station).truths) s.pass) name ∙ (truth-own s.pass q.knowledge.truth (main_of w.station q.station).truths ∙ d.1));
          },
          done-others w x a.kept b.kept s.pass rest e scripts (λ f. (over f).1) behind truths apart a.scripts_done,
        );
        in_order = λ client. order client (cases_eq s.pass client);
        nobody = λ client none. entries-before client a.kept b.kept (a.nobody client none.1) ∙ behind client none.0;
        collected = collected-append a.kept b.kept a.collected (collected-own s.pass b.kept b.own);
        others = λ client none. truths client none.0 ∙ a.others client none.1;
      }
    where
      order : (client : ℕ) → (s.pass ≡ client) ⊎ (s.pass ≡ client → ⊥) → AreInOrder v.knowledge.seen (joined w q).knowledge.seen (entries_of client (a.kept ++ b.kept))
      order client (inl same) =
          let is = ap (λ (k : ℕ). entries_of k (a.kept ++ b.kept)) (sym same) ∙ (entries-before s.pass a.kept b.kept (a.nobody s.pass apart) ∙ all-own s.pass b.kept b.own) in
          (q.knowledge.seen, subst (λ (ks : List (ℕ × Note)). Ascend v.knowledge.seen ks q.knowledge.seen) (sym is) b.keeps.places, omega arith)
      order client (inr ne) =
          let is = entries-behind client a.kept b.kept (none-other s.pass client b.kept ne b.own) in
          let o = a.in_order client in
          (o.0, subst (λ (ks : List (ℕ × Note)). Ascend v.knowledge.seen ks o.0) (sym is) o.1, let l = o.2 in omega (arith, l))

  -- the same, with the names that a caller has for the views
  pub runs-joined : (v u p w q x : Known slots) (s : ClientScript) (others scripts : List ClientScript) (own rest e : WorkEnd)
      → scripts ≡ s ∷ others → u ≡ split_left v s.pass → p ≡ split_right v s.pass → x ≡ joined w q → AreApart scripts
      → RunsScripts u w others rest → DoesTransactions p q s.txns own → (e ≡ Finished → (own ≡ Finished) × (rest ≡ Finished)) → RunsScripts v x scripts e
  runs-joined v u p w q x s others scripts own rest e all left right join apart a b over =
      subst (λ (ss : List ClientScript). RunsScripts v x ss e) (sym all)
      (subst (λ (y : Known slots). RunsScripts v y (s ∷ others) e) (sym join)
      (runs-more v w q s others own rest e (subst AreApart all apart).0
      (subst (λ (y : Known slots). RunsScripts y w others rest) left a)
      (subst (λ (y : Known slots). DoesTransactions y q s.txns own) right b) over))

  -- ---- how a run ends

  -- the collector's end is one of the run
  pub ends-collecting : (D : Type 0) (content : D → Area → Option (List ℕ)) (may_leave : D → Area → List ℕ → Type 0) (faults : D → ℕ) (moment : D → ℕ) (left_since : D → ℕ → Bytes → Type 0) (v w : Known slots) (e : WorkEnd) → w.knowledge.fixed ≡ v.knowledge.fixed → EndsCollecting D slots w e → EndsRun D slots content may_leave faults moment left_since v e
  ends-collecting D content may_leave faults moment left_since v w e same c = (c.0, (w, same, inr c.1))

  -- so is that of one of the clients, or of the others
  pub ends-joined : (D : Type 0) (content : D → Area → Option (List ℕ)) (may_leave : D → Area → List ℕ → Type 0) (faults : D → ℕ) (moment : D → ℕ) (left_since : D → ℕ → Bytes → Type 0) (v u p q : Known slots) (client : ℕ) (own rest e : WorkEnd)
      → u ≡ split_left v client → p ≡ split_right v client → q.knowledge.fixed ≡ p.knowledge.fixed
      → ((own ≡ Finished → ⊥) → EndsWork D slots content may_leave faults moment left_since q own) → ((rest ≡ Finished → ⊥) → EndsRun D slots content may_leave faults moment left_since u rest)
      → (e ≡ own) ⊎ (e ≡ rest) → (e ≡ Finished → ⊥) → EndsRun D slots content may_leave faults moment left_since v e
  ends-joined D content may_leave faults moment left_since v u p q client own rest e left right same is-own is-rest (inl is) unfinished =
      let w = is-own (λ f. unfinished (is ∙ f)) in
      subst (EndsRun D slots content may_leave faults moment left_since v) (sym is) (w.0, (q, same ∙ ap (λ (y : Known slots). y.knowledge.fixed) right, inl w.1))
  ends-joined D content may_leave faults moment left_since v u p q client own rest e left right same is-own is-rest (inr is) unfinished =
      let w = is-rest (λ f. unfinished (is ∙ f)) in
      subst (EndsRun D slots content may_leave faults moment left_since v) (sym is) (w.0, (w.1.0, w.1.1 ∙ ap (λ (y : Known slots). y.knowledge.fixed) left, w.1.2))

  -- what the first of these scripts and the others may do after the split
  pub record MayBegin (u p : Known slots) (s : ClientScript) (others : List ClientScript) : Type 0 where
    pub main : u.station.main ≡ true
    pub room : u.station.last + length others ≤ 4294967295
    pub may : AllByRecursion (MayRun slots u.station) others
    pub apart : AreApart others
    pub client : IsClient s.pass × (p.station.name ≡ s.pass)
    pub none : p.knowledge.truth ≡ false
    pub in_range : AreInRange slots s.txns

  pub may-begin : (v u p : Known slots) (s : ClientScript) (others scripts : List ClientScript) → scripts ≡ s ∷ others → u ≡ split_left v s.pass → p ≡ split_right v s.pass
      → v.station.main ≡ true → v.station.last + length scripts ≤ 4294967295 → AllByRecursion (MayRun slots v.station) scripts → AreApart scripts → MayBegin u p s others
  may-begin v u p s others scripts all left right main room may apart =
      let each = subst (AllByRecursion (MayRun slots v.station)) all may in
      let differ = subst AreApart all apart in
      let last = ap (λ (y : Known slots). y.station.last) left in
      let count = ap (length {A = ClientScript}) all in
      record {
        main = ap (λ (y : Known slots). y.station.main) left ∙ main;
        room = omega (arith, last, count, room);
        may = subst (λ (y : Known slots). AllByRecursion (MayRun slots y.station) others) (sym left) (may-others v s others differ.0 each.1);
        apart = differ.1;
        client = (each.0.client, ap (λ (y : Known slots). y.station.name) right);
        none = ap (λ (y : Known slots). y.knowledge.truth) right ∙ each.0.none;
        in_range = each.0.in_range;
      }

  -- no script
  pub runs-none : (v w : Known slots) (scripts : List ClientScript) (e : WorkEnd) → length scripts ≡ 0 → v.station.main ≡ true → Collects v w → RunsScripts v w scripts e
  runs-none v w [] e none main c = runs-nobody v w e main c
  runs-none v w (s ∷ scripts) e none main c = absurd (omega (arith, none))

  -- ---- after all of them

  done-behind : (w x : Known slots) (kept more : List (ℕ × Note)) (rest e : WorkEnd) (scripts : List ClientScript) → (e ≡ Finished → rest ≡ Finished)
      → ((client : ℕ) → entries_of client more ≡ []) → x.station ≡ w.station
      → AllByRecursion (DoesScript w kept rest) scripts → AllByRecursion (DoesScript x (kept ++ more) e) scripts
  done-behind w x kept more rest e [] over none same done = tt
  done-behind w x kept more rest e (s ∷ scripts) over none same done =
      let is = sym (calls-behind s.pass kept more (none s.pass)) in (
        record {
          begun = subst (Begun (Attempts s.txns)) is done.0.begun;
          finished = λ f. let d = done.0.finished (over f) in (subst (Attempts s.txns) is d.0, ap (λ (t : Station). truth_of t.truths s.pass) same ∙ d.1);
        },
        done-behind w x kept more rest e scripts over none same done.1,
      )

  -- the collector went on
  pub runs-behind : (v w x : Known slots) (scripts : List ClientScript) (rest e : WorkEnd) → (e ≡ Finished → rest ≡ Finished) → RunsScripts v w scripts rest → Collects w x → RunsScripts v x scripts e
  runs-behind v w x scripts rest e over a c =
      let same = c.keeps.station in
      let later = ascend-le w.knowledge.seen x.knowledge.seen c.kept c.keeps.places in
      let none : (client : ℕ) → entries_of client c.kept ≡ [] = λ client. none-of_collector client c.kept c.each in
      record {
        station = subst (λ (s : Station). HasComeBack v.station s (length scripts)) (sym same) a.station;
        fixed = c.keeps.fixed ∙ a.fixed;
        peeks = c.keeps.peeks ∙ a.peeks;
        truth = c.truth ∙ a.truth;
        marks = keep-trans v.knowledge.marks w.knowledge.marks x.knowledge.marks a.marks c.keeps.marks;
        seen = let l = a.seen in omega (arith, l, later);
        kept = a.kept ++ c.kept;
        entries = c.keeps.entries ∙ (ap (λ xs. xs ++ c.kept) a.entries ∙ append_assoc v.knowledge.entries a.kept c.kept);
        scripts_done = done-behind w x a.kept c.kept rest e scripts over none same a.scripts_done;
        in_order = λ client. let o = a.in_order client in (o.0, subst (λ (ks : List (ℕ × Note)). Ascend v.knowledge.seen ks o.0) (sym (entries-behind client a.kept c.kept (none client))) o.1, let l = o.2 in omega (arith, l, later));
        nobody = λ client others. entries-behind client a.kept c.kept (none client) ∙ a.nobody client others;
        collected = collected-append a.kept c.kept a.collected (collected-all c.kept c.each);
        others = λ client others. ap (λ (s : Station). truth_of s.truths client) same ∙ a.others client others;
      }
