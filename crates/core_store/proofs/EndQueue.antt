-- What a client named joins the queue where its transaction ends.
use Rattle.std.proofs.Common.{◌≡◌, ◌≢◌, ℕ, ◌+◌, ◌≤◌, Bool, true, false, not, cond, List, ◌∷◌, ◌++◌, length, get_or, map, filter, nat_cmp, refl, sym, ap, ◌∙◌, subst, arith, ⊎_elim, eq-eqb, ne_eqb, true≢false, []}
use Rattle.std.specs.Prelude.{◌==◌, ◌&&◌, ◌||◌, nat_lt, nat_le, Contains}
use Rattle.std.specs.List.{list_any}
use Rattle.std.specs.Option.{option_map_or}
use Rattle.std.specs.BTreeMap.{is_at}
use Rattle.std.proofs.lemmas.Bool.{cases_Bool, cases_eq, false_from_ne_true}
use Rattle.std.proofs.lemmas.List.{get_or-map, length-map}
use Rattle.std.proofs.lemmas.List.Elements.{Contains-append_left, Contains-append_right}
use Rattle.plain_model.specs.Graphs.{root}
use Rattle.ref_tables.specs.Queue.{has}
use Rattle.red_walk.proofs.Members.{Contains-has, has-Contains, absent}
use Rattle.red_walk.proofs.Filters.{filter-same, filter-passes, among-filter, once-filter, filter-among}
use Rattle.cell_model.specs.Cells.{blank_cell, cell_at, is_live}
use Rattle.store_model.specs.Core.{Ref, Round, Core, names, is_named}
use Rattle.store_model.specs.Sound.{by_name, by_pass, start, in_round, IsSound}
use Rattle.store_model.specs.Steps.{references_left, IsQueueLeft, Joins}
use Rattle.store_model.proofs.DeletionLaws.{names-is_named}
use Rattle.store_model.proofs.ReferenceLaws.{named-entry, named-by, references_left-fit, queue-left}
use Rattle.store_model.proofs.StepLaws.{names-append}
use Rattle.core_store.specs.Changes.{has_no_strong}
use Rattle.core_store.specs.References.{named_by}
use Rattle.core_store.specs.RoundView.{RoundView, Closed, Walking, Sweeping, round_of, ids_in}
use Rattle.core_store.specs.Queued.{all_joined, each_once, is_to_queue, queue_after_end}
use Rattle.core_store.specs.Tables.{TablesView}
use Rattle.core_store.specs.Steps.{AreNames, is_queued, Ends}
use Rattle.core_store.specs.Stands.{Stands}
use Rattle.core_store.proofs.PlanLaws.{live-id}
use Rattle.core_store.proofs.QueueLaws.{all_joined-behind, once-each_once, has-each_once}

-- ---- what a client names

pub named_by-own : (r : Ref) (rs : List Ref) (q : ℕ) → r.pass ≡ q → named_by (r ∷ rs) q ≡ r.target ∷ named_by rs q
named_by-own r rs q e = ap (λ b. map (λ (r : Ref). r.target) (cond b (r ∷ filter (λ r. r.pass == q) rs) (filter (λ r. r.pass == q) rs))) (eq-eqb r.pass q e)

pub named_by-other : (r : Ref) (rs : List Ref) (q : ℕ) → r.pass ≢ q → named_by (r ∷ rs) q ≡ named_by rs q
named_by-other r rs q n = ap (λ b. map (λ (r : Ref). r.target) (cond b (r ∷ filter (λ r. r.pass == q) rs) (filter (λ r. r.pass == q) rs))) (ne_eqb r.pass q n)

left-gone : (r : Ref) (rs : List Ref) (pass : ℕ) → r.pass ≡ pass → references_left (r ∷ rs) pass ≡ references_left rs pass
left-gone r rs pass e = ap (λ b. cond (not b) (r ∷ references_left rs pass) (references_left rs pass)) (eq-eqb r.pass pass e)

left-stays : (r : Ref) (rs : List Ref) (pass : ℕ) → r.pass ≢ pass → references_left (r ∷ rs) pass ≡ r ∷ references_left rs pass
left-stays r rs pass n = ap (λ b. cond (not b) (r ∷ references_left rs pass) (references_left rs pass)) (ne_eqb r.pass pass n)

pub has-named_by : (refs : List Ref) (p id : ℕ) → has (named_by refs p) id ≡ names refs p id
has-named_by [] p id = refl
has-named_by (r ∷ rs) p id =
    let rest = has-named_by rs p id in
    ⊎_elim
    (λ (e : r.pass ≡ p). ap (λ xs. has xs id) (named_by-own r rs p e) ∙ (ap (λ b. (r.target == id) || b) rest ∙ sym (ap (λ b. (b && (r.target == id)) || names rs p id) (eq-eqb r.pass p e))))
    (λ (n : r.pass ≢ p). ap (λ xs. has xs id) (named_by-other r rs p n) ∙ (rest ∙ sym (ap (λ b. (b && (r.target == id)) || names rs p id) (ne_eqb r.pass p n))))
    (cases_eq r.pass p)

-- the client names nothing any more
pub named_by-gone : (refs : List Ref) (pass : ℕ) → named_by (references_left refs pass) pass ≡ []
named_by-gone [] pass = refl
named_by-gone (r ∷ rs) pass =
    ⊎_elim
    (λ (e : r.pass ≡ pass). ap (λ l. named_by l pass) (left-gone r rs pass e) ∙ named_by-gone rs pass)
    (λ (n : r.pass ≢ pass). ap (λ l. named_by l pass) (left-stays r rs pass n) ∙ (named_by-other r (references_left rs pass) pass n ∙ named_by-gone rs pass))
    (cases_eq r.pass pass)

-- and every other names what it named
pub named_by-stays : (refs : List Ref) (pass q : ℕ) → q ≢ pass → named_by (references_left refs pass) q ≡ named_by refs q
named_by-stays [] pass q d = refl
named_by-stays (r ∷ rs) pass q d =
    let rest = named_by-stays rs pass q d in
    let left = references_left rs pass in
    ⊎_elim
    (λ (e : r.pass ≡ pass). ap (λ l. named_by l q) (left-gone r rs pass e) ∙ (rest ∙ sym (named_by-other r rs q (λ f. d (sym f ∙ e)))))
    (λ (n : r.pass ≢ pass).
    ap (λ l. named_by l q) (left-stays r rs pass n) ∙
    ⊎_elim
    (λ (f : r.pass ≡ q). named_by-own r left q f ∙ (ap (λ xs. r.target ∷ xs) rest ∙ sym (named_by-own r rs q f)))
    (λ (f : r.pass ≢ q). named_by-other r left q f ∙ (rest ∙ sym (named_by-other r rs q f)))
    (cases_eq r.pass q))
    (cases_eq r.pass pass)

-- whatever is named is named by a client
pub are-names : (refs : List Ref) (references : ℕ → List ℕ) → ((p : ℕ) → references p ≡ named_by refs p) → AreNames references (is_named refs)
are-names refs references same = record {
  yes = λ id h. (let r = named-by refs id h in
      (r.0.pass, ap (λ xs. has xs id) (same r.0.pass) ∙ (has-named_by refs r.0.pass id ∙ subst (λ x. names refs r.0.pass x ≡ true) r.2 (named-entry refs r.0 r.1))));
  no = λ id p h. false_from_ne_true (has (references p) id) (λ k. true≢false (sym (names-is_named refs p id (sym (has-named_by refs p id) ∙ (ap (λ xs. has xs id) (sym (same p)) ∙ k))) ∙ h));
}

-- what is named is live
pub named-live : (c : Core) → IsSound c → (p id : ℕ) → names c.refs p id ≡ true → is_live c.cells id ≡ true
named-live c s p id h =
    ⊎_elim
    (λ (none : false ≡ true). absurd (cc))
    (λ (n : (r : Ref) × Contains c.refs r × (r.target ≡ id) × (r.pass ≡ p)).
    let a = s.refs_active n.0 n.1 in
    (s.kept id (start id (by_pass (n.0.pass, a.0) a.1 (by_name (subst (λ x. names c.refs n.0.pass x ≡ true) n.2 (named-entry c.refs n.0 n.1)))))).live)
    (names-append [] c.refs p id h)

-- ---- the tests of the tables and those of the journal

module _ (slots : ℕ) (v : TablesView) (c : Core) (h : Stands slots v c) where
  pub marks-sized : length v.zeros ≡ v.ids + 1
  marks-sized = let n = ap length h.zeros ∙ length-map c.cells has_no_strong in let k = h.sound.consistent.sized in let i = h.ids in omega (arith, n, k, i)

  pub mark-at : (id : ℕ) → is_live c.cells id ≡ true → get_or v.zeros id false ≡ has_no_strong (cell_at c.cells id)
  mark-at id live = ap (λ zs. get_or zs id false) h.zeros ∙ get_or-map has_no_strong c.cells id (blank_cell false 0) false (let l = (live-id h id live).within in let k = h.sound.consistent.sized in omega (arith, l, k))

  pub not-free : (id : ℕ) → is_live c.cells id ≡ true → list_any (is_at (nat_cmp id)) v.free ≡ false
  not-free id live = h.free id ∙ (ap (λ b. nat_lt 0 id && nat_le id c.moment.state.ids && not b) (h.sound.stored id ∙ live) ∙ none (nat_lt 0 id) (nat_le id c.moment.state.ids))
    where
      none : (a b : Bool) → (a && b && false) ≡ false
      none true true = refl
      none true false = refl
      none false b = refl

  pub ids-in_round : ids_in v.round ≡ in_round c
  ids-in_round = by v.round ∙ ap (λ r. option_map_or (λ (x : Round). x.list) r []) h.round
    where
      by : (r : RoundView) → ids_in r ≡ option_map_or (λ (x : Round). x.list) (round_of r) []
      by Closed = refl
      by (Walking w) = refl
      by (Sweeping w s slot g) = refl

  -- on a live object they agree
  pub queued-agrees : (left : List Ref) (id : ℕ) → is_live c.cells id ≡ true → is_queued v (is_named left) id ≡ is_to_queue c left id
  queued-agrees left id live =
      let zero = has_no_strong (cell_at c.cells id) in
      let named = is_named left id in
      let free = list_any (is_at (nat_cmp id)) v.free in
      let inside = has (ids_in v.round) id in
      ap (λ z. z && (not (id == root) && (not free && (not inside && not named)))) (mark-at id live)
      ∙ (ap (λ f. zero && (not (id == root) && (not f && (not inside && not named)))) (not-free id live)
      ∙ (ap (λ ids. zero && (not (id == root) && (true && (not (has ids id) && not named)))) ids-in_round
      ∙ (agree zero (id == root) (has (in_round c) id) named ∙ ap (λ l. l && (not (id == root) && (zero && (not (has (in_round c) id) && not named)))) (sym live))))
    where
      agree : (z r i n : Bool) → (z && (not r && (true && (not i && not n)))) ≡ (true && (not r && (z && (not i && not n))))
      agree true true i n = refl
      agree true false i n = refl
      agree false true i n = refl
      agree false false i n = refl

  -- what is named is within the store's ids
  pub named-within : (pass id : ℕ) → has (v.references pass) id ≡ true → (1 ≤ id) × (id ≤ v.ids)
  named-within pass id there =
      let k = live-id h id (named-live c h.sound pass id (sym (has-named_by c.refs pass id) ∙ (ap (λ xs. has xs id) (sym (h.references pass)) ∙ there))) in
      let a = k.above in
      let b = k.within in
      let e = h.ids in
      (omega (arith, a), omega (arith, b, e))

  -- ---- the tables after an end

  module _ (w : TablesView) (pass : ℕ) (ends : Ends v w pass) where
    pub references-left_are : (q : ℕ) → w.references q ≡ named_by (references_left c.refs pass) q
    references-left_are q =
        ⊎_elim
        (λ (e : q ≡ pass). subst (λ p. w.references p ≡ named_by (references_left c.refs pass) p) (sym e) (ends.unnamed ∙ sym (named_by-gone c.refs pass)))
        (λ (d : q ≢ pass). ends.others q d ∙ (h.references q ∙ sym (named_by-stays c.refs pass q d)))
        (cases_eq q pass)

    pub queue-ended : w.queue ≡ queue_after_end c pass
    queue-ended =
        let left = references_left c.refs pass in
        let test = is_queued v (is_named left) in
        ends.queue (is_named left) (are-names left w.references references-left_are)
        ∙ (ap (λ q. all_joined q (filter test (each_once (v.references pass)))) h.queue
        ∙ (ap (λ xs. all_joined c.queue (filter test (each_once xs))) (h.references pass)
        ∙ ap (all_joined c.queue) (filter-same test (is_to_queue c left) (each_once (named_by c.refs pass)) (λ x m. queued-agrees left x (named-live c h.sound pass x (sym (has-named_by c.refs pass x) ∙ (sym (has-each_once (named_by c.refs pass) x) ∙ m)))))))

-- ---- the queue that the laws of an end ask for

to_queue-parts : (live is_root zero inside named : Bool) → (live && (not is_root && (zero && (not inside && not named)))) ≡ true → (live ≡ true) × (is_root ≡ false) × (inside ≡ false)
to_queue-parts true false true false false e = (refl, refl, refl)
to_queue-parts true false true false true e = absurd (cc)
to_queue-parts true false true true named e = absurd (cc)
to_queue-parts true false false inside named e = absurd (cc)
to_queue-parts true true zero inside named e = absurd (cc)
to_queue-parts false is_root zero inside named e = absurd (cc)

-- what joins at the end of the client's transaction
abbrev pub joining : Core → ℕ → List ℕ
joining c pass = filter (λ id. not (has c.queue id)) (filter (is_to_queue c (references_left c.refs pass)) (each_once (named_by c.refs pass)))

pub queue-behind : (c : Core) (pass : ℕ) → queue_after_end c pass ≡ c.queue ++ joining c pass
queue-behind c pass =
    let test = is_to_queue c (references_left c.refs pass) in
    let ids = each_once (named_by c.refs pass) in
    all_joined-behind (filter test ids) c.queue (once-filter test ids (once-each_once (named_by c.refs pass)))

joining-parts : (c : Core) (pass id : ℕ) → Contains (joining c pass) id → (is_to_queue c (references_left c.refs pass) id ≡ true) × (Contains c.queue id → ⊥)
joining-parts c pass id m =
    let test = is_to_queue c (references_left c.refs pass) in
    let new : ℕ → Bool = λ id. not (has c.queue id) in
    let ids = each_once (named_by c.refs pass) in
    (filter-passes test ids id (filter-among new (filter test ids) id m), λ k. true≢false (sym (filter-passes new (filter test ids) id m) ∙ ap not (has-Contains c.queue id k)))

pub joins-end : (c : Core) → IsSound c → (pass : ℕ) → Joins c pass (references_left c.refs pass) (joining c pass)
joins-end c s pass =
    let left = references_left c.refs pass in
    let test = is_to_queue c left in
    let new : ℕ → Bool = λ id. not (has c.queue id) in
    let ids = each_once (named_by c.refs pass) in
    record {
      once = once-filter new (filter test ids) (once-filter test ids (once-each_once (named_by c.refs pass)));
      fit = λ id m.
          (let k = joining-parts c pass id m in
          let p = to_queue-parts (is_live c.cells id) (id == root) (has_no_strong (cell_at c.cells id)) (has (in_round c) id) (is_named left id) k.0 in
          (p.0, (λ e. true≢false (sym (eq-eqb id root e) ∙ p.1)), (λ r. true≢false (sym (has-Contains (in_round c) id r) ∙ p.2)), k.1));
      complete = λ id named live apart zero outside unnamed.
          ⊎_elim
          (λ (there : has c.queue id ≡ true). Contains-append_left c.queue (joining c pass) id (Contains-has c.queue id there))
          (λ (away : has c.queue id ≡ false).
          let listed : Contains ids id = Contains-has ids id (has-each_once (named_by c.refs pass) id ∙ (has-named_by c.refs pass id ∙ named)) in
          let passes : test id ≡ true = all_tests (is_live c.cells id) (id == root) (has_no_strong (cell_at c.cells id)) (has (in_round c) id) (is_named left id) live (ne_eqb id root apart) (eq-eqb (cell_at c.cells id).strong 0 zero) (absent (in_round c) id outside) unnamed in
          Contains-append_right c.queue (joining c pass) id (among-filter new (filter test ids) id (among-filter test ids id listed passes) (ap not away)))
          (cases_Bool (has c.queue id));
    }
  where
    all_tests : (live is_root zero inside named : Bool) → live ≡ true → is_root ≡ false → zero ≡ true → inside ≡ false → named ≡ false → (live && (not is_root && (zero && (not inside && not named)))) ≡ true
    all_tests live is_root zero inside named a b d e f = rw (a, b, d, e, f) refl

pub queue-is_left : (c : Core) → IsSound c → (pass : ℕ) → IsQueueLeft c (references_left c.refs pass) (queue_after_end c pass)
queue-is_left c s pass =
    let left = references_left c.refs pass in
    subst (λ q. IsQueueLeft c left q) (sym (queue-behind c pass)) (queue-left c s pass left (references_left-fit c.refs pass) (joining c pass) (joins-end c s pass))
