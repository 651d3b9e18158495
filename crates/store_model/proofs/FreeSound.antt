-- Where a chosen object is deleted, all that a journal keeps is kept.
use Rattle.std.proofs.Common.{◌≡◌, ◌≢◌, ℕ, List, [], ◌∷◌, true, false, not, refl, sym, ap, ◌∙◌, subst, Option, Some, None, ◌⊎◌, inl, inr, ⊎_elim, eq-eqb, ne_eqb}
use Rattle.std.specs.Prelude.{◌&&◌, Contains, IfSome, slice_index}
use Rattle.std.specs.Option.{option_map_or}
use Rattle.std.proofs.lemmas.Bool.{cases_eq}
use Rattle.plain_model.specs.declared.object.Object.{Object}
use Rattle.plain_model.specs.Graphs.{object_at, without}
use Rattle.plain_model.specs.ActiveTransaction.{ActiveTransaction}
use Rattle.plain_model.specs.Machine.{is_stored}
use Rattle.plain_model.specs.History.{holds}
use Rattle.plain_laws.proofs.Legal.{without_sub}
use Rattle.plain_laws.proofs.Locks.{stored-remove}
use Rattle.cell_model.specs.Cells.{Cell, blank_cell, cell_at, pointer_in, pointer_at, is_live, edit}
use Rattle.cell_model.specs.Records.{Free, Fits}
use Rattle.store_model.specs.Core.{Copy, Round, Core, names, IsActive, slot_in}
use Rattle.store_model.specs.Sound.{IsKnown, root_itself, pointed, named_id, IsOnce, in_round, condemned_of, copy_of, IsSound}
use Rattle.store_model.specs.Steps.{IsWithout, with_left, after_free}
use Rattle.store_model.proofs.OnceLaws.{nothing-in, only-one, once-none}
use Rattle.cell_model.proofs.EditLaws.{live-there, live-within, edit-here, edit-other}
use Rattle.cell_model.proofs.ConsistentLaws.{consistent-kept}
use Rattle.store_model.proofs.StateLaws.{state-deleted}
use Rattle.store_model.proofs.DeletionLaws.{deletion}
use Rattle.store_model.proofs.CondemnedLaws.{closed_up-kept}
use Rattle.store_model.proofs.CollectLaws.{slot-without, free-current}
use Rattle.store_model.proofs.OthersLaws.{free-others}
use Rattle.store_model.proofs.AllowedLaws.{stored-contains, active-unheld}
use Rattle.store_model.proofs.CollectSound.{in_list, from_list, from_condemned, condemned-is}

-- a graph without an object has nothing in its slots
without-slot : (g : List Object) (id slot : ℕ) → slot_in (without g id) id slot ≡ 0
without-slot g id slot = by (object_at (without g id) id) refl
  where
    by : (o : Option Object) → object_at (without g id) id ≡ o → slot_in (without g id) id slot ≡ 0
    by None e = ap (λ o. option_map_or (λ (o : Object). slice_index o.slots slot) o 0) e
    by (Some o) e = absurd ((without_sub g id id o e).0 refl)

module _ (c : Core) (s : IsSound c) (r : Round) (q : c.round ≡ Some r) (id : ℕ) (chosen : Contains r.condemned id) (fits : Fits c.cells (Free id)) where
  -- the round afterwards has the others of its list, and the others that are chosen
  freed : (o : Option Round) → IsOnce (in_round (after_free c id o))
      → ((x : ℕ) → Contains (in_round (after_free c id o)) x → Contains r.list x × (x ≢ id)) → ((x : ℕ) → Contains r.list x → x ≢ id → Contains (in_round (after_free c id o)) x)
      → ((x : ℕ) → Contains (condemned_of (after_free c id o)) x → Contains r.condemned x × (x ≢ id)) → ((x : ℕ) → Contains r.condemned x → x ≢ id → Contains (condemned_of (after_free c id o)) x)
      → IfSome o (λ r. r.judged ≡ false → (id : ℕ) (copy : Copy) → Contains r.copies (id, copy) → ⊥)
      → IsSound (after_free c id o)
  freed o once listed listed_rest condemned condemned_rest no_copy =
      let slots = c.moment.state.slots in
      let f : Cell → Cell = λ _. blank_cell false slots in
      let cells = edit c.cells id f in
      let D : ℕ → Type 0 = Contains (condemned_of c) in
      let d : D id = from_condemned c s r q id chosen in
      let here = edit-here c.cells id f (live-there c.cells id s.consistent.exact.none fits.0) (live-within c.cells id fits.0) in
      let other : (x : ℕ) → x ≢ id → cell_at cells x ≡ cell_at c.cells x = λ x n. edit-other c.cells id x f n in
      let lives : (x : ℕ) → x ≢ id → is_live c.cells x ≡ true → is_live cells x ≡ true = λ x n l. ap (λ (e : Cell). e.live) (other x n) ∙ l in
      let apart : (x : ℕ) → is_live cells x ≡ true → x ≢ id = λ x l e. (let no : true ≡ false = sym l ∙ (ap (λ y. is_live cells y) e ∙ ap (λ (e : Cell). e.live) here) in cc) in
      let k = consistent-kept slots c.moment.state.ids c.cells (Free id) fits tt s.consistent in
      let was_condemned : (x : ℕ) → Contains (condemned_of (after_free c id o)) x → D x = λ x m. from_condemned c s r q x (condemned x m).0 in
      let D_new : (x : ℕ) → D x → x ≢ id → Contains (condemned_of (after_free c id o)) x = λ x m n. condemned_rest x (subst (λ l. Contains l x) (condemned-is c s r q) m) n in
      record {
        consistent = k;
        zero = λ x l n z.
            (let m = apart x l in
            ⊎_elim
            (λ h. inl h)
            (λ h. ⊎_elim (λ g. inr (inl (listed_rest x (in_list c s r q x g) m))) (λ g. inr (inr g)) h)
            (s.zero x (ap (λ (e : Cell). e.live) (sym (other x m)) ∙ l) n (ap (λ (e : Cell). e.strong) (sym (other x m)) ∙ z)));
        queue_once = s.queue_once;
        round_once = once;
        queued = λ x m.
            (let h = s.queued x m in
            (lives x (λ e. h.2 (subst (λ v. Contains (in_round c) v) (sym e) (s.condemned_listed id d))) h.0, h.1, λ g. h.2 (from_list c s r q x (listed x g).0)));
        round_live = λ x m. (let g = listed x m in let h = s.round_live x (from_list c s r q x g.0) in (lives x g.1 h.0, h.1));
        state = state-deleted c.moment.state id s.state (stored-contains c.moment.state.stored id (s.stored id ∙ fits.0)) (λ h. deletion c s D s.condemned id d h) (active-unheld c s id (s.condemned.not_locked id d));
        kept = free-current c s D s.condemned id d o;
        stored = λ x. stored-remove c.moment.state.stored id x s.state.ascend ∙ ⊎_elim
            (λ e. ap (λ b. not b && is_stored c.moment.state.stored x) (eq-eqb x id e) ∙ sym (ap (λ y. is_live cells y) e ∙ ap (λ (e : Cell). e.live) here))
            (λ n. ap (λ b. not b && is_stored c.moment.state.stored x) (ne_eqb x id n) ∙ (s.stored x ∙ sym (ap (λ (e : Cell). e.live) (other x n))))
            (cases_eq x id);
        none_undone = s.none_undone;
        made_first = s.made_first;
        made_alone = λ e m w n p h. s.made_alone e m w n p (free-others c s D s.condemned id d o e.0 h);
        new_named = s.new_named;
        old_named = λ e m w n x slot t nz. ⊎_elim
            (λ p. absurd (nz (ap (λ y. slot_in (without c.moment.state.committed id) y slot) p ∙ without-slot c.moment.state.committed id slot)))
            (λ p.
            let is = slot-without c s D s.condemned id d o x slot p in
            subst (λ v. names c.refs e.0 v ≡ true) (sym is) (s.old_named e m w n x slot t (λ z. nz (is ∙ z))))
            (cases_eq x id);
        made_named = s.made_named;
        refs_active = s.refs_active;
        registers = λ e m x h. known e m x (s.registers e m x h);
        copies = copies o no_copy;
        copied_listed = copied o no_copy;
        condemned = record {
          live = λ x m. lives x (condemned x m).1 (s.condemned.live x (was_condemned x m));
          not_root = λ x m. s.condemned.not_root x (was_condemned x m);
          not_locked = λ x m. s.condemned.not_locked x (was_condemned x m);
          not_named = λ x m. s.condemned.not_named x (was_condemned x m);
          within = λ u j l m.
              (let t = (pointer_at cells u j).target in
              let up = closed_up-kept c.cells s.consistent.exact D s.condemned.live s.condemned.within slots (Free id) fits tt u j l (was_condemned t m, lives t (condemned t m).1 (s.condemned.live t (was_condemned t m))) in
              D_new u up.0 (apart u l));
        };
        condemned_listed = λ x m. (let g = condemned x m in listed_rest x (in_list c s r q x (s.condemned_listed x (was_condemned x m))) g.1);
      }
    where
      copies : (o : Option Round) → IfSome o (λ r. r.judged ≡ false → (id : ℕ) (copy : Copy) → Contains r.copies (id, copy) → ⊥)
          → IfSome o (λ r. r.judged ≡ false → (x : ℕ) (copy : Copy) → Contains r.copies (x, copy) → Contains r.touched x ⊎ (copy ≡ copy_of (cell_at (edit c.cells id (λ _. blank_cell false c.moment.state.slots)) x)))
      copies None n = tt
      copies (Some r) n = λ j x copy m. absurd (n j x copy m)

      copied : (o : Option Round) → IfSome o (λ r. r.judged ≡ false → (id : ℕ) (copy : Copy) → Contains r.copies (id, copy) → ⊥) → IfSome o (λ r. r.judged ≡ false → (x : ℕ) (copy : Copy) → Contains r.copies (x, copy) → Contains r.list x)
      copied None n = tt
      copied (Some r) n = λ j x copy m. absurd (n j x copy m)

      known : (e : ℕ × ActiveTransaction) → IsActive c e → (x : ℕ) → IsKnown c e x → IsKnown (after_free c id o) e x
      known e m x (root_itself h) = root_itself h
      known e m x (named_id h) = named_id h
      known e m x (pointed v j h l p) =
          let n : v ≢ id = λ z. (let no : true ≡ false = sym h ∙ subst (λ y. holds y e.1 ≡ false) (sym z) (s.condemned.not_locked id (from_condemned c s r q id chosen) e m) in cc) in
          let is = edit-other c.cells id v (λ _. blank_cell false c.moment.state.slots) n in
          pointed v j h (ap (λ (e : Cell). e.live) is ∙ l) (ap (λ (e : Cell). (pointer_in e j).target) is ∙ p)

  pub free-sound : (list left : List ℕ) → r.judged ≡ true → IsOnce list → IsWithout r.list id list → IsWithout r.condemned id left → IsSound (after_free c id (Some (with_left r list left)))
  free-sound list left judged once a b = freed (Some (with_left r list left)) once a.others a.rest b.others b.rest (λ j x copy m. let no : true ≡ false = sym judged ∙ j in cc)

  -- the round closes with the deletion of its only object
  pub free_last-sound : r.list ≡ id ∷ [] → IsSound (after_free c id None)
  free_last-sound only =
      let one : (x : ℕ) → Contains r.list x → id ≡ x = λ x m. only-one id x (subst (λ l. Contains l x) only m) in
      freed None once-none
      (λ x m. nothing-in x m) (λ x m n. absurd (n (sym (one x m))))
      (λ x m. nothing-in x m) (λ x m n. absurd (n (sym (one x (in_list c s r q x (s.condemned_listed x (from_condemned c s r q x m)))))))
      tt
