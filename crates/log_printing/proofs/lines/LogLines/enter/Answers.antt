use Rattle.std.proofs.Common.{◌≡◌, ◌≢◌, ℕ, ◌+◌, ◌-◌, ◌^◌, ◌<◌, ◌≤◌, List, length, take, drop, refl, sym, ap, subst, ◌∙◌, arith, rules}
use Rattle.std.specs.Prelude.{slice_index}
use Rattle.std.specs.Int.{w32, to_be_bytes}
use Rattle.std.proofs.lemmas.List.{length-drop, take_all}
use Rattle.log_printing.specs.Lines.{Place, AreLeft}
use Rattle.log_printing.proofs.LineLaws.{ends_there, has_size, entered, left_within}
use Rattle.log_printing.proofs.lines.LogLines.enter.Goals as goal

whole : (at : ℕ) (area : List ℕ) → take (length area - at) (drop at area) ≡ drop at area
whole at area = take_all (length area - at) (drop at area) (omega (arith, length-drop at area))

pub returns-then-area-self-ne-OPEN-clause-none : goal.returns-then-area-self-ne-OPEN-clause-none
returns-then-area-self-ne-OPEN-clause-none g c is items left =
    let v : Place = record { at = c.self.inside.at; end = c.self.inside.end } in
    let here : c.self.inside.at ≡ c.self.inside.end = ap (λ (w : Place). w.at) c.self.view_is ∙ c.requires.ended ∙ sym (ap (λ (w : Place). w.end) c.self.view_is) in
    ends_there c.args.area.now items v here c.if-area-self-ne-OPEN.true (subst (λ (w : Place). AreLeft c.args.area.now items w) (sym c.self.view_is) left)

pub size_in-size-requires : goal.size_in-size-requires
size_in-size-requires g c =
    let v : Place = record { at = c.self.inside.at; end = c.self.inside.end } in
    let here : c.self.inside.at ≡ c.self.inside.end = ap (λ (w : Place). w.at) c.self.view_is ∙ c.requires.ended ∙ sym (ap (λ (w : Place). w.end) c.self.view_is) in
    let place = c.requires.place in
    let long = has_size c.args.area.now place.0 v here c.if-area-self-ne-OPEN.false (subst (λ (w : Place). AreLeft c.args.area.now place.0 w) (sym c.self.view_is) place.1) in
    omega (arith, long, ap length (whole (c.self.inside.at + 1) c.args.area.now))

pub returns-clause-more : goal.returns-clause-more
returns-clause-more g c is =
    let v : Place = record { at = c.self.inside.at; end = c.self.inside.end } in
    let q : Place = record { at = c.self.inside.at + 5; end = c.self.inside.at + 5 + c.size_in-size.result } in
    let here : c.self.inside.at ≡ c.self.inside.end = ap (λ (w : Place). w.at) c.self.view_is ∙ c.requires.ended ∙ sym (ap (λ (w : Place). w.end) c.self.view_is) in
    let typed : c.size_in-size.result < 2 ^ 32 = search rules in
    let spelled : to_be_bytes w32 c.size_in-size.result ≡ take 4 (drop (c.self.inside.at + 1) c.args.area.now) =
    c.size_in-size.ensures ∙ ap (λ (l : List ℕ). take 4 l) (whole (c.self.inside.at + 1) c.args.area.now) in
    let place = c.requires.place in
    let go = λ (items : _) (left : AreLeft {slots = g.row.SLOTS} c.args.area.now items v).
    entered {slots = g.row.SLOTS} c.args.area.now items v q c.size_in-size.result here c.if-area-self-ne-OPEN.false typed spelled refl refl left in
    let gone = go place.0 (subst (λ (w : Place). AreLeft c.args.area.now place.0 w) (sym c.self.view_is) place.1) in
    let within = left_within c.args.area.now place.0 q gone.0 in
    record {
      keeps = λ items left. (go items (subst (λ (w : Place). AreLeft c.args.area.now items w) (sym c.self.view_is) left)).0;
      on = omega (arith, ap (λ (w : Place). w.at) c.self.view_is);
      some = gone.1;
      within = omega (arith, within.1);
    }
