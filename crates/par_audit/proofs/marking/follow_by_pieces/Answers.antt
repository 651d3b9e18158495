use Rattle.std.proofs.Common.{◌≡◌, ◌+◌, ◌-◌, ◌/◌, ℕ, List, length, take, drop, sym, subst, arith}
use Rattle.std.proofs.lemmas.List.{take_all, length-drop}
use Rattle.std.proofs.lemmas.Result.{IfOk-weaker}
use Rattle.par_audit.specs.Marks.{AreNames}
use Rattle.par_audit.proofs.FollowLaws.{follows-named}
use Rattle.par_audit.proofs.marking.follow_by_pieces.Goals as goal

pub returns : goal.returns
returns g c =
    let found = c.args.found.now.items in
    let level = drop c.args.«from» found in
    let long = length-drop c.args.«from» found in
    let whole : take (length found - c.args.«from») level ≡ level = take_all (length found - c.args.«from») level (omega (arith, long)) in
    let named = subst (λ (l : List ℕ). AreNames c.args.cells.now l (length c.args.cells.now / 64 + 1) c.in_ok-words.words.items) whole (rw (c.deref.ensures.value) at c.in_ok-words.ensures) in
    let within = subst (λ (n : ℕ). AreNames c.args.cells.now level n c.in_ok-words.words.items) (sym c.requires.len) named in
    let words = subst (λ (ws : List ℕ). AreNames c.args.cells.now level (length c.args.unreached.now) ws) (sym c.as_slice.ensures.value) within in
    IfOk-weaker c.follow_words.result _ _ (λ u f. follows-named c.args.cells.now level _ _ _ _ _ words f) c.follow_words.ensures
