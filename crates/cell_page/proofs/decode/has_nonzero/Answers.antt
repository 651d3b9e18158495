use Rattle.std.proofs.Common.{◌≡◌, ◌<◌, ℕ, zero, suc, Bool, true, false, not, refl, sym, ap, ◌∙◌, bit_or, slice_index_or, take, arith}
use Rattle.std.specs.Prelude.{◌==◌, ◌&&◌, ◌||◌}
use Rattle.std.specs.List.{list_any}
use Rattle.std.proofs.lemmas.Bool.{ne_eqb}
use Rattle.std.proofs.lemmas.Nat.{le_or_l}
use Rattle.std.proofs.lemmas.List.Folds.{list_any_more}
use Rattle.cell_page.proofs.decode.has_nonzero.Goals as goal

positive : (m : ℕ) → 0 < m → (m == 0) ≡ false
positive m above = ne_eqb m 0 (λ e. omega (arith, above, e))

-- the bits of two numbers together are 0 where both numbers are
or-zero : (a b : ℕ) → (bit_or a b == 0) ≡ ((a == 0) && (b == 0))
or-zero zero b = refl
or-zero (suc a) b =
    let most = le_or_l (suc a) b in
    positive (bit_or (suc a) b) (omega (arith, most)) ∙ ap (λ (x : Bool). x && (b == 0)) (sym (positive (suc a) (omega arith)))

one-more : (zeros found last : Bool) → zeros ≡ not found → (zeros && last) ≡ not (found || not last)
one-more zeros true last is = rw is refl
one-more zeros false true is = rw is refl
one-more zeros false false is = rw is refl

pub loop-byte-preserved : goal.loop-byte-preserved
loop-byte-preserved c =
    let bytes = c.args.bytes.now in
    let at = c.loop-byte.byte-index in
    let byte = slice_index_or bytes at 0 in
    or-zero c.loop-byte.bits byte
    ∙ (one-more (c.loop-byte.bits == 0) (list_any (λ byte. not (byte == 0)) (take at bytes)) (byte == 0) c.loop-byte.invariant
    ∙ ap not (sym (list_any_more (λ byte. not (byte == 0)) bytes at 0 c.loop-byte-test.true)))
