use Rattle.std.proofs.Common.{◌≡◌, ℕ, ◌+◌, ◌*◌, List, [], ◌∷◌, ◌++◌, length, take, ap, sym, ◌∙◌, arith}
use Rattle.cell_page.specs.Format.{field_bytes}
use Rattle.cell_page.proofs.encode.encode_fields.Goals as goal

-- two bytes and six pieces that were written one after another
in_a_row : (m n : ℕ) (a b c d e f g h q r s t u v : List ℕ)
    → a ≡ m ∷ [] → b ≡ a ++ n ∷ [] → c ≡ b ++ q → d ≡ c ++ r → e ≡ d ++ s → f ≡ e ++ t → g ≡ f ++ u → h ≡ g ++ v → h ≡ m ∷ n ∷ [] ++ q ++ r ++ s ++ t ++ u ++ v
in_a_row m n a b c d e f g h q r s t u v ha hb hc hd he hf hg hh = cc

pub returns : goal.returns
unfolding field_bytes
returns g c =
    let count : length c.args.cell.now.slots ≡ g.row.SLOTS = omega arith in
    let slots = ap (λ (n : ℕ). take (24 + 4 * n) c.encode_slots.new.into) (sym count) ∙ c.encode_slots.ensures in
    in_a_row _ _ _ _ _ _ _ _ _ _ _ _ _ _ _ _ c.put_u8.ensures c.put_u8-2.ensures c.put_u16.ensures c.put_u32.ensures c.put_u32-2.ensures c.put_u32-3.ensures c.put_u64.ensures slots
