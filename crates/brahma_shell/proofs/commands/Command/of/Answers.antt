use Rattle.std.proofs.Common.{Option, codes, subst, List, ◌∷◌, [], ◌≡◌, ◌<◌, ◌≤◌, arith, refl, sym, ap, ◌∙◌, get_or, length, drop, map}
use Rattle.std.proofs.lemmas.List.{take_rest}
use Rattle.std.proofs.lemmas.Result.{IfOk-weaker, on_err_weaker}
use Rattle.std.specs.declared.alloc.Global.{Global}
use Rattle.std.specs.Prelude.{String, string_bytes}
use Rattle.brahma_shell.specs.Commands.{AskOptions, command_of, command_of_word, command_of_more}
use Rattle.brahma_shell.specs.declared.commands.Command.{Command}
use Rattle.brahma_shell.proofs.commands.Command.of.Goals as goal

one_word : (xs : List (String Global)) (w : String Global) → 1 ≤ length xs → length xs < 2 → w ≡ get_or xs 0 w → map string_bytes xs ≡ string_bytes w ∷ []
one_word [] w l m e = absurd (omega arith)
one_word (x ∷ []) w l m e = ap (λ (s : String Global). string_bytes s ∷ []) (sym e)
one_word (x ∷ y ∷ ys) w l m e = absurd (omega arith)

pub returns-in-len1 : goal.returns-in-len1
returns-in-len1 c =
    let w = one_word c.items.result.now c.word-item.result c.in-len1.len_at_least c.in-len1.len_below c.word-item.is in
    record { value = c.command_of_word.ensures ∙ ap command_of_word c.as_bytes.ensures.value ∙ ap command_of (sym w ∙ c.items.ensures); memory = tt }

more_words : (xs : List (String Global)) (w : String Global) (rest : List (String Global)) → 3 ≤ length xs → w ≡ get_or xs 0 w → rest ≡ drop 1 xs → command_of_more (string_bytes w) (map string_bytes rest) ≡ command_of (map string_bytes xs)
more_words [] w rest l e f = absurd (omega arith)
more_words (x ∷ []) w rest l e f = absurd (omega arith)
more_words (x ∷ y ∷ []) w rest l e f = absurd (omega arith)
more_words (x ∷ y ∷ z ∷ zs) w rest l e f = ap (λ (s : String Global). command_of_more (string_bytes s) (map string_bytes rest)) e ∙ ap (λ (ss : List (String Global)). command_of_more (string_bytes x) (map string_bytes ss)) f

asks_options : (xs : List (String Global)) (w : String Global) → 3 ≤ length xs → w ≡ get_or xs 0 w → string_bytes w ≡ codes "gen" → AskOptions (map string_bytes xs)
asks_options [] w l e g = absurd (omega arith)
asks_options (x ∷ []) w l e g = absurd (omega arith)
asks_options (x ∷ y ∷ []) w l e g = absurd (omega arith)
asks_options (x ∷ y ∷ z ∷ zs) w l e g = ap string_bytes (sym e) ∙ g

pub returns-in-len1-up : goal.returns-in-len1-up
returns-in-len1-up c =
    let words = c.items.result.now in
    let w = c.word-item-2.result in
    let e = rw (c.as_bytes-in-len1-up.ensures.value, take_rest words 1) at c.command_of_more.ensures.value in
    let whole = more_words words w (drop 1 words) c.in-len1-up.len_at_least c.word-item-2.is refl ∙ ap command_of c.items.ensures in
    record {
      value = IfOk-weaker c.command_of_more.result _ _ (λ (r : Option Command) is. is ∙ whole) e;
      memory = on_err_weaker c.command_of_more.result (λ gen. subst AskOptions c.items.ensures (asks_options words w c.in-len1-up.len_at_least c.word-item-2.is (sym c.as_bytes-in-len1-up.ensures.value ∙ gen))) c.command_of_more.ensures.memory;
    }
