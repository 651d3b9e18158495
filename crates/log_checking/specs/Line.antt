-- The line of a verdict.
use Rattle.std.specs.Prelude.{ℕ, List, [], ◌∷◌, ◌++◌, Option, Some, None, codes, decimal}
use Rattle.plain_model.specs.Text.{newline}
use Rattle.log_checker.specs.declared.verdict.Verdict.{Verdict}

-- yes, or no and the id
abbrev pub finding : Option ℕ → List ℕ
finding None = codes " yes"
finding (Some id) = codes " no " ++ decimal id

-- how many commits there are, and where the stored objects are not the effect of just these
abbrev pub verdict_line : Verdict → List ℕ
verdict_line v = codes "check: commits " ++ decimal v.commits ++ finding v.differs ++ newline ∷ []
