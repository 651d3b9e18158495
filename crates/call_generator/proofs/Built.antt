-- What the builder's calls make of the command.
use Rattle.std.proofs.Common.{◌≡◌, ◌∙◌, ap, true, codes}
use Rattle.clap.specs.Words.{App, Shape, app_of, new_app}
use Rattle.clap.specs.Simple.{app_of_fields, on_top}
use Rattle.clap.specs.declared.builder.command.Command.{Command}
use Rattle.clap.specs.declared.builder.command.Command.TheViews.{out-Command as fields_of}
use Rattle.call_generator.specs.GenCommand.{bare_app}

abbrev unnamed : Shape → Shape
unnamed s = record s { no_binary_name = true }

abbrev helpless : Shape → Shape
helpless s = record s { disable_help_flag = true }

abbrev versionless : Shape → Shape
versionless s = record s { disable_version_flag = true }

pub bare-is : (a b c d : Command) → app_of a ≡ new_app (codes "gen") → fields_of b ≡ record (fields_of a) { no_binary_name = true } → fields_of c ≡ record (fields_of b) { disable_help_flag = true }
    → fields_of d ≡ record (fields_of c) { disable_version_flag = true } → app_of d ≡ bare_app (codes "gen")
bare-is a b c d new is_unnamed is_helpless is_versionless =
    let first : app_of b ≡ on_top unnamed (app_of a) = ap app_of_fields is_unnamed in
    let second : app_of c ≡ on_top helpless (app_of b) = ap app_of_fields is_helpless in
    let third : app_of d ≡ on_top versionless (app_of c) = ap app_of_fields is_versionless in
    third ∙ ap (λ (x : App). on_top versionless x) (second ∙ ap (λ (x : App). on_top helpless x) (first ∙ ap (λ (x : App). on_top unnamed x) new))
