-- The command that clap reads the words by, and what it finds in them.
use Rattle.std.specs.Prelude.{◌≡◌, List, Option, Some, None, true, codes}
use Rattle.clap.specs.Words.{App, Rule, Text, new_app, new_rule, with_rule, first_value, found_of}
use Rattle.clap.specs.Simple.{on_top}
use Rattle.clap.specs.declared.builder.action.ArgAction.TheVariants.{Set}
use Rattle.clap.specs.declared.parser.matches.ArgMatches.{ArgMatches}
use Rattle.call_generator.specs.Options.{asked_for, asked_of}
use Rattle.call_generator.specs.declared.options.Asked.{Asked}

-- an option that takes one value, and has to be given
abbrev pub option_rule : Text → Rule
option_rule name = record (new_rule name) { long = Some name; required = true; action = Some Set }

-- a command whose words begin with its first argument, and that answers no call for help or its version
abbrev pub bare_app : Text → App
bare_app name = on_top (λ s. record s { no_binary_name = true; disable_help_flag = true; disable_version_flag = true }) (new_app name)

abbrev pub gen_app : App
gen_app = with_rule (with_rule (with_rule (bare_app (codes "gen")) (option_rule (codes "seed"))) (option_rule (codes "clients"))) (option_rule (codes "txns"))

-- what the values ask that clap found
abbrev pub asked_in : ArgMatches → Option Asked
asked_in m = asked_for (first_value (found_of m) (codes "seed")) (first_value (found_of m) (codes "clients")) (first_value (found_of m) (codes "txns"))

-- the words ask what clap found in them, and nothing where it refused them
abbrev pub HasRead : List Text → Option ArgMatches → Type 0
HasRead words None = asked_of words ≡ None
HasRead words (Some m) = asked_of words ≡ asked_in m
