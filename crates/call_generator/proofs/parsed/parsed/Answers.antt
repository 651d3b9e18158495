use Rattle.std.proofs.Common.{◌∙◌, map, string_bytes}
use Rattle.clap.specs.Words.{app_of}
use Rattle.call_generator.proofs.Found.{taken-read, refused-read}
use Rattle.call_generator.proofs.parsed.parsed.Goals as goal

pub returns-in-Ok : goal.returns-in-Ok
returns-in-Ok c = taken-read (app_of c.in_ok-gen_command.field-0) (map string_bytes c.args.words.now) c.in-Ok.matches c.in_ok-gen_command.ensures c.in-Ok.ensures.kinds c.in-Ok.ensures.matches

pub returns : goal.returns
returns c = refused-read (app_of c.in_ok-gen_command.field-0) (map string_bytes c.args.words.now) c.in-Err.error c.in_ok-gen_command.ensures (λ e. c.in_default.not-OutOfMemory (c.kind.ensures ∙ e)) c.in-Err.ensures.kinds
