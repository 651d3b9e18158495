use Rattle.std.proofs.lemmas.Result.{on_ok_weaker}
use Rattle.brahma_shell.proofs.LineLemmas.{taken-nothing, taken-ask, taken-abort, refused-ask, refused-abort}
use Rattle.brahma_shell.proofs.client_scripts.ClientScripts.take.Goals as goal

-- src/scripts.rt:78:5
pub returns-in-Nothing-clause-taken : goal.returns-in-Nothing-clause-taken
returns-in-Nothing-clause-taken c = taken-nothing c.args.line c.args.self.now c.in-Nothing.is

-- src/scripts.rt:78:5
pub returns-in-Ask-clause-taken : goal.returns-in-Ask-clause-taken
returns-in-Ask-clause-taken c = on_ok_weaker c.ask.result (taken-ask c.args.line c.in-Ask.client c.in-Ask.call c.args.self.now c.ask.new.self c.in-Ask.is) c.ask.ensures.added

-- src/scripts.rt:78:5
pub returns-in-Ask-clause-refused : goal.returns-in-Ask-clause-refused
returns-in-Ask-clause-refused c = refused-ask c.ask.result c.args.line c.in-Ask.client c.in-Ask.call c.args.self.now c.in-Ask.is c.ask.ensures.refused

-- src/scripts.rt:78:5
pub returns-in-Abort-clause-taken : goal.returns-in-Abort-clause-taken
returns-in-Abort-clause-taken c = on_ok_weaker c.ask-in-Abort.result (taken-abort c.args.line c.in-Abort.client c.args.self.now c.ask-in-Abort.new.self c.in-Abort.is) c.ask-in-Abort.ensures.added

-- src/scripts.rt:78:5
pub returns-in-Abort-clause-refused : goal.returns-in-Abort-clause-refused
returns-in-Abort-clause-refused c = refused-abort c.ask-in-Abort.result c.args.line c.in-Abort.client c.args.self.now c.in-Abort.is c.ask-in-Abort.ensures.refused
