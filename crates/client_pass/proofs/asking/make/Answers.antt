use Rattle.std.proofs.Common.{sym, ◌∙◌}
use Rattle.client_pass.proofs.Asked.{abort-cut}
use Rattle.client_pass.proofs.asking.make.Goals as goal
