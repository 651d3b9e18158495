use Rattle.std.proofs.Common.{sym, ◌∙◌}
use Rattle.cell_page.proofs.Pages.{same_page}
use Rattle.cell_page.proofs.laws.spelled_once.Goals as goal

pub returns-clause-bytes : goal.returns-clause-bytes
returns-clause-bytes c = λ slots page other cells bytes more spells spells_more. spells.spelled ∙ sym spells_more.spelled

pub returns-clause-page : goal.returns-clause-page
returns-clause-page c = λ slots page other cells others bytes. same_page page other cells others bytes
