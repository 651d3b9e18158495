use Rattle.latch_table.proofs.table.Latches.rename.Given as goal

abbrev pub ghosts-rename_as : goal.ghosts-rename_as
ghosts-rename_as g a = record { name = a.name }
