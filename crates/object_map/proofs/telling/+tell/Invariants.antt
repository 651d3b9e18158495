use Rattle.object_map.proofs.telling.+tell.Given as goal

abbrev pub decreases-tell : goal.decreases-tell
decreases-tell g l = l.below
