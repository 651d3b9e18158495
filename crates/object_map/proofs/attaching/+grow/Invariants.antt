use Rattle.object_map.proofs.attaching.+grow.Given as goal

abbrev pub decreases-grow : goal.decreases-grow
decreases-grow g l = l.below
