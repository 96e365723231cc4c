use Rattle.printing.proofs.+pass_large.Given as goal

abbrev pub decreases-pass_large : goal.decreases-pass_large
decreases-pass_large l = l.turns
