-- The number of a group that the window is over. Assumes nothing.
use Rattle.coding.proofs.lengths_of.Given as goal

abbrev pub ghost-window_over : goal.ghost-window_over
ghost-window_over a = λ g. g.length
