-- The measure is the number of digits left to write.
use Rattle.text.proofs.+put_width.Given as goal

abbrev pub decreases-put_width : goal.decreases-put_width
decreases-put_width l = l.width
