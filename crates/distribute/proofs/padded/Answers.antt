-- `distribute::padded` meets its contract: the first places of an array of nothing are copied from the shares. Assumes nothing.
use mathlib.Core.Path.{sym, ◌∙◌}
use lib.ListN.{length}
use lib.Seq.{take_all}
use native.Mathlib.Nat.{le_refl}
use Rattle.apportion.proofs.Arrays.{part_filled, first_of}
use Rattle.rules.specs.Words.{at}
use Rattle.distribute.proofs.padded.Goals as goal

pub returns : goal.returns
unfolding at
returns c =
    let shares = c.args.shares.now in
    part_filled 0 _ _ c.requires
    (c.copy_from_slice.ensures.after ∙ sym (take_all (length shares) shares (le_refl _)) ∙ first_of 0 (length shares) shares (le_refl _))
