-- `residual::residual_of` meets its contract: four flows within their limits never leave 64 bits. Assumes nothing.
use borrow.Author.Rules.{rules}
use Rattle.residual.proofs.Sizes.{fits1, fits2, fits3, residual_is}
use Rattle.residual.proofs.residual_of.Goals as goal

pub overflow_add-result : goal.overflow_add-result
overflow_add-result c = fits1 c.requires

pub overflow_sub-result : goal.overflow_sub-result
overflow_sub-result c = fits2 c.requires

pub overflow_sub-result-2 : goal.overflow_sub-result-2
overflow_sub-result-2 c = search (rules, fits3 c.requires)

pub returns : goal.returns
returns c = residual_is c.requires
