-- `distribute::Carries::step` meets its contract: `Step` says why, from what the parts give. Assumes nothing.
use Rattle.distribute.proofs.Step as S
use borrow.Author.Rules.{rules}
use native.Mathlib.Omega.{arith}
use Rattle.distribute.proofs.Carries.step.Goals as goal

pub grown_by-grown-requires : goal.grown_by-grown-requires
grown_by-grown-requires c = (search rules, S.grown_fits c.requires)

pub overflow_add-left : goal.overflow_add-left
overflow_add-left c = omega (arith, S.left_few c.requires c.grown_by-grown.ensures c.divide-parts.ensures, c.requires.sum_fits)

pub total-requires : goal.total-requires
total-requires c =
    let few = S.quotients_few c.requires c.grown_by-grown.ensures c.divide-parts.ensures in
    let left = S.left_few c.requires c.grown_by-grown.ensures c.divide-parts.ensures in
    (search rules, omega (arith, few, left, c.requires.sum_fits))

pub overflow_sub-left : goal.overflow_sub-left
overflow_sub-left c = omega (arith, c.total.ensures, S.quotients_few c.requires c.grown_by-grown.ensures c.divide-parts.ensures)

pub figures_of-figures-requires : goal.figures_of-figures-requires
figures_of-figures-requires c =
    let left = S.left_is c.requires c.grown_by-grown.ensures c.divide-parts.ensures c.total.ensures in
    (search rules, S.parts_small c.requires c.grown_by-grown.ensures c.divide-parts.ensures left c.one_each-extra.ensures)

pub overflow_add-result : goal.overflow_add-result
overflow_add-result c = omega (arith, c.requires.sum_fits)

pub returns : goal.returns
returns c =
    let left = S.left_is c.requires c.grown_by-grown.ensures c.divide-parts.ensures c.total.ensures in
    S.next c.requires c.grown_by-grown.ensures c.divide-parts.ensures left c.one_each-extra.ensures c.figures_of-figures.ensures
