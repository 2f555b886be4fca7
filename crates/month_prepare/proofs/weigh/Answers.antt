-- `month_prepare::weigh` meets its contract: `Weighing` says what the setting and W decide. Assumes nothing.
use native.Mathlib.Omega.{arith}
use Rattle.answer.proofs.Checks.{handed}
use Rattle.rules.specs.Limits.{most_parties}
use Rattle.month_prepare.proofs.Preparing.{so_many, few_parties}
use Rattle.month_prepare.proofs.Weighing.{places_enough, read_again, few_shares, w_refused, startable, w_started}
use borrow.Author.Rules.{rules}
use Rattle.month_prepare.proofs.weigh.Goals as goal

pub slice_bounds-shares-end : goal.slice_bounds-shares-end
slice_bounds-shares-end c = omega (arith, so_many most_parties c.party_places-shares.ensures, few_parties _ _ c.requires)

pub slice_bounds-w_in_range-end : goal.slice_bounds-w_in_range-end
slice_bounds-w_in_range-end c = places_enough _ _ c.requires _ _ (so_many most_parties c.party_places-shares.ensures) (search rules) c.shares.ensures

pub w_in_range-by_w-requires : goal.w_in_range-by_w-requires
w_in_range-by_w-requires c =
    few_shares _ _ c.requires
    (read_again _ _ c.requires _ _ (so_many most_parties c.party_places-shares.ensures) (search rules) c.shares.ensures)

pub returns-in_err-first_of : goal.returns-in_err-first_of
returns-in_err-first_of c =
    w_refused _ _ c.requires
    (read_again _ _ c.requires _ _ (so_many most_parties c.party_places-shares.ensures) (search rules) c.shares.ensures)
    c.args.setting _ c.refixed_or_provisional-by_setting.ensures c.w_in_range-by_w.ensures c.first_of.ensures c.in_err-first_of.was (handed c.from_residual.ensures)

pub slice_bounds-start-end : goal.slice_bounds-start-end
slice_bounds-start-end c = places_enough _ _ c.requires _ _ (so_many most_parties c.party_places-shares.ensures) (search rules) c.shares.ensures

pub start-requires : goal.start-requires
start-requires c =
    startable _ _ c.requires
    (read_again _ _ c.requires _ _ (so_many most_parties c.party_places-shares.ensures) (search rules) c.shares.ensures)
    c.args.setting _ c.refixed_or_provisional-by_setting.ensures c.w_in_range-by_w.ensures c.first_of.ensures c.in_ok-first_of.was

pub returns : goal.returns
returns c =
    w_started _ _ c.requires
    (read_again _ _ c.requires _ _ (so_many most_parties c.party_places-shares.ensures) (search rules) c.shares.ensures)
    c.args.setting _ c.refixed_or_provisional-by_setting.ensures c.w_in_range-by_w.ensures c.first_of.ensures c.in_ok-first_of.was c.start.ensures
