-- The hours of a run one after the other: what is known before them, and how far the lent outputs are filled.
use Rattle.std.specs.Prelude.{List, ◌≡◌, ℕ, ◌+◌, ◌-◌, ◌*◌, ◌≤◌, ◌<◌, ℤ, pos, set}
use Rattle.distribute.specs.Written.{FilledOn}
use Rattle.file_sections.specs.declared.Sections.{Sections}
use Rattle.hour_settled.specs.declared.Quantities.{Quantities}
use Rattle.month_walk.specs.Hours.{all_limited}
use Rattle.month_walk.specs.Walking.{MonthKnown}
use Rattle.month_run.specs.InRun.{distributed_in_run, periodised_in_run, loss_in_run}
use Rattle.rules.specs.Limits.{most_parties}
use Rattle.rules.specs.Month.{month_of}
use Rattle.rules.specs.MonthFile.{MonthFile, H, P}
use Rattle.rules.specs.Refusals.{accepted}
use Rattle.rules.specs.Run.{difference_in_run}
use Rattle.rules.specs.Words.{figures}
use Rattle.rules.proofs.Loops.{Filling}

-- what the run is walked with: no hour of the month is refused with 14
pub record RunKnown (file : List ℕ) (s : Sections) (applied curveNumbers beginnings : List ℕ) : Type 0 where
  pub month : MonthKnown file s applied curveNumbers beginnings
  pub none_refuses : all_limited (month_of file) ≡ accepted

-- a run of as many hours as losses are asked for lies in the month, and a place is lent for each figure
pub record RunLent (m : MonthFile) (start distributed periodised differences losses : ℕ) : Type 0 where
  pub some : 1 ≤ losses
  pub inside : start + losses ≤ H m
  pub distributed_size : distributed ≡ losses * P m
  pub periodised_size : periodised ≡ losses * P m
  pub differences_size : differences ≡ losses * P m

-- THE HOURS OF THE RUN BEFORE HOUR t ARE WRITTEN: none of them before the run begins
pub record Running (m : MonthFile) (start hours t : ℕ) (d : List ℤ) (p : List ℕ) (x l : List ℤ) : Type 0 where
  pub distributed : Filling (distributed_in_run m start) (hours * P m) d ((t - start) * P m)
  pub periodised : Filling (periodised_in_run m start) (hours * P m) p ((t - start) * P m)
  pub differences : Filling (difference_in_run m start) (hours * P m) x ((t - start) * P m)
  pub losses : Filling (loss_in_run m start) hours l (t - start)

-- one hour's figures can be written
pub record HourLent (n j distributed periodised differences losses : ℕ) : Type 0 where
  pub few : n ≤ most_parties
  pub distributed_fits_holds : j * n + n ≤ distributed
  pub periodised_fits : j * n + n ≤ periodised
  pub differences_fits : j * n + n ≤ differences
  pub losses_fit : j < losses

-- and are
pub record HourWritten (quantities : Quantities) (n j : ℕ) (d₀ : List ℤ) (p₀ : List ℕ) (x₀ l₀ d : List ℤ) (p : List ℕ) (x l : List ℤ) : Type 0 where
  pub distributed : FilledOn (pos 0) quantities.distributed_wh n (j * n) d₀ d
  pub periodised : FilledOn 0 quantities.periodised_wh n (j * n) p₀ p
  pub differences : FilledOn (pos 0) quantities.differences_wh n (j * n) x₀ x
  pub losses : l ≡ set l₀ j quantities.loss_wh

-- THE RUN IS WRITTEN
pub record RunIs (m : MonthFile) (start hours : ℕ) (d : List ℤ) (p : List ℕ) (x l : List ℤ) : Type 0 where
  pub distributed : d ≡ figures (hours * P m) (distributed_in_run m start)
  pub periodised : p ≡ figures (hours * P m) (periodised_in_run m start)
  pub differences : x ≡ figures (hours * P m) (difference_in_run m start)
  pub losses : l ≡ figures hours (loss_in_run m start)
