-- A line of the report for an hour, from the figures that the code is given one by one: law `hour_text_lem` of `report_text` reads it as the rules' line.
use Rattle.std.specs.Prelude.{List, ◌++◌, ℕ, ℤ}
use Rattle.rules.specs.HoursReport.{statuses_text, series_text, parts_text}
use Rattle.rules.specs.Statement.{newline}

unfoldable pub hour_text : ℕ → ℕ → ℕ → ℕ → ℕ → ℕ → ℤ → ℕ → ℤ → List ℕ
hour_text hour fixedStatus appliedStatus fixed applied curve_number all_distributed all_periodised loss =
    statuses_text hour fixedStatus appliedStatus ++ series_text fixed applied curve_number
    ++ parts_text all_distributed all_periodised loss
    ++ newline
