-- "E positive and S zero" (01 "Refusal numbers", 13), at place 0: the last check of the service.
use Rattle.std.specs.Prelude.{◌||◌, ℕ, eqb, leb}
use Rattle.rules.specs.Refusals.{Verdict, unless, nothing_to_follow}

unfoldable pub follow_check : ℕ → ℕ → Verdict
follow_check e s = unless (eqb e 0 || leb 1 s) nothing_to_follow 0
