-- The passes of `residual` in their order: what each that accepts leaves known to the later ones, and the promise at each way out.
use mathlib.Core.List.{List, [], ◌∷◌}
use mathlib.Core.Path.{◌≡◌, ◌∙◌}
use Prim.Native.Nat.{ℕ}
use lib.IntN.{ℤ}
use lib.ListN.{length}
use Rattle.answer.specs.Said.{said}
use Rattle.std.specs.Prelude.{Result, Ok, Err, ⊤}
use Rattle.answer.specs.declared.Refused.{Refused}
use Rattle.answer.proofs.Checks.{handed_refuses, pass_accepts, none_left, accepted_by, unwritten}
use Rattle.rules.specs.Refusals.{Verdict, first, in_turn, afterwards}
use Rattle.rules.specs.Services.{silent_check, hour_check, residual_checks, residual_figures}
use Rattle.residual_service.specs.Passes.{residual_shape, ranges_of, SameLengths, Ranged, Judged}
use Rattle.residual_service.specs.Promised.{Promised}
use Rattle.residual_service.proofs.Hours.{in_parts, shape_lengths}

module _ (statuses : List ℕ) (nets : List ℤ) (productions hourlies flexes : List ℕ) where
  abbrev ranges : Verdict
  ranges = ranges_of statuses nets productions hourlies flexes

  abbrev silent : Verdict
  silent = in_turn (length statuses) (silent_check statuses nets productions hourlies flexes)

  abbrev hours : Verdict
  hours = in_turn (length statuses) (hour_check statuses nets productions hourlies flexes)

  -- WHAT IS KNOWN once a pass has accepted, with room for so many hours
  module _ (room : ℕ) {a : Result ⊤ Refused} (says : said a ≡ residual_shape (length statuses) (length nets) (length productions) (length hourlies) (length flexes) room) (shaped : a ≡ Ok tt) where
    pub as_long : SameLengths statuses nets productions hourlies flexes
    as_long = shape_lengths statuses nets productions hourlies flexes room (accepted_by says shaped)

    module _ {b : Result ⊤ Refused} (ranges-say : said b ≡ ranges) (in-range : b ≡ Ok tt) where
      pub all_ranged : Ranged statuses nets productions hourlies flexes
      all_ranged = record { lengths = as_long; ranges = accepted_by ranges-say in-range }

      pub all_judged : {e : Result ⊤ Refused} → said e ≡ hours → e ≡ Ok tt → Judged statuses nets productions hourlies flexes
      all_judged hours-say all-figures = record { ranged = all_ranged; hours = accepted_by hours-say all-figures }

  -- THE WAYS OUT
  module _ (lent : List ℕ) where
    abbrev verdict : Verdict
    verdict = first (residual_checks statuses nets productions hourlies flexes (length lent))

    -- a refusal has written nothing
    refuses : {r : Result ⊤ Refused} {x : Refused} → said r ≡ verdict → r ≡ Err x → Promised statuses nets productions hourlies flexes lent r lent
    refuses is on = record { answer = is; contents = unwritten _ _ on }

    -- 16; 4 of the lengths
    module _ {a : Result ⊤ Refused} (says : said a ≡ residual_shape (length statuses) (length nets) (length productions) (length hourlies) (length flexes) (length lent)) where
      pub shape_refuses : {r : Result ⊤ Refused} {x : Refused} → a ≡ Err x → r ≡ Err x → Promised statuses nets productions hourlies flexes lent r lent
      shape_refuses told on = refuses (handed_refuses (ranges ∷ silent ∷ hours ∷ []) says told on ∙ in_parts statuses nets productions hourlies flexes (length lent)) on

      module _ (shaped : a ≡ Ok tt) where
        past_shape : {v : Verdict} → v ≡ first (ranges ∷ silent ∷ hours ∷ []) → v ≡ verdict
        past_shape h = pass_accepts (ranges ∷ silent ∷ hours ∷ []) says shaped h ∙ in_parts statuses nets productions hourlies flexes (length lent)

        -- 4 of the values
        module _ {b : Result ⊤ Refused} (ranges-say : said b ≡ ranges) where
          pub ranges_refuse : {r : Result ⊤ Refused} {x : Refused} → b ≡ Err x → r ≡ Err x → Promised statuses nets productions hourlies flexes lent r lent
          ranges_refuse told on = refuses (past_shape (handed_refuses (silent ∷ hours ∷ []) ranges-say told on)) on

          module _ (in-range : b ≡ Ok tt) where
            past_ranges : {v : Verdict} → v ≡ first (silent ∷ hours ∷ []) → v ≡ verdict
            past_ranges h = past_shape (pass_accepts (silent ∷ hours ∷ []) ranges-say in-range h)

            -- 4 of the silent hours
            module _ {d : Result ⊤ Refused} (silent-says : said d ≡ silent) where
              pub silent_refuses : {r : Result ⊤ Refused} {x : Refused} → d ≡ Err x → r ≡ Err x → Promised statuses nets productions hourlies flexes lent r lent
              silent_refuses told on = refuses (past_ranges (handed_refuses (hours ∷ []) silent-says told on)) on

              module _ (all-silent : d ≡ Ok tt) where
                past_silent : {v : Verdict} → v ≡ first (hours ∷ []) → v ≡ verdict
                past_silent h = past_ranges (pass_accepts (hours ∷ []) silent-says all-silent h)

                -- 7, 8, 9; and nothing left to refuse
                module _ {e : Result ⊤ Refused} (hours-say : said e ≡ hours) where
                  pub hours_refuse : {r : Result ⊤ Refused} {x : Refused} → e ≡ Err x → r ≡ Err x → Promised statuses nets productions hourlies flexes lent r lent
                  hours_refuse told on = refuses (past_silent (handed_refuses [] hours-say told on)) on

                  pub all_written :
                      e ≡ Ok tt → {out : List ℕ} → out ≡ residual_figures statuses nets productions hourlies flexes
                      → Promised statuses nets productions hourlies flexes lent (Ok tt) out
                  unfolding afterwards
                  all_written all-figures is = record { answer = past_silent (pass_accepts [] hours-say all-figures none_left); contents = is }
