-- What a setting of the code is in the words of the rules, of the month and of its prices, and the promise of 17.
use Rattle.std.specs.Prelude.{◌≡◌, ℕ, Result, ⊤}
use Rattle.answer.specs.Said.{said}
use Rattle.answer.specs.declared.Refused.{Refused}
use Rattle.setting.specs.declared.Setting.{Setting}
use Rattle.setting.specs.declared.Setting.TheVariants.{Final, Provisional}
use Rattle.setting.specs.declared.Prices.{Prices}
use Rattle.setting.specs.declared.Prices.TheVariants.{Needed, Optional}
use Rattle.rules.specs.Month.{refixed_verdict}
use Rattle.rules.specs.Setting as R

abbrev pub asked : Setting → R.Setting
asked Final = R.final
asked Provisional = R.provisional

abbrev pub prices_asked : Prices → R.Prices
prices_asked Needed = R.needed
prices_asked Optional = R.optional

-- THE PROMISE of `refixed_or_provisional`: its `ensures` cites it, and so does what is proved of every service (`every_service`)
abbrev pub Promised : Setting → ℕ → Result ⊤ Refused → Type 0
Promised setting refixed r = said r ≡ refixed_verdict (asked setting) refixed
