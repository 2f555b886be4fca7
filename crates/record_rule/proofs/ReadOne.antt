-- Reading one record alone: each test of the code is the next check of the rules, and past the tests of kind and length the rule of the fields decides.
use mathlib.Core.List.{List}
use mathlib.Core.Path.{◌≡◌, sym, ◌∙◌, ap}
use Prim.Native.Nat.{ℕ, ◌+◌, ◌≤◌, ◌<◌}
use borrow.Author.Tests.{le-leb, lt-leb}
use lib.ListN.{length}
use Rattle.std.specs.Prelude.{Result, Ok, Err, ⊤}
use Rattle.answer.specs.Said.{said}
use Rattle.answer.specs.declared.Refused.{Refused}
use Rattle.record.specs.Record.{Whole, record_of, glns_in}
use Rattle.record.specs.declared.Record as C
use Rattle.record_rule.specs.Judged.{fault_of, told}
use Rattle.rules.specs.Record.{Record, body_length, known, kind_at, record_at, alone, checks, read_alone}
use Rattle.rules.specs.Refusals.{Verdict, given, refusal, file_fault, unknown_kind, unless, and_then, first, answer}
use Rattle.rules.specs.Limits.{most_hours, most_parties}

module _ (s : List ℕ) where
  pub nothing_there : length s < 1 → refusal file_fault 0 ≡ read_alone s
  unfolding read_alone first and_then unless answer
  nothing_there h = rw (lt-leb 1 (length s) h)

  module _ (some : 1 ≤ length s) where
    pub no_kind : body_length (kind_at s) < 1 → refusal unknown_kind 0 ≡ read_alone s
    unfolding read_alone first and_then unless answer known
    no_kind h = rw (le-leb 1 (length s) some, lt-leb 1 (body_length (kind_at s)) h)

    module _ (kind : 1 ≤ body_length (kind_at s)) where
      pub cut_short : length s < 1 + body_length (kind_at s) → refusal file_fault 0 ≡ read_alone s
      unfolding read_alone first and_then unless answer known
      cut_short h =
          rw (le-leb 1 (length s) some, le-leb 1 (body_length (kind_at s)) kind, lt-leb (1 + body_length (kind_at s)) (length s) h)

      module _ (fits : 1 + body_length (kind_at s) ≤ length s) where
        pub stands_whole : Whole s
        unfolding known
        stands_whole = record { known_kind = le-leb 1 (body_length (kind_at s)) kind; fits = fits }

        judged : answer (first (checks alone (record_at s))) (record_at s) ≡ read_alone s
        unfolding read_alone first and_then unless known
        judged =
            rw (le-leb 1 (length s) some, le-leb 1 (body_length (kind_at s)) kind, le-leb (1 + body_length (kind_at s)) (length s) fits)

        -- what the rule of the fields says of the decoded record is the answer
        module _ (r : C.Record) (decoded : record_of (glns_in s) r ≡ record_at s) (a : Result ⊤ Refused) (fault : said a ≡ fault_of most_hours most_parties (glns_in s) r 0) where
          told_by : answer (said a) (record_of (glns_in s) r) ≡ read_alone s
          unfolding fault_of
          told_by =
              ap (λ (v : Verdict). answer v (record_of (glns_in s) r)) fault
              ∙ ap (λ (x : Record). answer (first (checks alone x)) x) decoded
              ∙ judged

          pub whole_record : {done : ⊤} → a ≡ Ok done → given (record_of (glns_in s) r) ≡ read_alone s
          unfolding answer
          whole_record e = ap (λ (x : Result ⊤ Refused). answer (said x) (record_of (glns_in s) r)) (sym e) ∙ told_by

          pub faulty_record : {x : Refused} {b : Result C.Record Refused} → a ≡ Err x → b ≡ Err x → told (glns_in s) b ≡ read_alone s
          unfolding answer
          faulty_record e on = ap (told (glns_in s)) on ∙ ap (λ (y : Result ⊤ Refused). answer (said y) (record_of (glns_in s) r)) (sym e) ∙ told_by
