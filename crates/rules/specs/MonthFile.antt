-- The whole month file (01 "The month file" and "Refusal numbers"): a reader goes through it record by record.
use Rattle.std.specs.Prelude.{Bool, true, false, cond, List, [], ◌∷◌, ℕ, zero, suc, ◌+◌, leb, length, drop}
use Rattle.rules.specs.Limits.{longest_file}
use Rattle.rules.specs.Record.{Record, heading, party, fixed_hour, reading, price, refixed_hour, end, body_length, known, kind_at, record_at, in_file, checks}
use Rattle.rules.specs.Refusals.{file_fault, unknown_kind, out_of_order, Verdict, accepted, refused, Answer, given, refusal, unless, first}
use Rattle.rules.specs.Setting.{Prices}
use Rattle.rules.specs.Words.{within}
pub use Rattle.rules.specs.Record.{MonthFile}
unfoldable pub use Rattle.rules.specs.Record.{nothing_yet, H, P, with, hours_there, prices_there, due, all_priced, priced_for, after_the_last, alike_after, rises_after}

-- The checks of record number n, which stands at the start of the bytes that are left:
-- "The file is read first, record by record: 2, then 1, 3, 4, 5, 11, 12, 15." 3 of a record that is not due, and
-- of one that stands where a price is needed.
unfoldable pub record_checks : Prices → MonthFile → ℕ → List ℕ → List Verdict
record_checks prices m n bytes =
    unless (known (kind_at bytes)) unknown_kind n
    ∷ unless (leb (1 + body_length (kind_at bytes)) (length bytes)) file_fault n
    ∷ unless (due m (record_at bytes)) out_of_order n
    ∷ unless (priced_for prices m (record_at bytes)) out_of_order n
    ∷ checks (in_file m n) (record_at bytes)

unfoldable pub is_end : Record → Bool
is_end (heading h) = false
is_end (party p) = false
is_end (fixed_hour hour f) = false
is_end (reading r) = false
is_end (price hour p) = false
is_end (refixed_hour hour f) = false
is_end (end count) = true

-- "for .. bytes after it the place is the number of complete records. Bytes after the end are always 1, never 2, and come after its 15."
unfoldable pub closed : MonthFile → ℕ → List ℕ → Answer MonthFile
closed m complete [] = given m
closed m complete (byte ∷ bytes) = refusal file_fault complete

-- a refused record ends the reading
unfoldable pub onward : Verdict → Answer MonthFile → Answer MonthFile
onward accepted rest = rest
onward (refused r place) rest = refusal r place

-- Record number n and all after it. No bytes left: "for a missing end .. the place is the number of complete records".
-- (A definition has to be seen to end, so the first number counts down with each record. It never runs out while bytes are left where it starts at their
-- number, since every record has a byte; and a larger one gives the same: law `bound_is_enough`.)
unfoldable pub read_on : Prices → ℕ → List ℕ → ℕ → MonthFile → Answer MonthFile
read_on prices zero bytes n m = refusal file_fault n
read_on prices (suc more) [] n m = refusal file_fault n
read_on prices (suc more) (kind ∷ body) n m =
    onward (first (record_checks prices m n (kind ∷ body)))
    (cond (is_end (record_at (kind ∷ body))) (closed m (suc n) (drop (body_length kind) body))
    (read_on prices more (drop (body_length kind) body) (suc n) (with m (record_at (kind ∷ body)))))

-- "An empty or too long file is refused before all else, place 0"
unfoldable pub read_month : Prices → List ℕ → Answer MonthFile
read_month prices bytes =
    cond (within 1 longest_file (length bytes)) (read_on prices (length bytes) bytes 0 nothing_yet) (refusal file_fault 0)
