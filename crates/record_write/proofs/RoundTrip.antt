-- Demand 2, of the two functions together: what `write` wrote, `read_alone` reads as the same record; what `read_alone` read, `write` writes as the same
-- bytes. Each follows from the two promises and the round trips of the rules. What is asked besides is what the machine's types give: an end count of 32
-- bits, weights of 64, bytes below 256.
use mathlib.Core.List.{List, ◌++◌}
use mathlib.Core.Path.{◌≡◌, sym, ◌∙◌, ap}
use Prim.Native.Nat.{ℕ, ◌+◌, ◌≤◌}
use borrow.Author.Tests.{le-leb}
use lib.ListN.{length, take, drop}
use lib.Seq.{length-take-le}
use Rattle.std.specs.Prelude.{Result, Ok}
use Rattle.answer.specs.declared.Refused.{Refused}
use Rattle.record.specs.Record.{record_of, Glns, glns_in}
use Rattle.record.specs.declared.Record as Code
use Rattle.record_rule.specs.Judged.{told}
use Rattle.record_rule.specs.Promised.{ReadAlonePromised}
use Rattle.record_write.specs.Writing.{room_for, wrote, Promised}
use Rattle.rules.specs.Record.{body_length, kind_at, record_bytes, alone, checks, read_alone, write_verdict, written}
use Rattle.rules.specs.Refusals.{Verdict, accepted, given, unless, and_then, first, answer, afterwards}
use Rattle.rules.proofs.Refusals.{both_accept}
use Rattle.rules.proofs.RoundTrip as R
use Rattle.record_write.proofs.WriteOne.{verdict_is}

module _ (beside : Glns) (r : Code.Record) (out after : List ℕ) (w : Result ℕ Refused)
    (wrote_it : Promised r beside.gln beside.brp_gln out w after) where
  -- READ OF WRITTEN IS THE SAME RECORD
  pub read_what_was_written : (n : ℕ) → w ≡ Ok n → R.Held (record_of beside r)
      → (found : Result Code.Record Refused) → ReadAlonePromised after found → told (glns_in after) found ≡ given (record_of beside r)
  unfolding afterwards written
  read_what_was_written n e held found promise =
      let verdict : write_verdict (record_of beside r) (length out) ≡ accepted = (R.given_by _ _ n (sym wrote_it.0 ∙ ap wrote e)).0 in
      let checked : first (checks alone (record_of beside r)) ≡ accepted = (both_accept _ _ (sym (verdict_is (record_of beside r) out) ∙ verdict)).0 in
      let bytes : after ≡ record_bytes (record_of beside r) ++ drop (length (record_bytes (record_of beside r))) out =
      wrote_it.1 ∙ ap (λ (v : Verdict). afterwards v (written (record_of beside r) out) out) verdict in
      promise ∙ ap read_alone bytes ∙ R.read_of_written (record_of beside r) (drop (length (record_bytes (record_of beside r))) out) held checked

  -- WRITTEN OF READ IS THE SAME BYTES: into a part with room for them
  pub written_what_was_read : (s : List ℕ) → R.Bytes s → record_of beside r ≡ record_of (glns_in s) r → ReadAlonePromised s (Ok r) → 1 + body_length (kind_at s) ≤ length out
      → (wrote w ≡ given (1 + body_length (kind_at s))) × (after ≡ take (1 + body_length (kind_at s)) s ++ drop (1 + body_length (kind_at s)) out)
  unfolding room_for unless and_then answer afterwards written
  written_what_was_read s small same promise room =
      let reads : read_alone s ≡ given (record_of beside r) = sym promise ∙ ap given (sym same) in
      let says : R.Read s (record_of beside r) = R.what_read_says s (record_of beside r) reads in
      let bytes : record_bytes (record_of beside r) ≡ take (1 + body_length (kind_at s)) s = R.written_of_read s (record_of beside r) small reads in
      let size : length (record_bytes (record_of beside r)) ≡ 1 + body_length (kind_at s) = ap length bytes ∙ length-take-le (1 + body_length (kind_at s)) s says.fits in
      let verdict : write_verdict (record_of beside r) (length out) ≡ accepted =
      verdict_is (record_of beside r) out ∙ rw (says.judged, size, le-leb (1 + body_length (kind_at s)) (length out) room) in
      (wrote_it.0 ∙ rw (verdict, size), wrote_it.1 ∙ rw (verdict, size, bytes))
