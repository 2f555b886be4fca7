-- Writing one record: a record without fault has the length that its kind says, so the code's test of the part's length is the rules' 16, and what is set
-- at the part's start is the record's bytes with the rest of the part after them.
use mathlib.Core.List.{List, [], ◌∷◌, ◌++◌}
use mathlib.Core.Path.{◌≡◌, refl, sym, ◌∙◌, ap}
use Prim.Native.Nat.{ℕ, ◌+◌, ◌≤◌, ◌<◌}
use native.Mathlib.Nat.{zero-add}
use native.Mathlib.Omega.{arith}
use borrow.Author.Tests.{le-leb, lt-leb}
use lib.Dec.{leb, ltb}
use lib.IntN.{ℤ}
use lib.ListN.{length, drop}
use lib.Seq.{sets, sets-eq}
use lib.Signed.{mag}
use Rattle.std.specs.Prelude.{Result, Ok, Err, ⊤}
use Rattle.answer.specs.Said.{said}
use Rattle.answer.specs.declared.Refused.{Refused}
use Rattle.record.specs.Record.{record_of, Glns, brp_of, kind_of_brp}
use Rattle.record.specs.declared.Brp as CBrp
use Rattle.record.specs.declared.Brp.TheVariants.{Own, Named}
use Rattle.record.specs.declared.Record as C
use Rattle.record.specs.declared.Record.TheVariants.{Heading, Party, FixedHour, Reading, Price, RefixedHour, End}
use Rattle.record_rule.specs.Judged.{fault_of}
use Rattle.record_write.specs.Writing.{kind_of, Writable, room_for, wrote, WrittenUnder}
use Rattle.rules.specs.Accepted.{NoneRefuses}
use Rattle.rules.specs.Limits.{most_hours, most_parties, greatest_price, gln_digits}
use Rattle.rules.specs.Record as RRecord
use Rattle.rules.specs.Record.{Record, body_length, record_bytes, alone, checks, write_verdict, written}
use Rattle.rules.specs.Refusals.{Verdict, accepted, refused, wrong_length, Answer, given, refusal, unless, and_then, first, answer, afterwards}
use Rattle.rules.specs.Words.{within_ℤ}
use Rattle.rules.proofs.Refusals.{first_append}
use Rattle.rules.proofs.RoundTrip as R

-- the code's kind is the rules'
brp_kind_same : (brp : CBrp.Brp) (brp_gln : List ℕ) → RRecord.party_kind_of (brp_of brp brp_gln) ≡ kind_of_brp brp
brp_kind_same Own brp_gln = refl
brp_kind_same Named brp_gln = refl

kind_same : (beside : Glns) (r : C.Record) → RRecord.kind_of (record_of beside r) ≡ kind_of r
kind_same beside (Heading h) = refl
kind_same beside (Party brp share) = brp_kind_same brp beside.brp_gln
kind_same beside (FixedHour hour f) = refl
kind_same beside (Reading r) = refl
kind_same beside (Price hour p) = refl
kind_same beside (RefixedHour hour f) = refl
kind_same beside (End count) = refl

module _ (beside : Glns) (r : C.Record) (e : first (checks alone (record_of beside r)) ≡ accepted) where
  pub size_is : length (record_bytes (record_of beside r)) ≡ 1 + body_length (kind_of r)
  size_is = R.record_length (record_of beside r) e ∙ ap (λ (k : ℕ). 1 + body_length k) (kind_same beside r)

-- what writing asks of the part and of the fields, by kind
module _ {beside : Glns} {r : C.Record} {out : List ℕ} (w : Writable beside r out) where
  pub room_of : (k : ℕ) → kind_of r ≡ k → 1 + body_length k ≤ length out
  room_of k e = let s : 1 + body_length (kind_of r) ≤ length out = omega (arith, size_is beside r w.sound, w.room) in rw e at s

  module _ {brp : CBrp.Brp} {share : ℕ} (e : r ≡ Party brp share) where
    none_refuses : NoneRefuses (checks alone (record_of beside (Party brp share)))
    none_refuses = R.none_refuses (record_of beside (Party brp share)) (rw e at w.sound)

    pub gln_whole : length beside.gln ≡ gln_digits
    gln_whole = R.valid_length beside.gln (R.valid_gln_lem _ none_refuses)

    pub brp_gln_whole : brp ≡ Named → length beside.brp_gln ≡ gln_digits
    brp_gln_whole named = R.valid_length beside.brp_gln (rw named at (R.valid_brp_gln _ none_refuses))

  pub price_small : {hour : ℕ} {p : ℤ} → r ≡ Price hour p → mag p ≤ 4294967295
  price_small {hour} {p} e =
      let sound : first (checks alone (record_of beside (Price hour p))) ≡ accepted = rw e at w.sound in
      let range = R.price_range hour p (R.none_refuses (record_of beside (Price hour p)) sound) in
      let small : mag p ≤ greatest_price = R.price_size p (R.both_true (ltb hour most_hours) (within_ℤ greatest_price p) range).1 in
      omega arith

-- what is set at the start of a part that has room
set_at_start : (bytes out : List ℕ) → length bytes ≤ length out → sets out 0 bytes ≡ bytes ++ drop (length bytes) out
set_at_start bytes out h =
    sets-eq bytes out 0 (rw (zero-add (length bytes)) h) ∙ ap (λ (n : ℕ). bytes ++ drop n out) (zero-add (length bytes))

-- 16, or the bytes
module _ (beside : Glns) (r : C.Record) (out : List ℕ) (e : first (checks alone (record_of beside r)) ≡ accepted) where
  pub too_short : length out < 1 + body_length (kind_of r) → WrittenUnder (record_of beside r) out (room_for (record_of beside r) out) (refusal wrong_length 0) out
  unfolding room_for unless answer afterwards
  too_short h =
      rw (lt-leb (length (record_bytes (record_of beside r))) (length out) (omega (arith, size_is beside r e))) (refl, refl)

  pub has_room : {n : ℕ} → n ≡ 1 + body_length (kind_of r) → n ≤ length out → {after : List ℕ} → after ≡ sets out 0 (record_bytes (record_of beside r))
      → WrittenUnder (record_of beside r) out (room_for (record_of beside r) out) (given n) after
  unfolding room_for unless answer afterwards written
  has_room i h s =
      let room : length (record_bytes (record_of beside r)) ≤ length out = omega (arith, size_is beside r e) in
      rw (le-leb (length (record_bytes (record_of beside r))) (length out) room)
      (ap given (i ∙ sym (size_is beside r e)), s ∙ set_at_start (record_bytes (record_of beside r)) out room)

-- 4, 5, 11, 12, then 16
then_room : (v : Verdict) → and_then v accepted ≡ v
unfolding and_then
then_room accepted = refl
then_room (refused r place) = refl

pub verdict_is : (r : Record) (out : List ℕ) → write_verdict r (length out) ≡ and_then (first (checks alone r)) (room_for r out)
unfolding write_verdict room_for first
verdict_is r out =
    first_append (checks alone r) (unless (leb (length (record_bytes r)) (length out)) wrong_length 0 ∷ [])
    ∙ ap (and_then (first (checks alone r))) (then_room (unless (leb (length (record_bytes r)) (length out)) wrong_length 0))

module _ (beside : Glns) (r : C.Record) (out : List ℕ) (a : Result ⊤ Refused) (fault : said a ≡ fault_of most_hours most_parties beside r 0) where
  checked : said a ≡ first (checks alone (record_of beside r))
  unfolding fault_of
  checked = fault

  pub no_fault : {done : ⊤} → a ≡ Ok done → first (checks alone (record_of beside r)) ≡ accepted
  no_fault e = sym checked ∙ ap said e

  verdict_by : write_verdict (record_of beside r) (length out) ≡ and_then (said a) (room_for (record_of beside r) out)
  verdict_by = verdict_is (record_of beside r) out ∙ ap (λ (v : Verdict). and_then v (room_for (record_of beside r) out)) (sym checked)

  pub verdict_of_room : {done : ⊤} → a ≡ Ok done → {w : Answer ℕ} {after : List ℕ} → WrittenUnder (record_of beside r) out (room_for (record_of beside r) out) w after
      → WrittenUnder (record_of beside r) out (write_verdict (record_of beside r) (length out)) w after
  unfolding and_then
  verdict_of_room e h = rw (verdict_by, e) h

  pub verdict_of_fault : {x : Refused} {w : Result ℕ Refused} → a ≡ Err x → w ≡ Err x
      → WrittenUnder (record_of beside r) out (write_verdict (record_of beside r) (length out)) (wrote w) out
  unfolding and_then answer afterwards
  verdict_of_fault e on = rw (verdict_by, e, on) (refl, refl)
