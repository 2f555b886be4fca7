-- The readers of an accepted file's fields: the month that the file is read as has its records at their places (`Places` of the rules), so what is read at a
-- place is what stands in the month.
use mathlib.Core.List.{List, [], ◌∷◌}
use mathlib.Core.Logic.{◌⊎◌, inl, inr, ⊎_elim}
use mathlib.Core.Path.{◌≡◌, refl, sym, ◌∙◌, ap, subst}
use Prim.Native.Nat.{ℕ, zero, suc, ◌+◌, ◌-◌, ◌*◌, ◌≤◌, ◌<◌, zero-le}
use native.Mathlib.Nat.{eq-zero-or-pos}
use native.Mathlib.Omega.{arith}
use lib.IntN.{ℤ, pos}
use lib.ListN.{length, get_or, drop, length-drop}
use Rattle.record.specs.Record.{glns_in, flows_of, over_of, reading_of, record_as}
use Rattle.record.specs.Record as C
use Rattle.record.specs.declared.Flows as CFlows
use Rattle.record.specs.declared.Reading as CReading
use Rattle.file_step.specs.Walk.{kind_of_the_last}
use Rattle.file_sections.specs.declared.Sections.{Sections}
use Rattle.file_sections.specs.Walk.{sections_of, Accepted}
use Rattle.file_sections.proofs.AcceptedFile.{month_of_lem, read_as, month_whole, sections_are, hours_are, parties_are, refixed_are, prices_are, readings_are}
use Rattle.file_fields.specs.Fields.{FixedAsked, RefixedAsked, PriceAsked, ReadingAsked, ReadingPlaced, PartyAsked, FixedIs, RefixedIs, PriceIs, ReadingIs, ShareIs, GlnIs, BrpGlnIs}
use Rattle.file_fields.proofs.OneRecord.{price_in, share_in, brp_share_in, kind_there, fixed_there, refixed_there, price_there, size_there}
use Rattle.file_fields.proofs.OneRecord.{either_kind, gln_there, named_share, named_brp_lem, own_share, own_brp_lem}
use Rattle.rules.specs.Limits.{longest_file}
use Rattle.rules.specs.Month.{month_of, flows_at, party_at, price_at, reading_at, share_of}
use Rattle.rules.specs.MonthFile.{MonthFile, H, P, read_month}
use Rattle.rules.specs.Setting.{Prices, optional}
use Rattle.rules.specs.Record as R
use Rattle.rules.specs.Refusals.{given}
use Rattle.rules.specs.Words.{at}
use Rattle.rules.proofs.EachKind.{body_lengths, length_of, lengths_are}
use Rattle.rules.proofs.Places.{Standing, Placed, sizes_before, all_sizes, next_size, equal_sizes, what_is_read_is_placed}
use Rattle.rules.proofs.Whole as W

-- PARTIES OF ONE KIND have records of one length, that of the last one's
kind_of_all : (k : ℕ) (q : R.Party) (later : List R.Party) → R.party_kind_of q.brp ≡ k → W.Every (λ (p : R.Party). R.party_kind_of p.brp ≡ k) later → kind_of_the_last (q ∷ later) ≡ k
unfolding kind_of_the_last
kind_of_all k q [] e all = e
kind_of_all k q (x ∷ later) e all = kind_of_all k x later all.0 all.1

of_one_kind : (k : ℕ) (q : R.Party) (later : List R.Party) → R.party_kind_of q.brp ≡ k → W.Every (W.SameKind q) later → W.Every (λ (p : R.Party). R.party_kind_of p.brp ≡ k) later
of_one_kind k q [] e all = tt
of_one_kind k q (x ∷ later) e all = (sym all.0 ∙ e, of_one_kind k q later e all.1)

of_one_size : (k : ℕ) (l : List R.Party) → W.Every (λ (p : R.Party). R.party_kind_of p.brp ≡ k) l → W.Every (λ (p : R.Party). 1 + length_of (R.party p) ≡ 1 + R.body_length k) l
of_one_size k [] all = tt
of_one_size k (p ∷ l) all = (ap (λ (n : ℕ). 1 + n) (sym (lengths_are (R.party p)) ∙ ap R.body_length all.0), of_one_size k l all.1)

one_size : (l : List R.Party) → W.OneKind l → W.Every (λ (p : R.Party). 1 + length_of (R.party p) ≡ 1 + R.body_length (kind_of_the_last l)) l
one_size [] all = tt
one_size (q ∷ later) all =
    let k : ℕ = R.party_kind_of q.brp in
    let alike = of_one_kind k q later refl all in
    subst
    (λ (n : ℕ). W.Every (λ (p : R.Party). 1 + length_of (R.party p) ≡ 1 + R.body_length n) (q ∷ later))
    (sym (kind_of_all k q later refl alike))
    (of_one_size k (q ∷ later) (refl, alike))

-- Where the records of an accepted file stand, by its sections.
module _ (file : List ℕ) (s : Sections) (ok : Accepted file s) where
  abbrev m : MonthFile
  m = month_of file

  abbrev party_size : ℕ
  party_size = 1 + R.body_length (kind_of_the_last m.parties)

  abbrev fixed_at : ℕ
  fixed_at = 10 + party_size * P m

  abbrev prices_at : ℕ
  prices_at = fixed_at + 36 * H m + 36 * length m.refixed

  starts :
      (s.parties_at ≡ 10) × (s.fixed_at ≡ fixed_at) × (s.refixed_at ≡ fixed_at + 36 * H m) × (s.prices_at ≡ prices_at)
      × (s.readings_at ≡ prices_at + 7 * length m.prices)
      × (s.party_size ≡ party_size)
  unfolding sections_of H P
  starts =
      let at : (f : Sections → ℕ) → f s ≡ f (sections_of m) = λ f. ap f (sections_are file s ok) in
      (at (λ x. x.parties_at), at (λ x. x.fixed_at), at (λ x. x.refixed_at), at (λ x. x.prices_at), at (λ x. x.readings_at), at (λ x. x.party_size))

  placed : Placed file m (what_is_read_is_placed optional file (read_as optional file s ok)).0
  placed = (what_is_read_is_placed optional file (read_as optional file s ok)).1

  whole : W.Whole m
  whole = month_whole file s ok

  -- the parties' records have the same length, so each stands so many times as many bytes behind the first
  parties_before : (i : ℕ) → i ≤ P m → sizes_before R.party m.parties i ≡ party_size * i
  parties_before i b = equal_sizes R.party party_size m.parties (one_size m.parties whole.one_kind) i (omega (arith, whole.all_parties))

  all_parties_before : all_sizes R.party m.parties ≡ party_size * P m
  all_parties_before = rw whole.all_parties (parties_before (P m) (omega arith))

  moved : {offset offset' : ℕ} {r : R.Record} → offset ≡ offset' → Standing file offset r → Standing file offset' r
  moved {r = r} same st = subst (λ (o : ℕ). Standing file o r) same st

  fixed_stands : (t : ℕ) → t < s.heading.hours → Standing file (s.fixed_at + 36 * t) (R.fixed_hour t (flows_at m.fixed t))
  unfolding flows_at
  fixed_stands t b =
      moved (omega (arith, starts.1, all_parties_before))
      (placed.fixed t (omega (arith, hours_are file s ok, whole.all_fixed)) (record { status = 0; net = pos 0; production = 0; hourly = 0; flex = 0 }))

  refixed_stands : (t : ℕ) → t < s.refixed → Standing file (s.refixed_at + 36 * t) (R.refixed_hour t (flows_at m.refixed t))
  unfolding flows_at
  refixed_stands t b =
      moved (omega (arith, starts.2, all_parties_before))
      (placed.refixed t (omega (arith, refixed_are file s ok)) (record { status = 0; net = pos 0; production = 0; hourly = 0; flex = 0 }))

  price_stands : (t : ℕ) → t < s.prices → Standing file (s.prices_at + 7 * t) (R.price t (price_at m t))
  unfolding price_at
  price_stands t b = moved (omega (arith, starts.3, all_parties_before)) (placed.prices t (omega (arith, prices_are file s ok)) (pos 0))

  pub reading_stands : (j : ℕ) → j < s.readings → Standing file (s.readings_at + sizes_before R.reading m.readings j) (R.reading (reading_at m j))
  unfolding reading_at
  reading_stands j b =
      moved (omega (arith, starts.4, all_parties_before))
      (placed.readings j (omega (arith, readings_are file s ok)) (record { party = 0; a = 0; b = 0; e = 0; over = R.this_month }))

  party_stands : (i : ℕ) → i < s.heading.parties → Standing file (s.parties_at + s.party_size * i) (R.party (party_at m i))
  unfolding party_at
  party_stands i b =
      let sizes : s.party_size * i ≡ party_size * i = ap (λ (n : ℕ). n * i) starts.5 in
      moved (omega (arith, starts.0, sizes, parties_before i (omega (arith, parties_are file s ok))))
      (placed.parties i (omega (arith, parties_are file s ok, whole.all_parties)) (record { gln = []; brp = R.own_brp; share = 0 }))

  -- how long the party's record is
  party_fits : (i : ℕ) → i < s.heading.parties → s.parties_at + s.party_size * i + s.party_size ≤ length file
  unfolding party_at
  party_fits i b =
      let sizes = one_size m.parties whole.one_kind in
      let there : i < length m.parties = omega (arith, parties_are file s ok, whole.all_parties) in
      let its_size = W.every_at (λ (p : R.Party). 1 + length_of (R.party p) ≡ party_size) m.parties sizes i (record { gln = []; brp = R.own_brp; share = 0 }) there in
      omega (arith, (party_stands i b).fits, its_size, starts.5)

-- bytes enough for a record that there is room for
enough : (file : List ℕ) (offset size : ℕ) {part : List ℕ} → part ≡ drop offset file → offset + size ≤ length file → size ≤ length part
enough file offset size e b = omega (arith, ap length e ∙ length-drop offset file)

-- Of a file with its sections: room for the record at each place, and what is read there (`OneRecord`).
module _ (file : List ℕ) (s : Sections) where
  -- what is said of the file's month is said of any month that it is read as
  said_of : (Says : MonthFile → Type 0) → Says (month_of file) → (prices : Prices) (m : MonthFile) → read_month prices file ≡ given m → Says m
  said_of Says it prices m e = subst Says (month_of_lem prices file e) it

  module _ (t : ℕ) (a : FixedAsked file s t) where
    fixed_here : Standing file (s.fixed_at + 36 * t) (R.fixed_hour t (flows_at (month_of file).fixed t))
    fixed_here = fixed_stands file s a.accepted t a.hour

    pub fixed_room : s.fixed_at + 36 * t + 36 ≤ length file
    fixed_room = omega (arith, fixed_here.fits)

    pub fixed_enough : {part : List ℕ} → part ≡ drop (s.fixed_at + 36 * t) file → 36 ≤ length part
    fixed_enough p = enough file (s.fixed_at + 36 * t) 36 p fixed_room

    pub fixed_is : {f : CFlows.Flows} {part : List ℕ} → flows_of f ≡ C.flows_at part → part ≡ drop (s.fixed_at + 36 * t) file → FixedIs file t f
    fixed_is {f} e p = record { is = said_of (λ m. flows_of f ≡ flows_at m.fixed t) (e ∙ ap C.flows_at p ∙ fixed_there fixed_here) }

  module _ (t : ℕ) (a : RefixedAsked file s t) where
    refixed_here : Standing file (s.refixed_at + 36 * t) (R.refixed_hour t (flows_at (month_of file).refixed t))
    refixed_here = refixed_stands file s a.accepted t a.hour

    pub refixed_room : s.refixed_at + 36 * t + 36 ≤ length file
    refixed_room = omega (arith, refixed_here.fits)

    pub refixed_enough : {part : List ℕ} → part ≡ drop (s.refixed_at + 36 * t) file → 36 ≤ length part
    refixed_enough p = enough file (s.refixed_at + 36 * t) 36 p refixed_room

    pub refixed_is : {f : CFlows.Flows} {part : List ℕ} → flows_of f ≡ C.flows_at part → part ≡ drop (s.refixed_at + 36 * t) file → RefixedIs file t f
    refixed_is {f} e p = record { is = said_of (λ m. flows_of f ≡ flows_at m.refixed t) (e ∙ ap C.flows_at p ∙ refixed_there refixed_here) }

  module _ (t : ℕ) (a : PriceAsked file s t) where
    price_here : Standing file (s.prices_at + 7 * t) (R.price t (price_at (month_of file) t))
    price_here = price_stands file s a.accepted t a.hour

    pub price_room : s.prices_at + 7 * t + 7 ≤ length file
    price_room = omega (arith, price_here.fits)

    pub price_enough : {part : List ℕ} → part ≡ drop (s.prices_at + 7 * t) file → 7 ≤ length part
    price_enough p = enough file (s.prices_at + 7 * t) 7 p price_room

    pub price_is : {z : ℤ} {part : List ℕ} → z ≡ price_in part → part ≡ drop (s.prices_at + 7 * t) file → PriceIs file t z
    price_is {z} e p = record { is = said_of (λ m. z ≡ price_at m t) (e ∙ ap price_in p ∙ price_there price_here) }

  module _ (j place : ℕ) (p : ReadingPlaced file s j place) where
    reading_here : Standing file place (R.reading (reading_at (month_of file) j))
    reading_here = subst (λ (o : ℕ). Standing file o (R.reading (reading_at (month_of file) j))) (sym p.is) (reading_stands file s p.accepted j p.number)

    its_kind : (over : R.Over) → R.kind_at (drop place file) ≡ R.reading_kind_of over
        → (R.kind_at (drop place file) ≡ R.reading_kind) ⊎ (R.kind_at (drop place file) ≡ R.long_reading_kind)
    its_kind R.this_month e = inl e
    its_kind (R.many_months _ _) e = inr e

    -- what stands at its place is the reading, whole
    pub reading_asked : ReadingAsked file place
    reading_asked =
        let kind = kind_there reading_here in
        let size : R.body_length (R.kind_at (drop place file)) ≡ length_of (R.reading (reading_at (month_of file) j)) = ap R.body_length kind ∙ lengths_are (R.reading (reading_at (month_of file) j)) in
        record {
          stands = record { known_kind = reading_here.known_kind; fits = omega (arith, reading_here.fits, length-drop place file) };
          kind = its_kind (reading_at (month_of file) j).over kind;
        }

    pub reading_read : {x : CReading.Reading} → ReadingIs file place x → reading_of x ≡ reading_at (month_of file) j
    reading_read {x} r = let it : R.reading (reading_of x) ≡ R.reading (reading_at (month_of file) j) = r.is ∙ reading_here.is in cc

    -- and behind it stands the next
    module _ {x : CReading.Reading} (r : ReadingIs file place x) {size : ℕ} (s-is : size ≡ 1 + R.body_length (R.reading_kind_of (over_of x.over))) where
      its_size : size ≡ 1 + length_of (R.reading (reading_at (month_of file) j))
      its_size =
          s-is ∙ ap (λ (y : R.Reading). 1 + R.body_length (R.reading_kind_of y.over)) (reading_read r)
          ∙ ap (λ (n : ℕ). 1 + n) (lengths_are (R.reading (reading_at (month_of file) j)))

      pub next_place : place + size ≡ s.readings_at + sizes_before R.reading (month_of file).readings (suc j)
      unfolding reading_at
      next_place =
          omega (
            arith,
            its_size,
            p.is,
            next_size R.reading (month_of file).readings j (record { party = 0; a = 0; b = 0; e = 0; over = R.this_month }) (omega (arith, p.number, readings_are file s p.accepted)),
          )

      pub next_within : place + size ≤ length file
      next_within = omega (arith, its_size, reading_here.fits)

  module _ (i : ℕ) (a : PartyAsked file s i) where
    abbrev party_at_lem : ℕ
    party_at_lem = s.parties_at + s.party_size * i

    party_here : Standing file party_at_lem (R.party (party_at (month_of file) i))
    party_here = party_stands file s a.accepted i a.party

    pub party_room : party_at_lem + s.party_size ≤ length file
    party_room = party_fits file s a.accepted i a.party

    module _ {part : List ℕ} (p : part ≡ drop party_at_lem file) where
      first_is : get_or part 0 0 ≡ R.kind_at (drop party_at_lem file)
      unfolding R.kind_at at
      first_is = ap (λ (l : List ℕ). get_or l 0 0) p

      enough_for : (k : ℕ) → R.kind_at (drop party_at_lem file) ≡ k → 1 + R.body_length k ≤ length part
      enough_for k e = let fits = rw e at (size_there party_here) in omega (arith, ap length p)

      pub party_byte : 1 ≤ length part
      party_byte = omega (arith, size_there party_here, ap length p)

      pub gln_is : {gln : List ℕ} → gln ≡ (glns_in part).gln → GlnIs file i gln
      gln_is {gln} e = record { is = said_of (λ m. gln ≡ (party_at m i).gln) (e ∙ ap (λ (l : List ℕ). (glns_in l).gln) p ∙ gln_there party_here) }

      -- a party that names its BRP, by the first byte of its record
      module _ (first : get_or part 0 0 ≡ R.brp_party_kind) where
        named : R.kind_at (drop party_at_lem file) ≡ R.brp_party_kind
        named = sym first_is ∙ first

        pub named_enough : 35 ≤ length part
        unfolding body_lengths
        named_enough = enough_for R.brp_party_kind named

        pub named_share_is : {n : ℕ} → n ≡ brp_share_in part → ShareIs file i n
        unfolding share_of
        named_share_is {n} e = record { is = said_of (λ m. n ≡ share_of m i) (e ∙ ap brp_share_in p ∙ named_share party_here named) }

        pub named_brp_is : {gln : List ℕ} → gln ≡ (glns_in part).brp_gln → BrpGlnIs file i gln
        named_brp_is {gln} e =
            record { is = said_of (λ m. gln ≡ R.brp_gln (party_at m i)) (e ∙ ap (λ (l : List ℕ). (glns_in l).brp_gln) p ∙ named_brp_lem party_here named) }

      -- and one that is its own
      module _ (first : get_or part 0 0 ≡ R.brp_party_kind → ⊥) where
        own : R.kind_at (drop party_at_lem file) ≡ R.party_kind
        own = ⊎_elim (λ (k : R.kind_at (drop party_at_lem file) ≡ R.party_kind). k) (λ k. absurd (first (first_is ∙ k))) (either_kind party_here)

        pub own_enough : 22 ≤ length part
        unfolding body_lengths
        own_enough = enough_for R.party_kind own

        pub own_share_is : {n : ℕ} → n ≡ share_in part → ShareIs file i n
        unfolding share_of
        own_share_is {n} e = record { is = said_of (λ m. n ≡ share_of m i) (e ∙ ap share_in p ∙ own_share party_here own) }

        pub own_brp_is : {gln : List ℕ} → gln ≡ (glns_in part).gln → BrpGlnIs file i gln
        own_brp_is {gln} e = record { is = said_of (λ m. gln ≡ R.brp_gln (party_at m i)) (e ∙ ap (λ (l : List ℕ). (glns_in l).gln) p ∙ own_brp_lem party_here own) }

-- FEWER READINGS THAN BYTES: each has its kind byte at least
one_byte_each : (l : List R.Reading) (k : ℕ) → k ≤ length l → k ≤ sizes_before R.reading l k
unfolding sizes_before
one_byte_each [] k b = omega arith
one_byte_each (x ∷ l) zero b = omega arith
one_byte_each (x ∷ l) (suc k) b = omega (arith, one_byte_each l k (omega arith))

pub short_file : (file : List ℕ) (s : Sections) → Accepted file s → length file ≤ longest_file
short_file file s ok = (W.within_is 1 longest_file (length file) (W.of_the_right_length optional file (read_as optional file s ok)).0).1

pub few_readings : (file : List ℕ) (s : Sections) → Accepted file s → s.readings ≤ longest_file
few_readings file s ok =
    ⊎_elim (λ (z : s.readings ≡ 0). rw z zero-le)
    (λ (some : 0 < s.readings).
    let last : ℕ = s.readings - 1 in
    let stands = reading_stands file s ok last (omega arith) in
    omega (arith, stands.fits, one_byte_each (month_of file).readings last (omega (arith, readings_are file s ok)), short_file file s ok))
    (eq-zero-or-pos s.readings)

-- a byte of the file is there
pub inside : (file : List ℕ) (place : ℕ) → ReadingAsked file place → place < length file
inside file place a = omega (arith, a.stands.fits, length-drop place file)

-- THE READING AT A BYTE, by its kind
module _ (file : List ℕ) (place : ℕ) (a : ReadingAsked file place) {part : List ℕ} (p : part ≡ drop place file) where
  kind_is : get_or part 0 0 ≡ R.kind_at (drop place file)
  unfolding R.kind_at at
  kind_is = ap (λ (l : List ℕ). get_or l 0 0) p

  long_fits : (k : ℕ) → R.kind_at (drop place file) ≡ k → 1 + R.body_length k ≤ length part
  long_fits k e = let fits = rw e at a.stands.fits in omega (arith, ap length p)

  as_read : (k : ℕ) → R.kind_at (drop place file) ≡ k → {x : CReading.Reading} → R.reading (reading_of x) ≡ record_as k part → ReadingIs file place x
  unfolding record_as R.record_at
  as_read k e {x} r =
      record { is = r ∙ ap (record_as k) p ∙ ap (λ (n : ℕ). R.record_from n (R.cut_into (R.field_widths n) (drop 1 (drop place file)))) (sym e) }

  pub some_byte : 1 ≤ length part
  some_byte = omega (arith, a.stands.fits, ap length p)

  module _ (e : get_or part 0 0 ≡ R.long_reading_kind) where
    pub long_enough : 26 ≤ length part
    unfolding body_lengths
    long_enough = long_fits R.long_reading_kind (sym kind_is ∙ e)

    pub long_is : {x : CReading.Reading} → R.reading (reading_of x) ≡ record_as R.long_reading_kind part → ReadingIs file place x
    long_is = as_read R.long_reading_kind (sym kind_is ∙ e)

  module _ (e : get_or part 0 0 ≡ R.long_reading_kind → ⊥) where
    other_kind : R.kind_at (drop place file) ≡ R.reading_kind
    other_kind = ⊎_elim (λ (k : R.kind_at (drop place file) ≡ R.reading_kind). k) (λ (k : R.kind_at (drop place file) ≡ R.long_reading_kind). absurd (e (kind_is ∙ k))) a.kind

    pub short_enough : 10 ≤ length part
    unfolding body_lengths
    short_enough = long_fits R.reading_kind other_kind

    pub short_is : {x : CReading.Reading} → R.reading (reading_of x) ≡ record_as R.reading_kind part → ReadingIs file place x
    short_is = as_read R.reading_kind other_kind
