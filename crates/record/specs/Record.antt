-- What the code's records are in the words of the rules (01 "The month file").
use Rattle.std.specs.Prelude.{true, List, [], ◌≡◌, ℕ, ◌+◌, ◌≤◌, length, drop}
use Rattle.gln.specs.Gln.{gln_part}
use Rattle.record.specs.declared.Heading as CHeading
use Rattle.record.specs.declared.Flows as CFlows
use Rattle.record.specs.declared.Brp as CBrp
use Rattle.record.specs.declared.Brp.TheVariants.{Own, Named}
use Rattle.record.specs.declared.Over as COver
use Rattle.record.specs.declared.Over.TheVariants.{ThisMonth, ManyMonths}
use Rattle.record.specs.declared.Reading as CReading
use Rattle.record.specs.declared.Record.{Record}
use Rattle.record.specs.declared.Record.TheVariants.{Heading, Party, FixedHour, Reading, Price, RefixedHour, End}
use Rattle.rules.specs.Flows as RFlows
use Rattle.rules.specs.Record as RRecord

-- the fields of a heading, of an hour's flows and of a reading
abbrev pub heading_of : CHeading.Heading → RRecord.Heading
heading_of h =
    record { area = h.area; year = h.year; month = h.month; hours = h.hours; parties = h.parties; carrier = h.carrier }

abbrev pub flows_of : CFlows.Flows → RFlows.Flows
flows_of f =
    record { status = f.status; net = f.net_wh; production = f.production_wh; hourly = f.hourly_wh; flex = f.flex_wh }

-- the bytes of a party's GLN and of its BRP's, which stand beside the code's record
pub record Glns : Type 0 where
  pub gln : List ℕ
  pub brp_gln : List ℕ

abbrev pub glns : List ℕ → List ℕ → Glns
glns gln brp_gln = record { gln = gln; brp_gln = brp_gln }

-- of a record that is no party's
abbrev pub no_glns : Glns
no_glns = glns [] []

abbrev pub brp_of : CBrp.Brp → List ℕ → RRecord.Brp
brp_of Own brp_gln = RRecord.own_brp
brp_of Named brp_gln = RRecord.named_brp brp_gln

-- a party's kind, which no GLN is needed for
abbrev pub kind_of_brp : CBrp.Brp → ℕ
kind_of_brp brp = RRecord.party_kind_of (brp_of brp [])

abbrev pub over_of : COver.Over → RRecord.Over
over_of ThisMonth = RRecord.this_month
over_of (ManyMonths before whole) = RRecord.many_months before whole

abbrev pub reading_of : CReading.Reading → RRecord.Reading
reading_of r = record { party = r.party; a = r.a; b = r.b; e = r.e_wh; over = over_of r.over }

-- the record that the code's record is, with the bytes of its GLNs beside it
abbrev pub record_of : Glns → Record → RRecord.Record
record_of beside (Heading h) = RRecord.heading (heading_of h)
record_of beside (Party brp share) = RRecord.party (record { gln = beside.gln; brp = brp_of brp beside.brp_gln; share = share })
record_of beside (FixedHour hour f) = RRecord.fixed_hour hour (flows_of f)
record_of beside (Reading r) = RRecord.reading (reading_of r)
record_of beside (Price hour p) = RRecord.price hour p
record_of beside (RefixedHour hour f) = RRecord.refixed_hour hour (flows_of f)
record_of beside (End count) = RRecord.end count

-- "02 party: GLN 13 ASCII digits", "12 .. supplier GLN 13, BRP GLN 13": the part after the kind byte, where a party record has its GLN, and the part after that
abbrev pub glns_in : List ℕ → Glns
glns_in bytes = glns (gln_part bytes 1) (gln_part bytes 14)

-- the record of a kind whose body stands after the first of some bytes
unfoldable pub record_as : ℕ → List ℕ → RRecord.Record
record_as kind bytes = RRecord.record_from kind (RRecord.cut_into (RRecord.field_widths kind) (drop 1 bytes))

-- "03 fixed hour: hour 2, status 1, net supply 8, production 8, hourly 8, flex 8", "06 refixed hour: as 03": the flows of either
unfoldable pub flows_at : List ℕ → RFlows.Flows
flows_at bytes = RRecord.flows_from (RRecord.cut_into RRecord.hour_widths (drop 1 bytes))

-- a record of some kind stands whole at the start of some bytes
pub record Whole (bytes : List ℕ) : Type 0 where
  pub known_kind : RRecord.known (RRecord.kind_at bytes) ≡ true
  pub fits : 1 + RRecord.body_length (RRecord.kind_at bytes) ≤ length bytes
