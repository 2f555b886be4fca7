-- No second result fits: what the promise of `decode` says in the words of the rules fixes the record.
use mathlib.Core.List.{List}
use mathlib.Core.Path.{◌≡◌, refl, sym, ◌∙◌, ap}
use Prim.Native.Nat.{ℕ}
use Rattle.record.specs.Record.{Glns, brp_of, over_of, record_of}
use Rattle.record.specs.declared.Flows as CFlows
use Rattle.record.specs.declared.Brp as CBrp
use Rattle.record.specs.declared.Brp.TheVariants.{Own, Named}
use Rattle.record.specs.declared.Over as COver
use Rattle.record.specs.declared.Over.TheVariants.{ThisMonth, ManyMonths}
use Rattle.record.specs.declared.Record.{Record}
use Rattle.record.specs.declared.Record.TheVariants.{Heading, Party, FixedHour, Reading, Price, RefixedHour, End}
use Rattle.rules.specs.Flows as RFlows
use Rattle.rules.specs.Record as RRecord

-- the code's record can be read back from that of the rules
abbrev flows_back : RFlows.Flows → CFlows.Flows
flows_back f = record { status = f.status; net_wh = f.net; production_wh = f.production; hourly_wh = f.hourly; flex_wh = f.flex }

abbrev brp_back : RRecord.Brp → CBrp.Brp
brp_back RRecord.own_brp = Own
brp_back (RRecord.named_brp brp_gln) = Named

brp_back_lem : (brp : CBrp.Brp) (brp_gln : List ℕ) → brp_back (brp_of brp brp_gln) ≡ brp
brp_back_lem Own brp_gln = refl
brp_back_lem Named brp_gln = refl

abbrev over_back : RRecord.Over → COver.Over
over_back RRecord.this_month = ThisMonth
over_back (RRecord.many_months before whole) = ManyMonths before whole

over_back_lem : (over : COver.Over) → over_back (over_of over) ≡ over
over_back_lem ThisMonth = refl
over_back_lem (ManyMonths before whole) = refl

abbrev record_back : RRecord.Record → Record
record_back (RRecord.heading h) = Heading (record { area = h.area; year = h.year; month = h.month; hours = h.hours; parties = h.parties; carrier = h.carrier })
record_back (RRecord.party p) = Party (brp_back p.brp) p.share
record_back (RRecord.fixed_hour hour f) = FixedHour hour (flows_back f)
record_back (RRecord.reading r) = Reading (record { party = r.party; a = r.a; b = r.b; e_wh = r.e; over = over_back r.over })
record_back (RRecord.price hour p) = Price hour p
record_back (RRecord.refixed_hour hour f) = RefixedHour hour (flows_back f)
record_back (RRecord.end count) = End count

record_back_lem : (beside : Glns) (r : Record) → record_back (record_of beside r) ≡ r
record_back_lem beside (Heading h) = refl
record_back_lem beside (Party brp share) = ap (λ (b : CBrp.Brp). Party b share) (brp_back_lem brp beside.brp_gln)
record_back_lem beside (FixedHour hour f) = refl
record_back_lem beside (Reading r) =
    ap (λ (over : COver.Over). Reading (record { party = r.party; a = r.a; b = r.b; e_wh = r.e_wh; over = over })) (over_back_lem r.over)
record_back_lem beside (Price hour p) = refl
record_back_lem beside (RefixedHour hour f) = refl
record_back_lem beside (End count) = refl

pub decode_once : (beside : Glns) {record' : RRecord.Record} (a b : Record) → record_of beside a ≡ record' → record_of beside b ≡ record' → a ≡ b
decode_once beside a b p q = sym (record_back_lem beside a) ∙ ap record_back (p ∙ sym q) ∙ record_back_lem beside b
