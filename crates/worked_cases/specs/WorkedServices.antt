-- The services alone, where orders and places show: 16 first, then 4 with its places, then each service's own; and one record read and written
-- alone. Proved in proofs/WorkedServices, by computing the definitions.
use Rattle.std.specs.Prelude.{List, [], ◌∷◌, ◌++◌, ◌≡◌, ℕ, suc, ℤ, pos, negsuc, replicate, take}
use Rattle.worked_cases.specs.WorkedMonths.{brp_party_of, long_reading_of}
use Rattle.rules.specs.Gln.{digit_at_position, weight_of_position, weighted_digit, weighted_sum}
use Rattle.rules.specs.PlainRecord.{plain_verdict}
use Rattle.rules.specs.Plan.{LongReading, planned, plan_checks}
use Rattle.rules.specs.Record.{reading_kind, price_kind, end_kind, long_reading_kind, brp_party_kind, many_months, Reading, fixed_hour, price, end, body_length, record_bytes, read_alone}
use Rattle.rules.specs.Record.{write_verdict, written}
use Rattle.rules.specs.Refusals.{file_fault, unknown_kind, out_of_range, gln_fault, w_out_of_range, missing_hour, residual_negative, residual_too_large}
use Rattle.rules.specs.Refusals.{curve_too_large, span_fault, energy_too_large, nothing_to_follow, periodised_too_large, wrong_length, difference_too_large, accepted, refused, given}
use Rattle.rules.specs.Refusals.{refusal, first}
use Rattle.rules.specs.Services.{residual_checks, residual_figures, curve_checks, distribution_checks, periodisation_checks}
use Rattle.rules.specs.Services.{reconciliation_checks, reconciliation_loss, reconciliation_differences, reconciliation_amounts, amounts_checks, amounts_figures, invoice_checks, invoice_figures}
use Rattle.rules.specs.SmallMonth.{supply, party_of, reading_of}
use Rattle.rules.specs.Words.{figures, ascii}

-- nothing in two hours
unfoldable pub none : List ℕ
none = 0 ∷ 0 ∷ []

unfoldable pub still : List ℤ
still = pos 0 ∷ pos 0 ∷ []

-- W3: a meter read over months, and a part of its reading
unfoldable pub months_of : ℕ → ℕ → ℕ → List ℕ → List ℕ → List ℕ → LongReading
months_of e a b parties hours curves = record { e = e; a = a; b = b; parties = parties; hours = hours; curves = curves }

unfoldable pub meter : ℕ → ℕ → ℕ → LongReading
meter e a b = months_of e a b (5 ∷ 0 ∷ 63 ∷ []) (2 ∷ 1 ∷ 3 ∷ []) (4 ∷ 1 ∷ 2 ∷ 1 ∷ 1 ∷ 9 ∷ [])

unfoldable pub plan_part : ℕ → ℕ → ℕ → ℕ → ℕ → ℕ → Reading
plan_part who a b e before whole = record { party = who; a = a; b = b; e = e; over = many_months before whole }

pub record WorkedServices : Type 0 where
  -- "H 745, P 64 .. accepted; one more refused (4, 4 ..)"
  pub hours_745 : first (curve_checks (replicate 745 1) 1 745) ≡ accepted
  pub hours_746 : first (curve_checks (replicate 746 1) 1 746) ≡ refused out_of_range 0
  pub parties_64 : first (distribution_checks (replicate 64 1) (1 ∷ []) 64) ≡ accepted
  pub parties_65 : first (distribution_checks (replicate 65 1) (1 ∷ []) 65) ≡ refused out_of_range 0
  -- "E 1,000,000,000 accepted; one more refused (.. 12)"
  pub energy_most : first (periodisation_checks 1000000000 (1 ∷ []) 1) ≡ accepted
  pub energy_above : first (periodisation_checks 1000000001 (1 ∷ []) 1) ≡ refused energy_too_large 0
  -- residual: 16 before lists of unequal length, those before H, and an empty list is 4
  pub residual_lent : first (residual_checks (1 ∷ []) [] none none none 2) ≡ refused wrong_length 0
  pub residual_unequal : first (residual_checks (3 ∷ []) [] none none none 1) ≡ refused out_of_range 0
  pub residual_empty : first (residual_checks [] [] [] [] [] 0) ≡ refused out_of_range 0
  -- "lists in the order named": the status of hour 1 before the net supply of hour 0
  pub residual_lists_in_order : first (residual_checks (1 ∷ 3 ∷ []) (pos 8000000001 ∷ pos 0 ∷ []) none none none 2) ≡ refused out_of_range 1
  -- "after all ranges": the flex of hour 1 before the figure of the silent hour 0
  pub residual_silent_last : first (residual_checks (0 ∷ 1 ∷ []) (pos 5 ∷ pos 0 ∷ []) none none (0 ∷ 8000000001 ∷ []) 2) ≡ refused out_of_range 1
  pub residual_silent : first (residual_checks (1 ∷ 0 ∷ []) (pos 5 ∷ pos 5 ∷ []) none none none 2) ≡ refused out_of_range 1
  -- "residual 7, 8, 9 hour by hour": 8 in hour 0 before 7 in hour 1
  pub residual_by_hour : first (residual_checks (1 ∷ 0 ∷ []) (negsuc 0 ∷ pos 0 ∷ []) none none none 2) ≡ refused residual_negative 0
  pub residual_missing : first (residual_checks (1 ∷ 0 ∷ []) still none none none 2) ≡ refused missing_hour 1
  pub residual_too_large_holds : first (residual_checks (2 ∷ 2 ∷ []) (pos 2000000000 ∷ pos 2000000001 ∷ []) none none none 2) ≡ refused residual_too_large 1
  pub residual_given : residual_figures (1 ∷ 2 ∷ []) (negsuc 4 ∷ pos 7 ∷ []) (105 ∷ 0 ∷ []) (40 ∷ 0 ∷ []) (20 ∷ 0 ∷ []) ≡ 40 ∷ 7 ∷ []
  -- curve: "6, 9 over all hours, 10"
  pub curve_W : first (curve_checks (2000000001 ∷ []) 0 1) ≡ refused w_out_of_range 0
  pub curve_9_over_all_hours : first (curve_checks (1001 ∷ 2000000001 ∷ []) 1 2) ≡ refused residual_too_large 1
  -- distribution: a share at its party before W, W before 9
  pub distribution_share : first (distribution_checks (0 ∷ 4000000001 ∷ []) (1 ∷ []) 2) ≡ refused out_of_range 1
  pub distribution_W : first (distribution_checks (4000000000 ∷ 1 ∷ []) (2000000001 ∷ []) 2) ≡ refused w_out_of_range 0
  pub distribution_residual : first (distribution_checks (4000000000 ∷ 0 ∷ []) (1 ∷ 2000000001 ∷ []) 4) ≡ refused residual_too_large 1
  -- periodisation: "11, 12, 10, 13 (all at place 0 but 10)"
  pub periodisation_no_hours : first (periodisation_checks 1000000001 [] 0) ≡ refused span_fault 0
  pub periodisation_weight : first (periodisation_checks 7 (0 ∷ 1000000001 ∷ []) 2) ≡ refused curve_too_large 1
  -- reconciliation: a carrier that is no party; -1 and 2,000,000,001 are within, -2 is not; not adding up is 4, adding up to too much 9; then 14
  pub reconciliation_carrier : first (reconciliation_checks 1 (pos 1 ∷ []) (0 ∷ []) 1 (pos 0) 1 1) ≡ refused out_of_range 0
  pub reconciliation_price : first (reconciliation_checks 1 (pos 1 ∷ []) (0 ∷ []) 0 (negsuc 5000000) 1 1) ≡ refused out_of_range 0
  pub reconciliation_edges : first (reconciliation_checks 2000000000 (negsuc 0 ∷ pos 2000000001 ∷ []) none 0 (pos 0) 2 2) ≡ accepted
  pub reconciliation_below : first (reconciliation_checks 0 (pos 2 ∷ negsuc 1 ∷ []) none 0 (pos 0) 2 2) ≡ refused out_of_range 1
  pub reconciliation_not_adding_up : first (reconciliation_checks 2000000001 (pos 1 ∷ pos 1 ∷ []) none 0 (pos 0) 2 2) ≡ refused out_of_range 0
  pub reconciliation_residual : first (reconciliation_checks 2000000001 (pos 2000000001 ∷ pos 0 ∷ []) none 0 (pos 0) 2 2) ≡ refused residual_too_large 0
  pub reconciliation_periodised : first (reconciliation_checks 1 (pos 1 ∷ pos 0 ∷ []) (2000000000 ∷ 1 ∷ []) 0 (pos 0) 2 2) ≡ refused periodised_too_large 0
  -- H2 6.3, hour 0 of S1: 39,000,000 with 7,800,000, 20,100,000 and 10,000,000 periodised; the last carries the loss of 1,100,000
  pub reconciliation_loss_holds : reconciliation_loss 39000000 (7800000 ∷ 20100000 ∷ 10000000 ∷ []) ≡ pos 1100000
  pub reconciliation_differences_holds :
      reconciliation_differences 39000000 (pos 5850000 ∷ pos 23400000 ∷ pos 9750000 ∷ []) (7800000 ∷ 20100000 ∷ 10000000 ∷ []) 2
      ≡ pos 1950000 ∷ negsuc 3299999 ∷ pos 1350000 ∷ []
  pub reconciliation_amounts_holds :
      reconciliation_amounts (pos 1950000 ∷ negsuc 3299999 ∷ pos 1350000 ∷ []) (pos 29000)
      ≡ pos 56550000000 ∷ negsuc 95699999999 ∷ pos 39150000000 ∷ []
  -- W6: each difference times its own hour's price; 16; the lengths, H and P at 0; a price at its place; "place the hour", by the true sum, which 64 bits need not
  -- hold; 2,000,000,001 of either sign is within; 19 "after 4", of a later hour too
  pub amounts_by_hour : amounts_figures (pos 3 ∷ negsuc 2 ∷ negsuc 0 ∷ pos 1 ∷ []) 2 (pos 10 ∷ negsuc 4 ∷ []) ≡ pos 30 ∷ negsuc 29 ∷ pos 5 ∷ negsuc 4 ∷ []
  pub amounts_lent : first (amounts_checks (pos 0 ∷ []) 2 [] 2) ≡ refused wrong_length 0
  pub amounts_unequal : first (amounts_checks (pos 1 ∷ pos 0 ∷ pos 0 ∷ []) 2 (pos 5000001 ∷ []) 3) ≡ refused out_of_range 0
  pub amounts_no_hours : first (amounts_checks [] 2 [] 0) ≡ refused out_of_range 0
  pub amounts_746_hours : first (amounts_checks (replicate 746 (pos 0)) 1 (replicate 746 (pos 0)) 746) ≡ refused out_of_range 0
  pub amounts_nobody : first (amounts_checks [] 0 (pos 0 ∷ []) 0) ≡ refused out_of_range 0
  pub amounts_65_parties : first (amounts_checks (replicate 65 (pos 0)) 65 (pos 0 ∷ []) 65) ≡ refused out_of_range 0
  pub amounts_price : first (amounts_checks (pos 1 ∷ pos 0 ∷ []) 1 (pos 0 ∷ negsuc 5000000 ∷ []) 2) ≡ refused out_of_range 1
  pub amounts_not_adding_up : first (amounts_checks (pos 2000000002 ∷ negsuc 2000000001 ∷ pos 1 ∷ pos 0 ∷ []) 2 (pos 0 ∷ pos 0 ∷ []) 4) ≡ refused out_of_range 1
  pub amounts_true_sum : first (amounts_checks (negsuc 9223372036854775807 ∷ negsuc 9223372036854775807 ∷ []) 2 (pos 0 ∷ []) 2) ≡ refused out_of_range 0
  pub amounts_edges : first (amounts_checks (pos 2000000001 ∷ negsuc 2000000000 ∷ []) 2 (negsuc 4999999 ∷ []) 2) ≡ accepted
  pub amounts_beyond : first (amounts_checks (pos 0 ∷ pos 0 ∷ pos 2000000002 ∷ negsuc 2000000001 ∷ []) 2 (pos 0 ∷ pos 0 ∷ []) 4) ≡ refused difference_too_large 1
  pub amounts_beyond_below : first (amounts_checks (pos 1000000001 ∷ pos 1000000001 ∷ negsuc 2000000001 ∷ []) 3 (pos 0 ∷ []) 3) ≡ refused difference_too_large 0
  -- W2: below zero rounded down too, so that the øre go to the smaller sizes; equal remainders; a part of an øre against its opposite; nobody's amounts; the true
  -- sum, also where a sum of 64 bits would be 0; 16 before 4
  pub invoice_below_zero : invoice_figures (negsuc 499999 ∷ negsuc 499999 ∷ pos 1000000 ∷ []) ≡ pos 0 ∷ negsuc 0 ∷ pos 1 ∷ []
  pub invoice_tie : invoice_figures (pos 250000 ∷ pos 250000 ∷ pos 250000 ∷ negsuc 749999 ∷ []) ≡ pos 1 ∷ pos 0 ∷ pos 0 ∷ negsuc 0 ∷ []
  pub invoice_opposite : invoice_figures (negsuc 299999 ∷ pos 300000 ∷ []) ≡ pos 0 ∷ pos 0 ∷ []
  pub invoice_nobody : first (invoice_checks [] 0) ≡ refused out_of_range 0
  pub invoice_one : first (invoice_checks (pos 1 ∷ []) 1) ≡ refused out_of_range 0
  pub invoice_true_sum : first (invoice_checks (pos 4611686018427387904 ∷ pos 4611686018427387904 ∷ pos 4611686018427387904 ∷ pos 4611686018427387904 ∷ []) 4) ≡ refused out_of_range 0
  pub invoice_lent : first (invoice_checks [] 1) ≡ refused wrong_length 0
  -- "The body lengths, by kind, are these": 01 heading, 02 party, 03 fixed hour, 04 reading, 05 price, 06 refixed hour, 07 end, W3: 08 reading over months; 0 for an
  -- unknown kind
  pub body_lengths :
      figures 10 body_length ≡ 0 ∷ 9 ∷ 21 ∷ 35 ∷ 9 ∷ 6 ∷ 35 ∷ 4 ∷ 25 ∷ 0 ∷ []
  -- W5: "12 hexadecimal (body 34: supplier GLN 13, BRP GLN 13, load share 8)"
  pub body_length_12 : body_length brp_party_kind ≡ 34
  pub bytes_12 :
      record_bytes (brp_party_of "0000000000017" "0000000000024" 258)
      ≡ 18 ∷ (ascii "0000000000017" ++ ascii "0000000000024" ++ (0 ∷ 0 ∷ 0 ∷ 0 ∷ 0 ∷ 0 ∷ 1 ∷ 2 ∷ []))
  -- one record alone: an empty part is 1; 2 before 1; bytes after it are not looked at; 744 and 745, 63 and 64
  pub alone_empty : read_alone [] ≡ refusal file_fault 0
  pub alone_unknown : read_alone (255 ∷ []) ≡ refusal unknown_kind 0
  pub alone_cut : read_alone (7 ∷ 0 ∷ 0 ∷ 1 ∷ []) ≡ refusal file_fault 0
  pub alone_after : read_alone (7 ∷ 0 ∷ 0 ∷ 1 ∷ 0 ∷ 255 ∷ []) ≡ given (end 256)
  pub alone_signed : read_alone (record_bytes (fixed_hour 744 (supply 1 (negsuc 7999999999)))) ≡ given (fixed_hour 744 (supply 1 (negsuc 7999999999)))
  pub alone_hour : read_alone (record_bytes (price 745 (pos 0))) ≡ refusal out_of_range 0
  pub alone_party : read_alone (record_bytes (reading_of 64 0 745 0)) ≡ refusal out_of_range 0
  pub alone_span : read_alone (record_bytes (reading_of 63 0 746 0)) ≡ refusal span_fault 0
  -- W3: an 08 is judged as a 04, and any weights pass
  pub alone_long_span : read_alone (record_bytes (long_reading_of 63 0 746 0 0 0)) ≡ refusal span_fault 0
  pub alone_any_weights :
      read_alone (record_bytes (long_reading_of 63 744 745 1000000000 18446744073709551615 256)) ≡ given (long_reading_of 63 744 745 1000000000 18446744073709551615 256)
  -- W5: a 12 is read with both GLNs; "a bad BRP GLN is 5"; 34 bytes are one too few
  pub alone_12 : read_alone (record_bytes (brp_party_of "0000000000017" "0000000000024" 258)) ≡ given (brp_party_of "0000000000017" "0000000000024" 258)
  pub alone_12_gln : read_alone (record_bytes (brp_party_of "0000000000017" "0000000000025" 258)) ≡ refusal gln_fault 0
  pub alone_12_cut : read_alone (take 34 (record_bytes (brp_party_of "0000000000017" "0000000000024" 258))) ≡ refusal file_fault 0
  -- the writer: 4, 5, 11, 12 and then 16; a longer part keeps what stands behind the record
  pub write_share_before_gln : write_verdict (party_of "123" 4000000001) 0 ≡ refused out_of_range 0
  pub write_gln : write_verdict (party_of "123" 1) 0 ≡ refused gln_fault 0
  -- GS1's worked example, 629104150021 with check digit 3 (W4): the digits of positions 1, 2, .. 13, their weights, the products, and the sum, a multiple of 10
  pub gs1_digits : figures 13 (λ k. digit_at_position (ascii "6291041500213") (suc k)) ≡ 3 ∷ 1 ∷ 2 ∷ 0 ∷ 0 ∷ 5 ∷ 1 ∷ 4 ∷ 0 ∷ 1 ∷ 9 ∷ 2 ∷ 6 ∷ []
  pub gs1_weights : figures 13 (λ k. weight_of_position (suc k)) ≡ 1 ∷ 3 ∷ 1 ∷ 3 ∷ 1 ∷ 3 ∷ 1 ∷ 3 ∷ 1 ∷ 3 ∷ 1 ∷ 3 ∷ 1 ∷ []
  pub gs1_products : figures 13 (λ k. weighted_digit (ascii "6291041500213") (suc k)) ≡ 3 ∷ 3 ∷ 2 ∷ 0 ∷ 0 ∷ 15 ∷ 1 ∷ 12 ∷ 0 ∷ 3 ∷ 9 ∷ 6 ∷ 6 ∷ []
  pub gs1_sum : weighted_sum (ascii "6291041500213") ≡ 60
  -- the writer takes it, and a GLN in public use, and not the example with another last digit
  pub write_gs1 : write_verdict (party_of "6291041500213" 1) 22 ≡ accepted
  pub write_public : write_verdict (party_of "5790001330552" 1) 22 ≡ accepted
  pub write_gs1_digit : write_verdict (party_of "6291041500214" 1) 22 ≡ refused gln_fault 0
  pub write_short : write_verdict (end 1) 4 ≡ refused wrong_length 0
  pub write_long : write_verdict (end 1) 7 ≡ accepted
  pub write_nothing_further_on : written (end 1) (9 ∷ 9 ∷ 9 ∷ 9 ∷ 9 ∷ 8 ∷ 7 ∷ []) ≡ 7 ∷ 0 ∷ 0 ∷ 0 ∷ 1 ∷ 8 ∷ 7 ∷ []
  pub write_any_weights : write_verdict (long_reading_of 0 0 1 1 18446744073709551615 0) 26 ≡ accepted
  pub write_long_short : write_verdict (long_reading_of 0 0 1 1 18446744073709551615 0) 25 ≡ refused wrong_length 0
  -- W5: the writer of a 12: a BRP GLN of twelve digits is 5, after the share's 4 and before 16
  pub write_12 : write_verdict (brp_party_of "0000000000017" "0000000000024" 1) 35 ≡ accepted
  pub write_12_short : write_verdict (brp_party_of "0000000000017" "0000000000024" 1) 34 ≡ refused wrong_length 0
  pub write_12_gln : write_verdict (brp_party_of "0000000000017" "000000000024" 1) 34 ≡ refused gln_fault 0
  pub write_12_share_before_gln : write_verdict (brp_party_of "0000000000017" "000000000024" 4000000001) 34 ≡ refused out_of_range 0
  -- the writer on plain numbers: 2 before all; another length; a or b beyond two bytes, and E beyond four, by their own rules; below 0 before any of them; a count beyond four bytes
  pub plain_unknown : plain_verdict 255 [] [] [] 0 ≡ refused unknown_kind 0
  pub plain_too_many : plain_verdict end_kind (pos 1 ∷ pos 1 ∷ []) [] [] 5 ≡ refused out_of_range 0
  pub plain_too_few : plain_verdict reading_kind (pos 0 ∷ pos 0 ∷ pos 1 ∷ []) [] [] 10 ≡ refused out_of_range 0
  pub plain_span : plain_verdict reading_kind (pos 0 ∷ pos 65536 ∷ pos 65537 ∷ pos 0 ∷ []) [] [] 10 ≡ refused span_fault 0
  pub plain_energy : plain_verdict reading_kind (pos 0 ∷ pos 0 ∷ pos 1 ∷ pos 4294967296 ∷ []) [] [] 10 ≡ refused energy_too_large 0
  pub plain_negative : plain_verdict reading_kind (pos 0 ∷ pos 1 ∷ pos 1 ∷ negsuc 0 ∷ []) [] [] 10 ≡ refused out_of_range 0
  pub plain_negative_hour : plain_verdict price_kind (negsuc 0 ∷ negsuc 0 ∷ []) [] [] 7 ≡ refused out_of_range 0
  pub plain_negative_price : plain_verdict price_kind (pos 0 ∷ negsuc 0 ∷ []) [] [] 7 ≡ accepted
  pub plain_count : plain_verdict end_kind (pos 4294967295 ∷ []) [] [] 5 ≡ accepted
  pub plain_count_above : plain_verdict end_kind (pos 4294967296 ∷ []) [] [] 5 ≡ refused out_of_range 0
  pub plain_weights : plain_verdict long_reading_kind (pos 0 ∷ pos 0 ∷ pos 1 ∷ pos 0 ∷ pos 9223372036854775807 ∷ pos 0 ∷ []) [] [] 26 ≡ accepted
  pub plain_weight_above : plain_verdict long_reading_kind (pos 0 ∷ pos 0 ∷ pos 1 ∷ pos 0 ∷ pos 0 ∷ pos 18446744073709551616 ∷ []) [] [] 26 ≡ refused out_of_range 0
  pub plain_weight_below : plain_verdict long_reading_kind (pos 0 ∷ pos 0 ∷ pos 1 ∷ pos 0 ∷ pos 0 ∷ negsuc 0 ∷ []) [] [] 26 ≡ refused out_of_range 0
  -- W5: of a 12 the load share is the one number, and its GLNs stand beside it
  pub plain_12 : plain_verdict brp_party_kind (pos 1 ∷ []) (ascii "0000000000017") (ascii "0000000000024") 35 ≡ accepted
  pub plain_12_gln : plain_verdict brp_party_kind (pos 1 ∷ []) (ascii "0000000000017") (ascii "000000000024") 35 ≡ refused gln_fault 0
  pub plain_12_too_many : plain_verdict brp_party_kind (pos 1 ∷ pos 1 ∷ []) (ascii "0000000000017") (ascii "0000000000024") 35 ≡ refused out_of_range 0
  -- W3, the planner: 7 Wh from hour 1 of a month of 2 hours, over one of 1 hour, to before hour 2 of one of 3: weights 1, 2 and 1 + 1
  pub plan_lines :
      planned (meter 7 1 2)
      ≡ plan_part 5 1 2 7 0 5 ∷ plan_part 0 0 1 7 1 5 ∷ plan_part 63 0 2 7 3 5 ∷ []
  pub plan_passes : first (plan_checks (meter 7 1 2)) ≡ accepted
  -- 4: a party above 63, or too few of them; a month of no hours; hours that are not those of the curves; no month
  pub plan_party : first (plan_checks (months_of 7 0 1 (64 ∷ []) (1 ∷ []) (1 ∷ []))) ≡ refused out_of_range 0
  pub plan_parties : first (plan_checks (months_of 7 0 1 [] (1 ∷ []) (1 ∷ []))) ≡ refused out_of_range 0
  pub plan_no_hours : first (plan_checks (months_of 7 0 1 (0 ∷ 0 ∷ []) (1 ∷ 0 ∷ []) (1 ∷ []))) ≡ refused out_of_range 0
  pub plan_746_hours : first (plan_checks (months_of 7 0 1 (0 ∷ []) (746 ∷ []) (replicate 746 1))) ≡ refused out_of_range 0
  pub plan_curves : first (plan_checks (months_of 7 0 1 (0 ∷ []) (2 ∷ []) (1 ∷ []))) ≡ refused out_of_range 0
  pub plan_no_month : first (plan_checks (months_of 7 0 0 [] [] [])) ≡ refused out_of_range 0
  pub plan_14_months : first (plan_checks (months_of 7 0 1 (replicate 14 0) (replicate 14 1) (replicate 14 1))) ≡ refused out_of_range 0
  -- 11: an empty part of the first month, of the last, and of the only one; b above the last month's hours
  pub plan_empty_first : first (plan_checks (meter 1000000001 2 2)) ≡ refused span_fault 0
  pub plan_empty_last : first (plan_checks (meter 7 1 0)) ≡ refused span_fault 0
  pub plan_empty_only : first (plan_checks (months_of 7 1 1 (0 ∷ []) (2 ∷ []) (1 ∷ 1 ∷ []))) ≡ refused span_fault 0
  pub plan_beyond : first (plan_checks (meter 7 1 4)) ≡ refused span_fault 0
  -- then 12, 10 (also outside the reading's hours), 13
  pub plan_energy : first (plan_checks (months_of 1000000001 0 1 (0 ∷ []) (1 ∷ []) (1000000001 ∷ []))) ≡ refused energy_too_large 0
  pub plan_curve : first (plan_checks (months_of 7 0 1 (0 ∷ []) (2 ∷ []) (0 ∷ 1000000001 ∷ []))) ≡ refused curve_too_large 0
  pub plan_nothing : first (plan_checks (months_of 7 0 1 (0 ∷ []) (2 ∷ []) (0 ∷ 1 ∷ []))) ≡ refused nothing_to_follow 0
