-- Packing, from its four refusals to its four buffers. Assumes nothing.
use mathlib.Core.Path.{◌≡◌, refl, sym, ap, ◌∙◌}
use mathlib.Core.List.{List, [], ◌∷◌, ◌++◌, flat_map}
use Prim.Native.Nat.{ℕ, ◌*◌, ◌^◌, ◌≤◌, ◌<◌}
use native.Mathlib.Omega.{arith}
use lib.Dec.{ltb}
use lib.ListN.{length, drop}
use lib.Seq.{take_all}
use Rattle.std.specs.declared.result.Result.{Result}
use Rattle.std.specs.declared.result.Result.TheVariants.{Ok, Err}
use Rattle.format.specs.Lists.{greatest, whole_ones, ◌over◌}
use Rattle.format.specs.Layout.{in_fours, group_size, group_octets}
use Rattle.format.specs.Refusals.{Row, ◌gives◌, first, limit, refusal_number, room_refusals, Left, left}
use Rattle.format.specs.Grouping.{width_of, groups_of, records_from, number_refusals, groups_lent}
use Rattle.format.specs.Packing.{template_of, payload_of, packing_of, summary_numbers, summary_size, LeftPacked, pack_by}
use Rattle.format.specs.declared.Group.{Group}
use Rattle.format.specs.declared.OctetPlace.{OctetPlace}
use Rattle.format.specs.declared.Packed.{Packed}
use Rattle.format.specs.declared.Refusal.{Refusal}
use Rattle.format.specs.declared.Refusal.TheVariants.{Room}
use Rattle.format.specs.declared.Template.{Template}
use Rattle.laws.specs.First.{Gives, Clear, clear-join, decides, clears, passed, first-joined, first-through, tests}
use Rattle.laws.specs.Groups.{all_of, NoneEmpty, Sound, groups_in, own_groups, groups-all, groups-none-empty, groups-some, length-records, groups-back, list-sound}
use Rattle.laws.specs.Codings.{payload-short}
use Rattle.numbers.specs.Records.{Recorded}
use Rattle.numbers.proofs.Recordings.{recorded}
use Rattle.section7.specs.Parts.{payload_lent}
use Rattle.grouping.proofs.Refusing.{greatest-small}
use Rattle.encoder.proofs.Resting.{Rest, rest, rest-refused, rest-packed, rest-short}

abbrev counts : Result ℕ Refusal → ℕ
counts (Ok n) = n
counts (Err r) = 0

module _ (added k : ℕ) (numbers lent payload summary : List ℕ) where
  abbrev groups : List (List ℕ)
  groups = groups_of width_of added k numbers

  abbrev records : List Group
  records = records_from 0 groups

  abbrev listed : List ℕ
  listed = (groups_lent group_octets group_size records lent).buffer

  abbrev summary_refusals : List Row
  summary_refusals = ltb (length summary) summary_size gives Room ∷ []

  -- ---- 13, and 10 for the 40 octets

  abbrev refused : Refusal → LeftPacked
  refused r = record { answer = Err r; groups = lent; payload = payload; summary = summary }

  pub refused-numbers : {r : Refusal} → Gives (refusal_number r) (number_refusals k numbers) → refused r ≡ pack_by added k numbers lent payload summary
  unfolding pack_by
  refused-numbers {r} g = decides refused r (number_refusals k numbers) _ g ∙ sym (first-joined refused (number_refusals k numbers) summary_refusals _)

  pub refused-summary : Clear (number_refusals k numbers) → length summary < summary_size → refused Room ≡ pack_by added k numbers lent payload summary
  unfolding pack_by
  refused-summary c h =
      decides refused Room summary_refusals _ ((λ t. refl), λ t. omega (arith, tests))
      ∙ clears refused (number_refusals k numbers) _ c ∙ sym (first-joined refused (number_refusals k numbers) summary_refusals _)

  -- ---- what the groups' outcome is made

  abbrev full : Refusal → LeftPacked
  full r = record { answer = Err r; groups = listed; payload = payload; summary = summary }

  abbrev with-groups : Rest → LeftPacked
  with-groups r = record { answer = r.answer; groups = listed; payload = r.payload; summary = r.summary }

  abbrev after : Result ℕ Refusal → LeftPacked
  after (Err r) = full r
  after (Ok n) = with-groups (rest numbers groups payload summary)

  -- a rule within the limits, of these numbers
  module _ {ns : List ℕ} {n a : ℕ} (rule : Clear (number_refusals k numbers) × (ns ≡ numbers) × (n ≡ k) × (a ≡ added)) (room : summary_size ≤ length summary) where
    c : Clear (number_refusals k numbers)
    c = rule.0

    whole : after (groups_lent group_octets group_size records lent).answer ≡ pack_by added k numbers lent payload summary
    unfolding pack_by packing_of template_of
    whole =
        let template = template_of numbers groups in
        let octets = payload_of template groups in
        let payload_refusals : List Row = ltb (length payload) (length octets) gives Room ∷ [] in
        let n : length groups ≡ length records = sym (length-records 0 groups) in
        first-through Err full after (λ r. refl) (room_refusals group_size lent (length records)) _
        ∙ ap (first full (room_refusals group_size lent (length records)))
        (first-through _ full with-groups (λ r. refl) payload_refusals _
        ∙ ap (λ (m : ℕ). first full payload_refusals (record {
          answer = Ok (record { template = template; octets = record { 0 = length octets } });
          groups = listed;
          payload = octets over payload;
          summary = in_fours (summary_numbers template m (length octets)) over summary;
        })) n)
        ∙ sym (first-joined full (room_refusals group_size lent (length records)) payload_refusals _)
        ∙ clears refused (number_refusals k numbers ++ summary_refusals) _ (clear-join (number_refusals k numbers) summary_refusals c (omega (arith, tests), tt))

    module _ {answer : Result ℕ Refusal} {stored : List ℕ} (eg : left answer stored ≡ groups_lent group_octets group_size (records_from 0 (groups_of width_of a n ns)) lent) where
      e : left answer stored ≡ groups_lent group_octets group_size records lent
      e = rw (rule.1, rule.2, rule.3) at eg

      answered : {a : Result ℕ Refusal} → answer ≡ a → after a ≡ pack_by added k numbers lent payload summary
      answered d = ap after (sym d ∙ ap (λ (x : Left (Result ℕ Refusal)). x.answer) e) ∙ whole

      pub refused-groups : {r : Refusal} → answer ≡ Err r
          → record { answer = Err r; groups = stored; payload = payload; summary = summary } ≡ pack_by added k numbers lent payload summary
      refused-groups d = rw (ap (λ (x : Left (Result ℕ Refusal)). x.buffer) e) (answered d)

      module _ {many : ℕ} (d : answer ≡ Ok many) where
        all_listed : (length records ≤ whole_ones group_size lent) × (many ≡ length records)
        all_listed =
            let p = passed Err (room_refusals group_size lent (length records)) _ (ap (λ (x : Left (Result ℕ Refusal)). x.answer) e) (λ r f. absurd (let x = sym d ∙ f in cc)) in
            (omega (arith, tests, p.0), ap counts (sym d ∙ p.1))

        stored_is : stored ≡ flat_map group_octets records over lent
        stored_is =
            ap (λ (x : Left (Result ℕ Refusal)). x.buffer) e
            ∙ ap (λ (rs : List Group). flat_map group_octets rs over lent) (take_all (whole_ones group_size lent) records all_listed.0)

        abbrev behind : List ℕ
        behind = drop (length (flat_map group_octets records)) lent

        all : all_of groups ≡ numbers
        all = groups-all width_of added k numbers

        none : NoneEmpty groups
        none = groups-none-empty width_of added k numbers

        some : 0 < length groups
        some = groups-some width_of added k numbers (let h = c in omega (arith, tests))

        few : length numbers ≤ limit
        few = let h = c in omega (arith, tests)

        -- the lent list gives the groups back
        back : own_groups numbers (groups_in stored many) ≡ groups
        back = rw (stored_is, all_listed.1) (groups-back numbers groups all none few (greatest-small k numbers c) behind)

        pub sound : Sound numbers stored many
        sound = rw (stored_is, all_listed.1) (list-sound numbers groups all none few (greatest-small k numbers c) behind some)

        pub there : many * group_size ≤ length stored
        there = sound.there

        -- the records, as they are read
        module _ {listed : List Group} (el : listed ≡ groups_in stored many) where
          pub sound_records : Recorded numbers listed
          sound_records = rw el (recorded sound)

          own : own_groups numbers listed ≡ groups
          own = rw el back

          with_rest : {r : Result Packed Refusal} {payload' summary' : List ℕ} → record { answer = r; payload = payload'; summary = summary' } ≡ rest numbers (own_groups numbers listed) payload summary
              → record { answer = r; groups = stored; payload = payload'; summary = summary' } ≡ pack_by added k numbers lent payload summary
          with_rest f =
              rw (ap (λ (x : Left (Result ℕ Refusal)). x.buffer) e) (ap with-groups (f ∙ ap (λ (gs : List (List ℕ)). rest numbers gs payload summary) own) ∙ answered d)

          module _ {top : ℕ} (et : top ≡ greatest numbers) {template : Template} (ec : (ns : List ℕ) → Recorded ns listed → top ≡ greatest ns → template ≡ template_of ns (own_groups ns listed)) where
            pub coded : template ≡ template_of numbers (own_groups numbers listed)
            coded = ec numbers sound_records et

            module _ {written : Result OctetPlace Refusal} {leaves : List ℕ} (ew : left written leaves ≡ payload_lent (payload_of template (own_groups numbers listed)) payload) where
              pub refused-payload : {r : Refusal} → written ≡ Err r → record { answer = Err r; groups = stored; payload = leaves; summary = summary } ≡ pack_by added k numbers lent payload summary
              refused-payload h = with_rest (rest-refused _ _ _ _ coded ew h)

              pub all_packed : {octets : OctetPlace} → written ≡ Ok octets → {summary' : List ℕ} → summary' ≡ in_fours (summary_numbers template template.groups octets.0) over summary
                  → record { answer = Ok (record { template = template; octets = octets }); groups = stored; payload = leaves; summary = summary' } ≡ pack_by added k numbers lent payload summary
              all_packed h s = with_rest (rest-packed _ _ _ _ coded ew h s)

              pub octets-short : {octets : OctetPlace} → written ≡ Ok octets → octets.0 < 2 ^ 32
              octets-short h = rest-short numbers (own_groups numbers listed) payload summary coded ew h (rw own (payload-short numbers groups all none some few (greatest-small k numbers c)))
