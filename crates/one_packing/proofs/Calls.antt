-- What the calls ensure gives demand 3 of what their callers hold. Assumes nothing.
use mathlib.Core.Path.{◌≡◌, refl, sym, ap, subst, ◌∙◌}
use mathlib.Core.List.{List, ◌++◌, map, flat_map}
use Prim.Native.Nat.{ℕ, suc, ◌+◌, ◌-◌, ◌*◌, ◌/◌, ◌%◌, ◌^◌, ◌≤◌, ◌<◌}
use native.Mathlib.Nat.{add-zero, zero-add}
use native.Mathlib.Omega.{arith}
use lib.ListN.{length, get_or, take, drop}
use lib.Seq.{ext_get_or, take_at}
use lib.IntN.{pos, negsuc}
use Rattle.format.specs.Lists.{whole_ones, ◌over◌}
use Rattle.format.specs.Bits.{number_at}
use Rattle.format.specs.Layout.{number_size, in_fours, numbers_in, point_size, point_octets, mark_of}
use Rattle.format.specs.Refusals.{Left, left, answer_number}
use Rattle.format.specs.Packing.{template_of, packing_of, summary_numbers, pack}
use Rattle.format.specs.declared.DecodedValue.{DecodedValue}
use Rattle.format.specs.declared.DecodedValue.TheVariants.{Normal, Missing1, Missing2}
use Rattle.laws.specs.Lists.{length-listed, get_or-listed, length-map, map_at}
use Rattle.laws.specs.Stores.{flat-at, number-back}
use Rattle.laws.specs.Groups.{number-read-back}
use Rattle.laws.specs.Points.{size-point, size-points}
use Rattle.laws.specs.Small.{Small}
use Rattle.cleatmow.specs.Calls.{called, PackCall, called_pack}
use Rattle.one_packing.specs.Claims.{Sent, points_in, held_number, numbers_of, number_point, Accepted, Demanded, Lookahead, Acceptable, EnoughRoom, Given, packed_by, again}
use Rattle.one_packing.specs.Calls.{UnpackMade, PackMade, four_at, eight_at, Turned, sent_by, Repacked, Resent, RoundTripOfCalls, OfCalls}
use Rattle.one_packing.proofs.RoundTrip.{round_trip}
use Rattle.one_packing.proofs.Accepting.{Answered, answered}
use Rattle.one_packing.proofs.Again.{taken, canonical, idempotent}
use Rattle.one_packing.proofs.Packing.{by-packing, by-packing-alone}

-- ---- points in lent octets

module _ (points : List DecodedValue) (rest : List ℕ) (j : ℕ) (l : j < length points) where
  abbrev octets : List ℕ
  octets = flat_map point_octets points ++ rest

  abbrev point : DecodedValue
  point = get_or points j Missing1

  mark-there : get_or octets (j * point_size) 0 ≡ mark_of point
  mark-there = ap (λ (p : ℕ). get_or octets p 0) (sym (add-zero (j * point_size))) ∙ flat-at point_octets point_size size-point points rest Missing1 j 0 l (omega arith)

  held_small : (p : DecodedValue) → Small p → held_number p < 256 ^ 8
  held_small (Normal (pos n)) h = omega arith
  held_small (Normal (negsuc n)) h = absurd h
  held_small Missing1 h = omega arith
  held_small Missing2 h = omega arith

  number-there : Small point → eight_at octets j ≡ held_number point
  number-there h =
      number-back octets (j * point_size + 1) 8 (held_number point)
      (λ i m.
      let p : j * point_size + 1 + i ≡ j * point_size + suc i = omega arith in
      ap (λ (q : ℕ). get_or octets q 0) p ∙ flat-at point_octets point_size size-point points rest Missing1 j (suc i) l (omega arith)
      ∙ get_or-listed 8 (λ k. held_number point / 256 ^ (8 - suc k) % 256) 0 i m)
      (held_small point h)

-- ---- the numbers that are packed are those that the packing holds

module _ {sent : Sent} {declared : ℕ} {lent points : List ℕ} (a : Answered sent declared lent points) where
  number-held : (j : ℕ) → j < declared → eight_at points j ≡ get_or (numbers_of sent) j 0
  number-held j l =
      let m : j < length (points_in sent) = omega (arith, a.count) in
      rw a.there (number-there (points_in sent) _ j m (a.small j m)) ∙ sym (map_at held_number (points_in sent) Missing1 0 j m)

  module _ {numbers : List ℕ} (t : Turned declared points numbers) where
    none-missing : (j : ℕ) → j < length (points_in sent) → mark_of (get_or (points_in sent) j Missing1) ≡ 0
    none-missing j l =
        let m : get_or (flat_map point_octets (points_in sent) over lent) (j * point_size) 0 ≡ 0 = rw (← a.there) (t.marks j (omega (arith, a.count))) in
        sym (mark-there (points_in sent) _ j l) ∙ m

    numbers-are : numbers_in numbers ≡ numbers_of sent
    numbers-are =
        let n = whole_ones number_size numbers in
        let long : length (numbers_in numbers) ≡ declared = length-listed n (λ k. number_at numbers (0 + k * 32) 32) ∙ t.all in
        ext_get_or 0 _ _ (long ∙ sym (length-map held_number (points_in sent) ∙ a.count))
        (λ j l.
        let m : j < declared = omega (arith, long) in
        get_or-listed n (λ k. number_at numbers (0 + k * 32) 32) 0 j (omega (arith, t.all)) ∙ rw (zero-add (j * 32)) (sym (t.same j m) ∙ number-held j m))

    demanded : 1 ≤ declared → ((j : ℕ) → j < declared → eight_at points j ≤ 2147483647) → Demanded sent
    demanded some small = record {
      accepted = a.accepted;
      some = omega (arith, a.count);
      none-missing = none-missing;
      small = λ j l. rw (← number-held j (omega (arith, a.count))) (small j (omega (arith, a.count)));
    }

-- ---- a call of packing gives the packing

module _ (k : ℕ) (numbers : List ℕ) (able : Acceptable k numbers) where
  abbrev sent : Sent
  sent = packed_by 0 k numbers

  -- "Splitting method 1, missing management 0"
  kinds-are : (let t = sent.template in record { width = t.width; splitting = 1; management = 0; groups = t.groups; widths = t.widths; lengths = t.lengths }) ≡ sent.template
  unfolding packing_of template_of
  kinds-are = refl

  pub packed-back : (groups payload summary : List ℕ) → EnoughRoom sent groups payload summary → (back : PackCall)
      → back ≡ called_pack (pack k numbers groups payload summary) → (back.number ≡ 0) × (sent_by back ≡ sent)
  packed-back groups payload summary room back e =
      let given = by-packing k numbers able groups payload summary room in
      let limits = (round_trip 0 k numbers able).limits in
      let answer : back.number ≡ 0 = rw e (ap (λ (g : Given). answer_number g.answer) given) in
      let octets : back.payload ≡ sent.payload over payload = rw e (ap (λ (g : Given). g.payload) given) in
      let ten = summary_numbers sent.template sent.template.groups (length sent.payload) in
      let forty : back.summary ≡ in_fours ten over summary = rw e (ap (λ (g : Given). g.summary) given) in
      let n : (j : ℕ) → j < 10 → get_or ten j 0 < 2 ^ 32 → four_at back.summary j ≡ get_or ten j 0 = λ j l h. rw forty (number-read-back _ ten j l h) in
      let length-is : four_at back.summary 9 ≡ length sent.payload = n 9 (omega arith) (omega (arith, limits.payload)) in
      let cut : take (four_at back.summary 9) back.payload ≡ sent.payload = rw (length-is, octets) (take_at sent.payload _ (length sent.payload) refl) in
      let template : (sent_by back).template ≡ sent.template =
      rw (
        n 0 (omega arith) (omega (arith, limits.width)),
        n 1 (omega arith) (omega (arith, limits.few-groups)),
        n 2 (omega arith) (omega (arith, limits.width-reference)),
        n 3 (omega arith) (omega (arith, limits.width-bits)),
        n 4 (omega arith) (omega (arith, limits.length-reference)),
        n 5 (omega arith) (omega (arith, limits.increment)),
        n 6 (omega arith) (omega (arith, limits.last)),
        n 7 (omega arith) (omega (arith, limits.length-bits)),
      )
      kinds-are in
      (answer, rw (template, cut))

-- ---- what was packed is unpacked

abbrev given : UnpackMade → Sent
given u = record { template = u.template; payload = u.payload }

answer-of : (u : UnpackMade) → u.number ≡ 0 → Answered (given u) u.declared u.lent u.points
answer-of u e = answered (given u) u.declared u.lent u.points (ap (λ (n : ℕ). left n u.points) (sym e) ∙ u.ensured)

-- a call of unpacking answers 0 where its packing is accepted, its count declared, and room lent
unpacks : (u : UnpackMade) → Accepted (given u) → length (points_in (given u)) ≡ u.declared → u.declared * point_size ≤ length u.lent → u.number ≡ 0
unpacks u accepted count room =
    let e = ap called (accepted u.lent (omega (arith, count))) in
    ap (λ (x : Left ℕ). x.answer) (u.ensured ∙ sym (rw count at e))

-- what a call of packing gave, unpacked
module _ (k : ℕ) (p : PackMade) (v : UnpackMade) (able : Acceptable k (numbers_in p.numbers)) (gave : sent_by p.back ≡ packed_by 0 k (numbers_in p.numbers)) (r : Resent p v) where
  abbrev packed : List ℕ
  packed = numbers_in p.numbers

  long : length packed ≡ v.declared
  long = length-listed (whole_ones number_size p.numbers) (λ j. number_at p.numbers (0 + j * 32) 32) ∙ sym r.declared

  resent : given v ≡ packed_by 0 k packed
  resent = rw (r.template, r.payload) gave

  points-resent : points_in (given v) ≡ map number_point packed
  points-resent = ap points_in resent ∙ (round_trip 0 k packed able).points

  count-resent : length (points_in (given v)) ≡ v.declared
  count-resent = rw (points-resent, length-map) long

  zero-resent : v.number ≡ 0
  zero-resent = unpacks v (subst Accepted (sym resent) (round_trip 0 k packed able).accepted) count-resent r.room

  turned-resent : Turned v.declared v.points p.numbers
  turned-resent = record {
    all = sym r.declared;
    marks = λ j l. rw a.there (mark-there (points_in (given v)) _ j (omega (arith, count-resent)) ∙ ap mark_of (is j l));
    same = λ j l. rw a.there (number-there (points_in (given v)) _ j (omega (arith, count-resent)) (a.small j (omega (arith, count-resent))) ∙ ap held_number (is j l));
  }
    where
      a : Answered (given v) v.declared v.lent v.points
      a = answer-of v zero-resent

      is : (j : ℕ) → j < v.declared → get_or (points_in (given v)) j Missing1 ≡ number_point (four_at p.numbers j)
      is j l =
          ap (λ (points : List DecodedValue). get_or points j Missing1) points-resent ∙ map_at number_point packed 0 Missing1 j (omega (arith, long))
          ∙ ap number_point (get_or-listed (whole_ones number_size p.numbers) (λ i. number_at p.numbers (0 + i * 32) 32) 0 j (omega (arith, r.declared)) ∙ rw (zero-add (j * 32)))

pub round-trip-of-calls : RoundTripOfCalls
round-trip-of-calls p v zero-packed r =
    let k = p.lookahead in
    let numbers = numbers_in p.numbers in
    let e : answer_number (pack k numbers p.groups p.payload p.summary).answer ≡ 0 = rw p.ensured at zero-packed in
    let able = by-packing-alone k numbers p.groups p.payload p.summary e in
    let gave = packed-back k numbers able.0 p.groups p.payload p.summary able.1 p.back p.ensured in
    (zero-resent k p v able.0 gave.1 r, turned-resent k p v able.0 gave.1 r)

-- ---- two packings, packed again

-- what a caller of unpacking and then packing knows
record Done (k : ℕ) (u : UnpackMade) (p : PackMade) : Type 0 where
  numbers : numbers_in p.numbers ≡ numbers_of (given u)
  able : Acceptable k (numbers_in p.numbers)
  packed : p.back.number ≡ 0
  gave : sent_by p.back ≡ packed_by 0 k (numbers_in p.numbers)

done : (k : ℕ) → Lookahead k → (u : UnpackMade) (p : PackMade) → Answered (given u) u.declared u.lent u.points → Demanded (given u) → Repacked k u p → Done k u p
done k ahead u p a d h =
    let same = numbers-are a h.turned in
    let able : Acceptable k (numbers_in p.numbers) = rw same (taken k ahead (given u) d).clear in
    let e : p.back ≡ called_pack (pack k (numbers_in p.numbers) p.groups p.payload p.summary) = rw h.lookahead at p.ensured in
    let back = packed-back k (numbers_in p.numbers) able p.groups p.payload p.summary h.room p.back e in
    record { numbers = same; able = able; packed = back.0; gave = back.1 }

front : (octets lent : List ℕ) {n : ℕ} → length octets ≡ n → {buffer : List ℕ} → buffer ≡ octets over lent → take n buffer ≡ octets
front octets lent {n} long e = ap (take n) e ∙ take_at octets (drop (length octets) lent) n long

pub of_calls : OfCalls
of_calls k ahead a b pa pb c pc ra ha rb hb r hc =
    let aa = answer-of a ra.accepted in
    let da = demanded aa ha.turned (omega (arith, ra.some)) (λ j l. omega (arith, ra.small j (omega arith))) in
    let ka = done k ahead a pa aa da ha in
    let ab = answer-of b rb.accepted in
    let db = demanded ab hb.turned (omega (arith, rb.some)) (λ j l. omega (arith, rb.small j (omega arith))) in
    let kb = done k ahead b pb ab db hb in
    let once : sent_by pa.back ≡ again 0 k (given a) = ka.gave ∙ ap (packed_by 0 k) ka.numbers in
    let other : sent_by pb.back ≡ again 0 k (given b) = kb.gave ∙ ap (packed_by 0 k) kb.numbers in
    let zero-again = zero-resent k pa c ka.able ka.gave r in
    let sent-again : given c ≡ again 0 k (given a) = resent k pa c ka.able ka.gave r ∙ ap (packed_by 0 k) ka.numbers in
    let still = idempotent 0 k ahead (given a) da in
    let ac = answer-of c zero-again in
    let kc = done k ahead c pc ac (subst Demanded (sym sent-again) still.demanded) hc in
    let octets = flat_map point_octets (points_in (given a)) in
    let long : length octets ≡ a.declared * point_size = size-points (points_in (given a)) ∙ ap (λ (n : ℕ). n * point_size) aa.count in
    let same_points : points_in (given c) ≡ points_in (given a) = ap points_in sent-again ∙ still.points in
    record {
      packed = (ka.packed, kb.packed);
      canonical = (
        λ same. ka.numbers ∙ ap (map held_number) ((canonical 0 k ahead (given a) (given b) da db).0 (sym once ∙ same ∙ other)) ∙ sym kb.numbers,
        λ same. ka.gave ∙ ap (packed_by 0 k) same ∙ sym kb.gave,
      );
      unpacked = zero-again;
      returned = front octets c.lent long (ac.there ∙ ap (λ (points : List DecodedValue). flat_map point_octets points over c.lent) same_points) ∙ sym (front octets a.lent long aa.there);
      once_more = kc.packed;
      idempotent = kc.gave ∙ ap (packed_by 0 k) kc.numbers ∙ ap (again 0 k) sent-again ∙ still.same ∙ sym once;
    }
