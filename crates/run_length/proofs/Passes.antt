-- Unrolled through the codes that are read. Assumes nothing.
use mathlib.Core.Path.{◌≡◌, refl, sym, ap, ◌∙◌}
use mathlib.Core.Bool.{Bool, true, false, ◌||◌}
use mathlib.Core.List.{List, [], ◌∷◌, ◌++◌, append_assoc, append-nil, flat_map}
use Prim.Native.Nat.{ℕ, zero, suc, ◌+◌, ◌-◌, ◌*◌, ◌≤◌, ◌<◌, min}
use native.Mathlib.Nat.{sub-zero, zero-sub, zero-mul, zero-add, add-mul, one-mul}
use native.Mathlib.Omega.{arith}
use lib.Dec.{eqb, ltb}
use borrow.Author.Tests.{ltb-false}
use Rattle.std.proofs.Common.{length-take-le}
use lib.ListN.{length, replicate, take, drop, drop_of_length-le, length-replicate}
use lib.Seq.{sets, length-sets, take-nil, take_all}
use mir.Val.{Fits}
use mir.Syntax.{w64}
use Rattle.format.specs.Lists.{listed, whole_ones, ◌over◌}
use Rattle.format.specs.Refusals.{Row, limit, refusal_number, left}
use Rattle.format.specs.Bits.{number_at}
use Rattle.format.specs.Layout.{level_size, level_octets}
use Rattle.format.specs.RunLength.{base_of, codes_up_to, levels_of, levels_up_to, stops_before, codes_read, code_refusals, run_length_refusals, run_length_up_to, run_length}
use Rattle.format.specs.declared.Refusal.{Refusal}
use Rattle.laws.specs.First.{Gives, Clear, gives-front, decides, clears}
use Rattle.laws.specs.Lists.{length-listed, length_more, listed_more, either_left, either-right}
use Rattle.laws.specs.Stores.{length-flat, flat-over}
use Rattle.run_length.specs.Runs.{cap, place_of, Coding, Within, meaning, Exactly, More, Unrolling, first_run}
use Rattle.run_length.specs.declared.Run.{Run}
use Rattle.run_length.specs.declared.Turn.{Turn}
use Rattle.run_length.proofs.Turns.{taken-code}
use Rattle.run_length.proofs.Codes.{ends, read-up-to, goes-on-more}
use Rattle.run_length.proofs.Caps.{sum-capped, rest-capped, equal-capped}
use Rattle.std.specs.declared.result.Result.TheVariants.{Ok, Err}

first-within : (payload : List ℕ) → Within payload first_run
first-within payload = record { bit-low = omega arith; inside = omega arith; level-low = omega arith; weight-low = omega arith }

-- ---- repeating a level

size-level : (level : ℕ) → length (level_octets level) ≡ level_size
size-level level = length-listed level_size _

-- ---- walking

-- `taken` codes stand before the run, reading stops before none of them, and the levels that they mean are counted and stored
pub record UnrolledTo (b M declared : ℕ) (payload : List ℕ) (room : ℕ) (lent : List ℕ) (r : Run) (points : ℕ) (levels : List ℕ) : Type 0 where
  pub within : Within payload r
  pub taken : ℕ
  pub place : place_of r ≡ taken * b
  pub goes_on : (n : ℕ) → n < taken → stops_before b M declared payload n ≡ false
  pub weight : ℕ
  pub weight_is : r.weight ≡ min weight cap
  pub behind : (codes : List ℕ) → levels_of M (base_of b M) 0 1 (codes_up_to b payload taken ++ codes) ≡ levels_up_to b M payload taken ++ levels_of M (base_of b M) r.level weight codes
  pub count : points ≡ min (length (levels_up_to b M payload taken)) cap
  pub long : length levels ≡ length lent
  pub there : levels ≡ flat_map level_octets (take room (levels_up_to b M payload taken)) over lent

pub unrolled-start : (b M declared : ℕ) (payload : List ℕ) (room : ℕ) (lent : List ℕ) {r : Run} → r ≡ first_run → UnrolledTo b M declared payload room lent r 0 lent
unfolding flat_map levels_up_to levels_of listed
unrolled-start b M declared payload room lent e = rw e record {
  within = first-within payload;
  taken = 0;
  place = sym (zero-mul b);
  goes_on = λ n l. absurd (omega arith);
  weight = 1;
  weight_is = refl;
  behind = λ codes. refl;
  count = refl;
  long = refl;
  there = rw (take-nil {A = ℕ} room);
}

-- of n more of one level, those that there is still room for
take-append : (n : ℕ) (xs ys : List ℕ) → take n (xs ++ ys) ≡ take n xs ++ take (n - length xs) ys
take-append n [] ys = rw (take-nil {A = ℕ} n, sub-zero n)
take-append zero (x ∷ xs) ys = rw (zero-sub (suc (length xs)))
take-append (suc n) (x ∷ xs) ys =
    let e : suc n - suc (length xs) ≡ n - length xs = omega arith in
    rw e (ap (λ (l : List ℕ). x ∷ l) (take-append n xs ys))

take-replicate : (m n level : ℕ) → take m (replicate n level) ≡ replicate (min m n) level
take-replicate zero n level = let e : min 0 n ≡ 0 = omega arith in rw e
take-replicate (suc m) zero level = let e : min (suc m) 0 ≡ 0 = omega arith in rw e
take-replicate (suc m) (suc n) level = let e : min (suc m) (suc n) ≡ suc (min m n) = omega arith in rw e (ap (λ (l : List ℕ). level ∷ l) (take-replicate m n level))

take_more : (room : ℕ) (done : List ℕ) (n level : ℕ) → take room (done ++ replicate n level) ≡ take room done ++ replicate (min (length done + n) room - length done) level
take_more room done n level =
    let e : min (room - length done) n ≡ min (length done + n) room - length done = omega arith in
    take-append room done (replicate n level)
    ∙ ap (λ (l : List ℕ). take room done ++ l) (take-replicate (room - length done) n level ∙ ap (λ (m : ℕ). replicate m level) e)

module _ {b M declared : ℕ} {payload : List ℕ} {room : ℕ} {lent : List ℕ} {r : Run} {points : ℕ} {levels : List ℕ} (w : UnrolledTo b M declared payload room lent r points levels) where
  -- the levels of the codes that are taken
  abbrev done : List ℕ
  done = levels_up_to b M payload w.taken

  module _ (low : room ≤ limit) (fits : room * level_size ≤ length lent) (on : stops_before b M declared payload w.taken ≡ false)
      {n : ℕ} {next : Run} (m : More b M payload r n next) {end : ℕ} (ee : end ≡ min (points + n) cap) where
    x : Exactly b M (number_at payload (place_of r) b) r w.weight n next
    x = m.exact w.weight w.weight_is

    abbrev more : List ℕ
    more = done ++ replicate x.count next.level

    -- one code more is taken
    codes-more : codes_up_to b payload (w.taken + 1) ≡ codes_up_to b payload w.taken ++ (number_at payload (place_of r) b ∷ [])
    codes-more = listed_more w.taken (λ k. number_at payload (0 + k * b) b) ∙ rw (zero-add (w.taken * b), w.place)

    behind_more : (codes : List ℕ) → levels_of M (base_of b M) 0 1 (codes_up_to b payload (w.taken + 1) ++ codes) ≡ more ++ levels_of M (base_of b M) next.level x.after codes
    behind_more codes =
        rw (codes-more, append_assoc (codes_up_to b payload w.taken) (number_at payload (place_of r) b ∷ []) codes)
        (w.behind (number_at payload (place_of r) b ∷ codes) ∙ ap (λ (l : List ℕ). done ++ l) (x.levels codes)
        ∙ sym (append_assoc done (replicate x.count next.level) (levels_of M (base_of b M) next.level x.after codes)))

    levels-more : levels_up_to b M payload (w.taken + 1) ≡ more
    unfolding levels_up_to levels_of
    levels-more =
        ap (levels_of M (base_of b M) 0 1) (sym (append-nil (codes_up_to b payload (w.taken + 1)))) ∙ behind_more [] ∙ append-nil more

    end_is : end ≡ min (length done + x.count) cap
    end_is = sum-capped (length done) x.count n cap w.count x.count-is ee

    -- as many are stored as there is still room for
    take-is : take room more ≡ take room done ++ replicate (min end room - points) next.level
    take-is =
        let e : min (length done + x.count) room - length done ≡ min end room - points = rest-capped (length done) (length done + x.count) cap room (omega arith) w.count end_is refl in
        take_more room done x.count next.level ∙ ap (λ (q : ℕ). take room done ++ replicate q next.level) e

    stored : (c : ℕ) → min end room - points ≡ c → sets (flat_map level_octets (take room done) over lent) (points * level_size) (flat_map level_octets (replicate c next.level))
        ≡ flat_map level_octets (take room done ++ replicate c next.level) over lent
    unfolding flat_map
    stored zero e = rw (append-nil (take room done))
    stored (suc c) e =
        let few : length done ≤ room = omega (arith, w.count) in
        let same : points ≡ length (take room done) = rw (take_all room done few) (omega (arith, w.count)) in
        rw same
        (flat-over level_octets level_size size-level lent (take room done) (replicate (suc c) next.level)
        (omega (arith, same, length-replicate c next.level)))

    unrolled-more : {levels' : List ℕ} → levels' ≡ sets levels (points * level_size) (flat_map level_octets (replicate (min end room - points) next.level))
        → UnrolledTo b M declared payload room lent next end levels'
    unrolled-more {levels'} e = record {
      within = m.within;
      taken = w.taken + 1;
      place = m.ahead ∙ omega (arith, w.place, add-mul w.taken 1 b, one-mul b);
      goes_on = goes-on-more b M declared payload w.taken w.goes_on on;
      weight = x.after;
      weight_is = x.after_is;
      behind = λ codes. behind_more codes ∙ ap (λ (l : List ℕ). l ++ levels_of M (base_of b M) next.level x.after codes) (sym levels-more);
      count = end_is ∙ ap (λ (q : ℕ). min q cap) (sym (length_more done x.count next.level) ∙ ap length (sym levels-more));
      long = ap length e ∙ length-sets levels (points * level_size) (flat_map level_octets (replicate (min end room - points) next.level)) ∙ w.long;
      there =
          e ∙ ap (λ (l : List ℕ). sets l (points * level_size) (flat_map level_octets (replicate (min end room - points) next.level))) w.there
          ∙ stored (min end room - points) refl ∙ ap (λ (l : List ℕ). flat_map level_octets l over lent) (sym take-is ∙ ap (take room) (sym levels-more));
    }

  -- ---- a turn of the loop

  module _ (c : Coding b M) (low : declared ≤ limit) {reached t : Bool} (er : reached ≡ eqb points declared) (et : t ≡ ends payload r.octet.0 r.bit b reached) where
    -- what ends the loop, by the codes that are taken: a count that stops at the cap is no declared one
    ends_by : t ≡ (ltb (length payload * 8) (w.taken * b + b) || stops_before b M declared payload w.taken)
    ends_by =
        let same : eqb points declared ≡ eqb (length done) declared = equal-capped (length done) declared cap (omega arith) w.count in
        et ∙ rw (er, same, w.place)

    pub unrolled-end : t ≡ true → Unrolling b M declared payload room lent points levels
    unrolled-end h =
        let read : codes_read b M declared payload ≡ w.taken = read-up-to b M declared payload w.taken c.some (omega (arith, w.within.inside, w.place)) w.goes_on (sym ends_by ∙ h) in
        record { count = rw read w.count; there = rw read w.there }

    module _ (left : t ≡ false) where
      inside : place_of r + b ≤ length payload * 8
      inside = omega (arith, w.place, ltb-false (length payload * 8) (w.taken * b + b) (either_left _ (stops_before b M declared payload w.taken) (sym ends_by ∙ left)))

      on-here : stops_before b M declared payload w.taken ≡ false
      on-here = either-right (ltb (length payload * 8) (w.taken * b + b)) _ (sym ends_by ∙ left)

      module _ {x : Turn} (ex : x ≡ meaning b M r (number_at payload (place_of r) b)) where
        taken_more : More b M payload r x.points x.next
        taken_more = taken-code c w.within inside ex

        -- a count that stops at the cap is far from wrapping
        pub unrolled-fits : Fits w64 (points + x.points)
        unrolled-fits = record { fits = omega (arith, taken_more.few, w.count) }

        pub unrolled-next : room ≤ limit → room * level_size ≤ length lent → {end : ℕ} → end ≡ min (points + x.points) cap → {levels' : List ℕ}
            → levels' ≡ sets levels (points * level_size) (flat_map level_octets (replicate (min end room - points) x.next.level)) → UnrolledTo b M declared payload room lent x.next end levels'
        unrolled-next low fits ee e = unrolled-more low fits on-here taken_more ee e

-- ---- what a caller knows

module _ {b M declared points : ℕ} {payload levels : List ℕ} (w : Unrolling b M declared payload 0 [] points levels) (e : points ≡ declared) (low : declared ≤ limit) where
  abbrev all : List ℕ
  all = levels_up_to b M payload (codes_read b M declared payload)

  -- a count below the cap is that of the levels
  counted-all : length all ≡ declared
  counted-all = omega (arith, w.count, e, low)

  -- and octets for all of them hold all of them, in front of the octets behind
  pub unrolling-all : (lent : List ℕ) {points' : ℕ} {front levels' : List ℕ} → declared ≤ whole_ones level_size lent → front ≡ take (declared * level_size) lent
      → Unrolling b M declared payload (whole_ones level_size front) front points' levels' → levels' ++ drop (declared * level_size) lent ≡ flat_map level_octets all over lent
  unrolling-all lent {front = front} {levels' = levels'} m ef w' =
      let long : length front ≡ declared * level_size = ap length ef ∙ length-take-le (declared * level_size) lent (omega arith) in
      let octets : length (flat_map level_octets all) ≡ declared * level_size = length-flat level_octets level_size size-level all ∙ ap (λ (n : ℕ). n * level_size) counted-all in
      let whole : take (whole_ones level_size front) all ≡ all = take_all (whole_ones level_size front) all (omega (arith, counted-all, long)) in
      let there : levels' ≡ flat_map level_octets all =
      w'.there ∙ rw (whole, octets, drop_of_length-le front {i = declared * level_size} (omega (arith, long))) (append-nil (flat_map level_octets all)) in
      rw (there, octets)

-- ---- the answers

module _ (b M declared : ℕ) (payload lent : List ℕ) where
  abbrev rows : List Row
  rows = run_length_refusals b M declared payload (codes_read b M declared payload) lent

  -- a refusal: the lent octets are as they were
  pub refused-behind : (r : Refusal) → Gives (refusal_number r) rows → left (Err r) lent ≡ run_length b M declared payload lent
  unfolding run_length_up_to
  refused-behind r h = decides _ r _ _ h

  pub refused-code : (r : Refusal) → Gives (refusal_number r) (code_refusals b M) → left (Err r) lent ≡ run_length b M declared payload lent
  refused-code r h = refused-behind r (gives-front (refusal_number r) (code_refusals b M) (drop (length (code_refusals b M)) rows) h)

  pub stored-behind : {levels : List ℕ} → levels ≡ flat_map level_octets (levels_up_to b M payload (codes_read b M declared payload)) over lent → Clear rows
      → left (Ok declared) levels ≡ run_length b M declared payload lent
  unfolding run_length_up_to
  stored-behind e h = ap (left (Ok declared)) e ∙ clears _ _ _ h
