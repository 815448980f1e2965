-- The claims of document 02, No. 4. Assumes nothing.
use mathlib.Core.Path.{◌≡◌, refl, sym, ap, subst, ◌∙◌}
use mathlib.Core.Logic.{◌⊎◌, inl, inr, ⊎_elim}
use mathlib.Core.Bool.{Bool, true, false}
use mathlib.Core.List.{List, [], flat_map}
use Prim.Native.Nat.{ℕ, zero, suc, ◌-◌, ◌*◌, ◌/◌, ◌^◌, ◌≤◌, ◌<◌}
use native.Mathlib.Nat.{div-zero, pos_of_div-pos, zero-mul}
use native.Mathlib.Omega.{arith}
use lib.Dec.{eqb, ltb}
use lib.ListN.{length}
use borrow.Author.Tests.{ltb-true, ltb-false, eqb-true, eq-eqb}
use Rattle.format.specs.Refusals.{Row, limit, first, room_refusals, refusal_number, answer_number, Left, left}
use Rattle.format.specs.Lists.{◌over◌}
use Rattle.format.specs.Layout.{level_size, level_octets}
use Rattle.format.specs.RunLength.{whole_codes, codes_up_to, levels_up_to, only_padding, stops_before, codes_read, repeats_first, run_length_refusals, run_length_up_to, run_length}
use Rattle.format.specs.declared.Refusal.{Refusal}
use Rattle.format.specs.declared.Refusal.TheVariants.{Width, Repeat, Points}
use Rattle.laws.specs.First.{Gives, decides, leaves, tests}
use Rattle.laws.specs.Lists.{both, where-up-to, where-holds, where-is}
use Rattle.laws.specs.RunLength.{padding-few, padding-zero, zero-padding, length-padded}
use Rattle.run_length.specs.Claims.{run_length_of_all, NothingAcceptedChanges, PaddingLeft, NineNarrowed, FirstIsRead, NumberFour}
use Rattle.run_length.proofs.Codes.{whole-bits}
use Rattle.std.specs.declared.result.Result.{Result}
use Rattle.std.specs.declared.result.Result.TheVariants.{Ok, Err}

module _ (b M declared : ℕ) (payload lent : List ℕ) where
  abbrev rows : ℕ → List Row
  rows n = run_length_refusals b M declared payload n lent

  -- a refusal of the first n codes
  given : (n : ℕ) (r : Refusal) → Gives (refusal_number r) (rows n) → left (Err r) lent ≡ run_length_up_to b M declared payload n lent
  unfolding run_length_up_to
  given n r h = decides _ r _ _ h

  -- the two rules refuse alike
  alike : (r : Refusal) → Gives (refusal_number r) (rows (codes_read b M declared payload)) → Gives (refusal_number r) (rows (whole_codes b payload))
      → run_length b M declared payload lent ≡ run_length_of_all b M declared payload lent
  alike r new old = sym (given (codes_read b M declared payload) r new) ∙ given (whole_codes b payload) r old

  -- a code of no bits is no whole one, and one among fewer than 8 bits has at most 7
  narrow : (n : ℕ) → n < whole_codes b payload → length payload * 8 - n * b < 8 → (0 < b) × (b ≤ 7)
  narrow n another few = (some, omega (arith, few, whole-bits b payload n some another))
    where
      by_number : (m : ℕ) → b ≡ m → 0 < m
      by_number zero e = absurd (omega (arith, another, div-zero (length payload * 8), ap (λ (m : ℕ). length payload * 8 / m) e))
      by_number (suc m) e = omega arith

      some : 0 < b
      some = by_number b refl

  -- ---- where reading stops before a code

  stopped : (n : ℕ) → stops_before b M declared payload n ≡ true → (length (levels_up_to b M payload n) ≡ declared) × (only_padding payload (n * b) ≡ true)
  stopped n h =
      let p = both (eqb (length (levels_up_to b M payload n)) declared) (only_padding payload (n * b)) h in
      (eqb-true (length (levels_up_to b M payload n)) declared p.0, p.1)

  module _ (short : codes_read b M declared payload < whole_codes b payload) where
    abbrev read : ℕ
    read = codes_read b M declared payload

    stops : stops_before b M declared payload read ≡ true
    unfolding codes_read
    stops = where-holds (whole_codes b payload) (stops_before b M declared payload) short

    reached : length (levels_up_to b M payload read) ≡ declared
    reached = (stopped read stops).0

    padding : only_padding payload (read * b) ≡ true
    padding = (stopped read stops).1

    few : length payload * 8 - read * b < 8
    few = padding-few payload (read * b) padding

    -- 5, 11 and the limit of 9 refuse by both rules
    by_tests : (t u v : Bool) → ltb (2 ^ b - 1) M ≡ t → repeats_first M (codes_up_to b payload (whole_codes b payload)) ≡ u → ltb limit declared ≡ v
        → (run_length b M declared payload lent ≡ run_length_of_all b M declared payload lent) ⊎ PaddingLeft b M declared payload
    by_tests true u v h i j = inl (alike Width (omega (arith, tests, narrow read short few)) (omega (arith, tests, narrow read short few)))
    by_tests false true v h i j = inl (alike Repeat (omega (arith, tests, narrow read short few)) (omega (arith, tests, narrow read short few)))
    by_tests false false true h i j = inl (alike Points (omega (arith, tests, narrow read short few)) (omega (arith, tests, narrow read short few)))
    by_tests false false false h i j = inr record {
      low = ltb-false (2 ^ b - 1) M h;
      level-first = i;
      limited = ltb-false limit declared j;
      codes = read;
      another = short;
      reached = reached;
      few = few;
      none-set = padding-zero payload (read * b) padding;
    }

  elsewhere : (run_length b M declared payload lent ≡ run_length_of_all b M declared payload lent) ⊎ PaddingLeft b M declared payload
  unfolding codes_read
  elsewhere = by-test (ltb (codes_read b M declared payload) (whole_codes b payload)) refl
    where
      by-test : (t : Bool) → ltb (codes_read b M declared payload) (whole_codes b payload) ≡ t
          → (run_length b M declared payload lent ≡ run_length_of_all b M declared payload lent) ⊎ PaddingLeft b M declared payload
      by-test true h = by_tests (ltb-true (codes_read b M declared payload) (whole_codes b payload) h) _ _ _ refl refl refl
      by-test false h =
          let all : codes_read b M declared payload ≡ whole_codes b payload =
          omega (arith, ltb-false (codes_read b M declared payload) (whole_codes b payload) h, where-up-to (whole_codes b payload) (stops_before b M declared payload)) in
          inl (ap (λ (n : ℕ). run_length_up_to b M declared payload n lent) all)

  -- ---- where only padding is left

  module _ (p : PaddingLeft b M declared payload) where
    padded : only_padding payload (p.codes * b) ≡ true
    padded = zero-padding payload (p.codes * b) p.few p.none-set

    -- before an earlier code the count is not reached: there would be more levels by now
    earlier : (n : ℕ) → n < p.codes → stops_before b M declared payload n ≡ false
    earlier n l = by-test (stops_before b M declared payload n) refl
      where
        by-test : (t : Bool) → stops_before b M declared payload n ≡ t → stops_before b M declared payload n ≡ false
        by-test true h = absurd (omega (arith, p.reached, (stopped n h).0, length-padded b M payload n p.codes (stopped n h).1 l))
        by-test false h = h

    read_is : codes_read b M declared payload ≡ p.codes
    unfolding codes_read
    read_is =
        where-is (whole_codes b payload) (stops_before b M declared payload) p.codes (omega (arith, p.another)) earlier
        (λ l. rw (eq-eqb (length (levels_up_to b M payload p.codes)) declared p.reached, padded))

    -- all codes mean more levels than are declared
    refused : run_length_of_all b M declared payload lent ≡ left (Err Points) lent
    refused =
        sym
        (given (whole_codes b payload) Points
        (omega (arith, tests, p.low, p.level-first, p.limited, p.reached, length-padded b M payload p.codes (whole_codes b payload) padded p.another, narrow p.codes p.another p.few)))

    -- those that are read mean as many, and what is left to refuse is 10
    accepted : run_length b M declared payload lent
        ≡ first (λ r. left (Err r) lent) (room_refusals level_size lent declared)
        (left (Ok declared) (flat_map level_octets (levels_up_to b M payload p.codes) over lent))
    unfolding run_length_up_to
    accepted =
        ap (λ (n : ℕ). run_length_up_to b M declared payload n lent) read_is
        ∙ sym
        (leaves (λ r. left (Err r) lent) 6 (rows p.codes) _
        (omega (arith, tests, p.low, p.level-first, p.limited, p.reached, narrow p.codes p.another p.few)))

nine-narrowed : NineNarrowed
nine-narrowed b M declared payload lent = record {
  elsewhere = elsewhere b M declared payload lent;
  refused = refused b M declared payload lent;
  accepted = accepted b M declared payload lent;
}

nothing-accepted-changes : NothingAcceptedChanges
nothing-accepted-changes b M declared payload lent count e =
    ⊎_elim (λ same. same)
    (λ p. absurd (omega (arith, ap answer_number (sym (ap (λ (l : Left (Result ℕ Refusal)). l.answer) (refused b M declared payload lent p)) ∙ e))))
    (elsewhere b M declared payload lent)

-- before it there are eight bits and more
first-is-read : FirstIsRead
unfolding codes_read
first-is-read b M declared payload h = by_number (codes_read b M declared payload) refl
  where
    by_number : (n : ℕ) → codes_read b M declared payload ≡ n → 0 < n
    by_number zero e =
        let short : codes_read b M declared payload < whole_codes b payload = omega arith in
        let left : length payload * 8 - 0 * b < 8 = subst (λ (n : ℕ). length payload * 8 - n * b < 8) e (few b M declared payload [] short) in
        absurd (omega (arith, zero-mul b, pos_of_div-pos {n = length payload * 8} b h))
    by_number (suc n) e = omega arith

pub number-four : NumberFour
number-four = (nothing-accepted-changes, nine-narrowed, first-is-read)
