-- Each premise of the claims of document 02, No. 4, is needed: small payloads of which all others hold, and which are answered
-- otherwise than is claimed. Assumes nothing.
use mathlib.Core.Path.{◌≡◌, refl, ap, ◌∙◌}
use mathlib.Core.Bool.{false}
use mathlib.Core.List.{List, [], ◌∷◌, flat_map}
use Prim.Native.Nat.{ℕ, suc, ◌+◌, ◌-◌, ◌*◌, ◌^◌, ◌≤◌, ◌<◌}
use native.Mathlib.Omega.{arith}
use lib.ListN.{length, replicate, length-append, length-replicate}
use borrow.Author.Tests.{lt-ltb}
use Rattle.format.specs.Lists.{listed, first_where}
use Rattle.format.specs.Bits.{bit_in, number_of, number_at}
use Rattle.format.specs.Layout.{level_size}
use Rattle.format.specs.Refusals.{limit, first, left}
use Rattle.format.specs.RunLength.{whole_codes, codes_up_to, levels_of, levels_up_to, only_padding, codes_read, repeats_first, run_length_up_to, run_length}
use Rattle.format.specs.Seen.{Seen, lent, refused, levels, unrolls, unrolling}
use Rattle.format.specs.declared.Refusal.TheVariants.{Points}
use Rattle.laws.specs.First.{decides, tests}
use Rattle.run_length.specs.Claims.{run_length_of_all}
use Rattle.std.specs.declared.result.Result.TheVariants.{Err}

-- by document 01's rule
abbrev unrolling_all : ℕ → ℕ → ℕ → List ℕ → Seen
unrolling_all b M declared payload = unrolls (run_length_of_all b M declared payload (lent (declared * level_size)))

-- "Nothing accepted earlier changes": what was refused does
accepted-earlier : (unrolling_all 1 0 1 (0x00 ∷ []) ≡ refused 9 (lent 2 ∷ [])) × (unrolling 1 0 1 (0x00 ∷ []) ≡ levels (0 ∷ []))
unfolding listed first_where flat_map first bit_in number_of levels_of levels_up_to only_padding codes_read repeats_first run_length_up_to
accepted-earlier = (refl, refl)

-- the first code: where there is none, none is read
first-is-read : codes_read 1 0 0 [] ≡ 0
unfolding first_where codes_read
first-is-read = refl

-- ---- the premises of `PaddingLeft`, for n codes

abbrev Low : ℕ → ℕ → Type 0
Low b M = M ≤ 2 ^ b - 1

abbrev LevelFirst : ℕ → ℕ → List ℕ → Type 0
LevelFirst b M payload = repeats_first M (codes_up_to b payload (whole_codes b payload)) ≡ false

abbrev Another : ℕ → List ℕ → ℕ → Type 0
Another b payload n = n < whole_codes b payload

abbrev Reached : ℕ → ℕ → ℕ → List ℕ → ℕ → Type 0
Reached b M declared payload n = length (levels_up_to b M payload n) ≡ declared

abbrev Few : ℕ → List ℕ → ℕ → Type 0
Few b payload n = length payload * 8 - n * b < 8

-- the bits that are left, as one number
abbrev NoneSet : ℕ → List ℕ → ℕ → Type 0
NoneSet b payload n = number_at payload (n * b) (length payload * 8 - n * b) ≡ 0

-- M of more than b bits is 5
low : LevelFirst 1 2 (0x00 ∷ []) × (1 ≤ limit) × Another 1 (0x00 ∷ []) 1 × Reached 1 2 1 (0x00 ∷ []) 1 × Few 1 (0x00 ∷ []) 1 × NoneSet 1 (0x00 ∷ []) 1
    × (unrolling_all 1 2 1 (0x00 ∷ []) ≡ refused 5 (lent 2 ∷ []))
unfolding listed bit_in number_of first levels_of levels_up_to repeats_first run_length_up_to
low = (refl, omega arith, omega arith, refl, omega arith, refl, refl)

-- a repeat first is 11
level-first : Low 1 0 × (0 ≤ limit) × Another 1 (0x80 ∷ []) 1 × Reached 1 0 0 (0x80 ∷ []) 1 × Few 1 (0x80 ∷ []) 1 × NoneSet 1 (0x80 ∷ []) 1
    × (unrolling_all 1 0 0 (0x80 ∷ []) ≡ refused 11 (lent 0 ∷ []))
unfolding listed bit_in number_of first levels_of levels_up_to repeats_first run_length_up_to
level-first = (omega arith, omega arith, omega arith, refl, omega arith, refl, refl)

-- without another code all are read: none of none
another : Low 1 0 × LevelFirst 1 0 [] × (0 ≤ limit) × Reached 1 0 0 [] 0 × Few 1 [] 0 × NoneSet 1 [] 0 × (unrolling_all 1 0 0 [] ≡ levels [])
unfolding listed flat_map number_of first levels_of levels_up_to repeats_first run_length_up_to
another = (omega arith, refl, omega arith, refl, omega arith, refl, refl)

-- where the count is not reached it is 9: one level, and none is declared
reached : Low 1 0 × LevelFirst 1 0 (0x00 ∷ []) × (0 ≤ limit) × Another 1 (0x00 ∷ []) 1 × Few 1 (0x00 ∷ []) 1 × NoneSet 1 (0x00 ∷ []) 1
    × (unrolling 1 0 0 (0x00 ∷ []) ≡ refused 9 (lent 0 ∷ []))
unfolding listed first_where bit_in number_of first levels_of levels_up_to only_padding codes_read repeats_first run_length_up_to
reached = (omega arith, refl, omega arith, omega arith, omega arith, refl, refl)

-- eight bits are read on
few : Low 1 0 × LevelFirst 1 0 (0x00 ∷ []) × (0 ≤ limit) × Another 1 (0x00 ∷ []) 0 × Reached 1 0 0 (0x00 ∷ []) 0 × NoneSet 1 (0x00 ∷ []) 0
    × (unrolling 1 0 0 (0x00 ∷ []) ≡ refused 9 (lent 0 ∷ []))
unfolding listed first_where bit_in number_of first levels_of levels_up_to only_padding codes_read repeats_first run_length_up_to
few = (omega arith, refl, omega arith, omega arith, refl, refl, refl)

-- and so is a 1 among fewer
none-set : Low 1 1 × LevelFirst 1 1 (0x01 ∷ []) × (1 ≤ limit) × Another 1 (0x01 ∷ []) 1 × Reached 1 1 1 (0x01 ∷ []) 1 × Few 1 (0x01 ∷ []) 1
    × (unrolling 1 1 1 (0x01 ∷ []) ≡ refused 9 (lent 2 ∷ []))
unfolding listed first_where bit_in number_of first levels_of levels_up_to only_padding codes_read repeats_first run_length_up_to
none-set = (omega arith, refl, omega arith, omega arith, refl, omega arith, refl)

-- More levels than the limit: level 0, five digits 0 and digit 6 of base 15, then padding. So long a list is not computed: each
-- code adds to its length.
abbrev long : List ℕ
long = 0x01 ∷ 0x11 ∷ 0x11 ∷ 0x70 ∷ []

repeated : (M base level weight code : ℕ) (codes : List ℕ) → M < code
    → length (levels_of M base level weight (code ∷ codes)) ≡ (code - M - 1) * weight + length (levels_of M base level (weight * base) codes)
unfolding levels_of
repeated M base level weight code codes l =
    rw (lt-ltb M code l)
    (length-append (replicate ((code - M - 1) * weight) level) (levels_of M base level (weight * base) codes)
    ∙ ap (λ (n : ℕ). n + length (levels_of M base level (weight * base) codes)) (length-replicate ((code - M - 1) * weight) level))

none : length (levels_of 0 15 0 11390625 []) ≡ 0
unfolding levels_of
none = refl

level-zero : (base : ℕ) (codes : List ℕ) → length (levels_of 0 base 0 1 (0 ∷ codes)) ≡ suc (length (levels_of 0 base 0 1 codes))
unfolding levels_of
level-zero base codes = refl

digits : length (levels_of 0 15 0 1 (1 ∷ 1 ∷ 1 ∷ 1 ∷ 1 ∷ 7 ∷ [])) ≡ 4556250
digits =
    omega (
      arith,
      repeated 0 15 0 1 1 (1 ∷ 1 ∷ 1 ∷ 1 ∷ 7 ∷ []) (omega arith),
      repeated 0 15 0 15 1 (1 ∷ 1 ∷ 1 ∷ 7 ∷ []) (omega arith),
      repeated 0 15 0 225 1 (1 ∷ 1 ∷ 7 ∷ []) (omega arith),
      repeated 0 15 0 3375 1 (1 ∷ 7 ∷ []) (omega arith),
      repeated 0 15 0 50625 1 (7 ∷ []) (omega arith),
      repeated 0 15 0 759375 7 [] (omega arith),
      none,
    )

count : Reached 4 0 4556251 long 7
unfolding listed bit_in number_of levels_up_to
count = level-zero 15 (1 ∷ 1 ∷ 1 ∷ 1 ∷ 1 ∷ 7 ∷ []) ∙ ap suc digits

limited : Low 4 0 × LevelFirst 4 0 long × Another 4 long 7 × Few 4 long 7 × NoneSet 4 long 7 × (left (Err Points) [] ≡ run_length 4 0 4556251 long [])
unfolding listed bit_in number_of repeats_first run_length_up_to
limited = (omega arith, refl, omega arith, omega arith, refl, decides _ Points _ _ (omega (arith, tests)))
