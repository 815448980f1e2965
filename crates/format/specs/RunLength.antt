-- Document 01, "Run-length, template 7.200", and document 02, No. 4, which amends where reading ends. Assumes nothing.
use Rattle.std.specs.Prelude.{ℕ, ◌-◌, ◌*◌, ◌/◌, ◌^◌, Bool, false, cond, ◌&&◌, eqb, ltb, length, replicate}
use mathlib.Core.List.{List, [], ◌∷◌, ◌++◌, flat_map}
use Rattle.format.specs.Lists.{first_where, ◌over◌}
use Rattle.format.specs.Bits.{number_at, field_of}
use Rattle.format.specs.Layout.{level_size, level_octets}
use Rattle.format.specs.Refusals.{Row, ◌gives◌, first, count_refusals, room_refusals, Left, left}
use Rattle.format.specs.declared.Refusal.TheVariants.{Width, Repeat}
use Rattle.format.specs.declared.Refusal.{Refusal}
use Rattle.std.specs.declared.result.Result.{Result}
use Rattle.std.specs.declared.result.Result.TheVariants.{Ok, Err}

-- "All whole codes in the payload are read; fewer than b bits at the end are ignored.": how many whole ones there are
abbrev pub whole_codes : ℕ → List ℕ → ℕ
whole_codes b payload = length payload * 8 / b

-- the first n codes
abbrev pub codes_up_to : ℕ → List ℕ → ℕ → List ℕ
codes_up_to b payload n = field_of payload 0 b n

-- "With b bits and greatest level M, codes 0 to M are levels; the base is 2^b − 1 − M."
abbrev pub base_of : ℕ → ℕ → ℕ
base_of b M = 2 ^ b - 1 - M

-- "A code above M repeats the last level (code − M − 1) × base^j more times, j being the count of repeat codes since that
-- level.": the last level, and its next weight base^j
unfoldable pub levels_of : ℕ → ℕ → ℕ → ℕ → List ℕ → List ℕ
levels_of M base level weight [] = []
levels_of M base level weight (code ∷ codes) =
    cond (ltb M code)
    (replicate ((code - M - 1) * weight) level ++ levels_of M base level (weight * base) codes)
    (code ∷ levels_of M base code 1 codes)

-- the levels that the first n codes mean; before the first level there is none to repeat
unfoldable pub levels_up_to : ℕ → ℕ → List ℕ → ℕ → List ℕ
levels_up_to b M payload n = levels_of M (base_of b M) 0 1 (codes_up_to b payload n)

-- Document 02, No. 4: "once the declared count is reached, reading stops before any code where fewer than 8 bits are left, all
-- zero; else it goes on". First "fewer than 8 bits are left, all zero": from bit p on
unfoldable pub only_padding : List ℕ → ℕ → Bool
only_padding payload p =
    let bits_left = length payload * 8 - p in
    ltb bits_left 8
    && eqb (number_at payload p bits_left) 0

-- "once the declared count is reached, reading stops before" the code behind n others. Reached is equal: with more it is 9 either
-- way
abbrev pub stops_before : ℕ → ℕ → ℕ → List ℕ → ℕ → Bool
stops_before b M declared payload n = eqb (length (levels_up_to b M payload n)) declared && only_padding payload (n * b)

-- "else it goes on": how many codes are read, those before the first such one, or all whole ones
unfoldable pub codes_read : ℕ → ℕ → ℕ → List ℕ → ℕ
codes_read b M declared payload = first_where (whole_codes b payload) (stops_before b M declared payload)

-- "the first run-length code is a repeat"
unfoldable pub repeats_first : ℕ → List ℕ → Bool
repeats_first M [] = false
repeats_first M (code ∷ codes) = ltb M code

-- 5: "run-length b not 1 to 15 or M above 2^b − 1"
abbrev pub code_refusals : ℕ → ℕ → List Row
code_refusals b M =
    eqb b 0 gives Width
    ∷ ltb 15 b gives Width
    ∷ ltb (2 ^ b - 1) M gives Width
    ∷ []

-- "Run-length: 5, 11, 9, 10.": where the first n codes are read. 11 looks at the first of all, which reading never stops before
abbrev pub run_length_refusals : ℕ → ℕ → ℕ → List ℕ → ℕ → List ℕ → List Row
run_length_refusals b M declared payload n lent =
    code_refusals b M
    ++ (repeats_first M (codes_up_to b payload (whole_codes b payload)) gives Repeat ∷ [])
    ++ count_refusals (length (levels_up_to b M payload n)) declared
    ++ room_refusals level_size lent declared

unfoldable pub run_length_up_to : ℕ → ℕ → ℕ → List ℕ → ℕ → List ℕ → Left (Result ℕ Refusal)
run_length_up_to b M declared payload n lent =
    first (λ r. left (Err r) lent) (run_length_refusals b M declared payload n lent)
    (left (Ok declared) (flat_map level_octets (levels_up_to b M payload n) over lent))

abbrev pub run_length : ℕ → ℕ → ℕ → List ℕ → List ℕ → Left (Result ℕ Refusal)
run_length b M declared payload lent = run_length_up_to b M declared payload (codes_read b M declared payload) lent
