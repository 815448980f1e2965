-- Document 02, No. 5, "Writing run-length maps". Assumes nothing.
use Rattle.std.specs.Prelude.{ℕ, zero, suc, ◌+◌, ◌-◌, ◌/◌, ◌%◌, cond, eqb, ltb, length, replicate}
use mathlib.Core.List.{List, [], ◌∷◌, ◌++◌, map, flat_map}
use Rattle.format.specs.Lists.{any_of, ◌over◌}
use Rattle.format.specs.Bits.{string_of, padded}
use Rattle.format.specs.Refusals.{Row, ◌gives◌, first, limit, Left, left}
use Rattle.format.specs.RunLength.{base_of, code_refusals}
use Rattle.format.specs.declared.Refusal.TheVariants.{Room, Numbers}
use Rattle.format.specs.declared.LevelRun.{LevelRun}
use Rattle.format.specs.declared.Refusal.{Refusal}
use Rattle.format.specs.declared.OctetPlace.{OctetPlace}
use Rattle.std.specs.declared.result.Result.{Result}
use Rattle.std.specs.declared.result.Result.TheVariants.{Ok, Err}

-- "each longest run": those of a level that has stood n times, and of the levels behind it. While the level stays, the run
-- grows; the others are named once, so that a long run computes
unfoldable pub runs_from : ℕ → ℕ → List ℕ → List LevelRun
runs_from level n [] = record { level = level; length = n } ∷ []
runs_from level n (next ∷ levels) =
    let others = runs_from next 1 levels in
    cond (eqb next level)
    (runs_from level (suc n) levels)
    (record { level = level; length = n } ∷ others)

unfoldable pub runs_of : List ℕ → List LevelRun
runs_of [] = []
runs_of (level ∷ levels) = runs_from level 1 levels

-- "in digits of the base, least first, no leading zero digit at the top": those of 0 are none; the first number bounds the
-- divisions
unfoldable pub digits_up_to : ℕ → ℕ → ℕ → List ℕ
digits_up_to zero base n = []
digits_up_to (suc bound) base zero = []
digits_up_to (suc bound) base (suc n) = suc n % base ∷ digits_up_to bound base (suc n / base)

unfoldable pub digits_of : ℕ → ℕ → List ℕ
digits_of base n = digits_up_to n base n

-- "its level and then the run length less one in digits of the base [..], none at all for a run of one. Where the base is
-- below 2, a run repeats its level instead.": digit d is the code that repeats d × base^j times, M + 1 + d
unfoldable pub run_codes : ℕ → ℕ → LevelRun → List ℕ
run_codes M base run =
    cond (ltb base 2)
    (replicate run.length run.level)
    (run.level ∷ map (λ digit. M + 1 + digit) (digits_of base (run.length - 1)))

unfoldable pub level_codes : ℕ → ℕ → List ℕ → List ℕ
level_codes b M levels = flat_map (run_codes M (base_of b M)) (runs_of levels)

-- "Pad with zero bits." "An empty list writes nothing."
abbrev pub level_payload : ℕ → ℕ → List ℕ → List ℕ
level_payload b M levels = padded (string_of b (level_codes b M levels))

-- "Refusals: 5 as for reading, then 13 for a level above M or more than 4,194,304 levels, then 10"
abbrev pub write_run_length_refusals : ℕ → ℕ → List ℕ → List ℕ → List Row
write_run_length_refusals b M levels lent =
    code_refusals b M
    ++ (any_of (ltb M) levels gives Numbers
    ∷ ltb limit (length levels) gives Numbers
    ∷ ltb (length lent) (length (level_payload b M levels)) gives Room
    ∷ [])

-- "no buffer is changed by them". The octets written are the answer
unfoldable pub write_run_length : ℕ → ℕ → List ℕ → List ℕ → Left (Result OctetPlace Refusal)
write_run_length b M levels lent =
    let payload = level_payload b M levels in
    first (λ r. left (Err r) lent) (write_run_length_refusals b M levels lent)
    (left (Ok (record { 0 = length payload })) (payload over lent))
