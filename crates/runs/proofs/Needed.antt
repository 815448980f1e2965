-- Each premise of the claims of document 02, No. 5, is needed: small inputs of which all others are stated to hold, and what is
-- claimed does not. Assumes nothing.
use mathlib.Core.Path.{◌≡◌, refl}
use mathlib.Core.Bool.{false}
use mathlib.Core.List.{List, [], ◌∷◌, flat_map}
use Prim.Native.Nat.{ℕ, ◌-◌, ◌^◌, ◌≤◌, ◌<◌}
use native.Mathlib.Nat.{one-mul}
use native.Mathlib.Omega.{arith}
use lib.Dec.{ltb, leb}
use borrow.Author.Tests.{leb-false}
use lib.ListN.{length, replicate, length-replicate}
use Rattle.format.specs.Lists.{listed, any_of}
use Rattle.format.specs.Bits.{bit_in, number_of}
use Rattle.format.specs.Refusals.{limit, first, left}
use Rattle.format.specs.RunLength.{repeats_first, run_length_up_to, run_length}
use Rattle.format.specs.WritingRunLength.{runs_from, runs_of, digits_up_to, digits_of, run_codes, level_codes, level_payload, write_run_length}
use Rattle.format.specs.Seen.{Seen, lent, refused, unrolling, writing_levels}
use Rattle.format.specs.declared.Refusal.TheVariants.{Points, Numbers}
use Rattle.laws.specs.Lists.{either_left, either-right}
use Rattle.laws.specs.First.{decides, tests}
use Rattle.runs.specs.Claims.{value_of}
use Rattle.runs.proofs.Runs.{any_same}
use Rattle.runs.proofs.Answer.{refused-many}
use Rattle.runs.proofs.Claims.{first-level}
use Rattle.std.specs.declared.result.Result.TheVariants.{Err}

abbrev Low : ℕ → ℕ → Type 0
Low b M = M ≤ 2 ^ b - 1

abbrev NoneAbove : ℕ → List ℕ → Type 0
NoneAbove M levels = any_of (ltb M) levels ≡ false

abbrev Limited : List ℕ → Type 0
Limited levels = length levels ≤ limit

-- the payload of some levels, read
abbrev read_back : ℕ → ℕ → List ℕ → Seen
read_back b M levels = unrolling b M (length levels) (level_payload b M levels)

-- ---- the levels come back

-- no bits, sixteen bits, and M of more than b bits are 5
some : (0 ≤ 15) × Low 0 0 × NoneAbove 0 (0 ∷ []) × Limited (0 ∷ []) × (read_back 0 0 (0 ∷ []) ≡ refused 5 (lent 2 ∷ []))
unfolding listed any_of first flat_map bit_in number_of runs_from runs_of digits_up_to digits_of run_codes level_codes run_length_up_to
some = (omega arith, omega arith, refl, omega arith, refl)

few : (0 < 16) × Low 16 0 × NoneAbove 0 (0 ∷ []) × Limited (0 ∷ []) × (read_back 16 0 (0 ∷ []) ≡ refused 5 (lent 2 ∷ []))
unfolding listed any_of first flat_map bit_in number_of runs_from runs_of digits_up_to digits_of run_codes level_codes run_length_up_to
few = (omega arith, omega arith, refl, omega arith, refl)

low : (0 < 1) × (1 ≤ 15) × NoneAbove 2 (0 ∷ []) × Limited (0 ∷ []) × (read_back 1 2 (0 ∷ []) ≡ refused 5 (lent 2 ∷ []))
unfolding listed any_of first flat_map bit_in number_of runs_from runs_of digits_up_to digits_of run_codes level_codes run_length_up_to
low = (omega arith, omega arith, refl, omega arith, refl)

-- a level above M is a repeat
none_above : (0 < 1) × (1 ≤ 15) × Low 1 0 × Limited (1 ∷ []) × (read_back 1 0 (1 ∷ []) ≡ refused 11 (lent 2 ∷ []))
unfolding listed any_of first flat_map bit_in number_of runs_from runs_of digits_up_to digits_of run_codes level_codes repeats_first run_length_up_to
none_above = (omega arith, omega arith, omega arith, omega arith, refl)

-- and more levels than the limit are 9. So long a list is not computed.
many : (levels : List ℕ) → NoneAbove 0 levels → limit < length levels → left (Err Points) [] ≡ run_length 1 0 (length levels) (level_payload 1 0 levels) []
unfolding run_length_up_to
many levels h l = decides (λ r. left (Err r) []) Points _ _ (omega (arith, tests, first-level 1 0 levels (omega arith) (omega arith) h))

limited : (n : ℕ) → limit < n → (0 < 1) × (1 ≤ 15) × Low 1 0 × NoneAbove 0 (replicate n 0)
    × (left (Err Points) [] ≡ run_length 1 0 (length {A = ℕ} (replicate n 0)) (level_payload 1 0 (replicate n 0)) [])
limited n l = (omega arith, omega arith, omega arith, any_same (ltb 0) 0 n refl, many (replicate n 0) (any_same (ltb 0) 0 n refl) (omega (arith, length-replicate {A = ℕ} n 0)))

-- ---- one list, one payload

-- M of more than b bits: 0 and 2 with b 1 and M 2
low-payload : NoneAbove 2 (0 ∷ []) × NoneAbove 2 (2 ∷ []) × (length {A = ℕ} (0 ∷ []) ≡ length {A = ℕ} (2 ∷ [])) × (level_payload 1 2 (0 ∷ []) ≡ level_payload 1 2 (2 ∷ []))
unfolding listed any_of flat_map bit_in number_of runs_from runs_of run_codes level_codes
low-payload = (refl, refl, refl, refl)

-- a level above M: 0 and 2 with b 1 and M 1. Which of the two lists comes first is all one
none-above-payload : Low 1 1 × NoneAbove 1 (0 ∷ []) × (length {A = ℕ} (0 ∷ []) ≡ length {A = ℕ} (2 ∷ [])) × (level_payload 1 1 (0 ∷ []) ≡ level_payload 1 1 (2 ∷ []))
unfolding listed any_of flat_map bit_in number_of runs_from runs_of run_codes level_codes
none-above-payload = (omega arith, refl, refl, refl)

-- another count: 0 and 0 0 with b 1 and M 1
count-payload : Low 1 1 × NoneAbove 1 (0 ∷ []) × NoneAbove 1 (0 ∷ 0 ∷ []) × (level_payload 1 1 (0 ∷ []) ≡ level_payload 1 1 (0 ∷ 0 ∷ []))
unfolding listed any_of flat_map bit_in number_of runs_from runs_of run_codes level_codes
count-payload = (omega arith, refl, refl, refl)

-- another payload: 0 and 1 with b 1 and M 1
payload : Low 1 1 × NoneAbove 1 (0 ∷ []) × NoneAbove 1 (1 ∷ []) × (length {A = ℕ} (0 ∷ []) ≡ length {A = ℕ} (1 ∷ []))
unfolding any_of
payload = (omega arith, refl, refl, refl)

-- ---- the others

-- what is not accepted: with no bits, sixteen bits or an M of more than b bits; a level above M; more levels than the limit; and
-- what has no room
writable : (writing_levels 0 0 (0 ∷ []) 1 ≡ refused 5 (lent 1 ∷ [])) × (writing_levels 16 0 (0 ∷ []) 2 ≡ refused 5 (lent 2 ∷ []))
    × (writing_levels 1 2 (0 ∷ []) 1 ≡ refused 5 (lent 1 ∷ [])) × (writing_levels 1 0 (1 ∷ []) 1 ≡ refused 13 (lent 1 ∷ []))
unfolding listed any_of first flat_map bit_in number_of runs_from runs_of digits_up_to digits_of run_codes level_codes write_run_length
writable = (refl, refl, refl, refl)

limited-written : (n : ℕ) → limit < n → left (Err Numbers) [] ≡ write_run_length 1 0 (replicate n 0) []
limited-written n l = refused-many 1 0 (replicate n 0) [] (refl, (refl, (refl, tt))) (omega (arith, length-replicate {A = ℕ} n 0))

room : writing_levels 1 1 (0 ∷ []) 0 ≡ refused 10 (lent 0 ∷ [])
unfolding listed any_of first flat_map bit_in number_of runs_from runs_of run_codes level_codes write_run_length
room = refl

-- in base 1 no digits come to 2, since each is 0
base-one : (digits : List ℕ) → any_of (leb 1) digits ≡ false → value_of 1 digits ≡ 0
unfolding any_of value_of
base-one [] h = refl
base-one (digit ∷ digits) h =
    let none = leb-false 1 digit (either_left (leb 1 digit) (any_of (leb 1) digits) h) in
    omega (arith, base-one digits (either-right (leb 1 digit) (any_of (leb 1) digits) h), one-mul (value_of 1 digits))
