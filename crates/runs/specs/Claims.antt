-- What document 02, No. 5, asks to be shown, that reading gives the levels back, and what its other words come to. To be read
-- beside it. The proofs stand in proofs/Claims.antt, and what shows that each premise is needed in proofs/Needed.antt. Assumes
-- nothing.
use Rattle.std.specs.Prelude.{◌≡◌, Bool, false, ◌||◌, ℕ, ◌+◌, ◌-◌, ◌*◌, ◌^◌, ◌≤◌, eqb, ltb, leb, length, replicate, take}
use mathlib.Core.List.{List, [], ◌∷◌, map, flat_map}
use Rattle.format.specs.Lists.{any_of, ◌over◌}
use Rattle.format.specs.Bits.{rounded_up}
use Rattle.format.specs.Layout.{level_size, level_octets}
use Rattle.format.specs.Refusals.{limit, first, room_refusals, left}
use Rattle.format.specs.RunLength.{run_length}
use Rattle.format.specs.WritingRunLength.{runs_of, digits_of, level_payload, write_run_length}
use Rattle.format.specs.declared.LevelRun.{LevelRun}
use Rattle.format.specs.declared.OctetPlace.{OctetPlace}
use Rattle.run_length.specs.Runs.{Coding}
use Rattle.runs.specs.Runs.{starts_with}
use Rattle.std.specs.declared.result.Result.TheVariants.{Ok, Err}

-- b and M that 5 lets pass, and levels that 13 lets pass
pub record Writable (b M : ℕ) (levels : List ℕ) : Type 0 where
  pub coding : Coding b M
  pub none_above : any_of (ltb M) levels ≡ false
  pub limited : length levels ≤ limit

-- ---- "Reading with No. 4's rule gives the levels back."

-- with as many declared as were written, whatever buffer is lent: the levels, or 10 where it is too small
abbrev pub LevelsBack : Type 0
LevelsBack =
    (b M : ℕ) (levels : List ℕ) → Writable b M levels → (lent : List ℕ) → run_length b M (length levels) (level_payload b M levels) lent
    ≡ first (λ r. left (Err r) lent) (room_refusals level_size lent (length levels))
    (left (Ok (length levels)) (flat_map level_octets levels over lent))

-- what is accepted is such a list, and its payload is what stands in the octets that are answered
abbrev pub AcceptedIsWritten : Type 0
AcceptedIsWritten =
    (b M : ℕ) (levels lent : List ℕ) (octets : OctetPlace) (payload : List ℕ) → write_run_length b M levels lent ≡ left (Ok octets) payload
    → Writable b M levels × (take octets.0 payload ≡ level_payload b M levels)

-- and every such list is accepted where its payload has room
abbrev pub WritableIsAccepted : Type 0
WritableIsAccepted =
    (b M : ℕ) (levels lent : List ℕ) → Writable b M levels → length (level_payload b M levels) ≤ length lent
    → write_run_length b M levels lent ≡ left (Ok (record { 0 = length (level_payload b M levels) })) (level_payload b M levels over lent)

-- as it always has in so many octets: there are no more codes than levels
abbrev pub AlwaysEnough : Type 0
AlwaysEnough = (b M : ℕ) (levels : List ℕ) → length (level_payload b M levels) ≤ rounded_up (length levels * b)

-- ---- one list, one payload: b, M and the count being equal, no two lists have the same

abbrev pub OnePayload : Type 0
OnePayload =
    (b M : ℕ) (levels others : List ℕ) → M ≤ 2 ^ b - 1 → any_of (ltb M) levels ≡ false → any_of (ltb M) others ≡ false → length levels ≡ length others
    → level_payload b M levels ≡ level_payload b M others → levels ≡ others

-- ---- "each longest run"

-- a run's levels, whether it has none, and which level it is of
abbrev pub unrolled_run : LevelRun → List ℕ
unrolled_run run = replicate run.length run.level

abbrev pub is_empty : LevelRun → Bool
is_empty run = eqb run.length 0

abbrev pub level_of : LevelRun → ℕ
level_of run = run.level

-- whether two neighbours are equal
unfoldable pub any_twice : List ℕ → Bool
any_twice [] = false
any_twice (level ∷ levels) = starts_with level levels || any_twice levels

-- runs that make the levels, none of them empty, no two neighbours of one level
pub record Longest (levels : List ℕ) (runs : List LevelRun) : Type 0 where
  pub make : flat_map unrolled_run runs ≡ levels
  pub none-empty : any_of is_empty runs ≡ false
  pub none-twice : any_twice (map level_of runs) ≡ false

-- those that are written are, and no others: the longest runs are no matter of choice
abbrev pub RunsAreLongest : Type 0
RunsAreLongest = (levels : List ℕ) → Longest levels (runs_of levels) × ((runs : List LevelRun) → Longest levels runs → runs ≡ runs_of levels)

-- ---- "in digits of the base, least first, no leading zero digit at the top"

-- what digits come to
unfoldable pub value_of : ℕ → List ℕ → ℕ
value_of base [] = 0
value_of base (digit ∷ digits) = digit + base * value_of base digits

-- whether there is a last one, and it is 0
unfoldable pub zero_at_top : List ℕ → Bool
zero_at_top [] = false
zero_at_top (digit ∷ []) = eqb digit 0
zero_at_top (digit ∷ next ∷ digits) = zero_at_top (next ∷ digits)

-- digits that come to n, each below the base, none of them a zero at the top
pub record Digits (base n : ℕ) (digits : List ℕ) : Type 0 where
  pub value : value_of base digits ≡ n
  pub below : any_of (leb base) digits ≡ false
  pub no_zero : zero_at_top digits ≡ false

-- those that are written are such, and no others
abbrev pub DigitsAreThese : Type 0
DigitsAreThese = (base n : ℕ) → 2 ≤ base → Digits base n (digits_of base n) × ((digits : List ℕ) → Digits base n digits → digits ≡ digits_of base n)

abbrev pub NumberFive : Type 0
NumberFive = LevelsBack × AcceptedIsWritten × WritableIsAccepted × AlwaysEnough × OnePayload × RunsAreLongest × DigitsAreThese
