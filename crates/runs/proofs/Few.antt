-- No more codes than levels. Assumes nothing.
use mathlib.Core.Path.{◌≡◌, refl, ap}
use mathlib.Core.Bool.{Bool, true, false}
use mathlib.Core.List.{List, [], ◌∷◌, flat_map}
use Prim.Native.Nat.{ℕ, ◌-◌, ◌*◌, ◌^◌, ◌≤◌, ◌<◌}
use native.Mathlib.Nat.{mul-le-mul_right}
use native.Mathlib.Omega.{arith}
use lib.Dec.{eqb, ltb}
use lib.ListN.{length, length-append, length-replicate}
use borrow.Author.Tests.{ltb-true, ltb-false, eqb-false}
use Rattle.format.specs.Lists.{any_of}
use Rattle.format.specs.Bits.{string_of, rounded_up}
use Rattle.format.specs.Refusals.{limit, left}
use Rattle.format.specs.RunLength.{base_of}
use Rattle.format.specs.WritingRunLength.{runs_of, run_codes, level_codes, level_payload, write_run_length}
use Rattle.format.specs.declared.LevelRun.{LevelRun}
use Rattle.format.specs.declared.OctetPlace.{OctetPlace}
use Rattle.laws.specs.Bits.{product}
use Rattle.laws.specs.Lists.{either_left, either-right}
use Rattle.laws.specs.First.{tests}
use Rattle.laws.specs.Strings.{length-string, length-padded}
use Rattle.runs.proofs.DigitsOf.{digits-few}
use Rattle.runs.proofs.Codes.{count-repeated, count-digits}
use Rattle.runs.proofs.Answer.{accepted}
use Rattle.runs.specs.Claims.{unrolled_run, is_empty}
use Rattle.runs.proofs.Longest.{runs-longest}
use Rattle.std.specs.declared.result.Result.TheVariants.{Ok}

module _ (M base : ℕ) where
  run-few : (run : LevelRun) → 0 < run.length → length (run_codes M base run) ≤ run.length
  run-few run some = by-test (ltb base 2) refl
    where
      by-test : (t : Bool) → ltb base 2 ≡ t → length (run_codes M base run) ≤ run.length
      by-test true h = omega (arith, count-repeated M base run (ltb-true base 2 h))
      by-test false h =
          let low : 2 ≤ base = ltb-false base 2 h in
          omega (arith, count-digits M base run low, digits-few base low (run.length - 1))

  runs-few : (runs : List LevelRun) → any_of is_empty runs ≡ false → length (flat_map (run_codes M base) runs) ≤ length (flat_map unrolled_run runs)
  unfolding flat_map any_of
  runs-few [] h = omega arith
  runs-few (run ∷ runs) h =
      let first = eqb-false run.length 0 (either_left (eqb run.length 0) (any_of is_empty runs) h) in
      omega (
        arith,
        length-append (run_codes M base run) (flat_map (run_codes M base) runs),
        length-append (unrolled_run run) (flat_map unrolled_run runs),
        length-replicate run.length run.level,
        run-few run (omega arith),
        runs-few runs (either-right (eqb run.length 0) (any_of is_empty runs) h),
      )

pub codes-few : (b M : ℕ) (levels : List ℕ) → length (level_codes b M levels) ≤ length levels
unfolding level_codes
codes-few b M levels =
    let l = runs-longest levels in
    omega (arith, runs-few M (base_of b M) (runs_of levels) l.none-empty, ap length l.make)

-- a buffer of so many octets is always enough
pub payload-few : (b M : ℕ) (levels : List ℕ) → length (level_payload b M levels) ≤ rounded_up (length levels * b)
payload-few b M levels =
    let codes = level_codes b M levels in
    omega (arith, length-padded (string_of b codes), length-string b codes, mul-le-mul_right b (codes-few b M levels))

-- so the octets of a payload fit 32 bits
pub octets-few : (b M : ℕ) (levels lent : List ℕ) {octets : OctetPlace} {payload : List ℕ} → left (Ok octets) payload ≡ write_run_length b M levels lent → octets.0 < 2 ^ 32
octets-few b M levels lent e =
    let p = accepted b M levels lent e in
    let clear = p.0 in
    let bits : length (level_codes b M levels) * b ≤ limit * 15 = product (length (level_codes b M levels)) b limit 15 (omega (arith, tests, codes-few b M levels)) (omega (arith, tests)) in
    omega (arith, p.1, length-padded (string_of b (level_codes b M levels)), length-string b (level_codes b M levels))
