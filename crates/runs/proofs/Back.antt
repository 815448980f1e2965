-- The codes of levels mean these levels, and fit their bits. Assumes nothing.
use mathlib.Core.Path.{◌≡◌, refl, sym, ap, ap₂, ◌∙◌}
use mathlib.Core.Bool.{Bool, true, false}
use mathlib.Core.List.{List, [], ◌∷◌, ◌++◌, append_assoc, map, flat_map}
use Prim.Native.Nat.{ℕ, zero, suc, ◌+◌, ◌-◌, ◌*◌, ◌/◌, ◌%◌, ◌^◌, ◌≤◌, ◌<◌}
use native.Mathlib.Nat.{zero-lt-suc, zero-mul, mul-one, add-mul, mul_assoc, mul_comm, mod-lt, mod-add-div'}
use native.Mathlib.Omega.{arith}
use lib.Dec.{ltb, leb}
use lib.Pow.{pow_pos}
use lib.ListN.{replicate, replicate-append-replicate}
use borrow.Author.Tests.{lt-ltb, le-ltb, lt-leb, ltb-false}
use Rattle.format.specs.Lists.{any_of}
use Rattle.format.specs.RunLength.{base_of, levels_of, repeats_first}
use Rattle.format.specs.WritingRunLength.{digits_up_to, digits_of, runs_of, run_codes, level_codes}
use Rattle.format.specs.declared.LevelRun.{LevelRun}
use Rattle.laws.specs.Lists.{any_append}
use Rattle.laws.specs.RunLength.{behind, levels-same}
use Rattle.runs.proofs.DigitsOf.{digit-less}
use Rattle.runs.specs.Claims.{unrolled_run}
use Rattle.runs.proofs.Runs.{any_same}
use Rattle.runs.proofs.Longest.{runs-longest, LowRuns, first_some, first-low, others, runs-of}

-- ---- what they mean

module _ (M base : ℕ) where
  -- digit by digit
  levels-digits : 2 ≤ base → (bound n level weight : ℕ) → n ≤ bound
      → levels_of M base level weight (map (λ digit. M + 1 + digit) (digits_up_to bound base n)) ≡ replicate (n * weight) level
  unfolding levels_of digits_up_to
  levels-digits some zero n level weight l = let e : n ≡ 0 = omega arith in rw (e, zero-mul weight)
  levels-digits some (suc bound) zero level weight l = rw (zero-mul weight)
  levels-digits some (suc bound) (suc n) level weight l =
      let d : ℕ = suc n % base in
      let q : ℕ = suc n / base in
      let less = digit-less base some (suc n) (zero-lt-suc n) in
      let e : M + 1 + d - M - 1 ≡ d = omega arith in
      let sum : d * weight + q * (weight * base) ≡ suc n * weight =
      ap (λ (x : ℕ). d * weight + x) (ap (λ (x : ℕ). q * x) (mul_comm weight base) ∙ sym (mul_assoc q base weight))
      ∙ sym (add-mul d (q * base) weight) ∙ ap (λ (x : ℕ). x * weight) (mod-add-div' (suc n) base) in
      rw (lt-ltb M (M + 1 + d) (omega arith), e, levels-digits some bound q level (weight * base) (omega arith))
      (replicate-append-replicate (d * weight) (q * (weight * base)) level ∙ ap (λ (m : ℕ). replicate m level) sum)

  levels-run : (last weight level n : ℕ) → level ≤ M → 0 < n → levels_of M base last weight (run_codes M base (record { level = level; length = n })) ≡ replicate n level
  unfolding run_codes levels_of digits_of
  levels-run last weight level zero l some = absurd (omega arith)
  levels-run last weight level (suc n) l some = by-test (ltb base 2) refl
    where
      by-test : (t : Bool) → ltb base 2 ≡ t → levels_of M base last weight (run_codes M base (record { level = level; length = suc n })) ≡ replicate (suc n) level
      by-test true h = rw h (levels-same M base last weight level (suc n) l)
      by-test false h =
          let e : suc n - 1 ≡ n = omega arith in
          rw (h, le-ltb M level l, e, levels-digits (ltb-false base 2 h) n n level 1 (omega arith), mul-one n)

  -- run by run
  levels-runs : (last weight : ℕ) (runs : List LevelRun) → LowRuns M runs → levels_of M base last weight (flat_map (run_codes M base) runs) ≡ flat_map unrolled_run runs
  unfolding flat_map levels_of
  levels-runs last weight [] r = refl
  levels-runs last weight (run ∷ runs) r =
      let b = behind M base last weight (run_codes M base run) in
      b.levels (flat_map (run_codes M base) runs)
      ∙ ap₂ (λ (front back : List ℕ). front ++ back) (levels-run last weight run.level run.length (first-low r) (first_some r)) (levels-runs b.last b.raised runs (others r))

pub levels-codes : (b M : ℕ) (levels : List ℕ) → any_of (ltb M) levels ≡ false → levels_of M (base_of b M) 0 1 (level_codes b M levels) ≡ levels
unfolding level_codes
levels-codes b M levels h = levels-runs M (base_of b M) 0 1 (runs_of levels) (runs-of M levels h) ∙ (runs-longest levels).make

-- ---- the first is a level, and no repeat

first_run : (M base level n : ℕ) (codes : List ℕ) → level ≤ M → 0 < n → repeats_first M (run_codes M base (record { level = level; length = n }) ++ codes) ≡ false
unfolding run_codes repeats_first
first_run M base level zero codes l some = absurd (omega arith)
first_run M base level (suc n) codes l some = by-test (ltb base 2) refl
  where
    by-test : (t : Bool) → ltb base 2 ≡ t → repeats_first M (run_codes M base (record { level = level; length = suc n }) ++ codes) ≡ false
    by-test true h = rw h (le-ltb M level l)
    by-test false h = rw h (le-ltb M level l)

first_runs : (M base : ℕ) (runs : List LevelRun) (more : List ℕ) → LowRuns M runs → (flat_map (run_codes M base) runs ≡ [] → repeats_first M more ≡ false)
    → repeats_first M (flat_map (run_codes M base) runs ++ more) ≡ false
unfolding flat_map
first_runs M base [] more r h = h refl
first_runs M base (run ∷ runs) more r h = rw append_assoc (first_run M base run.level run.length (flat_map (run_codes M base) runs ++ more) (first-low r) (first_some r))

-- where there are none, those behind them count
pub first_code : (b M : ℕ) (levels more : List ℕ) → any_of (ltb M) levels ≡ false → (level_codes b M levels ≡ [] → repeats_first M more ≡ false)
    → repeats_first M (level_codes b M levels ++ more) ≡ false
unfolding level_codes
first_code b M levels more h none = first_runs M (base_of b M) (runs_of levels) more (runs-of M levels h) none

-- ---- they fit their bits

module _ (b M : ℕ) (low : M ≤ 2 ^ b - 1) where
  abbrev large : ℕ → Bool
  large = leb (2 ^ b)

  fit-digits : (bound n : ℕ) → 2 ≤ base_of b M → any_of large (map (λ digit. M + 1 + digit) (digits_up_to bound (base_of b M) n)) ≡ false
  unfolding any_of digits_up_to
  fit-digits zero n some = refl
  fit-digits (suc bound) zero some = refl
  fit-digits (suc bound) (suc n) some =
      let digit : suc n % base_of b M < base_of b M = mod-lt (suc n) (omega arith) in
      rw (lt-leb (2 ^ b) (M + 1 + suc n % base_of b M) (omega (arith, digit))) (fit-digits bound (suc n / base_of b M) some)

  fit-run : (run : LevelRun) → run.level ≤ M → any_of large (run_codes M (base_of b M) run) ≡ false
  unfolding run_codes digits_of any_of
  fit-run run l = by-test (ltb (base_of b M) 2) refl
    where
      by-test : (t : Bool) → ltb (base_of b M) 2 ≡ t → any_of large (run_codes M (base_of b M) run) ≡ false
      by-test true h = rw h (any_same large run.level run.length (lt-leb (2 ^ b) run.level (omega (arith, pow_pos b))))
      by-test false h = rw (h, lt-leb (2 ^ b) run.level (omega (arith, pow_pos b))) (fit-digits (run.length - 1) (run.length - 1) (ltb-false (base_of b M) 2 h))

  fit-runs : (runs : List LevelRun) → LowRuns M runs → any_of large (flat_map (run_codes M (base_of b M)) runs) ≡ false
  unfolding flat_map any_of
  fit-runs [] r = refl
  fit-runs (run ∷ runs) r = any_append large (run_codes M (base_of b M) run) (flat_map (run_codes M (base_of b M)) runs) (fit-run run (first-low r)) ∙ fit-runs runs (others r)

  pub codes-fit : (levels : List ℕ) → any_of (ltb M) levels ≡ false → any_of large (level_codes b M levels) ≡ false
  unfolding level_codes
  codes-fit levels h = fit-runs (runs_of levels) (runs-of M levels h)
