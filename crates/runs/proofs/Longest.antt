-- The longest runs of levels: they make the levels, none is empty, no two neighbours are of one level, and no others are so.
-- Assumes nothing.
use mathlib.Core.Path.{◌≡◌, refl, sym, ap, ◌∙◌}
use mathlib.Core.Bool.{Bool, true, false, ◌||◌}
use mathlib.Core.List.{List, [], ◌∷◌, ◌++◌, append_assoc, map, flat_map}
use Prim.Native.Nat.{ℕ, zero, suc, ◌≤◌, ◌<◌}
use native.Mathlib.Numerals.{add-one}
use native.Mathlib.Omega.{arith}
use lib.Dec.{eqb, ltb}
use lib.ListN.{replicate, replicate-append-replicate}
use borrow.Author.Tests.{eqb-true, eqb-false, ne_eqb, ltb-false}
use Rattle.format.specs.Lists.{any_of}
use Rattle.format.specs.WritingRunLength.{runs_from, runs_of}
use Rattle.format.specs.declared.LevelRun.{LevelRun}
use Rattle.laws.specs.Lists.{either_left, either-right}
use Rattle.runs.specs.Runs.{starts_with}
use Rattle.runs.specs.Claims.{unrolled_run, is_empty, level_of, any_twice, Longest}
use Rattle.runs.proofs.Runs.{runs-first, any-replicate}

-- ---- those that are written

make-from : (level n : ℕ) (levels : List ℕ) → flat_map unrolled_run (runs_from level n levels) ≡ replicate n level ++ levels
unfolding runs_from flat_map
make-from level n [] = refl
make-from level n (next ∷ levels) = by-test (eqb next level) refl (make-from level (suc n) levels) (make-from next 1 levels)
  where
    by-test : (t : Bool) → eqb next level ≡ t → flat_map unrolled_run (runs_from level (suc n) levels) ≡ replicate (suc n) level ++ levels
        → flat_map unrolled_run (runs_from next 1 levels) ≡ replicate 1 next ++ levels → flat_map unrolled_run (runs_from level n (next ∷ levels)) ≡ replicate n level ++ (next ∷ levels)
    by-test true e grown again =
        rw e
        (grown ∙ ap (λ (m : ℕ). replicate m level ++ levels) (sym (add-one n)) ∙ ap (λ (l : List ℕ). l ++ levels) (sym (replicate-append-replicate n 1 level))
        ∙ append_assoc (replicate n level) (replicate 1 level) levels ∙ ap (λ (x : ℕ). replicate n level ++ (x ∷ levels)) (sym (eqb-true next level e)))
    by-test false e grown again = rw e (ap (λ (l : List ℕ). replicate n level ++ l) again)

some-from : (level n : ℕ) (levels : List ℕ) → 0 < n → any_of is_empty (runs_from level n levels) ≡ false
unfolding runs_from any_of
some-from level n [] some = rw (ne_eqb n 0 (λ e. omega arith))
some-from level n (next ∷ levels) some = by-test (eqb next level) refl (some-from level (suc n) levels (omega arith)) (some-from next 1 levels (omega arith))
  where
    by-test : (t : Bool) → eqb next level ≡ t → any_of is_empty (runs_from level (suc n) levels) ≡ false → any_of is_empty (runs_from next 1 levels) ≡ false
        → any_of is_empty (runs_from level n (next ∷ levels)) ≡ false
    by-test true e grown again = rw e grown
    by-test false e grown again = rw (e, ne_eqb n 0 (λ e. omega arith)) again

-- the first is of the first level
starts_from : (x level n : ℕ) (levels : List ℕ) → starts_with x (map level_of (runs_from level n levels)) ≡ eqb level x
unfolding runs_from starts_with
starts_from x level n [] = refl
starts_from x level n (next ∷ levels) = by-test (eqb next level) refl (starts_from x level (suc n) levels)
  where
    by-test : (t : Bool) → eqb next level ≡ t → starts_with x (map level_of (runs_from level (suc n) levels)) ≡ eqb level x
        → starts_with x (map level_of (runs_from level n (next ∷ levels))) ≡ eqb level x
    by-test true e grown = rw e grown
    by-test false e grown = rw e

twice-from : (level n : ℕ) (levels : List ℕ) → any_twice (map level_of (runs_from level n levels)) ≡ false
unfolding runs_from any_twice starts_with
twice-from level n [] = refl
twice-from level n (next ∷ levels) = by-test (eqb next level) refl (twice-from level (suc n) levels) (twice-from next 1 levels)
  where
    by-test : (t : Bool) → eqb next level ≡ t → any_twice (map level_of (runs_from level (suc n) levels)) ≡ false → any_twice (map level_of (runs_from next 1 levels)) ≡ false
        → any_twice (map level_of (runs_from level n (next ∷ levels))) ≡ false
    by-test true e grown again = rw e grown
    by-test false e grown again = rw (e, starts_from level next 1 levels, e) again

pub runs-longest : (levels : List ℕ) → Longest levels (runs_of levels)
unfolding runs_of flat_map any_of any_twice
runs-longest [] = record { make = refl; none-empty = refl; none-twice = refl }
runs-longest (level ∷ levels) = record { make = make-from level 1 levels; none-empty = some-from level 1 levels (omega arith); none-twice = twice-from level 1 levels }

-- ---- and no others

-- a list of runs, none of them empty, begins with its first run's level
starts-unrolled : (x : ℕ) (runs : List LevelRun) → any_of is_empty runs ≡ false → starts_with x (flat_map unrolled_run runs) ≡ starts_with x (map level_of runs)
unfolding flat_map starts_with any_of
starts-unrolled x [] h = refl
starts-unrolled x (run ∷ runs) h = by_size run.length refl
  where
    by_size : (n : ℕ) → run.length ≡ n → starts_with x (flat_map unrolled_run (run ∷ runs)) ≡ eqb run.level x
    by_size zero e = absurd (eqb-false run.length 0 (either_left (eqb run.length 0) (any_of is_empty runs) h) e)
    by_size (suc n) e = rw e

pub runs-are : (runs : List LevelRun) → any_of is_empty runs ≡ false → any_twice (map level_of runs) ≡ false → runs_of (flat_map unrolled_run runs) ≡ runs
unfolding runs_of flat_map any_of any_twice
runs-are [] some apart = refl
runs-are (run ∷ runs) some apart =
    let rest = either-right (eqb run.length 0) (any_of is_empty runs) some in
    let first = eqb-false run.length 0 (either_left (eqb run.length 0) (any_of is_empty runs) some) in
    let next = either_left (starts_with run.level (map level_of runs)) (any_twice (map level_of runs)) apart in
    runs-first run.level run.length (flat_map unrolled_run runs) (omega arith) (starts-unrolled run.level runs rest ∙ next)
    ∙ ap (λ (l : List LevelRun). run ∷ l) (runs-are runs rest (either-right (starts_with run.level (map level_of runs)) (any_twice (map level_of runs)) apart))

-- ---- run by run

pub run-some : (run : LevelRun) (runs : List LevelRun) → any_of is_empty (run ∷ runs) ≡ false → 0 < run.length
unfolding any_of
run-some run runs h = let some = eqb-false run.length 0 (either_left (eqb run.length 0) (any_of is_empty runs) h) in omega arith

-- runs of which none is empty, and whose levels are none above M: so is the first, and so are the others
pub record LowRuns (M : ℕ) (runs : List LevelRun) : Type 0 where
  pub none-empty : any_of is_empty runs ≡ false
  pub none_above : any_of (ltb M) (flat_map unrolled_run runs) ≡ false

module _ {M : ℕ} {run : LevelRun} {runs : List LevelRun} (r : LowRuns M (run ∷ runs)) where
  pub first_some : 0 < run.length
  first_some = run-some run runs r.none-empty

  levels-above : (ltb M run.level || any_of (ltb M) (flat_map unrolled_run runs)) ≡ false
  unfolding flat_map
  levels-above = sym (any-replicate (ltb M) run.level run.length (flat_map unrolled_run runs) first_some) ∙ r.none_above

  pub first-low : run.level ≤ M
  first-low = ltb-false M run.level (either_left (ltb M run.level) (any_of (ltb M) (flat_map unrolled_run runs)) levels-above)

  pub others : LowRuns M runs
  unfolding any_of
  others = record {
    none-empty = either-right (eqb run.length 0) (any_of is_empty runs) r.none-empty;
    none_above = either-right (ltb M run.level) (any_of (ltb M) (flat_map unrolled_run runs)) levels-above;
  }

pub runs-of : (M : ℕ) (levels : List ℕ) → any_of (ltb M) levels ≡ false → LowRuns M (runs_of levels)
runs-of M levels h = let l = runs-longest levels in record { none-empty = l.none-empty; none_above = rw l.make h }
