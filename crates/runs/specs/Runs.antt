-- What the passes over a list of levels owe to document 02's runs and codes. Assumes nothing.
use Rattle.std.specs.Prelude.{◌≡◌, Bool, false, List, [], ◌∷◌, ◌++◌, map, ℕ, ◌+◌, ◌-◌, ◌^◌, ◌<◌, ◌≤◌, eqb, ltb, length, replicate, drop}
use Rattle.format.specs.Lists.{any_of}
use Rattle.format.specs.Refusals.{◌gives◌, first}
use Rattle.format.specs.Layout.{levels_in}
use Rattle.format.specs.WritingRunLength.{runs_of, digits_of, level_payload}
use Rattle.format.specs.declared.Refusal.TheVariants.{Numbers}
use Rattle.format.specs.declared.Refusal.{Refusal}
use Rattle.format.specs.declared.LevelRun.{LevelRun}
use Rattle.format.specs.declared.OctetPlace.{OctetPlace}
use Rattle.run_length.specs.declared.coding.LevelCoding.{LevelCoding}
use Rattle.runs.specs.declared.LevelRuns.{LevelRuns}
use Rattle.std.specs.declared.result.Result.{Result}
use Rattle.std.specs.declared.result.Result.TheVariants.{Ok, Err}

-- whether the first of some levels is this one
unfoldable pub starts_with : ℕ → List ℕ → Bool
starts_with level [] = false
starts_with level (next ∷ levels) = eqb next level

-- a level stands from a place on to an end
pub record Stands (levels : List ℕ) (place level end : ℕ) : Type 0 where
  pub low : place ≤ end
  pub within : end ≤ length levels
  pub here : drop place levels ≡ replicate (end - place) level ++ drop end levels

-- a number of sixteen bits, times this, stands four times in 64 bits
abbrev pub four_times : ℕ
four_times = 2 ^ 48 + 2 ^ 32 + 2 ^ 16 + 1

-- the run that begins at a place, and goes on as far as it can
pub record Begins (levels : List ℕ) (place : ℕ) (run : LevelRun) : Type 0 where
  pub some : 0 < run.length
  pub within : place + run.length ≤ length levels
  pub here : drop place levels ≡ replicate run.length run.level ++ drop (place + run.length) levels
  pub longest : starts_with run.level (drop (place + run.length) levels) ≡ false

-- the runs that are left of some levels
abbrev pub runs_left : LevelRuns → List LevelRun
runs_left r = runs_of (drop r.place (levels_in r.levels.now))

-- the digits of a number, as codes
abbrev pub digit_codes : LevelCoding → ℕ → List ℕ
digit_codes c n = map (λ digit. c.greatest + 1 + digit) (digits_of c.base n)

-- how many octets levels take, or 13 where one is above the greatest
abbrev pub counted : ℕ → ℕ → List ℕ → Result OctetPlace Refusal
counted b M levels =
    first (λ r. Err r) (any_of (ltb M) levels gives Numbers ∷ []) (Ok (record { 0 = length (level_payload b M levels) }))
