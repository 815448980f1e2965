-- What is left to decide once the parts are found. Assumes nothing.
use Rattle.std.specs.Prelude.{ℕ, List, [], ◌∷◌, ◌++◌, ltb}
use Rattle.format.specs.Refusals.{Row, ◌gives◌, count_refusals}
use Rattle.format.specs.declared.Refusal.TheVariants.{Room}

-- 9, then 10 for so many places lent
abbrev pub last_refusals : ℕ → ℕ → ℕ → List Row
last_refusals declared room points = count_refusals points declared ++ (ltb room declared gives Room ∷ [])
