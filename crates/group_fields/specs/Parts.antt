-- The parts of a payload follow each other. Assumes nothing.
use Rattle.std.specs.Prelude.{ℕ, ◌≤◌}
use Rattle.std.specs.declared.result.Result.{Result}
use Rattle.std.specs.declared.result.Result.TheVariants.{Ok, Err}
use Rattle.format.specs.declared.Places.{Places}
use Rattle.format.specs.declared.Located.{Located}
use Rattle.format.specs.declared.Refusal.{Refusal}

-- some places follow each other, and end within so many octets
pub record Ordered (octets : ℕ) (p : Places) : Type 0 where
  pub references : p.references.0 ≤ p.widths.0
  pub widths : p.widths.0 ≤ p.lengths.0
  pub lengths : p.lengths.0 ≤ p.values.0
  pub values : p.values.0 ≤ p.end.0
  pub end : p.end.0 ≤ octets

-- so do the parts of a payload that is not refused
abbrev pub OrderedIn : ℕ → Result Located Refusal → Type 0
OrderedIn octets (Ok l) = Ordered octets l.places
OrderedIn octets (Err r) = Unit
