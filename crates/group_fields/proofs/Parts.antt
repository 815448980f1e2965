-- A part lies within its payload. Assumes nothing.
use mathlib.Core.Path.{◌≡◌}
use mathlib.Core.List.{List}
use Prim.Native.Nat.{ℕ}
use native.Mathlib.Omega.{arith}
use lib.ListN.{length}
use Rattle.std.specs.declared.result.Result.{Result}
use Rattle.std.specs.declared.result.Result.TheVariants.{Ok, Err}
use Rattle.format.specs.Template.{widths_at, lengths_at, values_at}
use Rattle.format.specs.Unpacking.{locate52}
use Rattle.format.specs.Differences.{locate53}
use Rattle.format.specs.declared.Template.{Template}
use Rattle.format.specs.declared.Differencing.{Differencing}
use Rattle.format.specs.declared.Refusal.{Refusal}
use Rattle.format.specs.declared.Located.{Located}
use Rattle.laws.specs.Accepting.{FoundIn, found-52, found-53}
use Rattle.group_fields.specs.Parts.{OrderedIn}

module _ (t : Template) (payload : List ℕ) where
  inside : (x : Result Located Refusal) → FoundIn t payload x → OrderedIn (length payload) x
  unfolding widths_at lengths_at values_at
  inside (Ok l) f = record { references = omega arith; widths = omega arith; lengths = omega arith; values = f.values; end = f.end }
  inside (Err r) f = tt

  pub inside-52 : {x : Result Located Refusal} → x ≡ locate52 t payload → OrderedIn (length payload) x
  inside-52 {x} e = inside x (found-52 t payload e)

  pub inside-53 : (d : Differencing) {x : Result Located Refusal} → x ≡ locate53 t d payload → OrderedIn (length payload) x
  inside-53 d {x} e = inside x (found-53 t payload d e)
