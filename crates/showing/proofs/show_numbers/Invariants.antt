-- What is written is the texts of the numbers so far.
use Rattle.std.proofs.Common.{◌≡◌, ℕ, List, ◌++◌, take, All, codes}
use Rattle.std.specs.declared.option.Option.TheVariants.{Some}
use Rattle.std.specs.List.{flat_map}
use Rattle.std.specs.Io.KnownBytes.{Appends}
use Rattle.showing.proofs.show_numbers.Given as goal

abbrev pub invariant-loop-number : goal.invariant-loop-number
invariant-loop-number g l =
    (text : _ → List ℕ) → All (λ n. g.N.Display.output n ≡ Some (text n)) l.numbers
    → Appends (g.W.Write.contents l.initial.out) (g.W.Write.contents l.out) (flat_map (λ n. codes " " ++ text n) (take l.number-index l.numbers))
