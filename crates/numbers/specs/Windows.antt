-- Windows by value. Assumes nothing.
use Rattle.std.specs.Prelude.{List, ℕ, min, max}
use Rattle.format.specs.Lists.{greatest, least}
use Rattle.numbers.specs.declared.Window.{Window}

-- the least and the greatest of some numbers
abbrev pub window_of : List ℕ → Window
window_of numbers = record { least = least numbers; greatest = greatest numbers }

-- and of one number more
abbrev pub widened_by : Window → ℕ → Window
widened_by w x = record { least = min w.least x; greatest = max w.greatest x }
