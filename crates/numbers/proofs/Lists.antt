-- The first things of a list. Assumes nothing.
use Rattle.std.proofs.Common.{◌≡◌, ℕ, ◌+◌, ◌-◌, ◌≤◌, take, ap, ◌∙◌, arith}
use lib.Seq.{take_at}
use Rattle.format.specs.Lists.{listed}
use Rattle.laws.specs.Lists.{length-listed, listed-add}

pub take-listed : {A : Type 0} (k n : ℕ) (f : ℕ → A) → k ≤ n → take k (listed n f) ≡ listed k f
take-listed k n f l =
    let e : n ≡ k + (n - k) = omega arith in
    ap (λ (m : ℕ). take k (listed m f)) e ∙ ap (take k) (listed-add k (n - k) f) ∙ take_at (listed k f) (listed (n - k) (λ i. f (k + i))) k (length-listed k f)
