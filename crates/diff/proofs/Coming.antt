-- The next number. Assumes nothing.
use mathlib.Core.Path.{◌≡◌, ap, ◌∙◌}
use mathlib.Core.List.{List, [], ◌∷◌, map}
use Prim.Native.Nat.{ℕ, suc, ◌+◌, ◌-◌, ◌<◌}
use native.Mathlib.Omega.{arith}
use lib.IntN.{ℤ, pos, ◌+ℤ◌}
use lib.ListN.{length, get_or, drop}
use lib.Seq.{drop-cons}
use Rattle.std.proofs.Common.{drop_of_length-le}
use Rattle.format.specs.Differences.{Descriptors, raised, expected, restored}
use Rattle.laws.specs.Lists.{length-map, map_at}
use Rattle.diff.specs.Kept.{bias, kept, Slight}
use Rattle.diff.specs.Restoring.{Expected, Coming}
use Rattle.diff.specs.declared.restoring.Restoring.{Restoring}
use Rattle.diff.proofs.Biased.{kept-sum}

module _ {order : ℕ} {d : Descriptors} (r : Restoring) (packed : ℕ) (firsts : List ℕ) (minimum : ℕ) (long : length firsts ≡ order)
    (view : record { firsts = map kept firsts; minimum = kept minimum } ≡ d) where
  -- where a first value is to come, it is the point
  pub next-first : (k : ℕ) → 0 < r.left → k + r.left ≡ order → Coming order d r packed (get_or firsts k 0)
  unfolding map raised restored
  next-first k some few = rw (← view) record {
    point = λ more.
        let at : order - r.left ≡ k = omega arith in
        let here : k < length firsts = omega arith in
        let first : drop k (map kept firsts) ≡ kept (get_or firsts k 0) ∷ drop (suc k) (map kept firsts) =
        drop-cons (map kept firsts) k (pos 0) (rw (length-map kept firsts) here) ∙ rw (map_at kept firsts 0 (pos 0) k here) in
        let behind : suc k ≡ order - (r.left - 1) = omega arith in
        rw (at, first, behind);
  }

  -- "each later one is its packed number plus [what is expected]"
  pub next-sum : {e : ℕ} → r.left ≡ 0 → Slight minimum → Expected order r.previous r.before e → Coming order d r packed (packed + minimum + e - bias)
  unfolding map raised restored
  next-sum {e} el s h = rw (← view) record {
    point = λ more.
        let sum : pos packed +ℤ kept minimum +ℤ expected order r.previous r.before ≡ kept (packed + minimum + e - bias) =
        ap (λ (z : ℤ). pos packed +ℤ kept minimum +ℤ z) h.number ∙ kept-sum packed minimum e (omega arith) in
        let none : drop (order - r.left) (map kept firsts) ≡ [] = drop_of_length-le (map kept firsts) (omega (arith, length-map kept firsts)) in
        let still : order - (r.left - 1) ≡ order - r.left = omega arith in
        rw (still, none, sum);
  }
