-- A turn: one code, and what it means. Assumes nothing.
use mathlib.Core.Path.{◌≡◌, refl}
use mathlib.Core.Bool.{Bool, true, false, cond}
use mathlib.Core.List.{List}
use Prim.Native.Nat.{ℕ, ◌+◌, ◌-◌, ◌*◌, ◌/◌, ◌%◌, ◌^◌, ◌≤◌, ◌<◌, min}
use native.Mathlib.Nat.{mul_comm, zero-mul, zero-add}
use native.Mathlib.Omega.{arith}
use lib.ListN.{length}
use lib.Dec.{leb}
use borrow.Author.Tests.{lt-ltb, le-ltb, leb-true, leb-false}
use Rattle.format.specs.Bits.{number_at}
use Rattle.format.specs.RunLength.{base_of, levels_of}
use Rattle.laws.specs.Bits.{bit-lt, number-below, product}
use Rattle.run_length.specs.Runs.{cap, place_of, Coding, Within, meaning, More}
use Rattle.run_length.specs.declared.Run.{Run}
use Rattle.run_length.specs.declared.Turn.{Turn}
use Rattle.run_length.proofs.Caps.{min-times}

module _ {b M : ℕ} {payload : List ℕ} {r : Run} (c : Coding b M) (w : Within payload r) (inside : place_of r + b ≤ length payload * 8) where
  abbrev code : ℕ
  code = number_at payload (place_of r) b

  -- behind the code
  abbrev next : ℕ → ℕ → Run
  next level weight = record { octet = record { 0 = r.octet.0 + (r.bit + b) / 8 }; bit = (r.bit + b) % 8; level = level; weight = weight }

  place-next : (level weight : ℕ) → place_of (next level weight) ≡ place_of r + b
  place-next level weight = omega arith

  code-low : code < 2 ^ 15
  code-low = number-below (bit-lt 8 payload) (place_of r) b 15 c.few

  next-within : (level weight : ℕ) → level < 2 ^ 15 → weight ≤ cap → Within payload (next level weight)
  next-within level weight l m = record { bit-low = omega arith; inside = omega (arith, inside, place-next level weight); level-low = l; weight-low = m }

  -- a level
  taken-level : code ≤ M → More b M payload r 1 (next code 1)
  unfolding levels_of
  taken-level l = record {
    within = next-within code 1 code-low (omega arith);
    ahead = place-next code 1;
    few = omega arith;
    exact = λ weight e. record {
      count = 1;
      after = 1;
      count-is = refl;
      after_is = refl;
      levels = λ codes. rw (le-ltb M code l);
    };
  }

  -- a repeat code
  taken-repeat : M < code → More b M payload r ((code - M - 1) * r.weight) (next r.level (min (base_of b M * r.weight) cap))
  unfolding levels_of
  taken-repeat l =
      let raised : ℕ = min (base_of b M * r.weight) cap in
      record {
        within = next-within r.level raised w.level-low (omega arith);
        ahead = place-next r.level raised;
        few = omega (arith, product (code - M - 1) r.weight (2 ^ 15) cap (omega (arith, code-low)) w.weight-low);
        exact = λ weight e. record {
          count = (code - M - 1) * weight;
          after = weight * base_of b M;
          count-is = rw e (min-times (code - M - 1) weight cap);
          after_is = rw (e, mul_comm weight (base_of b M)) (min-times (base_of b M) weight cap);
          levels = λ codes. rw (lt-ltb M code l);
        };
      }

  -- one of them, as the code says
  pub taken-code : {x : Turn} → x ≡ meaning b M r code → More b M payload r x.points x.next
  taken-code e = rw e (by-test (leb code M) refl)
    where
      by-test : (t : Bool) → leb code M ≡ t
          → More b M payload r (cond (leb code M) 1 0 + (code - M - 1) * r.weight) (next (cond (leb code M) code r.level) (cond (leb code M) 1 (min (base_of b M * r.weight) cap)))
      by-test true h =
          let none : code - M - 1 ≡ 0 = omega (arith, leb-true code M h) in
          rw (h, none, zero-mul r.weight) (taken-level (leb-true code M h))
      by-test false h = rw (h, zero-add ((code - M - 1) * r.weight)) (taken-repeat (leb-false code M h))
