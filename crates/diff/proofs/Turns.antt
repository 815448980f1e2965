-- A turn: one point, and what comes of it. Assumes nothing.
use mathlib.Core.Path.{◌≡◌, refl, ap, ◌∙◌}
use mathlib.Core.Bool.{Bool, true, false}
use mathlib.Core.List.{List, map}
use Prim.Native.Nat.{ℕ, ◌+◌, ◌*◌, ◌≤◌}
use native.Mathlib.Omega.{arith}
use lib.IntN.{ℤ, pos, negsuc}
use lib.ListN.{length, get_or}
use lib.Seq.{sets, length-sets}
use mir.Val.{to_z, of_z}
use mir.Syntax.{w64}
use Rattle.std.proofs.Common.{Option, Some, None}
use Rattle.format.specs.Bits.{number_at}
use Rattle.format.specs.Layout.{big_endian, point_size, twos_complement}
use Rattle.format.specs.Differences.{Descriptors, raised, restored, beyond}
use Rattle.format.specs.declared.DecodedValue.{DecodedValue}
use Rattle.format.specs.declared.DecodedValue.TheVariants.{Normal, Missing1, Missing2}
use Rattle.diff.specs.Kept.{kept, within}
use Rattle.diff.specs.Restoring.{following, Coming, Lying, Advanced, Went, Ended, Stopped}
use Rattle.diff.specs.declared.restoring.Restoring.{Restoring}
use Rattle.diff.proofs.Biased.{near-read}
use Rattle.diff.proofs.Octets.{mark-lies, number-lies, number-stored}

-- which numbers are within 2^60 either way
pub some-within : (z : ℤ) {o : Option ℤ} {y : ℤ} → o ≡ within z → o ≡ Some y → (beyond (Normal z) ≡ false) × (y ≡ z)
some-within z {o} {y} e s = by-test (beyond (Normal z)) refl
  where
    by-test : (t : Bool) → beyond (Normal z) ≡ t → (beyond (Normal z) ≡ false) × (y ≡ z)
    by-test true h = let n : o ≡ None = e ∙ rw h in absurd (cc)
    by-test false h = let n : o ≡ Some z = e ∙ rw h in (h, cc)

pub none-within : (z : ℤ) {o : Option ℤ} → o ≡ within z → ((y : ℤ) → o ≡ Some y → ⊥) → beyond (Normal z) ≡ true
none-within z {o} e n = by-test (beyond (Normal z)) refl
  where
    by-test : (t : Bool) → beyond (Normal z) ≡ t → beyond (Normal z) ≡ true
    by-test true h = h
    by-test false h = absurd (n z (e ∙ rw h))

module _ {order : ℕ} (d : Descriptors) {r : Restoring} {k : ℕ} {octets : List ℕ} {mark : ℕ} (em : mark ≡ get_or octets (k * point_size) 0) where
  -- "Missing points do not advance this."
  pub turn-missing : (mark ≡ 0 → ⊥) → r.left ≤ order → Went order d r k octets octets r
  unfolding map raised restored beyond
  turn-missing n few = record { few = few; long = refl; exact = same }
    where
      same : (packed : DecodedValue) (front behind : List ℕ) → Lying k octets packed front behind → Advanced order d r octets packed front behind r
      same (Normal z) front behind l = absurd (n (mark-lies l em))
      same Missing1 front behind l = record { point = Missing1; within = refl; comes = λ more. refl; there = l.there }
      same Missing2 front behind l = record { point = Missing2; within = refl; comes = λ more. refl; there = l.there }

  module _ (e0 : mark ≡ 0) {n : ℕ} (en : n ≡ number_at octets ((k * point_size + 5) * 8) 32) {next : ℕ} (h : Coming order d r n next) where
    pub turn-beyond : beyond (Normal (kept next)) ≡ true → Stopped order d r k octets octets
    turn-beyond b = record { same = refl; exact = ends }
      where
        ends : (packed : DecodedValue) (front behind : List ℕ) → Lying k octets packed front behind → Ended order d r packed
        ends (Normal (pos m)) front behind l = record {
          next = following (kept next) r;
          point = Normal (kept next);
          past = b;
          comes = rw (← number-lies l en) h.point;
        }
        ends (Normal (negsuc m)) front behind l = absurd l.small
        ends Missing1 front behind l = absurd (omega (arith, mark-lies l em))
        ends Missing2 front behind l = absurd (omega (arith, mark-lies l em))

    in-place : {octets' : List ℕ} → beyond (Normal (kept next)) ≡ false → octets' ≡ sets octets (k * point_size + 1) (big_endian 8 (twos_complement (kept next)))
        → r.left ≤ order → Went order d r k octets octets' (following (kept next) r)
    in-place {octets'} b eo few = record {
      few = omega arith;
      long = ap length eo ∙ length-sets octets (k * point_size + 1) (big_endian 8 (twos_complement (kept next)));
      exact = there;
    }
      where
        there : (packed : DecodedValue) (front behind : List ℕ) → Lying k octets packed front behind → Advanced order d r octets' packed front behind (following (kept next) r)
        there (Normal (pos m)) front behind l = record {
          point = Normal (kept next);
          within = b;
          comes = rw (← number-lies l en) h.point;
          there = number-stored (kept next) l eo;
        }
        there (Normal (negsuc m)) front behind l = absurd l.small
        there Missing1 front behind l = absurd (omega (arith, mark-lies l em))
        there Missing2 front behind l = absurd (omega (arith, mark-lies l em))

    pub turn-number : {o : Option ℤ} {number signed : ℤ} {octets' : List ℕ} → o ≡ within (kept next) → o ≡ Some number → r.left ≤ order → signed ≡ number
        → octets' ≡ sets octets (k * point_size + 1) (big_endian 8 (twos_complement (to_z w64 (of_z w64 signed))))
        → Went order d r k octets octets' (following number r)
    turn-number {number = number} {octets' = octets'} eo en few es e =
        let w = some-within (kept next) eo en in
        rw w.1 (in-place w.0 (e ∙ ap (λ (z : ℤ). sets octets (k * point_size + 1) (big_endian 8 (twos_complement (to_z w64 (of_z w64 z))))) (es ∙ w.1) ∙ ap (λ (z : ℤ). sets octets (k * point_size + 1) (big_endian 8 (twos_complement z))) (near-read (kept next) w.0)) few)
