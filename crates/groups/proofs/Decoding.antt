-- The point of a value, test by test. Assumes nothing.
use mathlib.Core.Path.{◌≡◌, refl, ◌∙◌}
use mathlib.Core.Bool.{Bool, true, false, ◌&&◌, and-false}
use Prim.Native.Nat.{ℕ, ◌+◌, ◌-◌, ◌^◌, ◌<◌}
use borrow.Author.Tests.{lt-ltb, ltb-true, eq-eqb, eqb-true, ne_eqb}
use lib.Dec.{ltb, eqb}
use lib.IntN.{pos}
use Rattle.format.specs.Unpacking.{decoded, point_of}
use Rattle.format.specs.declared.Template.{Template}
use Rattle.format.specs.declared.DecodedValue.{DecodedValue}
use Rattle.format.specs.declared.DecodedValue.TheVariants.{Normal, Missing1, Missing2}

-- two tests of which one fails
not-both : (a b : Bool) → (a ≡ true → b ≡ true → ⊥) → (a && b) ≡ false
not-both true true h = absurd (h refl refl)
not-both true false h = refl
not-both false b h = refl

module _ (t : Template) (w v n : ℕ) where
  pub decoded-first : 0 < t.management → v ≡ 2 ^ w - 1 → Missing1 ≡ decoded t w v n
  unfolding decoded
  decoded-first m e = simp (lt-ltb 0 t.management m, eq-eqb v (2 ^ w - 1) e)

  pub decoded-second : (v ≡ 2 ^ w - 1 → ⊥) → t.management ≡ 2 → v ≡ 2 ^ w - 2 → Missing2 ≡ decoded t w v n
  unfolding decoded
  decoded-second h m e = simp (ne_eqb v (2 ^ w - 1) h, and-false, eq-eqb t.management 2 m, eq-eqb v (2 ^ w - 2) e)

  pub decoded-number : (0 < t.management → v ≡ 2 ^ w - 1 → ⊥) → (t.management ≡ 2 → v ≡ 2 ^ w - 2 → ⊥) → Normal (pos n) ≡ decoded t w v n
  unfolding decoded
  decoded-number h k =
      simp (
        not-both (ltb 0 t.management) (eqb v (2 ^ w - 1)) (λ p q. h (ltb-true 0 t.management p) (eqb-true v (2 ^ w - 1) q)),
        not-both (eqb t.management 2) (eqb v (2 ^ w - 2)) (λ p q. k (eqb-true t.management 2 p) (eqb-true v (2 ^ w - 2) q)),
      )

-- ---- in a group

module _ (t : Template) (width reference value : ℕ) {point : DecodedValue} where
  pub point-width-0 : {n : ℕ} → width ≡ 0 → (n ≡ t.width) × (n < 256) → point ≡ decoded t n reference reference → point ≡ point_of t width reference value
  unfolding point_of
  point-width-0 w en e = e ∙ rw en.0 (simp (eq-eqb width 0 w))

  pub point-wide : (width ≡ 0 → ⊥) → point ≡ decoded t width value (value + reference) → point ≡ point_of t width reference value
  unfolding point_of
  point-wide w e = e ∙ simp (ne_eqb width 0 w)
