-- References, widths and lengths, out of what is read. Assumes nothing.
use mathlib.Core.Path.{◌≡◌, sym, ◌∙◌}
use mathlib.Core.List.{List}
use Prim.Native.Nat.{ℕ, suc, ◌+◌, ◌-◌, ◌*◌, ◌^◌, ◌≤◌, ◌<◌}
use native.Mathlib.Nat.{add-mul}
use native.Mathlib.Omega.{arith}
use borrow.Author.Tests.{eq-eqb, ne_eqb}
use Rattle.format.specs.Bits.{number_at}
use Rattle.format.specs.Template.{widths_at, lengths_at}
use Rattle.format.specs.Unpacking.{Codes, codes_of, reference_of, group_width, group_length}
use Rattle.format.specs.declared.Template.{Template}
use Rattle.format.specs.declared.Places.{Places}
use Rattle.laws.specs.Accepting.{Laid}
use Rattle.laws.specs.Bits.{bit-lt, number-below}
use Rattle.laws.specs.Lists.{get_or-listed}
use Rattle.groups.specs.declared.PackedGroup.{PackedGroup}
use Rattle.groups.specs.Packed.{Limited}

module _ {t : Template} {p : Places} (h : Laid t p) (payload : List ℕ) (g : ℕ) where
  pub reference-read : {code : ℕ} → g < t.groups → code ≡ number_at payload (p.references.0 * 8 + g * t.width) t.width
      → code ≡ reference_of (codes_of p.references.0 t payload) g
  unfolding reference_of codes_of
  reference-read l e = e ∙ sym (get_or-listed t.groups (λ k. number_at payload (p.references.0 * 8 + k * t.width) t.width) 0 g l)

  pub width_read : {code n ref : ℕ} → g < t.groups → code ≡ number_at payload (p.widths.0 * 8 + g * t.widths.bits) t.widths.bits
      → (n ≡ code) × (n < 2 ^ 32) → (ref ≡ t.widths.reference) × (ref < 256) → n + ref ≡ group_width t (codes_of p.references.0 t payload) g
  unfolding group_width codes_of
  width_read l e en er =
      rw (en.0, e, er.0, h.widths, get_or-listed t.groups (λ k. number_at payload (widths_at p.references.0 t * 8 + k * t.widths.bits) t.widths.bits) 0 g l)

  pub length-read : {n code r : ℕ} → (n ≡ t.groups) × (n < 2 ^ 32) → g + 1 < n
      → code ≡ number_at payload (p.lengths.0 * 8 + g * t.lengths.bits) t.lengths.bits
      → r ≡ code * t.lengths.increment + t.lengths.reference
      → r ≡ group_length t (codes_of p.references.0 t payload) g
  unfolding group_length codes_of
  length-read en l e er =
      simp (ne_eqb (suc g) t.groups (λ z. omega arith))
      (rw (er, e, h.lengths, get_or-listed (t.groups - 1) (λ k. number_at payload (lengths_at p.references.0 t * 8 + k * t.lengths.bits) t.lengths.bits) 0 g (omega arith)))

pub length_last : (t : Template) (codes : Codes) (g : ℕ) {last : ℕ} → g + 1 ≡ t.groups → last ≡ t.lengths.last → last ≡ group_length t codes g
unfolding group_length
length_last t codes g h e = simp (eq-eqb (suc g) t.groups (omega arith)) e

-- ---- a value

-- it leaves room for the reference in 32 bits
pub value-below : (payload : List ℕ) (p w : ℕ) {value : ℕ} → w ≤ 31 → value ≡ number_at payload p w → value < 2 ^ 31
value-below payload p w l e = rw e (number-below (bit-lt 8 payload) p w 31 l)

-- ---- the place of value k

module _ {group : PackedGroup} {p bit k : ℕ} (h : Limited group p) (e : bit ≡ p + k * group.width) (l : k < group.length) where
  pub place-next : bit + group.width ≡ p + (k + 1) * group.width
  place-next = omega (arith, add-mul k 1 group.width)
