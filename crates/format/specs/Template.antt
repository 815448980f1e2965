-- Document 01, "Unpacking under 5.2 and 5.3": what the template numbers say by themselves. Assumes nothing.
use Rattle.std.specs.Prelude.{ℕ, suc, ◌+◌, ◌*◌, not, List, [], ◌∷◌, ltb, eqb}
use Rattle.format.specs.Bits.{span_of}
use Rattle.format.specs.Refusals.{Row, ◌gives◌, limit}
use Rattle.format.specs.declared.Refusal.TheVariants.{Splitting, Management, Order, Descriptors, Width, GroupCount}
use Rattle.format.specs.declared.Template.{Template}
use Rattle.format.specs.declared.Differencing.{Differencing}

-- "Template numbers are listed as: number width; groups; width reference, width bits; length reference, increment, last, bits."
abbrev pub template_numbers : Template → List ℕ
template_numbers t =
    t.width ∷ t.groups ∷ t.widths.reference ∷ t.widths.bits
    ∷ t.lengths.reference ∷ t.lengths.increment ∷ t.lengths.last ∷ t.lengths.bits ∷ []

-- a template from all its numbers, in Section 5's order
abbrev pub template_by : ℕ → ℕ → ℕ → ℕ → ℕ → ℕ → ℕ → ℕ → ℕ → ℕ → Template
template_by width splitting management groups width_reference width_bits length_reference increment last length_bits = record {
  width = width;
  splitting = splitting;
  management = management;
  groups = groups;
  widths = record { reference = width_reference; bits = width_bits };
  lengths = record { reference = length_reference; increment = increment; last = last; bits = length_bits };
}

-- "The payload holds, each starting on an octet: descriptors (5.3 only), group references at the number width, width codes,
-- length codes, values. Each group field has room for all groups.": where each begins, the references at octet `start`
module _ (start : ℕ) (t : Template) where
  unfoldable pub widths_at : ℕ
  widths_at = start + span_of 0 t.width t.groups

  unfoldable pub lengths_at : ℕ
  lengths_at = widths_at + span_of 0 t.widths.bits t.groups

  unfoldable pub values_at : ℕ
  values_at = lengths_at + span_of 0 t.lengths.bits t.groups

-- "as many first values as the order says [..] then the overall minimum [..] Each takes the stated 1 to 4 octets."
abbrev pub descriptors_end : Differencing → ℕ
descriptors_end d = suc d.order * d.octets

-- 3
abbrev pub order_refusals : Differencing → List Row
order_refusals d =
    eqb d.order 0 gives Order
    ∷ ltb 2 d.order gives Order
    ∷ []

-- 1, 2
abbrev pub kind_refusals : Template → List Row
kind_refusals t =
    not (eqb t.splitting 1) gives Splitting
    ∷ ltb 2 t.management gives Management
    ∷ []

-- 4
abbrev pub descriptor_refusals : Differencing → List Row
descriptor_refusals d =
    eqb d.octets 0 gives Descriptors
    ∷ ltb 4 d.octets gives Descriptors
    ∷ []

-- 6, 5
abbrev pub field_refusals : Template → List Row
field_refusals t =
    eqb t.groups 0 gives GroupCount
    ∷ ltb limit t.groups gives GroupCount
    ∷ ltb 31 t.width gives Width
    ∷ ltb 32 t.widths.bits gives Width
    ∷ ltb 32 t.lengths.bits gives Width
    ∷ []
