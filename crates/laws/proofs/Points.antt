-- One point by itself, as its group and its own bits make it. These rest on `point-read` and `mark-zero`. Assumes nothing.
use Rattle.std.specs.Prelude.{◌≡◌, not, cond, eqb}
use Rattle.std.proofs.Math.Path.{sym, ap, ap₂}
use Rattle.std.proofs.Common.{◌∙◌}
use mathlib.Core.List.{List}
use Prim.Native.Nat.{ℕ, ◌+◌, ◌*◌, ◌<◌}
use Rattle.std.proofs.Math.ListN.{get_or}
use Rattle.format.specs.Bits.{bit_at, number_at}
use Rattle.format.specs.Layout.{mark_of}
use Rattle.format.specs.Unpacking.{Codes, codes_of, reference_of, group_width, group_length, points_before, bits_before, said_by, point_of, points_up_to}
use Rattle.format.specs.declared.Template.{Template}
use Rattle.format.specs.declared.DecodedValue.{DecodedValue}
use Rattle.laws.specs.Lists.{total_ext}
use Rattle.laws.specs.Bits.{number-ext}
use Rattle.laws.specs.Points.{point-placed, value_place, point-read, missing_code, mark-zero}

module _ (start : ℕ) (t : Template) where
  -- So payloads that agree in their width and length codes, in a group's reference and in the bits of one of its values
  -- have one point there, whatever else they hold.
  module _ (a b : List ℕ) (widths : (codes_of start t a).widths ≡ (codes_of start t b).widths) (lengths : (codes_of start t a).lengths ≡ (codes_of start t b).lengths) where
    abbrev codes : Codes
    codes = codes_of start t a

    width_same : (g : ℕ) → group_width t codes g ≡ group_width t (codes_of start t b) g
    unfolding group_width
    width_same g = rw widths

    length-same : (g : ℕ) → group_length t codes g ≡ group_length t (codes_of start t b) g
    unfolding group_length
    length-same g = rw lengths

    bits-same : (g : ℕ) → bits_before t codes g ≡ bits_before t (codes_of start t b) g
    unfolding bits_before
    bits-same g = total_ext g _ _ (λ i l. ap₂ (λ (x y : ℕ). x * y) (length-same i) (width_same i))

    points-same : (g : ℕ) → points_before t codes g ≡ points_before t (codes_of start t b) g
    unfolding points_before
    points-same g = total_ext g _ _ (λ i l. length-same i)

    pub point-own : (d : DecodedValue) (g k : ℕ) → g < t.groups → k < group_length t codes g → reference_of codes g ≡ reference_of (codes_of start t b) g
        → ((i : ℕ) → i < group_width t codes g → bit_at a (value_place start t codes g k + i) ≡ bit_at b (value_place start t codes g k + i))
        → get_or (points_up_to t (said_by start t a) t.groups) (points_before t codes g + k) d
        ≡ get_or (points_up_to t (said_by start t b) t.groups) (points_before t codes g + k) d
    unfolding said_by
    point-own d g k l m reference bits =
        let w = group_width t codes g in
        let p = value_place start t codes g k in
        let value : number_at a p w ≡ number_at b p w = number-ext (bit_at a) (bit_at b) p p w bits in
        let inside : k < group_length t (codes_of start t b) g = rw (length-same g) at m in
        let other : get_or (points_up_to t (said_by start t b) t.groups) (points_before t codes g + k) d ≡ point_of t w (reference_of (codes_of start t b) g) (number_at b p w) =
        rw (points-same g, bits-same g, width_same g) (point-placed t (said_by start t b) d t.groups g k l inside ∙ point-read start t b g k l inside) in
        point-placed t (said_by start t a) d t.groups g k l m ∙ point-read start t a g k l m ∙ ap₂ (point_of t w) reference value ∙ sym other

-- at every place of a payload
pub mark-placed : (start : ℕ) (t : Template) (payload : List ℕ) (d : DecodedValue) (g k : ℕ) → g < t.groups → k < group_length t (codes_of start t payload) g
    → (let codes = codes_of start t payload in
    let w = group_width t codes g in
    eqb (mark_of (get_or (points_up_to t (said_by start t payload) t.groups) (points_before t codes g + k) d)) 0
    ≡ not (cond (eqb w 0) (missing_code t t.width (reference_of codes g)) (missing_code t w (number_at payload (value_place start t codes g k) w))))
unfolding said_by
mark-placed start t payload d g k l m =
    let codes = codes_of start t payload in
    let w = group_width t codes g in
    ap (λ (p : DecodedValue). eqb (mark_of p) 0) (point-placed t (said_by start t payload) d t.groups g k l m ∙ point-read start t payload g k l m)
    ∙ mark-zero t w (reference_of codes g) (number_at payload (value_place start t codes g k) w)
