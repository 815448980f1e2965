-- What a packing of some groups says: its points are the groups' numbers. Assumes nothing.
use mathlib.Core.Path.{◌≡◌, refl, ap, ◌∙◌}
use mathlib.Core.Bool.{Bool, true, false, cond}
use mathlib.Core.List.{List, [], append-nil, map}
use Prim.Native.Nat.{ℕ, ◌+◌, ◌-◌, ◌^◌, ◌<◌}
use native.Mathlib.Omega.{arith}
use borrow.Author.Tests.{eqb-true}
use lib.Dec.{eqb}
use lib.ListN.{length, get_or}
use Rattle.format.specs.Lists.{listed, greatest, least}
use Rattle.format.specs.Bits.{rounded_up}
use Rattle.format.specs.Grouping.{width_of}
use Rattle.format.specs.Template.{values_at}
use Rattle.format.specs.Unpacking.{Codes, codes_of, reference_of, group_length, bits_before, Said, said_by, decoded, point_of, point_at, points_up_to}
use Rattle.format.specs.Packing.{length_codes, value_string, payload_of, template_of}
use Rattle.format.specs.declared.Template.{Template}
use Rattle.laws.specs.Lists.{length-map, map_at, listed-ext, listed-map, joined-ext}
use Rattle.laws.specs.Digits.{bits-within}
use Rattle.laws.specs.Extremes.{least-lower, least-greatest, fits_width}
use Rattle.laws.specs.Groups.{all_of, joined-map, greatest-group}
use Rattle.laws.specs.Saying.{Fitting, codes-back, said-back, at-end}
use Rattle.laws.specs.Codings.{codes_for, fitting, template-coded}
use Rattle.one_packing.specs.Claims.{number_point}

-- under management 0 no value is a missing code
plain : (t : Template) → t.management ≡ 0 → (w value number : ℕ) → decoded t w value number ≡ number_point number
unfolding decoded
plain t e w value number = rw e

-- a number of a group from its value: in a group of width 0 all numbers are the reference
point-back : (t : Template) → t.management ≡ 0 → (group : List ℕ) (k : ℕ) → k < length group
    → point_of t (width_of group) (least group) (get_or group k 0 - least group) ≡ number_point (get_or group k 0)
unfolding point_of
point-back t e group k l = by-test (eqb (width_of group) 0) refl
  where
    by-test : (b : Bool) → eqb (width_of group) 0 ≡ b
        → cond b (decoded t t.width (least group) (least group)) (decoded t (width_of group) (get_or group k 0 - least group) (get_or group k 0 - least group + least group)) ≡ number_point (get_or group k 0)
    by-test true h =
        let one : get_or group k 0 - least group < 1 = rw (eqb-true (width_of group) 0 h) at (fits_width group k l) in
        plain t e t.width (least group) (least group) ∙ ap number_point (omega (arith, one, least-lower group k l))
    by-test false h = plain t e (width_of group) (get_or group k 0 - least group) (get_or group k 0 - least group + least group) ∙ ap number_point (omega (arith, least-lower group k l))

-- its values
abbrev pub values_of : List ℕ → List ℕ
values_of group = map (λ number. number - least group) group

-- the payload of a packing
module _ (numbers : List ℕ) (groups : List (List ℕ)) (e : all_of groups ≡ numbers) (some : 0 < length groups) where
  abbrev t : Template
  t = template_of numbers groups

  abbrev codes : Codes
  codes = codes_for width_of (map least groups) t groups

  reference-fits : (k : ℕ) → k < length (map least groups) → get_or (map least groups) k 0 < 2 ^ t.width
  unfolding template_of
  reference-fits k l =
      let m : k < length groups = omega (arith, length-map least groups) in
      rw (map_at least groups [] 0 k m)
      (bits-within (least (get_or groups k [])) (greatest numbers) (omega (arith, least-greatest (get_or groups k []), greatest-group groups k m, ap greatest e)))

  own : Fitting width_of values_of [] t codes groups
  own =
      fitting width_of (map least groups) t groups (template-coded numbers groups some) values_of (λ group. length-map (λ number. number - least group) group) (length-map least groups) reference-fits
      (λ g l k m.
      let group = get_or groups g [] in
      let n : k < length group = omega (arith, length-map (λ number. number - least group) group) in
      rw (map_at (λ number. number - least group) group 0 0 k n) (fits_width group k n))

  pub packed-codes : codes_of 0 t (payload_of t groups) ≡ codes
  unfolding payload_of length_codes value_string
  packed-codes = rw append-nil at (codes-back width_of values_of [] t codes 0 groups own [] [])

  -- the payload ends with the last value's octet
  pub packed-end : length (payload_of t groups) ≡ values_at 0 t + rounded_up (bits_before t codes t.groups)
  unfolding payload_of length_codes value_string
  packed-end = at-end width_of values_of [] t codes 0 groups own [] []

  -- ---- its points

  abbrev said : Said
  said = record { codes = codes; values = map values_of groups }

  packed_said : said_by 0 t (payload_of t groups) ≡ said
  unfolding payload_of length_codes value_string
  packed_said = rw append-nil at (said-back width_of values_of [] t codes 0 groups own [] [])

  own-point : (g k : ℕ) → g < length groups → k < length (get_or groups g []) → point_at t said g k ≡ number_point (get_or (get_or groups g []) k 0)
  unfolding point_at reference_of template_of
  own-point g k l m =
      let group = get_or groups g [] in
      rw (own.group-width g l, map_at least groups [] 0 g l, map_at values_of groups [] [] g l, map_at (λ number. number - least group) group 0 0 k m)
      (point-back t refl group k m)

  own-points : (g : ℕ) → g < length groups → listed (group_length t codes g) (point_at t said g) ≡ map number_point (get_or groups g [])
  unfolding template_of
  own-points g l =
      let group = get_or groups g [] in
      ap (λ (n : ℕ). listed n (point_at t said g)) (own.group-length g l ∙ length-map (λ number. number - least group) group)
      ∙ listed-ext (length group) (point_at t said g) (λ k. number_point (get_or group k 0)) (λ k m. own-point g k l m)
      ∙ listed-map number_point group 0 refl

  pub packed-points : points_up_to t (said_by 0 t (payload_of t groups)) t.groups ≡ map number_point numbers
  unfolding points_up_to template_of
  packed-points =
      rw packed_said (joined-ext (length groups) _ _ own-points ∙ joined-map number_point groups refl ∙ ap (map number_point) e)
