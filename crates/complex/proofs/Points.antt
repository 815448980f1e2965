-- Points stored one behind the other. Assumes nothing.
use mathlib.Core.Path.{◌≡◌, sym, ap, ◌∙◌}
use mathlib.Core.List.{List, flat_map}
use Prim.Native.Nat.{ℕ, ◌+◌, ◌*◌}
use borrow.Author.Tests.{eq-eqb}
use lib.ListN.{replicate}
use lib.Seq.{sets}
use Rattle.format.specs.Lists.{listed}
use Rattle.format.specs.Bits.{number_at}
use Rattle.format.specs.Layout.{point_size, point_octets}
use Rattle.format.specs.Unpacking.{point_of}
use Rattle.format.specs.declared.Template.{Template}
use Rattle.format.specs.declared.DecodedValue.{DecodedValue}
use Rattle.laws.specs.Lists.{length-listed, listed_more, listed-ext, listed_same}
use Rattle.laws.specs.Points.{size-point}
use Rattle.layout.proofs.Stores.{Things, none_stored, more_stored}
use Rattle.groups.specs.declared.PackedGroup.{PackedGroup}
use Rattle.groups.specs.Packed.{value_point}

-- of points f 0, f 1, .. the first k are stored, from point `from` on
abbrev pub Each : List ℕ → ℕ → (ℕ → DecodedValue) → ℕ → List ℕ → Type 0
Each lent from f k points = Things point_octets point_size lent from (listed k f) points

pub each_start : (lent : List ℕ) (from : ℕ) (f : ℕ → DecodedValue) → Each lent from f 0 lent
unfolding listed
each_start lent from f = none_stored point_octets point_size lent from

-- of a group of which k values are read, the next of them at its place
pub read_more : (point : DecodedValue) (t : Template) (group : PackedGroup) (payload : List ℕ) (p bit : ℕ) (lent points after : List ℕ) (from k : ℕ) → bit ≡ p + k * group.width
    → Each lent from (value_point t group payload p) k points → point ≡ point_of t group.width group.reference (number_at payload bit group.width)
    → after ≡ sets points ((from + k) * point_size) (point_octets point) → Each lent from (value_point t group payload p) (k + 1) after
unfolding value_point
read_more point t group payload p bit lent points after from k eb s ep e =
    let f : ℕ → DecodedValue = value_point t group payload p in
    let here : point ≡ f k = ep ∙ rw eb in
    rw (listed_more k f, ← here)
    (more_stored point_octets point_size lent from size-point (listed k f) point (from + k) s (ap (λ (n : ℕ). from + n) (sym (length-listed k f))) e)

-- in a group of width 0 all points are one
pub repeated-points : (t : Template) (group : PackedGroup) (payload : List ℕ) (p : ℕ) (lent : List ℕ) (at : ℕ) {point : DecodedValue} {points : List ℕ} → group.width ≡ 0
    → point ≡ point_of t group.width group.reference 0 → points ≡ sets lent at (flat_map point_octets (replicate group.length point))
    → points ≡ sets lent at (flat_map point_octets (listed group.length (value_point t group payload p)))
unfolding value_point point_of
repeated-points t group payload p lent at {point} w ep e =
    e ∙ ap (λ (ps : List DecodedValue). sets lent at (flat_map point_octets ps))
    (sym (listed_same group.length point) ∙ listed-ext group.length _ _ (λ k l. ep ∙ simp (eq-eqb group.width 0 w)))
