-- Any packer and any unpacker with a round trip. Assumes nothing.
use mathlib.Core.Path.{◌≡◌, sym, ap, ◌∙◌}
use mathlib.Core.Logic.{◌↔◌}

module _ {Map Packing : Type 0} (Accepts : Map → Type 0) (packer : Map → Packing) (unpacker : Packing → Map)
    (round_trip : (map : Map) → Accepts map → unpacker (packer map) ≡ map) where
  -- packings are equal exactly when the maps are
  pub canonical : (one other : Map) → Accepts one → Accepts other → (packer one ≡ packer other) ↔ (one ≡ other)
  canonical one other h k = (λ e. sym (round_trip one h) ∙ ap unpacker e ∙ round_trip other k, ap packer)

  -- unpacking and packing again changes nothing
  pub idempotent : (map : Map) → Accepts map → packer (unpacker (packer map)) ≡ packer map
  idempotent map h = ap packer (round_trip map h)
