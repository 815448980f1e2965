-- The group that holds a place of the list. Assumes nothing.
use Rattle.std.specs.Prelude.{ℕ, List}
use Rattle.std.specs.declared.result.Result.{Result}
use Rattle.std.specs.declared.result.Result.TheVariants.{Ok, Err}
use Rattle.format.specs.Refusals.{first}
use Rattle.format.specs.Template.{values_at}
use Rattle.format.specs.Unpacking.{codes_of}
use Rattle.format.specs.Point.{point_refusals}
use Rattle.format.specs.declared.Refusal.{Refusal}
use Rattle.format.specs.declared.Template.{Template}
use Rattle.groups.specs.Packed.{holder_group}
use Rattle.groups.specs.Walk.{holder_walk}
use Rattle.groups.specs.declared.HolderGroup.{HolderGroup}

-- of a payload under 5.2, the last group that begins at the place or before it
abbrev pub holder52 : ℕ → Template → List ℕ → HolderGroup
holder52 place t payload =
    let codes = codes_of 0 t payload in
    holder_group t codes (values_at 0 t) (holder_walk t codes place t.groups)

abbrev pub held52 : ℕ → Template → ℕ → List ℕ → Result HolderGroup Refusal
held52 place t declared payload =
    first Err (point_refusals place t declared payload) (Ok (holder52 place t payload))
