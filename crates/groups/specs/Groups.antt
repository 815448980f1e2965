-- What the group fields of a payload hold, where it lies with its template and its parts. Assumes nothing.
use Rattle.format.specs.Unpacking.{Codes, codes_of}
use Rattle.groups.specs.declared.Groups.{Groups}

abbrev pub codes_in : Groups → Codes
codes_in groups = codes_of groups.places.references.0 groups.template groups.payload.now
