-- What reading a Section 5 owes. Assumes nothing.
use Rattle.std.specs.Prelude.{◌≡◌, ℕ, List, Bool, true, false, length}
use Rattle.std.specs.declared.result.Result.{Result}
use Rattle.std.specs.declared.result.Result.TheVariants.{Ok, Err}
use Rattle.format.specs.Section5.{table, section_size, numbers_of, fields_in, head_of, wrong_head}
use Rattle.format.specs.declared.Head.{Head}
use Rattle.format.specs.declared.Refusal.{Refusal}
use Rattle.format.specs.declared.Refusal.TheVariants.{Section5}
use Rattle.section5.specs.Kind.{number}
use Rattle.section5.specs.declared.fields.Fields.{Fields}

abbrev pub head_in : List ℕ → Head
head_in section5 = head_of (fields_in table section5)

-- 14
abbrev pub wrong : List ℕ → Bool
wrong section5 = wrong_head (length section5) (section_size (head_in section5).template) (head_in section5)

abbrev pub Read : List ℕ → Result Fields Refusal → Type 0
Read section5 (Ok fields) = (wrong section5 ≡ false) × (number fields.kind ≡ (head_in section5).template) × (fields.numbers ≡ numbers_of (fields_in table section5))
Read section5 (Err refusal) = (wrong section5 ≡ true) × (refusal ≡ Section5)
