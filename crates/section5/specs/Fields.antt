-- What the functions of `section5` hand to each other. Assumes nothing.
use Rattle.std.specs.Prelude.{◌≡◌, List, ℕ, ◌+◌, ◌-◌, ◌≤◌, ◌<◌, length, get_or}
use Rattle.format.specs.Lists.{whole_ones}
use Rattle.format.specs.Layout.{number_size, numbers_in}
use Rattle.format.specs.Section5.{row, table, section_size, rows_of, Field, field, fields_of, laid, field_refusals}
use Rattle.format.specs.Refusals.{first, Left, left}
use Rattle.format.specs.declared.OctetPlace.{OctetPlace}
use Rattle.format.specs.declared.Refusal.{Refusal}
use Rattle.format.specs.declared.Row.{Row}
use Rattle.std.specs.declared.result.Result.{Result}
use Rattle.std.specs.declared.result.Result.TheVariants.{Ok, Err}

-- row k of the table, and the limits of all rows
pub record InTable (k : ℕ) (r : Row) : Type 0 where
  pub is : r ≡ get_or table k (row 0 0)
  pub first : r.first ≡ (get_or table k (row 0 0)).first
  pub size : r.size ≡ (get_or table k (row 0 0)).size
  pub started : 1 ≤ r.first
  pub ended : r.first ≤ 49
  pub some : 1 ≤ r.size
  pub small : r.size ≤ 4

-- the numbers of rows of one octet fit it
pub record Fitting (numbers : List ℕ) : Type 0 where
  pub width : get_or numbers 7 0 < 256
  pub splitting : get_or numbers 9 0 < 256
  pub management : get_or numbers 10 0 < 256
  pub width-reference : get_or numbers 14 0 < 256
  pub width-bits : get_or numbers 15 0 < 256
  pub increment : get_or numbers 17 0 < 256
  pub length-bits : get_or numbers 19 0 < 256
  pub order : get_or numbers 20 0 < 256
  pub octets : get_or numbers 21 0 < 256

-- the field of row k, of numbers that are lent
abbrev pub lent_field : List ℕ → ℕ → Field
lent_field fields k = field (get_or table k (row 0 0)) (get_or (numbers_in fields) k 0)

-- whose number is lent, and whose octets are
pub record Writable (fields : List ℕ) (k : ℕ) (section5 : List ℕ) : Type 0 where
  pub among : k < 22
  pub number : k < whole_ones number_size fields
  pub room : (get_or table k (row 0 0)).first - 1 + (get_or table k (row 0 0)).size ≤ length section5

-- what is left of writing once the head is right
unfoldable pub written_by : ℕ → List ℕ → List ℕ → Left (Result OctetPlace Refusal)
written_by template numbers lent =
    let fields = fields_of (rows_of template) numbers in
    first (λ r. left (Err r) lent) (field_refusals fields (section_size template) lent)
    (left (Ok (record { 0 = section_size template })) (laid fields lent))
