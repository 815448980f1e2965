-- Document 01, "Grouping and packing": the list of groups, over plain numbers. Assumes nothing.
use Rattle.std.specs.Prelude.{ℕ, ◌+◌, ◌*◌, ◌/◌, min, List, length, get_or, take}
use Rattle.format.specs.Lists.{listed, ◌over◌}
use Rattle.format.specs.Layout.{numbers_per_group}
use Rattle.format.specs.Grouping.{records_from, groups01}
use Rattle.format.specs.declared.Group.{Group}

-- "four numbers each: start, length, least number, width": group k of plain numbers
abbrev pub group_among : List ℕ → ℕ → Group
group_among numbers k = record {
  start = get_or numbers (k * numbers_per_group) 0;
  length = get_or numbers (k * numbers_per_group + 1) 0;
  least = get_or numbers (k * numbers_per_group + 2) 0;
  width = get_or numbers (k * numbers_per_group + 3) 0;
}

-- what is read behind the last group. "A group starts with one number.": its length tells it from any group
abbrev pub no_group : Group
no_group = record { start = 0; length = 0; least = 0; width = 0 }

-- as many of `count` groups as the list has room for and the numbers hold whole
abbrev pub fitting_of : ℕ → ℕ → ℕ → ℕ
fitting_of count room have = min count (min room (have / numbers_per_group))

-- what filling comes to: how many groups, and the lent list as it is left
pub record LeftList : Type 0 where
  pub answer : ℕ
  pub list : List Group

abbrev pub filling : ℕ → List Group → LeftList
filling answer list = record { answer = answer; list = list }

abbrev pub filled : List ℕ → ℕ → List Group → LeftList
filled numbers count lent =
    let fits = fitting_of count (length lent) (length numbers) in
    filling fits (listed fits (group_among numbers) over lent)

-- "The groups go to a lent list of groups": as many of a list's groups by document 01's rule as there is room for
abbrev pub groups_listed : ℕ → List ℕ → List Group → LeftList
groups_listed k numbers lent =
    let groups = take (length lent) (records_from 0 (groups01 k numbers)) in
    filling (length groups) (groups over lent)
