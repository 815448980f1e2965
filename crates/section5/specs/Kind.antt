-- The two templates, by their numbers, and what refusal 14 is besides how much is lent. Assumes nothing.
use Rattle.std.specs.Prelude.{◌≡◌, ℕ, ◌≤◌, true, ltb}
use Rattle.std.specs.declared.result.Result.{Result}
use Rattle.std.specs.declared.result.Result.TheVariants.{Ok, Err}
use Rattle.format.specs.Section5.{field_count, wrong_head}
use Rattle.format.specs.declared.Head.{Head}
use Rattle.format.specs.declared.Refusal.{Refusal}
use Rattle.format.specs.declared.Refusal.TheVariants.{Section5}
use Rattle.section5.specs.declared.kind.Kind.{Kind}
use Rattle.section5.specs.declared.kind.Kind.TheVariants.{Complex, Spatial}

abbrev pub number : Kind → ℕ
number Complex = 2
number Spatial = 3

-- how many rows a template has
pub record Counted (template count : ℕ) : Type 0 where
  pub is : count ≡ field_count template
  pub some : 20 ≤ count
  pub few : count ≤ 22

-- which of the two has a number
abbrev pub Numbered : ℕ → Result Kind Refusal → Type 0
Numbered template (Ok kind) = number kind ≡ template
Numbered template (Err refusal) = (refusal ≡ Section5) × (template ≡ 2 → ⊥) × (template ≡ 3 → ⊥)

-- which of the two a head is right for, where enough is lent
abbrev pub Headed : Head → Result Kind Refusal → Type 0
Headed head (Ok kind) = (number kind ≡ head.template) × ((lent asked : ℕ) → wrong_head lent asked head ≡ ltb lent asked)
Headed head (Err refusal) = (refusal ≡ Section5) × ((lent asked : ℕ) → wrong_head lent asked head ≡ true)
