-- Codes of groups, put one behind another. Assumes nothing.
use Rattle.std.proofs.Common.{◌≡◌, ℕ, ◌+◌, ◌*◌, ◌<◌, ◌≤◌, List, [], ◌∷◌, map, length, take, sym, ap, ◌∙◌, arith}
use Rattle.std.proofs.lemmas.List.{length-map, get_or-map, take_all}
use Rattle.format.specs.Bits.{string_of}
use Rattle.format.specs.declared.Group.{Group}
use Rattle.writer.specs.Pen.{Ready, Moved}
use Rattle.writer.specs.declared.Pen.{Pen}
use Rattle.writer.proofs.Jobs.{number-ready, number-moved}
use Rattle.numbers.specs.Records.{IsAt}

module _ (coded : Group → ℕ) (w : ℕ) (groups : List Group) where
  abbrev codes : List ℕ
  codes = map coded groups

  module _ (k : ℕ) (l : k < length groups) {p q : Pen} {octets octets' : List ℕ} (m : Moved p (string_of w (take k codes)) octets octets' q) where
    there : k < length codes
    there = rw length-map l

    pub code-ready : Ready p (length groups * w) octets → Ready q w octets'
    code-ready r = number-ready w codes k there (rw length-map r) m

    pub code-moved : {g : Group} → IsAt groups k g → {x : ℕ} → x ≡ coded g → {r : Pen} {octets'' : List ℕ} → Moved q (string_of w (x ∷ [])) octets' octets'' r
        → Moved p (string_of w (take (k + 1) codes)) octets octets'' r
    code-moved {g} e ex n = number-moved w codes k there m (ex ∙ ap coded (e g) ∙ sym (get_or-map coded groups k g 0 l)) n

  pub codes-moved : (k : ℕ) → length groups ≤ k → {p q : Pen} {octets octets' : List ℕ} → Moved p (string_of w (take k codes)) octets octets' q → Moved p (string_of w codes) octets octets' q
  codes-moved k l m = rw (take_all k codes (omega (arith, length-map groups coded))) at m
