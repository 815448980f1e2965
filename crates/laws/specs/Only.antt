-- A promise that is one equation admits no second answer. Assumes nothing.
use Rattle.std.specs.Prelude.{◌≡◌, List, ℕ}
use Rattle.std.proofs.Common.{sym, ap, ◌∙◌}
use Rattle.format.specs.Refusals.{Left, left}

-- Whatever an operation takes and leaves, answers and lent buffers together: two outcomes that both equal the definition of the
-- same inputs are one outcome.
pub only_one : {Inputs Outcome : Type 0} (meaning : Inputs → Outcome) (inputs : Inputs) {one other : Outcome}
    → one ≡ meaning inputs → other ≡ meaning inputs → one ≡ other
only_one meaning inputs e d = e ∙ sym d

-- in particular of an operation that lends one buffer: the answer is the same, and so is every octet of the buffer
pub only-answer : {Inputs Answer : Type 0} (meaning : Inputs → Left Answer) (inputs : Inputs) {one other : Answer} {leaves would : List ℕ}
    → left one leaves ≡ meaning inputs → left other would ≡ meaning inputs → (one ≡ other) × (leaves ≡ would)
only-answer {Answer = Answer} meaning inputs e d =
    let same = only_one meaning inputs e d in
    (ap (λ (x : Left Answer). x.answer) same, ap (λ (x : Left Answer). x.buffer) same)
