-- What reading and naming answer, once the numbers of all rows are there. Assumes nothing.
use mathlib.Core.Path.{◌≡◌, refl, sym, ap, ◌∙◌}
use mathlib.Core.Bool.{true, false}
use mathlib.Core.List.{List}
use Prim.Native.Nat.{ℕ, ◌/◌, ◌*◌, ◌≤◌, ◌<◌}
use native.Mathlib.Omega.{arith}
use borrow.Author.Tests.{lt-ltb, le-ltb}
use lib.Dec.{ltb}
use lib.ListN.{length, get_or, take}
use lib.Seq.{length-take-le}
use Rattle.std.specs.declared.result.Result.TheVariants.{Ok, Err}
use Rattle.format.specs.Lists.{◌over◌}
use Rattle.format.specs.Layout.{in_fours, number_size}
use Rattle.format.specs.Refusals.{first, left}
use Rattle.format.specs.Section5.{table, section_size, numbers_of, fields_in, fields_of, head_of, declared_of, template_of, differencing_of, wrong_head, read_section5, named_by}
use Rattle.format.specs.declared.Refusal.{Refusal}
use Rattle.format.specs.declared.Refusal.TheVariants.{Room, Section5}
use Rattle.format.specs.declared.Head.{Head}
use Rattle.format.specs.declared.Template.{Template}
use Rattle.format.specs.declared.Differencing.{Differencing}
use Rattle.format.specs.declared.Named.TheVariants as named
use Rattle.laws.specs.Lists.{take-map}
use Rattle.section5.specs.Kind.{number, Counted, Headed}
use Rattle.section5.specs.Read.{head_in, wrong, Read}
use Rattle.section5.specs.declared.kind.Kind.{Kind}
use Rattle.section5.specs.declared.kind.Kind.TheVariants.{Complex, Spatial}
use Rattle.section5.specs.declared.fields.Fields.{Fields}
use Rattle.section5.proofs.Rows.{fields-same, declared-is}

-- ---- reading

module _ (section5 : List ℕ) {numbers : List ℕ} (en : numbers ≡ numbers_of (fields_in table section5)) {head : Head} (eh : head ≡ head_of (fields_of table numbers)) where
  head-same : head ≡ head_in section5
  head-same = eh ∙ ap head_of (fields-same section5 en)

  pub refused-head : {refusal : Refusal} → Headed head (Err refusal) → (wrong section5 ≡ true) × (refusal ≡ Section5)
  refused-head h = (rw head-same at (h.1 (length section5) (section_size head.template)), h.0)

  module _ (kind : Kind) (h : Headed head (Ok kind)) {size : ℕ} (es : size ≡ section_size (number kind)) where
    wrong-is : wrong section5 ≡ ltb (length section5) size
    wrong-is =
        ap (λ (x : Head). wrong_head (length section5) (section_size x.template) x) (sym head-same)
        ∙ h.1 (length section5) (section_size head.template)
        ∙ ap (λ (n : ℕ). ltb (length section5) (section_size n)) (sym h.0)
        ∙ ap (ltb (length section5)) (sym es)

    pub refused-short : length section5 < size → (wrong section5 ≡ true) × ◌≡◌ {A = Refusal} Section5 Section5
    refused-short l = (wrong-is ∙ lt-ltb (length section5) size l, refl)

    pub read_right : size ≤ length section5 → (wrong section5 ≡ false) × (number kind ≡ (head_in section5).template) × (numbers ≡ numbers_of (fields_in table section5))
    read_right l = (wrong-is ∙ le-ltb (length section5) size l, h.0 ∙ ap (λ (x : Head). x.template) head-same, en)

-- ---- what the two answer

module _ (section5 : List ℕ) where
  pub named-refused : {refusal : Refusal} → Read section5 (Err refusal) → Err refusal ≡ named_by section5
  unfolding first named_by
  named-refused r = rw (r.0, r.1)

  pub read-refused : {refusal : Refusal} (lent : List ℕ) → Read section5 (Err refusal) → left (Err refusal) lent ≡ read_section5 section5 lent
  unfolding first read_section5
  read-refused lent r = rw (r.0, r.1)

  module _ (fields : Fields) (r : Read section5 (Ok fields)) where
    module _ {declared : ℕ} {t : Template} (ed : declared ≡ get_or fields.numbers 2 0) (et : t ≡ template_of (fields_of table fields.numbers)) where
      declared-same : declared ≡ declared_of (fields_in table section5)
      declared-same = ed ∙ declared-is section5 r.2

      template-same : t ≡ template_of (fields_in table section5)
      template-same = et ∙ ap template_of (fields-same section5 r.2)

      pub named-complex : fields.kind ≡ Complex → Ok (named.Complex declared t) ≡ named_by section5
      unfolding first named_by
      named-complex e = rw (r.0, ← r.1, e, declared-same, template-same)

      pub named-spatial : fields.kind ≡ Spatial → {d : Differencing} → d ≡ differencing_of (fields_of table fields.numbers) → Ok (named.Spatial declared t d) ≡ named_by section5
      unfolding first named_by
      named-spatial e eq = rw (r.0, ← r.1, e, declared-same, template-same, eq, fields-same section5 r.2)

    module _ {count : ℕ} (k : Counted (number fields.kind) count) where
      -- as many numbers as a template has rows
      pub front_length : count ≡ length (take count fields.numbers)
      unfolding table
      front_length = let long : length fields.numbers ≡ 22 = ap length r.2 in sym (length-take-le count fields.numbers (omega (arith, k.few)))

      pub front-room : (lent : List ℕ) → count ≤ length lent / number_size → length (take count fields.numbers) * number_size ≤ length lent
      front-room lent h = omega (arith, front_length)

      pub read-room : (lent : List ℕ) → length lent / number_size < count → left (Err Room) lent ≡ read_section5 section5 lent
      unfolding first read_section5
      read-room lent h = rw (r.0, ← r.1, ← k.is, lt-ltb (length lent / number_size) count h)

      pub read_done : (lent : List ℕ) → count ≤ length lent / number_size → {now : List ℕ} → now ≡ in_fours (take count fields.numbers) over lent → left (Ok tt) now ≡ read_section5 section5 lent
      unfolding first read_section5
      read_done lent h e = rw (r.0, ← r.1, ← k.is, le-ltb (length lent / number_size) count h, e, r.2, take-map, take-map)
