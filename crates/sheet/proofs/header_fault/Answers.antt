use Rattle.std.specs.Prelude.{◌≡◌, length}
use Rattle.std.proofs.Common.{sym, ap, ◌∙◌}
use Rattle.laws.specs.Choice.{first_of}
use Rattle.laws.specs.ChoiceLaws.{chain}
use Rattle.sheet.specs.Refusals.{fault_number}
use Rattle.sheet.specs.Layout.{stated_length, length_for, processors_of, count_of}
use Rattle.sheet.specs.Ranges.{count_table, count_fault}
use Rattle.sheet.specs.Reading.{header_fault}
use Rattle.sheet.proofs.header_fault.Goals as goal
use Rattle.sheet.proofs.header_fault.Goals.{Else-stated-s, Else-stated-count}

is_whole : (c : Else-stated-s) → stated_length c.args.s.now ≡ length c.args.s.now
is_whole c = sym c.stated_length-stated.ensures ∙ c.if-stated-s.false

is_for_rows : (c : Else-stated-count) → stated_length c.args.s.now ≡ length_for (count_of c.args.s.now)
is_for_rows c = sym c.stated_length-stated.ensures ∙ c.if-stated-count.false ∙ ap length_for c.from-count.ensures

pub returns-then-s-lt-HEADER_BYTES : goal.returns-then-s-lt-HEADER_BYTES
unfolding header_fault
returns-then-s-lt-HEADER_BYTES c = search chain depth 16

pub returns-then-s-ne-VERSION_READ : goal.returns-then-s-ne-VERSION_READ
unfolding header_fault
returns-then-s-ne-VERSION_READ c = search chain depth 16

pub returns-then-stated-s : goal.returns-then-stated-s
unfolding header_fault
returns-then-stated-s c =
    let n : stated_length c.args.s.now ≡ length c.args.s.now → ⊥ = λ z. c.if-stated-s.true (c.stated_length-stated.ensures ∙ z) in search chain depth 16

pub returns-then-stated-count : goal.returns-then-stated-count
unfolding header_fault
returns-then-stated-count c =
    let w = is_whole (goal.at.returns-then-stated-count c).Else-stated-s in
    let n : stated_length c.args.s.now ≡ length_for (count_of c.args.s.now) → ⊥ = λ z. c.if-stated-count.true (c.stated_length-stated.ensures ∙ z ∙ ap length_for (sym c.from-count.ensures)) in
    search chain depth 16

pub returns : goal.returns
unfolding header_fault count_fault
returns c =
    let w = is_whole (goal.at.returns c).Else-stated-s in
    let r = is_for_rows (goal.at.returns c).Else-stated-count in
    let s = c.args.s.now in
    let f : fault_number c.count_fault.result ≡ first_of (count_table (processors_of s) (count_of s)) = c.count_fault.ensures ∙ ap (count_fault (processors_of s)) c.from-count.ensures in
    search chain depth 16
