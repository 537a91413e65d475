-- How far each contract reaches: two results that meet it are equal, and so are two final buffers.
use Prim.Native.Nat.{ℕ}
use mathlib.Core.Path.{◌≡◌, sym, ◌∙◌}
use mathlib.Core.List.{List}
use Rattle.std.specs.Borrow.{MutBor}
use Rattle.text.specs.declared.Text.{Text}
use Rattle.text.specs.Putting.{Puts, Begins, Adds}

pub puts_determined : {text buffer : List ℕ} {end : ℕ} {after after' : List ℕ} {new_end new_end' : ℕ}
    → Puts text buffer end after new_end
    → Puts text buffer end after' new_end'
    → (after ≡ after') × (new_end ≡ new_end')
puts_determined p q = (p.buffer_is ∙ sym q.buffer_is, p.end_is ∙ sym q.end_is)

pub adds_determined : {more : List ℕ} {before after after' : Text}
    → Adds more before after
    → Adds more before after'
    → (after.buffer.now ≡ after'.buffer.now) × (after.end ≡ after'.end)
adds_determined p q = puts_determined p.puts q.puts

pub begins_determined : {buffer : MutBor (List ℕ)} {end : ℕ} {text text' : Text}
    → Begins buffer end text
    → Begins buffer end text'
    → (text.buffer.now ≡ text'.buffer.now) × (text.end ≡ text'.end)
begins_determined p q = (p.buffer_is ∙ sym q.buffer_is, p.end_is ∙ sym q.end_is)
