-- Text put into a buffer from a place on. What no longer fits is left out.
use Rattle.std.specs.Prelude.{ℕ, ◌+◌, ◌-◌, min, ◌≡◌, List, ◌++◌, length, take, drop}
use Rattle.std.specs.Borrow.{MutBor}
use Rattle.text.specs.declared.Text.{Text}

-- What the buffer holds afterwards.
unfoldable pub with_text : List ℕ → ℕ → List ℕ → List ℕ
with_text buffer end text = take end buffer ++ (take (length buffer - end) text ++ drop (end + length text) buffer)

-- The place in a buffer of a given length at which the text then ends.
unfoldable pub end_after : ℕ → ℕ → List ℕ → ℕ
end_after room end text = end + min (length text) (room - end)

-- The text was put into the buffer at `end`: the buffer `after`, and the new end.
pub record Puts (text buffer : List ℕ) (end : ℕ) (after : List ℕ) (new_end : ℕ) : Type 0 where
  pub buffer_is : after ≡ with_text buffer end text
  pub end_is : new_end ≡ end_after (length buffer) end text

-- A text in the lent buffer, which ends at that place.
pub record Begins (buffer : MutBor (List ℕ)) (end : ℕ) (text : Text) : Type 0 where
  pub same_buffer : text.buffer.ghost_name ≡ buffer.ghost_name
  pub buffer_is : text.buffer.now ≡ buffer.now
  pub end_is : text.end ≡ end

-- More was put where the text so far ended, into the same buffer.
pub record Adds (more : List ℕ) (before after : Text) : Type 0 where
  pub same_buffer : after.buffer.ghost_name ≡ before.buffer.ghost_name
  pub puts : Puts more before.buffer.now before.end after.buffer.now after.end
