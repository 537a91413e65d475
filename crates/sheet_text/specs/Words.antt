-- Lines, words and numbers of a text of bytes.
use Rattle.std.specs.Prelude.{ℕ, ◌+◌, ◌*◌, ◌-◌, Bool, true, false, not, ◌&&◌, ◌||◌, List, [], ◌∷◌, length, drop, eqb, leb, ltb}
use Prim.Native.Char.{code}
use Rattle.laws.specs.Choice.{pick, ◌gives◌, first_of}
use Rattle.sheet_text.specs.Faults.{NUMBER, LARGE, FEW}
use Rattle.sheet_text.specs.declared.Mark.{Mark}
use Rattle.sheet_text.specs.declared.Mark.TheVariants.{Newline, Hash, Blank, Visible}

-- The space, the tab and the carriage return.
abbrev pub is_blank : ℕ → Bool
is_blank b = eqb b (code " ") || eqb b (code "\t") || eqb b (code "\r")

abbrev pub is_digit : ℕ → Bool
is_digit b = leb (code "0") b && leb b (code "9")

abbrev pub is_mark : Mark → ℕ → Bool
is_mark Newline b = eqb b (code "\n")
is_mark Hash b = eqb b (code "#")
is_mark Blank b = is_blank b
is_mark Visible b = not (is_blank b)

-- The bytes before the first mark of that kind, and those from it on.
unfoldable pub bytes_before : Mark → List ℕ → List ℕ
bytes_before m [] = []
bytes_before m (b ∷ text) = elim (is_mark m b) [ true ↦ [] | false ↦ b ∷ bytes_before m text ]

abbrev pub bytes_from : Mark → List ℕ → List ℕ
bytes_from m text = drop (length (bytes_before m text)) text

-- The lines: each ends at a newline, the last also where the text ends. A byte before a newline begins the first of them.
abbrev pub grown : ℕ → List (List ℕ) → List (List ℕ)
grown b [] = (b ∷ []) ∷ []
grown b (line ∷ lines) = (b ∷ line) ∷ lines

unfoldable pub lines_of : List ℕ → List (List ℕ)
lines_of [] = []
lines_of (b ∷ text) = elim (is_mark Newline b) [ true ↦ [] ∷ lines_of text | false ↦ grown b (lines_of text) ]

-- What a line says stands before its comment.
abbrev pub content_of : List ℕ → List ℕ
content_of line = bytes_before Hash line

-- The next word of a line: from the first byte that is no blank to the next blank.
abbrev pub blanks_of : List ℕ → ℕ
blanks_of line = length (bytes_before Visible line)

abbrev pub has_word : List ℕ → Bool
has_word line = ltb (blanks_of line) (length line)

abbrev pub word_of : List ℕ → List ℕ
word_of line = bytes_before Blank (bytes_from Visible line)

-- Where the word ends, and what follows it.
abbrev pub word_end : List ℕ → ℕ
word_end line = blanks_of line + length (word_of line)

abbrev pub after_word : List ℕ → List ℕ
after_word line = drop (word_end line) line

unfoldable pub same_bytes : List ℕ → List ℕ → Bool
same_bytes [] [] = true
same_bytes [] (b ∷ bs) = false
same_bytes (a ∷ as') [] = false
same_bytes (a ∷ as') (b ∷ bs) = elim (eqb a b) [ true ↦ same_bytes as' bs | false ↦ false ]

-- A number is a word of digits; its value, in decimal.
unfoldable pub all_digits : List ℕ → Bool
all_digits [] = true
all_digits (b ∷ word) = elim (is_digit b) [ true ↦ all_digits word | false ↦ false ]

unfoldable pub value_from : ℕ → List ℕ → ℕ
value_from v [] = v
value_from v (b ∷ word) = value_from (v * 10 + (b - code "0")) word

abbrev pub value_of : List ℕ → ℕ
value_of word = value_from 0 word

-- What is wrong with a word in the place of a number of at most `most`.
unfoldable pub number_fault : (most : ℕ) → List ℕ → ℕ
number_fault most word = first_of (not (all_digits word) gives NUMBER ∷ ltb most (value_of word) gives LARGE ∷ [])

pub record Number : Type 0 where
  pub fault : ℕ
  pub value : ℕ

unfoldable pub number_said : (most : ℕ) → List ℕ → Number
number_said most word =
    record { fault = number_fault most word; value = pick (eqb (number_fault most word) 0) (value_of word) 0 }

-- The next number of a line: the place of its word, or of its fault, and where the word ends.
pub record Field : Type 0 where
  pub fault : ℕ
  pub place : ℕ
  pub stop : ℕ
  pub value : ℕ

-- What is left of a line says a number next. Without a word the fault is at its beginning, where the word before has ended.
unfoldable pub field_said : (most : ℕ) → List ℕ → Field
field_said most line =
    pick (has_word line)
    (record { fault = (number_said most (word_of line)).fault; place = blanks_of line; stop = word_end line; value = (number_said most (word_of line)).value })
    (record { fault = FEW; place = 0; stop = 0; value = 0 })

-- The most that number k of a line may be: N and a processor, which stand first, are bytes; every other number has four bytes.
abbrev pub number_limit : ℕ → ℕ
number_limit k = pick (eqb k 0) 255 4294967295
