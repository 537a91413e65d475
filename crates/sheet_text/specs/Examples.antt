-- Example A as text, and what is said to some texts.
use Rattle.std.specs.Prelude.{ℕ, ◌≡◌, List, replicate}
use Rattle.sheet.specs.Examples.{example_a, sheet_a}
use Rattle.text.specs.Ascii.{ascii}
use Rattle.sheet_text.specs.Meaning.{meant, meaning_of}
use Rattle.sheet_text.specs.Composing.{compose_answer, composed, answer_line}
use Rattle.sheet_text.specs.Listing.{listed}

abbrev pub text_a : List ℕ
text_a = ascii "processors 2\n# processor memory computation period deadline\n0 1 1 4 4\n1 2 3 12 12\n"

-- The same in another layout, without a last newline.
abbrev pub other_a : List ℕ
other_a = ascii "# tiles and hints\n\n  processors  02 # two\n 0 1 1 4 4#5\n1 2 3 12 012"

-- What is printed for a text that is refused.
abbrev pub said_to : List ℕ → List ℕ
said_to text = answer_line (compose_answer text 1024)

pub record Said : Type 0 where
  pub A : composed text_a (replicate 41 0) ≡ sheet_a
  pub other_a : meaning_of other_a ≡ meant example_a
  pub listed_a : listed sheet_a ≡ text_a
  pub nothing : said_to (ascii "") ≡ ascii "refused line 1 column 1: processors expected\n"
  pub number : said_to (ascii "processors 2\n0 1 1 4 x\n") ≡ ascii "refused line 2 column 9: not a number\n"
  pub large : said_to (ascii "\nprocessors 256") ≡ ascii "refused line 2 column 12: number too large\n"
  pub few : said_to (ascii "processors 2\n0 1 1 4  # 4\n") ≡ ascii "refused line 2 column 8: number missing\n"
  pub many : said_to (ascii "processors 2 3") ≡ ascii "refused line 1 column 14: nothing more expected\n"
  pub range : said_to (ascii "processors 2\n0 1 1 4 5\n") ≡ ascii "refused 8 0 0\n"
