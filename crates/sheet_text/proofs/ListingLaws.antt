-- What a listing says: the set that was listed.
use Prim.Native.Nat.{ℕ, zero, suc, ◌+◌, ◌<◌, ◌≤◌}
use mathlib.Core.Path.{◌≡◌, refl, sym, ap, ◌∙◌}
use mathlib.Core.Bool.{true}
use mathlib.Core.List.{List, [], ◌∷◌, ◌++◌, append-nil, append_assoc}
use native.Mathlib.Nat.{add-zero, add-suc, suc-add, zero-add}
use native.Mathlib.Omega.{arith}
use lib.ListN.{length, length-append}
use borrow.Author.Tests.{lt-ltb, le-ltb}
use Rattle.laws.specs.Tabulate.{tab_from, tab}
use Rattle.laws.specs.TabulateLaws.{length_tab, get_d_tab, padded_same}
use Rattle.sheet.specs.declared.Row.{Row}
use Rattle.sheet.specs.declared.Set.{Set}
use Rattle.sheet.specs.Ranges.{most_rows, zero_row, row_in}
use Rattle.sheet.specs.Writing.{trimmed}
use Rattle.text.specs.Ascii.{ascii}
use Rattle.text.specs.Decimal.{digit, decimal}
use Rattle.text.specs.Lines.{lines_to}
use Rattle.text.proofs.DecimalLaws.{decimal_short}
use Rattle.text.proofs.Lengths.{lines_short}
use Rattle.sheet_text.specs.Faults.{no_fault}
use Rattle.sheet_text.specs.Words.{bytes_before, lines_of, has_word, same_bytes}
use Rattle.sheet_text.specs.Meaning.{TextLine, RowSaid, line_at, no_line, worded, most_bytes, first_line_said, row_numbers, row_said, rows_fault, row_of_line, rows_meant, page_meant, meant, meaning_of}
use Rattle.sheet_text.specs.Listing.{first_text, heading, row_text, row_text_of, listing}
use Rattle.sheet_text.specs.declared.Mark.{Mark}
use Rattle.sheet_text.specs.declared.Mark.TheVariants.{Newline, Hash}
use Rattle.sheet_text.proofs.WordsOfLines.{Each, each_append, No, IsWord, before_all, lines_next, word_next, word_there, after_next}
use Rattle.sheet_text.proofs.DecimalWords.{decimal_each, decimal_word, digit_no_newline, digit_no_hash}
use Rattle.sheet_text.proofs.PlainLines.{spaced, spaced_each, spaced_ends, line_of_lem, Within, numbers_after, numbers_said_lem}

abbrev rest_of : Row → List ℕ
rest_of r = r.memory ∷ r.computation ∷ r.period ∷ r.deadline ∷ []

-- A set whose numbers a text can say.
abbrev pub RowWithin : Row → Type 0
RowWithin r = Within 0 (r.processor ∷ rest_of r)

pub record Sayable (set : Set) : Type 0 where
  pub processors : Within 0 (set.processors ∷ [])
  pub count : set.count ≤ most_rows
  pub row : (i : ℕ) → i < set.count → RowWithin (row_in set i)

-- The plain lines without their ends.
abbrev first_words : ℕ → List ℕ
first_words N = ascii "processors" ++ spaced (N ∷ [])

abbrev heading_words : List ℕ
heading_words = ascii "# processor memory computation period deadline"

abbrev row_words : Row → List ℕ
row_words r = numbers_after [] r.processor (rest_of r)

first_line_lem : (N : ℕ) → first_text N ≡ first_words N ++ (10 ∷ [])
unfolding first_text
first_line_lem N = line_of_lem (ascii "processors") (N ∷ [])

row_line_lem : (r : Row) → row_text r ≡ row_words r ++ (10 ∷ [])
unfolding row_text
row_line_lem r = line_of_lem (decimal r.processor) (rest_of r)

keyword : IsWord (ascii "processors")
keyword = record { some = omega arith; whole = search depth 12 }

-- A mark that stands nowhere in these.
record Foreign (m : Mark) : Type 0 where
  digits : (d : ℕ) → d < 10 → No m (digit d)
  space : No m 32
  letters : Each (No m) (ascii "processors")

newline : Foreign Newline
newline = record { digits = digit_no_newline; space = refl; letters = search depth 12 }

hash : Foreign Hash
hash = record { digits = digit_no_hash; space = refl; letters = search depth 12 }

module _ {m : Mark} (f : Foreign m) where
  spaced_no : (ns : List ℕ) → Each (No m) (spaced ns)
  spaced_no = spaced_each (No m) f.digits f.space

  first_no : (N : ℕ) → Each (No m) (first_words N)
  first_no N = each_append (No m) (ascii "processors") (spaced (N ∷ [])) f.letters (spaced_no (N ∷ []))

  row_no : (r : Row) → Each (No m) (row_words r)
  row_no r = each_append (No m) (decimal r.processor) (spaced (rest_of r)) (decimal_each (No m) f.digits r.processor) (spaced_no (rest_of r))

-- The lines of a listing.
tab_more : {A : Type 0} (f : ℕ → A) (i n : ℕ) → tab_from f i (suc n) ≡ tab_from f i n ++ (f (i + n) ∷ [])
unfolding tab_from
tab_more f i zero = ap (λ (k : ℕ). f k ∷ []) (sym (add-zero i))
tab_more f i (suc n) =
    ap (λ (l : List _). f i ∷ l) (tab_more f (suc i) n ∙ ap (λ (k : ℕ). tab_from f (suc i) n ++ (f k ∷ [])) (suc-add i n ∙ sym (add-suc i n)))

module _ (line_of words_of : ℕ → List ℕ) (e : (i : ℕ) → line_of i ≡ words_of i ++ (10 ∷ [])) (clear : (i : ℕ) → Each (No Newline) (words_of i)) where
  lines_to_lem : (n : ℕ) (rest : List ℕ) → lines_of (lines_to line_of n ++ rest) ≡ tab n words_of ++ lines_of rest
  unfolding lines_to tab_from
  lines_to_lem zero rest = refl
  lines_to_lem (suc n) rest =
      ap lines_of (append_assoc (lines_to line_of n) (line_of n) rest)
      ∙ lines_to_lem n (line_of n ++ rest)
      ∙ ap (λ (x : List (List ℕ)). tab n words_of ++ x)
      (ap (λ (x : List ℕ). lines_of (x ++ rest)) (e n) ∙ ap lines_of (append_assoc (words_of n) (10 ∷ []) rest) ∙ lines_next (words_of n) rest (clear n))
      ∙ sym (append_assoc (tab n words_of) (words_of n ∷ []) (lines_of rest))
      ∙ ap (λ (x : List (List ℕ)). x ++ lines_of rest) (sym (tab_more words_of 0 n ∙ ap (λ (k : ℕ). tab n words_of ++ (words_of k ∷ [])) (zero-add n)))

abbrev rows_words : Set → List (List ℕ)
rows_words set = tab set.count (λ i. row_words (row_in set i))

lines_listed : (set : Set) → lines_of (listing set) ≡ first_words set.processors ∷ heading_words ∷ rows_words set
unfolding listing lines_of
lines_listed set =
    let rows : List ℕ = lines_to (row_text_of (row_in set)) set.count in
    ap (λ (x : List ℕ). lines_of (x ++ (heading ++ rows))) (first_line_lem set.processors)
    ∙ ap lines_of (append_assoc (first_words set.processors) (10 ∷ []) (heading ++ rows))
    ∙ lines_next (first_words set.processors) (heading ++ rows) (first_no newline set.processors)
    ∙ ap (λ (x : List ℕ). first_words set.processors ∷ heading_words ∷ lines_of x) (sym (append-nil rows))
    ∙ ap (λ (x : List (List ℕ)). first_words set.processors ∷ heading_words ∷ x)
    (lines_to_lem (row_text_of (row_in set)) (λ i. row_words (row_in set i)) (λ i. row_line_lem (row_in set i)) (λ i. row_no newline (row_in set i)) set.count []
    ∙ append-nil (rows_words set))

-- Those with words: all but the heading.
worded_next : (n : ℕ) (words : List ℕ) (more : List (List ℕ)) → Each (No Hash) words → has_word words ≡ true
    → worded n (words ∷ more) ≡ line_at n words ∷ worded (suc n) more
unfolding worded
worded_next n words more h w =
    rw (before_all Hash words h, w, worded) (ap (λ (x : List ℕ). line_at n x ∷ worded (suc n) more) (before_all Hash words h))

-- Row i's line: two lines stand before row 0's.
abbrev number_of : ℕ → ℕ
number_of i = suc (suc (suc i))

abbrev row_line : (ℕ → Row) → ℕ → TextLine
row_line row i = line_at (number_of i) (row_words (row i))

worded_rows : (row : ℕ → Row) (i n : ℕ) → worded (number_of i) (tab_from (λ j. row_words (row j)) i n) ≡ tab_from (row_line row) i n
unfolding tab_from worded
worded_rows row i zero = refl
worded_rows row i (suc n) =
    let r = row i in
    worded_next (number_of i) (row_words r) (tab_from (λ j. row_words (row j)) (suc i) n) (row_no hash r)
    (word_there [] (decimal r.processor) (spaced (rest_of r)) tt (decimal_word r.processor) (spaced_ends (rest_of r)))
    ∙ ap (λ (l : List TextLine). row_line row i ∷ l) (worded_rows row (suc i) n)

abbrev row_lines : Set → List TextLine
row_lines set = tab set.count (row_line (row_in set))

worded_listed : (set : Set) → worded 1 (lines_of (listing set)) ≡ line_at 1 (first_words set.processors) ∷ row_lines set
unfolding worded bytes_before
worded_listed set =
    let N = set.processors in
    ap (worded 1) (lines_listed set)
    ∙ worded_next 1 (first_words N) (heading_words ∷ rows_words set) (first_no hash N)
    (word_there [] (ascii "processors") (spaced (N ∷ [])) tt keyword (spaced_ends (N ∷ [])))
    ∙ ap (λ (l : List TextLine). line_at 1 (first_words N) ∷ l) (worded_rows (row_in set) 0 set.count)

-- What the first line says, and a row's.
first_said : (N : ℕ) → Within 0 (N ∷ []) → first_line_said 1 (first_words N) ≡ record { fault = no_fault; values = N ∷ 0 ∷ 0 ∷ 0 ∷ 0 ∷ [] }
unfolding first_line_said same_bytes tab_from
first_said N w =
    let ends = spaced_ends (N ∷ []) in
    rw (after_next [] (ascii "processors") (spaced (N ∷ [])) tt keyword ends, word_next [] (ascii "processors") (spaced (N ∷ [])) tt keyword ends)
    (numbers_said_lem (32 ∷ []) (refl, tt) N [] w 1 _)

row_said_lem : (k n : ℕ) (r : Row) → k < most_rows → RowWithin r → row_said k n (row_words r) ≡ record { fault = no_fault; row = r }
unfolding row_said row_numbers tab_from
row_said_lem k n r l w = rw (lt-ltb k most_rows l, numbers_said_lem [] tt r.processor (rest_of r) w n 1)

-- The rows' lines have no fault, and say the rows.
rows_clear : (row : ℕ → Row) (i n : ℕ) → i + n ≤ most_rows → ((k : ℕ) → k < i + n → RowWithin (row k))
    → rows_fault i (tab_from (row_line row) i n) ≡ no_fault
unfolding rows_fault tab_from
rows_clear row i zero l w = refl
rows_clear row i (suc n) l w =
    rw (row_said_lem i (number_of i) (row i) (omega arith) (w i (omega arith)))
    (rows_clear row (suc i) n (omega arith) (λ k h. w k (omega arith)))

module _ (set : Set) (s : Sayable set) where
  rows_said : rows_meant set.processors (row_lines set) ≡ meant (trimmed set)
  unfolding rows_meant
  rows_said =
      rw (rows_clear (row_in set) 0 set.count (omega (arith, s.count)) (λ k h. s.row k (omega arith)), length_tab set.count (row_line (row_in set)))
      (ap (λ (l : List Row). meant (record { processors = set.processors; count = set.count; rows = l }))
      (padded_same (row_of_line (row_lines set)) (row_in set) zero_row most_rows set.count
      (λ i l. ap (λ (x : TextLine). (row_said i x.number x.content).row) (get_d_tab set.count (row_line (row_in set)) i no_line l)
      ∙ ap (λ (x : RowSaid). x.row) (row_said_lem i (number_of i) (row_in set i) (omega (arith, s.count)) (s.row i l)))))

  page_said : (last : ℕ) → page_meant last (line_at 1 (first_words set.processors) ∷ row_lines set) ≡ meant (trimmed set)
  unfolding page_meant
  page_said last = rw (first_said set.processors s.processors) rows_said

  -- A listing is no longer than a text may be.
  row_short : (i : ℕ) → i < set.count → length (row_text (row_in set i)) ≤ 50
  unfolding row_text
  row_short i l =
      let r : Row = row_in set i in
      let w = s.row i l in
      simp length-append
      (omega (
        arith,
        decimal_short 2 r.processor (omega arith),
        decimal_short 9 r.memory (omega arith),
        decimal_short 9 r.computation (omega arith),
        decimal_short 9 r.period (omega arith),
        decimal_short 9 r.deadline (omega arith),
      ))

  pub listing_short : length (listing set) ≤ 2048
  unfolding listing first_text
  listing_short =
      simp length-append
      (omega (arith, decimal_short 2 set.processors (omega arith), lines_short (row_text_of (row_in set)) 50 set.count row_short))

  -- Listing a set and reading that text gives the set with rows past its count zeroed.
  pub listing_said : meaning_of (listing set) ≡ meant (trimmed set)
  unfolding meaning_of
  listing_said = rw (le-ltb most_bytes (length (listing set)) (omega (arith, listing_short)), worded_listed set) (page_said _)
