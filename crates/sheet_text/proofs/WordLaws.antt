-- Laws of marks, words and numbers, as the code that goes through a text's bytes needs them.
use Prim.Native.Nat.{ℕ, suc, ◌+◌, ◌*◌, ◌-◌, ◌≤◌, ◌<◌, min}
use mathlib.Core.Path.{◌≡◌, refl, sym, ap, ◌∙◌}
use mathlib.Core.Bool.{Bool, true, false, cond, ◌&&◌}
use mathlib.Core.List.{List, [], ◌∷◌}
use native.Mathlib.Omega.{arith}
use native.Mathlib.Decide.{dec_lt}
use native.Mathlib.Numerals.{add-one}
use lib.ListN.{length, get_or, take, drop, length-drop, drop_of_length-le}
use lib.Seq.{drop-cons, take_all, take-take, drop-drop}
use lib.Dec.{eqb}
use borrow.Author.Tests.{lt-ltb, le-ltb}
use Rattle.std.specs.Option.{unwrap_or}
use Rattle.std.specs.List.{position, position_or_len}
use Rattle.std.specs.Cmp.Lexicographic.{pointwise}
use Rattle.std.proofs.Common.{Ok, Err}
use Rattle.std.proofs.lemmas.List.Recursion.{is_position_or_len}
use Rattle.laws.specs.Choice.{first_of}
use Rattle.laws.specs.ChoiceLaws.{pick_true}
use Rattle.sheet_text.specs.Faults.{NUMBER, LARGE, FEW, fault_at, number_of}
use Rattle.sheet_text.specs.Words.{Number, Field, is_mark, is_digit, bytes_before, content_of, blanks_of, word_of, word_end, same_bytes, all_digits, value_from, value_of, number_fault, number_said, field_said}
use Rattle.sheet_text.specs.Parts.{first_line, after_line, too_large, capped, said_number, SaysNext}
use Rattle.sheet_text.specs.declared.Mark.{Mark}
use Rattle.sheet_text.specs.declared.Mark.TheVariants.{Newline, Hash, Blank, Visible}
use Rattle.sheet_text.specs.declared.faults.Wrong.{Wrong}

-- What is left of a list from place i on begins with element i.
next : (t : List ℕ) (i : ℕ) → i < length t → drop i t ≡ get_or t i 0 ∷ drop (i + 1) t
next t i h = rw (add-one i) (drop-cons t i 0 h)

module _ (m : Mark) where
  -- What stands before a mark is a beginning of the text.
  pub before_short : (t : List ℕ) → length (bytes_before m t) ≤ length t
  unfolding bytes_before
  before_short [] = omega arith
  before_short (b ∷ t) = go (is_mark m b) (before_short t)
    where
      go : (x : Bool) → length (bytes_before m t) ≤ length t → length {A = ℕ} (elim x [ true ↦ [] | false ↦ b ∷ bytes_before m t ]) ≤ suc (length t)
      go true ih = omega arith
      go false ih = omega arith

  pub before_take : (t : List ℕ) → take (length (bytes_before m t)) t ≡ bytes_before m t
  unfolding bytes_before
  before_take [] = refl
  before_take (b ∷ t) = go (is_mark m b) (before_take t)
    where
      go : (x : Bool) → take (length (bytes_before m t)) t ≡ bytes_before m t
          → (let y : List ℕ = elim x [ true ↦ [] | false ↦ b ∷ bytes_before m t ] in take (length y) (b ∷ t) ≡ y)
      go true ih = refl
      go false ih = ap (λ (x : List ℕ). b ∷ x) ih

  before_step : (b : ℕ) (t : List ℕ) → length (bytes_before m (b ∷ t)) ≡ cond (is_mark m b) 0 (1 + length (bytes_before m t))
  unfolding bytes_before
  before_step b t = go (is_mark m b)
    where
      go : (x : Bool) → length {A = ℕ} (elim x [ true ↦ [] | false ↦ b ∷ bytes_before m t ]) ≡ cond x 0 (1 + length (bytes_before m t))
      go true = refl
      go false = omega arith

  before_none : length (bytes_before m []) ≡ 0
  unfolding bytes_before
  before_none = refl

  -- Its length is the place of the first mark, or the text's length.
  pub before_position : (t : List ℕ) → unwrap_or (position (is_mark m) t) (length t) ≡ length (bytes_before m t)
  before_position t = go (dec_lt (length (bytes_before m t)) (length t))
    where
      same : length (bytes_before m t) ≡ position_or_len (is_mark m) t
      same = is_position_or_len (λ (x : List ℕ). length (bytes_before m x)) (is_mark m) before_none before_step t

      go : Dec (length (bytes_before m t) < length t) → unwrap_or (position (is_mark m) t) (length t) ≡ length (bytes_before m t)
      go (yes h) = rw (← same, lt-ltb (length (bytes_before m t)) (length t) h)
      go (no h) = rw (← same, le-ltb (length (bytes_before m t)) (length t) (omega arith)) (omega (arith, before_short t))

-- Bytes are compared as the library compares them.
pub same_pointwise : (a b : List ℕ) → same_bytes a b ≡ pointwise eqb a b
unfolding same_bytes
same_pointwise [] [] = refl
same_pointwise [] (y ∷ b) = refl
same_pointwise (x ∷ a) [] = refl
same_pointwise (x ∷ a) (y ∷ b) = go (eqb x y) (same_pointwise a b)
  where
    go : (t : Bool) → same_bytes a b ≡ pointwise eqb a b → elim t [ true ↦ same_bytes a b | false ↦ false ] ≡ (t && pointwise eqb a b)
    go true h = h
    go false h = refl

-- A loop that reads a number stands at i of its word.
pub digits_stop : (w : List ℕ) (i : ℕ) → i < length w → is_digit (get_or w i 0) ≡ false → all_digits (drop i w) ≡ false
unfolding all_digits
digits_stop w i h e = rw (next w i h, all_digits, e)

pub digits_more : (w : List ℕ) (i : ℕ) → i < length w → is_digit (get_or w i 0) ≡ true → all_digits (drop i w) ≡ all_digits (drop (i + 1) w)
unfolding all_digits
digits_more w i h e = rw (next w i h, all_digits, e)

pub digits_end : (w : List ℕ) (i : ℕ) → length w ≤ i → all_digits (drop i w) ≡ true
unfolding all_digits
digits_end w i h = rw (drop_of_length-le w {i = i} h, all_digits)

pub value_more : (v : ℕ) (w : List ℕ) (i : ℕ) → i < length w → value_from v (drop i w) ≡ value_from (v * 10 + (get_or w i 0 - 48)) (drop (i + 1) w)
unfolding value_from
value_more v w i h = rw (next w i h, value_from)

pub value_end : (v : ℕ) (w : List ℕ) (i : ℕ) → length w ≤ i → value_from v (drop i w) ≡ v
unfolding value_from
value_end v w i h = rw (drop_of_length-le w {i = i} h, value_from)

-- Digits only make a value larger, so that one may be capped on the way.
value_least : (v : ℕ) (w : List ℕ) → v ≤ value_from v w
unfolding value_from
value_least v [] = omega arith
value_least v (b ∷ w) = omega (arith, value_least (v * 10 + (b - 48)) w)

pub capped_low : (v : ℕ) → v ≤ too_large → capped v ≡ v
capped_low v h = rw (le-ltb too_large v h)

pub capped_high : (v : ℕ) → too_large < v → capped v ≡ too_large
capped_high v h = rw (lt-ltb too_large v h)

pub capped_most : (v : ℕ) → capped v ≤ too_large
capped_most v = go (dec_lt too_large v)
  where
    go : Dec (too_large < v) → capped v ≤ too_large
    go (yes h) = omega (arith, capped_high v h)
    go (no h) = omega (arith, capped_low v (omega arith))

pub capped_min : (v : ℕ) → capped v ≡ min v too_large
capped_min v = go (dec_lt too_large v)
  where
    go : Dec (too_large < v) → capped v ≡ min v too_large
    go (yes h) = omega (arith, capped_high v h)
    go (no h) = omega (arith, capped_low v (omega arith))

large : (v : ℕ) → too_large ≤ v → capped v ≡ too_large
large v h = go (dec_lt too_large v)
  where
    go : Dec (too_large < v) → capped v ≡ too_large
    go (yes l) = capped_high v l
    go (no n) = omega (arith, capped_low v (omega arith))

pub value_capped : (v : ℕ) (w : List ℕ) → capped (value_from v w) ≡ capped (value_from (capped v) w)
value_capped v w = go (dec_lt too_large v)
  where
    go : Dec (too_large < v) → capped (value_from v w) ≡ capped (value_from (capped v) w)
    go (yes h) =
        large (value_from v w) (omega (arith, value_least v w))
        ∙ sym (large (value_from (capped v) w) (omega (arith, value_least (capped v) w, capped_high v h)))
    go (no n) = ap (λ (x : ℕ). capped (value_from x w)) (sym (capped_low v (omega arith)))

-- What a word says, in words of what the loop has found.
pub number_bad : (most : ℕ) (w : List ℕ) → all_digits w ≡ false → record { fault = NUMBER; value = 0 } ≡ number_said most w
unfolding number_said number_fault first_of
number_bad most w e = rw e

module _ (most : ℕ) (w : List ℕ) (fits : most < too_large) (d : all_digits w ≡ true) where
  past_most : most < capped (value_of w) → most < value_of w
  past_most h = go (dec_lt too_large (value_of w))
    where
      go : Dec (too_large < value_of w) → most < value_of w
      go (yes l) = omega (arith, fits)
      go (no l) = omega (arith, capped_low (value_of w) (omega arith))

  within_most : capped (value_of w) ≤ most → (value_of w ≤ most) × (capped (value_of w) ≡ value_of w)
  within_most h = go (dec_lt too_large (value_of w))
    where
      go : Dec (too_large < value_of w) → (value_of w ≤ most) × (capped (value_of w) ≡ value_of w)
      go (yes l) = absurd (omega (arith, capped_high (value_of w) l, fits))
      go (no l) = let e = capped_low (value_of w) (omega arith) in (omega (arith, e), e)

  pub number_large : most < capped (value_of w) → record { fault = LARGE; value = 0 } ≡ number_said most w
  unfolding number_said number_fault first_of
  number_large h = rw (d, lt-ltb most (value_of w) (past_most h))

  pub number_good : capped (value_of w) ≤ most → record { fault = 0; value = capped (value_of w) } ≡ number_said most w
  unfolding number_said number_fault first_of
  number_good h =
      let k = within_most h in
      rw (d, le-ltb most (value_of w) k.0) (ap (λ (v : ℕ). record { fault = 0; value = v }) k.1)

-- A part of a list up to its end.
pub to_end : (l : List ℕ) (a : ℕ) → take (length l - a) (drop a l) ≡ drop a l
to_end l a = take_all (length l - a) (drop a l) (omega (arith, length-drop a l))

pub word_end_lem : (line : List ℕ) → word_end line ≤ length line
word_end_lem line =
    omega (arith, before_short Visible line, before_short Blank (drop (blanks_of line) line), length-drop (blanks_of line) line)

-- The next word of a line from a place on, where its blanks and its bytes have been counted.
module _ (content : List ℕ) (place : ℕ) (inside : place ≤ length content) (blanks start size : ℕ)
    (blanks_is : blanks ≡ blanks_of (drop place content)) (start_is : start ≡ place + blanks)
    (bytes : size ≡ length (bytes_before Blank (take (length content - start) (drop start content)))) where
  left : List ℕ
  left = drop place content

  word_here : bytes_before Blank (drop start content) ≡ word_of left
  unfolding left
  word_here =
      ap (λ (a : ℕ). bytes_before Blank (drop a content)) (start_is ∙ ap (λ (a : ℕ). place + a) blanks_is)
      ∙ ap (bytes_before Blank) (sym (drop-drop (blanks_of left) place content))

  pub word_size : size ≡ length (word_of (drop place content))
  unfolding left
  word_size = bytes ∙ ap (λ (x : List ℕ). length (bytes_before Blank x)) (to_end content start) ∙ ap length word_here

  pub word_part : take (start + size - start) (drop start content) ≡ word_of (drop place content)
  unfolding left
  word_part =
      let e : start + size - start ≡ length (bytes_before Blank (drop start content)) = omega (arith, word_size, ap length word_here) in
      ap (λ (n : ℕ). take n (drop start content)) e ∙ before_take Blank (drop start content) ∙ word_here

  -- What it says in a number's place.
  module _ (most : ℕ) (there : start < length content) where
    field_here : field_said most (drop place content) ≡ record { fault = (number_said most (word_of (drop place content))).fault; place = blanks_of (drop place content); stop = word_end (drop place content); value = (number_said most (word_of (drop place content))).value }
    unfolding field_said
    field_here = pick_true _ _ _ (lt-ltb (blanks_of (drop place content)) (length (drop place content)) (omega (arith, start_is, blanks_is, length-drop place content)))

    pub field_good : (line value : ℕ) → said_number (Ok value) ≡ number_said most (take (start + size - start) (drop start content))
        → SaysNext line place (field_said most (drop place content)) (Ok (record { place = start; stop = start + size; value = value }))
    field_good line value e =
        let n = e ∙ ap (number_said most) word_part in (
          ap (λ (f : Field). f.fault) field_here ∙ ap (λ (x : Number). x.fault) (sym n),
          omega (arith, ap (λ (f : Field). f.place) field_here, start_is, blanks_is),
          omega (arith, ap (λ (f : Field). f.stop) field_here, start_is, blanks_is, word_size),
          ap (λ (x : Number). x.value) n ∙ ap (λ (f : Field). f.value) (sym field_here),
        )

    pub field_bad : (line : ℕ) (wrong : Wrong) → said_number (Err wrong) ≡ number_said most (take (start + size - start) (drop start content))
        → fault_at (number_of wrong) line (start + 1) ≡ fault_at (field_said most (drop place content)).fault line (place + 1 + (field_said most (drop place content)).place)
    field_bad line wrong e =
        let n = e ∙ ap (number_said most) word_part in
        let f : number_of wrong ≡ (field_said most (drop place content)).fault = ap (λ (x : Number). x.fault) n ∙ ap (λ (f : Field). f.fault) (sym field_here) in
        let c : start + 1 ≡ place + 1 + (field_said most (drop place content)).place = omega (arith, ap (λ (f : Field). f.place) field_here, start_is, blanks_is) in
        λ i. fault_at (f i) line (c i)

-- No word is left.
pub field_none : (most line place : ℕ) (left : List ℕ) → length left ≤ blanks_of left
    → fault_at FEW line (place + 1) ≡ fault_at (field_said most left).fault line (place + 1 + (field_said most left).place)
unfolding field_said
field_none most line place left h = rw (le-ltb (blanks_of left) (length left) h) (ap (fault_at FEW line) (omega arith))

-- The first line of what is left of a text, where its end and its content's have been found.
module _ (text : List ℕ) (end stop : ℕ) (line_is : end ≡ length (bytes_before Newline text)) (content_is : stop ≡ length (bytes_before Hash (take end text))) where
  line_here : take end text ≡ bytes_before Newline text
  line_here = ap (λ (n : ℕ). take n text) line_is ∙ before_take Newline text

  content_here : stop ≡ length (content_of (first_line text))
  content_here = content_is ∙ ap (λ (x : List ℕ). length (bytes_before Hash x)) line_here

  pub content_part : take stop text ≡ content_of (first_line text)
  content_part =
      let h : stop ≤ end = omega (arith, line_is, content_here, before_short Hash (first_line text)) in
      sym (take-take stop end text h)
      ∙ ap (λ (n : ℕ). take n (take end text)) content_is
      ∙ before_take Hash (take end text)
      ∙ ap (bytes_before Hash) line_here

-- What stands after the first line: nothing, where the text ends with it.
pub after_part : (text : List ℕ) (end : ℕ) → end ≡ length (bytes_before Newline text) → drop (min (end + 1) (length text)) text ≡ after_line text
after_part text end e = go (dec_lt (length text) (end + 1))
  where
    go : Dec (length text < end + 1) → drop (min (end + 1) (length text)) text ≡ after_line text
    go (yes h) =
        drop_of_length-le text {i = min (end + 1) (length text)} (omega arith)
        ∙ sym (drop_of_length-le text {i = length (first_line text) + 1} (omega (arith, e)))
    go (no h) =
        let n : min (end + 1) (length text) ≡ length (first_line text) + 1 = omega (arith, e) in
        ap (λ (k : ℕ). drop k text) n
