-- Laws of the numbers on a line, as the loop that takes them one by one needs them.
use Prim.Native.Nat.{ℕ, suc, ◌+◌, ◌-◌, ◌≤◌, ◌<◌}
use mathlib.Core.Path.{◌≡◌, refl, sym, ap, ap₂, ◌∙◌}
use mathlib.Core.Bool.{Bool, true, false}
use mathlib.Core.List.{List}
use native.Mathlib.Omega.{arith}
use native.Mathlib.Numerals.{add-one}
use native.Mathlib.Decide.{ℕ_discrete}
use lib.ListN.{length, get_or, drop, set, length-drop, replicate}
use Rattle.std.proofs.lemmas.List.{length-replicate}
use lib.Seq.{drop-drop}
use lib.Dec.{eqb}
use borrow.Author.Tests.{eq-eqb, ne_eqb, lt-ltb, le-ltb, ltb-false}
use Rattle.laws.specs.Choice.{pick}
use Rattle.laws.specs.ChoiceLaws.{pick_true, pick_false, past, both_zero}
use Rattle.laws.specs.Tabulate.{tab_from, padded}
use Rattle.laws.specs.TabulateLaws.{padded_at, padded_same, Stored, stored_none, stored_more}
use Rattle.sheet_text.specs.Faults.{MANY, Fault, numbered, fault_at, no_fault, or_else}
use Rattle.sheet_text.specs.Words.{Field, blanks_of, has_word, word_of, word_end, after_word, value_of, number_fault, number_said, field_said, number_limit}
use Rattle.sheet_text.specs.Parts.{number_at, said_numbers, said_first, SaysNext}
use Rattle.sheet_text.specs.Meaning.{Numbers, row_of_numbers, numbers_fault, left_after, value_at, most_numbers, faulty_numbers, numbers_said}
use Rattle.sheet_text.specs.declared.faults.Fault as found
use Rattle.sheet_text.specs.declared.Word.{Word}
use Rattle.sheet_text.specs.declared.Mark.TheVariants.{Visible}
use Rattle.std.proofs.Common.{Ok, Err}
use Rattle.sheet_text.proofs.FaultLaws.{number_high, unless_faulty, unless_clear}
use Rattle.sheet_text.proofs.WordLaws.{before_short, word_end_lem}

-- A word that is a number, and fits.
number_fits : (most : ℕ) (w : List ℕ) → number_fault most w ≡ 0 → value_of w ≤ most
unfolding number_fault
number_fits most w h = ltb-false _ _ (past _ _ _ (past _ _ _ h).1).0

-- A field without fault.
pub record Said (most : ℕ) (left : List ℕ) (field : Field) : Type 0 where
  pub stop_is : field.stop ≡ word_end left
  pub value_is : field.value ≡ value_of (word_of left)
  pub fits : field.value ≤ most

pub field_said_lem : (most : ℕ) (left : List ℕ) (field : Field) → field ≡ field_said most left → field.fault ≡ 0 → Said most left field
unfolding field_said number_said
field_said_lem most left field e z = go (has_word left) refl
  where
    same : (b : Bool) → has_word left ≡ b → field ≡ pick b (record { fault = number_fault most (word_of left); place = blanks_of left; stop = word_end left; value = pick (eqb (number_fault most (word_of left)) 0) (value_of (word_of left)) 0 }) (record { fault = 35; place = 0; stop = 0; value = 0 })
    same b h = e ∙ rw h

    go : (b : Bool) → has_word left ≡ b → Said most left field
    go true h =
        let s = same true h in
        let n : number_fault most (word_of left) ≡ 0 = sym (ap (λ (f : Field). f.fault) s) ∙ z in
        let v : field.value ≡ value_of (word_of left) = ap (λ (f : Field). f.value) s ∙ pick_true _ _ _ (eq-eqb (number_fault most (word_of left)) 0 n) in
        record { stop_is = ap (λ (f : Field). f.stop) s; value_is = v; fits = omega (arith, v, number_fits most (word_of left) n) }
    go false h = absurd (omega (arith, z, ap (λ (f : Field). f.fault) (same false h)))

pub field_place : (most : ℕ) (left : List ℕ) → (field_said most left).place ≤ length left
unfolding field_said
field_place most left = go (has_word left)
  where
    go : (b : Bool) → (pick {A = Field} b (record { fault = (number_said most (word_of left)).fault; place = blanks_of left; stop = word_end left; value = (number_said most (word_of left)).value }) (record { fault = 35; place = 0; stop = 0; value = 0 })).place ≤ length left
    go true = before_short Visible left
    go false = omega arith

-- Number k of `count`, where `left` begins at a column of the line.
module _ (count k line column : ℕ) (left : List ℕ) (field : Field) (h : k < count) (e : field ≡ field_said (number_limit k) left) where
  one : numbers_fault (count - k) k line column left ≡ or_else (fault_at field.fault line (column + field.place)) (numbers_fault (count - (k + 1)) (k + 1) line (column + word_end left) (after_word left))
  unfolding numbers_fault
  one =
      let n : count - k ≡ suc (count - (k + 1)) = omega arith in
      rw (n, numbers_fault, add-one k, e)

  pub numbers_stop : (field.fault ≡ 0 → ⊥) → numbers_fault (count - k) k line column left ≡ fault_at field.fault line (column + field.place)
  numbers_stop d = one ∙ pick_false _ _ _ (ne_eqb field.fault 0 d)

  pub numbers_more : field.fault ≡ 0 → numbers_fault (count - k) k line column left ≡ numbers_fault (count - (k + 1)) (k + 1) line (column + field.stop) (drop field.stop left)
  numbers_more z =
      let s = field_said_lem (number_limit k) left field e z in
      one ∙ pick_true _ _ _ (eq-eqb field.fault 0 z)
      ∙ ap (λ (n : ℕ). numbers_fault (count - (k + 1)) (k + 1) line (column + n) (drop n left)) (sym s.stop_is)

-- What the numbers say, in words of the fault found.
module _ (count line column : ℕ) (left : List ℕ) where
  pub said_faulty : (f : Fault) → numbers_fault count 0 line column left ≡ f → (f.number ≡ 0 → ⊥) → faulty_numbers f ≡ numbers_said count line column left
  unfolding numbers_said
  said_faulty = unless_faulty (record { fault = no_fault; values = padded most_numbers count (value_at left) 0 }) faulty_numbers (numbers_fault count 0 line column left)

  pub said_good : (numbers_fault count 0 line column left).number ≡ 0
      → record { fault = no_fault; values = padded most_numbers count (value_at left) 0 } ≡ numbers_said count line column left
  unfolding numbers_said
  said_good = unless_clear _ faulty_numbers (numbers_fault count 0 line column left)

-- A loop that takes the numbers of a line from a place on stands at number k.
pub record Taken (count line : ℕ) (content : List ℕ) (place : ℕ) (values : List ℕ) (at k : ℕ) : Type 0 where
  pub inside : at ≤ length content
  pub rest : drop at content ≡ left_after k (drop place content)
  pub fault : numbers_fault count 0 line (place + 1) (drop place content) ≡ numbers_fault (count - k) k line (at + 1) (drop at content)
  pub filled : Stored (value_at (drop place content)) 0 count values k

module _ {count line : ℕ} {content : List ℕ} {place : ℕ} where
  pub taken_none : place ≤ length content → Taken count line content place (replicate count 0) place 0
  unfolding left_after
  taken_none inside =
      let n : count ≡ count - 0 = omega arith in
      record {
        inside = inside;
        rest = refl;
        fault = ap (λ (m : ℕ). numbers_fault m 0 line (place + 1) (drop place content)) n;
        filled = stored_none _ 0 count _ (length-replicate count 0);
      }

  module _ {values : List ℕ} {at k : ℕ} (t : Taken count line content place values at k) where
    module _ (h : k < count) {most : ℕ} (limit : most ≡ number_limit k) where
      here : field_said most (drop at content) ≡ field_said (number_limit k) (drop at content)
      here = ap (λ (n : ℕ). field_said n (drop at content)) limit

      pub taken_stop : (fault : found.Fault) → SaysNext line at (field_said most (drop at content)) (Err fault)
          → faulty_numbers (numbered fault) ≡ numbers_said count line (place + 1) (drop place content)
      taken_stop fault e =
          let d : (numbered fault).number ≡ 0 → ⊥ = λ z. omega (arith, number_high fault.wrong) in
          said_faulty count line (place + 1) (drop place content) (numbered fault)
          (t.fault ∙ numbers_stop count k line (at + 1) (drop at content) (field_said most (drop at content)) h here (λ z. d (ap (λ (f : Fault). f.number) e ∙ z)) ∙ sym e) d

      module _ (word : Word) (e : SaysNext line at (field_said most (drop at content)) (Ok word)) where
        said : Said (number_limit k) (drop at content) (field_said most (drop at content))
        said = field_said_lem (number_limit k) (drop at content) (field_said most (drop at content)) here e.0

        pub taken_within : word.stop ≤ length content
        taken_within = omega (arith, e.2, said.stop_is, word_end_lem (drop at content), length-drop at content, t.inside)

        pub taken_more : Taken count line content place (set values k word.value) word.stop (k + 1)
        unfolding left_after value_at
        taken_more =
            let field : Field = field_said most (drop at content) in
            let after : drop word.stop content ≡ drop field.stop (drop at content) = ap (λ (n : ℕ). drop n content) e.2 ∙ sym (drop-drop field.stop at content) in
            let v : word.value ≡ value_at (drop place content) k = e.3 ∙ said.value_is ∙ ap (λ (x : List ℕ). value_of (word_of x)) t.rest in
            let c : at + 1 + field.stop ≡ word.stop + 1 = omega (arith, e.2) in
            record {
              inside = taken_within;
              rest = after ∙ ap (λ (n : ℕ). drop n (drop at content)) said.stop_is ∙ ap after_word t.rest ∙ ap (λ (n : ℕ). left_after n (drop place content)) (sym (add-one k));
              fault =
                  t.fault ∙ numbers_more count k line (at + 1) (drop at content) field h here e.0
                  ∙ ap₂ (λ (n : ℕ) (x : List ℕ). numbers_fault (count - (k + 1)) (k + 1) line n x) c (sym after);
              filled = stored_more _ 0 count values k word.value t.filled h v;
            }

    -- All are taken, and the blanks that follow have been counted.
    module _ (h : count ≡ k) {blanks : ℕ} (e : blanks ≡ blanks_of (drop at content)) where
      last : numbers_fault count 0 line (place + 1) (drop place content) ≡ pick (has_word (drop at content)) (fault_at MANY line (at + 1 + blanks)) no_fault
      unfolding numbers_fault
      last =
          let n : count - k ≡ 0 = omega arith in
          t.fault ∙ rw (n, numbers_fault, e)

      pub taken_many : at + blanks < length content → faulty_numbers (fault_at MANY line (at + blanks + 1)) ≡ numbers_said count line (place + 1) (drop place content)
      taken_many l =
          let c : at + 1 + blanks ≡ at + blanks + 1 = omega arith in
          said_faulty count line (place + 1) (drop place content) (fault_at MANY line (at + blanks + 1))
          (last ∙ pick_true _ _ _ (lt-ltb (blanks_of (drop at content)) (length (drop at content)) (omega (arith, e, length-drop at content))) ∙ ap (fault_at MANY line) c)
          (λ z. omega arith)

      pub taken_all : length content ≤ at + blanks → said_numbers count (Ok values) ≡ numbers_said count line (place + 1) (drop place content)
      taken_all l =
          let z = last ∙ pick_false _ _ _ (le-ltb (blanks_of (drop at content)) (length (drop at content)) (omega (arith, e, length-drop at content))) in
          ap (λ (x : List ℕ). record { fault = no_fault; values = x })
          (padded_same (number_at values) (value_at (drop place content)) 0 most_numbers count (λ i l. t.filled.done i (omega arith)))
          ∙ said_good count line (place + 1) (drop place content) (ap (λ (x : Fault). x.number) z)

first_fits : (n line column : ℕ) (left : List ℕ) → (numbers_fault (suc n) 0 line column left).number ≡ 0 → value_at left 0 ≤ 255
unfolding numbers_fault value_at left_after
first_fits n line column left z =
    let s = field_said_lem 255 left (field_said 255 left) refl (both_zero (λ (f : Fault). f.number) (fault_at (field_said 255 left).fault line (column + (field_said 255 left).place)) (numbers_fault n 1 line (column + word_end left) (after_word left)) z).0 in
    omega (arith, s.value_is, s.fits)

-- The first number of a line is a byte.
pub first_byte : (n line column : ℕ) (left : List ℕ) → get_or (numbers_said (suc n) line column left).values 0 0 ≤ 255
first_byte n line column left = go (ℕ_discrete (numbers_fault (suc n) 0 line column left).number 0)
  where
    f : Fault
    f = numbers_fault (suc n) 0 line column left

    go : Dec (f.number ≡ 0) → get_or (numbers_said (suc n) line column left).values 0 0 ≤ 255
    go (yes z) =
        let e = ap (λ (x : Numbers). get_or x.values 0 0) (said_good (suc n) line column left z) in
        omega (arith, e, padded_at (value_at left) 0 most_numbers (suc n) 0 0 (omega arith) (omega arith), first_fits n line column left z)
    go (no d) = let e = ap (λ (x : Numbers). get_or x.values 0 0) (said_faulty (suc n) line column left f refl d) in omega (arith, e)

pub first_fits_byte : (n line column : ℕ) (left values : List ℕ) → said_numbers (suc n) (Ok values) ≡ numbers_said (suc n) line column left → get_or values 0 0 ≤ 255
first_fits_byte n line column left values e =
    omega (
      arith,
      padded_at (number_at values) 0 most_numbers (suc n) 0 0 (omega arith) (omega arith),
      ap (λ (x : Numbers). get_or x.values 0 0) e,
      first_byte n line column left,
    )

-- N alone, and the five numbers of a row.
pub first_alone : (values : List ℕ) → said_first (Ok (get_or values 0 0)) ≡ said_numbers 1 (Ok values)
unfolding tab_from
first_alone values = refl

pub row_alone : (values : List ℕ) → row_of_numbers values ≡ row_of_numbers (said_numbers most_numbers (Ok values)).values
unfolding tab_from
row_alone values = refl
