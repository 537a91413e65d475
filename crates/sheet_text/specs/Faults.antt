-- The numbers of a text's faults, and where they are.
use Rattle.std.specs.Prelude.{ℕ, eqb}
use Rattle.laws.specs.Choice.{pick}
use Rattle.sheet_text.specs.declared.faults.Fault as found
use Rattle.sheet_text.specs.declared.faults.Wrong.{Wrong}
use Rattle.sheet_text.specs.declared.faults.Wrong.TheVariants.{Long, First, Number, Large, Few, Many, Rows}

abbrev pub LONG : ℕ
LONG = 31

abbrev pub FIRST : ℕ
FIRST = 32

abbrev pub NUMBER : ℕ
NUMBER = 33

abbrev pub LARGE : ℕ
LARGE = 34

abbrev pub FEW : ℕ
FEW = 35

abbrev pub MANY : ℕ
MANY = 36

abbrev pub ROWS : ℕ
ROWS = 37

-- Each as the code names it.
abbrev pub number_of : Wrong → ℕ
number_of Long = LONG
number_of First = FIRST
number_of Number = NUMBER
number_of Large = LARGE
number_of Few = FEW
number_of Many = MANY
number_of Rows = ROWS

-- A fault and its place, both counted from 1; 0, 0, 0 where there is none.
pub record Fault : Type 0 where
  pub number : ℕ
  pub line : ℕ
  pub column : ℕ

abbrev pub fault_at : ℕ → ℕ → ℕ → Fault
fault_at number line column = record { number = number; line = line; column = column }

-- A fault as the code has it, with its number.
abbrev pub numbered : found.Fault → Fault
numbered f = fault_at (number_of f.wrong) f.line f.column

abbrev pub no_fault : Fault
no_fault = fault_at 0 0 0

-- The first of two that applies.
abbrev pub or_else : Fault → Fault → Fault
or_else a b = pick (eqb a.number 0) b a

-- What follows unless there is a fault, and what a fault makes of it.
abbrev pub unless : {A : Type 0} → Fault → A → (Fault → A) → A
unless fault good bad = pick (eqb fault.number 0) good (bad fault)
