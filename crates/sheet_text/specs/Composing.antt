-- Composing: a text's set, written as a sheet.
use Rattle.std.specs.Prelude.{ℕ, ◌≡◌, List, [], ◌∷◌, ◌++◌, eqb, leb, Result, Ok, Err}
use Rattle.laws.specs.Choice.{pick}
use Rattle.sheet.specs.declared.Refusal.{Refusal}
use Rattle.sheet.specs.Refusals.{refused, accepts}
use Rattle.sheet.specs.Layout.{length_for}
use Rattle.sheet.specs.Writing.{write_refusal, written}
use Rattle.text.specs.Ascii.{ascii}
use Rattle.text.specs.Decimal.{decimal}
use Rattle.text.specs.Lines.{line}
use Rattle.text.specs.Refusing.{refused_line}
use Rattle.sheet_text.specs.Faults.{LONG, FIRST, NUMBER, LARGE, FEW, MANY, ROWS, Fault, numbered, no_fault, unless}
use Rattle.sheet_text.specs.Meaning.{Meaning, meaning_of}
use Rattle.sheet_text.specs.declared.Answer.{Answer}
use Rattle.sheet_text.specs.declared.Refused.{Refused}
use Rattle.sheet_text.specs.declared.Refused.TheVariants.{Text, Sheet}

abbrev pub refused_text : Fault → Answer
refused_text f = record { number = f.number; row = 0; line = f.line; column = f.column; length = 0 }

-- What the writer says of a set of n rows.
abbrev pub answer_of : Refusal → ℕ → Answer
answer_of r n = record { number = r.number; row = r.row; line = 0; column = 0; length = pick (accepts r) (length_for n) 0 }

-- The text's own faults first, then the writer's refusals.
unfoldable pub compose_answer : List ℕ → ℕ → Answer
compose_answer text room =
    unless (meaning_of text).fault (answer_of (write_refusal (meaning_of text).set room) (meaning_of text).set.count) refused_text

-- The answer that a refusal is, and what composing hands back.
abbrev pub refused_answer : Refused → Answer
refused_answer (Text fault) = refused_text (numbered fault)
refused_answer (Sheet refusal) = record { number = refusal.number; row = refusal.row; line = 0; column = 0; length = 0 }

abbrev pub said_answer : Result ℕ Refused → Answer
said_answer (Ok size) = record { number = 0; row = 0; line = 0; column = 0; length = size }
said_answer (Err refused) = refused_answer refused

-- What is refused is refused for its own fault, and where it has none by the writer.
abbrev pub RefusedFor : Meaning → ℕ → Refused → Type 0
RefusedFor m room (Text fault) = numbered fault ≡ m.fault
RefusedFor m room (Sheet refusal) = (m.fault ≡ no_fault) × (refusal ≡ write_refusal m.set room)

-- What a buffer holds afterwards.
unfoldable pub composed : List ℕ → List ℕ → List ℕ
composed text buffer = unless (meaning_of text).fault (written (meaning_of text).set buffer) (λ fault. buffer)

-- What a fault is called.
unfoldable pub reason : ℕ → List ℕ
reason number =
    pick (eqb number LONG) (ascii "text too long")
    (pick (eqb number FIRST) (ascii "processors expected")
    (pick (eqb number NUMBER) (ascii "not a number")
    (pick (eqb number LARGE) (ascii "number too large")
    (pick (eqb number FEW) (ascii "number missing")
    (pick (eqb number MANY) (ascii "nothing more expected")
    (pick (eqb number ROWS) (ascii "a 33rd row") []))))))

-- The line printed for a text's fault: its place, and what it is called.
abbrev pub placed_line : Answer → List ℕ
placed_line a =
    line (ascii "refused" ∷ ascii "line" ∷ decimal a.line ∷ ascii "column" ∷ (decimal a.column ++ ascii ":") ∷ reason a.number ∷ [])

-- The writer's refusals are printed as everywhere.
unfoldable pub answer_line : Answer → List ℕ
answer_line a = pick (leb LONG a.number) (placed_line a) (refused_line (refused a.number a.row))
