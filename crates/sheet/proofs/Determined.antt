-- How far each contract reaches: two results that meet it are equal, and so are two final buffers.
use Rattle.std.specs.Prelude.{⊤, Result}
use mathlib.Core.Path.{◌≡◌, sym, ◌∙◌}
use mathlib.Core.List.{List}
use Prim.Native.Nat.{ℕ}
use lib.ListN.{length}
use denote.Ref.{Bor}
use Rattle.sheet.specs.Refusals.{number_of, fault_number, refused, answered}
use Rattle.sheet.specs.Ranges.{row_fault, zero_row, zero_set}
use Rattle.sheet.specs.Reading.{read_sheet, row_of_part}
use Rattle.sheet.specs.Showing.{Shown}
use Rattle.sheet.specs.Writing.{write_refusal, written}
use Rattle.sheet.specs.declared.Row.{Row}
use Rattle.sheet.specs.declared.Set.{Set}
use Rattle.sheet.specs.declared.Refusal.{Refusal}
use Rattle.sheet.specs.declared.Reading.{Reading}
use Rattle.sheet.specs.declared.reasons.Reason.{Reason}
use Rattle.sheet.proofs.AnswerLaws.{same_fault}

same : {A : Type 0} {a b c : A} → a ≡ c → b ≡ c → a ≡ b
same p q = p ∙ sym q

pub read_determined : (sheet : List ℕ) (a b : Reading) → a ≡ read_sheet sheet → b ≡ read_sheet sheet → a ≡ b
read_determined sheet a b = same

pub row_of_determined : (part : List ℕ) (a b : Row) → a ≡ row_of_part part → b ≡ row_of_part part → a ≡ b
row_of_determined part a b = same

-- The place and the bytes of the part, which are all that there is of a reference.
pub show_determined : (sheet : Bor (List ℕ)) (r : ℕ) (a b : Bor (List ℕ)) → Shown sheet r a → Shown sheet r b → (a.ref_ptr ≡ b.ref_ptr) × (a.now ≡ b.now)
show_determined sheet r a b p q = (same p.there q.there, same p.bytes q.bytes)

pub write_determined : (set : Set) (before : List ℕ) (a b : Result ⊤ Refusal) (after after' : List ℕ)
    → (a ≡ answered (write_refusal set (length before))) × (after ≡ written set before)
    → (b ≡ answered (write_refusal set (length before))) × (after' ≡ written set before)
    → (a ≡ b) × (after ≡ after')
write_determined set before a b after after' p q = (same p.0 q.0, same p.1 q.1)

pub row_fault_determined : (N before : ℕ) (row : Row) (a b : Result ⊤ Reason) → fault_number a ≡ row_fault N before row → fault_number b ≡ row_fault N before row → a ≡ b
row_fault_determined N before row a b p q = same_fault a b (same p q)

pub at_row_determined : (fault : Result ⊤ Reason) (row : ℕ) (a b : Result ⊤ Refusal)
    → a ≡ answered (refused (fault_number fault) row) → b ≡ answered (refused (fault_number fault) row) → a ≡ b
at_row_determined fault row a b = same

pub new_determined : (reason : Reason) (row : ℕ) (a b : Refusal) → a ≡ refused (number_of reason) row → b ≡ refused (number_of reason) row → a ≡ b
new_determined reason row a b = same

pub refuse_determined : (number row : ℕ) (a b : Refusal) → a ≡ refused number row → b ≡ refused number row → a ≡ b
refuse_determined number row a b = same

pub no_row_determined : (a b : Row) → a ≡ zero_row → b ≡ zero_row → a ≡ b
no_row_determined a b = same

pub no_set_determined : (a b : Set) → a ≡ zero_set → b ≡ zero_set → a ≡ b
no_set_determined a b = same
