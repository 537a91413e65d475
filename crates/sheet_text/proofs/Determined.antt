-- How far each contract reaches: two results that meet it are equal, and so are two final buffers.
use Prim.Native.Nat.{ℕ}
use mathlib.Core.Path.{◌≡◌, refl, sym, ap, ◌∙◌}
use native.Mathlib.Omega.{arith}
use Rattle.std.specs.Prelude.{Result, Ok, Err, IfErr}
use Rattle.sheet.specs.declared.Refusal.{Refusal}
use Rattle.sheet.specs.Writing.{write_refusal}
use mathlib.Core.List.{List}
use lib.ListN.{length}
use Rattle.text.specs.Putting.{Puts}
use Rattle.text.proofs.Determined.{puts_determined}
use Rattle.sheet_text.specs.Faults.{Fault}
use Rattle.sheet_text.specs.Meaning.{meaning_of}
use Rattle.sheet_text.specs.Composing.{said_answer, compose_answer, RefusedFor, composed, answer_line}
use Rattle.sheet_text.specs.Listing.{listed}
use Rattle.sheet_text.specs.declared.Answer.{Answer}
use Rattle.sheet_text.specs.declared.Refused.{Refused}
use Rattle.sheet_text.specs.declared.Refused.TheVariants.{Text, Sheet}
use Rattle.sheet_text.proofs.FaultLaws.{number_high, same_fault}
use Rattle.sheet_text.proofs.TextLaws.{compose_done}

-- What composing hands back is told by the answer that it is, and by what it was refused for.
abbrev Composes : (text : List ℕ) (room : ℕ) → Result ℕ Refused → Type 0
Composes text room r = (said_answer r ≡ compose_answer text room) × IfErr r (RefusedFor (meaning_of text) room)

number : Answer → ℕ
number a = a.number

size : Answer → ℕ
size a = a.length

-- What has a sheet is not refused.
not_both : (text buffer : List ℕ) (n : ℕ) (r : Refused) → Composes text (length buffer) (Ok n) → Composes text (length buffer) (Err r) → ⊥
unfolding number size
not_both text buffer n (Text fault) p q = omega (arith, ap number (p.0 ∙ sym q.0), number_high fault.wrong)
not_both text buffer n (Sheet refusal) p q =
    let z : (meaning_of text).fault.number ≡ 0 = ap (λ (f : Fault). f.number) q.1.0 in
    let w : (write_refusal (meaning_of text).set (length buffer)).number ≡ 0 = ap (λ (r : Refusal). r.number) (sym q.1.1) ∙ ap number (q.0 ∙ sym p.0) in
    omega (arith, ap size (compose_done text refl z buffer w ∙ sym q.0))

same_refused : (text : List ℕ) (room : ℕ) (a b : Refused) → RefusedFor (meaning_of text) room a → RefusedFor (meaning_of text) room b → a ≡ b
same_refused text room (Text fault) (Text other) p q = ap Text (same_fault fault other (p ∙ sym q))
same_refused text room (Text fault) (Sheet refusal) p q = absurd (omega (arith, ap (λ (f : Fault). f.number) (p ∙ q.0), number_high fault.wrong))
same_refused text room (Sheet refusal) (Text fault) p q = absurd (omega (arith, ap (λ (f : Fault). f.number) (q ∙ p.0), number_high fault.wrong))
same_refused text room (Sheet refusal) (Sheet other) p q = ap Sheet (p.1 ∙ sym q.1)

same_composed : (text buffer : List ℕ) (a b : Result ℕ Refused) → Composes text (length buffer) a → Composes text (length buffer) b → a ≡ b
unfolding size
same_composed text buffer (Ok n) (Ok k) p q = ap Ok (ap size (p.0 ∙ sym q.0))
same_composed text buffer (Ok n) (Err r) p q = absurd (not_both text buffer n r p q)
same_composed text buffer (Err r) (Ok n) p q = absurd (not_both text buffer n r q p)
same_composed text buffer (Err r) (Err s) p q = ap Err (same_refused text (length buffer) r s p.1 q.1)

pub compose_determined : (text bytes_before : List ℕ) (a b : Result ℕ Refused) (after after' : List ℕ)
    → (said_answer a ≡ compose_answer text (length bytes_before)) × IfErr a (RefusedFor (meaning_of text) (length bytes_before)) × (after ≡ composed text bytes_before)
    → (said_answer b ≡ compose_answer text (length bytes_before)) × IfErr b (RefusedFor (meaning_of text) (length bytes_before)) × (after' ≡ composed text bytes_before)
    → (a ≡ b) × (after ≡ after')
compose_determined text bytes_before a b after after' p q =
    (same_composed text bytes_before a b (p.0, p.1) (q.0, q.1), p.2 ∙ sym q.2)

pub list_determined : (sheet buffer after after' : List ℕ) (end end' : ℕ)
    → Puts (listed sheet) buffer 0 after end
    → Puts (listed sheet) buffer 0 after' end'
    → (after ≡ after') × (end ≡ end')
list_determined sheet buffer after after' end end' = puts_determined

pub put_answer_determined : (a : Answer) (buffer after after' : List ℕ) (end new_end new_end' : ℕ)
    → Puts (answer_line a) buffer end after new_end
    → Puts (answer_line a) buffer end after' new_end'
    → (after ≡ after') × (new_end ≡ new_end')
put_answer_determined a buffer after after' end new_end new_end' = puts_determined
