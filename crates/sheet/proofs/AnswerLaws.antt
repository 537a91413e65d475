-- What an answer carries: a reason is told by its number, and a refusal by what it carries.
use Rattle.std.specs.Prelude.{◌≡◌, refl, ℕ, ◌-◌, Bool, true, false, List, [], ◌∷◌, get_or, eqb, ⊤, Result, Ok, Err, is_ok, is_err}
use Rattle.std.proofs.Common.{sym, ap, ◌∙◌, arith, eq-eqb, ne_eqb, eqb-true}
use Rattle.laws.specs.Choice.{pick}
use Rattle.laws.specs.ChoiceLaws.{true_not_false}
use Rattle.sheet.specs.Refusals.{number_of, fault_number, refused, carried, answered, Carries}
use Rattle.sheet.specs.declared.Refusal.{Refusal}
use Rattle.sheet.specs.declared.reasons.Reason.{Reason}
use Rattle.sheet.specs.declared.reasons.Reason.TheVariants.{Cut, Version, Length, Count, Record, Processor, Period, Deadline, Phases, Busy, Late, Room, State, Row, Early, Live, Clock}
use Rattle.sheet.proofs.RefusalFields.{accepted_carries}

-- No reason has the number 0.
pub some_number : (reason : Reason) → number_of reason ≡ 0 → ⊥
some_number Cut e = omega arith
some_number Version e = omega arith
some_number Length e = omega arith
some_number Count e = omega arith
some_number Record e = omega arith
some_number Processor e = omega arith
some_number Period e = omega arith
some_number Deadline e = omega arith
some_number Phases e = omega arith
some_number Busy e = omega arith
some_number Late e = omega arith
some_number Room e = omega arith
some_number State e = omega arith
some_number Row e = omega arith
some_number Early e = omega arith
some_number Live e = omega arith
some_number Clock e = omega arith

-- The answer of a test by its number.
reasons : List Reason
reasons =
    Cut ∷ Version ∷ Length ∷ Count ∷ Record ∷ Processor ∷ Period ∷ Deadline ∷ Phases ∷ Busy ∷ Late ∷ Room ∷ State ∷ Row ∷ Early ∷ Live ∷ Clock ∷ []

abbrev of_number : ℕ → Result ⊤ Reason
of_number n = pick (eqb n 0) (Ok (tt {0})) (Err (get_or reasons (n - 1) Clock))

of_its_number : (a : Result ⊤ Reason) → of_number (fault_number a) ≡ a
unfolding reasons
of_its_number (Ok nothing) = refl
of_its_number (Err Cut) = refl
of_its_number (Err Version) = refl
of_its_number (Err Length) = refl
of_its_number (Err Count) = refl
of_its_number (Err Record) = refl
of_its_number (Err Processor) = refl
of_its_number (Err Period) = refl
of_its_number (Err Deadline) = refl
of_its_number (Err Phases) = refl
of_its_number (Err Busy) = refl
of_its_number (Err Late) = refl
of_its_number (Err Room) = refl
of_its_number (Err State) = refl
of_its_number (Err Row) = refl
of_its_number (Err Early) = refl
of_its_number (Err Live) = refl
of_its_number (Err Clock) = refl

-- Tests that come to the same number answer the same.
pub same_fault : (a b : Result ⊤ Reason) → fault_number a ≡ fault_number b → a ≡ b
same_fault a b e = sym (of_its_number a) ∙ ap of_number e ∙ of_its_number b

-- The answer that a refusal is.
pub refusing : (r : Refusal) → (r.number ≡ 0 → ⊥) → Err r ≡ answered r
refusing r h = simp (ne_eqb r.number 0 h)

-- And the other way round.
pub accepted_answer : (r : Refusal) → is_ok (answered r) ≡ true → r.number ≡ 0
accepted_answer r h = go (eqb r.number 0) refl h
  where
    go : (t : Bool) → eqb r.number 0 ≡ t → is_ok (pick t (Ok (tt {0})) (Err r)) ≡ true → r.number ≡ 0
    go true e h = eqb-true r.number 0 e
    go false e h = true_not_false false h refl

pub refused_answer : (r : Refusal) → is_ok (answered r) ≡ false → r.number ≡ 0 → ⊥
refused_answer r h e = true_not_false (is_ok (answered r)) (rw (eq-eqb r.number 0 e)) h

-- The same of an answer that was tested for an error.
pub accepted_by : (r : Refusal) (a : Result ⊤ Refusal) → a ≡ answered r → is_err a ≡ false → r.number ≡ 0
accepted_by r a e h = accepted_answer r (ok_of (answered r) (rw (← e) h))
  where
    ok_of : (a : Result ⊤ Refusal) → is_err a ≡ false → is_ok a ≡ true
    ok_of (Ok nothing) h = refl
    ok_of (Err refusal) h = true_not_false true refl h

pub refused_by : (r : Refusal) (a : Result ⊤ Refusal) → a ≡ answered r → is_err a ≡ true → r.number ≡ 0 → ⊥
refused_by r a e h n = true_not_false (is_err (answered r)) (rw (← e) h) (rw (eq-eqb r.number 0 n))

-- The same by the answer's case, as a `?` tells it; and of a test's answer at a row.
pub accepted_as : (r : Refusal) (a : Result ⊤ Refusal) (nothing : ⊤) → a ≡ answered r → a ≡ Ok nothing → r.number ≡ 0
accepted_as r a nothing e h = accepted_answer r (rw (← e, h))

pub refused_as : (r : Refusal) (a : Result ⊤ Refusal) (refusal : Refusal) → a ≡ answered r → a ≡ Err refusal → r.number ≡ 0 → ⊥
refused_as r a refusal e h = refused_answer r (rw (← e, h))

pub went_on : (k row : ℕ) (a : Result ⊤ Refusal) (nothing : ⊤) → a ≡ answered (refused k row) → a ≡ Ok nothing → k ≡ 0
went_on k row = accepted_as (refused k row)

pub stopped : (k row : ℕ) (a : Result ⊤ Refusal) (refusal : Refusal) → a ≡ answered (refused k row) → a ≡ Err refusal → k ≡ 0 → ⊥
stopped k row = refused_as (refused k row)

-- An answer carries the refusal that it was made of.
pub carried_answer : (r : Refusal) → Carries r → carried (answered r) ≡ r
carried_answer r c = go (eqb r.number 0) refl
  where
    go : (t : Bool) → eqb r.number 0 ≡ t → carried (pick t (Ok (tt {0})) (Err r)) ≡ r
    go true e = sym (accepted_carries r c (eqb-true r.number 0 e))
    go false e = refl
