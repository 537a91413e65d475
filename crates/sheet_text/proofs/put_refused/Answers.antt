use native.Mathlib.Omega.{arith}
use mathlib.Core.List.{append_assoc}
use Rattle.text.proofs.PuttingLaws.{adds_then}
use Rattle.sheet_text.proofs.TextLaws.{answer_refused, answer_placed}
use Rattle.sheet_text.proofs.put_refused.Goals as goal

pub returns-then-answer-from : goal.returns-then-answer-from
returns-then-answer-from c = rw (answer_refused _ _ (omega (arith, c.from.ensures)) c.refuse.ensures) at c.put_refusal.ensures

pub returns : goal.returns
returns c =
    let e = answer_placed c.args.answer (omega (arith, c.from.ensures)) in
    rw (← e)
    (simp append_assoc
    (adds_then
    c.put.ensures
    (adds_then
    c.put_number.ensures
    (adds_then
    c.put-2.ensures
    (adds_then
    c.put_number-2.ensures
    (adds_then
    c.put-3.ensures
    (adds_then c.put_reason.ensures c.put_byte.ensures)))))))
