-- Laws of what a text means and of what is answered and printed, in words of what the code has found.
use Prim.Native.Nat.{ℕ, ◌+◌, ◌≤◌, ◌<◌}
use mathlib.Core.Path.{◌≡◌, refl, sym, ap, ◌∙◌}
use mathlib.Core.List.{List, [], ◌∷◌}
use lib.ListN.{length, get_or}
use borrow.Author.Tests.{eq-eqb, ne_eqb, lt-ltb, le-ltb, le-leb, lt-leb}
use Rattle.laws.specs.ChoiceLaws.{pick_true, pick_false}
use Rattle.sheet.specs.declared.Set.{Set}
use Rattle.sheet.specs.declared.Refusal.{Refusal}
use Rattle.sheet.specs.declared.Reading.{Reading}
use Rattle.std.specs.Prelude.{⊤, Ok, Err}
use Rattle.sheet.specs.Refusals.{refused, answered}
use Rattle.sheet.specs.Ranges.{most_rows, set_refusal}
use Rattle.sheet.specs.Reading.{read_refusal, read_sheet}
use Rattle.sheet.specs.Writing.{write_refusal, written}
use Rattle.sheet.specs.Layout.{length_for}
use Rattle.sheet.proofs.AnswerLaws.{refusing, accepted_as, refused_as}
use Rattle.sheet.proofs.RefusalFields.{accepted_carries, write_carries}
use Rattle.sheet.proofs.Faults.{both_accept}
use Rattle.sheet.proofs.WritingLaws.{set_counts}
use Rattle.text.specs.Refusing.{refused_line}
use Rattle.sheet_text.specs.Faults.{LONG, FIRST, Fault, fault_at, unless}
use Rattle.sheet_text.specs.Words.{lines_of}
use Rattle.sheet_text.specs.Meaning.{TextLine, Numbers, Meaning, worded, first_line_said, meant_nothing, rows_meant, page_meant, most_bytes, meaning_of}
use Rattle.sheet_text.specs.Composing.{refused_text, answer_of, refused_answer, said_answer, compose_answer, composed, placed_line, answer_line}
use Rattle.sheet_text.specs.declared.Refused.TheVariants.{Sheet}
use Rattle.sheet_text.specs.Listing.{listing, listed}
use Rattle.sheet_text.specs.declared.Answer.{Answer}
use Rattle.sheet_text.proofs.FaultLaws.{unless_faulty, unless_clear}

pub meaning_long : (text : List ℕ) → most_bytes < length text → meant_nothing (fault_at LONG 1 1) ≡ meaning_of text
unfolding meaning_of
meaning_long text h = sym (pick_true _ _ _ (lt-ltb most_bytes (length text) h))

-- A text that is not too long, where its first line with words has been looked for.
module _ (text : List ℕ) (short : length text ≤ most_bytes) where
  page : page_meant (length (lines_of text)) (worded 1 (lines_of text)) ≡ meaning_of text
  unfolding meaning_of
  page = sym (pick_false _ _ _ (le-ltb most_bytes (length text) short))

  pub meaning_none : worded 1 (lines_of text) ≡ [] → meant_nothing (fault_at FIRST (1 + length (lines_of text)) 1) ≡ meaning_of text
  unfolding page_meant
  meaning_none e = ap (page_meant (length (lines_of text))) (sym e) ∙ page

  module _ {line : TextLine} {after : List TextLine} (e : worded 1 (lines_of text) ≡ line ∷ after) {numbers : Numbers} (n : numbers ≡ first_line_said line.number line.content) where
    first : page_meant (length (lines_of text)) (line ∷ after) ≡ meaning_of text
    first = ap (page_meant (length (lines_of text))) (sym e) ∙ page

    pub meaning_faulty : (numbers.fault.number ≡ 0 → ⊥) → meant_nothing numbers.fault ≡ meaning_of text
    unfolding page_meant
    meaning_faulty d =
        unless_faulty (rows_meant (get_or (first_line_said line.number line.content).values 0 0) after) meant_nothing _ numbers.fault (ap (λ (n : Numbers). n.fault) (sym n)) d
        ∙ first

    pub meaning_good : numbers.fault.number ≡ 0 → rows_meant (get_or numbers.values 0 0) after ≡ meaning_of text
    unfolding page_meant
    meaning_good z =
        unless_clear (rows_meant (get_or numbers.values 0 0) after) meant_nothing numbers.fault z
        ∙ ap (λ (n : Numbers). unless n.fault (rows_meant (get_or n.values 0 0) after) meant_nothing) n
        ∙ first

-- A refusal that an answer hands back is the one that it was made of.
answered_as : (r refusal : Refusal) → Err refusal ≡ answered r → (refusal ≡ r) × (r.number ≡ 0 → ⊥)
answered_as r refusal e =
    let some = refused_as r (answered r) refusal refl (sym e) in
    let same : Err refusal ≡ Err r = e ∙ sym (refusing r some) in
    (cc, some)

-- A set that the writer takes has at most 32 rows.
pub written_few : (set : Set) (room : ℕ) → (write_refusal set room).number ≡ 0 → set.count ≤ most_rows
unfolding write_refusal
written_few set room z = (set_counts set (both_accept (set_refusal set) _ z).0).rows

-- Composing.
module _ (text : List ℕ) {m : Meaning} (e : m ≡ meaning_of text) where
  fault_is : (meaning_of text).fault ≡ m.fault
  fault_is = ap (λ (x : Meaning). x.fault) (sym e)

  pub compose_faulty : (buffer : List ℕ) → (m.fault.number ≡ 0 → ⊥) → (refused_text m.fault ≡ compose_answer text (length buffer)) × (buffer ≡ composed text buffer)
  unfolding compose_answer composed
  compose_faulty buffer d =
      (unless_faulty _ refused_text (meaning_of text).fault m.fault fault_is d, unless_faulty (written (meaning_of text).set buffer) (λ fault. buffer) (meaning_of text).fault m.fault fault_is d)

  -- A text without a fault is the writer's.
  module _ (z : m.fault.number ≡ 0) (buffer : List ℕ) where
    clear : (meaning_of text).fault.number ≡ 0
    clear = ap (λ (f : Fault). f.number) fault_is ∙ z

    writer : answer_of (write_refusal m.set (length buffer)) m.set.count ≡ compose_answer text (length buffer)
    unfolding compose_answer
    writer =
        ap (λ (x : Meaning). answer_of (write_refusal x.set (length buffer)) x.set.count) e ∙ unless_clear _ refused_text (meaning_of text).fault clear

    pub compose_written : written m.set buffer ≡ composed text buffer
    unfolding composed
    compose_written = ap (λ (x : Meaning). written x.set buffer) e ∙ unless_clear _ (λ fault. buffer) (meaning_of text).fault clear

    pub compose_refused : (refusal : Refusal) → Err refusal ≡ answered (write_refusal m.set (length buffer))
        → refused_answer (Sheet refusal) ≡ compose_answer text (length buffer)
    compose_refused refusal h =
        let r = answered_as (write_refusal m.set (length buffer)) refusal h in
        ap (λ (x : Refusal). refused_answer (Sheet x)) r.0 ∙ rw (ne_eqb (write_refusal m.set (length buffer)).number 0 r.1) at writer

    pub compose_done : (write_refusal m.set (length buffer)).number ≡ 0 → said_answer (Ok (length_for m.set.count)) ≡ compose_answer text (length buffer)
    compose_done h =
        ap (λ (x : Refusal). answer_of x m.set.count) (sym (accepted_carries _ (write_carries m.set (length buffer)) h)) ∙ writer

-- Listing.
module _ (sheet : List ℕ) (reading : Reading) (e : reading ≡ read_sheet sheet) where
  answer_is : reading.refusal ≡ answered (read_refusal sheet)
  unfolding read_sheet
  answer_is = ap (λ (r : Reading). r.refusal) e

  pub list_refused : (refusal : Refusal) → reading.refusal ≡ Err refusal → refused_line refusal ≡ listed sheet
  unfolding listed
  list_refused refusal h =
      let r = answered_as (read_refusal sheet) refusal (sym h ∙ answer_is) in
      ap refused_line r.0 ∙ sym (pick_false _ _ _ (ne_eqb (read_refusal sheet).number 0 r.1))

  pub list_accepted : (nothing : ⊤) → reading.refusal ≡ Ok nothing → listing reading.set ≡ listed sheet
  unfolding listed
  list_accepted nothing h =
      ap (λ (r : Reading). listing r.set) e
      ∙ sym (pick_true _ _ _ (eq-eqb (read_refusal sheet).number 0 (accepted_as (read_refusal sheet) reading.refusal nothing answer_is h)))

-- What is printed for a refusal.
pub answer_refused : (a : Answer) (r : Refusal) → a.number < LONG → r ≡ refused a.number a.row → refused_line r ≡ answer_line a
unfolding answer_line
answer_refused a r h e = ap refused_line e ∙ sym (pick_false _ _ _ (lt-leb LONG a.number h))

pub answer_placed : (a : Answer) → LONG ≤ a.number → placed_line a ≡ answer_line a
unfolding answer_line
answer_placed a h = sym (pick_true _ _ _ (le-leb LONG a.number h))
