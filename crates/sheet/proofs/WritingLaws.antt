-- Laws of writing: a record's bytes, the records so far, and what the writer leaves.
use mathlib.Core.Path.{◌≡◌, refl, sym, ap, ◌∙◌}
use mathlib.Core.List.{List, ◌++◌, append-nil, append_assoc}
use Prim.Native.Nat.{ℕ, zero, suc, ◌+◌, ◌*◌, ◌-◌, ◌<◌, ◌≤◌}
use native.Mathlib.Numerals.{add-one}
use native.Mathlib.Omega.{arith}
use lib.ListN.{length, take, drop, length-append, length-drop, drop_of_length-le, take-append-drop}
use lib.Seq.{sets, sets-eq, take_at, drop_at, drop-drop, length-take-le}
use borrow.Author.Tests.{eq-eqb, ne_eqb, lt-ltb, le-ltb}
use Rattle.laws.specs.Choice.{first_of}
use Rattle.sheet.specs.Refusals.{ROOM, refused, accepted}
use Rattle.sheet.specs.Layout.{length_for, record_start}
use Rattle.sheet.specs.Ranges.{count_fault, first_fault, set_row_fault, set_refusal, row_in}
use Rattle.sheet.specs.Writing.{record_bytes, records_of, header_bytes, sheet_of, write_refusal, written}
use Rattle.sheet.specs.declared.Row.{Row}
use Rattle.sheet.specs.declared.Set.{Set}
use Rattle.sheet.specs.declared.Refusal.{Refusal}
use Rattle.sheet.proofs.Faults as faults

-- Stores over a whole list leave what was stored.
pub sets_whole : {A : Type 0} (vs l : List A) → length l ≡ length vs → sets l 0 vs ≡ vs
sets_whole vs l h =
    sets-eq vs l 0 (omega arith) ∙ ap (λ (r : List _). vs ++ r) (drop_of_length-le l {i = 0 + length vs} (omega arith)) ∙ append-nil vs

-- Stores into the middle of a list: what stands before, what was stored, and what stands after.
pub sets_mid : {A : Type 0} (vs l : List A) (i : ℕ) → i + length vs ≤ length l → take i l ++ (vs ++ drop (i + length vs - i) (drop i l)) ≡ sets l i vs
sets_mid vs l i h =
    let e : i + length vs - i ≡ length vs = omega arith in
    rw (e, drop-drop (length vs) i l) (sym (sets-eq vs l i h ∙ append_assoc (take i l) vs (drop (i + length vs) l)))

pub length_records : (f : ℕ → Row) (n : ℕ) → length (records_of f n) ≡ 18 * n
length_records f zero = refl
length_records f (suc n) = length-append (records_of f n) (record_bytes (f n)) ∙ omega (arith, length_records f n)

-- A set that the writer takes is within the counts, and each of its rows without a fault.
pub set_counts : (set : Set) → (set_refusal set).number ≡ 0 → faults.Counts set.processors set.count
unfolding set_refusal
set_counts set h = faults.counts_of _ _ (faults.both_accept (refused (count_fault set.processors set.count) 0) _ h).0

pub set_rows : (set : Set) → (set_refusal set).number ≡ 0 → (i : ℕ) → i < set.count → set_row_fault set i ≡ 0
unfolding set_refusal
set_rows set h =
    faults.none_faulty (set_row_fault set) set.count
    (faults.both_accept (refused (count_fault set.processors set.count) 0) (first_fault (set_row_fault set) set.count) h).1

-- The buffer with the header written.
abbrev pub begun : Set → List ℕ → List ℕ
begun set out = sets out 0 (header_bytes set.processors set.count)

-- The buffer with the records below i written.
abbrev pub partly : (ℕ → Row) → List ℕ → ℕ → List ℕ
partly f o i = take 5 o ++ (records_of f i ++ drop (record_start i) o)

pub partly_none : (f : ℕ → Row) (o : List ℕ) → o ≡ partly f o 0
partly_none f o = sym (take-append-drop 5 o)

pub length_partly : (f : ℕ → Row) (o : List ℕ) (i : ℕ) → record_start i ≤ length o → length (partly f o i) ≡ length o
length_partly f o i h =
    length-append (take 5 o) (records_of f i ++ drop (record_start i) o)
    ∙ omega (arith, length-append (records_of f i) (drop (record_start i) o), length_records f i, length-drop (record_start i) o, length-take-le 5 o (omega arith))

pub partly_more : (f : ℕ → Row) (o : List ℕ) (i : ℕ) → record_start (i + 1) ≤ length o
    → take (record_start i) (partly f o i) ++ (record_bytes (f i) ++ drop (record_start i + 18 - record_start i) (drop (record_start i) (partly f o i))) ≡ partly f o (i + 1)
partly_more f o i h =
    let a : ℕ = record_start i in
    let p : List ℕ = take 5 o ++ records_of f i in
    let l : length p ≡ a = simp (length-append, length_records, length-take-le 5 o (omega arith)) in
    let x : partly f o i ≡ p ++ drop a o = sym (append_assoc (take 5 o) (records_of f i) (drop a o)) in
    let e : a + 18 - a ≡ 18 = omega arith in
    let b : a + 18 ≡ record_start (i + 1) = omega arith in
    rw (x, e, take_at p (drop a o) a l, drop_at p (drop a o) a l, drop-drop 18 a o, b, add-one i) (simp append_assoc)

pub partly_all : (set : Set) (out : List ℕ) → length_for set.count ≤ length out
    → partly (row_in set) (begun set out) set.count ≡ sheet_of set ++ drop (length_for set.count) out
unfolding sheet_of
partly_all set out h =
    let hb : List ℕ = header_bytes set.processors set.count in
    let n : ℕ = set.count in
    ap (λ (o : List ℕ). partly (row_in set) o n) (sets-eq hb out 0 (omega arith))
    ∙ ap (λ (r : List ℕ). hb ++ (records_of (row_in set) n ++ r)) (sym (drop-drop (18 * n) 5 (hb ++ drop 5 out)) ∙ drop-drop (18 * n) 5 out)

-- The answer and the buffer, by what was found.
pub record Writes (set : Set) (before : List ℕ) (r : Refusal) (after : List ℕ) : Type 0 where
  pub answer : r ≡ write_refusal set (length before)
  pub buffer : after ≡ written set before

pub write_refused : (set : Set) (out : List ℕ) → ((set_refusal set).number ≡ 0 → ⊥) → Writes set out (set_refusal set) out
unfolding written write_refusal
write_refused set out n =
    record { answer = sym (faults.or_first _ _ n); buffer = simp (ne_eqb (set_refusal set).number 0 n, ne_eqb (set_refusal set).number 0 n) }

pub write_short : (set : Set) (out : List ℕ) → (set_refusal set).number ≡ 0 → length out < length_for set.count → Writes set out (refused ROOM 0) out
unfolding written write_refusal first_of
write_short set out h l =
    record { answer = simp (eq-eqb (set_refusal set).number 0 h, lt-ltb _ _ l); buffer = simp (eq-eqb (set_refusal set).number 0 h, lt-ltb _ _ l) }

pub write_done : (set : Set) (out : List ℕ) → (set_refusal set).number ≡ 0 → length_for set.count ≤ length out
    → Writes set out accepted (sheet_of set ++ drop (length_for set.count) out)
unfolding written write_refusal first_of
write_done set out h l =
    record { answer = simp (eq-eqb (set_refusal set).number 0 h, le-ltb _ _ l); buffer = simp (eq-eqb (set_refusal set).number 0 h, le-ltb _ _ l) }
