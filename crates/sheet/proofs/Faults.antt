-- The first that applies: of two refusals, of a table's lines, of rows in turn; and what it says that none applies.
use mathlib.Core.Path.{◌≡◌, sym, ◌∙◌}
use Prim.Native.Nat.{ℕ, zero, suc, ◌+◌, ◌-◌, ◌<◌, ◌≤◌}
use native.Mathlib.Nat.{sub-zero}
use native.Mathlib.Omega.{arith}
use native.Mathlib.Numerals.{add-one}
use native.Mathlib.Decide.{dec_lt}
use lib.Dec.{ltb}
use borrow.Author.Tests.{ltb-false, leb-false, eqb-true, eqb-false, not-false, eq-eqb, ne_eqb, lt-ltb, le-ltb}
use Rattle.laws.specs.Choice.{pick, first_of}
use Rattle.laws.specs.ChoiceLaws.{past, both_zero, not_yes, not_no, true_not_false, chain}
use Rattle.laws.specs.Search.{first_from, first}
use Rattle.laws.specs.SearchLaws.{first_hit, first_skip, first_end, first_is, IsFirst}
use Rattle.sheet.specs.Refusals.{refused, accepted, or_else}
use Rattle.sheet.specs.Ranges.{most_processors, most_rows, count_table, row_table, count_fault, row_fault, faulty, first_fault, InRange}
use Rattle.sheet.specs.declared.Row.{Row}
use Rattle.sheet.specs.declared.Refusal.{Refusal}

-- Of two refusals.
pub or_first : (a b : Refusal) → (a.number ≡ 0 → ⊥) → or_else a b ≡ a
or_first a b h = simp (ne_eqb a.number 0 h)

pub or_second : (a b : Refusal) → a.number ≡ 0 → or_else a b ≡ b
or_second a b h = simp (eq-eqb a.number 0 h)

pub both_accept : (a b : Refusal) → (or_else a b).number ≡ 0 → (a.number ≡ 0) × (b.number ≡ 0)
both_accept = both_zero (λ (r : Refusal). r.number)

-- Of n rows in turn: a loop stands at row i and has found no fault below it.
pub record Clear (fault : ℕ → ℕ) (n i : ℕ) : Type 0 where
  pub within : i ≤ n
  pub rest : first n (faulty fault) ≡ first_from (faulty fault) i (n - i)

module _ (fault : ℕ → ℕ) (n : ℕ) where
  pub clear_none : Clear fault n 0
  clear_none = record { within = omega arith; rest = rw sub-zero }

  pub clear_more : (i : ℕ) → Clear fault n i → i < n → fault i ≡ 0 → Clear fault n (i + 1)
  clear_more i c h e =
      record { within = omega arith; rest = c.rest ∙ first_skip (faulty fault) i n h (not_yes _ (eq-eqb (fault i) 0 e)) }

  pub clear_stop : (i k : ℕ) → Clear fault n i → i < n → k ≡ fault i → (k ≡ 0 → ⊥) → first_fault fault n ≡ refused k i
  unfolding first_fault
  clear_stop i k c h e z =
      let f : first n (faulty fault) ≡ i = c.rest ∙ first_hit (faulty fault) i n h (not_no _ (ne_eqb (fault i) 0 (λ q. z (e ∙ q)))) in
      rw (f, lt-ltb i n h, e)

  pub clear_all : (i : ℕ) → Clear fault n i → n ≤ i → first_fault fault n ≡ accepted
  unfolding first_fault
  clear_all i c h =
      let f : first n (faulty fault) ≡ i = c.rest ∙ first_end (faulty fault) i n h in
      rw (f, le-ltb i n h)

  pub clear_to : ((i : ℕ) → i < n → fault i ≡ 0) → (k : ℕ) → k ≤ n → Clear fault n k
  clear_to h zero l = clear_none
  clear_to h (suc k) l = rw add-one at (clear_more k (clear_to h k (omega arith)) (omega arith) (h k (omega arith)))

  -- No fault at any row: none is found; and the other way round.
  pub no_fault : ((i : ℕ) → i < n → fault i ≡ 0) → first_fault fault n ≡ accepted
  no_fault h = clear_all n (clear_to h n (omega arith)) (omega arith)

  pub none_faulty : (first_fault fault n).number ≡ 0 → (i : ℕ) → i < n → fault i ≡ 0
  unfolding first_fault
  none_faulty h i l = go (first n (faulty fault)) (first_is n (faulty fault)) (dec_lt (first n (faulty fault)) n) h
    where
      go : (k : ℕ) → IsFirst (faulty fault) 0 n k → Dec (k < n) → (pick (ltb k n) (refused (fault k) k) accepted).number ≡ 0 → fault i ≡ 0
      go k f (yes g) e =
          let z : fault k ≡ 0 = rw (lt-ltb k n g) at e in
          true_not_false _ (f.passes (omega arith)) (not_yes _ (eq-eqb (fault k) 0 z))
      go k f (no g) e = eqb-true (fault i) 0 (not-false _ (f.none i (omega arith) (omega arith)))

-- Of a table's lines: what it says that no line applies.
pub record Counts (N n : ℕ) : Type 0 where
  pub some : 1 ≤ N
  pub few : N ≤ most_processors
  pub rows : n ≤ most_rows

pub counts : (N n : ℕ) → first_of (count_table N n) ≡ 0 → Counts N n
counts N n h =
    let p1 = past _ _ _ h in
    let p2 = past _ _ _ p1.1 in
    let p3 = past _ _ _ p2.1 in
    record { some = omega (arith, eqb-false N 0 p1.0); few = ltb-false _ _ p2.0; rows = ltb-false _ _ p3.0 }

pub counts_of : (N n : ℕ) → count_fault N n ≡ 0 → Counts N n
unfolding count_fault
counts_of N n h = counts N n h

pub in_range : (N before : ℕ) (r : Row) → first_of (row_table N before r) ≡ 0 → InRange N before r
in_range N before r h =
    let p1 = past _ _ _ h in
    let p2 = past _ _ _ p1.1 in
    let p3 = past _ _ _ p2.1 in
    let p4 = past _ _ _ p3.1 in
    let p5 = past _ _ _ p4.1 in
    let p6 = past _ _ _ p5.1 in
    let p7 = past _ _ _ p6.1 in
    let p8 = past _ _ _ p7.1 in
    let p9 = past _ _ _ p8.1 in
    record {
      below = leb-false _ _ p1.0;
      after = ltb-false _ _ p2.0;
      period_some = omega (arith, eqb-false r.period 0 p3.0);
      period_most = ltb-false _ _ p4.0;
      deadline_some = omega (arith, eqb-false r.deadline 0 p5.0);
      deadline_most = ltb-false _ _ p6.0;
      memory_most = ltb-false _ _ p7.0;
      computation_most = ltb-false _ _ p8.0;
      length_some = omega (arith, eqb-false (r.memory + r.computation) 0 p9.0);
    }

-- And the other way round.
pub in_range_clear : (N before : ℕ) (r : Row) → InRange N before r → row_fault N before r ≡ 0
unfolding row_fault
in_range_clear N before r h =
    let a : r.period ≡ 0 → ⊥ = omega arith in
    let b : r.deadline ≡ 0 → ⊥ = omega arith in
    let d : r.memory + r.computation ≡ 0 → ⊥ = omega arith in
    let e = h.below in
    let f = h.after in
    let g = h.period_most in
    let i = h.deadline_most in
    let j = h.memory_most in
    let k = h.computation_most in
    let z : 0 ≡ first_of (row_table N before r) = search chain depth 16 in
    sym z

pub counts_clear : (N n : ℕ) → Counts N n → count_fault N n ≡ 0
unfolding count_fault
counts_clear N n h =
    let a : N ≡ 0 → ⊥ = omega arith in
    let b = h.few in
    let d = h.rows in
    let z : 0 ≡ first_of (count_table N n) = search chain depth 16 in
    sym z
