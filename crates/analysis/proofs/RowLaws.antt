-- Laws of the sums over a set's rows: a row's equations are lawful, and ask only for bounds of rows before it.
use Prim.Native.Nat.{ℕ, suc, ◌*◌, ◌≤◌, ◌<◌}
use mathlib.Core.Path.{◌≡◌, refl, sym, ap, fun_ext}
use mathlib.Core.Bool.{Bool, true, false}
use native.Mathlib.Omega.{arith}
use native.Mathlib.Nat.{mul-le-mul_right}
use native.Mathlib.Decide.{dec_le}
use borrow.Author.Tests.{ltb-true}
use Rattle.laws.specs.Rounding.{up}
use Rattle.laws.specs.RoundingLaws.{div_mono, up_mono, up_suc, up_le}
use Rattle.laws.specs.SumsWhere.{sum_where}
use Rattle.laws.specs.SumLaws.{sum_mono, sum_same}
use Rattle.laws.specs.LeastLaws.{Mono, climb, climb_least}
use Rattle.sheet.specs.declared.Row.{Row}
use Rattle.sheet.specs.declared.Set.{Set}
use Rattle.sheet.specs.Ranges.{row_in, memory_of, computation_of, length_of, WellFormed}
use Rattle.sheet.proofs.Ranks.{processors_rise}
use Rattle.analysis.specs.Equations.{limit, busy_at, busy_length}
use Rattle.analysis.specs.Bounds.{is_higher, outranks, only, sum_over, asked, asked_with, taken, blocking, token_taken, equations_of}
use Rattle.analysis.proofs.Lawful.{Rising, Lawful, busy_mono}

pub only_le : (t : Bool) (x y : ℕ) → x ≤ y → only t x ≤ only t y
only_le true x y h = h
only_le false x y h = omega arith

pub only_same : (t : Bool) (x y : ℕ) → (t ≡ true → x ≡ y) → only t x ≡ only t y
only_same true x y h = h refl
only_same false x y h = refl

module _ (set : Set) (test : ℕ → Bool) (f g : ℕ → ℕ) where
  pub sum_over_mono : ((j : ℕ) → j < set.count → f j ≤ g j) → sum_over set test f ≤ sum_over set test g
  unfolding sum_over sum_where
  sum_over_mono h = sum_mono _ _ set.count (λ j l. only_le (test j) (f j) (g j) (h j l))

  pub sum_over_same : ((j : ℕ) → j < set.count → test j ≡ true → f j ≡ g j) → sum_over set test f ≡ sum_over set test g
  unfolding sum_over sum_where
  sum_over_same h = sum_same _ _ set.count (λ j l. only_same (test j) (f j) (g j) (h j l))

-- One row, of any length.
module _ (length : Row → ℕ) (r : Row) where
  pub asked_mono : Mono (asked length r)
  asked_mono x y h = mul-le-mul_right (length r) (up_mono r.period h)

  pub asked_with_mono : Mono (asked_with length r)
  asked_with_mono x y h = mul-le-mul_right (length r) (omega (arith, div_mono r.period h))

  pub asked_next : (x : ℕ) → 1 ≤ r.period → asked length r (suc x) ≡ asked_with length r x
  asked_next x h = ap (λ (z : ℕ). z * length r) (up_suc x r.period h)

  pub asked_none : 1 ≤ r.period → asked length r 0 ≡ 0
  asked_none h = let e : up 0 r.period ≡ 0 = omega (arith, up_le 0 r.period 0 h (omega arith)) in rw e (omega arith)

taken_mono : (r : Row) (R : ℕ) → Mono (taken r R)
taken_mono r R x y h = mul-le-mul_right (memory_of r) (up_mono r.period (omega arith))

module _ (set : Set) (R : ℕ → ℕ) (i : ℕ) where
  pub equations_rising : Rising (equations_of set R i)
  unfolding equations_of token_taken
  equations_rising =
      record {
        above_mono = λ x y h. sum_over_mono set (is_higher set i) _ _ (λ j l. asked_mono length_of (row_in set j) x y h);
        started_mono = λ x y h. sum_over_mono set (is_higher set i) _ _ (λ j l. asked_with_mono length_of (row_in set j) x y h);
        token_mono = λ x y h. sum_over_mono set (outranks set i) _ _ (λ j l. taken_mono (row_in set j) (R j) x y h);
      }

  -- The climb finds the busy length.
  pub busy_climbs : busy_length (equations_of set R i) ≡ climb (busy_at (equations_of set R i)) limit limit 1
  unfolding busy_length
  busy_climbs = sym (climb_least (busy_at (equations_of set R i)) limit (busy_mono (equations_of set R i) equations_rising) limit 1 (omega arith))

  pub equations_lawful : WellFormed set → i < set.count → Lawful (equations_of set R i)
  unfolding equations_of
  equations_lawful w l =
      record {
        rising = equations_rising;
        some_work = (w.row i l).length_some;
        some_period = (w.row i l).period_some;
        above_next = λ x. sum_over_same set (is_higher set i) _ _ (λ j h t. asked_next length_of (row_in set j) x (w.row j h).period_some);
      }

module _ (set : Set) (w : WellFormed set) where
  -- A row that outranks another stands before it.
  pub outranks_before : (i j : ℕ) → i < set.count → j < set.count → outranks set i j ≡ true → j < i
  outranks_before i j l h t = go (dec_le i j)
    where
      go : Dec (i ≤ j) → j < i
      go (yes q) = absurd (omega (arith, processors_rise set w i j q h, ltb-true (row_in set j).processor (row_in set i).processor t))
      go (no q) = omega arith

  -- A row's equations ask only for the bounds of rows before it.
  pub token_same : (R R' : ℕ → ℕ) (i : ℕ) → i < set.count → ((j : ℕ) → j < i → R j ≡ R' j) → token_taken set R i ≡ token_taken set R' i
  unfolding token_taken
  token_same R R' i l h =
      fun_ext (λ x. sum_over_same set (outranks set i) _ _ (λ j g t. ap (λ (b : ℕ). taken (row_in set j) b x) (h j (outranks_before i j l g t))))

  pub equations_same : (R R' : ℕ → ℕ) (i : ℕ) → i < set.count → ((j : ℕ) → j < i → R j ≡ R' j) → equations_of set R i ≡ equations_of set R' i
  unfolding equations_of
  equations_same R R' i l h =
      let p : token_taken set R i ≡ token_taken set R' i = token_same R R' i l h in
      λ z. record {
        blocked = blocking set i;
        memory = memory_of (row_in set i);
        computation = computation_of (row_in set i);
        period = (row_in set i).period;
        above = λ x. sum_over set (is_higher set i) (λ j. asked length_of (row_in set j) x);
        started = λ x. sum_over set (is_higher set i) (λ j. asked_with length_of (row_in set j) x);
        token = p z;
      }
