-- B of a row from B of the row below it.
use Prim.Native.Nat.{ℕ, suc, ◌-◌, ◌*◌, ◌≤◌, ◌<◌, max}
use mathlib.Core.Path.{◌≡◌, refl, sym, ap, subst, ◌∙◌}
use mathlib.Core.List.{List}
use mathlib.Core.Bool.{Bool, true, false, ◌&&◌}
use native.Mathlib.Omega.{arith}
use native.Mathlib.Decide.{ℕ_discrete}
use lib.Dec.{ltb, eqb}
use lib.ListN.{length, get_or, set as store, length-set, replicate, length-replicate, get_or-replicate}
use lib.Seq.{get_or-set_same, get_or-set_other}
use borrow.Author.Tests.{ltb-true, eqb-true, lt-ltb, eq-eqb, ne_eqb}
use Rattle.laws.specs.Choice.{pick}
use Rattle.laws.specs.SumLaws.{max_at, max_under}
use Rattle.sheet.specs.declared.Set.{Set}
use Rattle.sheet.specs.Ranges.{most_ticks, row_in, length_of, WellFormed}
use Rattle.sheet.proofs.Ranks.{processors_rise}
use Rattle.analysis.specs.Bounds.{is_lower, only, largest_over, blocking}
use Rattle.analysis.specs.Entries.{places}

both : (a b : Bool) → a ≡ true → b ≡ true → (a && b) ≡ true
both a b p q = rw (p, q)

-- a number under a test is bounded where the test gives it
only_under : (a b : Bool) (x y : ℕ) → (a ≡ true → b ≡ true → x ≤ y) → only (a && b) x ≤ y
only_under true true x y h = h refl refl
only_under true false x y h = omega arith
only_under false b x y h = omega arith

module _ (set : Set) where
  -- what blocks row i
  abbrev blocker : ℕ → ℕ → ℕ
  blocker i j = only (is_lower set i j) (length_of (row_in set j))

  pub blocks : (i j : ℕ) → j < set.count → i < j → (row_in set j).processor ≡ (row_in set i).processor → length_of (row_in set j) ≤ blocking set i
  unfolding blocking largest_over
  blocks i j l h e =
      let m = max_at (blocker i) set.count j l in
      let t : is_lower set i j ≡ true = both _ _ (eq-eqb _ _ e) (lt-ltb i j h) in
      rw t at m

  pub blocking_under : (i b : ℕ) → ((j : ℕ) → j < set.count → i < j → (row_in set j).processor ≡ (row_in set i).processor → length_of (row_in set j) ≤ b) → blocking set i ≤ b
  unfolding blocking largest_over
  blocking_under i b h =
      max_under (blocker i) set.count b
      (λ j l. only_under (eqb (row_in set j).processor (row_in set i).processor) (ltb i j) (length_of (row_in set j)) b
      (λ p q. h j l (ltb-true i j q) (eqb-true (row_in set j).processor (row_in set i).processor p)))

  module _ (w : WellFormed set) where
    pub blocking_most : (i : ℕ) → blocking set i ≤ 2 * most_ticks
    blocking_most i = blocking_under i (2 * most_ticks) (λ j l h e. omega (arith, w.row j l))

    pub blocking_last : (i : ℕ) → set.count ≤ suc i → blocking set i ≡ 0
    blocking_last i h = omega (arith, blocking_under i 0 (λ j l g e. absurd (omega (arith, g, l))))

    -- the row below it is on another processor, or blocks it with all that blocks that row
    pub blocking_other : (i : ℕ) → suc i < set.count → ((row_in set (suc i)).processor ≡ (row_in set i).processor → ⊥) → blocking set i ≡ 0
    blocking_other i h n =
        let a = processors_rise set w i (suc i) (omega arith) h in
        omega (arith, blocking_under i 0 (λ j l g e. absurd (n (omega (arith, a, processors_rise set w (suc i) j (omega (arith, g)) l, e)))))

    pub blocking_on : (i : ℕ) → suc i < set.count → (row_in set (suc i)).processor ≡ (row_in set i).processor → blocking set i ≡ max (blocking set (suc i)) (length_of (row_in set (suc i)))
    blocking_on i h e =
        omega (
          arith,
          blocks i (suc i) h (omega arith) e,
          blocking_under (suc i) (blocking set i) (λ j l g p. blocks i j l (omega (arith, g)) (p ∙ e)),
          blocking_under i (max (blocking set (suc i)) (length_of (row_in set (suc i)))) (λ j l g p. at j l g p (ℕ_discrete j (suc i))),
        )
      where
        at : (j : ℕ) → j < set.count → i < j → (row_in set j).processor ≡ (row_in set i).processor → Dec (j ≡ suc i) → length_of (row_in set j) ≤ max (blocking set (suc i)) (length_of (row_in set (suc i)))
        at j l g p (yes q) = rw q (omega arith)
        at j l g p (no q) = omega (arith, blocks (suc i) j l (omega arith) (p ∙ sym e))

    pub blocking_next : (i : ℕ) → suc i < set.count → blocking set i ≡ pick (eqb (row_in set (suc i)).processor (row_in set i).processor) (max (blocking set (suc i)) (length_of (row_in set (suc i)))) 0
    blocking_next i h = go (ℕ_discrete (row_in set (suc i)).processor (row_in set i).processor)
      where
        go : Dec ((row_in set (suc i)).processor ≡ (row_in set i).processor) → blocking set i ≡ pick (eqb (row_in set (suc i)).processor (row_in set i).processor) (max (blocking set (suc i)) (length_of (row_in set (suc i)))) 0
        go (yes e) = rw (eq-eqb _ _ e) (blocking_on i h e)
        go (no n) = rw (ne_eqb _ _ n) (blocking_other i h n)

-- A loop from the last row up has B of the rows from j - 1 on.
pub record Blocked (set : Set) (blocked : List ℕ) (j : ℕ) : Type 0 where
  pub within : j ≤ set.count
  pub long : length blocked ≡ places
  pub done : (k : ℕ) → j ≤ suc k → k < set.count → get_or blocked k 0 ≡ blocking set k

module _ (set : Set) (w : WellFormed set) where
  pub blocked_first : Blocked set (replicate places 0) set.count
  blocked_first =
      record {
        within = omega arith;
        long = length-replicate {A = ℕ} places 0;
        done = λ k h l. get_or-replicate {A = ℕ} places k 0 0 (omega (arith, l, w.rows_most)) ∙ sym (blocking_last set w k h);
      }

  pub blocked_more : (l : List ℕ) (j v : ℕ) → Blocked set l j → 1 < j
      → v ≡ pick (eqb (row_in set (j - 1)).processor (row_in set (j - 1 - 1)).processor) (max (get_or l (j - 1) 0) (length_of (row_in set (j - 1)))) 0
      → Blocked set (store l (j - 1 - 1) v) (j - 1)
  blocked_more l j v b h e =
      record { within = omega (arith, b.within); long = length-set l (j - 1 - 1) v ∙ b.long; done = λ k g c. at k g c (ℕ_discrete k (j - 1 - 1)) }
    where
      next : suc (j - 1 - 1) ≡ j - 1
      next = omega arith

      here : v ≡ blocking set (j - 1 - 1)
      here =
          let n = blocking_next set w (j - 1 - 1) (omega (arith, b.within)) in
          let d = b.done (j - 1) (omega arith) (omega (arith, b.within)) in
          e
          ∙ ap (λ (x : ℕ). pick (eqb (row_in set (j - 1)).processor (row_in set (j - 1 - 1)).processor) (max x (length_of (row_in set (j - 1)))) 0) d
          ∙ sym (subst (λ (x : ℕ). blocking set (j - 1 - 1) ≡ pick (eqb (row_in set x).processor (row_in set (j - 1 - 1)).processor) (max (blocking set x) (length_of (row_in set x))) 0) next n)

      at : (k : ℕ) → j - 1 ≤ suc k → k < set.count → Dec (k ≡ j - 1 - 1) → get_or (store l (j - 1 - 1) v) k 0 ≡ blocking set k
      at k g c (yes p) = rw (p, get_or-set_same l (j - 1 - 1) v 0 (omega (arith, b.long, b.within, w.rows_most))) here
      at k g c (no n) = get_or-set_other l (j - 1 - 1) k v 0 n ∙ b.done k (omega arith) c
