-- The equations that the code holds are lawful; where its searches begin, and what they find.
use Prim.Native.Nat.{ℕ, zero, suc, ◌+◌, ◌-◌, ◌*◌, ◌≤◌}
use mathlib.Core.Path.{◌≡◌, refl, sym, ap, subst, fun_ext, ◌∙◌}
use mathlib.Core.List.{List, []}
use native.Mathlib.Omega.{arith}
use Rattle.laws.specs.LeastLaws.{Mono}
use Rattle.sheet.specs.declared.Row.{Row}
use Rattle.sheet.specs.Ranges.{memory_of, length_of}
use Rattle.analysis.specs.declared.entries.Entry.{Entry}
use Rattle.analysis.specs.Equations.{limit, busy_at, start_at, start, end_at, memory_end}
use Rattle.analysis.specs.Bounds.{asked, asked_with}
use Rattle.analysis.specs.Entries.{entry_sum, climb_at, before_next, entry_equations, Fit}
use Rattle.analysis.specs.Parts.{solution, Warm, Turn}
use Rattle.analysis.proofs.EntryLaws.{sum_mono}
use Rattle.analysis.proofs.Lawful.{Rising, Lawful}
use Rattle.analysis.proofs.InstancesExist.{Instance, instance_exists}
use Rattle.analysis.proofs.WarmStarts.{warm_within, warm_end}
use Rattle.analysis.proofs.InstanceLoop.{no_memory}
use Rattle.analysis.proofs.RowLaws.{asked_next}

no_rows : (x : ℕ) → entry_sum [] x ≡ 0
unfolding entry_sum
no_rows x = refl

module _ (ranked higher : List Entry) where
  pub climb_mono : (fixed : ℕ) → Mono (climb_at ranked higher fixed)
  unfolding climb_at
  climb_mono fixed x y h = omega (arith, sum_mono higher x y h, sum_mono ranked x y h)

  pub fixed_most : (fixed x : ℕ) → Warm (climb_at ranked higher fixed) x → fixed ≤ limit
  unfolding climb_at
  fixed_most fixed x warm = omega (arith, warm_within _ (climb_mono fixed) x warm)

before_mono : (f : ℕ → ℕ) → Mono f → Mono (before_next f)
before_mono f m zero y h = omega arith
before_mono f m (suc x) zero h = omega arith
before_mono f m (suc x) (suc y) h = m x y (omega arith)

-- at a number from 1
pub before_some : (f : ℕ → ℕ) (x : ℕ) → 1 ≤ x → before_next f x ≡ f (x - 1)
before_some f zero h = absurd (omega (arith, h))
before_some f (suc x) h = let e : suc x - 1 ≡ x = omega arith in ap f (sym e)

-- what the row itself asks before a number
asked_before : (row : Row) (x : ℕ) → 1 ≤ x → 1 ≤ row.period → asked_with length_of row (x - 1) ≡ asked length_of row x
asked_before row zero h p = absurd (omega (arith, h))
asked_before row (suc x) h p =
    let e : suc x - 1 ≡ x = omega arith in
    ap (asked_with length_of row) e ∙ sym (asked_next length_of row x p)

module _ (ranked higher : List Entry) (row : Row) (blocked : ℕ) where
  pub held_rising : Rising (entry_equations ranked higher row blocked)
  unfolding entry_equations
  held_rising =
      record {
        above_mono = before_mono (entry_sum higher) (sum_mono higher);
        started_mono = sum_mono higher;
        token_mono = sum_mono ranked;
      }

  pub held_lawful : Fit row blocked → Lawful (entry_equations ranked higher row blocked)
  unfolding entry_equations
  held_lawful f =
      record { rising = held_rising; some_work = f.length_some; some_period = f.period_some; above_next = λ x. refl }

  -- the climb's equation is the start's, and with no higher rows the memory end's
  start_climb : (q : ℕ) → start_at (entry_equations ranked higher row blocked) q ≡ climb_at ranked higher (blocked + q * length_of row)
  unfolding start_at climb_at entry_equations
  start_climb q = fun_ext (λ x. refl)

  end_climb : (q s : ℕ) → end_at (entry_equations ranked higher row blocked) q s ≡ climb_at ranked [] (blocked + q * length_of row + entry_sum higher s + memory_of row)
  unfolding end_at climb_at entry_equations
  end_climb q s = fun_ext (λ x. omega (arith, no_rows x))

  pub busy_sum : Fit row blocked → (x a i k : ℕ) → 1 ≤ x → a ≡ entry_sum higher (x - 1) → i ≡ asked_with length_of row (x - 1) → k ≡ entry_sum ranked x
      → blocked + (a + i) + k ≡ busy_at (entry_equations ranked higher row blocked) x
  unfolding busy_at entry_equations
  busy_sum f x a i k h p r s =
      omega (arith, before_some (entry_sum higher) x h, asked_before row x h f.period_some)

  -- instance q, whose start is looked for from x on
  module _ (fit : Fit row blocked) (q x : ℕ) (turn : Turn (entry_equations ranked higher row blocked) q x) where
    instance_known : Instance (entry_equations ranked higher row blocked) turn.length q
    instance_known = instance_exists _ (held_lawful fit) turn.length turn.found q turn.below

    pub start_warm : Warm (climb_at ranked higher (blocked + q * length_of row)) x
    unfolding start
    start_warm =
        subst (λ (F : ℕ → ℕ). Warm F x) (start_climb q)
        (record { exists = instance_known.starts; under = turn.under; rises = turn.rises })

    pub start_solved : solution (climb_at ranked higher (blocked + q * length_of row)) ≡ start (entry_equations ranked higher row blocked) q
    unfolding start
    start_solved = ap solution (sym (start_climb q))

    end_found : (s : ℕ) → s ≡ start (entry_equations ranked higher row blocked) q → solution (climb_at ranked [] (blocked + q * length_of row + entry_sum higher s + memory_of row)) ≡ memory_end (entry_equations ranked higher row blocked) q
    unfolding memory_end
    end_found s e = rw e (ap solution (sym (end_climb q (start (entry_equations ranked higher row blocked) q))))

    end_begun : Warm (end_at (entry_equations ranked higher row blocked) q (start (entry_equations ranked higher row blocked) q)) (start (entry_equations ranked higher row blocked) q + memory_of row)
    unfolding memory_end entry_equations
    end_begun = warm_end (entry_equations ranked higher row blocked) held_rising turn.length q instance_known

    -- what the first search adds to is B and the instances before
    module _ (fixed : ℕ) (is : fixed ≡ blocked + q * length_of row) where
      pub start_begins : Warm (climb_at ranked higher fixed) x
      start_begins = rw is start_warm

      -- what it gives: the start, and W of it
      module _ (s w : ℕ) (at : s ≡ solution (climb_at ranked higher fixed)) (work : w ≡ fixed + entry_sum higher s) where
        starts : s ≡ start (entry_equations ranked higher row blocked) q
        starts = at ∙ ap (λ (f : ℕ). solution (climb_at ranked higher f)) is ∙ start_solved

        work_is : w ≡ blocked + q * length_of row + entry_sum higher s
        work_is = work ∙ ap (λ (f : ℕ). f + entry_sum higher s) is

        pub end_begins : Warm (climb_at ranked [] (w + memory_of row)) (s + memory_of row)
        end_begins =
            rw (work_is, starts)
            (subst (λ (F : ℕ → ℕ). Warm F (start (entry_equations ranked higher row blocked) q + memory_of row)) (end_climb q (start (entry_equations ranked higher row blocked) q)) end_begun)

        pub end_solved : solution (climb_at ranked [] (w + memory_of row)) ≡ memory_end (entry_equations ranked higher row blocked) q
        end_solved = rw work_is (end_found s starts)

        pub no_end : memory_of row ≡ 0 → s ≡ memory_end (entry_equations ranked higher row blocked) q
        unfolding entry_equations
        no_end h = starts ∙ no_memory (entry_equations ranked higher row blocked) (held_lawful fit) turn.length q instance_known h
