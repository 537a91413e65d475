-- The analysis gives an outcome exactly where the direct reading says it.
use Prim.Native.Nat.{ℕ, zero, suc, ◌≤◌, ◌<◌}
use mathlib.Core.Path.{◌≡◌, refl, sym, ap, subst, ◌∙◌}
use mathlib.Core.List.{List, [], ◌∷◌, ◌++◌}
use mathlib.Core.Logic.{◌↔◌}
use native.Mathlib.Omega.{arith}
use native.Mathlib.Decide.{ℕ_discrete}
use lib.ListN.{length, get_or, take, length-append, get_or-append}
use lib.Seq.{get_or-take, take_all, take-suc}
use Rattle.sheet.specs.declared.Set.{Set}
use Rattle.sheet.specs.Ranges.{row_in, WellFormed}
use Rattle.std.specs.Prelude.{Result}
use Rattle.analysis.specs.declared.Fault.{Fault}
use Rattle.std.specs.Prelude.{Ok, Err}
use Rattle.analysis.specs.declared.Fault.TheVariants.{Busy, Late}
use Rattle.analysis.specs.Equations.{Equations, verdict_of}
use Rattle.analysis.specs.Bounds.{equations_of, bound_in, Outcome, Accepted, BusyAt, LateAt, worked, analyse_set}
use Rattle.analysis.specs.Direct.{HasBound, HaveBounds, Says}
use Rattle.analysis.proofs.Lawful.{Lawful}
use Rattle.analysis.proofs.RowLaws.{equations_lawful, equations_same}
use Rattle.analysis.proofs.RowsWorked.{worked_bound, worked_busy, worked_late, busy_ends, late_ends, worked_refused_busy, worked_refused_late}
use Rattle.analysis.proofs.ExactRow.{bound_of, bound_is, late_of, late_is, busy_verdict, verdict_none_of}

pub last_one : (l : List ℕ) (r : ℕ) → get_or (l ++ (r ∷ [])) (length l) 0 ≡ r
last_one [] r = refl
last_one (x ∷ l) r = last_one l r

module _ (set : Set) (wf : WellFormed set) where
  abbrev k : List ℕ → ℕ → Equations
  k bounds i = equations_of set (bound_in bounds) i

  lawful : (bounds : List ℕ) (i : ℕ) → i < set.count → Lawful (k bounds i)
  lawful bounds i l = equations_lawful set (bound_in bounds) i wf l

  -- a row's equations are the same for two lists of bounds that agree before it
  agree : (a b : List ℕ) (i : ℕ) → i < set.count → ((j : ℕ) → j < i → bound_in a j ≡ bound_in b j) → k a i ≡ k b i
  agree a b i l h = equations_same set wf (bound_in a) (bound_in b) i l h

  more : (bounds : List ℕ) (i r : ℕ) → i < set.count → HaveBounds set bounds i → verdict_of (k bounds i) (row_in set i).deadline ≡ Ok r → HaveBounds set (bounds ++ (r ∷ [])) (suc i)
  more bounds i r l h e =
      record { number = omega (arith, length-append bounds (r ∷ []), h.number); row = λ j g. at j g (ℕ_discrete j i) }
    where
      longer : List ℕ
      longer = bounds ++ (r ∷ [])

      keep : (j : ℕ) → j < i → bound_in (bounds ++ (r ∷ [])) j ≡ bound_in bounds j
      keep j g = get_or-append bounds (r ∷ []) 0 j (omega (arith, h.number))

      last : bound_in (bounds ++ (r ∷ [])) i ≡ r
      last = subst (λ (n : ℕ). get_or (bounds ++ (r ∷ [])) n 0 ≡ r) h.number (last_one bounds r)

      at : (j : ℕ) → j < suc i → Dec (j ≡ i) → HasBound (k (bounds ++ (r ∷ [])) j) (row_in set j).deadline (bound_in (bounds ++ (r ∷ [])) j)
      at j g (yes p) =
          rw (p, agree (bounds ++ (r ∷ [])) bounds i l keep, last) (bound_of (k bounds i) (lawful bounds i l) (row_in set i).deadline r e)
      at j g (no n) =
          let s : j < i = omega (arith, g, n) in
          rw (agree (bounds ++ (r ∷ [])) bounds j (omega arith) (λ m q. keep m (omega arith)), keep j s) (h.row j s)

  -- what the first i rows come to
  abbrev Upto : ℕ → Outcome → Type 0
  Upto i (Accepted bounds) = HaveBounds set bounds i
  Upto i (BusyAt j) = Says set (BusyAt j)
  Upto i (LateAt j q) = Says set (LateAt j q)

  upto : (i : ℕ) → i ≤ set.count → Upto i (worked set i)
  unfolding worked
  upto zero h = record { number = refl; row = λ j g. absurd (omega (arith, g)) }
  upto (suc i) h = go (worked set i) refl (upto i (omega arith))
    where
      row : (bounds : List ℕ) → worked set i ≡ Accepted bounds → HaveBounds set bounds i → (v : Result ℕ Fault) → verdict_of (k bounds i) (row_in set i).deadline ≡ v → Upto (suc i) (worked set (suc i))
      row bounds e b (Ok r) f = rw (worked_bound set i bounds e r f) (more bounds i r h b f)
      row bounds e b (Err Busy) f = rw (worked_busy set i bounds e f) (bounds, h, b, verdict_none_of (k bounds i) (lawful bounds i h) (row_in set i).deadline f)
      row bounds e b (Err (Late q)) f = rw (worked_late set i bounds e q f) (bounds, h, b, late_of (k bounds i) (lawful bounds i h) (row_in set i).deadline q f)

      go : (o : Outcome) → worked set i ≡ o → Upto i o → Upto (suc i) (worked set (suc i))
      go (Accepted bounds) e b = row bounds e b (verdict_of (k bounds i) (row_in set i).deadline) refl
      go (BusyAt j) e b = rw (worked_refused_busy set i j e) b
      go (LateAt j q) e b = rw (worked_refused_late set i j q e) b

  all : (o : Outcome) → Upto set.count o → Says set o
  all (Accepted bounds) h = h
  all (BusyAt i) h = h
  all (LateAt i q) h = h

  -- What the analysis gives, the direct reading says.
  pub given_said : Says set (analyse_set set)
  unfolding analyse_set
  given_said = all (worked set set.count) (upto set.count (omega arith))

  -- Bounds that the direct reading says are the ones that are worked out.
  works : (bounds : List ℕ) (n : ℕ) → n ≤ set.count → HaveBounds set bounds n → (i : ℕ) → i ≤ n → worked set i ≡ Accepted (take i bounds)
  unfolding worked
  works bounds n l h zero g = refl
  works bounds n l h (suc i) g =
      let e = works bounds n l h i (omega arith) in
      let s : k (take i bounds) i ≡ k bounds i = agree (take i bounds) bounds i (omega arith) (λ j q. get_or-take i bounds j 0 q) in
      let v = bound_is (k bounds i) (lawful bounds i (omega arith)) (row_in set i).deadline (bound_in bounds i) (h.row i g) in
      worked_bound set i (take i bounds) e (bound_in bounds i) (ap (λ (x : Equations). verdict_of x (row_in set i).deadline) s ∙ v)
      ∙ ap Accepted (sym (take-suc bounds i 0 (omega (arith, h.number))))

  works_all : (bounds : List ℕ) (n : ℕ) → n ≤ set.count → HaveBounds set bounds n → worked set n ≡ Accepted bounds
  works_all bounds n l h = works bounds n l h n (omega arith) ∙ ap Accepted (take_all n bounds (omega (arith, h.number)))

  -- What the direct reading says, the analysis gives.
  pub said_given : (o : Outcome) → Says set o → analyse_set set ≡ o
  unfolding analyse_set
  said_given (Accepted bounds) h = works_all bounds set.count (omega arith) h
  said_given (BusyAt i) h =
      let e = works_all h.0 i (omega (arith, h.1)) h.2 in
      busy_ends set (suc i) i h.1 (worked_busy set i h.0 e (busy_verdict (k h.0 i) (lawful h.0 i h.1) (row_in set i).deadline h.3))
  said_given (LateAt i q) h =
      let e = works_all h.0 i (omega (arith, h.1)) h.2 in
      late_ends set (suc i) i q h.1 (worked_late set i h.0 e q (late_is (k h.0 i) (lawful h.0 i h.1) (row_in set i).deadline q h.3))

  -- EXACTNESS, for a set.
  pub exact : (o : Outcome) → (analyse_set set ≡ o) ↔ Says set o
  exact o = (λ e. subst (Says set) e given_said, said_given o)
