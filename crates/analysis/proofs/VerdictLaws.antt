-- What a row comes to, case by case.
use Prim.Native.Nat.{ℕ, ◌≤◌, ◌<◌}
use mathlib.Core.Path.{◌≡◌, refl, sym, ap, subst, ◌∙◌}
use mathlib.Core.Logic.{◌⊎◌, inl, inr, ⊎_elim}
use native.Mathlib.Omega.{arith}
use native.Mathlib.Decide.{dec_lt}
use lib.Dec.{ltb}
use borrow.Author.Tests.{ltb-true, ltb-false, lt-ltb, le-ltb}
use Rattle.std.specs.Prelude.{Option}
use Rattle.std.specs.Prelude.{Some, None}
use Rattle.laws.specs.Choice.{pick}
use Rattle.laws.specs.Sums.{max_to}
use Rattle.laws.specs.SumLaws.{max_at, max_under}
use Rattle.laws.specs.RoundingLaws.{split}
use Rattle.laws.specs.Search.{first}
use Rattle.laws.specs.SearchLaws.{IsFirst, first_is}
use Rattle.std.specs.Prelude.{Result}
use Rattle.analysis.specs.declared.Fault.{Fault}
use Rattle.std.specs.Prelude.{Ok, Err}
use Rattle.analysis.specs.declared.Fault.TheVariants.{Busy, Late}
use Rattle.analysis.specs.Equations.{Equations, whole_of, busy_length, instances_in, response, is_late, judged, verdict_of}
use Rattle.analysis.proofs.Lawful.{Lawful}
use Rattle.analysis.proofs.InstancesExist.{some_instance, instance_exists, response_least}

pub verdict_busy : (k : Equations) (D : ℕ) → busy_length k ≡ None → verdict_of k D ≡ Err Busy
unfolding verdict_of
verdict_busy k D e = rw (e, verdict_of)

pub verdict_found : (k : Equations) (D L : ℕ) → busy_length k ≡ Some L → verdict_of k D ≡ judged k D (instances_in k L)
unfolding verdict_of
verdict_found k D L e = rw (e, verdict_of)

-- What a verdict on n instances says of them.
module _ (k : Equations) (D n : ℕ) where
  judged_cases : (q : ℕ) → IsFirst (is_late k D) 0 n q → Dec (q < n)
      → ((q < n) × (D < response k q) × ((p : ℕ) → p < q → response k p ≤ D) × (pick (ltb q n) (Err (Late q)) (Ok (max_to (response k) n)) ≡ Err (Late q)))
      ⊎ (((p : ℕ) → p < n → response k p ≤ D) × (pick (ltb q n) (Err (Late q)) (Ok (max_to (response k) n)) ≡ Ok (max_to (response k) n)))
  judged_cases q f (yes h) =
      inl (h, ltb-true D (response k q) (f.passes (omega arith)), λ p l. ltb-false D (response k p) (f.none p (omega arith) l), rw (lt-ltb q n h))
  judged_cases q f (no h) =
      inr (λ p l. ltb-false D (response k p) (f.none p (omega arith) (omega (arith, l))), rw (le-ltb q n (omega arith)))

  cases : ((first n (is_late k D) < n) × (D < response k (first n (is_late k D))) × ((p : ℕ) → p < first n (is_late k D) → response k p ≤ D) × (judged k D n ≡ Err (Late (first n (is_late k D)))))
      ⊎ (((p : ℕ) → p < n → response k p ≤ D) × (judged k D n ≡ Ok (max_to (response k) n)))
  unfolding judged
  cases = judged_cases (first n (is_late k D)) (first_is n (is_late k D)) (dec_lt (first n (is_late k D)) n)

  pub judged_late : (q : ℕ) → judged k D n ≡ Err (Late q) → (q < n) × (D < response k q) × ((p : ℕ) → p < q → response k p ≤ D)
  judged_late q e =
      ⊎_elim
      (λ c. let z : first n (is_late k D) ≡ q = cc c.3 in subst (λ (x : ℕ). (x < n) × (D < response k x) × ((p : ℕ) → p < x → response k p ≤ D)) z (c.0, c.1, c.2))
      (λ c. absurd (let z : ◌≡◌ {A = ℕ} 0 1 = cc c.1 in omega arith))
      cases

  pub judged_bound : (r : ℕ) → judged k D n ≡ Ok r → ((p : ℕ) → p < n → response k p ≤ D) × (r ≡ max_to (response k) n)
  judged_bound r e =
      ⊎_elim
      (λ c. absurd (let z : ◌≡◌ {A = ℕ} 0 1 = cc c.3 in omega arith))
      (λ c. (c.0, (cc c.1)))
      cases

  -- and back
  pub judged_in_time : ((p : ℕ) → p < n → response k p ≤ D) → judged k D n ≡ Ok (max_to (response k) n)
  judged_in_time h = ⊎_elim (λ c. absurd (omega (arith, c.1, h (first n (is_late k D)) c.0))) (λ c. c.1) cases

  pub judged_at : (q : ℕ) → q < n → D < response k q → ((p : ℕ) → p < q → response k p ≤ D) → judged k D n ≡ Err (Late q)
  judged_at q l h b =
      ⊎_elim
      (λ c. c.3 ∙ ap (λ (x : ℕ). Err (Late x)) (one (first n (is_late k D)) c.1 c.2 (split (first n (is_late k D)) q)))
      (λ c. absurd (omega (arith, h, c.0 q l)))
      cases
    where
      one : (p : ℕ) → D < response k p → ((j : ℕ) → j < p → response k j ≤ D) → (p ≤ q) ⊎ (q < p) → p ≡ q
      one p a c (inl e) = ⊎_elim (λ g. omega (arith, e, g)) (λ g. absurd (omega (arith, a, b p g))) (split q p)
      one p a c (inr e) = absurd (omega (arith, h, c q e))

  pub never_busy : judged k D n ≡ Err Busy → ⊥
  never_busy e =
      ⊎_elim (λ c. let z : ◌≡◌ {A = ℕ} 0 1 = cc c.3 in omega arith) (λ c. let z : ◌≡◌ {A = ℕ} 0 1 = cc c.1 in omega arith) cases

-- A verdict comes from the busy length.
module _ (k : Equations) (D : ℕ) where
  pub verdict_length : (v : Result ℕ Fault) → verdict_of k D ≡ v → (v ≡ Err Busy → ⊥) → (L : ℕ) × (busy_length k ≡ Some L) × (judged k D (instances_in k L) ≡ v)
  verdict_length v e n = go (busy_length k) refl
    where
      go : (o : Option ℕ) → busy_length k ≡ o → (L : ℕ) × (busy_length k ≡ Some L) × (judged k D (instances_in k L) ≡ v)
      go (Some L) f = (L, f, sym (verdict_found k D L f) ∙ e)
      go None f = absurd (n (sym e ∙ verdict_busy k D f))

  pub verdict_none : verdict_of k D ≡ Err Busy → busy_length k ≡ None
  verdict_none e = go (busy_length k) refl
    where
      go : (o : Option ℕ) → busy_length k ≡ o → o ≡ None
      go (Some L) f = absurd (never_busy k D (instances_in k L) (sym (verdict_found k D L f) ∙ e))
      go None f = refl

  -- A bound is at least the row's length and at most its deadline.
  pub bound_range : Lawful k → (r : ℕ) → verdict_of k D ≡ Ok r → (whole_of k ≤ r) × (r ≤ D)
  bound_range lawful r e =
      let t = verdict_length (Ok r) e (λ z. let q : ◌≡◌ {A = ℕ} 0 1 = cc in omega arith) in
      let j = judged_bound k D (instances_in k t.0) r t.2 in
      let n : 1 ≤ instances_in k t.0 = some_instance k lawful t.0 t.1 in
      let i = instance_exists k lawful t.0 t.1 0 n in (
        omega (arith, j.1, response_least k t.0 0 i, max_at (response k) (instances_in k t.0) 0 n),
        omega (arith, j.1, max_under (response k) (instances_in k t.0) D j.0),
      )
