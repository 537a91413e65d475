-- A row's verdict is the one that the direct reading says, and no other.
use Prim.Native.Nat.{ℕ, ◌≤◌, ◌<◌}
use mathlib.Core.Path.{◌≡◌, refl, sym, ap, subst, ◌∙◌}
use mathlib.Core.Logic.{⊎_elim}
use native.Mathlib.Omega.{arith}
use Rattle.std.specs.Prelude.{Option}
use Rattle.std.specs.Prelude.{Some, None}
use Rattle.laws.specs.RoundingLaws.{split}
use Rattle.laws.specs.Sums.{max_to}
use Rattle.laws.specs.SumLaws.{max_at, max_under}
use Rattle.laws.specs.MaxLaws.{max_attained}
use Rattle.laws.specs.Least.{least}
use Rattle.laws.specs.LeastLaws.{least_at, least_is, least_none}
use Rattle.std.specs.Prelude.{Ok, Err}
use Rattle.analysis.specs.declared.Fault.TheVariants.{Busy, Late}
use Rattle.analysis.specs.Equations.{Equations, limit, busy_at, busy_length, instances_in, start_at, start, end_at, memory_end, response, verdict_of}
use Rattle.analysis.specs.Direct.{IsLeast, IsBusyLength, NoBusyLength, Responds, HasBound, IsLate}
use Rattle.analysis.proofs.Lawful.{Lawful}
use Rattle.analysis.proofs.InstancesExist.{Instance, instance_exists, some_instance, response_by}
use Rattle.analysis.proofs.VerdictLaws.{verdict_busy, verdict_found, verdict_none, verdict_length, judged_late, judged_bound, judged_in_time, judged_at}

-- Two least numbers are one.
pub least_one : (F : ℕ → ℕ) (a x y : ℕ) → IsLeast F a x → IsLeast F a y → x ≡ y
least_one F a x y p q =
    ⊎_elim
    (λ h. ⊎_elim (λ l. omega arith) (λ l. absurd (q.least x p.from l p.solves)) (split y x))
    (λ h. absurd (p.least y q.from h q.solves))
    (split x y)

-- The search finds the least number.
pub found_least : (F : ℕ → ℕ) (n a y : ℕ) → least F a n ≡ Some y → IsLeast F a y
found_least F n a y e = let s = least_at F n a y e in record { from = s.from; solves = s.equal; least = s.first }

module _ (k : Equations) where
  pub busy_of : (L : ℕ) → busy_length k ≡ Some L → IsBusyLength k L
  unfolding busy_length
  busy_of L e = record { least = found_least (busy_at k) limit 1 L e; within = (least_at (busy_at k) limit 1 L e).within }

  pub busy_is : (L : ℕ) → IsBusyLength k L → busy_length k ≡ Some L
  unfolding busy_length
  busy_is L b = least_is (busy_at k) limit 1 L b.least.from b.within b.least.solves b.least.least

  pub none_of : busy_length k ≡ None → NoBusyLength k
  unfolding busy_length
  none_of e x h l = least_none (busy_at k) limit 1 e x h (omega (arith, l))

  pub none_is : NoBusyLength k → busy_length k ≡ None
  unfolding busy_length
  none_is n = go (busy_length k) refl
    where
      go : (o : Option ℕ) → busy_length k ≡ o → o ≡ None
      go (Some L) e = let b = least_at (busy_at k) limit 1 L e in absurd (n L b.from b.within b.equal)
      go None e = refl

  -- the response of an instance is the one that its equations say
  pub responds_of : (L q : ℕ) → Instance k L q → Responds k q (response k q)
  responds_of L q i =
      record {
        s = start k q;
        g = memory_end k q;
        starts = found_least (start_at k q) limit 0 (start k q) i.starts;
        ends = found_least (end_at k q (start k q)) limit 0 (memory_end k q) i.ends;
        responds = response_by k L q i;
      }

  pub responds_is : (L q r : ℕ) → Instance k L q → Responds k q r → r ≡ response k q
  responds_is L q r i d =
      let s : d.s ≡ start k q = least_one (start_at k q) 0 d.s (start k q) d.starts (found_least (start_at k q) limit 0 (start k q) i.starts) in
      let e : IsLeast (end_at k q (start k q)) 0 d.g = subst (λ (x : ℕ). IsLeast (end_at k q x) 0 d.g) s d.ends in
      let g : d.g ≡ memory_end k q = least_one (end_at k q (start k q)) 0 d.g (memory_end k q) e (found_least (end_at k q (start k q)) limit 0 (memory_end k q) i.ends) in
      omega (arith, d.responds, g, response_by k L q i)

  module _ (lawful : Lawful k) (D : ℕ) where
    at : (L q : ℕ) → busy_length k ≡ Some L → q < instances_in k L → Instance k L q
    at L q e h = instance_exists k lawful L e q h

    pub bound_of : (R : ℕ) → verdict_of k D ≡ Ok R → HasBound k D R
    bound_of R e =
        let t = verdict_length k D (Ok R) e (λ z. let q : ◌≡◌ {A = ℕ} 0 1 = cc in omega arith) in
        let L : ℕ = t.0 in
        let j = judged_bound k D (instances_in k L) R t.2 in
        let m = max_attained (response k) (instances_in k L) (some_instance k lawful L t.1) in
        record {
          L = L;
          length = busy_of L t.1;
          each = λ q h. (response k q, responds_of L q (at L q t.1 h), j.0 q h, omega (arith, j.1, max_at (response k) (instances_in k L) q h));
          one = (m.0, m.1, subst (Responds k m.0) (sym (j.1 ∙ m.2)) (responds_of L m.0 (at L m.0 t.1 m.1)));
        }

    pub bound_is : (R : ℕ) → HasBound k D R → verdict_of k D ≡ Ok R
    bound_is R b =
        let L : ℕ = b.L in
        let f : busy_length k ≡ Some L = busy_is L b.length in
        let each : (q : ℕ) → q < instances_in k L → (response k q ≤ D) × (response k q ≤ R) =
        λ q h. let t = b.each q h in let e = responds_is L q t.0 (at L q f h) t.1 in (omega (arith, e, t.2), omega (arith, e, t.3)) in
        let o = b.one in
        let e : R ≡ response k o.0 = responds_is L o.0 R (at L o.0 f o.1) o.2 in
        let m : max_to (response k) (instances_in k L) ≡ R =
        omega (arith, e, max_at (response k) (instances_in k L) o.0 o.1, max_under (response k) (instances_in k L) R (λ q h. (each q h).1)) in
        verdict_found k D L f ∙ judged_in_time k D (instances_in k L) (λ q h. (each q h).0) ∙ ap Ok m

    pub late_of : (q : ℕ) → verdict_of k D ≡ Err (Late q) → IsLate k D q
    late_of q e =
        let t = verdict_length k D (Err (Late q)) e (λ z. let u : ◌≡◌ {A = ℕ} 0 1 = cc in omega arith) in
        let L : ℕ = t.0 in
        let j = judged_late k D (instances_in k L) q t.2 in
        record {
          L = L;
          length = busy_of L t.1;
          below = j.0;
          late = (response k q, responds_of L q (at L q t.1 j.0), j.1);
          before = λ p h. (response k p, responds_of L p (at L p t.1 (omega (arith, h, j.0))), j.2 p h);
        }

    pub late_is : (q : ℕ) → IsLate k D q → verdict_of k D ≡ Err (Late q)
    late_is q b =
        let L : ℕ = b.L in
        let f : busy_length k ≡ Some L = busy_is L b.length in
        let h : D < response k q = let t = b.late in let e = responds_is L q t.0 (at L q f b.below) t.1 in omega (arith, e, t.2) in
        let n : (p : ℕ) → p < q → response k p ≤ D =
        λ p l. let t = b.before p l in let e = responds_is L p t.0 (at L p f (omega (arith, l, b.below))) t.1 in omega (arith, e, t.2) in
        verdict_found k D L f ∙ judged_at k D (instances_in k L) q b.below h n

    pub busy_verdict : NoBusyLength k → verdict_of k D ≡ Err Busy
    busy_verdict n = verdict_busy k D (none_is n)

    pub verdict_none_of : verdict_of k D ≡ Err Busy → NoBusyLength k
    verdict_none_of e = none_of (verdict_none k D e)
