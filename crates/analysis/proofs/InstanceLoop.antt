-- From one instance to the next.
use Prim.Native.Nat.{ℕ, ◌+◌, ◌-◌, ◌*◌, ◌≤◌, ◌<◌, max}
use mathlib.Core.Path.{◌≡◌, sym, ap, ◌∙◌}
use native.Mathlib.Omega.{arith}
use native.Mathlib.Numerals.{add-one}
use native.Mathlib.Nat.{suc-mul}
use borrow.Author.Tests.{lt-ltb, le-ltb}
use Rattle.std.specs.Prelude.{Some}
use Rattle.laws.specs.Sums.{max_to}
use Rattle.laws.specs.SumLaws.{max_none, max_more}
use Rattle.laws.specs.Search.{first, first_from}
use Rattle.laws.specs.SearchLaws.{first_hit, first_skip, first_end}
use Rattle.laws.specs.Least.{least}
use Rattle.laws.specs.LeastLaws.{least_at, least_under}
use Rattle.std.specs.Prelude.{Ok, Err}
use Rattle.analysis.specs.declared.Fault.TheVariants.{Late}
use Rattle.analysis.specs.Equations.{Equations, whole_of, limit, busy_length, instances_in, start_at, start, end_at, memory_end, finish, response, is_late, judged}
use Rattle.analysis.specs.Parts.{Turn}
use Rattle.analysis.proofs.Lawful.{Lawful, start_mono, end_mono}
use Rattle.analysis.proofs.InstancesExist.{Instance, instance_exists}

-- The next instance starts at the finish of the one before or later, so that its search may begin there.
module _ (k : Equations) (lawful : Lawful k) (L q : ℕ) (this : Instance k L q) where
  next_starts : (s : ℕ) → least (start_at k (q + 1)) 0 limit ≡ Some s → finish k q ≤ s
  unfolding start_at end_at
  next_starts s e =
      let m = lawful.rising in
      let a : s ≡ start_at k (q + 1) s = (least_at (start_at k (q + 1)) limit 0 s e).equal in
      let n : (q + 1) * whole_of k ≡ q * whole_of k + whole_of k = rw add-one (suc-mul q (whole_of k)) in
      let l : start k q ≤ s = least_under (start_at k q) limit (start_mono k m q) 0 (start k q) s this.starts (omega arith) (omega arith) (omega arith) in
      let z : ℕ = s - k.computation in
      let p : end_at k q (start k q) z ≤ z = omega (arith, m.token_mono z s (omega arith), m.started_mono (start k q) s l) in
      omega (arith, least_under (end_at k q (start k q)) limit (end_mono k m q (start k q)) 0 (memory_end k q) z this.ends (omega arith) p (omega arith))

  next_rises : finish k q ≤ start_at k (q + 1) (finish k q)
  unfolding start_at end_at
  next_rises =
      let m = lawful.rising in
      let a : memory_end k q ≡ end_at k q (start k q) (memory_end k q) = (least_at (end_at k q (start k q)) limit 0 (memory_end k q) this.ends).equal in
      let n : (q + 1) * whole_of k ≡ q * whole_of k + whole_of k = rw add-one (suc-mul q (whole_of k)) in
      omega (arith, m.token_mono (memory_end k q) (finish k q) (omega arith), m.started_mono (start k q) (finish k q) (omega (arith, this.memory_after)))

-- Where the row asks for no memory, the memory phase ends where it starts.
pub no_memory : (k : Equations) (lawful : Lawful k) (L q : ℕ) → Instance k L q → k.memory ≡ 0 → start k q ≡ memory_end k q
unfolding start_at end_at
no_memory k lawful L q this h =
    let a : start k q ≡ start_at k q (start k q) = (least_at (start_at k q) limit 0 (start k q) this.starts).equal in
    omega (arith, this.memory_after, least_under (end_at k q (start k q)) limit (end_mono k lawful.rising q (start k q)) 0 (memory_end k q) (start k q) this.ends (omega arith) (omega arith) (omega arith))

-- q instances are done, none of them late: `best` is their largest response, and the next start is looked for from `from`.
pub record Done (k : Equations) (D L best from q : ℕ) : Type 0 where
  pub within : q ≤ instances_in k L
  pub search : first (instances_in k L) (is_late k D) ≡ first_from (is_late k D) q (instances_in k L - q)
  pub largest : best ≡ max_to (response k) q
  pub under : q < instances_in k L → from ≤ start k q
  pub rises : q < instances_in k L → from ≤ start_at k q from

module _ (k : Equations) (lawful : Lawful k) (D L : ℕ) (found : busy_length k ≡ Some L) where
  pub done_first : Done k D L 0 0 0
  done_first =
      let e : instances_in k L ≡ instances_in k L - 0 = omega arith in
      record {
        within = omega arith;
        search = ap (first_from (is_late k D) 0) e;
        largest = sym (max_none (response k));
        under = λ h. omega arith;
        rises = λ h. omega arith;
      }

  module _ (best from q : ℕ) (done : Done k D L best from q) where
    pub done_last : instances_in k L ≤ q → judged k D (instances_in k L) ≡ Ok best
    unfolding judged
    done_last h =
        let e : q ≡ instances_in k L = omega (arith, done.within) in
        let s : first (instances_in k L) (is_late k D) ≡ instances_in k L = done.search ∙ first_end (is_late k D) q (instances_in k L) h ∙ e in
        rw (s, le-ltb (instances_in k L) (instances_in k L) (omega arith)) (ap Ok (sym (done.largest ∙ ap (max_to (response k)) e)))

    module _ (below : q < instances_in k L) where
      pub done_turn : Turn k q from
      done_turn = record { length = L; found = found; below = below; under = done.under below; rises = done.rises below }

      pub done_known : Instance k L q
      done_known = instance_exists k lawful L found q below

      pub done_late : D < response k q → judged k D (instances_in k L) ≡ Err (Late q)
      unfolding judged
      done_late h =
          let s : first (instances_in k L) (is_late k D) ≡ q = done.search ∙ first_hit (is_late k D) q (instances_in k L) below (lt-ltb D (response k q) h) in
          rw (s, lt-ltb q (instances_in k L) below)

      pub done_next : (best' : ℕ) → best' ≡ max best (response k q) → response k q ≤ D → Done k D L best' (finish k q) (q + 1)
      done_next best' e h =
          record {
            within = omega arith;
            search = done.search ∙ first_skip (is_late k D) q (instances_in k L) below (le-ltb D (response k q) h);
            largest = e ∙ ap (λ (b : ℕ). max b (response k q)) done.largest ∙ sym (max_more (response k) q);
            under = λ b. next_starts k lawful L q done_known (start k (q + 1)) (instance_exists k lawful L found (q + 1) b).starts;
            rises = λ b. next_rises k lawful L q done_known;
          }
