-- What has happened to one row since an earlier snapshot: how often it was released, and how its releases are spaced.
use Prim.Native.Nat.{ℕ, zero, suc, ◌+◌, ◌*◌, ◌/◌, ◌≤◌, ◌<◌}
use mathlib.Core.Path.{◌≡◌, refl, ap, ◌∙◌}
use native.Mathlib.Nat.{le_refl, le_of_eq, add-zero, mul-le-mul_right}
use native.Mathlib.Omega.{arith}
use Rattle.laws.specs.Rounding.{up}
use Rattle.laws.specs.RoundingLaws.{le_div, le_up}
use Rattle.theory.specs.System.{System, work}
use Rattle.theory.specs.Snapshot.{Snapshot}
use Rattle.theory.specs.Steps.{Releases}
use Rattle.theory.proofs.Orderly.{OrderlyRow}
use Rattle.theory.proofs.Done.{memory_done, work_done, work_since}

-- Row j was released k times from u to s.
abbrev pub Released : (u s : Snapshot) (j k : ℕ) → Type 0
Released u s j k = s.released j ≡ u.released j + k

-- From u to s, which x ticks lie between.
pub record Since (sys : System) (u s : Snapshot) (x j : ℕ) : Type 0 where
  pub releases : ℕ
  pub count : Released u s j releases
  pub none : releases ≡ 0 → (s.last j ≡ u.last j) × (s.work_left j ≤ u.work_left j) × (memory_done sys s j ≤ memory_done sys u j + x)
  -- the first release is not before u, and each later one a period after the one before it
  pub spaced : 1 ≤ releases → u.clock + releases * sys.period j ≤ s.last j + sys.period j
  -- the first is a period after the last before u
  pub spaced_from : 1 ≤ releases → 1 ≤ u.released j → u.last j + releases * sys.period j ≤ s.last j

module _ (sys : System) where
  pub since_itself : (u : Snapshot) (j : ℕ) → Since sys u u 0 j
  since_itself u j =
      record {
        releases = 0;
        count = omega arith;
        none = λ h. (refl, le_refl _, omega arith);
        spaced = λ h. omega arith;
        spaced_from = λ h g. omega arith;
      }

module _ (sys : System) (u s : Snapshot) (x j : ℕ) (h : Since sys u s x j) where
  -- On over a step of d ticks that does not release the row, and does at most d memory ticks of it.
  pub since_on : (t : Snapshot) (d : ℕ) → t.released j ≡ s.released j → t.last j ≡ s.last j → t.work_left j ≤ s.work_left j
      → memory_done sys t j ≤ memory_done sys s j + d → Since sys u t (x + d) j
  since_on t d released last left memory =
      record {
        releases = h.releases;
        count = omega arith;
        none = λ z. (last ∙ (h.none z).0, omega (arith, (h.none z).1), omega (arith, (h.none z).2));
        spaced = λ z. omega (arith, h.spaced z);
        spaced_from = λ z e. omega (arith, h.spaced_from z e);
      }

  -- On over a step of no ticks that does nothing.
  pub since_still : (t : Snapshot) → t.released j ≡ s.released j → t.last j ≡ s.last j → t.work_left j ≡ s.work_left j
      → memory_done sys t j ≡ memory_done sys s j → Since sys u t x j
  since_still t released last left memory = rw add-zero at (since_on t 0 released last (le_of_eq left) (omega arith))

  -- On over a release of the row.
  pub since_release : (t : Snapshot) → u.clock ≤ s.clock → Releases sys j s t → Since sys u t x j
  since_release t c r =
      record {
        releases = suc h.releases;
        count = omega arith;
        none = λ z. absurd (omega arith);
        spaced = λ z. spaced h.releases refl;
        spaced_from = λ z e. spaced_from e h.releases refl;
      }
    where
      spaced : (k : ℕ) → h.releases ≡ k → u.clock + suc h.releases * sys.period j ≤ t.last j + sys.period j
      spaced zero e = rw e (omega arith)
      spaced (suc k) e = omega (arith, h.spaced (omega arith), r.not_early (omega arith))

      spaced_from : 1 ≤ u.released j → (k : ℕ) → h.releases ≡ k → u.last j + suc h.releases * sys.period j ≤ t.last j
      spaced_from ever zero e = rw e (omega (arith, (h.none e).0, r.not_early (omega arith)))
      spaced_from ever (suc k) e = omega (arith, h.spaced_from (omega arith) ever, r.not_early (omega arith))

  -- In x ticks there are at most x / T + 1 releases,
  pub releases_up_to : 1 ≤ sys.period j → s.clock ≡ u.clock + x → OrderlyRow sys s j → h.releases ≤ x / sys.period j + 1
  releases_up_to some clock o = go h.releases refl
    where
      go : (k : ℕ) → h.releases ≡ k → h.releases ≤ x / sys.period j + 1
      go zero e = omega arith
      go (suc k) e =
          let fits : k * sys.period j ≤ x = omega (arith, ap (λ z. z * sys.period j) e, h.spaced (omega arith), o.past (omega arith)) in
          omega (arith, le_div k x (sys.period j) some fits)

  -- and at most x / T rounded up where none is at the very end.
  pub releases_before : 1 ≤ sys.period j → s.clock ≡ u.clock + x → (1 ≤ s.released j → s.last j < s.clock) → h.releases ≤ up x (sys.period j)
  releases_before some clock earlier = le_up h.releases x (sys.period j) some (go h.releases refl)
    where
      go : (k : ℕ) → h.releases ≡ k → h.releases * sys.period j < x + sys.period j
      go zero e = omega (arith, ap (λ z. z * sys.period j) e)
      go (suc k) e = omega (arith, h.spaced (omega arith), earlier (omega arith))

  -- A row without a job at u: what it has done since and what it has left is what its releases brought.
  pub work_brought : (most : ℕ) → OrderlyRow sys u j → OrderlyRow sys s j → u.work_left j ≡ 0 → h.releases ≤ most
      → work_done sys s j + s.work_left j ≤ work_done sys u j + most * work sys j
  work_brought most a b none l = omega (arith, work_since sys u s j h.releases a b h.count, mul-le-mul_right (work sys j) l)
