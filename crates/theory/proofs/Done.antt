-- The work and the memory ticks that a row has ever done are read off a snapshot: what all its releases brought, less what is left.
use Prim.Native.Nat.{ℕ, zero, suc, ◌+◌, ◌-◌, ◌*◌, ◌≤◌, ◌<◌}
use mathlib.Core.Path.{◌≡◌, ap, subst, sym}
use native.Mathlib.Nat.{mul-le-mul_left}
use native.Mathlib.Omega.{arith}
use native.Mathlib.Decide.{ℕ_discrete}
use Rattle.theory.specs.System.{System, work}
use Rattle.theory.specs.Snapshot.{Snapshot}
use Rattle.theory.specs.Steps.{Releases, Takes, Moves, rests, works, stands, Runs}
use Rattle.theory.proofs.Orderly.{OrderlyRow, Orderly}

unfoldable pub done : (each releases left : ℕ) → ℕ
done each releases left = each * releases - left

abbrev pub work_done : System → Snapshot → ℕ → ℕ
work_done sys s j = done (work sys j) (s.released j) (s.work_left j)

abbrev pub memory_done : System → Snapshot → ℕ → ℕ
memory_done sys s j = done (sys.memory j) (s.released j) (s.memory_left j)

pub done_and_left : (each releases left : ℕ) → left ≤ each → (1 ≤ left → 1 ≤ releases) → done each releases left + left ≡ each * releases
unfolding done
done_and_left each releases zero h g = omega arith
done_and_left each releases (suc left) h g = omega (arith, mul-le-mul_left each (g (omega arith)))

-- A row that has no memory phase does no memory ticks.
pub memory_never : (sys : System) (s : Snapshot) (j : ℕ) → sys.memory j ≡ 0 → memory_done sys s j ≡ 0
unfolding done
memory_never sys s j e = omega (arith, ap (λ z. z * s.released j) e)

-- Without a release, what is done grows by as much as what is left falls.
pub record Traded (sys : System) (s t : Snapshot) (j : ℕ) : Type 0 where
  pub work : work_done sys t j + t.work_left j ≡ work_done sys s j + s.work_left j
  pub memory : memory_done sys t j + t.memory_left j ≡ memory_done sys s j + s.memory_left j

-- A release, and the taking of rows, do no work.
pub record NothingDone (sys : System) (s t : Snapshot) (j : ℕ) : Type 0 where
  pub work : work_done sys t j ≡ work_done sys s j
  pub memory : memory_done sys t j ≡ memory_done sys s j

-- A run undoes nothing, does at most one memory tick of a row, and adds nothing to what is left.
pub record Ran (sys : System) (s t : Snapshot) (j : ℕ) : Type 0 where
  pub work : work_done sys s j ≤ work_done sys t j
  pub memory : memory_done sys s j ≤ memory_done sys t j
  pub memory_one : memory_done sys t j ≤ memory_done sys s j + 1
  pub left : t.work_left j ≤ s.work_left j
  pub in_hand : work_done sys t j + t.in_hand j ≤ work_done sys s j + s.in_hand j

module _ (sys : System) where
  -- Between two snapshots with k releases of row j: done and left grow by what the releases bring.
  pub work_since : (u s : Snapshot) (j k : ℕ) → OrderlyRow sys u j → OrderlyRow sys s j → s.released j ≡ u.released j + k
      → work_done sys s j + s.work_left j ≡ work_done sys u j + u.work_left j + work sys j * k
  work_since u s j k a b e =
      omega (
        arith,
        done_and_left (work sys j) (u.released j) (u.work_left j) a.work_most a.ever,
        done_and_left (work sys j) (s.released j) (s.work_left j) b.work_most b.ever,
        ap (λ z. work sys j * z) e,
      )

  pub memory_since : (u s : Snapshot) (j k : ℕ) → OrderlyRow sys u j → OrderlyRow sys s j → s.released j ≡ u.released j + k
      → memory_done sys s j + s.memory_left j ≡ memory_done sys u j + u.memory_left j + sys.memory j * k
  memory_since u s j k a b e =
      omega (
        arith,
        done_and_left (sys.memory j) (u.released j) (u.memory_left j) a.memory_most (λ l. a.ever (omega arith)),
        done_and_left (sys.memory j) (s.released j) (s.memory_left j) b.memory_most (λ l. b.ever (omega arith)),
        ap (λ z. sys.memory j * z) e,
      )

  pub traded : {s t : Snapshot} (j : ℕ) → OrderlyRow sys s j → OrderlyRow sys t j → t.released j ≡ s.released j → Traded sys s t j
  traded {s} {t} j a b e =
      record {
        work = omega (arith, work_since s t j 0 a b (omega arith));
        memory = omega (arith, memory_since s t j 0 a b (omega arith));
      }

  pub release_does_nothing : {s t : Snapshot} (j : ℕ) → Releases sys j s t → Orderly sys s → Orderly sys t
      → (k : ℕ) → k < sys.rows → NothingDone sys s t k
  release_does_nothing {s} {t} j r a b k p = go (ℕ_discrete k j)
    where
      this : j < sys.rows → NothingDone sys s t j
      this q =
          let o = a.row j q in
          record {
            work = omega (arith, work_since s t j 1 o (b.row j q) r.released);
            memory = omega (arith, memory_since s t j 1 o (b.row j q) r.released);
          }

      go : Dec (k ≡ j) → NothingDone sys s t k
      go (yes e) = subst (NothingDone sys s t) (sym e) (this r.below)
      go (no d) =
          let c = r.others k p d in
          let f = traded k (a.row k p) (b.row k p) c.released in
          record { work = omega arith; memory = omega arith }

  pub taking_does_nothing : {s t : Snapshot} → Takes sys s t → Orderly sys s → Orderly sys t
      → (k : ℕ) → k < sys.rows → NothingDone sys s t k
  taking_does_nothing x a b k p =
      let c = x.row k p in
      let f = traded k (a.row k p) (b.row k p) c.released in
      record { work = omega arith; memory = omega arith }

  pub ran : {s t : Snapshot} → Runs sys s t → Orderly sys s → Orderly sys t → (k : ℕ) → k < sys.rows → Ran sys s t k
  ran {s} {t} x a b k p = go (traded k (a.row k p) (b.row k p) (x.row k p).released) (x.row k p).moves
    where
      go : Traded sys s t k → Moves sys s t k → Ran sys s t k
      go f (rests m) = record { work = omega arith; memory = omega arith; memory_one = omega arith; left = omega arith; in_hand = omega arith }
      go f (stands m) = record { work = omega arith; memory = omega arith; memory_one = omega arith; left = omega arith; in_hand = omega arith }
      go f (works m) =
          let h = (a.row k p).in_hand m.before in
          record { work = omega arith; memory = omega arith; memory_one = omega arith; left = omega arith; in_hand = omega arith }
