-- Where L exists, s and g exist for each instance q below L/T rounded up, and none of them passes L.
use Prim.Native.Nat.{ℕ, zero, suc, ◌+◌, ◌-◌, ◌*◌, ◌≤◌, ◌<◌}
use mathlib.Core.Path.{◌≡◌, sym, ap, ◌∙◌}
use native.Mathlib.Omega.{arith}
use native.Mathlib.Decide.{dec_le}
use native.Mathlib.Nat.{le-mul_of_pos_right, mul-le-mul_right, suc-mul, one-mul}
use Rattle.std.specs.Prelude.{Option}
use Rattle.std.specs.Prelude.{Some}
use Rattle.laws.specs.Rounding.{up}
use Rattle.laws.specs.RoundingLaws.{up_pos, up_below, up_le}
use Rattle.laws.specs.Least.{least}
use Rattle.laws.specs.LeastLaws.{Solves, least_at, least_exists, least_under}
use Rattle.analysis.specs.Equations.{Equations, whole_of, limit, number_of, busy_at, busy_length, instances_in, start_at, start, end_at, memory_end, finish, response}
use Rattle.analysis.proofs.Lawful.{Rising, Lawful, busy_mono, start_mono, end_mono}

-- What is known of instance q in a busy length L.
pub record Instance (k : Equations) (L q : ℕ) : Type 0 where
  pub starts : least (start_at k q) 0 limit ≡ Some (start k q)
  pub ends : least (end_at k q (start k q)) 0 limit ≡ Some (memory_end k q)
  pub released : q * k.period ≤ start k q
  pub start_by : start k q + whole_of k ≤ L
  pub memory_after : start k q + k.memory ≤ memory_end k q
  pub finish_by : finish k q ≤ L

found_number : (o : Option ℕ) (y : ℕ) → o ≡ Some y → o ≡ Some (number_of o)
found_number o y e = e ∙ ap Some (sym (ap number_of e))

some_share : (q t w : ℕ) → 0 < q * t → 1 ≤ w → 1 ≤ q * w
some_share zero t w h p = omega arith
some_share (suc k) t w h p = omega (arith, suc-mul k w)

-- An instance with a start ends its memory phase at least m after it.
module _ (k : Equations) (rising : Rising k) (q : ℕ) where
  pub end_after : (s g : ℕ) → least (start_at k q) 0 limit ≡ Some s → least (end_at k q s) 0 limit ≡ Some g → s + k.memory ≤ g
  unfolding start_at end_at
  end_after s g a b = go (dec_le (s + k.memory) g)
    where
      go : Dec (s + k.memory ≤ g) → s + k.memory ≤ g
      go (yes h) = h
      go (no f) =
          let e = (least_at (end_at k q s) limit 0 g b).equal in
          let z : ℕ = g - k.memory in
          let t : k.token z ≤ k.token g = rising.token_mono z g (omega arith) in
          let w : k.started z ≤ k.started s = rising.started_mono z s (omega arith) in
          omega (arith, least_under (start_at k q) limit (start_mono k rising q) 0 s z a (omega arith) (omega arith) (omega arith))

module _ (k : Equations) (lawful : Lawful k) where
  pub busy_at_1 : 1 ≤ busy_at k 1
  unfolding busy_at
  busy_at_1 =
      omega (arith, mul-le-mul_right (whole_of k) (up_pos 1 k.period lawful.some_period (omega arith)), one-mul (whole_of k), lawful.some_work)

  module _ (L : ℕ) (found : busy_length k ≡ Some L) where
    pub busy_solves : Solves (busy_at k) limit 1 L
    unfolding busy_length
    busy_solves = least_at (busy_at k) limit 1 L found

    pub instances_most : instances_in k L ≤ L
    instances_most = up_le L k.period L lawful.some_period (le-mul_of_pos_right L lawful.some_period)

    pub some_instance : 1 ≤ instances_in k L
    some_instance = up_pos L k.period lawful.some_period busy_solves.from

    module _ (q : ℕ) (below : q < instances_in k L) where
      above_started : (x : ℕ) → k.above x ≤ k.started x
      above_started x = omega (arith, lawful.rising.above_mono x (suc x) (omega arith), lawful.above_next x)

      -- the row's own share of L has room for instance q
      share : q * whole_of k + whole_of k ≤ up L k.period * whole_of k
      share = omega (arith, mul-le-mul_right (whole_of k) below, suc-mul q (whole_of k))

      above_last : k.above L ≡ k.started (L - 1)
      above_last =
          let e : suc (L - 1) ≡ L = omega (arith, busy_solves.from) in
          ap k.above (sym e) ∙ lawful.above_next (L - 1)

      start_room : start_at k q (L - 1) + whole_of k ≤ L
      unfolding start_at busy_at
      start_room =
          omega (arith, share, above_last, busy_solves.equal, lawful.rising.token_mono (L - 1) L (omega arith))

      start_exists : (s : ℕ) × (least (start_at k q) 0 limit ≡ Some s) × (s + whole_of k ≤ L)
      start_exists =
          let F : ℕ → ℕ = start_at k q in
          let m = start_mono k lawful.rising q in
          let r : F (L - 1) + whole_of k ≤ L = start_room in
          let p : F (F (L - 1)) ≤ F (L - 1) = m (F (L - 1)) (L - 1) (omega (arith, lawful.some_work)) in
          let t = least_exists F limit m 0 (F (L - 1)) (omega arith) p (omega arith) (omega (arith, busy_solves.within)) in
          (t.0, t.1, omega (arith, t.2))

      end_room : (s x : ℕ) → s + whole_of k ≤ L → x ≤ L → end_at k q s x + k.computation ≤ L
      unfolding end_at busy_at
      end_room s x hs hx =
          let b = busy_solves in
          let m : k.started s ≤ k.started (L - 1) = lawful.rising.started_mono s (L - 1) (omega (arith, lawful.some_work)) in
          let t : k.token x ≤ k.token L = lawful.rising.token_mono x L hx in
          omega (arith, share, above_last, b.equal)

      end_exists : (s : ℕ) → s + whole_of k ≤ L → (g : ℕ) × (least (end_at k q s) 0 limit ≡ Some g) × (g + k.computation ≤ L)
      end_exists s hs =
          let x : ℕ = L - k.computation in
          let r : end_at k q s x + k.computation ≤ L = end_room s x hs (omega arith) in
          let t = least_exists (end_at k q s) limit (end_mono k lawful.rising q s) 0 x (omega arith) (omega arith) (omega arith) (omega (arith, busy_solves.within)) in
          (t.0, t.1, omega (arith, t.2))

      starts_at_1 : (s : ℕ) → least (start_at k q) 0 limit ≡ Some s → s < q * k.period → 1 ≤ s
      unfolding start_at
      starts_at_1 s e h =
          omega (arith, (least_at (start_at k q) limit 0 s e).equal, some_share q k.period (whole_of k) (omega arith) lawful.some_work)

      early_busy : (s : ℕ) → least (start_at k q) 0 limit ≡ Some s → s ≤ q * k.period → busy_at k s ≤ s
      unfolding start_at busy_at
      early_busy s e h =
          omega (arith, (least_at (start_at k q) limit 0 s e).equal, above_started s, mul-le-mul_right (whole_of k) (up_le s k.period q lawful.some_period h))

      -- an instance does not start before its release
      start_after : (s : ℕ) → least (start_at k q) 0 limit ≡ Some s → q * k.period ≤ s
      unfolding busy_length
      start_after s e = go (dec_le (q * k.period) s)
        where
          go : Dec (q * k.period ≤ s) → q * k.period ≤ s
          go (yes h) = h
          go (no f) =
              let p : 1 ≤ s = starts_at_1 s e (omega arith) in
              let b : L ≤ s = least_under (busy_at k) limit (busy_mono k lawful.rising) 1 L s found busy_at_1 (early_busy s e (omega arith)) p in
              omega (arith, up_below L k.period q lawful.some_period below)

      start_found : least (start_at k q) 0 limit ≡ Some (start k q)
      unfolding start
      start_found = let t = start_exists in found_number (least (start_at k q) 0 limit) t.0 t.1

      start_by : start k q + whole_of k ≤ L
      unfolding start
      start_by = let t = start_exists in omega (arith, ap number_of t.1, t.2)

      end_found : least (end_at k q (start k q)) 0 limit ≡ Some (memory_end k q)
      unfolding memory_end
      end_found =
          let t = end_exists (start k q) start_by in
          found_number (least (end_at k q (start k q)) 0 limit) t.0 t.1

      finish_by : finish k q ≤ L
      unfolding memory_end
      finish_by = let t = end_exists (start k q) start_by in omega (arith, ap number_of t.1, t.2)

      pub instance_exists : Instance k L q
      instance_exists =
          record {
            starts = start_found;
            ends = end_found;
            released = start_after (start k q) start_found;
            start_by = start_by;
            memory_after = end_after k lawful.rising q (start k q) (memory_end k q) start_found end_found;
            finish_by = finish_by;
          }

-- A response is at least the row's length.
pub response_least : (k : Equations) (L q : ℕ) → Instance k L q → whole_of k ≤ response k q
unfolding response
response_least k L q i = omega (arith, i.memory_after, i.released)

pub response_by : (k : Equations) (L q : ℕ) → Instance k L q → response k q + q * k.period ≡ finish k q
unfolding response
response_by k L q i = omega (arith, i.memory_after, i.released)
